-- How much of a history stays scanned after an edit.
use Rattle.std.proofs.Common.{◌≡◌, ◌≤◌, ℕ, min, Option, None, Some, arith}
use Rattle.std.proofs.lemmas.Option.{none-some}
use Rattle.std.proofs.Common.{sym}
use Rattle.lin_session.specs.Sessions.{AreTakenIn}
use Rattle.lin_session.specs.Leaving.{least, rounded}

-- an edit leaves something to do
pub some_left : (low : Option ℕ) (n : ℕ) → least low (Some n) ≡ None → ⊥
some_left None n e = none-some n (sym e)
some_left (Some m) n e = none-some (min m n) (sym e)

-- where what is behind a place is taken back
pub AreTakenIn-edit : (low : Option ℕ) (from at taken left count after : ℕ) → from ≤ at → at ≤ count → left ≡ min at taken → AreTakenIn low taken count → AreTakenIn (least low (Some from)) left after
AreTakenIn-edit None from at taken left count after before inside is all = omega (arith, is, all)
AreTakenIn-edit (Some first) from at taken left count after before inside is some = omega (arith, is, some)

-- where more is taken in
pub AreTakenIn-more : (low : Option ℕ) (taken more count : ℕ) → taken ≤ more → more ≤ count → AreTakenIn low taken count → AreTakenIn low more count
AreTakenIn-more None taken more count less within all = omega (arith, all)
AreTakenIn-more (Some first) taken more count less within some = omega (arith, some)

pub rounded_below : (n : ℕ) → rounded n ≤ n
rounded_below n = omega arith

-- where nothing is taken back
pub AreTakenIn-lower : (low : Option ℕ) (from taken count : ℕ) → from ≤ count → AreTakenIn low taken count → AreTakenIn (least low (Some from)) taken count
AreTakenIn-lower None from taken count inside all = omega (arith, inside, all)
AreTakenIn-lower (Some first) from taken count inside some = omega (arith, some)

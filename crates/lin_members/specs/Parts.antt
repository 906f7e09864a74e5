-- Members taken apart by what tells them apart: words of private contracts.
use Rattle.std.specs.Prelude.{◌≡◌, ◌⊎◌, ◌/◌, ◌^◌, ℕ, Bool, true, false, nat_eq, List, Contains}
use Rattle.std.specs.List.{fold}
use Rattle.std.specs.Hash as fed
use Rattle.std.specs.Int.Bits.{bit_and}
use Rattle.std.specs.Hash.FoldHasher.{initial, write, finish}
use Rattle.lin_events.specs.declared.calls.Reply.{Reply}
use Rattle.lin_frontier.specs.declared.pending.Open.{Open}
use Rattle.lin_frontier.specs.Masks.{bits_beside}
use Rattle.lin_members.specs.Members.{Member}

-- the hash of what the state feeds, and of these bits
abbrev pub key_of : {S : Type 0} → (S → List (List ℕ)) → List Open → S × List (ℕ × Reply) → ℕ
key_of input pending c = finish (fold write (fold write initial (input c.0)) (fed.u64 (bits_beside pending c.1)))

-- it has the bit
abbrev pub shows : {S P : Type 0} → (S → List (List ℕ)) → List Open → ℕ → Member S × P → Bool
shows input pending bit m = nat_eq (bit_and (key_of input pending (m.0.state, m.0.placed) / 2 ^ bit) 1) 1

-- the members that pass the test, and the others
pub record IsParted {S P : Type 0} (test : Member S × P → Bool) (members ones zeros : List (Member S × P)) : Type 0 where
  pub each : (m : Member S × P) → Contains members m → Contains ones m ⊎ Contains zeros m
  pub ones_from : (m : Member S × P) → Contains ones m → Contains members m × (test m ≡ true)
  pub zeros_from : (m : Member S × P) → Contains zeros m → Contains members m × (test m ≡ false)

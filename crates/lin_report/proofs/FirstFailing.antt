-- The object that fails first is one that was found to be a no.
use Rattle.std.proofs.Common.{◌≡◌, ◌∷◌, [], Bool, true, false, List, Option, Some, None, subst, sym}
use Rattle.std.specs.Prelude.{⊤, All, nat_lt, if◌then◌else◌}
use Rattle.std.specs.List.{fold}
use Rattle.std.proofs.lemmas.List.Elements.{All-head, All-tail}
use Rattle.lin_events.specs.declared.items.Item.{Item}
use Rattle.lin_answers.specs.Answers.{IsVerdict}
use Rattle.lin_answers.specs.Edits.{Present}
use Rattle.lin_answers.specs.declared.answers.Scope.TheVariants.{Object}
use Rattle.lin_answers.specs.declared.answers.Verdict.{Verdict}
use Rattle.lin_answers.specs.declared.answers.Verdict.TheVariants.{IllFormed, Yes, No, Undecided}
use Rattle.lin_report.specs.Failing.{first_failing, sooner, with_one}
use Rattle.lin_report.specs.declared.failing.Failing.{Failing}
use Rattle.lin_report.specs.declared.findings.Finding.{Finding}

abbrev IsRight : Present → Finding → Type 0
IsRight now f = IsVerdict now (Object f.key) f.verdict

-- if there is one, it is a no
abbrev IsNo : Present → Option Failing → Type 0
IsNo now None = ⊤
IsNo now (Some f) = IsVerdict now (Object f.key) (No f.prefix)

sooner_no : (now : Present) (one : Option Failing) (other : Failing) → IsNo now one → IsNo now (Some other) → IsNo now (sooner one other)
sooner_no now None other is more = more
sooner_no now (Some one) other is more = by (nat_lt other.prefix one.prefix)
  where
    by : (b : Bool) → IsNo now (if b then Some other else Some one)
    by true = more
    by false = is

with_one_no : (now : Present) (first : Option Failing) (key : Item) (verdict : Verdict) → IsNo now first → IsVerdict now (Object key) verdict → IsNo now (with_one first key verdict)
with_one_no now first key (IllFormed at cause) is right = is
with_one_no now first key Yes is right = is
with_one_no now first key (No n) is right = sooner_no now first (record { key = key; prefix = n }) is right
with_one_no now first key (Undecided at) is right = is

all_no : (now : Present) (first : Option Failing) (found : List Finding) → IsNo now first → All (IsRight now) found → IsNo now (fold (λ first f. with_one first f.key f.verdict) first found)
all_no now first [] is right = is
all_no now first (f ∷ found) is right =
    all_no now (with_one first f.key f.verdict) found (with_one_no now first f.key f.verdict is (All-head (IsRight now) f found right)) (All-tail (IsRight now) f found right)

pub failing_is_no : (now : Present) (found : List Finding) (f : Failing) → All (IsRight now) found → Some f ≡ first_failing found → IsVerdict now (Object f.key) (No f.prefix)
failing_is_no now found f right is = subst (IsNo now) (sym is) (all_no now None found tt right)

-- Of objects of which it is known how they end, the one that fails first.
use Rattle.std.specs.Prelude.{nat_lt, List, Option, None, Some, if◌then◌else◌, option_map}
use Rattle.std.specs.List.{fold}
use Rattle.lin_events.specs.declared.items.Item.{Item}
use Rattle.lin_answers.specs.declared.answers.Verdict.{Verdict}
use Rattle.lin_answers.specs.declared.answers.Verdict.TheVariants.{IllFormed, Yes, No, Undecided}
use Rattle.lin_report.specs.declared.failing.Failing.{Failing}
use Rattle.lin_report.specs.declared.findings.Finding.{Finding}

-- of two that fail the one with the shorter failing prefix; were these equal, which can't be, the first
abbrev pub sooner : Option Failing → Failing → Option Failing
sooner None other = Some other
sooner (Some one) other = if nat_lt other.prefix one.prefix then Some other else Some one

-- with one more object, of which this is found
abbrev pub with_one : Option Failing → Item → Verdict → Option Failing
with_one first key (IllFormed at cause) = first
with_one first key Yes = first
with_one first key (No n) = sooner first (record { key = key; prefix = n })
with_one first key (Undecided at) = first

-- of objects of which this is found, the no with the shortest failing prefix, if one is a no
abbrev pub first_failing : List Finding → Option Failing
first_failing found = fold (λ first f. with_one first f.key f.verdict) None found

-- beside what is found of the whole: where that is undecided
abbrev pub failing_beside : Verdict → List Finding → Option Failing
failing_beside (Undecided at) found = first_failing found
failing_beside (IllFormed at cause) found = None
failing_beside Yes found = None
failing_beside (No n) found = None

abbrev pub failing_key : Verdict → List Finding → Option Item
failing_key whole found = option_map (λ f. f.key) (failing_beside whole found)

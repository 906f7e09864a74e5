-- What is read of a map in a line.
use Rattle.std.proofs.Common.{◌≡◌, ◌-◌, ◌⊎◌, ℕ, Bool, true, false, List, length, take, drop, Result, Ok, Err, Option, inl, inr, sym, subst, arith}
use Rattle.std.proofs.lemmas.List.{length-drop, take_all}
use Rattle.lin_edn.specs.Grammar.{Spells}
use Rattle.lin_edn.specs.Value.{Value}
use Rattle.lin_history.specs.Reading.{Reading}
use Rattle.lin_history.specs.Table.{event}
use Rattle.lin_report.specs.declared.commands.Command.{Command}
use Rattle.lin_report.specs.declared.commands.CommandFault.{CommandFault}
use Rattle.lin_report.specs.declared.commands.CommandFault.TheVariants.{NotOneMap, OutOfMemory}
use Rattle.lin_report.specs.declared.senses.Target.{Target}
use Rattle.lin_report.specs.Commands.{command_of, IsMapCommand, followed, one_map}
use Rattle.lin_report.specs.MapCommands.{IsBlankOrNot, IsMade}

-- what stands behind a place
pub rest_is : (s : List ℕ) (n : ℕ) → take (length s - n) (drop n s) ≡ drop n s
rest_is s n = take_all (length s - n) (drop n s) (omega (arith, length-drop n s))

-- what is read of a line, want of memory aside
abbrev pub IsReadSo : Reading → Target → ℕ → List ℕ → Result (Option Command) CommandFault → Type 0
IsReadSo m t at text answer = IsMapCommand m t at text answer ⊎ (answer ≡ Err OutOfMemory)

-- a map that stands alone
pub read_alone : (m : Reading) (t : Target) (at : ℕ) (text : List ℕ) (v : Value) (p used : ℕ) (blank : Bool) (answer : Result (Option Command) CommandFault)
    → Spells text v p used → IsBlankOrNot (drop used text) (Ok blank) → blank ≡ true → IsMade (command_of t (event m v)) answer
    → IsReadSo m t at text answer
read_alone m t at text v p used blank answer spelled rest is (inl made) =
    let behind : IsBlankOrNot (drop used text) (Ok true) = subst (λ b. IsBlankOrNot (drop used text) (Ok b)) is rest in
    inl (subst (IsMapCommand m t at text) (sym made) (one_map v p used behind.0 spelled behind.1))
read_alone m t at text v p used blank answer spelled rest is (inr none) = inr none

-- a map that something follows
pub read_followed : (m : Reading) (t : Target) (at : ℕ) (text : List ℕ) (v : Value) (p used : ℕ) (blank : Bool)
    → Spells text v p used → IsBlankOrNot (drop used text) (Ok blank) → blank ≡ false
    → IsReadSo m t at text (Err NotOneMap)
read_followed m t at text v p used blank spelled rest is =
    inl (followed v p used spelled (subst (λ b. IsBlankOrNot (drop used text) (Ok b)) is rest))

-- From the verdict for one object, or for the whole, to the verdict, and from there to the answer.
use Rattle.std.proofs.Common.{ℕ}
use Rattle.std.specs.Global.{Vec}
use Rattle.lin_events.specs.declared.items.Item.{Item}
use Rattle.lin_events.specs.WellFormed.{IsWellFormed}
use Rattle.lin_objects.specs.Kinds.{functions_of}
use Rattle.lin_order.specs.declared.placed.Placed.{Placed}
use Rattle.lin_answers.specs.declared.answers.Answer.TheVariants as answer
use Rattle.lin_answers.specs.declared.answers.Verdict.{Verdict}
use Rattle.lin_answers.specs.declared.answers.Verdict.TheVariants.{IllFormed, Yes, No, Undecided}
use Rattle.lin_answers.specs.declared.answers.Scope.{Scope}
use Rattle.lin_answers.specs.declared.answers.Scope.TheVariants.{Object, Whole}
use Rattle.lin_answers.specs.Answers.{kinds_in, IsAnswer, IsObjectVerdict, IsWholeVerdict, IsVerdict}
use Rattle.lin_answers.specs.Edits.{Present}
use Rattle.lin_session.specs.inner.Judgements.{IsOrderFor}

pub IsVerdict-object : (now : Present) (key : Item) (verdict : Verdict) → IsWellFormed (functions_of (kinds_in now)) now.history → IsObjectVerdict (kinds_in now) now.budget now.history key verdict
    → IsVerdict now (Object key) verdict
IsVerdict-object now key (IllFormed at cause) fine is = absurd is
IsVerdict-object now key Yes fine is = (fine, is)
IsVerdict-object now key (No n) fine is = (fine, is)
IsVerdict-object now key (Undecided at) fine is = (fine, is)

pub IsVerdict-whole : (now : Present) (verdict : Verdict) → IsWellFormed (functions_of (kinds_in now)) now.history → IsWholeVerdict (kinds_in now) now.budget now.history verdict → IsVerdict now Whole verdict
IsVerdict-whole now (IllFormed at cause) fine is = absurd is
IsVerdict-whole now Yes fine is = (fine, is)
IsVerdict-whole now (No n) fine is = (fine, is)
IsVerdict-whole now (Undecided at) fine is = (fine, is)

pub IsAnswer-yes : (now : Present) (scope : Scope) (order : Vec Placed) → IsWellFormed (functions_of (kinds_in now)) now.history → IsOrderFor (kinds_in now) now.history scope order.items
    → IsAnswer now scope (answer.Yes order)
IsAnswer-yes now (Object key) order fine is = (fine, is)
IsAnswer-yes now Whole order fine is = (fine, is)

pub IsAnswer-no : (now : Present) (scope : Scope) (n : ℕ) → IsVerdict now scope (No n) → IsAnswer now scope (answer.No n)
IsAnswer-no now (Object key) n is = is
IsAnswer-no now Whole n is = is

pub IsAnswer-undecided : (now : Present) (scope : Scope) (at : ℕ) → IsVerdict now scope (Undecided at) → IsAnswer now scope (answer.Undecided at)
IsAnswer-undecided now (Object key) at is = is
IsAnswer-undecided now Whole at is = is

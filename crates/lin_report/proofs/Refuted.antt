-- From what is found where an object is refuted to what is told of it.
use Rattle.std.proofs.Common.{◌≡◌, ◌≢◌, ◌≤◌, ◌-◌, ◌+◌, ◌∷◌, ◌++◌, [], ℕ, List, length, take, ap, ◌∙◌, add-one}
use Rattle.lin_events.specs.declared.events.Event.{Event}
use Rattle.lin_events.specs.declared.items.Item.{Item}
use Rattle.lin_events.specs.Operations.{IsEvent}
use Rattle.lin_events.specs.WellFormed.{IsWellFormed}
use Rattle.lin_events.specs.WellFormedLaws.{BeginningsAreWellFormed}
use Rattle.lin_objects.specs.Kinds.{functions_of}
use Rattle.lin_order.specs.Linearizable.{IsLinearizableFor}
use Rattle.lin_order.specs.Parts.{part}
use Rattle.lin_order.specs.PartLaws.{LinearizableByPart, PartsAreWellFormed, PartsGrow}
use Rattle.lin_order.specs.RefutationLaws.{RefutationsExcludeOrders}
use Rattle.lin_order.specs.Refutations.{Config}
use Rattle.lin_lists.specs.lemmas.Lists.{take_next}
use Rattle.lin_answers.specs.Answers.{kinds_in, IsVerdict}
use Rattle.lin_answers.specs.Edits.{Present}
use Rattle.lin_session.specs.Refuting.{Refutes}
use Rattle.lin_answers.specs.declared.answers.Scope.TheVariants.{Object}
use Rattle.lin_answers.specs.declared.answers.Verdict.TheVariants.{No}

-- one more event of a prefix is one more of the part, or none
pub part_more : PartsGrow → (key : Item) (h : List Event) (at : ℕ) (event : Event) → IsEvent h at event → event.key ≡ key → part key (take (at + 1) h) ≡ part key (take at h) ++ event ∷ []
part_more grow key h at event stands same =
    ap (λ n. part key (take n h)) (add-one at) ∙ ap (part key) (take_next at h event stands) ∙ (grow key (take at h) event).more same

pub part_same : PartsGrow → (key : Item) (h : List Event) (at : ℕ) (event : Event) → IsEvent h at event → event.key ≢ key → part key (take (at + 1) h) ≡ part key (take at h)
part_same grow key h at event stands other =
    ap (λ n. part key (take n h)) (add-one at) ∙ ap (part key) (take_next at h event stands) ∙ (grow key (take at h) event).same other

-- a prefix that is refuted, behind one that is linearizable, is the shortest that fails
pub refuted_no : RefutationsExcludeOrders → BeginningsAreWellFormed → PartsAreWellFormed → LinearizableByPart
    → (now : Present) (key : Item) (n : ℕ) (sets : List (List Config)) → IsWellFormed (functions_of (kinds_in now)) now.history → n ≤ length now.history
    → IsLinearizableFor (kinds_in now) key (take (n - 1) now.history) → Refutes now key n sets → IsVerdict now (Object key) (No n)
refuted_no exclude beginnings parts linear now key n sets fine within before refutes =
    let F = functions_of (kinds_in now) in
    let prefix = take n now.history in
    let fine_prefix = beginnings F now.history n fine in (
      fine,
      record {
        within = within;
        fails = λ lin. exclude F (part key prefix) (kinds_in now key) sets (parts F key prefix fine_prefix) refutes ((linear F (kinds_in now) key prefix fine_prefix).0 lin);
        before = before;
      },
    )

-- The failure that a no is about.
use Rattle.std.proofs.Common.{◌≡◌, ◌+◌, ◌-◌, List, take, sym, subst, arith}
use Rattle.lin_events.specs.declared.items.Item.{Item}
use Rattle.lin_events.specs.declared.events.Event.{Event}
use Rattle.lin_events.specs.WellFormedLaws.{BeginningsAreWellFormed}
use Rattle.lin_objects.specs.declared.kinds.Kind.{Kind}
use Rattle.lin_order.specs.Linearizable.{IsLinearizable, IsLinearizableFor}
use Rattle.lin_order.specs.Merging.{IsLocal}
use Rattle.lin_order.specs.PartLaws.{LinearizableByPart, PartsAreWellFormed, PartsGrow}
use Rattle.lin_order.specs.Parts.{part}
use Rattle.lin_answers.specs.Answers.{IsAnswer, kinds_in}
use Rattle.lin_answers.specs.declared.answers.Answer.TheVariants.{No}
use Rattle.lin_answers.specs.declared.answers.Scope.{Scope}
use Rattle.lin_answers.specs.declared.answers.Scope.TheVariants.{Object, Whole}
use Rattle.lin_explain.specs.inner.Laws.{FailuresEnd, IsFailure, NoesFail, NoesStayInside}
use Rattle.lin_explain.proofs.Answered.{prefix_within}
use Rattle.lin_explain.proofs.Failing.{object_fails, object_same, whole_fails}

module _ (begins : BeginningsAreWellFormed) (fine_parts : PartsAreWellFormed) (linear : LinearizableByPart) (grow : PartsGrow) (local : IsLocal) (kind : Kind) (end_so : FailuresEnd kind) where
  pub noes_fail : NoesFail kind
  noes_fail now scope n ending answer stands is_kind = subst (λ k. IsFailure kind (part ending.key (take k h)) ending) one
      (subst (λ k. IsFailure k (part ending.key (take ((n - 1) + 1) h)) ending) is_kind (by scope answer))
    where
      h : List Event
      h = now.history

      kinds : Item → Kind
      kinds = kinds_in now

      one : (n - 1) + 1 ≡ n
      one = let within = prefix_within now scope n answer in omega (arith, within.0)

      so : FailuresEnd (kinds ending.key)
      so = subst FailuresEnd (sym is_kind) end_so

      by : (scope : Scope) → IsAnswer now scope (No n) → IsFailure (kinds ending.key) (part ending.key (take ((n - 1) + 1) h)) ending
      by (Object key) is = object_fails begins fine_parts linear grow local kinds h is.0 (n - 1) ending stands so key is.1.before
          (λ lin. is.1.fails (subst (λ k. IsLinearizableFor kinds key (take k h)) one lin))
      by Whole is = whole_fails begins fine_parts linear grow local kinds h is.0 (n - 1) ending stands so is.1.before
          (λ lin. is.1.fails (subst (λ k. IsLinearizable kinds (take k h)) one lin))

-- The scope has the object of the event's key.
module _ (begins : BeginningsAreWellFormed) (fine_parts : PartsAreWellFormed) (linear : LinearizableByPart) (grow : PartsGrow) (local : IsLocal) where
  pub noes_stay_inside : NoesStayInside
  noes_stay_inside now Whole n ending answer stands = tt
  noes_stay_inside now (Object key) n ending answer stands = object_same begins fine_parts linear grow local (kinds_in now) now.history answer.0 (n - 1) ending stands key answer.1.before
      (λ lin. answer.1.fails (subst (λ k. IsLinearizableFor (kinds_in now) key (take k now.history)) one lin))
    where
      one : (n - 1) + 1 ≡ n
      one = let within = prefix_within now (Object key) n answer in omega (arith, within.0)

use Rattle.std.proofs.Common.{◌≡◌, ◌∙◌, Option, None, Some, IfSome, IsSome, List, refl, ap, sym, subst, take}
use Rattle.lin_events.specs.declared.events.Event.{Event}
use Rattle.lin_objects.specs.declared.kinds.Kind.{Kind}
use Rattle.lin_order.specs.Linearizable.{IsLegalOrderAs}
use Rattle.lin_chain.specs.Chains.{IsBeside, IsFound, kind_in, told_beside, told_by_found}
use Rattle.lin_chain.proofs.Chaining.{alive_by_frontier, alive_reached}
use Rattle.lin_chain.proofs.chain.Chain.order.Goals as goal

pub returns-in-Some : goal.returns-in-Some
returns-in-Some c = (
  sym c.told.ensures.is ∙ c.in-Some-Alive.is ∙ ap Some c.in-Some-Alive.field-0-is,
  λ h right. subst (λ found. IfSome found (λ order. (kind : Kind) (l : List Event) → IsFound kind l c.args.self.now.found → IsLegalOrderAs kind (take c.args.count l) order.items)) c.in-Some.is
      c.in_ok-order.ensures.legal (kind_in c.args.self.now) h right.found,
)

pub returns-in-Some-2 : goal.returns-in-Some-2
returns-in-Some-2 c = (
  sym c.told.ensures.is ∙ c.in-Some-Alive.is ∙ ap Some c.in-Some-Alive.field-0-is,
  λ h right. subst (λ found. IfSome found (λ order. (kind : Kind) (l : List Event) → IsBeside kind l c.args.self.now.beside → IsLegalOrderAs kind (take c.args.count l) order.items)) c.in-Some-2.is
      c.in_ok-order-2.ensures.legal (kind_in c.args.self.now) h right.beside,
)

pub returns-in_ok-order-in-None : goal.returns-in_ok-order-in-None
returns-in_ok-order-in-None c =
    let chain = c.args.self.now in
    let told = sym c.told.ensures.is ∙ c.in-Some-Alive.is ∙ ap Some c.in-Some-Alive.field-0-is in
    let by_frontier = alive_by_frontier (told_by_found chain.found c.args.count) (told_beside chain.beside c.args.count) _ told (λ is. none c.in_ok-order.field-0 c.in_default-2.not-Some (c.in_ok-order.ensures.told is))
    (λ is. none c.in_ok-order-2.field-0 (λ order some. cc (c.in-None.is, some)) (c.in_ok-order-2.ensures.told is)) in (
      told,
      λ h right. subst (λ n. IsLegalOrderAs (kind_in chain) (take n h) c.in_ok-order-in-None.field-0.items) (alive_reached (kind_in chain) chain.frontier.budget h _ _ c.args.count _ by_frontier right.frontier.standing) (c.in_ok-order-in-None.ensures h right.frontier),
    )
  where
    none : {A : Type 0} (found : Option A) → ((x : A) → found ≡ Some x → ⊥) → IsSome found → ⊥
    none None not is = absurd (cc is)
    none (Some x) not is = not x refl

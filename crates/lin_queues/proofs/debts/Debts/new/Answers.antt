use Rattle.std.proofs.Common.{◌≡◌, ◌∷◌, [], ℕ, Some, slice_get, length, refl, sym, ap, subst, arith, Contains, ◌++◌, ◌∙◌, inl, inr, List}
use Rattle.std.proofs.lemmas.List.{length-append}
use Rattle.std.proofs.lemmas.List.Elements.{Contains-push, Contains-push_cases}
use Rattle.std.proofs.lemmas.Option.{slice_get_within}
use Rattle.lin_queues.specs.declared.elements.Element.{Element}
use Rattle.lin_queues.specs.declared.members.QueueMember.{QueueMember}
use Rattle.lin_queues.specs.declared.opens.OpenCall.{OpenCall}
use Rattle.lin_queues.specs.Members.{AreEnqueues, Told, at_first, view_of}
use Rattle.lin_queues.specs.Reaching.{Reached, at_start}
use Rattle.lin_queues.specs.Gathering.{HaveReturned}
use Rattle.lin_queues.specs.Opens.{AreOpen}
use Rattle.lin_queues.proofs.Telling.{told_first}
use Rattle.lin_queues.proofs.debts.Debts.new.Goals as goal

no_element : (i : ℕ) (x : Element) → slice_get [] i ≡ Some x → ⊥
no_element i x at = (let l = slice_get_within [] i x at in omega arith)

no_open : (i : ℕ) (x : OpenCall) → slice_get [] i ≡ Some x → ⊥
no_open i x at = (let l = slice_get_within [] i x at in omega arith)

only : {x : QueueMember} (m : QueueMember) → Contains (x ∷ []) m → m ≡ x
only {x} m there = elim (Contains-push_cases [] x m there) [
  | inl none ↦ absurd (let l = none.1 in omega arith)
  | inr same ↦ sym same
]

pub returns : goal.returns
returns c = record {
  reached = refl;
  elements = record {
    chained = c.new-2.ensures.chained;
    enqueues = subst (AreEnqueues []) (sym c.new-2.ensures.none) (record { called = λ i x at. absurd (no_element i x at); once = λ i j x y at_i at_j same. absurd (no_element i x at_i) });
    returned = subst (HaveReturned []) (sym c.new-2.ensures.none) (λ i x at. absurd (no_element i x at));
  };
  opened = subst (AreOpen []) (sym c.new-3.ensures.items) (record {
    rising = λ j k o p before at_j at_k. absurd (no_open j o at_j);
    sound = λ k o at. absurd (no_open k o at);
    complete = λ place process key call is_open. absurd (let l = slice_get_within [] place _ is_open.begins in omega arith);
  });
  left = (let e = ap length c.in_ok-push.ensures.items in let f = length-append c.new-members.result.items (c.new.result ∷ []) in omega arith);
  made = λ m there. subst (λ (l : List Element). Reached [] l (view_of m)) (sym c.new-2.ensures.none)
      (subst (λ v. Reached [] [] v) (sym (ap view_of (only m (subst (λ l. Contains l m) (c.in_ok-push.ensures.items ∙ ap (λ l. l ++ c.new.result ∷ []) c.new-members.ensures.items) there)) ∙ c.new.ensures)) at_start);
  told = λ whole order is_whole. (
    c.new.result,
    subst (λ l. Contains l c.new.result) (sym c.in_ok-push.ensures.items) (Contains-push c.new-members.result.items c.new.result),
    subst (Told whole order 0 c.new-2.result.all.items) (sym c.new.ensures) (subst (λ l. Told whole order 0 l at_first) (sym c.new-2.ensures.none) (told_first whole order (c.debts_at_start.ensures.start whole order))),
  );
}

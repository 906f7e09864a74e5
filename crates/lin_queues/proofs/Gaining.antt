-- Members that are gathered one after the other, and what they are after one more event.
use Rattle.std.proofs.Common.{◌≡◌, ℕ, suc, false, List, [], ◌∷◌, length, map, Some, inl, inr, refl, sym, ap, ◌∙◌, subst, arith, slice_get, Contains, IsTrue}
use Rattle.std.proofs.lemmas.Bool.{false≢true}
use Rattle.lin_events.specs.declared.events.Event.{Event}
use Rattle.lin_queues.specs.declared.elements.Element.{Element}
use Rattle.lin_queues.specs.declared.gathered.Gathered.{Gathered}
use Rattle.lin_queues.specs.declared.members.QueueMember.{QueueMember}
use Rattle.lin_queues.specs.declared.opens.OpenCall.{OpenCall}
use Rattle.lin_queues.specs.Gains.{AreGathered, Gains}
use Rattle.lin_queues.specs.Members.{AreUnpaid, IsAtLeast, View, view_of}
use Rattle.lin_queues.specs.Opens.{AreDequeues, AreOpen}
use Rattle.lin_queues.specs.Reaching.{AreTooMany, IsPayable, Reached}
use Rattle.lin_queues.proofs.Lists.{contains_from_get, get_map}

pub gains_none : (g : Gathered) (P : View → Type 0) → Gains g g P
gains_none g P = record { each = λ m there. inl there; apart = λ apart. apart; full = λ was. was }

pub gains_then : (a b c : Gathered) (P : View → Type 0) → b.dequeues ≡ a.dequeues → Gains a b P → Gains b c P → Gains a c P
gains_then a b c P same first second = record {
  each = λ m there. elim (second.each m there) [
    | inl old ↦ first.each m old
    | inr new ↦ inr (new.0, λ unpaid. new.1 (subst (λ (d : List ℕ). AreUnpaid m.debts.items d) (ap (λ d. d.items) (sym same)) unpaid))
  ];
  apart = λ apart. second.apart (first.apart apart);
  full = λ was. second.full (first.full was);
}

pub gains_as : (a b : Gathered) (P Q : View → Type 0) → ((w : View) → P w → Q w) → Gains a b P → Gains a b Q
gains_as a b P Q more gains = record {
  each = λ m there. elim (gains.each m there) [
    | inl old ↦ inl old
    | inr new ↦ inr (more (view_of m) new.0, new.1)
  ];
  apart = gains.apart;
  full = gains.full;
}

pub gathered_none : (members : List QueueMember) (open' : List OpenCall) (next : Gathered) (R : View → View → Type 0) → next.members.items ≡ [] → next.is_full ≡ false
    → ((h : List Event) → AreOpen h open' → AreDequeues h next.dequeues.items) → AreGathered members open' next R
gathered_none members open' next R none not_full paying = record {
  each = λ n there. absurd (empty n (subst (λ l. Contains l n) none there));
  apart = λ i j m n at_i at_j differ least. nowhere i m (subst (λ l. slice_get l i ≡ Some m) none at_i);
  full = λ is. absurd (false≢true (sym not_full ∙ is));
  dequeues = paying;
}
  where
    empty : (m : QueueMember) → Contains [] m → ⊥
    empty m there = (let l = there.1 in omega arith)

    nowhere : (i : ℕ) (m : QueueMember) → slice_get [] i ≡ Some m → ⊥
    nowhere i m at = empty m (contains_from_get [] i m at)

pub gathered_more : (members : List QueueMember) (open' : List OpenCall) (b c : Gathered) (R : View → View → Type 0) (m : QueueMember) → Contains members m → c.dequeues ≡ b.dequeues
    → Gains b c (R (view_of m)) → AreGathered members open' b R → AreGathered members open' c R
gathered_more members open' b c R m is same gains gathered = record {
  each = λ n there. elim (gains.each n there) [
    | inl old ↦ (let was = gathered.each n old in (was.0, was.1, was.2, λ unpaid. was.3 (subst (λ (d : List ℕ). AreUnpaid n.debts.items d) (ap (λ d. d.items) same) unpaid)))
    | inr new ↦ (m, is, new.0, λ unpaid. new.1 (subst (λ (d : List ℕ). AreUnpaid n.debts.items d) (ap (λ d. d.items) same) unpaid))
  ];
  apart = gains.apart gathered.apart;
  full = gains.full gathered.full;
  dequeues = λ h open'. subst (λ (d : List ℕ). AreDequeues h d) (ap (λ d. d.items) (sym same)) (gathered.dequeues h open');
}

-- the events with one more come to each member that was gathered
pub made_next : (members : List QueueMember) (open' : List OpenCall) (next : Gathered) (R : View → View → Type 0) (h after : List Event) (all more : List Element) → AreGathered members open' next R → AreOpen after open'
    → ((m : QueueMember) → Contains members m → Reached h all (view_of m)) → ((v w : View) → Reached h all v → R v w → IsPayable after w → Reached after more w)
    → (n : QueueMember) → Contains next.members.items n → Reached after more (view_of n)
made_next members open' next R h after all more gathered opened made step n there =
    let from = gathered.each n there in
    step (view_of from.0) (view_of n) (made from.0 from.1) from.2 (next.dequeues.items, gathered.dequeues after opened, from.3)

pub too_many : (members : List QueueMember) (open' : List OpenCall) (next : Gathered) (R : View → View → Type 0) (after : List Event) (more : List Element) → AreGathered members open' next R → IsTrue next.is_full
    → ((n : QueueMember) → Contains next.members.items n → Reached after more (view_of n)) → AreTooMany after
too_many members open' next R after more gathered is_full made = record {
  all = more;
  views = map view_of next.members.items;
  many = (let e = length_views next.members.items in let l = gathered.full is_full in omega arith);
  reached = λ i v at. (let m = get_map view_of next.members.items i v at in subst (Reached after more) m.2 (made m.0 (contains_from_get next.members.items i m.0 m.1)));
  apart = λ i j v w at_i at_j differ least.
      let m = get_map view_of next.members.items i v at_i in
      let n = get_map view_of next.members.items j w at_j in
      gathered.apart i j m.0 n.0 m.1 n.1 differ (subst (λ x. IsAtLeast x (view_of n.0)) (sym m.2) (subst (IsAtLeast v) (sym n.2) least));
}
  where
    length_views : (xs : List QueueMember) → length (map view_of xs) ≡ length xs
    length_views [] = refl
    length_views (x ∷ xs) = ap suc (length_views xs)

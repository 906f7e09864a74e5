-- What lists of pending operations tell of domination, and members with only the offers that somebody waits for.
use Rattle.std.proofs.Common.{◌≡◌, ◌⊎◌, ◌&&◌, ℕ, Bool, true, false, not, nat_eq, List, All, Contains, inl, inr, refl, sym, subst, get_or}
use Rattle.std.proofs.lemmas.Bool.Decides.{Decides-eqb as Decides-nat_eq}
use Rattle.std.proofs.lemmas.List.Elements.{All-contains, Contains-get_or}
use Rattle.lin_events.specs.declared.items.Item.{Item}
use Rattle.lin_events.specs.declared.calls.Call.{Call}
use Rattle.lin_events.specs.declared.calls.Name.{Name}
use Rattle.lin_events.specs.declared.calls.Reply.{Reply}
use Rattle.lin_events.specs.declared.events.Event.{Event}
use Rattle.lin_events.specs.Alternation.{IsAlternating}
use Rattle.lin_events.specs.WellFormedLaws.{EndsAreUnique}
use Rattle.lin_order.specs.Configurations.{IsRising}
use Rattle.lin_members.specs.declared.members.Path.{Path}
use Rattle.lin_frontier.specs.declared.pending.Open.{Open}
use Rattle.lin_members.specs.Covers.{HasCrashed}
use Rattle.lin_frontier.specs.Frontiers.{IsPending}
use Rattle.lin_members.specs.Members.{Member, IsOnOffer, IsWatching, DominatesAt, Dominates}
use Rattle.lin_frontier.specs.Placing.{IsAbsent}
use Rattle.lin_members.specs.Searching.{is_observing, is_watching, copy_of, DominatesIn}
use Rattle.lin_frontier.specs.Masks.{is_crashed}
use Rattle.lin_members.specs.lemmas.Awaiting.{pending_crashed, crashed_pending, pending_watching, watching_pending}
use Rattle.lin_frontier.specs.lemmas.Inserting.{absent_from, none_from, kept_by}
use Rattle.lin_frontier.specs.lemmas.Truths.{and_both, and_left, and_right, any_true, left_out, not_true, true_any, true_not}

-- nobody waits for the reply of an operation that crashed
pub crashed_waits_not : (observes : Call → Bool) (pending : List Open) (o : Open) → Contains pending o → o.crashed ≡ true → is_watching observes pending o.process ≡ true → ⊥
crashed_waits_not observes pending o there crashed waits =
    true_not (is_crashed pending o.process) (and_right (is_observing observes pending o.process) (not (is_crashed pending o.process)) waits)
    (true_any (λ (k : Open). nat_eq k.process o.process && k.crashed) pending o there (and_both (nat_eq o.process o.process) o.crashed ((Decides-nat_eq o.process o.process).1 refl) crashed))

-- nobody waits where each operation that observes has crashed
pub none_waits : (observes : Call → Bool) (pending : List Open) → All (λ (o : Open). (observes o.call && not o.crashed) ≡ false) pending → (q : ℕ) → is_watching observes pending q ≡ true → ⊥
none_waits observes pending none q waits =
    let seen = and_left (is_observing observes pending q) (not (is_crashed pending q)) waits in
    let o = any_true (λ (o : Open). nat_eq o.process q && observes o.call) pending seen in
    crashed_waits_not observes pending o.0 o.1
    (left_out (observes o.0.call) o.0.crashed (and_right (nat_eq o.0.process q) (observes o.0.call) o.2) (All-contains (λ (k : Open). (observes k.call && not k.crashed) ≡ false) pending o.0 none o.1))
    (subst (λ p. is_watching observes pending p ≡ true) (sym ((Decides-nat_eq o.0.process q).0 (and_left (nat_eq o.0.process q) (observes o.0.call) o.2))) waits)

module _ (functions : Item → Name → Bool) (h : List Event) (pending : List Open) (opened : IsPending h pending) (unique : EndsAreUnique) (alternates : IsAlternating functions h) where
  pub crashed_to : (q : ℕ) → is_crashed pending q ≡ true → HasCrashed h q
  crashed_to q c =
      let o = any_true (λ (o : Open). nat_eq o.process q && o.crashed) pending c in
      let same = (Decides-nat_eq o.0.process q).0 (and_left (nat_eq o.0.process q) o.0.crashed o.2) in
      subst (HasCrashed h) same (pending_crashed h pending opened o.0 o.1 (and_right (nat_eq o.0.process q) o.0.crashed o.2))

  pub crashed_from : (q : ℕ) → HasCrashed h q → is_crashed pending q ≡ true
  crashed_from q c =
      let o = crashed_pending h pending opened unique q c in
      true_any (λ (o : Open). nat_eq o.process q && o.crashed) pending o.0 o.1 (and_both (nat_eq o.0.process q) o.0.crashed ((Decides-nat_eq o.0.process q).1 o.2) o.3)

  module _ (observes : Call → Bool) where
    pub watching_to : (q : ℕ) → is_watching observes pending q ≡ true → IsWatching observes h q
    watching_to q w =
        let seen = and_left (is_observing observes pending q) (not (is_crashed pending q)) w in
        let alive = and_right (is_observing observes pending q) (not (is_crashed pending q)) w in
        let o = any_true (λ (o : Open). nat_eq o.process q && observes o.call) pending seen in
        let same = (Decides-nat_eq o.0.process q).0 (and_left (nat_eq o.0.process q) (observes o.0.call) o.2) in
        subst (IsWatching observes h) same (pending_watching h pending opened unique functions alternates observes o.0 o.1 (and_right (nat_eq o.0.process q) (observes o.0.call) o.2)
        (λ crashed. true_not (is_crashed pending q) alive
        (true_any (λ (o : Open). nat_eq o.process q && o.crashed) pending o.0 o.1 (and_both (nat_eq o.0.process q) o.0.crashed ((Decides-nat_eq o.0.process q).1 same) crashed))))

    pub watching_from : (q : ℕ) → IsWatching observes h q → is_watching observes pending q ≡ true
    watching_from q w =
        let o = watching_pending h pending opened observes q w in
        and_both (is_observing observes pending q) (not (is_crashed pending q))
        (true_any (λ (o : Open). nat_eq o.process q && observes o.call) pending o.0 o.1 (and_both (nat_eq o.0.process q) (observes o.0.call) ((Decides-nat_eq o.0.process q).1 o.2) o.3))
        (not_true (is_crashed pending q) (λ crashed. w.alive (crashed_to q crashed)))

    module _ {S : Type 0} where
      pub dominates_to : (m : Member S) (state : S) (placed : List (ℕ × Reply)) (offers : List (ℕ × (ℕ × Reply))) → IsRising m.placed → DominatesIn observes pending m state placed offers
          → DominatesAt observes h m state placed (λ x. (k : ℕ) × Contains offers (k, x))
      dominates_to m state placed offers rising d = record {
        sorted = rising;
        same = d.same;
        part = λ x there. All-contains (λ (y : ℕ × Reply). Contains placed y) m.placed x d.part there;
        rest = λ x there. elim (All-contains (λ (y : ℕ × Reply). Contains m.placed y ⊎ (is_crashed pending y.0 ≡ true)) placed x d.rest there) [
          | inl has ↦ inl has
          | inr crashed ↦ inr (crashed_to x.0 crashed)
        ];
        offered = λ x watching absent o.
            All-contains (λ (y : ℕ × (ℕ × Reply)). is_watching observes pending y.1.0 ≡ true → IsAbsent y.1.0 m.placed → IsOnOffer m y.1) offers (o.0, x) d.offered o.1
            (watching_from x.0 watching) (absent_from x.0 m.placed absent);
      }

      pub dominates_from : (m n : Member S) → Dominates observes h m n → DominatesIn observes pending m n.state n.placed n.offers
      dominates_from m n d = record {
        same = d.same;
        part = λ i e inside. d.part (get_or m.placed i e) (Contains-get_or m.placed i e inside);
        rest = λ i e inside. elim (d.rest (get_or n.placed i e) (Contains-get_or n.placed i e inside)) [
          | inl has ↦ inl has
          | inr crashed ↦ inr (crashed_from (get_or n.placed i e).0 crashed)
        ];
        offered = λ i e inside watching absent.
            let x = get_or n.offers i e in
            d.offered x.1 (watching_to x.1.0 watching) (none_from x.1.0 m.placed absent) (x.0, Contains-get_or n.offers i e inside);
      }

      -- a member with the offers that somebody waits for dominates it
      pub copy_dominates : (m : Member S × Path) → IsRising m.0.placed → Dominates observes h (copy_of observes pending m).0 m.0
      copy_dominates m rising = record {
        sorted = rising;
        same = refl;
        part = λ x there. there;
        rest = λ x there. inl there;
        offered = λ x watching absent o. (o.0, kept_by (λ (y : ℕ × (ℕ × Reply)). is_watching observes pending y.1.0) m.0.offers (o.0, x) (watching_from x.0 watching) o.1);
      }

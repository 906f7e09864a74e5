-- Members of which crashed operations were put in the place of others: they are exchanged, and so is what dominates them.
use Rattle.std.proofs.Common.{◌≡◌, ℕ, Bool, true, List, map, Contains, IsTrue, ◌⊎◌, inl, inr, sym, ap, subst, ◌∙◌}
use Rattle.std.proofs.lemmas.List.Elements.{All-contains}
use Rattle.lin_events.specs.declared.items.Item.{Item}
use Rattle.lin_events.specs.declared.calls.Call.{Call}
use Rattle.lin_events.specs.declared.calls.Name.{Name}
use Rattle.lin_events.specs.declared.calls.Reply.{Reply}
use Rattle.lin_events.specs.declared.events.Event.{Event}
use Rattle.lin_events.specs.Alternation.{IsAlternating}
use Rattle.lin_events.specs.Operations.{IsOpen}
use Rattle.lin_events.specs.WellFormedLaws.{EndsAreUnique}
use Rattle.lin_order.specs.Configurations.{IsRising}
use Rattle.lin_frontier.specs.declared.pending.Open.{Open}
use Rattle.lin_members.specs.Exchanges.{AreAlike, Exchange}
use Rattle.lin_frontier.specs.Frontiers.{IsPending}
use Rattle.lin_members.specs.MemberLaws.{IsDominatedAt}
use Rattle.lin_members.specs.Members.{Member, IsOnOffer}
use Rattle.lin_frontier.specs.Placing.{IsAbsent}
use Rattle.lin_members.specs.Searching.{is_watching}
use Rattle.lin_frontier.specs.Masks.{is_crashed}
use Rattle.lin_members.specs.Settling.{renamed_pair, IsRenamed, same, more, DominatesAlike}
use Rattle.lin_members.specs.lemmas.Awaiting.{pending_crashed}
use Rattle.lin_members.specs.lemmas.Exchanging.{both, change, change_renames, crash_from, exchange_all, fixed_from, no_exchange, turned}
use Rattle.lin_frontier.specs.lemmas.Inserting.{absent_from, none_from}
use Rattle.lin_lists.specs.lemmas.Filters.{from_map, in_map}
use Rattle.lin_members.specs.lemmas.Pruned.{crashed_to, watching_from}

-- an exchange takes the one placed operations to the others, and back
record Exchanges (h : List Event) (placed others : List (ℕ × Reply)) : Type 0 where
  exchange : Exchange h
  to : (x : ℕ × Reply) → Contains placed x → Contains others (exchange.to x.0, x.1)
  from : (x : ℕ × Reply) → Contains others x → Contains placed (exchange.from x.0, x.1)

module _ (functions : Item → Name → Bool) (h : List Event) (pending : List Open) (opened : IsPending h pending) (unique : EndsAreUnique) (alternates : IsAlternating functions h) where
  alike : (o t : Open) → Contains pending o → Contains pending t → IsTrue o.crashed → IsTrue t.crashed → t.call ≡ o.call → AreAlike h o.process t.process
  alike o t o_there t_there o_crashed t_crashed call =
      let a = opened.sound o o_there in
      let b = opened.sound t t_there in
      record {
        at = o.at;
        other = t.at;
        key = a.0;
        other_key = b.0;
        call = o.call;
        first = a.1;
        second = subst (IsOpen h t.at t.process b.0) call b.1;
        crashed = pending_crashed h pending opened o o_there o_crashed;
        other_crashed = pending_crashed h pending opened t t_there t_crashed;
      }

  one_more : (placed now : List (ℕ × Reply)) (o t : Open) → Exchanges h placed now → AreAlike h o.process t.process → IsAbsent t.process now → Exchanges h placed (map (renamed_pair o.process t.process) now)
  one_more placed now o t r is absent = record {
    exchange = both functions alternates r.exchange f;
    to = λ x there.
        let y = r.to x there in
        subst (λ q. Contains (map make now) (q, x.1)) (change_renames h o.process t.process is (r.exchange.to x.0) (λ e. none_from t.process now absent x.1 (subst (λ q. Contains now (q, x.1)) e y)))
        (in_map make now (r.exchange.to x.0, x.1) y);
    from = λ z there.
        let y = from_map make now z there in
        let first = change_renames h o.process t.process is y.0.0 (λ e. none_from t.process now absent y.0.1 (subst (λ q. Contains now (q, y.0.1)) e y.1)) in
        let back : y.0.0 ≡ f.from z.0 = sym (f.there y.0.0) ∙ ap f.from (sym first ∙ ap (λ (x : ℕ × Reply). x.0) y.2) in
        subst (λ (x : ℕ × Reply). Contains placed (r.exchange.from x.0, x.1)) (λ i. (back i, ap (λ (x : ℕ × Reply). x.1) y.2 i)) (r.from y.0 y.1);
  }
    where
      make : ℕ × Reply → ℕ × Reply
      make = renamed_pair o.process t.process

      f : Exchange h
      f = change h o.process t.process is

  exchanges : (placed others : List (ℕ × Reply)) → IsRenamed pending placed others → Exchanges h placed others
  exchanges placed others same = record { exchange = no_exchange h; to = λ x there. there; from = λ x there. there }
  exchanges placed others (more {now} {o} {t} before o_there t_there o_crashed t_crashed call absent) = one_more placed now o t (exchanges placed now before) (alike o t o_there t_there o_crashed t_crashed call) absent

  module _ (observes : Call → Bool) {S : Type 0} (n m : Member S) (sorted : IsRising n.placed) (rising : IsRising m.placed) (d : DominatesAlike observes pending n m) where
    a : Exchanges h n.placed d.own.placed
    a = exchanges n.placed d.own.placed d.own_settled.placed

    b : Exchanges h m.placed d.other.placed
    b = exchanges m.placed d.other.placed d.other_settled.placed

    abbrev e : Exchange h
    e = both functions alternates b.exchange (turned a.exchange)

    -- of members so changed the one dominates the other, so it dominates what that places, exchanged
    pub alike_dominates : (others : List (Member S)) → Contains others n → IsDominatedAt observes h others m.state m.placed (IsOnOffer m)
    alike_dominates others there =
        let k = exchange_all e m.placed rising in
        record {
          exchange = e;
          others = k.0;
          exchanged = k.1;
          member = n;
          among = there;
          dominates = record {
            sorted = sorted;
            same = sym d.own_settled.state ∙ d.dominates.same ∙ d.other_settled.state;
            part = λ x is.
                let own = All-contains (λ (y : ℕ × Reply). Contains d.other.placed y) d.own.placed (a.exchange.to x.0, x.1) d.dominates.part (a.to x is) in
                subst (λ q. Contains k.0 (q, x.1)) (e.back x.0) (k.1.part (e.from x.0, x.1) (b.from (a.exchange.to x.0, x.1) own));
            rest = λ x is.
                let other = b.to (e.from x.0, x.1) (k.1.rest x is) in
                let here = subst (λ q. Contains d.other.placed (q, x.1)) (b.exchange.back (a.exchange.to x.0)) other in
                elim (All-contains (λ (y : ℕ × Reply). Contains d.own.placed y ⊎ (is_crashed pending y.0 ≡ true)) d.other.placed (a.exchange.to x.0, x.1) d.dominates.rest here) [
                  | inl has ↦ inl (subst (λ q. Contains n.placed (q, x.1)) (a.exchange.there x.0) (a.from (a.exchange.to x.0, x.1) has))
                  | inr crashed ↦ inr (crash_from a.exchange x.0 (crashed_to functions h pending opened unique alternates (a.exchange.to x.0) crashed))
                ];
            offered = λ x watching absent offer.
                let none = absent_from x.0 d.own.placed (λ other is. absent other (subst (λ q. Contains n.placed (q, other)) (fixed_from a.exchange x.0 watching.alive) (a.from (x.0, other) is))) in
                let had = subst (λ l. Contains l (offer.0, x)) (sym d.other_settled.offers) offer.1 in
                let has = All-contains (λ (y : ℕ × (ℕ × Reply)). is_watching observes pending y.1.0 ≡ true → IsAbsent y.1.0 d.own.placed → IsOnOffer d.own y.1) d.other.offers (offer.0, x) d.dominates.offered had
                (watching_from functions h pending opened unique alternates observes x.0 watching) none in
                (has.0, subst (λ l. Contains l (has.0, x)) d.own_settled.offers has.1);
          };
        }

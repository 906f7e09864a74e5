-- Queues have no legal order where more items were put in for certain than can have been taken out.
use Rattle.std.proofs.Common.{◌≡◌, ◌≢◌, ◌<◌, ℕ, List, [], ◌∷◌, ◌++◌, AllPairs, Contains, length, inl, inr, refl, sym, subst, ◌∙◌, arith}
use Rattle.std.proofs.lemmas.List.Elements.{Contains-append_left, Contains-append_right}
use Rattle.lin_events.specs.declared.items.Item.{Item}
use Rattle.lin_lists.specs.lemmas.Elements.{first_or_rest, nothing_in, pairs_left}
use Rattle.lin_events.specs.declared.calls.Call.{Call}
use Rattle.lin_events.specs.declared.calls.Call.TheVariants.{Add, Enqueue, Dequeue}
use Rattle.lin_events.specs.declared.calls.Reply.{Reply}
use Rattle.lin_events.specs.declared.calls.Reply.TheVariants as Replied
use Rattle.lin_events.specs.declared.calls.Val.TheVariants.{Nil}
use Rattle.lin_events.specs.declared.events.Event.{Event}
use Rattle.lin_objects.specs.declared.kinds.Kind.{Kind}
use Rattle.lin_objects.specs.declared.states.State.{State}
use Rattle.lin_objects.specs.Steps.{Step, start}
use Rattle.lin_order.specs.declared.placed.Placed.{Placed}
use Rattle.lin_order.specs.Linearizable.{IsLegalOrderAs, Runs}
use Rattle.lin_order.specs.Orders.{IsCall}
use Rattle.lin_order.specs.lemmas.OneEnd.{one_call}
use Rattle.lin_order.specs.lemmas.Running.{runs_split}
use Rattle.lin_certificates.specs.Adding.{Adds}
use Rattle.lin_certificates.specs.Numbers.{AtLeast, AtMost, OfOne}
use Rattle.lin_certificates.specs.QueueConflicts.{Takes}
use Rattle.lin_certificates.specs.lemmas.Conflicting.{parted}
use Rattle.lin_certificates.specs.lemmas.Counting.{Changes, Puts, TakesOut, chosen_least, chosen_most, counted}
use Rattle.lin_certificates.specs.lemmas.QueueConflicting.{takes_call}
use Rattle.lin_certificates.specs.lemmas.Standing.{At, at_here, at_left, at_within, left_at, not_failed, ok_there, one_place, place_of, reply_there, stands_ahead, stands_in}
use Rattle.lin_certificates.specs.Words.{Concerns, MayTakeAhead, Returned}
use Rattle.lin_certificates.specs.Certificates.{IsRemaining, IsSurplus, PutsBefore}
use Rattle.lin_certificates.proofs.Numbers.{at_least, at_most}

-- what the call puts in
abbrev pub added : Call → List Item
added (Enqueue x) = x ∷ []
added (Add x) = x ∷ []
added call = []

in_added : (call : Call) (n : Item) → Adds call n → Contains (added call) n
in_added (Enqueue x) n is = (0, omega arith, is)
in_added (Add x) n is = (0, omega arith, is)
in_added call n is = absurd is

module _ (kind : Kind) (h : List Event) where
  -- what the calls of an order put in
  abbrev pub all_added : (s t : State) (order : List Placed) → Runs (Step kind) h s order t → List Item
  all_added s t [] run = []
  all_added s t (q ∷ order) run = added run.0 ++ all_added run.1 t order run.4

  pub is_added : (s t : State) (order : List Placed) (run : Runs (Step kind) h s order t) (p : Placed) → Contains order p → (call : Call) → IsCall h p.at call → (n : Item) → Adds call n
      → Contains (all_added s t order run) n
  is_added s t [] run p there call is n adds = absurd (nothing_in p there)
  is_added s t (q ∷ order) run p there call is n adds = elim (first_or_rest q order p there) [
    | inl same ↦
        let here = one_call h q.at call run.0 (subst (λ (x : Placed). IsCall h x.at call) (sym same) is) run.2 in
        Contains-append_left (added run.0) (all_added run.1 t order run.4) n (in_added run.0 n (subst (λ c. Adds c n) here adds))
    | inr later ↦ Contains-append_right (added run.0) (all_added run.1 t order run.4) n (is_added run.1 t order run.4 p later call is n adds)
  ]

  module _ (order : List Placed) (legal : IsLegalOrderAs kind h order) where
    -- what takes something out ahead of the dequeue may do so
    pub takes_ahead : (d : Placed) (i : ℕ) → At order i d → (k : ℕ) (p : Placed) → At order k p → k < i → (call : Call) → IsCall h p.at call → (n : Item) → Takes call p.reply n → MayTakeAhead h d.at p.at
    takes_ahead d i at_d k p at_p less call is n takes = (
      (λ same. let equal = one_place kind h order legal k i p d at_p at_d same in omega (arith, equal, less)),
      (Dequeue, subst (IsCall h p.at) (takes_call call p.reply n takes) is, not_failed kind h order legal k p at_p, refl),
      (λ nothing.
          let reply = reply_there kind h order legal k p at_p nothing.1 nothing.2 nothing.4 ∙ nothing.5.1 in
          subst (λ r. Takes Dequeue r n) reply (subst (λ c. Takes c p.reply n) (takes_call call p.reply n takes) takes)),
      (λ before. let more = stands_ahead kind h order legal i k d p at_d at_p before in omega (arith, more, less)),
    )

module _ (kind : Kind) (inside : State → List Item → ℕ) (each_step : (s next : State) (call : Call) (reply : Reply) (ns : List Item) → Step kind s call next reply → Changes (inside s ns) (inside next ns) call reply ns)
    (begins : (ns : List Item) → inside (start kind) ns ≡ 0) (empty : (s next : State) (ns : List Item) → Step kind s Dequeue next (Replied.Value Nil) → inside s ns ≡ 0)
    (h : List Event) (order : List Placed) (legal : IsLegalOrderAs kind h order) where
  -- it found nothing
  abbrev FindsNothing : ℕ → Type 0
  FindsNothing at = Returned h (λ call reply. (call ≡ Dequeue) × (reply ≡ Replied.Value Nil)) at

  -- it put in one of the items before the dequeue
  abbrev PutsOneBefore : List Item → ℕ → ℕ → Type 0
  PutsOneBefore ns dequeue at = (before : PutsBefore h dequeue at) × OfOne ns (Adds before.0.0)

  -- ahead of a dequeue that found nothing no more of the items were put in than taken out
  left_over : (dequeue : ℕ) → FindsNothing dequeue → (ns : List Item)
      → (puts : ℕ) (P : ℕ → Type 0) → AtLeast puts P → ((at : ℕ) → P at → PutsOneBefore ns dequeue at)
      → (takes : ℕ) (Q : ℕ → Type 0) → AtMost takes Q → ((k : ℕ) (p : Placed) (call : Call) → At order k p → IsCall h p.at call → OfOne ns (Takes call p.reply) → MayTakeAhead h dequeue p.at → Q p.at)
      → takes < puts → ⊥
  left_over dequeue f ns puts P some each takes Q most all_take fewer =
      let d : Placed = record { at = dequeue; reply = f.2 } in
      let parts = parted order d (legal.order_of.each_ok dequeue f.1 f.2 tt f.4) in
      let run = runs_split (Step kind) h (start kind) legal.legal.0 parts.0 (d ∷ parts.1) (subst (λ l. Runs (Step kind) h (start kind) l legal.legal.0) parts.2 legal.legal.1) in
      let call : run.2.0 ≡ Dequeue = one_call h dequeue run.2.0 f.0 run.2.2 f.3 ∙ f.5.0 in
      let step = subst (λ r. Step kind run.0 Dequeue run.2.1 r) f.5.1 (subst (λ c. Step kind run.0 c run.2.1 f.2) call run.2.3) in
      let none_in = empty run.0 run.2.1 ns step in
      let once = pairs_left (λ (x y : Placed). x.at ≢ y.at) parts.0 (d ∷ parts.1) (subst (AllPairs (λ x y. x.at ≢ y.at)) parts.2 legal.order_of.once) in
      let all = counted kind inside each_step h (start kind) run.0 ns parts.0 once run.1 in
      let none = begins ns in
      let sum = all.4 in
      let there : At order (length parts.0) d = subst (λ l. At l (length parts.0) d) (sym parts.2) (at_here parts.0 d parts.1) in
      let many = chosen_least (Puts h ns) parts.0 all.0 all.2 P
      (λ at is.
      let put = each at is in
      let before = put.0.0 in
      let e : Placed = record { at = at; reply = before.2 } in
      let place = ok_there kind h order legal at before.1 before.2 before.4 in
      let less = stands_ahead kind h order legal place.0 (length parts.0) e d place.1 there put.0.1 in
      (e, stands_in parts.0 place.0 e (left_at parts.0 (d ∷ parts.1) place.0 e (subst (λ l. At l place.0 e) parts.2 place.1) less), (before.0, before.3, put.1), refl))
      puts some in
      let few = chosen_most (TakesOut h ns) parts.0 all.1 all.3 Q
      (λ p in_p out.
      let at_p = place_of parts.0 p in_p in
      let left = subst (λ l. At l at_p.0 p) (sym parts.2) (at_left parts.0 (d ∷ parts.1) at_p.0 p at_p.1) in
      all_take at_p.0 p out.0 left out.1 out.2 (takes_ahead kind h order legal d (length parts.0) there at_p.0 p left (at_within parts.0 at_p.0 p at_p.1) out.0 out.1 out.2.0 out.2.2))
      takes most in
      omega (arith, none, none_in, sum, few, many, fewer)

  -- so fewer were not taken out of all that were put in
  pub remaining_of : (dequeue : ℕ) → IsRemaining h dequeue → ⊥
  remaining_of dequeue is =
      left_over dequeue is.found (all_added kind h (start kind) legal.legal.0 order legal.legal.1)
      is.puts (PutsBefore h dequeue) (at_least (PutsBefore h dequeue) is.puts is.all_puts) (λ at put. (put, (put.0.5.0, one_of at put, put.0.5.1)))
      is.takes (MayTakeAhead h dequeue) (at_most (MayTakeAhead h dequeue) is.takes is.all_takes) (λ k p call there it takes may. may) is.fewer
    where
      one_of : (at : ℕ) → (put : PutsBefore h dequeue at) → Contains (all_added kind h (start kind) legal.legal.0 order legal.legal.1) put.0.5.0
      one_of at put =
          let e : Placed = record { at = at; reply = put.0.2 } in
          is_added kind h (start kind) legal.legal.0 order legal.legal.1 e (legal.order_of.each_ok at put.0.1 put.0.2 tt put.0.4) put.0.0 put.0.3 put.0.5.0 put.0.5.1

  -- nor of some
  pub surplus_of : (dequeue : ℕ) (ns : List Item) → IsSurplus h dequeue ns → ⊥
  surplus_of dequeue ns is =
      left_over dequeue is.found ns
      is.puts (λ at. PutsBefore h dequeue at × Concerns h ns at) (at_least (λ at. PutsBefore h dequeue at × Concerns h ns at) is.puts is.all_puts) (λ at put. (put.0, puts_one at put.0 put.1))
      is.takes (λ at. MayTakeAhead h dequeue at × Concerns h ns at) (at_most (λ at. MayTakeAhead h dequeue at × Concerns h ns at) is.takes is.all_takes)
      (λ k p call there it takes may. (may, takes_one k p call there it takes)) is.fewer
    where
      puts_one : (at : ℕ) (put : PutsBefore h dequeue at) → Concerns h ns at → OfOne ns (Adds put.0.0)
      puts_one at put of = elim of.2 [
        | inl adds ↦ subst (λ c. OfOne ns (Adds c)) (one_call h at of.0 put.0.0 of.1 put.0.3) adds
        | inr take ↦ absurd (subst (λ c. Adds c put.0.5.0) (one_call h at put.0.0 of.0 put.0.3 of.1 ∙ take.0) put.0.5.1)
      ]

      takes_one : (k : ℕ) (p : Placed) (call : Call) → At order k p → IsCall h p.at call → OfOne ns (Takes call p.reply) → Concerns h ns p.at
      takes_one k p call there it takes =
          let is_dequeue = takes_call call p.reply takes.0 takes.2 in (
            call,
            it,
            inr (
              is_dequeue,
              λ end reply ok. subst (λ r. OfOne ns (Takes Dequeue r)) (reply_there kind h order legal k p there end reply ok) (subst (λ c. OfOne ns (Takes c p.reply)) is_dequeue takes),
            ),
          )

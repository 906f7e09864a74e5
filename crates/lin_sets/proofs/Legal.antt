-- The order in which the operations of a set take effect, where none conflict, is a legal one.
use Rattle.std.proofs.Common.{◌≡◌, ◌≢◌, ◌≤◌, ℕ, List, [], ◌∷◌, ◌⊎◌, ◌↔◌, inl, inr, All, Contains, map, refl, sym, ap, subst, ◌∙◌, arith}
use Rattle.std.proofs.lemmas.Bool.{cases_lt}
use Rattle.lin_events.specs.declared.items.Item.{Item}
use Rattle.lin_events.specs.Items.{item_cmp}
use Rattle.lin_events.specs.declared.calls.Call.{Call}
use Rattle.lin_events.specs.declared.calls.Call.TheVariants.{Read, Add}
use Rattle.lin_events.specs.declared.calls.Reply.{Reply}
use Rattle.lin_events.specs.declared.calls.Reply.TheVariants as Replied
use Rattle.lin_events.specs.declared.events.Event.{Event}
use Rattle.lin_events.specs.Operations.{IsOk, IsFailed}
use Rattle.lin_events.specs.lemmas.Rising.{rising_with, same_sets, with_adds_none, with_has, with_keeps}
use Rattle.lin_lists.specs.Sets.{IsRising, with_member}
use Rattle.lin_lists.specs.lemmas.Elements.{all_of, first_or_rest, nothing_in}
use Rattle.lin_objects.specs.declared.kinds.Kind.TheVariants.{Set}
use Rattle.lin_objects.specs.declared.states.State.{State}
use Rattle.lin_objects.specs.declared.states.State.TheVariants.{Members}
use Rattle.lin_objects.specs.Steps.{Step, start}
use Rattle.lin_order.specs.declared.placed.Placed.{Placed}
use Rattle.lin_order.specs.Linearizable.{IsLinearizableAs, Runs}
use Rattle.lin_order.specs.Orders.{IsBefore, IsCall, IsOrder}
use Rattle.lin_order.specs.lemmas.OneEnd.{one_ok}
use Rattle.lin_sets.specs.Conflicts.{HasNoAddBy, IsAnswer, IsInConflict}
use Rattle.lin_sets.proofs.Ordered.{IsOrdered, from_map, here, into_order, later, mapped_pairs, to_map}
use Rattle.lin_sets.proofs.Chained.{has_or_not, no_more, within_or_not}
use Rattle.lin_sets.proofs.Timing.{Act, add_ahead, add_behind, add_by, not_early, point, rank, read_by}
use Rattle.lin_sets.proofs.Acts.{AreActs, Differ, IsAct, acts_of, among_reads, call_of, failed_or_not, first_add, no_read, not_both, read_among, reads_of, same_item}
use Rattle.lin_sets.proofs.Answering.{answer_or_not}

-- an act with its reply
abbrev placed : Act → Placed
placed (at, inl n) = record { at = at; reply = Replied.Done }
placed (at, inr s) = record { at = at; reply = Replied.Members s }

placed_at : (a : Act) → (placed a).at ≡ a.0
placed_at (at, inl n) = refl
placed_at (at, inr s) = refl

module _ (h : List Event) (calm : IsInConflict h → ⊥) (acts : List Act) (are : AreActs h acts) where
  -- the place of an item's first add
  call : Item → ℕ
  call n = elim (first_add acts n) [
    | inl found ↦ found.0
    | inr none ↦ 0
  ]

  -- an item was added by the place, or not
  added_or_not : (n : Item) (place : ℕ) → (Contains acts (call n, inl n) × (call n ≤ place)) ⊎ HasNoAddBy h n place
  unfolding call
  added_or_not n place = by (first_add acts n)
    where
      by : (found : ((at : ℕ) × Contains acts (at, inl n) × ((k : ℕ) → Contains acts (k, inl n) → at ≤ k)) ⊎ ((k : ℕ) → Contains acts (k, inl n) → ⊥))
          → (Contains acts (elim found [ inl f ↦ f.0 | inr none ↦ 0 ], inl n) × (elim found [ inl f ↦ f.0 | inr none ↦ 0 ] ≤ place)) ⊎ HasNoAddBy h n place
      by (inr none) = inr (λ at within is. elim (failed_or_not h at (Add n) is) [
        | inl failed ↦ failed
        | inr live ↦ absurd (none at (are.all (at, inl n) (is, live)))
      ])
      by (inl found) = elim (cases_lt place found.0) [
        | inr within ↦ inl (found.1, within)
        | inl past ↦ inr (λ at within is. elim (failed_or_not h at (Add n) is) [
          | inl failed ↦ failed
          | inr live ↦ let least = found.2 at (are.all (at, inl n) (is, live)) in absurd (omega (arith, least, within, past))
        ])
      ]

  reads : List (ℕ × List Item)
  reads = reads_of acts

  read_listed : (r : ℕ × List Item) → Contains acts (r.0, inr r.1) → Contains reads r
  unfolding reads
  read_listed r there = among_reads acts r there

  act_of : (r : ℕ × List Item) → Contains reads r → IsAct h (r.0, inr r.1)
  unfolding reads
  act_of r there = are.each (r.0, inr r.1) (read_among acts r there)

  answered : (at end : ℕ) (c : Call) (reply : Reply) → IsCall h at c → IsOk h at end reply → IsAnswer c reply
  answered at end c reply is ok = elim (answer_or_not c reply) [
    | inl answers ↦ answers
    | inr wrong ↦ absurd (calm (inl (at, end, c, reply, is, ok, wrong)))
  ]

  rising : (r : ℕ × List Item) → Contains reads r → IsRising item_cmp r.1
  rising r there = let act = act_of r there in answered r.0 act.1.0 Read (Replied.Members r.1) act.0 act.1.1

  chain : (q r : ℕ × List Item) (n m : Item) → Contains reads q → Contains reads r → Contains q.1 n → (Contains r.1 n → ⊥) → Contains r.1 m → (Contains q.1 m → ⊥) → ⊥
  chain q r n m q_there r_there n_in n_out m_in m_out =
      let one = act_of q q_there in
      let other = act_of r r_there in
      calm (inr (inr (inr (inr (
        q.0,
        r.0,
        n,
        m,
        (Read, Replied.Members q.1, one.0, one.1, n_in, m_out),
        (Read, Replied.Members r.1, other.0, other.1, m_in, n_out),
      )))))

  -- an ok act takes effect by the place where that is known
  done_by : (a : Act) (end : ℕ) (reply : Reply) → IsAct h a → IsOk h a.0 end reply → point reads call a ≤ end
  done_by (at, inl n) end reply act ok = add_by reads call at end n (let late = ok.1.later in omega (arith, late)) (λ r there out.
      let read = act_of r there in (
        elim (cases_lt end r.0) [
          | inr within ↦ within
          | inl past ↦ absurd (calm (inr (inr (inl (at, end, r.0, read.1.0, n, (Add n, reply, act.0, ok, refl), (Read, Replied.Members r.1, read.0, read.1.1, out), past)))))
        ],
        λ m inside. elim (added_or_not m end) [
          | inl added ↦ added.1
          | inr none ↦ absurd (calm (inr (inr (inr (inl (at, end, r.0, n, m, (Add n, reply, act.0, ok, refl), (Read, Replied.Members r.1, read.0, read.1, inside, out), none))))))
        ],
      ))
  done_by (at, inr s) end reply act ok =
      let same = one_ok h at end act.1.0 reply (Replied.Members s) ok act.1.1 in
      let mine : IsOk h at end (Replied.Members s) = subst (IsOk h at end) same.1 ok in
      read_by reads call at end s (let late = ok.1.later in omega (arith, late))
      (λ m inside. elim (added_or_not m end) [
        | inl added ↦ added.1
        | inr none ↦ absurd (calm (inr (inl (at, end, m, (Read, Replied.Members s, act.0, mine, inside), none))))
      ])
      (λ q there less. elim (cases_lt end q.0) [
        | inr within ↦ within
        | inl past ↦ elim (within_or_not s q.1) [
          | inl within ↦
              let more = no_more s q.1 (answered at end Read (Replied.Members s) act.0 mine) (rising q there) within in
              absurd (omega (arith, more, less))
          | inr found ↦
              let read = act_of q there in
              absurd (calm (inr (inr (inl (at, end, q.0, read.1.0, found.0, (Read, Replied.Members s, act.0, mine, found.1), (Read, Replied.Members q.1, read.0, read.1.1, found.2), past)))))
        ]
      ])

  -- the one takes effect before the other, or at the same point and is of no higher rank
  abbrev Ahead : Act → Act → Type 0
  Ahead a b = (point reads call a ≤ point reads call b) × (point reads call b ≤ point reads call a → rank reads call a ≤ rank reads call b) × Differ a b

  either : (a b : Act) → Differ a b → Ahead a b ⊎ Ahead b a
  either a b differ = elim (cases_lt (point reads call a) (point reads call b)) [
    | inl less ↦ inl (omega (arith, less), λ not_less. absurd (omega (arith, less, not_less)), differ)
    | inr from ↦ elim (cases_lt (point reads call b) (point reads call a)) [
      | inl less ↦ inr (from, λ not_less. absurd (omega (arith, less, not_less)), λ same. differ (sym same))
      | inr same ↦ elim (cases_lt (rank reads call a) (rank reads call b)) [
        | inl lower ↦ inl (same, λ within. omega (arith, lower), differ)
        | inr higher ↦ inr (from, λ within. higher, λ e. differ (sym e))
      ]
    ]
  ]

  onward : (a b c : Act) → Ahead a b → Ahead b c → Differ a c → Ahead a c
  onward a b c first second differ =
      let one = first.0 in
      let two = second.0 in (
        omega (arith, one, two),
        λ within.
            let low = first.1 (omega (arith, one, two, within)) in
            let high = second.1 (omega (arith, one, two, within)) in
            omega (arith, low, high),
        differ,
      )

  -- the set runs through acts in order, where it has no item that a read among them did not find, and each item that one found is
  -- in it or is added by a later act
  runs : (rest : List Act) (t : List Item) → IsOrdered Ahead rest → ((a : Act) → Contains rest a → Contains acts a) → IsRising item_cmp t
      → ((r : ℕ × List Item) (n : Item) → Contains rest (r.0, inr r.1) → Contains t n → Contains r.1 n)
      → ((r : ℕ × List Item) (n : Item) → Contains rest (r.0, inr r.1) → Contains r.1 n → Contains t n ⊎ Contains rest (call n, inl n))
      → (last : State) × Runs (Step Set) h (Members t) (map placed rest) last
  runs [] t ordered listed up only found = (Members t, refl)
  runs ((at, inl x) ∷ rest) t ordered listed up only found =
      let more = runs rest (with_member item_cmp x t) ordered.1 (λ a there. listed a (later (at, inl x) rest a there)) (rising_with x t up) only_then found_then in
      (more.0, (Add x, Members (with_member item_cmp x t), (are.each (at, inl x) (listed (at, inl x) (here (at, inl x) rest))).0, (refl, refl), more.1))
    where
      only_then : (r : ℕ × List Item) (n : Item) → Contains rest (r.0, inr r.1) → Contains (with_member item_cmp x t) n → Contains r.1 n
      only_then r n there inside = elim (with_adds_none x n t inside) [
        | inr before ↦ only r n (later (at, inl x) rest (r.0, inr r.1) there) before
        | inl same ↦ subst (Contains r.1) (sym same) (elim (has_or_not r.1 x) [
          | inl has ↦ has
          | inr out ↦
              let behind = add_behind reads call rising chain r x at (read_listed r (listed (r.0, inr r.1) (later (at, inl x) rest (r.0, inr r.1) there))) out in
              let ahead = ordered.0 (r.0, inr r.1) there in
              let lower = behind.1 in
              let order = ahead.1 behind.0 in
              absurd (omega (arith, lower, order))
        ])
      ]

      found_then : (r : ℕ × List Item) (n : Item) → Contains rest (r.0, inr r.1) → Contains r.1 n → Contains (with_member item_cmp x t) n ⊎ Contains rest (call n, inl n)
      found_then r n there inside = elim (found r n (later (at, inl x) rest (r.0, inr r.1) there) inside) [
        | inl before ↦ inl (with_keeps x n t before)
        | inr to_come ↦ elim (first_or_rest (at, inl x) rest (call n, inl n) to_come) [
          | inr rests ↦ inr rests
          | inl now ↦ inl (subst (Contains (with_member item_cmp x t)) (same_item at (call n) x n now) (with_has x t))
        ]
      ]
  runs ((at, inr s) ∷ rest) t ordered listed up only found =
      let more = runs rest t ordered.1 (λ a there. listed a (later (at, inr s) rest a there)) up
      (λ r n there. only r n (later (at, inr s) rest (r.0, inr r.1) there))
      (λ r n there inside. elim (found r n (later (at, inr s) rest (r.0, inr r.1) there) inside) [
        | inl before ↦ inl before
        | inr to_come ↦ elim (first_or_rest (at, inr s) rest (call n, inl n) to_come) [
          | inr rests ↦ inr rests
          | inl now ↦ absurd (no_read (call n) at n s (sym now))
        ]
      ]) in
      (more.0, (Read, Members t, (are.each (at, inr s) (listed (at, inr s) (here (at, inr s) rest))).0, (refl, ap Replied.Members (sym same)), more.1))
    where
      is_read : Contains reads (at, s)
      is_read = read_listed (at, s) (listed (at, inr s) (here (at, inr s) rest))

      same : t ≡ s
      same = same_sets t s up (rising (at, s) is_read) (λ n. (
        only (at, s) n (here (at, inr s) rest),
        λ inside. elim (found (at, s) n (here (at, inr s) rest) inside) [
          | inl before ↦ before
          | inr to_come ↦ elim (first_or_rest (at, inr s) rest (call n, inl n) to_come) [
            | inl now ↦ absurd (no_read (call n) at n s (sym now))
            | inr rests ↦
                let goes = add_ahead reads call rising chain (at, s) n is_read inside in
                let ahead = ordered.0 (call n, inl n) rests in
                let lower = goes.1 in
                let order = ahead.1 goes.0 in
                absurd (omega (arith, lower, order))
          ]
        ],
      ))

  sorted : (order : List Act) × IsOrdered Ahead order × ((a : Act) → Contains order a ↔ Contains acts a)
  sorted = into_order Ahead Differ either onward acts are.differ

  -- each ok operation is among them
  ok_among : (at end : ℕ) (reply : Reply) → IsOk h at end reply → (a : Act) × Contains acts a × (placed a ≡ record { at = at; reply = reply })
  ok_among at end reply ok = by ok.1.call reply (ok.1.process, ok.1.key, ok.1.begins) ok (answered at end ok.1.call reply (ok.1.process, ok.1.key, ok.1.begins) ok)
    where
      by : (c : Call) (reply : Reply) → IsCall h at c → IsOk h at end reply → IsAnswer c reply → (a : Act) × Contains acts a × (placed a ≡ record { at = at; reply = reply })
      by (Add n) reply is ok answers = ((at, inl n), are.all (at, inl n) (is, not_both h at end reply ok), λ i. record { at = at; reply = sym answers i })
      by Read (Replied.Members s) is ok answers = ((at, inr s), are.all (at, inr s) (is, (end, ok)), refl)
      by Read reply is ok answers = absurd answers
      by c reply is ok answers = absurd answers

  -- of two acts in order the second is not before the first in real time
  keeps_time : (a b : Act) → IsAct h a → IsAct h b → Ahead a b → IsBefore h b.0 a.0 → ⊥
  keeps_time a b is_a is_b ahead before =
      let done = done_by b before.0 before.1 is_b before.2 in
      let begun = not_early reads call a in
      let order = ahead.0 in
      let past = before.3 in
      omega (arith, done, begun, order, past)

  never_failed : (a : Act) → IsAct h a → IsFailed h a.0 → ⊥
  never_failed (at, inl n) act = act.1
  never_failed (at, inr s) act = not_both h at act.1.0 (Replied.Members s) act.1.1

  -- what holds of each act holds of what it is placed as
  each_placed : (P : Placed → Type 0) → ((a : Act) → IsAct h a → P (placed a)) → All P (map placed sorted.0)
  each_placed P each = all_of P (map placed sorted.0) (λ p there.
      let found = from_map placed sorted.0 p there in
      subst P (sym found.2) (each found.0 (are.each found.0 ((sorted.2 found.0).0 found.1))))

  is_act : (a : Act) → Contains sorted.0 a → IsAct h a
  is_act a there = are.each a ((sorted.2 a).0 there)

  is_order : IsOrder h (map placed sorted.0)
  is_order = record {
    operations = each_placed (λ p. (c : Call) × IsCall h p.at c × Unit {0}) (λ a act. let c = call_of h a act in (c.0, subst (λ k. IsCall h k c.0) (sym (placed_at a)) c.1, tt));
    once = mapped_pairs Ahead (λ p q. p.at ≢ q.at) placed sorted.0 sorted.1 (λ a b in_a in_b ahead same. ahead.2 (sym (placed_at a) ∙ same ∙ placed_at b));
    none_failed = each_placed (λ p. IsFailed h p.at → ⊥) (λ a act. subst (λ k. IsFailed h k → ⊥) (sym (placed_at a)) (never_failed a act));
    each_ok = λ at end reply scope ok.
        let among = ok_among at end reply ok in
        subst (Contains (map placed sorted.0)) among.2 (to_map placed sorted.0 among.0 ((sorted.2 among.0).1 among.1));
    real_time = mapped_pairs Ahead (λ p q. IsBefore h q.at p.at → ⊥) placed sorted.0 sorted.1 (λ a b in_a in_b ahead before.
        keeps_time a b (is_act a in_a) (is_act b in_b) ahead (subst (λ k. IsBefore h b.0 k) (placed_at a) (subst (λ k. IsBefore h k (placed a).at) (placed_at b) before)));
  }

  legal : (last : State) × Runs (Step Set) h (start Set) (map placed sorted.0) last
  legal = runs sorted.0 [] sorted.1 (λ a there. (sorted.2 a).0 there) tt (λ r n there none. absurd (nothing_in n none)) (λ r n there inside.
      let read = act_of r (read_listed r ((sorted.2 (r.0, inr r.1)).0 there)) in
      elim (added_or_not n read.1.0) [
        | inl added ↦ inr ((sorted.2 (call n, inl n)).1 added.0)
        | inr none ↦ absurd (calm (inr (inl (r.0, read.1.0, n, (Read, Replied.Members r.1, read.0, read.1.1, inside), none))))
      ])

pub others_are_linearizable_lem : (h : List Event) → (IsInConflict h → ⊥) → IsLinearizableAs Set h
others_are_linearizable_lem h calm =
    let found = acts_of h in
    let sorting = sorted h calm found.0 found.1 in
    (map placed sorting.0, record { order_of = is_order h calm found.0 found.1; legal = legal h calm found.0 found.1 })

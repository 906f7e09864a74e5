-- The adds and reads of a set, in the order of the points at which they take effect, are a legal order where none conflict.
use Rattle.std.proofs.Common.{◌≡◌, ◌≢◌, ◌<◌, ◌≤◌, ℕ, suc, List, [], ◌∷◌, ◌⊎◌, inl, inr, All, AllPairs, Contains, IsPermutation, length, get_or, map, Option, None, Some, slice_get, unwrap_or, refl, sym, ap, subst, ◌∙◌, arith}
use Rattle.std.proofs.lemmas.Bool.{cases_lt}
use Rattle.std.proofs.lemmas.List.Sorted.{Contains-permutation, IsPermutation-sym}
use Rattle.std.proofs.lemmas.Option.{get_or_from_slice_get, slice_get-get_or, slice_get_within}
use Rattle.lin_events.specs.declared.items.Item.{Item}
use Rattle.lin_events.specs.Items.{item_cmp}
use Rattle.lin_events.specs.declared.calls.Call.{Call}
use Rattle.lin_events.specs.declared.calls.Call.TheVariants.{Read, Add}
use Rattle.lin_events.specs.declared.calls.Reply.{Reply}
use Rattle.lin_events.specs.declared.calls.Reply.TheVariants as Replied
use Rattle.lin_events.specs.declared.events.Event.{Event}
use Rattle.lin_events.specs.Operations.{IsOk, IsFailed}
use Rattle.lin_events.specs.lemmas.Rising.{rising_with, same_sets, with_adds_none, with_has, with_keeps}
use Rattle.lin_lists.specs.Sets.{IsRising, with_member}
use Rattle.lin_lists.specs.lemmas.Elements.{all_of, first_or_rest, nothing_in}
use Rattle.lin_objects.specs.declared.kinds.Kind.TheVariants.{Set}
use Rattle.lin_objects.specs.declared.states.State.{State}
use Rattle.lin_objects.specs.declared.states.State.TheVariants.{Members}
use Rattle.lin_objects.specs.Steps.{Step, start}
use Rattle.lin_order.specs.declared.placed.Placed.{Placed}
use Rattle.lin_order.specs.Linearizable.{IsLegalOrderAs, Runs}
use Rattle.lin_order.specs.Orders.{IsBefore, IsCall, IsOrder}
use Rattle.lin_order.specs.lemmas.OneEnd.{one_call, one_ok}
use Rattle.lin_sets.specs.declared.points.Points.{Points}
use Rattle.lin_sets.specs.declared.effects.Effect.{Effect}
use Rattle.lin_sets.specs.Acts.{AreActs, IsAdd}
use Rattle.lin_sets.specs.Conflicts.{HasNoAddBy, IsAnswer, IsInConflict}
use Rattle.lin_sets.specs.Points.{AreApart, AreEffects, ArePoints, HasFound, IsAddEffect, IsAhead, IsLeast, IsNoLarger, IsReadEffect, IsReady, level_of, number_of}
use Rattle.lin_sets.proofs.Ordered.{IsOrdered, from_map, here, later, mapped_pairs, to_map}
use Rattle.lin_sets.proofs.Chained.{IsWithin, fewer, has_or_not, no_more, within_or_not}
use Rattle.lin_sets.proofs.Acts.{failed_or_not, not_both}
use Rattle.lin_sets.proofs.Answering.{answer_or_not}
use Rattle.lin_sets.proofs.Sorting.{ordered_of, pairs_permuted}

-- the same in another order
pub acts_permuted : (h : List Event) (adds : List (Option Item)) (given reads : List (ℕ × List Item)) → IsPermutation given reads → AreActs adds given h → AreActs adds reads h
acts_permuted h adds given reads moves are = record {
  add = are.add;
  read = λ at s. (
    λ there. (are.read at s).0 (Contains-permutation reads given (at, s) (IsPermutation-sym given reads moves) there),
    λ is. Contains-permutation given reads (at, s) moves ((are.read at s).1 is),
  );
  once = pairs_permuted (λ (q r : ℕ × List Item). q.0 ≢ r.0) (λ q r differ same. differ (sym same)) given reads moves are.once;
}

pub effects_permuted : (adds : List (Option Item)) (reads : List (ℕ × List Item)) (points : Points) (places count : ℕ) (made effects : List Effect) → IsPermutation made effects
    → AreEffects adds reads points places count made → AreEffects adds reads points places count effects
effects_permuted adds reads points places count made effects moves are = record {
  each = λ e there. are.each e (Contains-permutation effects made e (IsPermutation-sym made effects moves) there);
  adds_there = λ at n within add. let found = are.adds_there at n within add in (found.0, Contains-permutation made effects found.0 moves found.1, found.2, found.3);
  reads_there = λ i r within read. let found = are.reads_there i r within read in (found.0, Contains-permutation made effects found.0 moves found.1, found.2, found.3);
  once = λ apart. pairs_permuted (λ (d e : Effect). d.placed.at ≢ e.placed.at) (λ d e differ same. differ (sym same)) made effects moves (are.once apart);
}

one_add : (adds : List (Option Item)) (at : ℕ) (m n : Item) → IsAdd adds at m → IsAdd adds at n → m ≡ n
one_add adds at m n one other = let e : ◌≡◌ {A = Option (Option Item)} (Some (Some m)) (Some (Some n)) = sym one ∙ other in cc

one_place : (j k : ℕ) → ◌≡◌ {A = Option ℕ} (Some j) (Some k) → j ≡ k
one_place j k e = cc

same_found : (s t : List Item) → Replied.Members s ≡ Replied.Members t → s ≡ t
same_found s t e = cc

module _ (h : List Event) (calm : IsInConflict h → ⊥) (adds : List (Option Item)) (reads : List (ℕ × List Item)) (are : AreActs adds reads h) where
  listed : (i : ℕ) (r : ℕ × List Item) → slice_get reads i ≡ Some r → Contains reads r
  listed i r there = (i, slice_get_within reads i r there, get_or_from_slice_get reads i r r there)

  is_read : (i : ℕ) (r : ℕ × List Item) → slice_get reads i ≡ Some r → IsCall h r.0 Read × ((end : ℕ) × IsOk h r.0 end (Replied.Members r.1))
  is_read i r there = (are.read r.0 r.1).0 (listed i r there)

  answered : (at end : ℕ) (c : Call) (reply : Reply) → IsCall h at c → IsOk h at end reply → IsAnswer c reply
  answered at end c reply is ok = elim (answer_or_not c reply) [
    | inl answers ↦ answers
    | inr wrong ↦ absurd (calm (inl (at, end, c, reply, is, ok, wrong)))
  ]

  rising : (i : ℕ) (r : ℕ × List Item) → slice_get reads i ≡ Some r → IsRising item_cmp r.1
  rising i r there = let read = is_read i r there in answered r.0 read.1.0 Read (Replied.Members r.1) read.0 read.1.1

  -- no add begins where a read does
  apart : AreApart adds reads
  apart = record {
    once = are.once;
    none = λ r n there add.
        let calls = one_call h r.0 Read (Add n) ((are.read r.0 r.1).0 there).0 ((are.add r.0 n).0 add).0 in
        cc;
  }

  module _ (sizes : AllPairs IsNoLarger reads) (points : Points) (right : ArePoints adds reads points) where
    abbrev first : Item → Option ℕ
    first n = number_of points.first.entries n

    no_larger : (i j : ℕ) (q r : ℕ × List Item) → i ≤ j → slice_get reads i ≡ Some q → slice_get reads j ≡ Some r → IsNoLarger q r
    no_larger i j q r up at_q at_r = elim (cases_lt i j) [
      | inl less ↦ subst (λ x. IsNoLarger x r) (get_or_from_slice_get reads i q q at_q)
          (subst (IsNoLarger (get_or reads i q)) (get_or_from_slice_get reads j r q at_r) (sizes i j q less (slice_get_within reads j r at_r)))
      | inr from ↦
          let e : ◌≡◌ {A = Option (ℕ × List Item)} (Some q) (Some r) = sym at_q ∙ ap (slice_get reads) (omega (arith, up, from)) ∙ at_r in
          let same : q ≡ r = cc in
          subst (IsNoLarger q) same (omega arith, λ long. omega arith)
    ]

    -- what a read found, those behind it found too
    within : (i j : ℕ) (q r : ℕ × List Item) → i ≤ j → slice_get reads i ≡ Some q → slice_get reads j ≡ Some r → IsWithin q.1 r.1
    within i j q r up at_q at_r = elim (within_or_not q.1 r.1) [
      | inl inside ↦ inside
      | inr found ↦ elim (within_or_not r.1 q.1) [
        | inl inside ↦
            let less = fewer r.1 q.1 found.0 (rising j r at_r) (rising i q at_q) inside found.1 found.2 in
            let order = (no_larger i j q r up at_q at_r).0 in
            absurd (omega (arith, less, order))
        | inr other ↦
            let one = is_read i q at_q in
            let two = is_read j r at_r in
            absurd (calm (inr (inr (inr (inr (
              q.0,
              r.0,
              found.0,
              other.0,
              (Read, Replied.Members q.1, one.0, one.1, found.1, other.2),
              (Read, Replied.Members r.1, two.0, two.1, other.1, found.2),
            ))))))
      ]
    ]

    -- an item was added by the place, or not
    added_or_not : (n : Item) (place : ℕ) → ((at : ℕ) × (first n ≡ Some at) × IsAdd adds at n × (at ≤ place)) ⊎ HasNoAddBy h n place
    added_or_not n place = by (number_of points.first.entries n) refl (right.first n)
      where
        by : (o : Option ℕ) → number_of points.first.entries n ≡ o → IsLeast (λ at. IsAdd adds at n) o
            → ((at : ℕ) × (number_of points.first.entries n ≡ Some at) × IsAdd adds at n × (at ≤ place)) ⊎ HasNoAddBy h n place
        by None is none = inr (λ at by_place call. elim (failed_or_not h at (Add n) call) [
          | inl failed ↦ failed
          | inr live ↦ absurd (none at ((are.add at n).1 (call, live)))
        ])
        by (Some at) is least = elim (cases_lt place at) [
          | inr from ↦ inl (at, is, least.0, from)
          | inl past ↦ inr (λ k by_place call. elim (failed_or_not h k (Add n) call) [
            | inl failed ↦ failed
            | inr live ↦ let low = least.1 k ((are.add k n).1 (call, live)) in absurd (omega (arith, low, by_place, past))
          ])
        ]

    -- what is found by a place has its first add by it
    first_by : (n : Item) (place k : ℕ) → (HasNoAddBy h n place → ⊥) → number_of points.first.entries n ≡ Some k → k ≤ place
    first_by n place k some is = elim (added_or_not n place) [
      | inl added ↦ let same = one_place added.0 k (sym added.1 ∙ is) in let up = added.3 in omega (arith, same, up)
      | inr none ↦ absurd (some none)
    ]

    -- by the end of an add those reads are ready that did not find its item
    add_ready : (at end : ℕ) (n : Item) (reply : Reply) (count : ℕ) → IsCall h at (Add n) → IsOk h at end reply
        → ((i : ℕ) (r : ℕ × List Item) → i < count → slice_get reads i ≡ Some r → Contains r.1 n → ⊥) → IsReady points.first.entries reads count end
    add_ready at end n reply count call ok none i r less there =
        let read = is_read i r there in
        let out = none i r less there in (
          elim (cases_lt end r.0) [
            | inr by_end ↦ by_end
            | inl past ↦ absurd (calm (inr (inr (inl (at, end, r.0, read.1.0, n, (Add n, reply, call, ok, refl), (Read, Replied.Members r.1, read.0, read.1.1, out), past)))))
          ],
          λ m k inside is. first_by m end k (λ no_add. calm (inr (inr (inr (inl (at, end, r.0, n, m, (Add n, reply, call, ok, refl), (Read, Replied.Members r.1, read.0, read.1, inside, out), no_add)))))) is,
        )

    -- and by that of a read those up to it
    read_ready : (i end : ℕ) (r : ℕ × List Item) → slice_get reads i ≡ Some r → IsOk h r.0 end (Replied.Members r.1) → IsReady points.first.entries reads (suc i) end
    read_ready i end r there ok j q less at_q =
        let up : j ≤ i = omega (arith, less) in
        let mine = is_read i r there in
        let read = is_read j q at_q in (
          elim (cases_lt end q.0) [
            | inr by_end ↦ by_end
            | inl past ↦ elim (within_or_not r.1 q.1) [
              | inl inside ↦
                  let as_many = no_more r.1 q.1 (rising i r there) (rising j q at_q) inside in
                  let order = (no_larger j i q r up at_q there).1 as_many in
                  let late = ok.1.later in
                  absurd (omega (arith, order, late, past))
              | inr found ↦
                  absurd (calm (inr (inr (inl (r.0, end, q.0, read.1.0, found.0, (Read, Replied.Members r.1, mine.0, ok, found.1), (Read, Replied.Members q.1, read.0, read.1.1, found.2), past)))))
            ]
          ],
          λ m k inside is. first_by m end k (λ no_add. calm (inr (inl (r.0, end, m, (Read, Replied.Members r.1, mine.0, ok, within j i q r up at_q there m inside), no_add)))) is,
        )

    -- reads ahead of an item's level did not find it
    ahead_of_level : (n : Item) (i : ℕ) (r : ℕ × List Item) → i < level_of reads points n → slice_get reads i ≡ Some r → Contains r.1 n → ⊥
    ahead_of_level n i r less there inside = by (number_of points.levels.entries n) (right.levels n) less
      where
        by : (o : Option ℕ) → IsLeast (HasFound reads n) o → i < unwrap_or o (length reads) → ⊥
        by None none low = none i (r, there, inside)
        by (Some l) least low = let up = least.1 i (r, there, inside) in omega (arith, up, low)

    -- those that found it are not ahead of it
    level_by : (n : Item) (i : ℕ) (r : ℕ × List Item) → slice_get reads i ≡ Some r → Contains r.1 n → level_of reads points n ≤ i
    level_by n i r there inside = by (number_of points.levels.entries n) (right.levels n)
      where
        by : (o : Option ℕ) → IsLeast (HasFound reads n) o → unwrap_or o (length reads) ≤ i
        by None none = absurd (none i (r, there, inside))
        by (Some l) least = least.1 i (r, there, inside)

    -- the others are
    level_past : (n : Item) (i : ℕ) (r : ℕ × List Item) → slice_get reads i ≡ Some r → (Contains r.1 n → ⊥) → i < level_of reads points n
    level_past n i r there out = by (number_of points.levels.entries n) (right.levels n)
      where
        by : (o : Option ℕ) → IsLeast (HasFound reads n) o → i < unwrap_or o (length reads)
        by None none = slice_get_within reads i r there
        by (Some l) least = elim (cases_lt i l) [
          | inl less ↦ less
          | inr from ↦ absurd (out (within l i least.0.0 r from least.0.1 there n least.0.2))
        ]

    -- an add of what a read did not find goes behind it
    add_behind : (e d : Effect) (i : ℕ) (r : ℕ × List Item) (n : Item) → IsReadEffect reads points i r e → IsAddEffect adds reads points n d → (Contains r.1 n → ⊥)
        → (e.point ≤ d.point) × (e.rank < d.rank)
    add_behind e d i r n read add out =
        let less = level_past n i r read.read out in
        let low = read.rank in
        let high = add.rank in (
          read.point.least d.point (add.point.ready i r less read.read).0 (λ j q up at_q. add.point.ready j q (omega (arith, up, less)) at_q),
          omega (arith, less, low, high),
        )

    -- the first add of what it found goes ahead of it
    add_ahead : (e d : Effect) (i : ℕ) (r : ℕ × List Item) (n : Item) → IsReadEffect reads points i r e → IsAddEffect adds reads points n d → Contains r.1 n
        → number_of points.first.entries n ≡ Some d.placed.at → (d.point ≤ e.point) × (d.rank < e.rank)
    add_ahead e d i r n read add inside is =
        let up = level_by n i r read.read inside in
        let high = read.rank in
        let low = add.rank in (
          add.point.least e.point ((read.point.ready i r (omega arith) read.read).1 n d.placed.at inside is) (λ j q less at_q. read.point.ready j q (omega (arith, less, up)) at_q),
          omega (arith, up, low, high),
        )

    abbrev IsTimed : Effect → Type 0
    IsTimed e = ((n : Item) × IsAddEffect adds reads points n e) ⊎ ((i : ℕ) × (r : ℕ × List Item) × IsReadEffect reads points i r e)

    -- nothing takes effect before it is invoked
    early : (e : Effect) → IsTimed e → e.placed.at ≤ e.point
    early e (inl add) = add.1.point.behind
    early e (inr read) = let at = read.2.at in let up = read.2.point.behind in omega (arith, at, up)

    -- or past the place where it is known to be ok
    done : (e : Effect) → IsTimed e → (end : ℕ) (reply : Reply) → IsOk h e.placed.at end reply → e.point ≤ end
    done e (inl (n, add)) end reply ok = add.point.least end (let late = ok.1.later in omega (arith, late))
        (add_ready e.placed.at end n reply (level_of reads points n) ((are.add e.placed.at n).0 add.add).0 ok (ahead_of_level n))
    done e (inr (i, r, read)) end reply ok =
        let mine : IsOk h r.0 end reply = subst (λ k. IsOk h k end reply) read.at ok in
        let known = is_read i r read.read in
        let same = one_ok h r.0 end known.1.0 reply (Replied.Members r.1) mine known.1.1 in
        read.point.least end (let late = mine.1.later in omega (arith, late)) (read_ready i end r read.read (subst (IsOk h r.0 end) same.1 mine))

    keeps_time : (d e : Effect) → IsTimed d → IsTimed e → IsAhead d e → IsBefore h e.placed.at d.placed.at → ⊥
    keeps_time d e timed other ahead before =
        let known = done e other before.0 before.1 before.2 in
        let begun = early d timed in
        let order = ahead.0 in
        let past = before.3 in
        omega (arith, known, begun, order, past)

    abbrev placed : Effect → Placed
    placed e = e.placed

    -- the set has no item that a read among these did not find
    abbrev HasOnly : List Effect → List Item → Type 0
    HasOnly rest t = (e : Effect) (i : ℕ) (r : ℕ × List Item) (n : Item) → Contains rest e → IsReadEffect reads points i r e → Contains t n → Contains r.1 n

    -- each item that a read among these found is in it, or is added among these and not behind that read
    abbrev HasAll : List Effect → List Item → Type 0
    HasAll rest t = (e : Effect) (i : ℕ) (r : ℕ × List Item) (n : Item) → Contains rest e → IsReadEffect reads points i r e → Contains r.1 n
        → Contains t n ⊎ ((d : Effect) × Contains rest d × IsAddEffect adds reads points n d × (IsAhead e d → ⊥))

    -- so it is behind the first of them
    module _ (d : Effect) (rest : List Effect) (t : List Item) (ahead : (e : Effect) → Contains rest e → IsAhead d e) (only : HasOnly (d ∷ rest) t) (found : HasAll (d ∷ rest) t) where
      only_behind : (x : Item) → IsAddEffect adds reads points x d → HasOnly rest (with_member item_cmp x t)
      only_behind x add e i r n there read inside = elim (with_adds_none x n t inside) [
        | inr before ↦ only e i r n (later d rest e there) read before
        | inl same ↦ subst (Contains r.1) (sym same) (elim (has_or_not r.1 x) [
          | inl has ↦ has
          | inr out ↦
              let behind = add_behind e d i r x read add out in
              let lower = behind.1 in
              let order = (ahead e there).1 behind.0 in
              absurd (omega (arith, lower, order))
        ])
      ]

      all_behind : (x : Item) → IsAddEffect adds reads points x d → HasAll rest (with_member item_cmp x t)
      all_behind x add e i r n there read inside = elim (found e i r n (later d rest e there) read inside) [
        | inl before ↦ inl (with_keeps x n t before)
        | inr to_come ↦ elim (first_or_rest d rest to_come.0 to_come.1) [
          | inr rests ↦ inr (to_come.0, rests, to_come.2, to_come.3)
          | inl now ↦ inl (subst (Contains (with_member item_cmp x t))
              (one_add adds d.placed.at x n add.add (subst (λ (c : Effect). IsAdd adds c.placed.at n) (sym now) to_come.2.add)) (with_has x t))
        ]
      ]

      module _ (i : ℕ) (r : ℕ × List Item) (read : IsReadEffect reads points i r d) where
        no_add : (n : Item) (c : Effect) → d ≡ c → IsAddEffect adds reads points n c → ⊥
        no_add n c now add = let e = sym read.reply ∙ subst (λ (x : Effect). x.placed.reply ≡ Replied.Done) (sym now) add.reply in cc

        all_still : HasAll rest t
        all_still e j q n there other inside = elim (found e j q n (later d rest e there) other inside) [
          | inl before ↦ inl before
          | inr to_come ↦ elim (first_or_rest d rest to_come.0 to_come.1) [
            | inr rests ↦ inr (to_come.0, rests, to_come.2, to_come.3)
            | inl now ↦ absurd (no_add n to_come.0 now to_come.2)
          ]
        ]

        has_found : IsRising item_cmp t → t ≡ r.1
        has_found up = same_sets t r.1 up (rising i r read.read) (λ n. (
          only d i r n (here d rest) read,
          λ inside. elim (found d i r n (here d rest) read inside) [
            | inl before ↦ before
            | inr to_come ↦ elim (first_or_rest d rest to_come.0 to_come.1) [
              | inl now ↦ absurd (no_add n to_come.0 now to_come.2)
              | inr rests ↦ absurd (to_come.3 (ahead to_come.0 rests))
            ]
          ],
        ))

    -- the set runs through what stands in order
    runs : (rest : List Effect) (t : List Item) → IsOrdered IsAhead rest → ((e : Effect) → Contains rest e → IsTimed e) → IsRising item_cmp t → HasOnly rest t → HasAll rest t
        → (last : State) × Runs (Step Set) h (Members t) (map placed rest) last
    runs [] t ordered timed up only found = (Members t, refl)
    runs (d ∷ rest) t ordered timed up only found =
        by (timed d (here d rest)) (λ next rises. runs rest next ordered.1 (λ e there. timed e (later d rest e there)) rises)
      where
        by : IsTimed d → ((next : List Item) → IsRising item_cmp next → HasOnly rest next → HasAll rest next → (last : State) × Runs (Step Set) h (Members next) (map placed rest) last)
            → (last : State) × Runs (Step Set) h (Members t) (map placed (d ∷ rest)) last
        by (inl (x, add)) onward =
            let more = onward (with_member item_cmp x t) (rising_with x t up) (only_behind d rest t ordered.0 only found x add) (all_behind d rest t ordered.0 only found x add) in
            (more.0, (Add x, Members (with_member item_cmp x t), ((are.add d.placed.at x).0 add.add).0, (refl, add.reply), more.1))
        by (inr (i, r, read)) onward =
            let more = onward t up (λ e j q n there other. only e j q n (later d rest e there) other) (all_still d rest t ordered.0 only found i r read) in
            let same = has_found d rest t ordered.0 only found i r read up in
            (more.0, (Read, Members t, subst (λ k. IsCall h k Read) (sym read.at) (is_read i r read.read).0, (refl, read.reply ∙ ap Replied.Members (sym same)), more.1))

    module _ (effects : List Effect) (made : AreEffects adds reads points (length adds) (length reads) effects) (ahead : AllPairs IsAhead effects) where
      timed : (e : Effect) → Contains effects e → IsTimed e
      timed e there = elim (made.each e there) [
        | inl add ↦ inl (add.0, add.2)
        | inr read ↦ inr (read.0, read.1, read.3)
      ]

      -- an add that did not fail stands there
      add_there : (at : ℕ) (n : Item) → IsAdd adds at n → (e : Effect) × Contains effects e × (e.placed.at ≡ at) × IsAddEffect adds reads points n e
      add_there at n add =
          let found = made.adds_there at n (slice_get_within adds at (Some n) add) add in
          elim (timed found.0 found.1) [
            | inl (m, effect) ↦ (
              found.0,
              found.1,
              found.2,
              subst (λ x. IsAddEffect adds reads points x found.0) (one_add adds at m n (subst (λ k. IsAdd adds k m) found.2 effect.add) add) effect,
            )
            | inr (i, r, read) ↦ absurd (let e = sym read.reply ∙ found.3 in cc)
          ]

      ordered : IsOrdered IsAhead effects
      ordered = ordered_of IsAhead effects ahead

      -- each ok operation
      ok_there : (at end : ℕ) (reply : Reply) → IsOk h at end reply → Contains (map placed effects) (record { at = at; reply = reply })
      ok_there at end reply ok = by ok.1.call reply (ok.1.process, ok.1.key, ok.1.begins) ok (answered at end ok.1.call reply (ok.1.process, ok.1.key, ok.1.begins) ok)
        where
          as_placed : (e : Effect) (k : ℕ) (given : Reply) → Contains effects e → e.placed.at ≡ k → e.placed.reply ≡ given → Contains (map placed effects) (record { at = k; reply = given })
          as_placed e k given there at_k replied = subst (Contains (map placed effects)) (λ i. record { at = at_k i; reply = replied i }) (to_map placed effects e there)

          by : (c : Call) (given : Reply) → IsCall h at c → IsOk h at end given → IsAnswer c given → Contains (map placed effects) (record { at = at; reply = given })
          by (Add n) given is known answers =
              let found = add_there at n ((are.add at n).1 (is, not_both h at end given known)) in
              as_placed found.0 at given found.1 found.2 (found.3.reply ∙ sym answers)
          by Read (Replied.Members s) is known answers =
              let among = (are.read at s).1 (is, (end, known)) in
              let place = slice_get-get_or reads among.0 (at, s) among.1 ∙ ap Some among.2 in
              let found = made.reads_there among.0 (at, s) among.1 place in
              as_placed found.0 at (Replied.Members s) found.1 found.2 found.3
          by Read given is known answers = absurd answers
          by c given is known answers = absurd answers

      call_of : (e : Effect) → IsTimed e → (c : Call) × IsCall h e.placed.at c
      call_of e (inl (n, add)) = (Add n, ((are.add e.placed.at n).0 add.add).0)
      call_of e (inr (i, r, read)) = (Read, subst (λ k. IsCall h k Read) (sym read.at) (is_read i r read.read).0)

      never_failed : (e : Effect) → IsTimed e → IsFailed h e.placed.at → ⊥
      never_failed e (inl (n, add)) = ((are.add e.placed.at n).0 add.add).1
      never_failed e (inr (i, r, read)) = let known = (is_read i r read.read).1 in λ failed. not_both h r.0 known.0 (Replied.Members r.1) known.1 (subst (IsFailed h) read.at failed)

      each_placed : (P : Placed → Type 0) → ((e : Effect) → Contains effects e → P (placed e)) → All P (map placed effects)
      each_placed P each = all_of P (map placed effects) (λ p there. let found = from_map placed effects p there in subst P (sym found.2) (each found.0 found.1))

      is_order : IsOrder h (map placed effects)
      is_order = record {
        operations = each_placed (λ p. (c : Call) × IsCall h p.at c × Unit {0}) (λ e there. let c = call_of e (timed e there) in (c.0, c.1, tt));
        once = mapped_pairs (λ (d e : Effect). d.placed.at ≢ e.placed.at) (λ p q. p.at ≢ q.at) placed effects (ordered_of (λ (d e : Effect). d.placed.at ≢ e.placed.at) effects (made.once apart)) (λ d e in_d in_e differ. differ);
        none_failed = each_placed (λ p. IsFailed h p.at → ⊥) (λ e there. never_failed e (timed e there));
        each_ok = λ at end reply scope ok. ok_there at end reply ok;
        real_time = mapped_pairs IsAhead (λ p q. IsBefore h q.at p.at → ⊥) placed effects ordered (λ d e in_d in_e order. keeps_time d e (timed d in_d) (timed e in_e) order);
      }

      legal : (last : State) × Runs (Step Set) h (start Set) (map placed effects) last
      legal = runs effects [] ordered timed tt (λ e i r n there read none. absurd (nothing_in n none)) (λ e i r n there read inside.
          let known = is_read i r read.read in
          elim (added_or_not n known.1.0) [
            | inr none ↦ absurd (calm (inr (inl (r.0, known.1.0, n, (Read, Replied.Members r.1, known.0, known.1.1, inside), none))))
            | inl added ↦
                let found = add_there added.0 n added.2 in
                inr (
                  found.0,
                  found.1,
                  found.3,
                  λ behind.
                      let goes = add_ahead e found.0 i r n read found.3 inside (first_is n added.0 found.0.placed.at added.1 found.2) in
                      let lower = goes.1 in
                      let order = behind.1 goes.0 in
                      omega (arith, lower, order),
                )
          ])
        where
          first_is : (n : Item) (at k : ℕ) → first n ≡ Some at → k ≡ at → number_of points.first.entries n ≡ Some k
          first_is n at k is same = is ∙ ap Some (sym same)

      pub effects_legal : IsLegalOrderAs Set h (map placed effects)
      effects_legal = record { order_of = is_order; legal = legal }

-- Members that are above others: with early updates ahead of their last one they lead to what those lead to, also in another history.
use Rattle.std.proofs.Common.{ℕ, ◌<◌, ◌≤◌, Bool, List, Contains, ◌⊎◌, inl, inr, sym, subst, arith}
use Rattle.lin_events.specs.declared.calls.Call.{Call}
use Rattle.lin_events.specs.declared.calls.Reply.{Reply}
use Rattle.lin_events.specs.declared.events.Event.{Event}
use Rattle.lin_order.specs.Configurations.{IsRising}
use Rattle.lin_lists.specs.lemmas.Filters.{from_map, in_map}
use Rattle.lin_members.specs.declared.members.Path.{Path}
use Rattle.lin_members.specs.Covers.{HasCrashed}
use Rattle.lin_members.specs.Members.{DominatesAt, IsOnOffer, LeadsToCover, Meets, Member}
use Rattle.lin_members.specs.Overwritten.{HasOverwritten, IsAbove, IsCoveredWith, IsEarlyGiven, IsEarlyUpdate, IsOfferedWith}
use Rattle.lin_members.specs.OverwrittenLaws.{AboveLaw, CompleteAloneLaw, NoneOverwrittenLaw}
use Rattle.lin_members.specs.lemmas.Choosing.{Chosen, choose, stands}
use Rattle.lin_members.specs.lemmas.Dominating.{covers_sorted, passes_itself}
use Rattle.lin_members.specs.lemmas.Exchanging.{exchange_on, exchanged_on}
use Rattle.lin_members.specs.lemmas.Following.{DoesFor, Passes, meets_by}
use Rattle.lin_frontier.specs.lemmas.Inserting.{rising_once}
use Rattle.lin_members.specs.lemmas.Ways.{from_covers, to_covers, way_kept}

module _ {S : Type 0} (step : S → Call → S → Reply → Type 0) (observes : Call → Bool) (h g : List Event) (ended : ℕ → Type 0) (passes : Passes observes h g ended) where
  -- an early update of a process that has not ended is early later on
  pub early_on : (until later : ℕ) (x : ℕ × Reply) (next : S) → until ≤ later → (ended x.0 → ⊥) → IsEarlyUpdate step observes h until x next → IsEarlyUpdate step observes g later x next
  early_on until later x next within stays u =
      let before : u.at < until = u.early in
      record {
        at = u.at;
        key = u.key;
        call = u.call;
        is_open = passes.opens u.at x.0 u.key u.call stays u.is_open;
        update = u.update;
        early = omega arith;
        from = u.from;
        steps = u.steps;
      }

  -- so is what is given early
  pub given_on : (until later : ℕ) (state : S) (x : ℕ × Reply) → until ≤ later → (ended x.0 → ⊥) → IsEarlyGiven step h until state x → IsEarlyGiven step g later state x
  given_on until later state x within stays e =
      let before : e.0.at < until = e.1 in (
        record { at = e.0.at; key = e.0.key; call = e.0.call; next = e.0.next; is_open = passes.opens e.0.at x.0 e.0.key e.0.call stays e.0.is_open; steps = e.0.steps },
        omega arith,
      )

  -- what does for the beginning of a way meets what the way meets, where nothing of that has ended
  pub meets_alike : (s : S) (old new : List (ℕ × Reply)) (offers offers' : ℕ × Reply → Type 0) → DoesFor observes g new offers' old offers → (t : S) (q : List (ℕ × Reply))
      → ((x : ℕ × Reply) → Contains q x → ended x.0 → ⊥) → Meets step observes h (s, old) offers t q → Meets step observes g (s, new) offers' t q
  meets_alike s old new offers offers' does t q none is =
      meets_by step observes h g ended passes s old old new offers offers'
      (λ x there. there) (λ x there. none x (is.part x (way_kept step observes h (s, old) (t, is.placed) is.way x there))) (λ x there. inl there) does
      t q q is.rising (λ x there. there) none (λ x there. inl there) is (λ at p key call reply is_open no' absent there. none (p, reply) (is.part (p, reply) there))

  -- a member that dominates has early updates of its own for those ahead of what it dominates
  module _ (n : Member S × Path) (state : S) (placed wider : List (ℕ × Reply)) (offers : ℕ × Reply → Type 0) (until : ℕ) (dominates : DominatesAt observes g n.0 state placed offers) (later : until ≤ n.1.until)
      (more_of : HasOverwritten step observes h until placed wider) (stays : (x : ℕ × Reply) → Contains wider x → ended x.0 → ⊥) where
    pub widened : (others : List (ℕ × Reply)) × HasOverwritten step observes g n.1.until n.0.placed others
        × DoesFor observes g others (IsOfferedWith step observes g n others) wider
        (λ x. offers x ⊎ ((u : ℕ × Reply) × (next : S) × Contains wider u × (Contains placed u → ⊥) × IsEarlyUpdate step observes h until u next × IsEarlyGiven step h until next x))
    widened = (
      k.chosen,
      record {
        before = dominates.sorted;
        sorted = k.pairs more_of.sorted;
        part = within;
        rest = λ x there. elim (k.holds x there) [
          | inl old ↦ inl old
          | inr new ↦ elim (more_of.rest x (k.within x there)) [
            | inl old ↦ absurd (new old)
            | inr early ↦ inr (early.0, early_on until n.1.until x early.0 later (stays x (k.within x there)) early.1)
          ]
        ];
      },
      record {
        sorted = k.pairs more_of.sorted;
        part = k.within;
        rest = λ x there. elim (k.rest x there) [ inl kept ↦ inl kept | inr out ↦ inr out.2 ];
        offered = λ x watching absent is. elim is [
          | inl old ↦ inl (dominates.offered x watching (λ other there. absent other (within (x.0, other) there)) old)
          | inr e ↦
              let open' : ended x.0 → ⊥ = λ over. passes.shut watching.at x.0 watching.key watching.call over watching.is_open in
              inr (
                e.0,
                e.1,
                elim (k.rest e.0 e.2) [ inl kept ↦ kept | inr out ↦ absurd (e.3 out.0) ],
                λ there. e.3 (dominates.part e.0 there),
                early_on until n.1.until e.0 e.1 later (stays e.0 e.2) e.4,
                given_on until n.1.until e.1 x later open' e.5,
              )
        ];
      },
    )
      where
        k : Chosen (λ (p : ℕ × Reply) (q : ℕ × Reply). p.0 < q.0) (λ x. Contains n.0.placed x ⊎ (Contains placed x → ⊥)) (λ x. Contains placed x × (Contains n.0.placed x → ⊥) × HasCrashed g x.0) wider
        k = choose _ _ _ wider (λ x there. elim (stands x.0 n.0.placed) [
          | inl some ↦ inl (inl (subst (λ r. Contains n.0.placed (x.0, r))
              (rising_once wider x.0 some.0 x.1 more_of.sorted (more_of.part (x.0, some.0) (dominates.part (x.0, some.0) some.1)) there) some.1))
          | inr absent ↦ elim (stands x.0 placed) [
            | inl some ↦
                let old : Contains placed x = subst (λ r. Contains placed (x.0, r)) (rising_once wider x.0 some.0 x.1 more_of.sorted (more_of.part (x.0, some.0) some.1) there) some.1 in
                elim (dominates.rest x old) [
                  | inl kept ↦ inl (inl kept)
                  | inr crashed ↦ inr (old, absent x.1, crashed)
                ]
            | inr none ↦ inl (inr (none x.1))
          ]
        ])

        within : (x : ℕ × Reply) → Contains n.0.placed x → Contains k.chosen x
        within x there = elim (k.rest x (more_of.part x (dominates.part x there))) [
          | inl kept ↦ kept
          | inr out ↦ absurd (out.1 there)
        ]

  -- a configuration that a member leads to, those above it lead to
  pub covered_above : (alive : (q : ℕ) → ended q → HasCrashed h q → ⊥) (members others : List (Member S × Path)) (c : S × List (ℕ × Reply)) (found : IsCoveredWith step observes h members c)
      → ((x : ℕ × Reply) → Contains found.placed x → ended x.0 → ⊥) → (n : Member S × Path) → Contains others n → IsAbove observes g n found.member → IsCoveredWith step observes g others c
  covered_above alive members others c found none n among above =
      let m = found.member in
      let w = widened n m.0.state m.0.placed found.wider (IsOnOffer m.0) m.1.until above.0 above.1 found.more
      (λ x there. none x (found.meets.part x (way_kept step observes h (m.0.state, found.wider) (c.0, found.meets.placed) found.meets.way x there))) in
      record {
        exchange = exchange_on observes h g ended passes alive found.exchange;
        placed = found.placed;
        exchanged = exchanged_on observes h g ended passes alive found.exchange c.1 found.placed found.exchanged;
        member = n;
        among = among;
        wider = w.0;
        more = w.1;
        meets = subst (λ s. Meets step observes g (s, w.0) (IsOfferedWith step observes g n w.0) c.0 found.placed) (sym above.0.same)
            (meets_alike m.0.state found.wider w.0 (IsOfferedWith step observes h m found.wider) (IsOfferedWith step observes g n w.0) w.2 c.0 found.placed none found.meets);
      }

module _ {S : Type 0} (start : S) (step : S → Call → S → Reply → Type 0) where
  pub above_law : AboveLaw start step
  above_law observes h members others above complete c config =
      let found = complete c config in
      let by = above found.member found.among in
      covered_above step observes h h (λ q. ⊥) (passes_itself observes h) (λ q over crashed. over) members others c found (λ x there none. none) by.0 by.1 by.2

  pub none_overwritten_law : NoneOverwrittenLaw start step
  none_overwritten_law observes h members last complete c config = record {
    exchange = found.exchange;
    placed = found.placed;
    exchanged = found.exchanged;
    member = m.0;
    among = in_map (λ (k : Member S × Path). k.0) members m found.among;
    leads = to_covers step observes h m.0 (c.0, found.placed)
        (meets_alike step observes h h (λ q. ⊥) (passes_itself observes h) m.0.state found.wider m.0.placed (IsOfferedWith step observes h m found.wider) (IsOnOffer m.0) does c.0 found.placed (λ x there none. none) found.meets);
  }
    where
      found : IsCoveredWith step observes h members c
      found = complete c config

      m : Member S × Path
      m = found.member

      none_early : (at : ℕ) → at < m.1.until → ⊥
      none_early at early = let is = last m found.among in omega arith

      does : DoesFor observes h m.0.placed (IsOnOffer m.0) found.wider (IsOfferedWith step observes h m found.wider)
      does = record {
        sorted = found.more.before;
        part = found.more.part;
        rest = λ x there. elim (found.more.rest x there) [
          | inl old ↦ inl old
          | inr new ↦ absurd (none_early new.1.at new.1.early)
        ];
        offered = λ x watching absent is. elim is [
          | inl old ↦ old
          | inr e ↦ absurd (none_early e.4.at e.4.early)
        ];
      }

  pub complete_alone_law : CompleteAloneLaw start step
  complete_alone_law observes h members complete c config =
      let found = complete c config in
      let m = from_map (λ (k : Member S × Path). k.0) members found.member found.among in
      let d : S × List (ℕ × Reply) = (c.0, found.placed) in
      let leads : LeadsToCover step observes h m.0.0 d = subst (λ (k : Member S). LeadsToCover step observes h k d) (sym m.2) found.leads in
      let sorted : IsRising m.0.0.placed = covers_sorted step observes h m.0.0 d leads in
      record {
        exchange = found.exchange;
        placed = found.placed;
        exchanged = found.exchanged;
        member = m.0;
        among = m.1;
        wider = m.0.0.placed;
        more = record { before = sorted; sorted = sorted; part = λ x there. there; rest = λ x there. inl there };
        meets = meets_alike step observes h h (λ q. ⊥) (passes_itself observes h) m.0.0.state m.0.0.placed m.0.0.placed (IsOnOffer m.0.0) (IsOfferedWith step observes h m.0 m.0.0.placed)
            (record { sorted = sorted; part = λ x there. there; rest = λ x there. inl there; offered = λ x watching absent there. inl there })
            c.0 found.placed (λ x there none. none) (from_covers step observes h m.0.0 d found.exchanged.rising leads);
      }

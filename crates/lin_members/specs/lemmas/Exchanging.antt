-- Exchanges of crashed operations that have the same call, and what they leave as it is.
use Rattle.std.proofs.Common.{◌≡◌, ◌≢◌, ◌<◌, ℕ, Bool, true, false, nat_eq, cond, List, [], ◌∷◌, Contains, ◌⊎◌, inl, inr, refl, sym, ap, subst, ◌∙◌, arith}
use Rattle.std.proofs.lemmas.List.Elements.{Contains-append_right}
use Rattle.std.proofs.lemmas.Bool.{cases_eq, cond-true, cond-false}
use Rattle.std.proofs.lemmas.Bool.Decides.{Decides-eqb as Decides-nat_eq}
use Rattle.lin_events.specs.declared.items.Item.{Item}
use Rattle.lin_events.specs.declared.calls.Call.{Call}
use Rattle.lin_events.specs.declared.calls.Name.{Name}
use Rattle.lin_events.specs.declared.calls.Reply.{Reply}
use Rattle.lin_events.specs.declared.events.Event.{Event}
use Rattle.lin_events.specs.Alternation.{IsAlternating}
use Rattle.lin_events.specs.Operations.{IsOpen, IsOperation}
use Rattle.lin_events.specs.lemmas.OneMore.{one_call, one_open}
use Rattle.lin_order.specs.declared.placed.Placed.{Placed}
use Rattle.lin_order.specs.Configurations.{IsAdded, IsPlacing, IsPlacedOn, IsRising, none, more as further}
use Rattle.lin_members.specs.Covers.{HasCrashed}
use Rattle.lin_members.specs.Exchanges.{AreAlike, Exchange, IsExchanged}
use Rattle.lin_members.specs.Members.{Meets, Member, IsCovered, IsOffered, IsReady, IsUpdate, LeadsToCover, Way, here, more}
use Rattle.lin_frontier.specs.Placing.{without}
use Rattle.lin_members.specs.lemmas.Choosing.{can_add, head_pairs, nothing_in, tail_pairs}
use Rattle.lin_members.specs.lemmas.Following.{Passes}
use Rattle.lin_frontier.specs.lemmas.Inserting.{first_or_rest, taken_out}

-- the open operation of a process has one call
pub open_call : (functions : Item → Name → Bool) (h : List Event) → IsAlternating functions h → (i j process : ℕ) (key other : Item) (c d : Call) → IsOpen h i process key c → IsOpen h j process other d → c ≡ d
open_call functions h alternates i j process key other c d open_i open_j =
    one_call h j process process key other c d (subst (λ k. IsOperation h k process key c) (one_open functions h alternates i j process key other c d open_i open_j) open_i.begins) open_j.begins

abbrev pub no_exchange : (h : List Event) → Exchange h
no_exchange h = record { to = λ q. q; from = λ q. q; there = λ q. refl; back = λ q. refl; moves = λ q. inl refl }

pub exchanged_itself : (h : List Event) (placed : List (ℕ × Reply)) → IsRising placed → IsExchanged (no_exchange h) placed placed
exchanged_itself h placed rising = record { before = rising; rising = rising; part = λ x there. there; rest = λ x there. there }

-- what is alike is so the other way round
pub alike_back : (h : List Event) (p q : ℕ) → AreAlike h q p → AreAlike h p q
alike_back h p q a = record {
  at = a.other;
  other = a.at;
  key = a.other_key;
  other_key = a.key;
  call = a.call;
  first = a.second;
  second = a.first;
  crashed = a.other_crashed;
  other_crashed = a.crashed;
}

-- the one process for the other
swap : ℕ → ℕ → ℕ → ℕ
swap p q n = elim (cases_eq n p) [
  | inl same ↦ q
  | inr other ↦ elim (cases_eq n q) [
    | inl same ↦ p
    | inr neither ↦ n
  ]
]

swap_first : (p q : ℕ) → swap p q p ≡ q
unfolding swap
swap_first p q = by (cases_eq p p)
  where
    by : (e : (p ≡ p) ⊎ (p ≢ p)) → elim e [ inl same ↦ q | inr other ↦ elim (cases_eq p q) [ inl same ↦ p | inr neither ↦ p ] ] ≡ q
    by (inl same) = refl
    by (inr other) = absurd (other refl)

swap_other : (p q n : ℕ) → n ≢ p → n ≢ q → swap p q n ≡ n
unfolding swap
swap_other p q n not_p not_q = by (cases_eq n p) (cases_eq n q)
  where
    by : (e : (n ≡ p) ⊎ (n ≢ p)) (f : (n ≡ q) ⊎ (n ≢ q)) → elim e [ inl same ↦ q | inr other ↦ elim f [ inl same ↦ p | inr neither ↦ n ] ] ≡ n
    by (inl same) f = absurd (not_p same)
    by (inr other) (inl same) = absurd (not_q same)
    by (inr other) (inr neither) = refl

swap_second : (p q : ℕ) → swap p q q ≡ p
unfolding swap
swap_second p q = by (cases_eq q p) (cases_eq q q)
  where
    by : (e : (q ≡ p) ⊎ (q ≢ p)) (f : (q ≡ q) ⊎ (q ≢ q)) → elim e [ inl same ↦ q | inr other ↦ elim f [ inl same ↦ p | inr neither ↦ q ] ] ≡ p
    by (inl same) f = same
    by (inr other) (inl same) = refl
    by (inr other) (inr neither) = absurd (neither refl)

swap_back : (p q n : ℕ) → swap p q (swap p q n) ≡ n
swap_back p q n = elim (cases_eq n p) [
  | inl same ↦ ap (λ k. swap p q (swap p q k)) same ∙ ap (swap p q) (swap_first p q) ∙ swap_second p q ∙ sym same
  | inr not_p ↦ elim (cases_eq n q) [
    | inl same ↦ ap (λ k. swap p q (swap p q k)) same ∙ ap (swap p q) (swap_second p q) ∙ swap_first p q ∙ sym same
    | inr not_q ↦ ap (swap p q) (swap_other p q n not_p not_q) ∙ swap_other p q n not_p not_q
  ]
]

-- two that are alike change places
module _ (h : List Event) (p q : ℕ) (alike : AreAlike h p q) where
  pub change : Exchange h
  change = record {
    to = swap p q;
    from = swap p q;
    there = swap_back p q;
    back = swap_back p q;
    moves = λ n. elim (cases_eq n p) [
      | inl same ↦ inr (subst (λ k. AreAlike h k (swap p q k)) (sym same) (subst (AreAlike h p) (sym (swap_first p q)) alike))
      | inr not_p ↦ elim (cases_eq n q) [
        | inl same ↦ inr (subst (λ k. AreAlike h k (swap p q k)) (sym same) (subst (AreAlike h q) (sym (swap_second p q)) (alike_back h q p alike)))
        | inr not_q ↦ inl (swap_other p q n not_p not_q)
      ]
    ];
  }

  -- placed operations that neither is among stay
  pub change_neither : (placed : List (ℕ × Reply)) → IsRising placed → ((reply : Reply) → Contains placed (p, reply) → ⊥) → ((reply : Reply) → Contains placed (q, reply) → ⊥) → IsExchanged change placed placed
  unfolding change
  change_neither placed rising no_p no_q = record { before = rising; rising = rising; part = same; rest = same }
    where
      same : (x : ℕ × Reply) → Contains placed x → Contains placed (swap p q x.0, x.1)
      same x there = subst (λ n. Contains placed (n, x.1))
          (sym (swap_other p q x.0 (λ is. no_p x.1 (subst (λ n. Contains placed (n, x.1)) is there)) (λ is. no_q x.1 (subst (λ n. Contains placed (n, x.1)) is there)))) there

  pub change_first : change.to p ≡ q
  unfolding change
  change_first = swap_first p q

  pub change_second : change.to q ≡ p
  unfolding change
  change_second = swap_second p q

  pub change_other : (n : ℕ) → n ≢ p → n ≢ q → change.to n ≡ n
  unfolding change
  change_other n not_p not_q = swap_other p q n not_p not_q

  -- where the second process has no place, it is put in place of the first
  pub change_renames : (n : ℕ) → n ≢ q → cond (nat_eq n p) q n ≡ change.to n
  unfolding change
  change_renames n not_q = elim (cases_eq n p) [
    | inl same ↦ cond-true _ _ _ ((Decides-nat_eq n p).1 same) ∙ sym (swap_first p q) ∙ ap (swap p q) (sym same)
    | inr not_p ↦ cond-false _ _ _ (differs n p not_p) ∙ sym (swap_other p q n not_p not_q)
  ]
    where
      differs : (a b : ℕ) → a ≢ b → nat_eq a b ≡ false
      differs a b other = by (nat_eq a b) refl
        where
          by : (t : Bool) → nat_eq a b ≡ t → nat_eq a b ≡ false
          by true e = absurd (other ((Decides-nat_eq a b).0 e))
          by false e = e

-- an exchange the other way round
abbrev pub turned : {h : List Event} → Exchange h → Exchange h
turned {h} e = record {
  to = e.from;
  from = e.to;
  there = e.back;
  back = e.there;
  moves = λ q. elim (e.moves (e.from q)) [
    | inl same ↦ inl (sym same ∙ e.back q)
    | inr alike ↦ inr (alike_back h q (e.from q) (subst (AreAlike h (e.from q)) (e.back q) alike))
  ];
}

-- in a history that keeps what crashed
module _ (observes : Call → Bool) (h g : List Event) (ended : ℕ → Type 0) (passes : Passes observes h g ended) (alive : (q : ℕ) → ended q → HasCrashed h q → ⊥) where
  alike_on : (p q : ℕ) → AreAlike h p q → AreAlike g p q
  alike_on p q a = record {
    at = a.at;
    other = a.other;
    key = a.key;
    other_key = a.other_key;
    call = a.call;
    first = passes.opens a.at p a.key a.call (λ over. alive p over a.crashed) a.first;
    second = passes.opens a.other q a.other_key a.call (λ over. alive q over a.other_crashed) a.second;
    crashed = passes.crashes p a.crashed;
    other_crashed = passes.crashes q a.other_crashed;
  }

  pub exchange_on : Exchange h → Exchange g
  exchange_on e = record {
    to = e.to;
    from = e.from;
    there = e.there;
    back = e.back;
    moves = λ q. elim (e.moves q) [
      | inl same ↦ inl same
      | inr alike ↦ inr (alike_on q (e.to q) alike)
    ];
  }

  pub exchanged_on : (e : Exchange h) (placed others : List (ℕ × Reply)) → IsExchanged e placed others → IsExchanged (exchange_on e) placed others
  unfolding exchange_on
  exchanged_on e placed others is = record { before = is.before; rising = is.rising; part = is.part; rest = is.rest }

-- a pair that stands ahead of larger processes is added
first_added : (x : ℕ × Reply) (xs : List (ℕ × Reply)) → IsRising (x ∷ xs) → IsAdded x.0 x.1 xs (x ∷ xs)
first_added x xs rising = record {
  absent = λ other there. let below = head_pairs (λ (p : ℕ × Reply) (q : ℕ × Reply). p.0 < q.0) x xs (x.0, other) rising there in omega arith;
  before = tail_pairs (λ (p : ℕ × Reply) (q : ℕ × Reply). p.0 < q.0) x xs rising;
  rising = rising;
  kept = λ y there. Contains-append_right (x ∷ []) xs y there;
  has = (0, omega arith, refl);
  was = λ y there. elim (first_or_rest x xs y there) [
    | inl same ↦ inr same
    | inr later ↦ inl later
  ];
}

module _ {h : List Event} (e : Exchange h) where
  pub fixed : (q : ℕ) → (HasCrashed h q → ⊥) → e.to q ≡ q
  fixed q alive = elim (e.moves q) [
    | inl same ↦ same
    | inr alike ↦ absurd (alive alike.crashed)
  ]

  pub fixed_from : (q : ℕ) → (HasCrashed h q → ⊥) → e.from q ≡ q
  fixed_from q alive = ap e.from (sym (fixed q alive)) ∙ e.there q

  pub crash_to : (q : ℕ) → HasCrashed h q → HasCrashed h (e.to q)
  crash_to q crashed = elim (e.moves q) [
    | inl same ↦ subst (HasCrashed h) (sym same) crashed
    | inr alike ↦ alike.other_crashed
  ]

  pub crash_from : (q : ℕ) → HasCrashed h (e.to q) → HasCrashed h q
  crash_from q crashed = elim (e.moves q) [
    | inl same ↦ subst (HasCrashed h) same crashed
    | inr alike ↦ alike.crashed
  ]

  -- no other process is given the place of one that keeps it
  pub only_itself : (process : ℕ) → e.to process ≡ process → (q : ℕ) → e.to q ≡ process → q ≡ process
  only_itself process stays q to = sym (e.there q) ∙ ap e.from (to ∙ sym stays) ∙ e.there process

  -- with one more pair
  pub exchanged_added : (process : ℕ) (reply : Reply) (placed wider others : List (ℕ × Reply)) → IsExchanged e placed others → IsAdded process reply placed wider
      → (more_of : List (ℕ × Reply)) × IsExchanged e wider more_of × IsAdded (e.to process) reply others more_of
  exchanged_added process reply placed wider others is added =
      let k = can_add (e.to process) reply others is.rising (λ other there. added.absent other (subst (λ q. Contains placed (q, other)) (e.there process) (is.rest (e.to process, other) there))) in (
        k.0,
        record {
          before = added.rising;
          rising = k.1.rising;
          part = λ x there. elim (added.was x there) [
            | inl old ↦ k.1.kept (e.to x.0, x.1) (is.part x old)
            | inr new ↦ subst (λ (y : ℕ × Reply). Contains k.0 (e.to y.0, y.1)) new k.1.has
          ];
          rest = λ x there. elim (k.1.was x there) [
            | inl old ↦ added.kept (e.from x.0, x.1) (is.rest x old)
            | inr new ↦ subst (λ (y : ℕ × Reply). Contains wider (e.from y.0, y.1)) new (subst (λ q. Contains wider (q, reply)) (sym (e.there process)) added.has)
          ];
        },
        k.1,
      )

  -- any placed operations can be exchanged
  pub exchange_all : (placed : List (ℕ × Reply)) → IsRising placed → (others : List (ℕ × Reply)) × IsExchanged e placed others
  exchange_all [] rising = ([], record { before = rising; rising = rising; part = λ x there. absurd (nothing_in x there); rest = λ x there. absurd (nothing_in x there) })
  exchange_all (x ∷ xs) rising =
      let f = exchange_all xs (tail_pairs (λ (p : ℕ × Reply) (q : ℕ × Reply). p.0 < q.0) x xs rising) in
      let k = exchanged_added x.0 x.1 xs (x ∷ xs) f.0 f.1 (first_added x xs rising) in
      (k.0, k.1)

  -- without the pair of a process that keeps its place
  pub exchanged_without : (process : ℕ) (reply : Reply) (placed wider others : List (ℕ × Reply)) → e.to process ≡ process → IsExchanged e wider others → IsAdded process reply placed wider
      → IsExchanged e placed (without process others) × IsAdded process reply (without process others) others
  exchanged_without process reply placed wider others stays is added = (
    record {
      before = added.before;
      rising = out.before;
      part = λ x there. elim (out.was (e.to x.0, x.1) (is.part x (added.kept x there))) [
        | inl left ↦ left
        | inr same ↦ absurd (added.absent x.1 (subst (λ q. Contains placed (q, x.1)) (only_itself process stays x.0 (sym (ap (λ (y : ℕ × Reply). y.0) same))) there))
      ];
      rest = λ x there. elim (added.was (e.from x.0, x.1) (is.rest x (out.kept x there))) [
        | inl left ↦ left
        | inr same ↦ absurd (out.absent x.1 (subst (λ q. Contains (without process others) (q, x.1)) (sym (e.back x.0) ∙ ap e.to (sym (ap (λ (y : ℕ × Reply). y.0) same)) ∙ stays) there))
      ];
    },
    out,
  )
    where
      out : IsAdded process reply (without process others) others
      out = taken_out process reply others is.rising (subst (λ q. Contains others (q, reply)) stays (is.part (process, reply) added.has))

  module _ (functions : Item → Name → Bool) (alternates : IsAlternating functions h) where
    -- the process in its place has an open operation of the same call
    pub opens : (at q : ℕ) (key : Item) (call : Call) → IsOpen h at q key call → (other : ℕ) × (other_key : Item) × IsOpen h other (e.to q) other_key call
    opens at q key call is = elim (e.moves q) [
      | inl same ↦ (at, key, subst (λ p. IsOpen h at p key call) (sym same) is)
      | inr alike ↦ (
        alike.other,
        alike.other_key,
        subst (IsOpen h alike.other (e.to q) alike.other_key) (open_call functions h alternates alike.at at q alike.key key alike.call call alike.first is) alike.second,
      )
    ]

    module _ {S : Type 0} (step : S → Call → S → Reply → Type 0) where
      -- what is placed can be placed by the process in its place
      pub exchanged_placing : (c d : S × List (ℕ × Reply)) (p : Placed) (others : List (ℕ × Reply)) → IsExchanged e c.1 others → (u : IsPlacing step h c p d)
          → (more_of : List (ℕ × Reply)) × IsExchanged e d.1 more_of × (other : ℕ) × (v : IsPlacing step h (c.0, others) (record { at = other; reply = p.reply }) (d.0, more_of)) × (v.process ≡ e.to u.process) × (v.call ≡ u.call)
      exchanged_placing c d p others is u =
          let k = exchanged_added u.process p.reply c.1 d.1 others is u.added in
          let o = opens p.at u.process u.key u.call u.is_open in
          (k.0, k.1, o.0, record { process = e.to u.process; key = o.1; call = u.call; is_open = o.2; steps = u.steps; added = k.2 }, refl, refl)

      pub exchanged_placed_on : (b : S × List (ℕ × Reply)) (others : List (ℕ × Reply)) → IsExchanged e b.1 others → {order : List Placed} (c : S × List (ℕ × Reply)) → IsPlacedOn step h b order c
          → (more_of : List (ℕ × Reply)) × IsExchanged e c.1 more_of × (other : List Placed) × IsPlacedOn step h (b.0, others) other (c.0, more_of)
      exchanged_placed_on b others is c none = (others, is, [], none)
      exchanged_placed_on b others is c (further {d = d} {p = p} way placing) =
          let f = exchanged_placed_on b others is d way in
          let k = exchanged_placing d c p f.0 f.1 placing in
          (k.0, k.1, _, further f.3 k.3)

      -- so is an update
      pub exchanged_update : (observes : Call → Bool) (c d : S × List (ℕ × Reply)) (others : List (ℕ × Reply)) → IsExchanged e c.1 others → (u : IsUpdate step observes h c d)
          → (more_of : List (ℕ × Reply)) × IsExchanged e d.1 more_of × (v : IsUpdate step observes h (c.0, others) (d.0, more_of)) × (v.1.process ≡ e.to u.1.process) × (v.0.reply ≡ u.0.reply)
      exchanged_update observes c d others is u =
          let k = exchanged_added u.1.process u.0.reply c.1 d.1 others is u.1.added in
          let o = opens u.0.at u.1.process u.1.key u.1.call u.1.is_open in (
            k.0,
            k.1,
            (record { at = o.0; reply = u.0.reply }, record { process = e.to u.1.process; key = o.1; call = u.1.call; is_open = o.2; steps = u.1.steps; added = k.2 }, u.2),
            refl,
            refl,
          )

      -- and a way
      record ExchangedWay (observes : Call → Bool) (offers : ℕ × Reply → Type 0) (b : S × List (ℕ × Reply)) (others : List (ℕ × Reply)) (c : S × List (ℕ × Reply)) (way : Way step observes h b c) : Type 0 where
        placed : List (ℕ × Reply)
        exchanged : IsExchanged e c.1 placed
        way' : Way step observes h (b.0, others) (c.0, placed)
        offered : (x : ℕ × Reply) → IsOffered step observes h offers b c way x → IsOffered step observes h offers (b.0, others) (c.0, placed) way' x

      exchanged_way : (observes : Call → Bool) (offers : ℕ × Reply → Type 0) (b : S × List (ℕ × Reply)) (others : List (ℕ × Reply)) → IsExchanged e b.1 others → (c : S × List (ℕ × Reply)) (way : Way step observes h b c)
          → ExchangedWay observes offers b others c way
      exchanged_way observes offers b others is c here = record { placed = others; exchanged = is; way' = here; offered = λ x offered. offered }
      exchanged_way observes offers b others is c (more {c = d} way u) =
          let f = exchanged_way observes offers b others is d way in
          let k = exchanged_update observes d c f.placed f.exchanged u in
          record {
            placed = k.0;
            exchanged = k.1;
            way' = more f.way' k.2;
            offered = λ x offered. elim offered [
              | inl earlier ↦ inl (f.offered x earlier)
              | inr now ↦ inr now
            ];
          }

      -- what meets a configuration meets it, exchanged, from where all is exchanged
      pub exchanged_meets : (observes : Call → Bool) (offers : ℕ × Reply → Type 0) (b : S × List (ℕ × Reply)) (others : List (ℕ × Reply)) → IsExchanged e b.1 others
          → (s : S) (q : List (ℕ × Reply)) → Meets step observes h b offers s q → (r : List (ℕ × Reply)) × IsExchanged e q r × Meets step observes h (b.0, others) offers s r
      exchanged_meets observes offers b others is s q meets =
          let f = exchanged_way observes offers b others is (s, meets.placed) meets.way in
          let k = exchange_all q meets.rising in (
            k.0,
            k.1,
            record {
              placed = f.placed;
              way = f.way';
              before = f.exchanged.rising;
              rising = k.1.rising;
              part = λ x there. subst (λ p. Contains k.0 (p, x.1)) (e.back x.0) (k.1.part (e.from x.0, x.1) (meets.part (e.from x.0, x.1) (f.exchanged.rest x there)));
              each = λ x there. elim (meets.each (e.from x.0, x.1) (k.1.rest x there)) [
                | inl old ↦ inl (subst (λ p. Contains f.placed (p, x.1)) (e.back x.0) (f.exchanged.part (e.from x.0, x.1) old))
                | inr other ↦ inr (elim other [
                  | inl ready ↦ inl (subst (λ p. IsReady step observes h offers (b.0, others) (s, f.placed) f.way' (p, x.1)) (sym (fixed (e.from x.0) ready.0.alive) ∙ e.back x.0) (
                    ready.0,
                    elim ready.1 [
                      | inl offered ↦ inl (f.offered (e.from x.0, x.1) offered)
                      | inr now ↦ inr now
                    ],
                  ))
                  | inr crashed ↦ inr (subst (HasCrashed h) (e.back x.0) (crash_to (e.from x.0) crashed))
                ])
              ];
            },
          )

module _ {h : List Event} (functions : Item → Name → Bool) (alternates : IsAlternating functions h) (e f : Exchange h) where
  -- one exchange after another
  abbrev pub both : Exchange h
  both = record {
    to = λ q. f.to (e.to q);
    from = λ q. e.from (f.from q);
    there = λ q. ap e.from (f.there (e.to q)) ∙ e.there q;
    back = λ q. ap f.to (e.back (f.from q)) ∙ f.back q;
    moves = λ q. elim (e.moves q) [
      | inl same ↦ elim (f.moves (e.to q)) [
        | inl next ↦ inl (next ∙ same)
        | inr alike ↦ inr (subst (λ p. AreAlike h p (f.to (e.to q))) same alike)
      ]
      | inr first ↦ elim (f.moves (e.to q)) [
        | inl next ↦ inr (subst (AreAlike h q) (sym next) first)
        | inr second ↦ inr (through q first second)
      ]
    ];
  }
    where
      through : (q : ℕ) → AreAlike h q (e.to q) → AreAlike h (e.to q) (f.to (e.to q)) → AreAlike h q (f.to (e.to q))
      through q a b = record {
        at = a.at;
        other = b.other;
        key = a.key;
        other_key = b.other_key;
        call = a.call;
        first = a.first;
        second = subst (IsOpen h b.other (f.to (e.to q)) b.other_key) (open_call functions h alternates b.at a.other (e.to q) b.key a.other_key b.call a.call b.first a.second) b.second;
        crashed = a.crashed;
        other_crashed = b.other_crashed;
      }

  pub exchanged_both : (placed middle others : List (ℕ × Reply)) → IsExchanged e placed middle → IsExchanged f middle others → IsExchanged both placed others
  exchanged_both placed middle others first second = record {
    before = first.before;
    rising = second.rising;
    part = λ x there. second.part (e.to x.0, x.1) (first.part x there);
    rest = λ x there. first.rest (f.from x.0, x.1) (second.rest x there);
  }

-- by another member that leads to the same
pub covered_by : {S : Type 0} (step : S → Call → S → Reply → Type 0) (observes : Call → Bool) (h : List Event) (members others : List (Member S)) (c : S × List (ℕ × Reply)) (found : IsCovered step observes h members c)
    → (n : Member S) × Contains others n × LeadsToCover step observes h n (c.0, found.placed) → IsCovered step observes h others c
covered_by step observes h members others c found by =
    record { exchange = found.exchange; placed = found.placed; exchanged = found.exchanged; member = by.0; among = by.1; leads = by.2 }

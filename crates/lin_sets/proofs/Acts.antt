-- The operations of a set that are put into an order: each ok read, and each add that did not fail.
use Rattle.std.proofs.Common.{◌≡◌, ◌≢◌, ◌<◌, ◌≤◌, ℕ, zero, suc, List, [], ◌∷◌, ◌⊎◌, inl, inr, Contains, length, Option, Some, None, slice_get, refl, sym, ap, subst, ◌∙◌, arith}
use Rattle.std.proofs.lemmas.Bool.{cases_lt}
use Rattle.std.proofs.lemmas.Option.{slice_get_within}
use Rattle.lin_events.specs.declared.items.Item.{Item}
use Rattle.lin_events.specs.declared.calls.Call.{Call}
use Rattle.lin_events.specs.declared.calls.Call.TheVariants.{Read, Add}
use Rattle.lin_events.specs.declared.calls.Reply.{Reply}
use Rattle.lin_events.specs.declared.calls.Reply.TheVariants as Replied
use Rattle.lin_events.specs.declared.events.Body.{Body}
use Rattle.lin_events.specs.declared.events.Body.TheVariants.{Invoke, Ok, Fail, Info}
use Rattle.lin_events.specs.declared.events.Event.{Event}
use Rattle.lin_events.specs.Operations.{IsEvent, IsEnd, IsOk, IsFailed}
use Rattle.lin_events.specs.lemmas.Deciding.{first_between, key_cases}
use Rattle.lin_lists.specs.lemmas.Elements.{first_or_rest, nothing_in}
use Rattle.lin_order.specs.Orders.{IsCall}
use Rattle.lin_order.specs.lemmas.OneEnd.{call_since, no_call, one_call, one_ending, one_ok, one_process}
use Rattle.lin_sets.proofs.Ordered.{IsOrdered, here, later}
use Rattle.lin_sets.proofs.Timing.{Act}

abbrev pub Differ : Act → Act → Type 0
Differ a b = a.0 ≢ b.0

module _ (h : List Event) where
  -- an operation begins at the place, or not
  call_or_not : (at : ℕ) → ((call : Call) × IsCall h at call) ⊎ ((call : Call) → IsCall h at call → ⊥)
  call_or_not at = by (slice_get h at) refl
    where
      body : (event : Event) → IsEvent h at event → (b : Body) → event.body ≡ b → ((call : Call) × IsCall h at call) ⊎ ((call : Call) → IsCall h at call → ⊥)
      body event there (Invoke call) is = let on = call_since h at event there call is in inl (call, (on.0, event.key, on.1))
      body event there (Ok name reply) is = inr (no_call h at event there (λ call same. let e = sym is ∙ same in cc))
      body event there (Fail name) is = inr (no_call h at event there (λ call same. let e = sym is ∙ same in cc))
      body event there (Info name) is = inr (no_call h at event there (λ call same. let e = sym is ∙ same in cc))

      by : (o : Option Event) → slice_get h at ≡ o → ((call : Call) × IsCall h at call) ⊎ ((call : Call) → IsCall h at call → ⊥)
      by None none = inr (λ call is. let e = sym none ∙ is.2 in cc)
      by (Some event) there = body event there event.body refl

  -- an operation ends, or not
  end_or_not : (at : ℕ) (call : Call) → IsCall h at call → ((end : ℕ) × (ending : Event) × IsEnd h at end ending) ⊎ ((end : ℕ) (ending : Event) → IsEnd h at end ending → ⊥)
  end_or_not at call is = elim (first_between h is.0 at (length h)) [
    | inl none ↦ inr (λ end ending e. none end e.later (slice_get_within h end ending e.ends)
        (ending, e.ends, e.same ∙ one_process h at e.process is.0 (_, e.begins, refl) (_, is.2, refl)))
    | inr found ↦ inl (
      found.0,
      found.3.0,
      record {
        process = is.0;
        key = is.1;
        call = call;
        begins = is.2;
        later = found.1;
        ends = found.3.1;
        same = found.3.2;
        least = found.4;
      },
    )
  ]

  -- it failed, or not
  pub failed_or_not : (at : ℕ) (call : Call) → IsCall h at call → IsFailed h at ⊎ (IsFailed h at → ⊥)
  failed_or_not at call is = elim (end_or_not at call is) [
    | inr none ↦ inr (λ failed. none failed.0 failed.1 failed.2)
    | inl found ↦ by found.0 found.1 found.2 found.1.body refl
  ]
    where
      by : (end : ℕ) (ending : Event) → IsEnd h at end ending → (b : Body) → ending.body ≡ b → IsFailed h at ⊎ (IsFailed h at → ⊥)
      by end ending e (Fail name) same = inl (end, ending, e, name, same)
      by end ending e (Invoke c) same = inr (λ failed. let f = sym same ∙ ap (λ (x : Event). x.body) (one_ending h at end failed.0 ending failed.1 e failed.2) ∙ failed.4 in cc)
      by end ending e (Ok name reply) same = inr (λ failed. let f = sym same ∙ ap (λ (x : Event). x.body) (one_ending h at end failed.0 ending failed.1 e failed.2) ∙ failed.4 in cc)
      by end ending e (Info name) same = inr (λ failed. let f = sym same ∙ ap (λ (x : Event). x.body) (one_ending h at end failed.0 ending failed.1 e failed.2) ∙ failed.4 in cc)

  -- it is ok, or not
  ok_or_not : (at : ℕ) (call : Call) → IsCall h at call → ((end : ℕ) × (reply : Reply) × IsOk h at end reply) ⊎ ((end : ℕ) (reply : Reply) → IsOk h at end reply → ⊥)
  ok_or_not at call is = elim (end_or_not at call is) [
    | inr none ↦ inr (λ end reply ok. none end ok.0 ok.1)
    | inl found ↦ by found.0 found.1 found.2 found.1.body refl
  ]
    where
      by : (end : ℕ) (ending : Event) → IsEnd h at end ending → (b : Body) → ending.body ≡ b
          → ((end : ℕ) × (reply : Reply) × IsOk h at end reply) ⊎ ((end : ℕ) (reply : Reply) → IsOk h at end reply → ⊥)
      by end ending e (Ok name reply) same = inl (end, reply, (ending, e, name, same))
      by end ending e (Invoke c) same = inr (λ until reply ok. let f = sym same ∙ ap (λ (x : Event). x.body) (one_ending h at end until ending ok.0 e ok.1) ∙ ok.3 in cc)
      by end ending e (Fail name) same = inr (λ until reply ok. let f = sym same ∙ ap (λ (x : Event). x.body) (one_ending h at end until ending ok.0 e ok.1) ∙ ok.3 in cc)
      by end ending e (Info name) same = inr (λ until reply ok. let f = sym same ∙ ap (λ (x : Event). x.body) (one_ending h at end until ending ok.0 e ok.1) ∙ ok.3 in cc)

  -- an ok operation did not fail
  pub not_both : (at end : ℕ) (reply : Reply) → IsOk h at end reply → IsFailed h at → ⊥
  not_both at end reply ok failed = let f = sym ok.3 ∙ ap (λ (x : Event). x.body) (one_ending h at end failed.0 ok.0 failed.1 ok.1 failed.2) ∙ failed.4 in cc

  abbrev pub IsAct : Act → Type 0
  IsAct (at, inl n) = IsCall h at (Add n) × (IsFailed h at → ⊥)
  IsAct (at, inr s) = IsCall h at Read × ((end : ℕ) × IsOk h at end (Replied.Members s))

  pub call_of : (a : Act) → IsAct a → (call : Call) × IsCall h a.0 call
  call_of (at, inl n) act = (Add n, act.0)
  call_of (at, inr s) act = (Read, act.0)

  -- one stands at a place
  one_act : (a b : Act) → IsAct a → IsAct b → a.0 ≡ b.0 → a ≡ b
  one_act (at, inl n) (k, inl m) act other same =
      let calls = one_call h at (Add n) (Add m) act.0 (subst (λ i. IsCall h i (Add m)) (sym same) other.0) in
      let items : n ≡ m = cc in
      cc
  one_act (at, inl n) (k, inr s) act other same =
      let calls = one_call h at (Add n) Read act.0 (subst (λ i. IsCall h i Read) (sym same) other.0) in cc
  one_act (at, inr s) (k, inl m) act other same =
      let calls = one_call h at Read (Add m) act.0 (subst (λ i. IsCall h i (Add m)) (sym same) other.0) in cc
  one_act (at, inr s) (k, inr t) act other same =
      let replies = (one_ok h at act.1.0 other.1.0 (Replied.Members s) (Replied.Members t) act.1.1 (subst (λ i. IsOk h i other.1.0 (Replied.Members t)) (sym same) other.1.1)).1 in
      let members : s ≡ t = cc in
      cc

  -- the one of the place, if there is one
  act_at : (at : ℕ) → ((a : Act) × (a.0 ≡ at) × IsAct a) ⊎ ((a : Act) → a.0 ≡ at → IsAct a → ⊥)
  act_at at = elim (call_or_not at) [
    | inr none ↦ inr (λ a same act. none (call_of a act).0 (subst (λ k. IsCall h k (call_of a act).0) same (call_of a act).1))
    | inl some ↦ by some.0 some.1
  ]
    where
      other_call : (call : Call) → IsCall h at call → ((n : Item) → call ≡ Add n → ⊥) → (call ≡ Read → ⊥) → (a : Act) → a.0 ≡ at → IsAct a → ⊥
      other_call call is no_add no_read (k, inl n) same act = no_add n (one_call h at call (Add n) is (subst (λ i. IsCall h i (Add n)) same act.0))
      other_call call is no_add no_read (k, inr s) same act = no_read (one_call h at call Read is (subst (λ i. IsCall h i Read) same act.0))

      failed_add : (n : Item) → IsCall h at (Add n) → IsFailed h at → (a : Act) → a.0 ≡ at → IsAct a → ⊥
      failed_add n is failed (k, inl m) same act = act.1 (subst (IsFailed h) (sym same) failed)
      failed_add n is failed (k, inr s) same act = let calls = one_call h at (Add n) Read is (subst (λ i. IsCall h i Read) same act.0) in cc

      other_read : IsCall h at Read → ((end : ℕ) (s : List Item) → IsOk h at end (Replied.Members s) → ⊥) → (a : Act) → a.0 ≡ at → IsAct a → ⊥
      other_read is none (k, inl m) same act = let calls = one_call h at Read (Add m) is (subst (λ i. IsCall h i (Add m)) same act.0) in cc
      other_read is none (k, inr s) same act = none act.1.0 s (subst (λ i. IsOk h i act.1.0 (Replied.Members s)) same act.1.1)

      replied : IsCall h at Read → (end : ℕ) (reply : Reply) → IsOk h at end reply → ((a : Act) × (a.0 ≡ at) × IsAct a) ⊎ ((a : Act) → a.0 ≡ at → IsAct a → ⊥)
      replied is end (Replied.Members s) ok = inl ((at, inr s), refl, (is, (end, ok)))
      replied is end Replied.Done ok = inr (other_read is (λ until s also. let replies = (one_ok h at end until Replied.Done (Replied.Members s) ok also).1 in cc))
      replied is end (Replied.Value v) ok = inr (other_read is (λ until s also. let replies = (one_ok h at end until (Replied.Value v) (Replied.Members s) ok also).1 in cc))

      by : (call : Call) → IsCall h at call → ((a : Act) × (a.0 ≡ at) × IsAct a) ⊎ ((a : Act) → a.0 ≡ at → IsAct a → ⊥)
      by (Add n) is = elim (failed_or_not at (Add n) is) [
        | inl failed ↦ inr (failed_add n is failed)
        | inr live ↦ inl ((at, inl n), refl, (is, live))
      ]
      by Read is = elim (ok_or_not at Read is) [
        | inl ok ↦ replied is ok.0 ok.1 ok.2
        | inr none ↦ inr (other_read is (λ end s ok. none end (Replied.Members s) ok))
      ]
      by call is = inr (other_call call is (λ n same. cc) (λ same. cc))

  -- those that begin before the place
  record ListsActs (n : ℕ) (acts : List Act) : Type 0 where
    differ : IsOrdered Differ acts
    each : (a : Act) → Contains acts a → IsAct a × (a.0 < n)
    all : (a : Act) → IsAct a → a.0 < n → Contains acts a

  acts_before : (n : ℕ) → (acts : List Act) × ListsActs n acts
  acts_before zero = ([], record { differ = tt; each = λ a there. absurd (nothing_in a there); all = λ a act before. absurd (omega (arith, before)) })
  acts_before (suc n) =
      let rest = acts_before n in
      elim (act_at n) [
        | inl some ↦ (
          some.0 ∷ rest.0,
          record {
            differ = (λ b there same. let before = (rest.1.each b there).1 in let at = some.1 in omega (arith, before, at, same), rest.1.differ);
            each = λ a there. elim (first_or_rest some.0 rest.0 a there) [
              | inl same ↦ (subst IsAct same some.2, let at = some.1 in subst (λ (x : Act). x.0 < suc n) same (omega (arith, at)))
              | inr more ↦ let known = rest.1.each a more in (known.0, let before = known.1 in omega (arith, before))
            ];
            all = λ a act before. elim (cases_lt a.0 n) [
              | inl less ↦ later some.0 rest.0 a (rest.1.all a act less)
              | inr from ↦ subst (Contains (some.0 ∷ rest.0)) (one_act some.0 a some.2 act (let at = some.1 in omega (arith, at, before, from))) (here some.0 rest.0)
            ];
          },
        )
        | inr none ↦ (
          rest.0,
          record {
            differ = rest.1.differ;
            each = λ a there. let known = rest.1.each a there in (known.0, let before = known.1 in omega (arith, before));
            all = λ a act before. elim (cases_lt a.0 n) [
              | inl less ↦ rest.1.all a act less
              | inr from ↦ absurd (none a (omega (arith, before, from)) act)
            ];
          },
        )
      ]

  -- all of the history
  pub record AreActs (acts : List Act) : Type 0 where
    pub differ : IsOrdered Differ acts
    pub each : (a : Act) → Contains acts a → IsAct a
    pub all : (a : Act) → IsAct a → Contains acts a

  pub acts_of : (acts : List Act) × AreActs acts
  acts_of =
      let found = acts_before (length h) in (
        found.0,
        record {
          differ = found.1.differ;
          each = λ a there. (found.1.each a there).0;
          all = λ a act. let call = call_of a act in found.1.all a act (slice_get_within h a.0 _ call.1.2);
        },
      )

-- an add is no read
pub no_read : (at k : ℕ) (n : Item) (s : List Item) → ◌≡◌ {A = Act} (at, inl n) (k, inr s) → ⊥
no_read at k n s same = let kinds : ◌≡◌ {A = Item ⊎ List Item} (inl n) (inr s) = ap (λ (x : Act). x.1) same in cc

pub same_item : (at k : ℕ) (m n : Item) → ◌≡◌ {A = Act} (at, inl m) (k, inl n) → m ≡ n
same_item at k m n same = let kinds : ◌≡◌ {A = Item ⊎ List Item} (inl m) (inl n) = ap (λ (x : Act). x.1) same in cc

-- the first add of an item, if there is one
pub first_add : (acts : List Act) (n : Item) → ((at : ℕ) × Contains acts (at, inl n) × ((k : ℕ) → Contains acts (k, inl n) → at ≤ k)) ⊎ ((k : ℕ) → Contains acts (k, inl n) → ⊥)
first_add [] n = inr (λ k there. nothing_in (k, inl n) there)
first_add ((at, inr s) ∷ acts) n = elim (first_add acts n) [
  | inl found ↦ inl (
    found.0,
    later (at, inr s) acts (found.0, inl n) found.1,
    λ k there. elim (first_or_rest (at, inr s) acts (k, inl n) there) [
      | inl same ↦ absurd (no_read k at n s (sym same))
      | inr rest ↦ found.2 k rest
    ],
  )
  | inr none ↦ inr (λ k there. elim (first_or_rest (at, inr s) acts (k, inl n) there) [
    | inl same ↦ no_read k at n s (sym same)
    | inr rest ↦ none k rest
  ])
]
first_add ((at, inl m) ∷ acts) n = elim (key_cases m n) [
  | inr other ↦ elim (first_add acts n) [
    | inl found ↦ inl (
      found.0,
      later (at, inl m) acts (found.0, inl n) found.1,
      λ k there. elim (first_or_rest (at, inl m) acts (k, inl n) there) [
        | inl same ↦ absurd (other (same_item at k m n same))
        | inr rest ↦ found.2 k rest
      ],
    )
    | inr none ↦ inr (λ k there. elim (first_or_rest (at, inl m) acts (k, inl n) there) [
      | inl same ↦ other (same_item at k m n same)
      | inr rest ↦ none k rest
    ])
  ]
  | inl same ↦
      let mine : Contains ((at, inl m) ∷ acts) (at, inl n) = subst (λ x. Contains ((at, inl m) ∷ acts) (at, inl x)) same (here (at, inl m) acts) in
      elim (first_add acts n) [
        | inr none ↦ inl (
          at,
          mine,
          λ k there. elim (first_or_rest (at, inl m) acts (k, inl n) there) [
            | inl this ↦ let place : at ≡ k = ap (λ (x : Act). x.0) this in omega (arith, place)
            | inr rest ↦ absurd (none k rest)
          ],
        )
        | inl found ↦ elim (cases_lt found.0 at) [
          | inl less ↦ inl (
            found.0,
            later (at, inl m) acts (found.0, inl n) found.1,
            λ k there. elim (first_or_rest (at, inl m) acts (k, inl n) there) [
              | inl this ↦ let place : at ≡ k = ap (λ (x : Act). x.0) this in omega (arith, place, less)
              | inr rest ↦ found.2 k rest
            ],
          )
          | inr from ↦ inl (
            at,
            mine,
            λ k there. elim (first_or_rest (at, inl m) acts (k, inl n) there) [
              | inl this ↦ let place : at ≡ k = ap (λ (x : Act). x.0) this in omega (arith, place)
              | inr rest ↦ let least = found.2 k rest in omega (arith, least, from)
            ],
          )
        ]
      ]
]

-- the reads among them
abbrev pub reads_of : List Act → List (ℕ × List Item)
reads_of [] = []
reads_of ((at, inl n) ∷ acts) = reads_of acts
reads_of ((at, inr s) ∷ acts) = (at, s) ∷ reads_of acts

pub read_among : (acts : List Act) (r : ℕ × List Item) → Contains (reads_of acts) r → Contains acts (r.0, inr r.1)
read_among [] r there = absurd (nothing_in r there)
read_among ((at, inl n) ∷ acts) r there = later (at, inl n) acts (r.0, inr r.1) (read_among acts r there)
read_among ((at, inr s) ∷ acts) r there = elim (first_or_rest (at, s) (reads_of acts) r there) [
  | inl same ↦ subst (λ (x : ℕ × List Item). Contains ((at, inr s) ∷ acts) (x.0, inr x.1)) same (here (at, inr s) acts)
  | inr rest ↦ later (at, inr s) acts (r.0, inr r.1) (read_among acts r rest)
]

pub among_reads : (acts : List Act) (r : ℕ × List Item) → Contains acts (r.0, inr r.1) → Contains (reads_of acts) r
among_reads [] r there = absurd (nothing_in (r.0, inr r.1) there)
among_reads ((at, inl n) ∷ acts) r there = elim (first_or_rest (at, inl n) acts (r.0, inr r.1) there) [
  | inl same ↦ absurd (no_read at r.0 n r.1 same)
  | inr rest ↦ among_reads acts r rest
]
among_reads ((at, inr s) ∷ acts) r there = elim (first_or_rest (at, inr s) acts (r.0, inr r.1) there) [
  | inl same ↦ subst (Contains ((at, s) ∷ reads_of acts)) (as_read same) (here (at, s) (reads_of acts))
  | inr rest ↦ later (at, s) (reads_of acts) r (among_reads acts r rest)
]
  where
    as_read : ◌≡◌ {A = Act} (at, inr s) (r.0, inr r.1) → (at, s) ≡ r
    as_read e =
        let place : at ≡ r.0 = ap (λ (x : Act). x.0) e in
        let found : ◌≡◌ {A = Item ⊎ List Item} (inr s) (inr r.1) = ap (λ (x : Act). x.1) e in
        let members : s ≡ r.1 = cc in
        λ i. (place i, members i)

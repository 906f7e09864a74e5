-- What members show, gathered, is all that legal orders show: the possible states, and what an open operation could have been answered.
use Rattle.std.proofs.Common.{is_some, true, false, true≢false, ◌≡◌, ◌≢◌, ℕ, ◌+◌, Bool, List, [], ◌∷◌, ◌++◌, Contains, get_or, take, Some, None, slice_get, inl, inr, refl, sym, ap, subst, ◌∙◌, arith, add-one}
use Rattle.std.specs.Cmp.{decided}
use Rattle.std.specs.Map.{keys_of, lookup}
use Rattle.std.specs.Prelude.{Decides}
use Rattle.std.proofs.lemmas.Map.Views.{Contains-keys_from_lookup, IsSome-lookup_from_Contains}
use Rattle.std.proofs.lemmas.List.Elements.{Contains-append_left, Contains-get_or, Contains-push, Contains-push_cases}
use Rattle.std.proofs.lemmas.List.Quantifiers.{all_pairs_push}
use Rattle.lin_events.specs.declared.items.Item.{Item}
use Rattle.lin_events.specs.declared.calls.Reply.{Reply}
use Rattle.lin_events.specs.declared.calls.Name.{Name}
use Rattle.lin_events.specs.declared.events.Event.{Event}
use Rattle.lin_events.specs.WellFormed.{IsWellFormed}
use Rattle.lin_objects.specs.declared.kinds.Kind.{Kind}
use Rattle.lin_objects.specs.declared.states.State.{State}
use Rattle.lin_objects.specs.Laws.{RepliesDecide}
use Rattle.lin_objects.specs.Steps.{Step, start}
use Rattle.lin_order.specs.declared.placed.Placed.{Placed}
use Rattle.lin_order.specs.ConfigurationLaws.{LegalOrdersEnd}
use Rattle.lin_order.specs.Linearizable.{IsLegalOrderAs, IsLinearizableAs, Runs}
use Rattle.lin_order.specs.lemmas.Running.{runs_one}
use Rattle.lin_frontier.specs.lemmas.Absorbing.{keys_push}
use Rattle.lin_frontier.specs.lemmas.Closing.{key_in}
use Rattle.lin_lists.specs.lemmas.Elements.{all_of}
use Rattle.lin_lists.specs.lemmas.Lists.{take_next}
use Rattle.lin_members.specs.declared.members.Path.{Path}
use Rattle.lin_members.specs.Covers.{HasCrashed}
use Rattle.lin_members.specs.Members.{Member}
use Rattle.lin_possibilities.specs.declared.possible.Possible.{Possible}
use Rattle.lin_possibilities.specs.After.{IsAfter, IsWay}
use Rattle.lin_possibilities.specs.Possible.{AreShown, Answers, LeavesIn}
use Rattle.lin_possibilities.specs.inner.Gathering.{IsGathered, IsPut, IsTakenFrom}

nothing : {A : Type 0} (x : A) → Contains [] x → ⊥
nothing x there = let inside = there.1 in omega arith

-- what a compressed frontier holds
abbrev pub Led : Type 0
Led = Member State × Path

-- of no member nothing is there
pub gathered_none : {T : Type 0} (shows : Led → T → Type 0) (found : List (T × ℕ)) → found ≡ [] → IsGathered shows [] found
gathered_none {T} shows found empty = subst (IsGathered shows []) (sym empty) (record {
  sound = λ e there. absurd (nothing e there);
  complete = λ m what there. absurd (nothing m there);
  once = λ i j d below inside. absurd (omega arith);
})

module _ {K : Type 0} (eq : K → K → Bool) (decides : (x y : K) → Decides (eq x y) (x ≡ y)) (k : K) (node : ℕ) where
  -- a key that is there
  pub put_there : (es : List (K × ℕ)) → is_some (lookup (eq k) es) ≡ true → IsPut k node es es
  put_there es is = inl (Contains-keys_from_lookup (λ x y. (decides x y).0) k es is, refl)

  -- a key that is new
  pub put_new : (es now : List (K × ℕ)) → is_some (lookup (eq k) es) ≡ false → now ≡ es ++ (k, node) ∷ [] → IsPut k node es now
  put_new es now none is = inr (λ there. true≢false (sym (IsSome-lookup_from_Contains (decided eq decides) k es there) ∙ none), is)

module _ {C T : Type 0} (shows : C → T → Type 0) (c : C) (node : ℕ) where
  -- nothing was put, where it shows nothing
  pub taken_none : (old : List (T × ℕ)) → ((what : T) → shows c what → ⊥) → IsTakenFrom shows c node old old
  taken_none old never = record {
    sound = λ e there. inl there;
    kept = λ what there. there;
    has = λ what shown. absurd (never what shown);
    once = λ all. all;
  }

  -- the one thing that the configuration shows was put
  pub taken_put : (what : T) (old now : List (T × ℕ)) → shows c what → ((other : T) → shows c other → what ≡ other) → IsPut what node old now → IsTakenFrom shows c node old now
  taken_put what old now shown only put = elim put [
    | inl is ↦ subst (IsTakenFrom shows c node old) (sym is.1) (record {
      sound = λ e there. inl there;
      kept = λ t there. there;
      has = λ t shown'. subst (Contains (keys_of old)) (only t shown') is.0;
      once = λ all. all;
    })
    | inr is ↦ subst (IsTakenFrom shows c node old) (sym is.1) (record {
      sound = λ e there. elim (Contains-push_cases old (what, node) e there) [
        | inl before ↦ inl before
        | inr same ↦ inr (subst (λ (x : T × ℕ). (x.1 ≡ node) × shows c x.0) same (refl, shown))
      ];
      kept = λ t there. subst (λ l. Contains l t) (sym (keys_push old what node)) (Contains-append_left (keys_of old) (what ∷ []) t there);
      has = λ t shown'. subst (λ l. Contains l t) (sym (keys_push old what node)) (subst (Contains (keys_of old ++ what ∷ [])) (only t shown') (Contains-push (keys_of old) what));
      once = λ all. all_pairs_push (λ d e. d.0 ≢ e.0) old (what, node) all
          (λ k d inside same. is.0 (subst (Contains (keys_of old)) same (key_in old (get_or old k d) (Contains-get_or old k d inside))));
    })
  ]

-- what one more pair answers the process
module _ (process node : ℕ) where
  abbrev pub AnswersIn : List (ℕ × Reply) → Reply → Type 0
  AnswersIn pairs reply = Contains pairs (process, reply)

  pub taken_next : (pairs : List (ℕ × Reply)) (i : ℕ) (pair : ℕ × Reply) (first old now : List (Reply × ℕ)) → slice_get pairs i ≡ Some pair
      → IsTakenFrom (λ (p : ℕ × Reply). λ reply. p ≡ (process, reply)) pair node old now → IsTakenFrom AnswersIn (take i pairs) node first old → IsTakenFrom AnswersIn (take (i + 1) pairs) node first now
  taken_next pairs i pair first old now is one before = record {
    sound = λ e there. elim (one.sound e there) [
      | inl was ↦ elim (before.sound e was) [
        | inl begun ↦ inl begun
        | inr of_it ↦ inr (of_it.0, subst (λ l. Contains l (process, e.0)) (sym longer) (Contains-append_left (take i pairs) (pair ∷ []) (process, e.0) of_it.1))
      ]
      | inr new ↦ inr (new.0, subst (λ l. Contains l (process, e.0)) (sym longer) (subst (Contains (take i pairs ++ pair ∷ [])) new.1 (Contains-push (take i pairs) pair)))
    ];
    kept = λ reply there. one.kept reply (before.kept reply there);
    has = λ reply there. elim (Contains-push_cases (take i pairs) pair (process, reply) (subst (λ l. Contains l (process, reply)) longer there)) [
      | inl was ↦ one.kept reply (before.has reply was)
      | inr same ↦ one.has reply same
    ];
    once = λ all. one.once (before.once all);
  }
    where
      longer : take (i + 1) pairs ≡ take i pairs ++ pair ∷ []
      longer = ap (λ n. take n pairs) (add-one i) ∙ take_next i pairs pair is

  -- of all pairs, as a member holds them
  pub taken_all : (m : Led) (pairs : List (ℕ × Reply)) (first now : List (Reply × ℕ)) → pairs ≡ m.0.placed → IsTakenFrom AnswersIn pairs node first now
      → IsTakenFrom (λ (n : Led). λ reply. Contains n.0.placed (process, reply)) m node first now
  taken_all m pairs first now same taken = record {
    sound = λ e there. elim (taken.sound e there) [ inl was ↦ inl was | inr new ↦ inr (new.0, subst (λ l. Contains l (process, e.0)) same new.1) ];
    kept = taken.kept;
    has = λ reply there. taken.has reply (subst (λ l. Contains l (process, reply)) (sym same) there);
    once = taken.once;
  }

  -- of no pair
  pub taken_begun : (first : List (Reply × ℕ)) → IsTakenFrom AnswersIn [] node first first
  taken_begun first = taken_none AnswersIn [] node first (λ reply there. nothing (process, reply) there)

-- what one more member shows
pub gathered_next : {T : Type 0} (shows : Led → T → Type 0) (members : List Led) (i : ℕ) (m : Led) (old now : List (T × ℕ)) → slice_get members i ≡ Some m
    → IsTakenFrom shows m m.1.node old now → IsGathered shows (take i members) old → IsGathered shows (take (i + 1) members) now
gathered_next {T} shows members i m old now is taken before = record {
  sound = λ e there. elim (taken.sound e there) [
    | inl was ↦ let s = before.sound e was in (s.0, left s.0 s.1, s.2, s.3)
    | inr new ↦ (m, last, sym new.0, new.1)
  ];
  complete = λ n what there shown. elim (Contains-push_cases (take i members) m n (subst (λ l. Contains l n) longer there)) [
    | inl was ↦ taken.kept what (before.complete n what was shown)
    | inr same ↦ taken.has what (subst (λ (x : Led). shows x what) (sym same) shown)
  ];
  once = taken.once before.once;
}
  where
    longer : take (i + 1) members ≡ take i members ++ m ∷ []
    longer = ap (λ n. take n members) (add-one i) ∙ take_next i members m is

    left : (n : Led) → Contains (take i members) n → Contains (take (i + 1) members) n
    left n there = subst (λ l. Contains l n) (sym longer) (Contains-append_left (take i members) (m ∷ []) n there)

    last : Contains (take (i + 1) members) m
    last = subst (λ l. Contains l m) (sym longer) (Contains-push (take i members) m)

module _ (possible : Possible) (kind : Kind) (h : List Event) (is : IsAfter possible kind h) (ends : LegalOrdersEnd (start kind) (Step kind)) (functions : Item → Name → Bool)
    (well_formed : IsWellFormed functions h) where
  -- the states of all members are all possible ones
  pub states_shown : RepliesDecide → (found : List (State × ℕ)) → IsGathered (λ (m : Led). λ state. m.0.state ≡ state) possible.members.items found → AreShown (LeavesIn kind h) (IsWay possible) found
  states_shown decide found gathered = record {
    sound = all_of (λ (e : State × ℕ). (order : List Placed) × IsWay possible e.1 order × LeavesIn kind h order e.0) found (λ e there.
        let from = gathered.sound e there in
        let by = is.sound from.0 from.1 in (
          by.0,
          subst (λ way. IsWay possible way by.0) from.2 by.1,
          record { order_of = by.2.order_of; runs = subst (Runs (Step kind) h (start kind) by.0) from.3 by.2.runs },
        ));
    complete = λ order state leaves.
        let end = ends functions h order well_formed (record { order_of = leaves.order_of; legal = (state, leaves.runs) }) in
        let same : end.0.0 ≡ state = runs_one (Step kind) h (decide kind) (start kind) end.0.0 state order end.1.runs leaves.runs in
        let m = is.states end.0 (order, end.1) in
        gathered.complete m.0 state m.1 (m.2 ∙ same);
    once = gathered.once;
  }

  -- and what they say that an operation was answered is all that it could have been
  pub replies_shown : (process : ℕ) → (HasCrashed h process → ⊥) → (found : List (Reply × ℕ)) → IsGathered (λ (m : Led). λ reply. Contains m.0.placed (process, reply)) possible.members.items found
      → AreShown (Answers kind h process) (IsWay possible) found
  replies_shown process live found gathered = record {
    sound = all_of (λ (e : Reply × ℕ). (order : List Placed) × IsWay possible e.1 order × Answers kind h process order e.0) found (λ e there.
        let from = gathered.sound e there in
        let by = is.sound from.0 from.1 in
        let placed = by.2.placed.sound process e.0 from.3 in (
          by.0,
          subst (λ way. IsWay possible way by.0) from.2 by.1,
          record {
            legal = record { order_of = by.2.order_of; legal = (from.0.0.state, by.2.runs) };
            at = placed.0;
            key = placed.1;
            call = placed.2;
            is_open = placed.3;
            placed = placed.4;
          },
        ));
    complete = λ order reply answers.
        let end = ends functions h order well_formed answers.legal in
        let placed = end.1.placed.complete answers.at process answers.key answers.call reply answers.is_open answers.placed in
        let m = is.replies end.0 (process, reply) (order, end.1) placed live in
        gathered.complete m.0 reply m.1 m.2;
    once = gathered.once;
  }

  -- where there is no member there is no legal order
  pub none_legal : possible.members.items ≡ [] → IsLinearizableAs kind h → ⊥
  none_legal empty lin =
      let end = ends functions h lin.0 well_formed lin.1 in
      let m = is.states end.0 (lin.0, end.1) in
      nothing m.0 (subst (λ l. Contains l m.0) empty m.1)

-- the way of a member tells a legal order
pub way_legal : (possible : Possible) (kind : Kind) (h : List Event) (m : Led) → Contains possible.members.items m → IsAfter possible kind h
    → (order : List Placed) × IsWay possible m.1.node order × IsLegalOrderAs kind h order
way_legal possible kind h m there is = let by = is.sound m there in (by.0, by.1, record { order_of = by.2.order_of; legal = (m.0.state, by.2.runs) })

-- the first element of a list
pub first_in : {A : Type 0} (xs ys : List A) (x : A) → xs ≡ ys → Some x ≡ slice_get xs 0 → Contains ys x
first_in [] ys x same is = absurd (never is)
  where
    never : Some x ≡ slice_get [] 0 → ⊥
    never e = cc
first_in (y ∷ xs) ys x same is = subst (λ l. Contains l x) same (0, omega arith, some_same is)
  where
    some_same : Some x ≡ slice_get (y ∷ xs) 0 → y ≡ x
    some_same e = cc

pub none_first : {A : Type 0} (xs ys : List A) → xs ≡ ys → None ≡ slice_get xs 0 → ys ≡ []
none_first [] ys same is = sym same
none_first {A} (y ∷ xs) ys same is = absurd (never is)
  where
    never : None ≡ slice_get (y ∷ xs) 0 → ⊥
    never e = cc

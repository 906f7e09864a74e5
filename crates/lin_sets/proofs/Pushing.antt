-- One more event that is no ok.
use Rattle.std.proofs.Common.{◌≡◌, ◌+◌, ◌⊎◌, ◌∷◌, ◌++◌, [], ℕ, List, Option, None, Some, cond, nat_eq, take, length, length-append, inl, inr, refl, sym, ap, subst, ◌∙◌, arith}
use Rattle.std.proofs.lemmas.Bool.{cases_eq, cases_Bool}
use Rattle.std.proofs.lemmas.Bool.Decides.{Decides-eqb}
use Rattle.std.proofs.lemmas.Option.{slice_get_within}
use Rattle.lin_events.specs.declared.items.Item.{Item}
use Rattle.lin_events.specs.declared.calls.Call.{Call}
use Rattle.lin_events.specs.declared.calls.Call.TheVariants.{Add}
use Rattle.lin_events.specs.declared.calls.Name.{Name}
use Rattle.lin_events.specs.declared.calls.Reply.{Reply}
use Rattle.lin_events.specs.declared.events.Event.{Event}
use Rattle.lin_events.specs.declared.events.Body.TheVariants.{Invoke, Ok, Fail}
use Rattle.lin_events.specs.Operations.{IsEnd, IsEvent, IsOpen, IsOperation}
use Rattle.lin_events.specs.lemmas.OneMore.{failed_before, failed_kept, invoked, alternates_before, operation_before, operation_kept, end_inside, ok_before, one_caller, one_call}
use Rattle.lin_lists.specs.lemmas.Lists.{get_left, get_cases, get_last}
use Rattle.lin_order.specs.Orders.{IsCall}
use Rattle.lin_sets.specs.declared.openings.Opened.{Opened}
use Rattle.lin_sets.specs.Openings.{opened_in}
use Rattle.lin_sets.specs.Places.{IsListed, IsListing, IsNoted, place_in}
use Rattle.lin_sets.specs.declared.endings.Endings.{Endings}
use Rattle.lin_sets.specs.Parts.{AreAdds, AreFree, AreLatest, AreLevels, AreNoted, IsFirst, IsKnown, IsLatest, Stands}
use Rattle.lin_sets.specs.Steps.{MayFollow}
use Rattle.lin_sets.specs.declared.changes.Change.{Change}
use Rattle.lin_sets.specs.Changes.{AreChanges, Makes}
use Rattle.std.proofs.lemmas.List.{take_all, take-append-le}
use Rattle.lin_sets.proofs.Learning.{not_none}
use Rattle.lin_sets.proofs.Putting.{put_cases, put_listed, listed_here, listed_where}
use Rattle.lin_sets.proofs.OneEvent.{call_kept, call_before, had_kept, had_before, found_kept, found_before, begun_inside, not_begun, call_at}

-- a list of adds with one more place
module _ (adds : List (Option Item)) (slot : Option Item) where
  pub stands_kept : (at : ℕ) (item : Item) → Stands adds at item → Stands (adds ++ slot ∷ []) at item
  stands_kept at item stands = get_left adds slot at (Some item) stands

  pub stands_cases : (at : ℕ) (item : Item) → Stands (adds ++ slot ∷ []) at item → Stands adds at item ⊎ ((at ≡ length adds) × (slot ≡ Some item))
  stands_cases at item stands = get_cases adds slot at (Some item) stands

pub no_item : {item : Item} → None ≡ Some item → ⊥
no_item e = cc

pub one_item : {a b : Item} → Some a ≡ Some b → a ≡ b
one_item e = cc

-- no add begins at the place: the first ones stay
pub firsts_same : (adds : List (Option Item)) (item : Item) (o : Option ℕ) → IsFirst adds item o → IsFirst (adds ++ None ∷ []) item o
firsts_same adds item None none = λ at stands. elim (stands_cases adds None at item stands) [
  | inl old ↦ none at old
  | inr new ↦ no_item new.1
]
firsts_same adds item (Some first) is = (
  stands_kept adds None first item is.0,
  λ at stands. elim (stands_cases adds None at item stands) [
    | inl old ↦ is.1 at old
    | inr new ↦ absurd (no_item new.1)
  ],
)

-- an add begins there: it is the first one of its item, unless there is one
pub firsts_noted : (adds : List (Option Item)) (old new : List (Item × Option ℕ)) (item : Item) → IsNoted old new item (length adds)
    → ((other : Item) → IsFirst adds other (place_in old other)) → (other : Item) → IsFirst (adds ++ Some item ∷ []) other (place_in new other)
firsts_noted adds old new item (inl there) firsts other =
    subst (λ l. IsFirst (adds ++ Some item ∷ []) other (place_in l other)) (sym there.2) (by (place_in old other) refl)
  where
    by : (o : Option ℕ) → place_in old other ≡ o → IsFirst (adds ++ Some item ∷ []) other o
    by None e = λ at stands.
        let none : IsFirst adds other None = subst (IsFirst adds other) e (firsts other) in
        elim (stands_cases adds (Some item) at other stands) [
          | inl before ↦ none at before
          | inr here ↦ not_none (sym there.1 ∙ ap (place_in old) (one_item here.1) ∙ e)
        ]
    by (Some first) e =
        let is : IsFirst adds other (Some first) = subst (IsFirst adds other) e (firsts other) in
        let inside = slice_get_within adds first (Some other) is.0 in (
          stands_kept adds (Some item) first other is.0,
          λ at stands. elim (stands_cases adds (Some item) at other stands) [
            | inl before ↦ is.1 at before
            | inr here ↦ omega (arith, here.0, inside)
          ],
        )
firsts_noted adds old new item (inr put) firsts other = elim (put_cases old new item (Some (length adds)) put.1 other) [
  | inl here ↦ subst (IsFirst (adds ++ Some item ∷ []) other) (sym here.1) (
    subst (λ (i : Item). Stands (adds ++ Some item ∷ []) (length adds) i) here.0 (get_last adds (Some item)),
    λ at stands. elim (stands_cases adds (Some item) at other stands) [
      | inl before ↦
          let none : IsFirst adds other None = subst (IsFirst adds other) (ap (place_in old) (sym here.0) ∙ put.0) (firsts other) in
          absurd (none at before)
      | inr last ↦ omega (arith, last.0)
    ],
  )
  | inr apart ↦ subst (IsFirst (adds ++ Some item ∷ []) other) (sym apart.1) (by (place_in old other) apart.0 (firsts other))
]
  where
    by : (o : Option ℕ) → (item ≡ other → ⊥) → IsFirst adds other o → IsFirst (adds ++ Some item ∷ []) other o
    by None differ none = λ at stands. elim (stands_cases adds (Some item) at other stands) [
      | inl before ↦ none at before
      | inr here ↦ differ (one_item here.1)
    ]
    by (Some first) differ is = (
      stands_kept adds (Some item) first other is.0,
      λ at stands. elim (stands_cases adds (Some item) at other stands) [
        | inl before ↦ is.1 at before
        | inr here ↦ absurd (differ (one_item here.1))
      ],
    )

-- where an item had a first add, it has the same
pub noted_kept : (old new : List (Item × Option ℕ)) (item : Item) (place : ℕ) → IsNoted old new item place → (other : Item) (at : ℕ) → place_in old other ≡ Some at → place_in new other ≡ Some at
noted_kept old new item place (inl there) other at is = ap (λ l. place_in l other) there.2 ∙ is
noted_kept old new item place (inr put) other at is = elim (put_cases old new item (Some place) put.1 other) [
  | inl here ↦ absurd (not_none (sym is ∙ ap (place_in old) (sym here.0) ∙ put.0))
  | inr apart ↦ apart.1 ∙ is
]

-- each item that was listed is so, and the one that was noted
pub noted_listed : (old new : List (Item × Option ℕ)) (item : Item) (place : ℕ) → IsNoted old new item place → (other : Item) → IsListed old other → IsListed new other
noted_listed old new item place (inl there) other listed = subst (λ l. IsListed l other) (sym there.2) listed
noted_listed old new item place (inr put) other listed = put_listed old new item (Some place) put.1 other listed

pub noted_here : (old new : List (Item × Option ℕ)) (item : Item) (place : ℕ) → IsNoted old new item place → IsListed new item
noted_here old new item place (inl there) = subst (λ l. IsListed l item) (sym there.2) (listed_where old item there.0 there.1)
noted_here old new item place (inr put) = listed_here old new item (Some place) put.1

module _ (h : List Event) (event : Event) where
  -- what begins at the end is neither ok nor failed
  never_ends : (end : ℕ) (ending : Event) → IsEnd (h ++ event ∷ []) (length h) end ending → ⊥
  never_ends end ending e =
      let inside = end_inside (h ++ event ∷ []) (length h) end ending e in
      let later = e.later in
      let many = length-append h (event ∷ []) in
      omega (arith, inside, later, many)

  -- the adds that stand, where the event is no fail
  pub adds_pushed : (adds : List (Option Item)) (slot : Option Item) → ((name : Name) → event.body ≡ Fail name → ⊥) → ((item : Item) → slot ≡ Some item → IsCall (h ++ event ∷ []) (length h) (Add item))
      → ((item : Item) → IsCall (h ++ event ∷ []) (length h) (Add item) → slot ≡ Some item) → AreAdds adds h → AreAdds (adds ++ slot ∷ []) (h ++ event ∷ [])
  adds_pushed adds slot no_fail begins lists are = record {
    counted = length-append adds (slot ∷ []) ∙ ap (λ n. n + 1) are.counted ∙ sym (length-append h (event ∷ []));
    stand = λ at item stands. elim (stands_cases adds slot at item stands) [
      | inl old ↦ let was = are.stand at item old in (call_kept h event at (Add item) was.0, λ failed. was.1 (failed_before h event no_fail at failed))
      | inr new ↦
          let same : at ≡ length h = new.0 ∙ are.counted in
          (subst (λ n. IsCall (h ++ event ∷ []) n (Add item)) (sym same) (begins item new.1), λ failed. never_ends failed.0 failed.1 (subst (λ n. IsEnd (h ++ event ∷ []) n failed.0 failed.1) same failed.2))
    ];
    listed = λ at item is. elim (cases_eq at (length h)) [
      | inl last ↦
          let slot_is = lists item (subst (λ n. IsCall (h ++ event ∷ []) n (Add item)) last is) in
          let place : length adds ≡ at = are.counted ∙ sym last in
          inl (subst (λ n. Stands (adds ++ slot ∷ []) n item) place (get_last adds slot ∙ ap Some slot_is))
      | inr before ↦ elim (are.listed at item (call_before h event at (Add item) before is)) [
        | inl stands ↦ inl (stands_kept adds slot at item stands)
        | inr failed ↦ inr (failed_kept h event at failed)
      ]
    ];
  }

  -- the latest operations, behind an invocation
  pub latest_invoked : (old new : List (ℕ × Opened)) (call : Call) → event.body ≡ Invoke call
      → ((process : ℕ) → opened_in new process ≡ cond (nat_eq event.process process) (Some (record { at = length h; call = call })) (opened_in old process)) → AreLatest old h → AreLatest new (h ++ event ∷ [])
  latest_invoked old new call is put latest process at key other found =
      let here = (invoked h event call is).begins in
      elim (cases_eq at (length h)) [
        | inl last ↦
            let there = subst (λ n. IsOperation (h ++ event ∷ []) n process key other) last found.begins in
            let same : event.process ≡ process = one_caller (h ++ event ∷ []) (length h) event.process process event.key key call other here there in
            let called : call ≡ other = one_call (h ++ event ∷ []) (length h) event.process process event.key key call other here there in
            put process ∙ ap (λ b. cond b (Some (record { at = length h; call = call })) (opened_in old process)) ((Decides-eqb event.process process).1 same) ∙ pair (length h) at call other (sym last) called
        | inr before ↦
            let began = operation_before h event at process key other before found.begins in
            let inside = slice_get_within h at _ began in
            let was : IsLatest h at process key other = record { begins = began; latest = λ later third again behind there. found.latest later third again behind (operation_kept h event later process third again there) } in
            elim (cases_Bool (nat_eq event.process process)) [
              | inl same ↦
                  let of_it = subst (λ p. IsOperation (h ++ event ∷ []) (length h) p event.key call) ((Decides-eqb event.process process).0 same) here in
                  absurd (found.latest (length h) event.key call inside of_it)
              | inr apart ↦ put process ∙ ap (λ b. cond b (Some (record { at = length h; call = call })) (opened_in old process)) apart ∙ latest process at key other was
            ]
      ]
    where
      opening : ℕ → Call → Opened
      opening m c = record { at = m; call = c }

      pair : (m n : ℕ) (c d : Call) → m ≡ n → c ≡ d → Some (opening m c) ≡ Some (opening n d)
      pair m n c d same alike = cc

  -- behind a completion
  pub latest_before : ((call : Call) → event.body ≡ Invoke call → ⊥) → (at process : ℕ) (key : Item) (call : Call) → IsLatest (h ++ event ∷ []) at process key call → IsLatest h at process key call
  latest_before other at process key call found = record {
    begins = operation_before h event at process key call (not_begun h event other at call (process, key, found.begins)) found.begins;
    latest = λ later third again behind there. found.latest later third again behind (operation_kept h event later process third again there);
  }

  pub latest_completed : ((call : Call) → event.body ≡ Invoke call → ⊥) → (openings : List (ℕ × Opened)) → AreLatest openings h → AreLatest openings (h ++ event ∷ [])
  latest_completed other openings latest process at key call found = latest process at key call (latest_before other at process key call found)

  -- an open operation is the latest one of its process
  pub latest_open : MayFollow h event → (at process : ℕ) (key : Item) (call : Call) → IsOpen h at process key call → IsLatest h at process key call
  latest_open may at process key call opened = record {
    begins = opened.begins;
    latest = λ later other again behind there.
        let before = alternates_before h event may.0 may.1 in
        let ended = before.returned at later process key other call again behind opened.begins there in
        elim ended.2 [
          | inl ok ↦ opened.no_ok ended.0 ok.0 ok.1
          | inr failed ↦ opened.no_fail (ended.0, failed.0, failed.1, failed.2, failed.3)
        ];
  }

  -- items that were added are listed
  pub noted_same : (first : List (Item × Option ℕ)) → ((item : Item) → IsCall (h ++ event ∷ []) (length h) (Add item) → IsListed first item) → AreNoted first h → AreNoted first (h ++ event ∷ [])
  noted_same first here noted at item is = elim (cases_eq at (length h)) [
    | inl last ↦ here item (subst (λ n. IsCall (h ++ event ∷ []) n (Add item)) last is)
    | inr before ↦ noted at item (call_before h event at (Add item) before is)
  ]

  -- one more change
  pub changes_pushed : (changes : List Change) (change : Change) → Makes h event change → AreChanges changes h → AreChanges (changes ++ change ∷ []) (h ++ event ∷ [])
  changes_pushed changes change makes are = record {
    counted = length-append changes (change ∷ []) ∙ ap (λ n. n + 1) are.counted ∙ sym (length-append h (event ∷ []));
    each = λ at other stands. elim (get_cases changes change at other stands) [
      | inl old ↦
          let was = are.each at other old in
          let inside = slice_get_within h at was.0 was.1 in
          (was.0, get_left h event at was.0 was.1, subst (λ l. Makes l was.0 other) (sym (take-append-le at h (event ∷ []) (omega (arith, inside)))) was.2)
      | inr new ↦
          let place : at ≡ length h = new.0 ∙ are.counted in
          let all : take at (h ++ event ∷ []) ≡ h = take-append-le at h (event ∷ []) (omega (arith, place)) ∙ take_all at h (omega (arith, place)) in
          (event, subst (λ n. IsEvent (h ++ event ∷ []) n event) (sym place) (get_last h event), subst (λ l. Makes l event other) (sym all) (subst (Makes h event) new.1 makes))
    ];
  }

  -- what is known, where the event is no ok
  module _ (no_ok : (name : Name) (reply : Reply) → event.body ≡ Ok name reply → ⊥) where
    pub known_same : (item : Item) (o : Option ℕ) → IsKnown h item o → IsKnown (h ++ event ∷ []) item o
    known_same item None none = λ at end had. none at end (had_before h event no_ok at item end had)
    known_same item (Some known) is = ((is.0.0, had_kept h event is.0.0 item known is.0.1), λ at end had. is.1 at end (had_before h event no_ok at item end had))

    pub levels_same : (levels : List (List Item)) → AreLevels levels h → AreLevels levels (h ++ event ∷ [])
    levels_same levels are = record {
      each = λ s there. let found = are.each s there in (found.0, found.1, found_kept h event found.0 found.1 s found.2);
      all = λ at end s found. are.all at end s (found_before h event no_ok at end s found);
      rising = are.rising;
    }

    pub free_same : (first new : List (Item × Option ℕ)) (endings : Endings) → ((item : Item) (at : ℕ) → place_in first item ≡ Some at → place_in new item ≡ Some at)
        → AreFree first endings h → AreFree new endings (h ++ event ∷ [])
    free_same first new endings keeps free = record {
      answers = λ at end call reply is ok.
          let was = ok_before h event no_ok at end reply ok in
          free.answers at end call reply (call_at h event at call (begun_inside h event at end was.0 was.1) is) was;
      added = λ item end known. let add = free.added item end known in (add.0, keeps item add.0 add.1, add.2);
      fits = λ at until s item end found known lacks.
          let fit = free.fits at until s item end (found_before h event no_ok at until s found) known lacks in
          (fit.0, λ other there. let add = fit.1 other there in (add.0, keeps other add.0 add.1, add.2));
    }

-- what was noted once an item was listed
pub noted_over : (old listed new : List (Item × Option ℕ)) (item : Item) (place : ℕ) → IsListing old listed item → place_in listed item ≡ place_in old item → IsNoted listed new item place → IsNoted old new item place
noted_over old listed new item place listing same (inl there) =
    let was = sym same ∙ there.1 in
    inl (there.0, was, there.2 ∙ listing.stays (listed_where old item there.0 was))
noted_over old listed new item place listing same (inr put) = inr (sym same ∙ put.0, listing.over new (Some place) put.1)

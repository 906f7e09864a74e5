-- Last places, as events come and are taken back.
use Rattle.std.proofs.Common.{◌≡◌, ◌≢◌, ℕ, suc, ◌+◌, ◌<◌, ◌≤◌, List, [], ◌∷◌, ◌++◌, length, take, set, get_or, Option, Some, None, slice_get, ◌⊎◌, inl, inr, refl, sym, ap, ◌∙◌, subst, arith, option_map}
use Rattle.std.proofs.Math.Seq.{take-append_seam}
use Rattle.std.proofs.lemmas.List.{map-append, take-append-le, length-map, length-set, length_push}
use Rattle.std.proofs.lemmas.Option.{slice_get-map, slice_get_within, slice_get-get_or, get_or_from_slice_get}
use Rattle.lin_lists.specs.lemmas.Lists.{get_left, get_last, get_set_cases}
use Rattle.lin_lists.specs.lemmas.Taken.{get_push_cases, element_at}
use Rattle.lin_wellformed.specs.declared.last_events.Change.{Change}
use Rattle.lin_wellformed.specs.Tables.{AreEachOnce, AreLast, AreListed, IsLastPlace, numbers_in, place_in, processes_in}

-- what two lists with one more have before that
pub push_cancel : {A : Type 0} (xs ys : List A) (x y : A) → xs ++ x ∷ [] ≡ ys ++ y ∷ [] → xs ≡ ys
push_cancel xs ys x y same =
    let long : length xs ≡ length ys = let e = ap length same in let a = length_push xs x in let b = length_push ys y in omega arith in
    sym (take-append_seam xs (x ∷ [])) ∙ ap (take (length xs)) same ∙ ap (λ n. take n (ys ++ y ∷ [])) long ∙ take-append_seam ys (y ∷ [])

-- one more event of another process changes no last place
last_stays : (numbers : List ℕ) (more number : ℕ) (place : Option ℕ) → more ≢ number → IsLastPlace numbers number place → IsLastPlace (numbers ++ more ∷ []) number place
last_stays numbers more number None other none = λ k at. elim (get_push_cases numbers more k number at) [
  | inl last ↦ other last.1
  | inr earlier ↦ none k earlier.1
]
last_stays numbers more number (Some place) other last = (
  get_left numbers more place number last.0,
  λ k past at. elim (get_push_cases numbers more k number at) [
    | inl new ↦ other new.1
    | inr earlier ↦ last.1 k past earlier.1
  ],
)

-- nor one less
last_back : (numbers : List ℕ) (more number : ℕ) (place : Option ℕ) → more ≢ number → IsLastPlace (numbers ++ more ∷ []) number place → IsLastPlace numbers number place
last_back numbers more number None other none = λ k at. none k (get_left numbers more k number at)
last_back numbers more number (Some place) other last = elim (get_push_cases numbers more place number last.0) [
  | inl new ↦ absurd (other new.1)
  | inr earlier ↦ (earlier.1, λ k past at. last.1 k past (get_left numbers more k number at))
]

-- one more event is the last one of its process
last_new : (numbers : List ℕ) (number : ℕ) → IsLastPlace (numbers ++ number ∷ []) number (Some (length numbers))
last_new numbers number = (get_last numbers number, λ k past at. let inside = slice_get_within (numbers ++ number ∷ []) k number at in let long = length_push numbers number in omega arith)

pub numbers_push : (changes : List Change) (change : Change) → numbers_in (changes ++ change ∷ []) ≡ numbers_in changes ++ change.number ∷ []
numbers_push changes change = map-append (λ (c : Change). c.number) changes (change ∷ [])

-- longer codes, with no place in the new ones
pub grown_last : (last grown : List ℕ) (changes : List Change) → length last ≤ length grown
    → ((k code : ℕ) → slice_get grown k ≡ Some code → (slice_get last k ≡ Some code) ⊎ ((length last ≤ k) × (code ≡ 0)))
    → AreLast last changes → AreLast grown changes
grown_last last grown changes longer kept was = record {
  within = λ k change at. let inside = was.within k change at in omega arith;
  ends = λ number code at. elim (kept number code at) [
    | inl old ↦ was.ends number code old
    | inr new ↦ subst (λ c. IsLastPlace (numbers_in changes) number (place_in c)) (sym new.1) (λ k stands. nowhere number new.0 k stands)
  ];
  before = was.before;
}
  where
    nowhere : (number : ℕ) → length last ≤ number → (k : ℕ) → slice_get (numbers_in changes) k ≡ Some number → ⊥
    nowhere number past k stands =
        let (change, there) = element_at changes k (let inside = slice_get_within (numbers_in changes) k number stands in let long = length-map changes (λ (c : Change). c.number) in omega arith) in
        let named : Some change.number ≡ Some number = sym (slice_get-map (λ (c : Change). c.number) changes k ∙ ap (option_map (λ (c : Change). c.number)) there) ∙ stands in
        let same : change.number ≡ number = cc in
        let inside = was.within k change there in
        omega arith

-- one more event: its process has its last event there
pub pushed_last : (last : List ℕ) (changes : List Change) (change : Change) → change.number < length last → slice_get last change.number ≡ Some change.before
    → AreLast last changes → AreLast (set last change.number (length changes + 1)) (changes ++ change ∷ [])
pushed_last last changes change inside here was = record {
  within = λ k other at. let long = length-set last change.number (length changes + 1) in elim (get_push_cases changes change k other at) [
    | inl new ↦ let same = ap (λ (c : Change). c.number) new.1 in omega arith
    | inr old ↦ let within = was.within k other old.1 in omega arith
  ];
  ends = λ number code at. elim (get_set_cases last change.number (length changes + 1) number code at) [
    | inl new ↦ subst (λ n. IsLastPlace (numbers_in (changes ++ change ∷ [])) n (place_in code)) (sym new.0) (subst (λ c. IsLastPlace (numbers_in (changes ++ change ∷ [])) change.number (place_in c)) new.1 new_end)
    | inr old ↦ subst (λ l. IsLastPlace l number (place_in code)) (sym (numbers_push changes change))
        (last_stays (numbers_in changes) change.number number (place_in code) (λ same. old.0 (sym same)) (was.ends number code old.1))
  ];
  before = λ k other at. elim (get_push_cases changes change k other at) [
    | inl new ↦ subst (λ (c : Change). IsLastPlace (numbers_in (take k (changes ++ change ∷ []))) c.number (place_in c.before)) new.1
        (subst (λ l. IsLastPlace (numbers_in l) change.number (place_in change.before)) (sym (ap (λ n. take n (changes ++ change ∷ [])) new.0 ∙ take-append_seam changes (change ∷ []))) (was.ends change.number change.before here))
    | inr old ↦ subst (λ l. IsLastPlace (numbers_in l) other.number (place_in other.before)) (sym (take-append-le k changes (change ∷ []) (let below = old.0 in omega arith))) (was.before k other old.1)
  ];
}
  where
    new_end : IsLastPlace (numbers_in (changes ++ change ∷ [])) change.number (place_in (length changes + 1))
    new_end =
        let code : suc (length (numbers_in changes)) ≡ length changes + 1 = let long = length-map changes (λ (c : Change). c.number) in omega arith in
        subst (λ c. IsLastPlace (numbers_in (changes ++ change ∷ [])) change.number (place_in c)) code
        (subst (λ l. IsLastPlace l change.number (Some (length (numbers_in changes)))) (sym (numbers_push changes change)) (last_new (numbers_in changes) change.number))

-- the last event taken back: its process has its last event where it had it before
pub popped_last : (last : List ℕ) (changes : List Change) (change : Change) → AreLast last (changes ++ change ∷ []) → AreLast (set last change.number change.before) changes
popped_last last changes change was = record {
  within = λ k other at. let long = length-set last change.number change.before in let inside = was.within k other (get_left changes change k other at) in omega arith;
  ends = λ number code at. elim (get_set_cases last change.number change.before number code at) [
    | inl old ↦ subst (λ n. IsLastPlace (numbers_in changes) n (place_in code)) (sym old.0) (subst (λ c. IsLastPlace (numbers_in changes) change.number (place_in c)) old.1 before_end)
    | inr stays ↦ last_back (numbers_in changes) change.number number (place_in code) (λ same. stays.0 (sym same))
        (subst (λ l. IsLastPlace l number (place_in code)) (numbers_push changes change) (was.ends number code stays.1))
  ];
  before = λ k other at. subst (λ l. IsLastPlace (numbers_in l) other.number (place_in other.before))
      (take-append-le k changes (change ∷ []) (let inside = slice_get_within changes k other at in omega arith)) (was.before k other (get_left changes change k other at));
}
  where
    before_end : IsLastPlace (numbers_in changes) change.number (place_in change.before)
    before_end = subst (λ l. IsLastPlace (numbers_in l) change.number (place_in change.before)) (take-append_seam changes (change ∷ [])) (was.before (length changes) change (get_last changes change))

-- numbers of longer lists are those of the same processes
pub same_processes : (listed longer numbers : List ℕ) → ((number other : ℕ) → slice_get listed number ≡ Some other → slice_get longer number ≡ Some other) → AreListed listed numbers
    → processes_in longer numbers ≡ processes_in listed numbers
same_processes listed longer [] kept within = refl
same_processes listed longer (number ∷ numbers) kept within =
    let here : number < length listed = within 0 number refl in
    let there = kept number (get_or listed number 0) (slice_get-get_or listed number 0 here) in
    let same : get_or longer number 0 ≡ get_or listed number 0 = get_or_from_slice_get longer number _ 0 there in
    let rest = same_processes listed longer numbers kept (λ k. within (suc k)) in
    cc

-- where a process stands, its number does
module _ (listed numbers : List ℕ) (number process : ℕ) (once : AreEachOnce listed) (within : AreListed listed numbers) (named : slice_get listed number ≡ Some process) where
  stands_as : (k : ℕ) → slice_get numbers k ≡ Some number → slice_get (processes_in listed numbers) k ≡ Some process
  stands_as k at = slice_get-map (λ n. get_or listed n 0) numbers k ∙ ap (option_map (λ n. get_or listed n 0)) at ∙ ap Some (get_or_from_slice_get listed number process 0 named)

  stood_as : (k : ℕ) → slice_get (processes_in listed numbers) k ≡ Some process → slice_get numbers k ≡ Some number
  stood_as k at =
      let (other, there) = element_at numbers k (let inside = slice_get_within (processes_in listed numbers) k process at in let long = length-map numbers (λ n. get_or listed n 0) in omega arith) in
      let is : Some (get_or listed other 0) ≡ Some process = sym (slice_get-map (λ n. get_or listed n 0) numbers k ∙ ap (option_map (λ n. get_or listed n 0)) there) ∙ at in
      let same : other ≡ number = once other number process (slice_get-get_or listed other 0 (within k other there) ∙ is) named in
      there ∙ ap Some same

  -- so its last place is that of its number
  pub last_as : (place : Option ℕ) → IsLastPlace numbers number place → IsLastPlace (processes_in listed numbers) process place
  last_as None none = λ k at. none k (stood_as k at)
  last_as (Some place) last = (stands_as place last.0, λ k past at. last.1 k past (stood_as k at))

pub still_listed : (listed longer numbers : List ℕ) → ((number other : ℕ) → slice_get listed number ≡ Some other → slice_get longer number ≡ Some other) → AreListed listed numbers → AreListed longer numbers
still_listed listed longer numbers kept within = λ k number at.
    slice_get_within longer number (get_or listed number 0) (kept number (get_or listed number 0) (slice_get-get_or listed number 0 (within k number at)))

pub one_listed : (listed numbers : List ℕ) (number process : ℕ) → slice_get listed number ≡ Some process → AreListed listed numbers → AreListed listed (numbers ++ number ∷ [])
one_listed listed numbers number process named within = λ k other at. elim (get_push_cases numbers number k other at) [
  | inl new ↦ subst (λ n. n < length listed) new.1 (slice_get_within listed number process named)
  | inr old ↦ within k other old.1
]

pub one_process : (listed numbers : List ℕ) (number process : ℕ) → slice_get listed number ≡ Some process → processes_in listed (numbers ++ number ∷ []) ≡ processes_in listed numbers ++ process ∷ []
one_process listed numbers number process named = map-append (λ n. get_or listed n 0) numbers (number ∷ []) ∙ ap (λ p. processes_in listed numbers ++ p ∷ []) (get_or_from_slice_get listed number process 0 named)

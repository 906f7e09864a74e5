-- The table of next positions, as it grows with the history.
use Rattle.std.proofs.Common.{◌≡◌, ◌<◌, ℕ, ◌+◌, List, [], ◌∷◌, ◌++◌, length, ◌⊎◌, inl, inr, refl, sym, ap, subst, ◌∙◌, arith, set, Some, None, Option, Bool, true, false, cond, nat_eq, Decides, slice_get, get_or, take, length-append, length-set}
use Rattle.std.proofs.lemmas.List.{length-take-le}
use Rattle.std.proofs.lemmas.Bool.{cases_order}
use Rattle.std.proofs.lemmas.Option.{slice_get_within, slice_get-get_or}
use Rattle.std.proofs.lemmas.Bool.Decides.{Decides-eqb}
use Rattle.lin_events.specs.declared.events.Event.{Event}
use Rattle.lin_events.specs.Operations.{IsOf}
use Rattle.lin_order.specs.Tables.{IsNext, IsLast, IsNextTable}
use Rattle.lin_lists.specs.lemmas.Lists.{get_left, get_cases, get_last, get_set_cases}
use Rattle.lin_order.specs.lemmas.Lists.{take_more}

-- the function gives each process its latest position
pub record IsLatest (h : List Event) (latest : ℕ → Option ℕ) : Type 0 where
  pub some : (process at : ℕ) → latest process ≡ Some at → IsOf h process at × ((k : ℕ) → at < k → IsOf h process k → ⊥)
  pub none : (process : ℕ) → latest process ≡ None → (k : ℕ) → IsOf h process k → ⊥

pub of_inside : (h : List Event) (process k : ℕ) → IsOf h process k → k < length h
of_inside h process k is = slice_get_within h k is.0 is.1

-- what the table says at a position
module _ (h : List Event) (table : List (Option ℕ)) (is : IsNextTable h table) (at : ℕ) (inside : at < length h) where
  pub next_of : (next : ℕ) → get_or table at None ≡ Some next → IsNext h at next
  next_of next there = let many = is.length_of in is.some at next (slice_get-get_or table at None (omega arith) ∙ ap Some there)

  pub next_inside : (next : ℕ) → get_or table at None ≡ Some next → next < length h
  next_inside next there = let found = next_of next there in of_inside h found.process next found.there

  pub last_of : get_or table at None ≡ None → IsLast h at
  last_of there = let many = is.length_of in is.none at (slice_get-get_or table at None (omega arith) ∙ ap Some there)

module _ (h : List Event) (e : Event) where
  of_left : (process k : ℕ) → IsOf h process k → IsOf (h ++ e ∷ []) process k
  of_left process k is = (is.0, get_left h e k is.0 is.1, is.2)

  of_last : IsOf (h ++ e ∷ []) e.process (length h)
  of_last = (e, get_last h e, refl)

  of_cases : (process k : ℕ) → IsOf (h ++ e ∷ []) process k → IsOf h process k ⊎ ((k ≡ length h) × (e.process ≡ process))
  of_cases process k is = elim (get_cases h e k is.0 is.1) [
    | inl old ↦ inl (is.0, old, is.2)
    | inr new ↦ inr (new.0, ap (λ (x : Event). x.process) new.1 ∙ is.2)
  ]

  of_before : (process k : ℕ) → k < length h → IsOf (h ++ e ∷ []) process k → IsOf h process k
  of_before process k inside is = elim (of_cases process k is) [
    | inl old ↦ old
    | inr new ↦ let past : k ≡ length h = new.0 in absurd (omega arith)
  ]

  -- what was next is next
  next_kept : (at next : ℕ) → IsNext h at next → IsNext (h ++ e ∷ []) at next
  next_kept at next is =
      let inside = of_inside h is.process next is.there in
      record {
        process = is.process;
        here = of_left is.process at is.here;
        later = is.later;
        there = of_left is.process next is.there;
        least = λ k after before of_it. is.least k after before (of_before is.process k (omega arith) of_it);
      }

  -- what was last is last, if the new event is of another process
  last_kept : (at : ℕ) → at < length h → (IsOf h e.process at → ⊥) → IsLast h at → IsLast (h ++ e ∷ []) at
  last_kept at inside other last process here k after of_it =
      let was = of_before process at inside here in
      elim (of_cases process k of_it) [
        | inl old ↦ last process was k after old
        | inr new ↦ other (subst (λ p. IsOf h p at) (sym new.1) was)
      ]

  -- the new event is the last of its process
  last_new : IsLast (h ++ e ∷ []) (length h)
  last_new process here k after of_it =
      let inside = of_inside (h ++ e ∷ []) process k of_it in
      let many = length-append h (e ∷ []) in
      omega arith

  module _ (table : List (Option ℕ)) (is : IsNextTable h table) (latest : ℕ → Option ℕ) (of_all : IsLatest h latest) where
    length_more : length (table ++ None ∷ []) ≡ length (h ++ e ∷ [])
    length_more =
        let a = length-append table (None ∷ []) in
        let b = length-append h (e ∷ []) in
        let c = is.length_of in
        omega arith

    inside_of : (at : ℕ) (x : Option ℕ) → slice_get table at ≡ Some x → at < length h
    inside_of at x there = let within = slice_get_within table at x there in let c = is.length_of in omega arith

    -- the first event of its process
    pub table_first : latest e.process ≡ None → IsNextTable (h ++ e ∷ []) (table ++ None ∷ [])
    table_first first = record {
      length_of = length_more;
      some = λ at next there. elim (get_cases table None at (Some next) there) [
        | inl old ↦ next_kept at next (is.some at next old)
        | inr new ↦ absurd (let never = new.1 in cc)
      ];
      none = λ at there. elim (get_cases table None at None there) [
        | inl old ↦ last_kept at (inside_of at None old) (of_all.none e.process first at) (is.none at old)
        | inr new ↦ subst (IsLast (h ++ e ∷ [])) (sym (new.0 ∙ is.length_of)) last_new
      ];
    }

    -- an event whose process was there before
    pub table_again : (earlier : ℕ) → latest e.process ≡ Some earlier → IsNextTable (h ++ e ∷ []) (set (table ++ None ∷ []) earlier (Some (length h)))
    table_again earlier again =
        let before = of_all.some e.process earlier again in
        record {
          length_of = length-set (table ++ None ∷ []) earlier (Some (length h)) ∙ length_more;
          some = λ at next there. elim (get_set_cases (table ++ None ∷ []) earlier (Some (length h)) at (Some next) there) [
            | inl here ↦
                let place : length h ≡ next = let said = here.1 in cc in
                subst (λ k. IsNext (h ++ e ∷ []) k next) (sym here.0) (subst (IsNext (h ++ e ∷ []) earlier) place (next_new earlier before.0 before.1))
            | inr other ↦ elim (get_cases table None at (Some next) other.1) [
              | inl old ↦ next_kept at next (is.some at next old)
              | inr new ↦ absurd (let never = new.1 in cc)
            ]
          ];
          none = λ at there. elim (get_set_cases (table ++ None ∷ []) earlier (Some (length h)) at None there) [
            | inl here ↦ absurd (let never = here.1 in cc)
            | inr other ↦ elim (get_cases table None at None other.1) [
              | inl old ↦ last_kept at (inside_of at None old) (not_last at earlier other.0 before.0 before.1 (is.none at old)) (is.none at old)
              | inr new ↦ subst (IsLast (h ++ e ∷ [])) (sym (new.0 ∙ is.length_of)) last_new
            ]
          ];
        }
      where
        next_new : (earlier : ℕ) → IsOf h e.process earlier → ((k : ℕ) → earlier < k → IsOf h e.process k → ⊥) → IsNext (h ++ e ∷ []) earlier (length h)
        next_new earlier here latest_of = record {
          process = e.process;
          here = of_left e.process earlier here;
          later = of_inside h e.process earlier here;
          there = of_last;
          least = λ k after before of_it. latest_of k after (of_before e.process k before of_it);
        }

        not_last : (at earlier : ℕ) → (at ≡ earlier → ⊥) → IsOf h e.process earlier → ((k : ℕ) → earlier < k → IsOf h e.process k → ⊥) → IsLast h at → IsOf h e.process at → ⊥
        not_last at earlier differ there latest_of last here = elim (cases_order at earlier) [
          | inl same ↦ differ same
          | inr either ↦ elim either [
            | inl below ↦ last e.process here earlier below there
            | inr above ↦ latest_of at above here
          ]
        ]

  -- the latest positions with the new event
  pub latest_step : (latest now : ℕ → Option ℕ) → IsLatest h latest → ((q : ℕ) → now q ≡ cond (nat_eq e.process q) (Some (length h)) (latest q)) → IsLatest (h ++ e ∷ []) now
  latest_step latest now of_all updated = record {
    some = λ process at there. some_by process at (nat_eq e.process process) (Decides-eqb e.process process) (sym (updated process) ∙ there);
    none = λ process there k of_it. none_by process k (nat_eq e.process process) (Decides-eqb e.process process) (sym (updated process) ∙ there) of_it;
  }
    where
      some_by : (process at : ℕ) (b : Bool) → Decides b (e.process ≡ process) → cond b (Some (length h)) (latest process) ≡ Some at
          → IsOf (h ++ e ∷ []) process at × ((k : ℕ) → at < k → IsOf (h ++ e ∷ []) process k → ⊥)
      some_by process at true same there =
          let place : length h ≡ at = cc in
          let here = subst (λ p. IsOf (h ++ e ∷ []) p (length h)) (same.0 refl) of_last in (
            subst (IsOf (h ++ e ∷ []) process) place here,
            λ k after of_it. last_new process here k (omega arith) of_it,
          )
      some_by process at false same there =
          let was = of_all.some process at there in (
            of_left process at was.0,
            λ k after of_it. elim (of_cases process k of_it) [ inl old ↦ was.1 k after old | inr new ↦ let never = same.1 new.1 in cc ],
          )

      none_by : (process k : ℕ) (b : Bool) → Decides b (e.process ≡ process) → cond b (Some (length h)) (latest process) ≡ None → IsOf (h ++ e ∷ []) process k → ⊥
      none_by process k true same there of_it = cc
      none_by process k false same there of_it = elim (of_cases process k of_it) [ inl old ↦ of_all.none process there k old | inr new ↦ let never = same.1 new.1 in cc ]

-- one step of the pass over a history, at its event i
module _ (h : List Event) (i : ℕ) (e : Event) (inside : i < length h) (is_at : e ≡ get_or h i e) where
  more : take i h ++ e ∷ [] ≡ take (i + 1) h
  more = sym (take_more h i e inside is_at)

  many : length (take i h) ≡ i
  many = length-take-le i h (omega arith)

  pub step_first : (table now : List (Option ℕ)) (latest : ℕ → Option ℕ) → IsNextTable (take i h) table → IsLatest (take i h) latest → latest e.process ≡ None
      → now ≡ table ++ None ∷ [] → IsNextTable (take (i + 1) h) now
  step_first table now latest is of_all first made = subst (λ l. IsNextTable l now) more (subst (IsNextTable (take i h ++ e ∷ [])) (sym made) (table_first (take i h) e table is latest of_all first))

  pub step_again : (table now : List (Option ℕ)) (latest : ℕ → Option ℕ) → IsNextTable (take i h) table → IsLatest (take i h) latest → (earlier : ℕ)
      → latest e.process ≡ Some earlier → now ≡ set (table ++ None ∷ []) earlier (Some i) → IsNextTable (take (i + 1) h) now
  step_again table now latest is of_all earlier again made =
      let place = ap (λ k. set (table ++ None ∷ []) earlier (Some k)) (sym many) in
      subst (λ l. IsNextTable l now) more (subst (IsNextTable (take i h ++ e ∷ [])) (sym (made ∙ place)) (table_again (take i h) e table is latest of_all earlier again))

  pub step_latest : (latest now : ℕ → Option ℕ) → IsLatest (take i h) latest → ((q : ℕ) → now q ≡ cond (nat_eq e.process q) (Some i) (latest q)) → IsLatest (take (i + 1) h) now
  step_latest latest now of_all updated =
      subst (λ l. IsLatest l now) more (latest_step (take i h) e latest now of_all (λ q. updated q ∙ ap (λ k. cond (nat_eq e.process q) (Some k) (latest q)) (sym many)))

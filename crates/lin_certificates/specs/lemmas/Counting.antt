-- How often items are put in and taken out, in an order that an object runs through.
use Rattle.std.proofs.Common.{◌≡◌, ◌≢◌, ◌<◌, ◌≤◌, ◌+◌, ℕ, suc, List, [], ◌∷◌, ◌++◌, ◌⊎◌, AllPairs, Contains, length, inl, inr, refl, sym, ap, subst, ◌∙◌, arith, length-append}
use Rattle.std.proofs.lemmas.Bool.{cases_lt}
use Rattle.std.proofs.lemmas.List.Elements.{All-contains, Contains-append_cases, Contains-append_left, Contains-append_right}
use Rattle.std.proofs.lemmas.List.Kept.{AllPairs-cons}
use Rattle.lin_events.specs.declared.items.Item.{Item}
use Rattle.lin_lists.specs.lemmas.Elements.{all_of, first_or_rest, nothing_in}
use Rattle.lin_events.specs.declared.calls.Call.{Call}
use Rattle.lin_events.specs.declared.calls.Reply.{Reply}
use Rattle.lin_events.specs.declared.events.Event.{Event}
use Rattle.lin_objects.specs.declared.kinds.Kind.{Kind}
use Rattle.lin_objects.specs.declared.states.State.{State}
use Rattle.lin_objects.specs.Steps.{Step}
use Rattle.lin_order.specs.declared.placed.Placed.{Placed}
use Rattle.lin_order.specs.Linearizable.{Runs}
use Rattle.lin_order.specs.Orders.{IsCall}
use Rattle.lin_order.specs.lemmas.OneEnd.{one_call}
use Rattle.lin_certificates.specs.Adding.{Adds}
use Rattle.lin_certificates.specs.Numbers.{AtLeast, AtMost, OfOne}
use Rattle.lin_certificates.specs.QueueConflicts.{Takes}
use Rattle.lin_certificates.specs.lemmas.Conflicting.{across, parted}

pub pairs_rest : {A : Type 0} (R : A → A → Type 0) (x : A) (xs : List A) → AllPairs R (x ∷ xs) → AllPairs R xs
pairs_rest R x xs all i j d before within = all (suc i) (suc j) d (omega (arith, before)) (omega (arith, within))

pub first_apart : {A : Type 0} (R : A → A → Type 0) (x : A) (xs : List A) → AllPairs R (x ∷ xs) → (y : A) → Contains xs y → R x y
first_apart R x xs all y there = across R (x ∷ []) xs x y all (0, omega arith, refl) there

-- different items that stand in a list are at most as many as it has
pub no_more : (xs ys : List ℕ) → AllPairs ◌≢◌ xs → ((x : ℕ) → Contains xs x → Contains ys x) → length xs ≤ length ys
no_more [] ys apart inside = omega arith
no_more (x ∷ xs) ys apart inside =
    let parts = parted ys x (inside x (0, omega arith, refl)) in
    let rest = no_more xs (parts.0 ++ parts.1) (pairs_rest ◌≢◌ x xs apart)
    (λ y there. elim (Contains-append_cases parts.0 (x ∷ parts.1) y (subst (λ l. Contains l y) parts.2 (inside y (Contains-append_right (x ∷ []) xs y there)))) [
      | inl before ↦ Contains-append_left parts.0 parts.1 y before
      | inr behind ↦ elim (first_or_rest x parts.1 y behind) [
        | inl same ↦ absurd (first_apart ◌≢◌ x xs apart y there same)
        | inr after ↦ Contains-append_right parts.0 parts.1 y after
      ]
    ]) in
    let many = length-append parts.0 parts.1 in
    let all = ap length parts.2 ∙ length-append parts.0 (x ∷ parts.1) in
    omega (arith, rest, many, all)

one_longer : (xs : List ℕ) (x k : ℕ) → length xs ≡ k → length (x ∷ xs) ≡ k + 1
one_longer xs x k many = omega (arith, many)

module _ (P : ℕ → Type 0) where
  -- one place more
  pub least_more : (k place : ℕ) → AtLeast k (λ at. P at × (at < place)) → P place → AtLeast (k + 1) (λ at. P at × (at < place + 1))
  least_more k place found here = (
    place ∷ found.0,
    one_longer found.0 place k found.1,
    AllPairs-cons ◌≢◌ place found.0 (all_of (λ at. place ≢ at) found.0 (λ at there same. let below = (All-contains (λ x. P x × (x < place)) found.0 at found.3 there).1 in omega (arith, below, same))) found.2,
    all_of (λ at. P at × (at < place + 1)) (place ∷ found.0) (λ at there. elim (first_or_rest place found.0 at there) [
      | inl same ↦ (subst P same here, omega (arith, same))
      | inr rest ↦ let was = All-contains (λ x. P x × (x < place)) found.0 at found.3 rest in (was.0, omega (arith, was.1))
    ]),
  )

  pub least_same : (k place : ℕ) → AtLeast k (λ at. P at × (at < place)) → AtLeast k (λ at. P at × (at < place + 1))
  least_same k place found = (
    found.0,
    found.1,
    found.2,
    all_of (λ at. P at × (at < place + 1)) found.0 (λ at there. let was = All-contains (λ x. P x × (x < place)) found.0 at found.3 there in (was.0, omega (arith, was.1))),
  )

  pub least_of : (k place : ℕ) → AtLeast k (λ at. P at × (at < place)) → AtLeast k P
  least_of k place found =
      (found.0, found.1, found.2, all_of P found.0 (λ at there. (All-contains (λ x. P x × (x < place)) found.0 at found.3 there).0))

  pub most_more : (k place : ℕ) → AtMost k (λ at. P at × (at < place)) → AtMost (k + 1) (λ at. P at × (at < place + 1))
  most_more k place found = (
    place ∷ found.0,
    one_longer found.0 place k found.1,
    λ at is. elim (cases_lt at place) [
      | inl before ↦ Contains-append_right (place ∷ []) found.0 at (found.2 at (is.0, before))
      | inr here ↦ (0, omega arith, omega (arith, here, is.1))
    ],
  )

  pub most_same : (k place : ℕ) → AtMost k (λ at. P at × (at < place)) → (P place → ⊥) → AtMost k (λ at. P at × (at < place + 1))
  most_same k place found none = (
    found.0,
    found.1,
    λ at is. elim (cases_lt at place) [
      | inl before ↦ found.2 at (is.0, before)
      | inr here ↦ let same : at ≡ place = omega (arith, here, is.1) in absurd (none (subst P same is.0))
    ],
  )

  pub most_of : (k place : ℕ) → AtMost k (λ at. P at × (at < place)) → ((at : ℕ) → P at → at < place) → AtMost k P
  most_of k place found all = (found.0, found.1, λ at is. found.2 at (is, all at is))

-- these are the places of those of the order that are such
pub record Chosen (P : Placed → Type 0) (order : List Placed) (ats : List ℕ) : Type 0 where
  pub are : (at : ℕ) → Contains ats at → (p : Placed) × Contains order p × P p × (p.at ≡ at)
  pub all : (p : Placed) → Contains order p → P p → Contains ats p.at
  pub apart : AllPairs ◌≢◌ ats

module _ (P : Placed → Type 0) where
  pub chosen_empty : Chosen P [] []
  chosen_empty = record { are = λ at there. absurd (nothing_in at there); all = λ p there is. absurd (nothing_in p there); apart = λ i j d before within. absurd (omega (arith, within)) }

  pub chosen_other : (q : Placed) (order : List Placed) (ats : List ℕ) → Chosen P order ats → (P q → ⊥) → Chosen P (q ∷ order) ats
  chosen_other q order ats rest none = record {
    are = λ at there. let p = rest.are at there in (p.0, Contains-append_right (q ∷ []) order p.0 p.1, p.2, p.3);
    all = λ p there is. elim (first_or_rest q order p there) [
      | inl same ↦ absurd (none (subst P (sym same) is))
      | inr later ↦ rest.all p later is
    ];
    apart = rest.apart;
  }

  pub chosen_one : (q : Placed) (order : List Placed) (ats : List ℕ) → Chosen P order ats → AllPairs (λ x y. x.at ≢ y.at) (q ∷ order) → P q → Chosen P (q ∷ order) (q.at ∷ ats)
  chosen_one q order ats rest once here = record {
    are = λ at there. elim (first_or_rest q.at ats at there) [
      | inl same ↦ (q, (0, omega arith, refl), here, same)
      | inr later ↦ let p = rest.are at later in (p.0, Contains-append_right (q ∷ []) order p.0 p.1, p.2, p.3)
    ];
    all = λ p there is. elim (first_or_rest q order p there) [
      | inl same ↦ (0, omega arith, ap (λ (x : Placed). x.at) same)
      | inr later ↦ Contains-append_right (q.at ∷ []) ats p.at (rest.all p later is)
    ];
    apart = AllPairs-cons ◌≢◌ q.at ats (all_of (λ at. q.at ≢ at) ats (λ at there same.
        let p = rest.are at there in first_apart (λ x y. x.at ≢ y.at) q order once p.0 p.1 (same ∙ sym p.3))) rest.apart;
  }

  -- at most so many are such, if all of them are of those that are at most so many
  pub chosen_most : (order : List Placed) (ats : List ℕ) → Chosen P order ats → (Q : ℕ → Type 0) → ((p : Placed) → Contains order p → P p → Q p.at) → (k : ℕ) → AtMost k Q → length ats ≤ k
  chosen_most order ats chosen Q each k most =
      let fits = no_more ats most.0 chosen.apart (λ at there. let p = chosen.are at there in most.2 at (subst Q p.3 (each p.0 p.1 p.2))) in
      let many = most.1 in
      omega (arith, fits, many)

  -- and at least so many, if those that are at least so many are of them
  pub chosen_least : (order : List Placed) (ats : List ℕ) → Chosen P order ats → (Q : ℕ → Type 0) → ((at : ℕ) → Q at → (p : Placed) × Contains order p × P p × (p.at ≡ at)) → (k : ℕ) → AtLeast k Q → k ≤ length ats
  chosen_least order ats chosen Q each k least =
      let fits = no_more least.0 ats least.2 (λ at there. let p = each at (All-contains Q least.0 at least.3 there) in subst (Contains ats) p.3 (chosen.all p.0 p.1 p.2)) in
      let many = least.1 in
      omega (arith, fits, many)

-- the operation puts one of the items in, and takes one of them out
abbrev pub Puts : List Event → List Item → Placed → Type 0
Puts h items p = (call : Call) × IsCall h p.at call × OfOne items (Adds call)

abbrev pub TakesOut : List Event → List Item → Placed → Type 0
TakesOut h items p = (call : Call) × IsCall h p.at call × OfOne items (Takes call p.reply)

-- how a step changes how many of the items there are: it puts one in, takes one out, or does neither
abbrev pub Changes : ℕ → ℕ → Call → Reply → List Item → Type 0
Changes before after call reply items = (OfOne items (Adds call) × (OfOne items (Takes call reply) → ⊥) × (after ≡ before + 1))
    ⊎ ((OfOne items (Takes call reply) × (OfOne items (Adds call) → ⊥) × (before ≡ after + 1)) ⊎ ((OfOne items (Adds call) → ⊥) × (OfOne items (Takes call reply) → ⊥) × (after ≡ before)))

module _ (kind : Kind) (inside : State → List Item → ℕ) (each : (s next : State) (call : Call) (reply : Reply) (items : List Item) → Step kind s call next reply → Changes (inside s items) (inside next items) call reply items) (h : List Event) where
  -- what is put in, and was there, is taken out, or still there
  pub counted : (s t : State) (ns : List Item) (order : List Placed) → AllPairs (λ x y. x.at ≢ y.at) order → Runs (Step kind) h s order t
      → (puts : List ℕ) × (takes : List ℕ) × Chosen (Puts h ns) order puts × Chosen (TakesOut h ns) order takes × (inside s ns + length puts ≡ inside t ns + length takes)
  counted s t ns [] once run = ([], [], chosen_empty (Puts h ns), chosen_empty (TakesOut h ns), ap (λ u. inside u ns + 0) run)
  counted s t ns (q ∷ order) once run =
      let rest = counted run.1 t ns order (pairs_rest (λ x y. x.at ≢ y.at) q order once) run.4 in
      let sum = rest.4 in
      let no_put = λ (none : OfOne ns (Adds run.0) → ⊥) (is : Puts h ns q). none (subst (λ c. OfOne ns (Adds c)) (one_call h q.at is.0 run.0 is.1 run.2) is.2) in
      let no_take = λ (none : OfOne ns (Takes run.0 q.reply) → ⊥) (is : TakesOut h ns q). none (subst (λ c. OfOne ns (Takes c q.reply)) (one_call h q.at is.0 run.0 is.1 run.2) is.2) in
      elim (each s run.1 run.0 q.reply ns run.3) [
        | inl put ↦
            let more = put.2 in
            (q.at ∷ rest.0, rest.1, chosen_one (Puts h ns) q order rest.0 rest.2 once (run.0, run.2, put.0), chosen_other (TakesOut h ns) q order rest.1 rest.3 (no_take put.1), omega (arith, more, sum))
        | inr other ↦ elim other [
          | inl taken ↦
              let fewer = taken.2 in
              (rest.0, q.at ∷ rest.1, chosen_other (Puts h ns) q order rest.0 rest.2 (no_put taken.1), chosen_one (TakesOut h ns) q order rest.1 rest.3 once (run.0, run.2, taken.0), omega (arith, fewer, sum))
          | inr neither ↦
              let same = neither.2 in
              (rest.0, rest.1, chosen_other (Puts h ns) q order rest.0 rest.2 (no_put neither.0), chosen_other (TakesOut h ns) q order rest.1 rest.3 (no_take neither.1), omega (arith, same, sum))
        ]
      ]

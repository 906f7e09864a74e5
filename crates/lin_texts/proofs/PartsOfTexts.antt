-- The first part of a text, and its first part that isn't empty.
use Rattle.std.proofs.Common.{◌≡◌, ◌≢◌, ℕ, suc, ◌+◌, ◌-◌, ◌<◌, ◌≤◌, Bool, true, false, List, [], ◌∷◌, ◌++◌, length, get_or, take, drop, refl, sym, ap, ◌∙◌, arith, slice_range, filter, eq-eqb, lt-ltb, add-zero, cond, drop-cons, append-nil, append_assoc}
use Rattle.std.proofs.lemmas.List.{drop_all, get_or-drop, length-take-le, length-drop, take_more}
use Rattle.lin_texts.specs.Parts.{Part, with_first, divides, filled_from, is_filled, next, parts_behind, parts_from, parts_on, separator, IsFirstFilled}
use Rattle.lin_texts.specs.declared.parts.Division.{Division}
use Rattle.lin_texts.specs.declared.parts.Standing.{Standing}
use Rattle.lin_texts.specs.declared.parts.Standing.TheVariants.{Fresh}

abbrev pub part_at : ℕ → List ℕ → Part
part_at at s = record { at = at; text = s }

-- the parts, where these bytes stand in front of the first one
abbrev pub with_front : ℕ → List ℕ → List Part → List Part
with_front at front [] = []
with_front at front (part ∷ parts) = (record { at = at; text = front ++ part.text }) ∷ parts

abbrev by : Division → Standing → ℕ → ℕ → List ℕ → Bool → List Part
by division standing at c s b =
    cond b ((record { at = at; text = [] }) ∷ parts_on division Fresh (suc at) s) (with_first at c (parts_on division (next division standing c) (suc at) s))

front_first : (at place c : ℕ) (front : List ℕ) (parts : List Part) → with_front at front (with_first place c parts) ≡ with_front at (front ++ c ∷ []) parts
front_first at place c front [] = refl
front_first at place c front (part ∷ parts) =
    ap (λ s. part_at at s ∷ parts) (sym (append_assoc front (c ∷ []) part.text))

-- the first part begins where the text does
pub no_front : (division : Division) (standing : Standing) (at : ℕ) (s : List ℕ) → parts_on division standing at s ≡ with_front at [] (parts_on division standing at s)
no_front division standing at [] = refl
no_front division standing at (c ∷ s) = each (divides division standing c)
  where
    first : (parts : List Part) → with_first at c parts ≡ with_front at [] (with_first at c parts)
    first [] = refl
    first (part ∷ parts) = refl

    each : (b : Bool) → by division standing at c s b ≡ with_front at [] (by division standing at c s b)
    each true = refl
    each false = first (parts_on division (next division standing c) (suc at) s)

-- The bytes of a text from a place up to another are of one part, and the next one stands so.
abbrev pub IsOfPart : Division → List ℕ → ℕ → ℕ → Standing → Type 0
IsOfPart division text from at standing =
    parts_from division from (drop from text) ≡ with_front from (slice_range text from at) (parts_on division standing at (drop at text))

pub part_begins : (division : Division) (text : List ℕ) (from : ℕ) → IsOfPart division text from from Fresh
part_begins division text from =
    let none : from - from ≡ 0 = omega arith in
    no_front division Fresh from (drop from text)
    ∙ ap (λ n. with_front from (take n (drop from text)) (parts_on division Fresh from (drop from text))) (sym none)

module _ (division : Division) (text : List ℕ) (from at : ℕ) (standing : Standing) (order : from ≤ at) (inside : at < length text)
    (so_far : IsOfPart division text from at standing) where
  longer : slice_range text from (at + 1) ≡ slice_range text from at ++ get_or text at 0 ∷ []
  longer =
      let count : at + 1 - from ≡ (at - from) + 1 = omega arith in
      let place : from + (at - from) ≡ at = omega arith in
      let left : at - from < length (drop from text) = omega (arith, length-drop from text) in
      ap (λ n. take n (drop from text)) count ∙ take_more (drop from text) (at - from) 0 left
      ∙ ap (λ c. slice_range text from at ++ c ∷ []) (get_or-drop from text (at - from) 0 ∙ ap (λ k. get_or text k 0) place)

  read_on : parts_on division standing at (drop at text) ≡ by division standing at (get_or text at 0) (drop (suc at) text) (divides division standing (get_or text at 0))
  read_on = ap (parts_on division standing at) (drop-cons text at 0 inside)

  -- one more byte of it
  pub part_goes : divides division standing (get_or text at 0) ≡ false → IsOfPart division text from (at + 1) (next division standing (get_or text at 0))
  part_goes goes =
      let c = get_or text at 0 in
      let one : suc at ≡ at + 1 = omega arith in
      let rest : ℕ → List Part = λ k. parts_on division (next division standing c) k (drop k text) in
      so_far ∙ ap (with_front from (slice_range text from at)) (read_on ∙ ap (by division standing at c (drop (suc at) text)) goes)
      ∙ front_first from at c (slice_range text from at) (rest (suc at))
      ∙ ap (λ s. with_front from s (rest (suc at))) (sym longer) ∙ ap (λ k. with_front from (slice_range text from (at + 1)) (rest k)) one

  -- the separator behind it
  pub part_ends : divides division standing (get_or text at 0) ≡ true
      → parts_from division from (drop from text) ≡ (record { at = from; text = slice_range text from at }) ∷ parts_behind division at (drop at text)
  part_ends ends =
      let c = get_or text at 0 in
      so_far ∙ ap (with_front from (slice_range text from at)) (read_on ∙ ap (by division standing at c (drop (suc at) text)) ends)
      ∙ ap (λ s. part_at from s ∷ parts_from division (suc at) (drop (suc at) text)) (append-nil (slice_range text from at))
      ∙ ap (λ s. part_at from (slice_range text from at) ∷ parts_behind division at s) (sym (drop-cons text at 0 inside))

-- the part that the end of the text ends
pub last_part : (division : Division) (text : List ℕ) (from at end : ℕ) (standing : Standing) → at ≡ end → length text ≤ end
    → IsOfPart division text from at standing
    → parts_from division from (drop from text) ≡ (record { at = from; text = slice_range text from end }) ∷ parts_behind division end (drop end text)
last_part division text from at end standing same within so_far =
    let none = drop_all end text within in
    so_far ∙ ap (λ k. with_front from (slice_range text from k) (parts_on division standing k (drop k text))) same
    ∙ ap (λ s. with_front from (slice_range text from end) (parts_on division standing end s)) none
    ∙ ap (λ s. part_at from s ∷ []) (append-nil (slice_range text from end))
    ∙ ap (λ s. part_at from (slice_range text from end) ∷ parts_behind division end s) (sym none)

-- the filled parts from the end of a part on are those of the parts behind it
pub filled_behind : (division : Division) (at : ℕ) (s : List ℕ) → (0 < length s → get_or s 0 0 ≡ separator division)
    → filled_from division at s ≡ filter is_filled (parts_behind division at s)
filled_behind division at [] stops = refl
filled_behind division at (c ∷ s) stops =
    ap (λ b. filter is_filled (by division Fresh at c s b)) (eq-eqb c (separator division) (stops (omega arith)))

-- the first filled part stands between the place where no separator stands and the end of the part that begins there
pub first_filled : (division : Division) (from at end : ℕ) (text : List ℕ) → from ≤ at → at ≤ end → end ≤ length text → at < length text
    → filled_from division from (drop from text) ≡ filled_from division at (drop at text)
    → (at < length text → get_or text at 0 ≢ separator division)
    → parts_from division at (drop at text) ≡ (record { at = at; text = slice_range text at end }) ∷ parts_behind division end (drop end text)
    → (end < length text → get_or text end 0 ≡ separator division)
    → IsFirstFilled division text from (record { at = at; text = slice_range text at end })
first_filled division from at end text later order within inside before other part stops =
    let apart : end ≡ at → ⊥ = λ (e : end ≡ at). other inside (ap (λ k. get_or text k 0) (sym e) ∙ stops (omega arith)) in
    let left : length (drop at text) ≡ length text - at = length-drop at text in
    let right : length (drop end text) ≡ length text - end = length-drop end text in
    let size : length (slice_range text at end) ≡ end - at = length-take-le (end - at) (drop at text) (omega arith) in
    let behind = filled_behind division end (drop end text) (λ some. get_or-drop end text 0 0 ∙ ap (λ k. get_or text k 0) (add-zero end) ∙ stops (omega arith)) in
    let here : Part = record { at = at; text = slice_range text at end } in
    let some : is_filled here ≡ true = lt-ltb 0 (length (slice_range text at end)) (omega arith) in
    let place : end ≡ at + length (slice_range text at end) = omega arith in (
      before ∙ ap (filter is_filled) part
          ∙ ap (λ b. cond b (here ∷ filter is_filled (parts_behind division end (drop end text))) (filter is_filled (parts_behind division end (drop end text)))) some
          ∙ ap (λ ps. here ∷ ps) (sym behind) ∙ ap (λ k. here ∷ filled_from division k (drop k text)) place,
      omega arith,
      omega arith,
      omega arith,
    )

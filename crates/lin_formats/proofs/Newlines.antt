-- Lines of a text.
use Rattle.std.proofs.Common.{◌≡◌, ℕ, zero, suc, ◌+◌, ◌-◌, ◌≤◌, Bool, true, false, if◌then◌else◌, cond, List, ◌∷◌, ◌++◌, length, take, drop, filter, slice_index, sym, ap, arith, ◌∙◌, length-append}
use Rattle.std.proofs.lemmas.List.{drop-take, drop_all, drop_more, take-append-drop, take-take, take-append-le, drop-drop}
use Rattle.std.proofs.lemmas.List.Elements.{filter-append}
use Rattle.memchr.specs.Find.{places_from}
use Rattle.lin_bytes.specs.Bytes.{is_newline}
use Rattle.lin_formats.specs.Places.{newlines, place_at}
use Rattle.lin_texts.specs.declared.place.Place.{Place}

newlines_of : (a b : List ℕ) → newlines (a ++ b) ≡ newlines a + newlines b
newlines_of a b = ap length (filter-append is_newline a b) ∙ length-append (filter is_newline a) (filter is_newline b)

-- so many bytes and some more
take_more : (n m : ℕ) (s : List ℕ) → take (n + m) s ≡ take n s ++ take m (drop n s)
take_more n m s =
    let parts : take n (take (n + m) s) ++ drop n (take (n + m) s) ≡ take (n + m) s = take-append-drop n (take (n + m) s) in
    let few : n ≤ n + m = omega arith in
    let first : take n (take (n + m) s) ≡ take n s = take-take n (n + m) s few in
    sym parts ∙ ap (λ l. l ++ drop n (take (n + m) s)) first ∙ ap (λ l. take n s ++ l) (drop-take n m s)

-- a place that lies some bytes later
pub place_later : (whole : List ℕ) (p n : ℕ) → place_at whole (p + n) ≡ record { offset = p + n; line = suc (newlines (take p whole)) + newlines (take n (drop p whole)) }
place_later whole p n =
    let more : newlines (take (p + n) whole) ≡ newlines (take p whole) + newlines (take n (drop p whole)) =
    ap newlines (take_more p n whole) ∙ newlines_of (take p whole) (take n (drop p whole)) in
    let line : suc (newlines (take (p + n) whole)) ≡ suc (newlines (take p whole)) + newlines (take n (drop p whole)) = omega arith in
    ap (λ l. record { offset = p + n; line = l }) line

-- more bytes behind a text leave the places in it
pub place_stays : (s x : List ℕ) (p : ℕ) → p ≤ length s → place_at (s ++ x) p ≡ place_at s p
place_stays s x p inside = ap (λ l. record { offset = p; line = suc (newlines l) }) (take-append-le p s x inside)

-- the place behind some bytes of a text that stands in a longer one
pub place_behind : (text whole : List ℕ) (p at to : ℕ) (from : Place) → text ≡ drop p whole → from ≡ place_at whole (p + at) → at ≤ to →
    record { offset = from.offset + (to - at); line = from.line + newlines (take (to - at) (drop at text)) } ≡ place_at whole (p + to)
place_behind text whole p at to from is here later =
    let far : (p + at) + (to - at) ≡ p + to = omega arith in
    let bytes : drop at text ≡ drop (p + at) whole = ap (drop at) is ∙ drop-drop at p whole in
    let moved : place_at whole ((p + at) + (to - at)) ≡ record { offset = (p + at) + (to - at); line = suc (newlines (take (p + at) whole)) + newlines (take (to - at) (drop (p + at) whole)) } =
    place_later whole (p + at) (to - at) in
    rw (here, bytes) (sym moved ∙ ap (place_at whole) far)

one_or_none : (b : Bool) (i x : ℕ) (ps ys : List ℕ) → length ps ≡ length ys → length (if b then i ∷ ps else ps) ≡ length (cond b (x ∷ ys) ys)
one_or_none true i x ps ys same = ap suc same
one_or_none false i x ps ys same = same

-- from a place on as many places as bytes pass a test
pub as_many : (test : ℕ → Bool) (hay : List ℕ) (n i : ℕ) → i + n ≡ length hay → length (places_from test hay i n) ≡ length (filter test (drop i hay))
unfolding places_from
as_many test hay zero i ends = sym (ap (λ l. length (filter test l)) (drop_all i hay (omega arith)))
as_many test hay (suc n) i ends =
    let later = as_many test hay n (i + 1) (omega arith) in
    let here = drop_more hay i 0 (omega arith) in
    one_or_none (test (slice_index hay i)) i (slice_index hay i) (places_from test hay (i + 1) n) (filter test (drop (i + 1) hay)) later
    ∙ sym (ap (λ l. length (filter test l)) here)

-- What is spelled stands before what stands behind it.
use Rattle.std.proofs.Common.{◌≡◌, ℕ, ◌+◌, List, ◌∷◌, drop, ap, ◌∙◌}
use Rattle.std.proofs.lemmas.List.{drop-drop}
use Rattle.lin_edn.specs.Grammar.{ShortBlanks, no_blank_yet, one_more_short, Frame, Open, none_open, within, waits, awaits}
use Rattle.lin_edn.specs.lemmas.Rising.{Tail, all, last, then, one_past, tag_past, opens_past, blank_past, blanks_tail, row_tail}

drop_one : (s t : List ℕ) (b q : ℕ) → b ∷ t ≡ drop q s → t ≡ drop (q + 1) s
drop_one s t b q e =
    let same : drop 1 (drop q s) ≡ drop (q + 1) s = drop-drop 1 q s in
    ap (drop 1) e ∙ same

-- the bytes behind a place of a text
pub tail_is : {p q : ℕ} {s t : List ℕ} (whole : List ℕ) → Tail p s q t → s ≡ drop p whole → t ≡ drop q whole
tail_is whole all e = e
tail_is whole (last {q = q} {b = b} {t = t} h) e = drop_one whole t b q (tail_is whole h e)

pub short_tail : {q : ℕ} {s t : List ℕ} → ShortBlanks s q t → Tail 0 s q t
short_tail no_blank_yet = all
short_tail (one_more_short bs b le) = then (short_tail bs) (blank_past b).1

-- where levels are open
pub open_tail : {n p : ℕ} {s t : List ℕ} {st : List Frame} → Open s n st p t → Tail 0 s p t
open_tail (none_open bs) = short_tail bs
open_tail (within o i row) = then (open_tail o) (then (opens_past i).1 (row_tail row))
open_tail (waits o h d bs) = then (open_tail o) (then (last (one_past h).1) (blanks_tail bs))
open_tail (awaits o tg h bs) = then (open_tail o) (then (tag_past tg).1 (blanks_tail bs))

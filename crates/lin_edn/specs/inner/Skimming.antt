-- What one more byte does to the levels that a reader without values has open: its steps, which its private functions keep to.
use Rattle.std.specs.Prelude.{◌≡◌, ℕ, ◌+◌, Bool, true, false, ◌&&◌, ◌==◌, nat_le, if◌then◌else◌, List, [], ◌∷◌, ◌++◌, length, Option, Some, None, option_map, not}
use Rattle.lin_bytes.specs.Bytes.{Kind, a_list, a_vector, a_set, a_map, Class, class, white, semicolon, opener, closer, quote, backslash, hash, inside, is_stop, is_newline, closing, Behind, behind, opens_set, opens_text, discards, joins, stands_apart, names_tag, Quoted, quoted, ends, escapes, stays}
use Rattle.lin_edn.specs.Rows.{bracket_of}
use Rattle.lin_edn.specs.declared.skim.Level.{Level}
use Rattle.lin_edn.specs.declared.skim.Part.{Part}
use Rattle.lin_edn.specs.declared.skim.Part.TheVariants as part
use Rattle.lin_edn.specs.declared.skim.Skim.{Skim}
use Rattle.lin_edn.specs.Skimming.{Shape, brackets, a_discard, a_tag, shapes_of, LeavesOpen, IsOpenText}

-- the levels that a vector or list opens, behind a tag or none
abbrev pub row_shapes : Bool → Bool → List Shape
row_shapes true is_vector = brackets (bracket_of is_vector) true ∷ a_tag ∷ []
row_shapes false is_vector = brackets (bracket_of is_vector) true ∷ []

-- it went so many bytes on, whatever stands behind them
abbrev pub HasGone : Skim → Skim → List ℕ → Type 0
HasGone old new bytes = (new.length ≡ old.length + length bytes) × ((text rest : List ℕ) →
    LeavesOpen text old.length (bytes ++ rest) (shapes_of old.levels.items) old.part → LeavesOpen text new.length rest (shapes_of new.levels.items) new.part)

-- it stopped at one of these bytes: what stands before them leaves nothing open with them
abbrev pub HasStopped : Skim → List ℕ → Type 0
HasStopped old bytes = (text : List ℕ) (is_comment : Bool) → LeavesOpen text old.length bytes (shapes_of old.levels.items) old.part → IsOpenText is_comment text → ⊥

-- the code goes on as the shapes do, or stops as they do
abbrev pub Does : Option (List Shape × Part) → List Level → Option Part → Type 0
Does next levels None = next ≡ None
Does next levels (Some p) = next ≡ Some (shapes_of levels, p)

-- whether a level can be closed after one more element
abbrev pub grown : Kind → Bool → Bool
grown a_list b = true
grown a_vector b = true
grown a_set b = true
grown a_map b = not b

-- None where nothing is open any more
abbrev pub still : List Shape → Option (List Shape)
still [] = None
still (l ∷ ls) = Some (l ∷ ls)

-- one more element
abbrev pub put_shape : List Shape → Option (List Shape)
put_shape [] = None
put_shape (brackets k b ∷ ls) = Some (brackets k (grown k b) ∷ ls)
put_shape (a_discard ∷ ls) = still ls
put_shape (a_tag ∷ ls) = put_shape ls

abbrev pub with_part : Part → Option (List Shape) → Option (List Shape × Part)
with_part p o = option_map (λ ls. (ls, p)) o

abbrev pub apart_shape : Behind → List Shape → Option (List Shape × Part)
apart_shape opens_set ls = Some (ls, part.Hash)
apart_shape opens_text ls = Some (ls, part.Hash)
apart_shape discards ls = Some (ls, part.Hash)
apart_shape joins ls = Some (ls, part.Hash)
apart_shape stands_apart ls = with_part part.Between (put_shape ls)
apart_shape names_tag ls = Some (ls, part.Hash)

abbrev pub deeper_shape : List Shape → List Shape × Part → Option (List Shape × Part)
deeper_shape ls r = if nat_le 64 (length ls) then None else Some r

-- what a byte ends before itself
abbrev pub ended_shape : Part → List Shape → ℕ → Option (List Shape × Part)
ended_shape part.Between ls c = Some (ls, part.Between)
ended_shape part.Run ls c = if is_stop c then with_part part.Between (put_shape ls) else Some (ls, part.Run)
ended_shape part.Hash ls c = apart_shape (behind c) ls
ended_shape part.Backslash ls c = Some (ls, part.Backslash)
ended_shape part.Tag ls c = if is_stop c then deeper_shape ls (a_tag ∷ ls, part.Between) else Some (ls, part.Tag)
ended_shape part.Text ls c = Some (ls, part.Text)
ended_shape part.Escape ls c = Some (ls, part.Escape)
ended_shape part.Comment ls c = Some (ls, part.Comment)

-- a byte closes a level
abbrev pub closes : Shape → ℕ → Bool
closes (brackets k b) c = (closing k == c) && b
closes a_discard c = false
closes a_tag c = false

abbrev pub close_shape : List Shape → ℕ → Option (List Shape × Part)
close_shape [] c = None
close_shape (l ∷ ls) c = if closes l c then with_part part.Between (put_shape ls) else None

abbrev pub begins_shape : Class → List Shape → ℕ → Option (List Shape × Part)
begins_shape white ls c = with_part part.Between (still ls)
begins_shape semicolon ls c = Some (ls, part.Comment)
begins_shape (opener k) ls c = deeper_shape ls (brackets k true ∷ ls, part.Between)
begins_shape closer ls c = close_shape ls c
begins_shape quote ls c = Some (ls, part.Text)
begins_shape backslash ls c = Some (ls, part.Backslash)
begins_shape hash ls c = Some (ls, part.Hash)
begins_shape inside ls c = Some (ls, part.Run)

abbrev pub goes_on_shape : Behind → List Shape → Option (List Shape × Part)
goes_on_shape opens_set ls = deeper_shape ls (brackets a_set true ∷ ls, part.Between)
goes_on_shape opens_text ls = Some (ls, part.Text)
goes_on_shape discards ls = deeper_shape ls (a_discard ∷ ls, part.Between)
goes_on_shape joins ls = Some (ls, part.Run)
goes_on_shape stands_apart ls = Some (ls, part.Run)
goes_on_shape names_tag ls = deeper_shape ls (ls, part.Tag)

abbrev pub quotes_shape : Quoted → List Shape → Option (List Shape × Part)
quotes_shape ends ls = with_part part.Between (put_shape ls)
quotes_shape escapes ls = Some (ls, part.Escape)
quotes_shape stays ls = Some (ls, part.Text)

-- the byte itself
abbrev pub taken_shape : Part → List Shape → ℕ → Option (List Shape × Part)
taken_shape part.Between ls c = begins_shape (class c) ls c
taken_shape part.Run ls c = Some (ls, part.Run)
taken_shape part.Hash ls c = goes_on_shape (behind c) ls
taken_shape part.Backslash ls c = Some (ls, part.Run)
taken_shape part.Tag ls c = Some (ls, part.Tag)
taken_shape part.Text ls c = quotes_shape (quoted c) ls
taken_shape part.Escape ls c = Some (ls, part.Text)
taken_shape part.Comment ls c = if is_newline c then with_part part.Between (still ls) else Some (ls, part.Comment)

-- What a reader that keeps no values knows of the text so far, in words of the grammar.
use Rattle.std.specs.Prelude.{◌≡◌, ℕ, ◌+◌, ◌<◌, ◌≤◌, Bool, true, false, List, [], length, slice_index, map, reverse, is_some, not}
use Rattle.lin_bytes.specs.Bytes.{Kind, a_list, a_vector, a_set, a_map, backslash, hash, is_stop, is_newline}
use Rattle.lin_edn.specs.Grammar.{One, Inside, Tag, Text, Escape, Comment, Frame, frame, discarding, tagging, outermost, Open, longest, IsUnfinished, IsBlankText}
use Rattle.lin_edn.specs.Scans.{is_quoting}
use Rattle.lin_edn.specs.Value.{made}
use Rattle.lin_edn.specs.declared.skim.Level.{Level}
use Rattle.lin_edn.specs.declared.skim.Level.TheVariants as level
use Rattle.lin_edn.specs.declared.skim.Part.{Part}
use Rattle.lin_edn.specs.declared.skim.Part.TheVariants as part
use Rattle.lin_edn.specs.declared.skim.Skim.{Skim}

-- a level without its values: whether it can be closed
pub data Shape : Type 0 where
  brackets : Kind → Bool → Shape
  a_discard : Shape
  a_tag : Shape

abbrev pub shape_of : Frame → Shape
shape_of (frame k o vs) = brackets k (is_some (made k vs))
shape_of (discarding o) = a_discard
shape_of (tagging o i w) = a_tag

abbrev pub level_view : Level → Shape
level_view level.List = brackets a_list true
level_view level.Vector = brackets a_vector true
level_view level.Set = brackets a_set true
level_view level.EvenMap = brackets a_map true
level_view level.OddMap = brackets a_map false
level_view level.Tag = a_tag
level_view level.Discard = a_discard

-- the open levels, the innermost first
abbrev pub shapes_of : List Level → List Shape
shapes_of ls = reverse (map level_view ls)

-- with so many more levels, this is begun at one place and open at another; a tag is a level more once its name ends
abbrev pub IsIn : Part → ℕ → ℕ → List ℕ → ℕ → List ℕ → Type 0
IsIn part.Between n p s q t = (p ≡ q) × (s ≡ t)
IsIn part.Run n p s q t = (w : List ℕ) × Inside p s w q t
IsIn part.Hash n p s q t = (w : List ℕ) × One hash p s w q t
IsIn part.Backslash n p s q t = (w : List ℕ) × One backslash p s w q t
IsIn part.Tag n p s q t = (0 < n) × (w : List ℕ) × Tag p s w q t
IsIn part.Text n p s q t = (w : List ℕ) × Text p s w q t
IsIn part.Escape n p s q t = (w : List ℕ) × Escape p s w q t
IsIn part.Comment n p s q t = Comment p s q t

-- The bytes of a text up to a place, from where on others stand, leave these levels open, and this part in the innermost; the
-- outermost of what is open begins with the first byte, and the bytes are no more than the longest element has.
abbrev pub LeavesOpen : List ℕ → ℕ → List ℕ → List Shape → Part → Type 0
LeavesOpen text at rest levels part = (at ≤ longest) × (n : ℕ) × (st : List Frame) × (p : ℕ) × (s : List ℕ) × Open text n st p s × IsIn part n p s at rest
    × (map shape_of st ≡ levels) × (outermost p st ≡ 0)

-- the reader without values has just the levels and the part that a text leaves open at its end
abbrev pub HasSeen : Skim → List ℕ → Type 0
HasSeen skim text = (skim.length ≡ length text) × LeavesOpen text skim.length [] (shapes_of skim.levels.items) skim.part

-- a text that is open from its first byte on is an unfinished comment, or an unfinished element or discard
abbrev pub IsOpenText : Bool → List ℕ → Type 0
IsOpenText true text = IsBlankText text 0
IsOpenText false text = IsUnfinished text 0

-- a byte of a run, of a tag's name, of a text or of a comment that leaves it open
abbrev pub is_more_of : Part → ℕ → Bool
is_more_of part.Between c = false
is_more_of part.Run c = not (is_stop c)
is_more_of part.Hash c = false
is_more_of part.Backslash c = false
is_more_of part.Tag c = not (is_stop c)
is_more_of part.Text c = not (is_quoting c)
is_more_of part.Escape c = false
is_more_of part.Comment c = not (is_newline c)

-- these are all such bytes, and not too many
abbrev pub IsMoreOf : Skim → List ℕ → Type 0
IsMoreOf skim bytes = ((i : ℕ) → i < length bytes → is_more_of skim.part (slice_index bytes i) ≡ true) × (skim.length + length bytes ≤ longest)

-- One pass over the bytes with a stack, as the code makes it: cited by the contracts of private functions alone.
use Rattle.std.specs.Prelude.{ℕ, ◌+◌, List, [], ◌∷◌, ◌++◌, length, Option, Some, None, if◌then◌else◌, ◌==◌, nat_le}
use Rattle.lin_bytes.specs.Bytes.{a_set, Class, white, semicolon, opener, closer, quote, backslash, hash, inside, class, is_stop, is_newline, closing, Behind, behind, opens_set, opens_text, discards, joins, stands_apart, names_tag, Quoted, quoted, ends, escapes, stays}
use Rattle.lin_edn.specs.Grammar.{Frame, frame, discarding, tagging, place_of, outermost}
use Rattle.lin_edn.specs.Run.{run_value}
use Rattle.lin_edn.specs.Value.{Value, atom, text, tagged, made}
use Rattle.lin_edn.specs.declared.EdnCause.{EdnCause}
use Rattle.lin_edn.specs.declared.EdnCause.TheVariants.{Unbalanced, OddMap, TooDeep}

-- what is open beside brackets, tags and discards: its place and its bytes so far
pub data Mode : Type 0 where
  between : Mode
  in_run : ℕ → List ℕ → Mode
  after_hash : ℕ → List ℕ → Mode
  after_backslash : ℕ → List ℕ → Mode
  in_tag : ℕ → List ℕ → Mode
  in_text : ℕ → List ℕ → Mode
  in_escape : ℕ → List ℕ → Mode
  in_comment : ℕ → Mode

pub data Answer : Type 0 where
  complete : Value → ℕ → ℕ → Answer
  blank : ℕ → Answer
  partial : ℕ → Answer
  -- the byte that can't follow, the place that tells it, and the cause
  fault : ℕ → ℕ → EdnCause → Answer
  too_long : ℕ → Answer

pub data Turn : Type 0 where
  go : List Frame → Mode → Turn
  stop : Answer → Turn

-- an element from p to q goes into the innermost of what is open, or is the answer
abbrev pub put : Value → ℕ → List Frame → ℕ → Turn
put v p [] q = stop (complete v p q)
put v p (frame k o vs ∷ st) q = go (frame k o (vs ++ v ∷ []) ∷ st) between
put v p (discarding o ∷ st) q = go st between
put v p (tagging o i w ∷ st) q = put (tagged i w v) o st q

-- a level that begins at p, and is known at the byte at
abbrev pub deeper : ℕ → ℕ → List Frame → Turn → Turn
deeper at p st t = if nat_le 64 (length st) then stop (fault at p TooDeep) else t

abbrev pub closed : Option Value → ℕ → List Frame → ℕ → Turn
closed None p st at = stop (fault at at OddMap)
closed (Some v) p st at = put v p st (at + 1)

abbrev pub close : ℕ → List Frame → ℕ → Turn
close at [] c = stop (fault at at Unbalanced)
close at (frame k p vs ∷ st) c = if closing k == c then closed (made k vs) p st at else stop (fault at at Unbalanced)
close at (discarding p ∷ st) c = stop (fault at at Unbalanced)
close at (tagging p i w ∷ st) c = stop (fault at at Unbalanced)

-- a byte where an element may begin
abbrev pub begins : Class → ℕ → List Frame → ℕ → Turn
begins white at st c = go st between
begins semicolon at st c = go st (in_comment at)
begins (opener k) at st c = deeper at at st (go (frame k at [] ∷ st) between)
begins closer at st c = close at st c
begins quote at st c = go st (in_text at (c ∷ []))
begins backslash at st c = go st (after_backslash at (c ∷ []))
begins hash at st c = go st (after_hash at (c ∷ []))
begins inside at st c = go st (in_run at (c ∷ []))

-- a byte behind a `#` at p, which doesn't stand alone
abbrev pub goes_on : Behind → ℕ → List Frame → ℕ → List ℕ → ℕ → Turn
goes_on opens_set at st p w c = deeper at p st (go (frame a_set p [] ∷ st) between)
goes_on opens_text at st p w c = go st (in_text p (w ++ c ∷ []))
goes_on discards at st p w c = deeper at p st (go (discarding p ∷ st) between)
goes_on joins at st p w c = go st (in_run p (w ++ c ∷ []))
goes_on stands_apart at st p w c = go st (in_run p (w ++ c ∷ []))
goes_on names_tag at st p w c = deeper at p st (go st (in_tag p (c ∷ [])))

-- a byte of a text
abbrev pub quotes : Quoted → ℕ → List Frame → ℕ → List ℕ → ℕ → Turn
quotes ends at st p w c = put (text p (w ++ c ∷ [])) p st (at + 1)
quotes escapes at st p w c = go st (in_escape p (w ++ c ∷ []))
quotes stays at st p w c = go st (in_text p (w ++ c ∷ []))

-- a `#` that stands alone before a byte is whole
abbrev pub apart : Behind → ℕ → List Frame → ℕ → List ℕ → Turn
apart opens_set at st p w = go st (after_hash p w)
apart opens_text at st p w = go st (after_hash p w)
apart discards at st p w = go st (after_hash p w)
apart joins at st p w = go st (after_hash p w)
apart stands_apart at st p w = put (atom p w) p st at
apart names_tag at st p w = go st (after_hash p w)

-- what a byte ends before itself: a run, a `#` that stands alone, a tag
abbrev pub ended : ℕ → List Frame → Mode → ℕ → Turn
ended at st between c = go st between
ended at st (in_run p w) c = if is_stop c then put (run_value p w) p st at else go st (in_run p w)
ended at st (after_hash p w) c = apart (behind c) at st p w
ended at st (after_backslash p w) c = go st (after_backslash p w)
ended at st (in_tag p w) c = if is_stop c then go (tagging p (p + 1) w ∷ st) between else go st (in_tag p w)
ended at st (in_text p w) c = go st (in_text p w)
ended at st (in_escape p w) c = go st (in_escape p w)
ended at st (in_comment p) c = go st (in_comment p)

-- the byte itself, which ends nothing before it
abbrev pub taken : ℕ → List Frame → Mode → ℕ → Turn
taken at st between c = begins (class c) at st c
taken at st (in_run p w) c = go st (in_run p (w ++ c ∷ []))
taken at st (after_hash p w) c = goes_on (behind c) at st p w c
taken at st (after_backslash p w) c = go st (in_run p (w ++ c ∷ []))
taken at st (in_tag p w) c = go st (in_tag p (w ++ c ∷ []))
taken at st (in_text p w) c = quotes (quoted c) at st p w c
taken at st (in_escape p w) c = go st (in_text p (w ++ c ∷ []))
taken at st (in_comment p) c = if is_newline c then go st between else go st (in_comment p)

abbrev pub since : ℕ → Mode → ℕ
since at between = at
since at (in_run p w) = p
since at (after_hash p w) = p
since at (after_backslash p w) = p
since at (in_tag p w) = p
since at (in_text p w) = p
since at (in_escape p w) = p
since at (in_comment p) = p

-- where what stands at the top, and is open before a place, begins: at that place where nothing is open
abbrev pub begun : ℕ → List Frame → Mode → ℕ
begun at st m = outermost (since at m) st

-- a byte that isn't the first one too many, where what stands at the top has at most so many
abbrev pub limited : ℕ → ℕ → ℕ → Turn → Turn
limited most at c (stop a) = stop a
limited most at c (go st m) = if nat_le (begun at st m + most) at then stop (too_long (begun at st m)) else taken at st m c

abbrev pub step : ℕ → ℕ → List Frame → Mode → ℕ → Turn
step most at st m c = limited most at c (ended at st m c)

abbrev pub open_end : ℕ → List Frame → Answer
open_end at [] = blank at
open_end at (f ∷ st) = partial (outermost (place_of f) st)

abbrev pub at_end : ℕ → Mode → List Frame → Answer
at_end at between st = open_end at st
at_end at (in_run p w) st = partial (outermost p st)
at_end at (after_hash p w) st = partial (outermost p st)
at_end at (after_backslash p w) st = partial (outermost p st)
at_end at (in_tag p w) st = partial (outermost p st)
at_end at (in_text p w) st = partial (outermost p st)
at_end at (in_escape p w) st = partial (outermost p st)
at_end at (in_comment p) st = open_end p st

abbrev pub on_turn : Turn → (List Frame → Mode → Answer) → Answer
on_turn (go st m) f = f st m
on_turn (stop a) f = a

unfoldable pub run : ℕ → ℕ → List Frame → Mode → List ℕ → Answer
run most at st m [] = at_end at m st
run most at st m (c ∷ s) = on_turn (step most at st m c) (λ st' m'. run most (at + 1) st' m' s)

-- Where events stand, as an explanation tells it: on a line of the recording, at a byte of it, or by their position alone.
use Rattle.std.specs.Prelude.{ℕ, ◌+◌, ◌-◌, ◌==◌, ◌||◌, ◌&&◌, nat_lt, Bool, List, ◌++◌, Option, Some, None, codes, decimal, slice_get, if◌then◌else◌, option_map}
use Rattle.lin_texts.specs.declared.place.Place.{Place}
use Rattle.lin_tables.specs.declared.tables.LineSpan.{LineSpan}
use Rattle.lin_tables.specs.declared.tables.LineSpan.TheVariants.{Lines, Bytes, Nowhere}

abbrev pub line_in : Option Place → ℕ
line_in None = 0
line_in (Some p) = p.line

abbrev pub offset_in : Option Place → ℕ
offset_in None = 0
offset_in (Some p) = p.offset

-- the line of an event, and the offset of its first byte; 0 where there is none
abbrev pub line_at : List Place → ℕ → ℕ
line_at places at = line_in (slice_get places at)

abbrev pub offset_at : List Place → ℕ → ℕ
offset_at places at = offset_in (slice_get places at)

-- the event before it or behind it has the same line
abbrev pub is_shared : List Place → ℕ → Bool
is_shared places at = (nat_lt 0 at && (line_at places (at - 1) == line_at places at)) || (line_at places (at + 1) == line_at places at)

-- a place that tells one event from all others: its line, unless that has another event beside it, else its byte
abbrev pub place_text : List Place → ℕ → List ℕ
place_text places at = if is_shared places at then codes "byte " ++ decimal (offset_at places at) else codes "line " ++ decimal (line_at places at)

-- without a recording an event is told by its position
abbrev pub spot_text : Option (List Place) → ℕ → List ℕ
spot_text None at = codes "event " ++ decimal at
spot_text (Some places) at = place_text places at

-- the position and the place
abbrev pub event_spot_text : Option (List Place) → ℕ → List ℕ
event_spot_text None at = codes "event " ++ decimal at
event_spot_text (Some places) at = codes "event " ++ decimal at ++ codes ", " ++ place_text places at

-- whether the place of one of the two is told by its byte
abbrev pub is_by_bytes : List Place → ℕ → Option ℕ → Bool
is_by_bytes places from None = is_shared places from
is_by_bytes places from (Some to) = is_shared places from || is_shared places to

-- where the two ends of an operation stand: by lines where both can be told so
abbrev pub span_at : Option (List Place) → ℕ → Option ℕ → LineSpan
span_at None from to = Nowhere
span_at (Some places) from to = if is_by_bytes places from to then Bytes (offset_at places from) (option_map (offset_at places) to)
    else Lines (line_at places from) (option_map (line_at places) to)

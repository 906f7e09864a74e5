-- The tables of the bytes.
use Rattle.std.specs.Prelude.{ℕ, Bool, true, false, ◌||◌, ◌&&◌, ◌==◌, nat_le, if◌then◌else◌}

-- what brackets hold
pub data Kind : Type 0 where
  a_list : Kind
  a_vector : Kind
  a_set : Kind
  a_map : Kind

-- what a byte does where an element may begin
pub data Class : Type 0 where
  white : Class
  semicolon : Class
  opener : Kind → Class
  closer : Class
  quote : Class
  backslash : Class
  hash : Class
  inside : Class

-- bytes 9 to 13, a space and a comma
abbrev pub is_white : ℕ → Bool
is_white c = (c == 9) || (c == 10) || (c == 11) || (c == 12) || (c == 13) || (c == 32) || (c == 44)

abbrev pub class : ℕ → Class
class c =
    if is_white c then white
    else (if c == 40 then opener a_list
    else (if c == 41 then closer
    else (if c == 91 then opener a_vector
    else (if c == 93 then closer
    else (if c == 123 then opener a_map
    else (if c == 125 then closer
    else (if c == 34 then quote
    else (if c == 59 then semicolon
    else (if c == 92 then backslash
    else (if c == 35 then hash
    else inside))))))))))

abbrev pub stops : Class → Bool
stops white = true
stops semicolon = true
stops (opener k) = true
stops closer = true
stops quote = true
stops backslash = true
stops hash = false
stops inside = false

-- a byte that ends a run
abbrev pub is_stop : ℕ → Bool
is_stop c = stops (class c)

-- a byte that begins a run
abbrev pub is_inside : Class → Bool
is_inside white = false
is_inside semicolon = false
is_inside (opener k) = false
is_inside closer = false
is_inside quote = false
is_inside backslash = false
is_inside hash = false
is_inside inside = true

-- what a byte does behind a `#` that begins an element
pub data Behind : Type 0 where
  -- `{`
  opens_set : Behind
  -- `"`
  opens_text : Behind
  -- `_`
  discards : Behind
  -- `#` or `'`
  joins : Behind
  -- any other stop byte
  stands_apart : Behind
  -- any other byte
  names_tag : Behind

abbrev pub behind : ℕ → Behind
behind c =
    if c == 123 then opens_set
    else (if c == 34 then opens_text
    else (if c == 95 then discards
    else (if c == 35 then joins
    else (if c == 39 then joins
    else (if is_stop c then stands_apart
    else names_tag)))))

-- what a byte does in a text, where no backslash stands before it
pub data Quoted : Type 0 where
  -- `"`
  ends : Quoted
  -- `\`
  escapes : Quoted
  -- any other byte
  stays : Quoted

abbrev pub quoted : ℕ → Quoted
quoted c = if c == 34 then ends else (if c == 92 then escapes else stays)

abbrev pub is_newline : ℕ → Bool
is_newline c = c == 10

abbrev pub is_digit : ℕ → Bool
is_digit c = nat_le 48 c && nat_le c 57

abbrev pub closing : Kind → ℕ
closing a_list = 41
closing a_vector = 93
closing a_set = 125
closing a_map = 125

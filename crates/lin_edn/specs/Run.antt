-- Which value a run spells.
use Rattle.std.specs.Prelude.{ℕ, ◌+◌, ◌*◌, ◌-◌, ◌^◌, ℤ, pos, neg_ℤ, Bool, true, false, ◌&&◌, ◌||◌, ◌==◌, not, nat_le, nat_lt, if◌then◌else◌, List, [], ◌∷◌, length, take, slice_index, Option, Some, None, codes}
use Rattle.std.specs.Str.{bytes_eq}
use Rattle.lin_bytes.specs.Bytes.{is_digit}
use Rattle.lin_edn.specs.Value.{Value, nil, bool, int, atom, keyword}

abbrev pub is_minus : ℕ → Bool
is_minus c = c == 45

-- the run begins with a minus
abbrev pub is_negative : List ℕ → Bool
is_negative [] = false
is_negative (c ∷ w) = is_minus c

-- the run without its sign
abbrev pub unsigned : List ℕ → List ℕ
unsigned [] = []
unsigned (c ∷ w) = if is_minus c || (c == 43) then w else c ∷ w

-- without an N at its end
abbrev pub unmarked : List ℕ → List ℕ
unmarked w = if slice_index w (length w - 1) == 78 then take (length w - 1) w else w

-- at least one byte, and no 0 before another
abbrev pub is_plain_numeral : List ℕ → Bool
is_plain_numeral [] = false
is_plain_numeral (c ∷ w) = not (c == 48) || (length w == 0)

-- the number that digits write behind those of n; none where another byte is among them
abbrev pub number_after : ℕ → List ℕ → Option ℕ
number_after n [] = Some n
number_after n (c ∷ w) = if is_digit c then number_after (n * 10 + (c - 48)) w else None

-- a number with its sign, where it has 64 bits
abbrev pub in_range : Bool → Option ℕ → Option ℤ
in_range is_below None = None
in_range true (Some n) = if nat_le n (2 ^ 63) then Some (neg_ℤ (pos n)) else None
in_range false (Some n) = if nat_lt n (2 ^ 63) then Some (pos n) else None

-- the integer that a run spells
abbrev pub integer : List ℕ → Option ℤ
integer w =
    if is_plain_numeral (unmarked (unsigned w)) then in_range (is_negative w) (number_after 0 (unmarked (unsigned w)))
    else None

-- a colon and at least one more byte
abbrev pub is_keyword : List ℕ → Bool
is_keyword [] = false
is_keyword (c ∷ w) = (c == 58) && not (length w == 0)

abbrev pub of_number : ℕ → List ℕ → Option ℤ → Value
of_number p w (Some z) = int z
of_number p w None = if is_keyword w then keyword p w else atom p w

-- the value of the run that begins at a place
abbrev pub run_value : ℕ → List ℕ → Value
run_value p w =
    if bytes_eq w (codes "nil") then nil
    else (if bytes_eq w (codes "true") then bool true
    else (if bytes_eq w (codes "false") then bool false
    else of_number p w (integer w)))

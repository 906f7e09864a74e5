-- The numbers that texts write.
use Rattle.std.specs.Prelude.{ℕ, ◌+◌, ◌-◌, ◌*◌, ◌^◌, ◌==◌, nat_le, ◌&&◌, Bool, true, List, [], ◌∷◌, Option, None, Some, ℤ, pos, neg_ℤ, if◌then◌else◌}
use Rattle.std.specs.Option.{option_map}
use Rattle.lin_bytes.specs.Bytes.{is_digit}

abbrev pub all_digits : List ℕ → Bool
all_digits [] = true
all_digits (c ∷ cs) = is_digit c && all_digits cs

-- the number that the digits write after those of n
abbrev pub value_after : ℕ → List ℕ → ℕ
value_after n [] = n
value_after n (c ∷ cs) = value_after (n * 10 + (c - 48)) cs

-- the number that one or more digits write, where it is at most `most`
abbrev pub number_of : ℕ → List ℕ → Option ℕ
number_of most [] = None
number_of most (c ∷ cs) =
    if all_digits (c ∷ cs) && nat_le (value_after 0 (c ∷ cs)) most then Some (value_after 0 (c ∷ cs)) else None

-- the number of 64 bits with sign that digits write, with or without a `-` before them
abbrev pub integer_of : List ℕ → Option ℤ
integer_of [] = None
integer_of (c ∷ cs) =
    if c == 45 then option_map (λ n. neg_ℤ (pos n)) (number_of (2 ^ 63) cs) else option_map pos (number_of (2 ^ 63 - 1) (c ∷ cs))

-- Bits of processes: words of private contracts.
use Rattle.std.specs.Prelude.{ℕ, ◌%◌, ◌^◌, ◌&&◌, Bool, nat_eq, List, [], ◌∷◌, filter, map}
use Rattle.std.specs.List.{list_any}
use Rattle.std.specs.Int.Bits.{bit_or}
use Rattle.lin_events.specs.declared.calls.Reply.{Reply}
use Rattle.lin_frontier.specs.declared.pending.Open.{Open}

-- the bits of the processes; every 64th process has the same
abbrev pub bits_of : List ℕ → ℕ
bits_of [] = 0
bits_of (p ∷ ps) = bit_or (2 ^ (p % 64)) (bits_of ps)

-- those of the pairs
abbrev pub mask_of : List (ℕ × Reply) → ℕ
mask_of pairs = bits_of (map (λ x. x.0) pairs)

-- those of the operations that crashed
abbrev pub crashed_bits : List Open → ℕ
crashed_bits pending = bits_of (map (λ o. o.process) (filter (λ o. o.crashed) pending))

-- an operation of the process has crashed
abbrev pub is_crashed : List Open → ℕ → Bool
is_crashed pending process = list_any (λ o. nat_eq o.process process && o.crashed) pending

-- the bits of what is placed, and of what crashed
abbrev pub bits_beside : List Open → List (ℕ × Reply) → ℕ
bits_beside pending placed = bit_or (mask_of placed) (crashed_bits pending)

-- What `next_element` answers.
use Rattle.std.specs.Prelude.{◌≡◌, ℕ, List, Result, Ok, Err}
use Rattle.lin_edn.specs.Grammar.{IsBlankText, Spells, IsUnfinished, IsTooLong, IsLeast, IsInReach, Faulty}
use Rattle.lin_edn.specs.Value.{Value}
use Rattle.lin_edn.specs.View.{view}
use Rattle.lin_edn.specs.declared.EdnCause.{EdnCause}
use Rattle.lin_edn.specs.declared.EdnCause.TheVariants.{Unbalanced, OddMap, TooDeep, TooLong, OutOfMemory}
use Rattle.lin_edn.specs.declared.EdnFault.{EdnFault}
use Rattle.lin_edn.specs.declared.Next.{Next}
use Rattle.lin_edn.specs.declared.Next.TheVariants.{Complete, Partial, Blank}

-- some byte is the first that no text can go on with, it is in reach, and this is wrong with it
abbrev pub IsWrong : List ℕ → ℕ → EdnCause → Type 0
IsWrong s at cause = (j : ℕ) × IsLeast s j × IsInReach s j × Faulty s j at cause

-- what a fault says of the input
abbrev pub Refuses : List ℕ → ℕ → EdnCause → Type 0
Refuses s at Unbalanced = IsWrong s at Unbalanced
Refuses s at OddMap = IsWrong s at OddMap
Refuses s at TooDeep = IsWrong s at TooDeep
Refuses s at TooLong = IsTooLong s at
Refuses s at OutOfMemory = at ≡ 0

-- an answer, apart from where its element lies in memory
pub data Reading : Type 0 where
  -- an element from one place to another
  an_element : Value → ℕ → ℕ → Reading
  -- from a place on something unfinished
  unfinished : ℕ → Reading
  -- blanks up to a place
  blanks : ℕ → Reading
  -- a fault that a place tells
  refused : ℕ → EdnCause → Reading

-- what an answer says of the input
abbrev pub Allows : List ℕ → Reading → Type 0
Allows s (an_element v at used) = Spells s v at used
Allows s (unfinished at) = IsUnfinished s at
Allows s (blanks used) = IsBlankText s used
Allows s (refused at cause) = Refuses s at cause

abbrev pub reading_of : Result Next EdnFault → Reading
reading_of (Ok (Complete v at used)) = an_element (view v) at used
reading_of (Ok (Partial at)) = unfinished at
reading_of (Ok (Blank used)) = blanks used
reading_of (Err f) = refused f.at f.cause

-- what each answer says of the input
abbrev pub Says : List ℕ → Result Next EdnFault → Type 0
Says s answer = Allows s (reading_of answer)

-- the fault that says that memory ran out
abbrev pub out_of_memory : EdnFault
out_of_memory = record { at = 0; cause = OutOfMemory }

-- memory ran out
abbrev pub IsOutOfMemory : EdnCause → Type 0
IsOutOfMemory Unbalanced = ⊥
IsOutOfMemory OddMap = ⊥
IsOutOfMemory TooDeep = ⊥
IsOutOfMemory TooLong = ⊥
IsOutOfMemory OutOfMemory = Unit {0}

-- the answer is that memory ran out
abbrev pub IsWantOfMemory : Reading → Type 0
IsWantOfMemory (an_element v at used) = ⊥
IsWantOfMemory (unfinished at) = ⊥
IsWantOfMemory (blanks used) = ⊥
IsWantOfMemory (refused at cause) = IsOutOfMemory cause

-- the answer is this value from one place to another, unless memory runs out
abbrev pub IsRead : Result Next EdnFault → Value → ℕ → ℕ → Type 0
IsRead (Ok (Complete w from until)) v at used = (view w ≡ v) × (from ≡ at) × (until ≡ used)
IsRead (Ok (Partial p)) v at used = ⊥
IsRead (Ok (Blank q)) v at used = ⊥
IsRead (Err f) v at used = IsOutOfMemory f.cause

-- the answer is that nothing but blanks is there, unless memory runs out
abbrev pub IsBlank : Result Next EdnFault → ℕ → Type 0
IsBlank (Ok (Complete w from until)) used = ⊥
IsBlank (Ok (Partial p)) used = ⊥
IsBlank (Ok (Blank q)) used = q ≡ used
IsBlank (Err f) used = IsOutOfMemory f.cause

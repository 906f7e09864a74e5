-- What the pass of the code does, as turns of the machine: cited by the contracts of private functions alone.
use Rattle.std.specs.Prelude.{◌≡◌, ℕ, ◌+◌, List, Result, Ok, Err, ◌≤◌}
use Rattle.std.specs.List.{slice_range}
use Rattle.lin_edn.specs.Grammar.{Frame}
use Rattle.lin_edn.specs.inner.Machine.{Mode, between, in_run, after_hash, after_backslash, in_tag, in_text, in_escape, in_comment, Turn, go, stop, Answer, complete, blank, partial, fault, too_long}
use Rattle.lin_edn.specs.View.{view}
use Rattle.lin_edn.specs.declared.EdnCause.{EdnCause}
use Rattle.lin_edn.specs.declared.EdnCause.TheVariants.{Unbalanced, OddMap, TooDeep, TooLong, OutOfMemory}
use Rattle.lin_edn.specs.declared.EdnFault.{EdnFault}
use Rattle.lin_edn.specs.declared.Next.{Next}
use Rattle.lin_edn.specs.declared.Next.TheVariants as next
use Rattle.lin_bytes.specs.Bytes.{Behind, opens_set, opens_text, discards, joins, stands_apart, names_tag}
use Rattle.lin_edn.specs.declared.reader.Behind.{Behind as CodeBehind}
use Rattle.lin_edn.specs.declared.reader.Behind.TheVariants as behind
use Rattle.lin_edn.specs.declared.reader.Ended.{Ended}
use Rattle.lin_edn.specs.declared.reader.Ended.TheVariants as ended
use Rattle.lin_edn.specs.declared.reader.Mode.{Mode as CodeMode}
use Rattle.lin_edn.specs.declared.reader.Mode.TheVariants as mode
use Rattle.lin_edn.specs.declared.reader.Moved.{Moved}
use Rattle.lin_edn.specs.declared.reader.Moved.TheVariants as moved

abbrev pub behind_of : CodeBehind → Behind
behind_of behind.Set = opens_set
behind_of behind.Text = opens_text
behind_of behind.Discard = discards
behind_of behind.Atom = joins
behind_of behind.Apart = stands_apart
behind_of behind.Tag = names_tag

-- the mode after the bytes before a place
abbrev pub mode_of : List ℕ → ℕ → CodeMode → Mode
mode_of s at mode.Between = between
mode_of s at (mode.Run start) = in_run start (slice_range s start at)
mode_of s at (mode.Hash start) = after_hash start (slice_range s start at)
mode_of s at (mode.Backslash start) = after_backslash start (slice_range s start at)
mode_of s at (mode.Tag start) = in_tag start (slice_range s (start + 1) at)
mode_of s at (mode.Text start) = in_text start (slice_range s start at)
mode_of s at (mode.Escape start) = in_escape start (slice_range s start at)
mode_of s at (mode.Comment start) = in_comment start

-- what is open began before a place
abbrev pub IsBegun : CodeMode → ℕ → Type 0
IsBegun mode.Between at = Unit {0}
IsBegun (mode.Run start) at = start ≤ at
IsBegun (mode.Hash start) at = start + 1 ≡ at
IsBegun (mode.Backslash start) at = start ≤ at
IsBegun (mode.Tag start) at = start + 1 ≤ at
IsBegun (mode.Text start) at = start ≤ at
IsBegun (mode.Escape start) at = start ≤ at
IsBegun (mode.Comment start) at = start ≤ at

abbrev pub FaultsIn : ℕ → ℕ → EdnCause → Turn → Type 0
FaultsIn at i Unbalanced t = t ≡ stop (fault at i Unbalanced)
FaultsIn at i OddMap t = t ≡ stop (fault at i OddMap)
FaultsIn at i TooDeep t = t ≡ stop (fault at i TooDeep)
FaultsIn at i TooLong t = t ≡ stop (too_long i)
FaultsIn at i OutOfMemory t = ⊥

-- what the code made of the byte at a place is the machine's turn
abbrev pub IsMove : List ℕ → ℕ → Moved → List Frame → Turn → Type 0
IsMove s at (moved.On m) st t = (t ≡ go st (mode_of s (at + 1) m)) × IsBegun m (at + 1)
IsMove s at (moved.Done e from used) st t = t ≡ stop (complete (view e) from used)
IsMove s at (moved.Fault i k) st t = FaultsIn at i k t

-- what the code ended before the byte at a place
abbrev pub IsEnding : List ℕ → ℕ → Ended → List Frame → Turn → Type 0
IsEnding s at (ended.On m) st t = (t ≡ go st (mode_of s at m)) × IsBegun m at
IsEnding s at (ended.Whole e from) st t = t ≡ stop (complete (view e) from at)

abbrev pub IsFault : Answer → ℕ → EdnCause → Type 0
IsFault a at Unbalanced = (j : ℕ) × (a ≡ fault j at Unbalanced)
IsFault a at OddMap = (j : ℕ) × (a ≡ fault j at OddMap)
IsFault a at TooDeep = (j : ℕ) × (a ≡ fault j at TooDeep)
IsFault a at TooLong = a ≡ too_long at
IsFault a at OutOfMemory = at ≡ 0

-- what is answered, unless memory runs out
abbrev pub Answers : Answer → Result Next EdnFault → Type 0
Answers a (Ok (next.Complete v from used)) = a ≡ complete (view v) from used
Answers a (Ok (next.Partial from)) = a ≡ partial from
Answers a (Ok (next.Blank used)) = a ≡ blank used
Answers a (Err f) = IsFault a f.at f.cause

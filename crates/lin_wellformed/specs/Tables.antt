-- The processes of some events in turn, and where each has its last event among them.
use Rattle.std.specs.Prelude.{◌≡◌, ◌<◌, ℕ, zero, suc, List, Option, Some, None, map, length, take, get_or, slice_get}
use Rattle.lin_wellformed.specs.declared.last_events.Change.{Change}

-- this is the last place where the process stands; or none is given, and it stands nowhere
abbrev pub IsLastPlace : List ℕ → ℕ → Option ℕ → Type 0
IsLastPlace processes process None = (k : ℕ) → slice_get processes k ≡ Some process → ⊥
IsLastPlace processes process (Some at) = (slice_get processes at ≡ Some process) × ((k : ℕ) → at < k → slice_get processes k ≡ Some process → ⊥)

-- the place that a code says: one less; 0 says none
abbrev pub place_in : ℕ → Option ℕ
place_in zero = None
place_in (suc place) = Some place

-- no process has two numbers
abbrev pub AreEachOnce : List ℕ → Type 0
AreEachOnce listed = (m n process : ℕ) → slice_get listed m ≡ Some process → slice_get listed n ≡ Some process → m ≡ n

-- each process is listed once, and each number that is kept of a small one is that of its place in the list
pub record AreNumbers (listed small : List ℕ) : Type 0 where
  pub once : AreEachOnce listed
  pub kept : (process number : ℕ) → slice_get small process ≡ Some (suc number) → slice_get listed number ≡ Some process

-- the numbers of the processes of the events
abbrev pub numbers_in : List Change → List ℕ
numbers_in = map (λ (change : Change). change.number)

-- the codes say where each number has its last event, and each change where its number had it before
pub record AreLast (last : List ℕ) (changes : List Change) : Type 0 where
  pub within : (k : ℕ) (change : Change) → slice_get changes k ≡ Some change → change.number < length last
  pub ends : (number code : ℕ) → slice_get last number ≡ Some code → IsLastPlace (numbers_in changes) number (place_in code)
  pub before : (k : ℕ) (change : Change) → slice_get changes k ≡ Some change → IsLastPlace (numbers_in (take k changes)) change.number (place_in change.before)

-- the processes with these numbers
abbrev pub processes_in : List ℕ → List ℕ → List ℕ
processes_in listed = map (λ number. get_or listed number 0)

-- each number is that of a process
abbrev pub AreListed : List ℕ → List ℕ → Type 0
AreListed listed numbers = (k number : ℕ) → slice_get numbers k ≡ Some number → number < length listed

-- A turn that faults, as an answer.
use Rattle.std.proofs.Common.{◌≡◌, ℕ}
use Rattle.lin_edn.specs.inner.Machine.{Answer, Turn, stop, fault, too_long}
use Rattle.lin_edn.specs.inner.Turns.{FaultsIn, IsFault}
use Rattle.lin_edn.specs.declared.EdnCause.{EdnCause}
use Rattle.lin_edn.specs.declared.EdnCause.TheVariants.{Unbalanced, OddMap, TooDeep, TooLong, OutOfMemory}

pub fault_of : (a : Answer) (at i : ℕ) (k : EdnCause) (t : Turn) → ((b : Answer) → t ≡ stop b → a ≡ b) → FaultsIn at i k t → IsFault a i k
fault_of a at i Unbalanced t f h = (at, f (fault at i Unbalanced) h)
fault_of a at i OddMap t f h = (at, f (fault at i OddMap) h)
fault_of a at i TooDeep t f h = (at, f (fault at i TooDeep) h)
fault_of a at i TooLong t f h = f (too_long i) h
fault_of a at i OutOfMemory t f h = absurd h

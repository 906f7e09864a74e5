use Rattle.std.proofs.Common.{◌≡◌, ℕ, Result, Ok, Err}
use Rattle.lin_edn.proofs.Forth.{spells_run, blank_input}
use Rattle.lin_edn.specs.inner.Machine.{Answer, complete, blank, fault}
use Rattle.lin_edn.specs.Reading.{IsRead, IsBlank, IsOutOfMemory}
use Rattle.lin_edn.specs.inner.Turns.{Answers, IsFault}
use Rattle.lin_edn.specs.Value.{Value}
use Rattle.lin_edn.specs.declared.EdnCause.{EdnCause}
use Rattle.lin_edn.specs.declared.EdnCause.TheVariants.{Unbalanced, OddMap, TooDeep, TooLong, OutOfMemory}
use Rattle.lin_edn.specs.declared.EdnFault.{EdnFault}
use Rattle.lin_edn.specs.declared.Next.{Next}
use Rattle.lin_edn.specs.declared.Next.TheVariants.{Complete, Partial, Blank}
use Rattle.lin_edn.proofs.Sound.{says_of}
use Rattle.lin_edn.proofs.next_element.Goals as goal

fault_clash : (a : Answer) (j i : ℕ) (k : EdnCause) (v : Value) (p q : ℕ) → a ≡ fault j i k → a ≡ complete v p q → ⊥
fault_clash a j i k v p q h e = cc

blank_clash : (a : Answer) (j i : ℕ) (k : EdnCause) (q : ℕ) → a ≡ fault j i k → a ≡ blank q → ⊥
blank_clash a j i k q h e = cc

no_fault : (a : Answer) (at : ℕ) (k : EdnCause) (v : Value) (p q : ℕ) → a ≡ complete v p q → IsFault a at k → IsOutOfMemory k
no_fault a at Unbalanced v p q e h = fault_clash a h.0 at Unbalanced v p q h.1 e
no_fault a at OddMap v p q e h = fault_clash a h.0 at OddMap v p q h.1 e
no_fault a at TooDeep v p q e h = fault_clash a h.0 at TooDeep v p q h.1 e
no_fault a at TooLong v p q e h = cc
no_fault a at OutOfMemory v p q e h = tt

no_blank_fault : (a : Answer) (at : ℕ) (k : EdnCause) (q : ℕ) → a ≡ blank q → IsFault a at k → IsOutOfMemory k
no_blank_fault a at Unbalanced q e h = blank_clash a h.0 at Unbalanced q h.1 e
no_blank_fault a at OddMap q e h = blank_clash a h.0 at OddMap q h.1 e
no_blank_fault a at TooDeep q e h = blank_clash a h.0 at TooDeep q h.1 e
no_blank_fault a at TooLong q e h = cc
no_blank_fault a at OutOfMemory q e h = tt

read_of : (a : Answer) (r : Result Next EdnFault) (v : Value) (at used : ℕ) → Answers a r → a ≡ complete v at used → IsRead r v at used
read_of a (Ok (Complete w from until)) v at used h e = (cc, cc, cc)
read_of a (Ok (Partial p)) v at used h e = cc
read_of a (Ok (Blank q)) v at used h e = cc
read_of a (Err f) v at used h e = no_fault a f.at f.cause v at used e h

blank_of : (a : Answer) (r : Result Next EdnFault) (used : ℕ) → Answers a r → a ≡ blank used → IsBlank r used
blank_of a (Ok (Complete w from until)) used h e = cc
blank_of a (Ok (Partial p)) used h e = cc
blank_of a (Ok (Blank q)) used h e = cc
blank_of a (Err f) used h e = no_blank_fault a f.at f.cause used e h

pub returns : goal.returns
returns c = record {
  says = says_of c.args.input.now c.scan.result c.scan.ensures;
  read = λ v at used h. read_of _ c.scan.result v at used c.scan.ensures (spells_run h);
  blank = λ used h. blank_of _ c.scan.result used c.scan.ensures (blank_input h);
}

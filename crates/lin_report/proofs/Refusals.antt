-- A fault that is passed on.
use Rattle.std.proofs.Common.{◌≡◌, Result, Ok, Err, IfErr, sym, subst}
use Rattle.std.specs.Prelude.{IsErrAnd}
use Rattle.lin_texts.specs.declared.faults.RunFault.{RunFault}

pub passed_on : {A : Type 0} (r : Result A RunFault) (fault : RunFault) (Q : RunFault → Type 0) → IsErrAnd r (λ f. f ≡ fault) → Q fault → IfErr r Q
passed_on (Ok x) fault Q same q = tt
passed_on (Err f) fault Q same q = subst Q (sym same) q

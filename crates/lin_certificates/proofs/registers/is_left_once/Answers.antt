use Rattle.std.proofs.Common.{subst}
use Rattle.std.proofs.lemmas.Bool.Decides.{Decides-eqb}
use Rattle.lin_certificates.specs.Words.{Exactly}
use Rattle.lin_certificates.specs.Certificates.{CanLeave}
use Rattle.lin_certificates.proofs.Numbers.{exactly_one}
use Rattle.lin_certificates.proofs.registers.is_left_once.Goals as goal

pub returns : goal.returns
returns c =
    let P = CanLeave c.args.events.now c.args.value in
    let count = c.count_of.result in
    let same = Decides-eqb count 1 in
    (λ yes'. subst (λ k. Exactly k P) (same.0 yes') c.count_of.ensures, λ is. same.1 (exactly_one P count 1 c.count_of.ensures is))

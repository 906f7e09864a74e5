use Rattle.std.proofs.Common.{subst}
use Rattle.std.proofs.lemmas.Bool.Decides.{Decides-eqb}
use Rattle.lin_certificates.specs.Words.{Exactly}
use Rattle.lin_certificates.specs.Certificates.{CanAdd}
use Rattle.lin_certificates.proofs.Deciding.{both}
use Rattle.lin_certificates.proofs.Numbers.{exactly_one}
use Rattle.lin_certificates.proofs.queues.is_once.Goals as goal

pub returns : goal.returns
returns c =
    let n = c.args.item in
    let P = CanAdd c.args.events.now n in
    let count = c.count_of-puts.result in
    let same = Decides-eqb count 1 in
    both _ _ ((λ yes'. subst (λ k. Exactly k P) (same.0 yes') c.count_of-puts.ensures), λ is. same.1 (exactly_one P count 1 c.count_of-puts.ensures is)) c.is_any-took.ensures

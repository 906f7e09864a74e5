use Rattle.std.proofs.Common.{◌≢◌, ◌↔◌, IsTrue, sym, subst}
use Rattle.lin_events.specs.Sameness.{Decides-item_eq}
use Rattle.lin_certificates.proofs.Deciding.{both, made, neither}
use Rattle.lin_certificates.proofs.queues.is_passed.Goals as goal

pub returns : goal.returns
returns c =
    let n = c.args.item in
    let other = c.args.other in
    let differ = subst (λ b. IsTrue b ↔ (n ≢ other)) (sym c.ne-differ.ensures) (neither _ (Decides-item_eq n other)) in
    made _ (both _ _ (both _ _ (both _ _ (both _ _ (both _ _ differ c.is_among-put.ensures) c.is_among-some.ensures) c.all_behind-all.ensures) c.is_among-took.ensures) c.stays-stayed.ensures)
    (λ is. record { differ = is.0.0.0.0.0; put = is.0.0.0.0.1; some_later = is.0.0.0.1; all_later = is.0.0.1; took = is.0.1; stays = is.1 })
    (λ is. (((((is.differ, is.put), is.some_later), is.all_later), is.took), is.stays))

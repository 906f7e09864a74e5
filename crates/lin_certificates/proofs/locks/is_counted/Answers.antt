use Rattle.std.proofs.Common.{inl, inr, arith}
use Rattle.std.proofs.lemmas.Bool.Decides.{Decides-ltb}
use Rattle.lin_certificates.specs.Certificates.{CanCall, DidCall}
use Rattle.lin_certificates.specs.declared.words.Calls.TheVariants.{Acquires, Releases}
use Rattle.lin_certificates.proofs.Deciding.{either, made}
use Rattle.lin_certificates.proofs.Numbers.{exactly_one}
use Rattle.lin_certificates.proofs.locks.is_counted.Goals as goal

pub returns : goal.returns
returns c =
    let h = c.args.events.now in
    let can_acquire = c.count_of-can_acquire.result in
    let can_release = c.count_of-can_release.result in
    let acquired = c.count_of-acquired.result in
    let released = c.count_of-released.result in
    let fewer = c.saturating_sub.result in
    let fewer_is = c.saturating_sub.ensures in
    made _ (either _ _ (Decides-ltb can_acquire released) (Decides-ltb can_release fewer))
    (λ is. record {
      can_acquire = can_acquire;
      can_release = can_release;
      acquired = acquired;
      released = released;
      all_can_acquire = c.count_of-can_acquire.ensures;
      all_can_release = c.count_of-can_release.ensures;
      all_acquired = c.count_of-acquired.ensures;
      all_released = c.count_of-released.ensures;
      more = elim is [
        | inl less ↦ inl less
        | inr less ↦ inr (omega (arith, less, fewer_is))
      ];
    })
    (λ is.
    let one = exactly_one (CanCall h Acquires) is.can_acquire can_acquire is.all_can_acquire c.count_of-can_acquire.ensures in
    let two = exactly_one (CanCall h Releases) is.can_release can_release is.all_can_release c.count_of-can_release.ensures in
    let three = exactly_one (DidCall h Acquires) is.acquired acquired is.all_acquired c.count_of-acquired.ensures in
    let four = exactly_one (DidCall h Releases) is.released released is.all_released c.count_of-released.ensures in
    elim is.more [
      | inl less ↦ inl (omega (arith, one, four, less))
      | inr less ↦ inr (omega (arith, two, three, less, fewer_is))
    ])

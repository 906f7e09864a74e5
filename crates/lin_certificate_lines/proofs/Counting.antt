-- A lock that was not released too often was acquired too often.
use Rattle.std.proofs.Common.{◌+◌, ◌<◌, ◌≤◌, ℕ, List, inl, inr, length, arith}
use Rattle.lin_events.specs.declared.events.Event.{Event}
use Rattle.lin_certificates.specs.Certificates.{CanCall, DidCall, IsCounted}
use Rattle.lin_certificates.specs.declared.words.Calls.TheVariants.{Acquires, Releases}
use Rattle.lin_certificate_lines.specs.Groups.{IsListing}
use Rattle.lin_certificate_lines.proofs.AllListed.{listed_exactly}

pub acquired_more : (h : List Event) (released can_acquire acquired can_release : List ℕ) → IsCounted h
    → IsListing (DidCall h Releases) released → IsListing (CanCall h Acquires) can_acquire
    → IsListing (DidCall h Acquires) acquired → IsListing (CanCall h Releases) can_release
    → length released ≤ length can_acquire → length can_release + 1 < length acquired
acquired_more h released can_acquire acquired can_release is all_released all_can_acquire all_acquired all_can_release few =
    let one = listed_exactly (DidCall h Releases) is.released released all_released is.all_released in
    let two = listed_exactly (CanCall h Acquires) is.can_acquire can_acquire all_can_acquire is.all_can_acquire in
    let three = listed_exactly (DidCall h Acquires) is.acquired acquired all_acquired is.all_acquired in
    let four = listed_exactly (CanCall h Releases) is.can_release can_release all_can_release is.all_can_release in
    elim is.more [
      | inl less ↦ absurd (omega (arith, one, two, few, less))
      | inr less ↦ omega (arith, three, four, less)
    ]

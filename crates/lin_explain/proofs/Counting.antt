-- Counts, event by event.
use Rattle.std.proofs.Common.{◌≡◌, ◌+◌, ◌≤◌, ℕ, Bool, true, false, List, Some, count_by, slice_get, take, ap, sym, ◌∙◌, arith}
use Rattle.std.proofs.lemmas.List.Sums.{count_by_more_no, count_by_more_yes}
use Rattle.std.proofs.lemmas.Option.{get_or_from_slice_get, slice_get_within}
use Rattle.lin_events.specs.declared.events.Event.{Event}

module _ (p : Event → Bool) (h : List Event) (at : ℕ) (event : Event) (found next : ℕ) (is : slice_get h at ≡ Some event)
    (so_far : (found ≤ at) × (found ≡ count_by p (take at h))) where
  pub counted : p event ≡ true → next ≡ found + 1 → (next ≤ at + 1) × (next ≡ count_by p (take (at + 1) h))
  counted is_so more =
      let read = ap p (get_or_from_slice_get h at event event is) ∙ is_so in
      let one = count_by_more_yes p h at event (slice_get_within h at event is) read in
      (omega (arith, so_far.0, more), more ∙ ap (λ n. n + 1) so_far.1 ∙ sym one)

  pub uncounted : p event ≡ false → next ≡ found → (next ≤ at + 1) × (next ≡ count_by p (take (at + 1) h))
  uncounted is_not same =
      let read = ap p (get_or_from_slice_get h at event event is) ∙ is_not in
      let none = count_by_more_no p h at event (slice_get_within h at event is) read in
      (omega (arith, so_far.0, same), same ∙ so_far.1 ∙ sym none)

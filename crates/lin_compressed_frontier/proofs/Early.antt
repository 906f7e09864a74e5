-- Pending operations that were called before the event at a position.
use Rattle.std.proofs.Common.{◌≡◌, ◌&&◌, ℕ, ◌<◌, Bool, true, nat_eq, nat_lt, List, Contains, refl}
use Rattle.std.proofs.lemmas.Bool.{lt-ltb, ltb-true}
use Rattle.std.proofs.lemmas.Bool.Decides.{Decides-eqb as Decides-nat_eq}
use Rattle.lin_events.specs.declared.calls.Call.{Call}
use Rattle.lin_frontier.specs.declared.pending.Open.{Open}
use Rattle.lin_members.specs.Asking.{early_of}
use Rattle.lin_members.specs.Searching.{is_observing, is_watching}
use Rattle.lin_frontier.specs.Masks.{is_crashed}
use Rattle.lin_frontier.specs.lemmas.Inserting.{kept_by, passed_by}
use Rattle.lin_frontier.specs.lemmas.Truths.{and_both, and_right, any_true, not_true, true_any, true_not}

module _ (until : ℕ) (pending : List Open) where
  pub early_from : (o : Open) → Contains (early_of until pending) o → Contains pending o × (o.at < until)
  early_from o there = let both = passed_by (λ (k : Open). nat_lt k.at until) pending o there in (both.0, ltb-true o.at until both.1)

  pub in_early : (o : Open) → Contains pending o → o.at < until → Contains (early_of until pending) o
  in_early o there early = kept_by (λ (k : Open). nat_lt k.at until) pending o (lt-ltb o.at until early) there

  -- who watches with an early operation watches among the early ones
  pub watching_early : (observes : Call → Bool) (o : Open) → Contains (early_of until pending) o → observes o.call ≡ true → is_watching observes pending o.process ≡ true → is_watching observes (early_of until pending) o.process ≡ true
  watching_early observes o there observer watching =
      and_both (is_observing observes (early_of until pending) o.process) _
      (true_any (λ (k : Open). nat_eq k.process o.process && observes k.call) (early_of until pending) o there (and_both (nat_eq o.process o.process) (observes o.call) ((Decides-nat_eq o.process o.process).1 refl) observer))
      (not_true (is_crashed (early_of until pending) o.process) (λ crashed.
      let k = any_true (λ (k : Open). nat_eq k.process o.process && k.crashed) (early_of until pending) crashed in
      true_not (is_crashed pending o.process) (and_right (is_observing observes pending o.process) _ watching)
      (true_any (λ (k : Open). nat_eq k.process o.process && k.crashed) pending k.0 (early_from k.0 k.1).0 k.2)))

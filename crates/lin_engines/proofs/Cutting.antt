-- What is kept of the first events holds of any events that begin alike.
use Rattle.std.proofs.Common.{◌≡◌, ◌≤◌, ◌*◌, ℕ, List, length, take, ap, refl, subst, arith}
use Rattle.std.proofs.lemmas.List.{length-take}
use Rattle.std.proofs.lemmas.Option.{slice_get_within}
use Rattle.lin_events.specs.declared.events.Event.{Event}
use Rattle.lin_frontier.specs.Frontiers.{IsPending}
use Rattle.lin_engines.specs.declared.replay.Replay.{Replay}
use Rattle.lin_engines.specs.Replays.{IsReplay}
use Rattle.lin_engines.specs.lemmas.Beginnings.{take_alike}
use Rattle.lin_engines.proofs.Replaying.{checkpoint_kept, known_same, past_same}

pub replay_alike : (r : Replay) (h edited : List Event) (local : ℕ) → r.reached ≤ local → take local h ≡ take local edited → IsReplay r h → IsReplay r edited
replay_alike r h edited local below same right = record {
  within = let long = ap length same in omega (arith, length-take local h, length-take local edited, long, right.within);
  enough = right.enough;
  few = right.few;
  checkpoints = λ k c at.
      let was = right.checkpoints k c at in
      let inside = slice_get_within r.checkpoints.items k c at in
      let begins = take_alike (64 * k) local h edited (omega (arith, inside, right.few)) same in
      checkpoint_kept r r h edited (64 * k) c refl begins refl was.nodes (past_same r.pending h edited (64 * k) c.opened begins was.past) was;
  rising = right.rising;
  opened = subst (λ l. IsPending l r.pending.operations.items) (take_alike r.reached local h edited below same) right.opened;
  present = λ f is. known_same r.object.kind _ _ f _ _ (take_alike r.reached local h edited below same) refl (right.present f is);
  last = right.last;
}

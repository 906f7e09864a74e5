use Rattle.std.proofs.Common.{◌≤◌, length, inl, inr, arith}
use Rattle.std.proofs.lemmas.Bool.{cases_lt}
use Rattle.std.proofs.lemmas.Bool.Decides.{Decides-ltb}
use Rattle.std.proofs.lemmas.Option.{slice_get_within}
use Rattle.lin_events.specs.declared.calls.Call.TheVariants.{Dequeue, Enqueue}
use Rattle.lin_queues.specs.Ranks.{HasTaken, HasTakenItem, IsRankedBelow, IsRankedFrom, MayPut, MayTake}
use Rattle.lin_queues.proofs.Returns.{least_which, ranks_below, ranks_from}
use Rattle.lin_queues.proofs.checking.is_overtaken_in.Goals as goal

pub returns : goal.returns
returns c fewer =
    let h = c.args.events.now in
    let item = c.args.window.now.item in
    let low = c.takes_before-low.result in
    let high = c.takes_ahead-high.result in
    let places = c.args.window.now.places in
    let ahead = c.puts_ahead.result in
    let below : ahead ≤ low = let other = c.if-low-puts_ahead.false in omega (arith, other) in
    record {
      low = low;
      high = high;
      few = c.puts_between.result;
      many = c.takes_from.result;
      fewer = (Decides-ltb c.puts_between.result c.takes_from.result).0 fewer;
      taken = least_which (λ x. HasTakenItem h item x × (c.args.window.now.from ≤ x)) (λ x. HasTakenItem h item x × IsRankedFrom h (HasTaken h) x low × IsRankedBelow h (MayTake h) x high)
          (λ x is. (
            is.0,
            (low, omega arith, ranks_from h (HasTaken h) c.args.window.now.from x low is.1 c.takes_before-low.ensures),
            (high, omega arith, ranks_below h (MayTake h) (λ y may. (Dequeue, may.0)) x (length h) high (inl (omega arith)) c.takes_ahead-high.ensures),
          )) c.takes_from.result c.takes_from.ensures;
      put = (
        c.puts_between.ensures.0,
        c.puts_between.ensures.1,
        λ x is. c.puts_between.ensures.2 x (
          is.0,
          elim (cases_lt x places.upper) [
            | inl less ↦ less
            | inr more ↦ absurd (is.2 (c.are_above.ensures c.if-not-are_above.false x (slice_get_within h x _ is.0.0.2) more))
          ],
          λ returned. is.1 (ahead, below, ranks_below h (MayPut h) (λ y may. (Enqueue may.0.0, may.0.1)) x places.lower ahead returned c.puts_ahead.ensures),
        ),
      );
    }

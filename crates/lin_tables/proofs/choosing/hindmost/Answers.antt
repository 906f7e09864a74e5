use Rattle.std.proofs.Common.{◌+◌, subst, sym}
use Rattle.lin_tables.specs.WindowTables.{listing_of}
use Rattle.lin_tables.proofs.Choices.{IsHindmostBelow, moves_at, stays_at}
use Rattle.lin_tables.proofs.choosing.hindmost.Goals.{then-is_ahead, else-is_ahead}
use Rattle.lin_tables.proofs.choosing.hindmost.Goals as goal

pub loop-at-preserved : goal.loop-at-preserved
loop-at-preserved c =
    let listed = listing_of c.args.listed.now in
    let chosen = c.args.chosen.now in
    let at = c.loop-at.at in
    elim c.if-is_ahead.branch [
      | then-is_ahead w ↦
          subst (IsHindmostBelow listed chosen (at + 1)) (sym w.last-is)
          (moves_at listed chosen at c.loop-at.last _ _ c.loop-at-test.true (c.is_ahead.ensures.0 w.if-is_ahead.true) c.loop-at.invariant)
      | else-is_ahead w ↦
          subst (IsHindmostBelow listed chosen (at + 1)) (sym w.last-is)
          (stays_at listed chosen c.requires.rising at c.loop-at.last _ _ c.loop-at-test.true
          (λ is. let yes' = c.is_ahead.ensures.1 is in let no' = w.if-is_ahead.false in cc)
          c.loop-at.invariant)
    ]

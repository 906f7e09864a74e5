use Rattle.std.proofs.Common.{◌≡◌, ℕ, List, true, get_or, sym}
use Rattle.std.specs.List.{slice_range}
use Rattle.lin_edn.specs.inner.Levels.{frames_of}
use Rattle.lin_bytes.specs.Bytes.{is_stop}
use Rattle.lin_edn.specs.Grammar.{Frame}
use Rattle.lin_edn.specs.inner.Machine.{Turn, put, ended, in_run}
use Rattle.lin_edn.specs.Run.{run_value}
use Rattle.lin_edn.proofs.reader.end_run.Goals as goal

run_ends : (st : List Frame) (at p c : ℕ) (w : List ℕ) (t : Turn) → true ≡ is_stop c → put (run_value p w) p st at ≡ t →
    ended at st (in_run p w) c ≡ t
run_ends st at p c w t h e = rw (sym h) e

pub returns-in-Inside : goal.returns-in-Inside
returns-in-Inside c =
    let turn = rw (c.in-Inside.is, c.run_element.ensures) at c.in_ok-finish.ensures in (
      run_ends (frames_of c.args.stack.now.items) c.args.at c.args.start (get_or c.args.input.now c.args.at 0)
          (slice_range c.args.input.now c.args.start c.args.at) _ c.if-not-is_stop.ensures (turn c.args.at),
      tt,
    )

pub returns-in-Alone : goal.returns-in-Alone
returns-in-Alone c =
    let turn = rw (c.in-Alone.is, c.run_element.ensures) at c.in_ok-finish.ensures in
    run_ends (frames_of c.args.stack.now.items) c.args.at c.args.start (get_or c.args.input.now c.args.at 0)
    (slice_range c.args.input.now c.args.start c.args.at) _ c.if-not-is_stop.ensures (turn c.args.at)

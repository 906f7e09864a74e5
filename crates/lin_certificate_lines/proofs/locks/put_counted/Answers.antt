use Rattle.std.proofs.Common.{inl, inr, refl, arith}
use Rattle.lin_events.specs.declared.calls.Name.TheVariants as Named
use Rattle.lin_certificate_lines.specs.Lines.{counted_text}
use Rattle.lin_certificate_lines.specs.Sides.{named_sides}
use Rattle.lin_certificate_lines.proofs.Counting.{acquired_more}
use Rattle.lin_certificate_lines.proofs.locks.put_counted.Goals as goal

pub returns-then-len : goal.returns-then-len
returns-then-len c =
    let sides = c.in_ok-released.released in
    let are = c.in_ok-released.ensures in (
      counted_text c.args.told.now Named.Release Named.Acquire sides.done.items sides.may.items sides.failed.items,
      named_sides sides.done.items sides.may.items sides.failed.items,
      c.in_ok-put_counted_by.ensures.put,
      c.in_ok-put_counted_by.ensures.named,
      inl (record {
        done = sides.done.items;
        may = sides.may.items;
        failed = sides.failed.items;
        all_done = are.all_done;
        all_may = are.all_may;
        all_failed = are.all_failed;
        more = omega arith;
        put = refl;
        named = refl;
      }),
    )

pub returns : goal.returns
returns c =
    let other = c.in_ok-released.released in
    let others = c.in_ok-released.ensures in
    let sides = c.in_ok-acquired.acquired in
    let are = c.in_ok-acquired.ensures in (
      counted_text c.args.told.now Named.Acquire Named.Release sides.done.items sides.may.items sides.failed.items,
      named_sides sides.done.items sides.may.items sides.failed.items,
      c.in_ok-put_counted_by-2.ensures.put,
      c.in_ok-put_counted_by-2.ensures.named,
      inr (record {
        done = sides.done.items;
        may = sides.may.items;
        failed = sides.failed.items;
        all_done = are.all_done;
        all_may = are.all_may;
        all_failed = are.all_failed;
        more = acquired_more c.args.told.now.events.now other.done.items other.may.items sides.done.items sides.may.items c.requires.holds others.all_done others.all_may are.all_done are.all_may (omega arith);
        put = refl;
        named = refl;
      }),
    )

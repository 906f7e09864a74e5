use Rattle.std.proofs.Common.{◌++◌, refl}
use Rattle.lin_explain.specs.Undecided.{helps, open_line}
use Rattle.lin_explain.proofs.Texts.{three_put}
use Rattle.lin_explain.proofs.undecided.put_open.Goals as goal

pub returns : goal.returns
returns c =
    let running = c.open_counts-running.result.0 in
    let crashed = c.open_counts-running.result.1 in
    let table = c.in_ok-put_operations.ensures in
    let help = helps c.args.budget c.args.keyed running crashed in (
      (open_line running crashed ++ table.0) ++ help,
      record {
        running = running;
        crashed = crashed;
        table = table.0;
        are_open = c.open_counts-running.ensures.open_ones;
        did_crash = c.open_counts-running.ensures.crashed;
        is_table = table.1;
        says = refl;
      },
      three_put c.args.text.now.items (open_line running crashed) table.0 help
          c.put_open_line.new.text.items c.put_operations.new.text.items c.put_help_line.new.text.items
          c.in_ok-put_open_line.ensures table.2 c.in_ok-put_help_line.ensures,
    )

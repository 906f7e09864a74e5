use Rattle.std.proofs.Common.{◌≡◌, ◌++◌, refl, subst}
use Rattle.lin_explain.specs.Since.{since_head}
use Rattle.lin_explain.proofs.Parting.{looked_up}
use Rattle.lin_explain.proofs.Texts.{two_put}
use Rattle.lin_explain.proofs.since.put_since.Goals as goal

pub returns : goal.returns
returns c =
    let failure = c.args.failure.now in
    let quiet = c.args.quiet.now in
    let at = c.in-Some.at.now in
    let head = since_head at quiet.was.items in
    let table = c.in_ok-put_operations.ensures in (
      head ++ table.0,
      record {
        from = quiet.from;
        was = quiet.was.items;
        table = table.0;
        quiet = c.requires.quiet.last;
        stands = looked_up failure.stretch.picks.now quiet.from at c.in-Some.ensures.lookup.0 c.in-Some.ensures.lookup.1;
        is_was = c.requires.quiet.is_was;
        is_table = table.1;
        says = refl;
      },
      two_put c.args.text.now.items head table.0 c.put_since_head.new.text.items c.put_operations.new.text.items
          (subst (λ was. c.put_since_head.new.text.items ≡ c.args.text.now.items ++ since_head at was) c.as_slice.ensures.value c.in_ok-put_since_head.ensures) table.2,
    )

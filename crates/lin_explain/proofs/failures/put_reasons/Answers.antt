use Rattle.std.proofs.Common.{◌++◌, refl, subst}
use Rattle.lin_tables.specs.WindowTables.{told_of}
use Rattle.lin_explain.specs.Since.{IsSinceText}
use Rattle.lin_explain.proofs.Texts.{two_put}
use Rattle.lin_explain.proofs.failures.put_reasons.Goals as goal

pub returns : goal.returns
returns c =
    let failure = c.args.failure.now in
    let why = c.in_ok-reason.ensures in
    let since = c.in_ok-from.ensures in (
      why.0 ++ since.0,
      record {
        why = why.0;
        named = c.in_ok-reason.reason.named.items;
        since = since.0;
        is_why = why.1;
        is_since = subst (λ named. IsSinceText failure.kind failure.budget (told_of failure.stretch) failure.call named since.0 c.in_ok-from.from) c.as_slice.ensures.value since.1;
        says = refl;
      },
      two_put c.args.text.now.items why.0 since.0 c.put_why.new.text.items c.put_since.new.text.items why.2 since.2,
    )

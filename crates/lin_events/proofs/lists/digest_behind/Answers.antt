use Rattle.std.proofs.Common.{◌+◌, ◌*◌, ◌^◌, ◌%◌, ap₂, ◌∙◌}
use Rattle.lin_events.specs.Items.{code_of, factor}
use Rattle.lin_events.proofs.Digests.{cut}
use Rattle.lin_events.proofs.lists.digest_behind.Goals as goal

pub returns : goal.returns
returns c =
    ap₂ (λ code weight. (c.args.before + (code * weight) % 18446744073709551616) % 18446744073709551616) c.code.ensures c.wrapping_pow-weight.ensures
    ∙ cut c.args.before (code_of c.args.item) (factor ^ c.args.count)

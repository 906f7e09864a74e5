use Rattle.std.proofs.Common.{ap, sym, ◌∙◌}
use Rattle.std.specs.Int.Bits.{bit_or}
use Rattle.std.proofs.lemmas.Bool.Decides.{Decides-eqb}
use Rattle.lin_frontier.specs.Masks.{crashed_bits, mask_of}
use Rattle.lin_frontier.specs.lemmas.Masking.{mask_part, same_bits}
use Rattle.lin_frontier.proofs.pending.Pending.may_cover.Goals as goal

pub returns-then-mask-other : goal.returns-then-mask-other
returns-then-mask-other c part rest =
    let crashed = c.self.inside.crashed in
    let bits = c.self.invariant ∙ ap crashed_bits c.self.view_is in
    (Decides-eqb (bit_or c.mask-other.result crashed) (bit_or c.mask-mask.result crashed)).1
    (ap (λ m. bit_or m crashed) c.mask-other.ensures ∙ ap (bit_or (mask_of c.args.others.now)) bits ∙ sym (same_bits c.args.self.now c.args.pairs.now c.args.others.now part rest)
    ∙ sym (ap (λ m. bit_or m crashed) c.mask-mask.ensures ∙ ap (bit_or (mask_of c.args.pairs.now)) bits))

pub returns-else-mask-other : goal.returns-else-mask-other
returns-else-mask-other c part rest =
    (Decides-eqb (bit_or c.mask-mask.result c.mask-other.result) c.mask-other.result).1
    (ap (λ m. bit_or m c.mask-other.result) c.mask-mask.ensures ∙ ap (bit_or (mask_of c.args.pairs.now)) c.mask-other.ensures ∙ mask_part c.args.pairs.now c.args.others.now part ∙ sym c.mask-other.ensures)

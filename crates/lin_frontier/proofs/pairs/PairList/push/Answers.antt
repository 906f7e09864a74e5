use Rattle.std.proofs.Common.{ap, sym, ◌∙◌}
use Rattle.std.specs.Int.Bits.{bit_or}
use Rattle.lin_frontier.specs.Masks.{mask_of}
use Rattle.lin_frontier.specs.lemmas.Masking.{mask_push}
use Rattle.lin_frontier.proofs.pairs.PairList.push.Goals as goal

pub invariant_of-self : goal.invariant_of-self
invariant_of-self c =
    let old = c.self.inside.items.items in
    ap (λ m. bit_or m c.bit_of.result) c.self.invariant ∙ ap (bit_or (mask_of old)) c.bit_of.ensures ∙ sym (mask_push old (c.args.process, c.args.reply)) ∙ ap mask_of (sym c.in-Ok.ensures.ok)

use Rattle.std.proofs.Common.{◌%◌, ◌^◌, ap, sym, ◌∙◌}
use Rattle.std.specs.Int.Bits.{bit_or}
use Rattle.std.proofs.lemmas.Bool.Decides.{Decides-eqb}
use Rattle.std.proofs.lemmas.Nat.{or_comm}
use Rattle.lin_frontier.specs.Masks.{crashed_bits, is_crashed}
use Rattle.lin_frontier.specs.lemmas.Masking.{crashed_has, never_true}
use Rattle.lin_frontier.proofs.pending.Pending.is_crashed.Goals as goal

-- where the bit is missing, none of the process has crashed
pub returns-else-self-bit_of : goal.returns-else-self-bit_of
returns-else-self-bit_of c =
    let had = c.self.inside.crashed in
    let bits = c.self.invariant ∙ ap crashed_bits c.self.view_is in
    never_true _ (λ t. c.if-self-bit_of.false ((Decides-eqb (bit_or had c.bit_of.result) had).0 t)) ∙ sym (never_true (is_crashed c.args.self.now c.args.process) (λ crashed.
    c.if-self-bit_of.false (ap (bit_or had) c.bit_of.ensures ∙ or_comm had (2 ^ (c.args.process % 64)) ∙ ap (bit_or (2 ^ (c.args.process % 64))) bits ∙ crashed_has c.args.self.now c.args.process crashed ∙ sym bits)))

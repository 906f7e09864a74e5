use Rattle.std.proofs.Common.{◌<◌, get_or, inl, inr, arith}
use Rattle.std.proofs.lemmas.Option.{slice_get-get_or}
use Rattle.lin_locks.proofs.sides.Side.withdraw.Goals.{then-first_behind-len-via-then-first_behind-len, then-first_behind-len-via-else-first_behind-len+then-is_payable}
use Rattle.lin_locks.proofs.sides.Side.withdraw.Goals as goal

pub returns-then-first_behind-len-clause-payable : goal.returns-then-first_behind-len-clause-payable
returns-then-first_behind-len-clause-payable c = λ closed is. elim c.then-first_behind-len.branch [
  | then-first_behind-len-via-then-first_behind-len w ↦ inl (λ rising k d within.
      let debts = c.close-closed.new.self.debts.items in
      let below : k < c.first_behind.result = omega (arith, within, w.if-first_behind-len.true, c.len.ensures, c.close-closed.new.self.debts.ok.0) in
      c.first_behind.ensures.ahead rising k (get_or debts k d) below (slice_get-get_or debts k d within))
  | then-first_behind-len-via-else-first_behind-len+then-is_payable w ↦ inr (w.is_payable.ensures.payable w.if-is_payable.true)
]

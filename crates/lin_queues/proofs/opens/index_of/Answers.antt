use Rattle.std.proofs.Common.{◌≡◌, get_or, arith, ap, sym, ◌∙◌, inl, inr}
use Rattle.std.proofs.lemmas.Bool.{cases_lt}
use Rattle.std.proofs.lemmas.Option.{slice_get_within, get_or_from_slice_get}
use Rattle.lin_events.specs.declared.calls.Call.TheVariants.{Read}
use Rattle.lin_queues.specs.declared.opens.OpenCall.{OpenCall}
use Rattle.lin_queues.proofs.opens.index_of.Goals as goal

pub loop-at-preserved : goal.loop-at-preserved
loop-at-preserved c = λ k o before at same. elim (cases_lt k c.loop-at.at) [
  | inl earlier ↦ c.loop-at.invariant k o earlier at same
  | inr later ↦
      let here : k ≡ c.loop-at.at = omega arith in
      let is = ap (λ i. get_or c.args.open.now i (record { process = 0; place = 0; call = Read })) (sym here) ∙ get_or_from_slice_get c.args.open.now k o (record { process = 0; place = 0; call = Read }) at in
      c.if-operation-process.false (ap (λ (x : OpenCall). x.process) is ∙ same)
]

pub returns-clause-missing : goal.returns-clause-missing
returns-clause-missing c = λ k o at same. (let l = slice_get_within c.args.open.now k o at in let last = c.loop-at-test.false in c.loop-at.invariant k o (omega arith) at same)

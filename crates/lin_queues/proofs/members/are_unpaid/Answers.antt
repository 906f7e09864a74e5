use Rattle.std.proofs.Common.{◌≡◌, ◌<◌, Some, slice_get, get_or, arith, ap, sym, subst, inl, inr, pos}
use Rattle.std.proofs.lemmas.Bool.{cases_lt}
use Rattle.std.proofs.lemmas.Option.{slice_get-get_or}
use Rattle.lin_events.specs.declared.items.Item.TheVariants.{Int}
use Rattle.lin_queues.specs.declared.members.Debt.{Debt}
use Rattle.lin_queues.proofs.Lists.{one_there}
use Rattle.lin_queues.proofs.members.are_unpaid.Goals as goal

pub loop-at-preserved : goal.loop-at-preserved
loop-at-preserved c =
    let debts = c.args.debts.now in
    let dequeues = c.args.dequeues.now in
    let at = c.loop-at.at in
    let x = get_or debts at (record { element = 0; before = 0; item = Int (pos 0) }) in
    let here = slice_get-get_or debts at (record { element = 0; before = 0; item = Int (pos 0) }) c.loop-at-test.true in
    let most = c.max-time.ensures in
    record {
      due = λ k debt before there. elim (cases_lt k at) [
        | inl earlier ↦ (let l = c.loop-at.invariant.due k debt earlier there in omega arith)
        | inr later ↦
            let same : k ≡ at = omega arith in
            let e = ap (λ (d : Debt). d.before) (one_there debts at x debt here (subst (λ i. slice_get debts i ≡ Some debt) same there)) in
            omega arith
      ];
      least = λ t each. (
          let l = c.loop-at.invariant.least t (λ k debt before there. each k debt (omega arith) there) in let h = each at x (omega arith) here in
          omega arith);
      paid = λ k before. elim (cases_lt k at) [
        | inl earlier ↦ c.loop-at.invariant.paid k earlier
        | inr later ↦
            let same : k ≡ at = omega arith in
            let inside = c.if-at-dequeues.false in (
              get_or dequeues k 0,
              slice_get-get_or dequeues k 0 (omega arith),
              λ t each. (
                  let l = c.loop-at.invariant.least t (λ j debt earlier there. each j debt (omega arith) there) in
                  let h = each at x (omega arith) here in
                  let first = subst (λ i. get_or dequeues i 0 < c.max-time.result) (sym same) c.if-dequeues-at.false in
                  omega arith),
            )
      ];
    }

pub returns-clause-paid : goal.returns-clause-paid
returns-clause-paid c = λ no un.
    let inside = un.within in
    let last = c.loop-at-test.false in
    let pays = c.loop-at.invariant.paid un.at (omega arith) in
    let late = un.late pays.0 pays.1 in
    let early = pays.2 un.time (λ j debt before at. un.due j debt before at) in
    omega arith

use Rattle.std.proofs.Common.{◌≡◌, ◌<◌, ◌≤◌, ◌∙◌, Some, Vec, Global, drop, get_or, length, suc, take, sym, ap, subst, arith}
use Rattle.std.specs.List.{remove}
use Rattle.std.proofs.lemmas.Option.{slice_get-get_or}
use Rattle.std.proofs.lemmas.List.{get_or-take, length-take-le}
use Rattle.lin_locks.specs.declared.sides.Debt.{Debt}
use Rattle.lin_locks.proofs.Lists.{round_place}
use Rattle.lin_locks.proofs.sides.Side.pay.Goals as goal

pub returns-clause-paid : goal.returns-clause-paid
returns-clause-paid c =
    let old = c.args.self.now.debts.items in
    let rank = c.first_behind-rank.result in
    let debt = c.remove-debt.result in
    let same : c.close-closed.new.self.debts.items ≡ old = ap (λ (v : Vec Debt Global). v.items) c.close-closed.ensures.debts in
    let inside : rank < length old = omega arith in
    let here : get_or old rank debt ≡ debt = ap (λ l. get_or l rank debt) (sym same) ∙ sym c.remove-debt.ensures.value in
    record {
      before = take rank old;
      behind = drop (suc rank) old;
      was = round_place old rank debt inside here;
      is = c.remove-debt.ensures.items ∙ ap (λ l. remove l rank) same;
      late = c.first_behind-rank.ensures.behind debt (slice_get-get_or old rank debt inside ∙ ap Some here);
      early = λ rising k d within.
          let few = length-take-le rank old (omega arith) in
          let below : k < rank = omega arith in
          subst (λ (x : Debt). x.until ≤ c.args.begin) (sym (get_or-take rank old k d below)) (c.first_behind-rank.ensures.ahead rising k (get_or old k d) below (slice_get-get_or old k d (omega arith)));
    }

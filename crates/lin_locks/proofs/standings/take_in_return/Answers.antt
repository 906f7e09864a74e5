use Rattle.std.proofs.Common.{◌≡◌, ◌∷◌, ◌++◌, [], None, Some, Ok, Result, Contains, length, set, take, refl, sym, ap, subst, ◌∙◌, arith}
use Rattle.std.proofs.lemmas.List.Elements.{Contains-append_right}
use Rattle.lin_events.specs.declared.lists.OutOfMemory.{OutOfMemory}
use Rattle.lin_locks.specs.declared.changes.EndChange.{EndChange}
use Rattle.lin_locks.specs.declared.sides.Side.{Side}
use Rattle.lin_locks.specs.declared.standings.Turn.{Turn}
use Rattle.lin_locks.specs.declared.standings.Turn.TheVariants.{Pays}
use Rattle.lin_locks.specs.inner.Changes.{IsUndone, unpaid}
use Rattle.lin_locks.specs.inner.Known.{Part, part_of}
use Rattle.lin_locks.specs.inner.Sides.{AreEarly, IsStanding}
use Rattle.lin_locks.proofs.Filled.{emptied_again}
use Rattle.lin_locks.proofs.standings.take_in_return.Goals as goal

abbrev the_result : Turn → Result Turn OutOfMemory
the_result a = Ok a

pays_so : {a b : EndChange} → the_result (Pays a) ≡ the_result (Pays b) → a ≡ b
pays_so e = cc

pub returns-in-Some-clause-pays : goal.returns-in-Some-clause-pays
returns-in-Some-clause-pays c end is = (
  record { closed = c.in-Some.ensures.closed; gone = c.in-Some.ensures.gone; debt = c.in-Some.paid.debt; paid = c.in-Some.ensures.paid },
  c.may_owe.ensures.same,
  c.fill.ensures ∙ ap (λ l. set l c.in-Some.paid.debt.slot (Some c.args.returned.begin)) c.reserve.ensures.items,
)

pub returns-in-Some-clause-pays_back : goal.returns-in-Some-clause-pays_back
returns-in-Some-clause-pays_back c end is places =
    let own = c.args.own.now in
    let order = c.args.order.now.items in
    let debt = c.in-Some.paid.debt in
    let paid = c.in-Some.ensures.paid in
    let many : c.len-length.result ≡ length order = omega (arith, c.len-length.ensures, c.reserve.ensures.len, c.args.order.now.ok.0) in
    subst (λ (e : EndChange). IsUndone e c.args.returned.held own c.pay.new.self c.args.other.now c.may_owe.new.self order c.fill.new.order.items) (pays_so is) (record {
      own_back = ap (λ o. record { opens = o; debts = unpaid (Some c.in-Some.paid) c.pay.new.self.debts.items }) c.in-Some.ensures.open ∙ ap (λ d. record { opens = own.open.items; debts = d }) c.in-Some.ensures.debts;
      other_back = c.may_owe.ensures.same;
      order_back = ap (λ l. set (take c.len-length.result l) debt.slot None) (c.fill.ensures ∙ ap (λ l. set l debt.slot (Some c.args.returned.begin)) c.reserve.ensures.items)
          ∙ emptied_again order debt.slot c.args.returned.begin c.len-length.result (places debt (subst (λ l. Contains l debt) (sym paid.was) (Contains-append_right paid.before (debt ∷ paid.behind) debt (0, omega arith, refl)))) many;
      held_back = refl;
    })

pub returns-clause-owes : goal.returns-clause-owes
returns-clause-owes c end is owes =
    let same = c.may_owe.ensures.same in (
      subst (λ (s : Side). IsStanding c.args.returned.begin (part_of s) (part_of c.stand-2.new.own)) c.in_default.ensures.none.0
          (c.stand-2.ensures.stands (subst (λ (s : Side). AreEarly c.args.returned.begin s.debts.items) (sym c.in_default.ensures.none.0) c.in_default.ensures.none.1)),
      record {
        owing = record {
          open_same = ap (λ v. v.items) c.owe.ensures.open ∙ ap (λ (p : Part). p.opens) same;
          debt = record { until = c.args.returned.end; slot = c.len-length.result };
          time = refl;
          debts = c.owe.ensures.debts ∙ ap (λ (p : Part). p.debts ++ record { until = c.args.returned.end; slot = c.len-length.result } ∷ []) same;
        };
        slot = omega (arith, c.len-length.ensures, c.reserve.ensures.len, c.args.order.now.ok.0);
        enough = c.may_owe.ensures.enough (c.in_ok-may_owe.was ∙ ap Ok c.if-not-may_owe.false);
      },
      c.stand-2.ensures.order ∙ ap (λ l. (l ++ None ∷ []) ++ Some c.args.returned.begin ∷ []) c.reserve.ensures.items,
    )

use Rattle.std.proofs.Common.{subst}
use Rattle.std.specs.List.{AllZip}
use Rattle.lin_possibilities.specs.After.{IsWay}
use Rattle.lin_possibilities.specs.Possible.{LeavesIn}
use Rattle.lin_possibilities.specs.Ranks.{state_rank}
use Rattle.lin_possibilities.specs.declared.possibilities.Possibility.TheVariants.{State as AState}
use Rattle.lin_possibilities.specs.inner.OutcomesTelling.{IsTold}
use Rattle.lin_possibilities.proofs.OutcomesTelling.{told_in_order}
use Rattle.lin_possibilities.proofs.told.states_told.Goals as goal

pub returns : goal.returns
returns c = λ functions kind h well after.
    let names = c.args.names.now in
    let found = c.in_ok-found.found.items in
    let told = c.in_ok-all_states.field-0.items in
    told_in_order names (LeavesIn kind h) (IsWay c.args.possible.now) (state_rank names) AState found told c.in_order.result.items
    (c.in_ok-found.ensures functions kind h well after)
    (subst (λ l. AllZip (IsTold names (state_rank names) AState) l told) c.as_slice.ensures.value c.in_ok-all_states.ensures)
    c.in_order.ensures.permutation c.in_order.ensures.rising

use Rattle.std.proofs.Common.{subst, sym, List}
use Rattle.lin_order.specs.declared.placed.Placed.{Placed}
use Rattle.lin_order.specs.Linearizable.{IsLegalOrderAs}
use Rattle.lin_members.specs.declared.members.Path.{Path}
use Rattle.lin_possibilities.specs.After.{IsWay}
use Rattle.lin_possibilities.proofs.Showing.{first_in, none_first, none_legal, way_legal}
use Rattle.lin_possibilities.proofs.possible.Possible.first.Goals as goal

pub returns-in-Some-clause-legal : goal.returns-in-Some-clause-legal
returns-in-Some-clause-legal c = λ kind h is.
    let self = c.args.self.now in
    let m = c.in-Some.member.now in
    subst (λ (p : Path). (order : List Placed) × IsWay self p.node order × IsLegalOrderAs kind h order) (sym c.path.ensures)
    (way_legal self kind h m (first_in c.deref.result.now self.members.items m c.deref.ensures.value c.in-Some.ensures.value) is)

pub returns-in-None-clause-none : goal.returns-in-None-clause-none
returns-in-None-clause-none c = λ functions kind h well is.
    let self = c.args.self.now in
    none_legal self kind h is (c.each_order_ends.ensures kind) functions well (none_first c.deref.result.now self.members.items c.deref.ensures.value c.in-None.ensures.value)

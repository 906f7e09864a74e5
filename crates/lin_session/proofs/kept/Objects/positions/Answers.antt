use Rattle.std.proofs.Common.{sym, subst, arith}
use Rattle.std.proofs.lemmas.Option.{slice_get_within}
use Rattle.lin_order.specs.Parts.{ArePositionsOf}
use Rattle.lin_session.proofs.Asking.{whole_picked}
use Rattle.lin_session.proofs.Found.{empty_list, object_at}
use Rattle.lin_session.proofs.Knowing.{unlisted_empty}
use Rattle.lin_session.proofs.kept.Objects.positions.Goals as goal

pub returns-in_default-clause-none : goal.returns-in_default-clause-none
returns-in_default-clause-none c = λ all. let r = c.requires in empty_list _ (unlisted_empty r.0 r.1 c.args.events.now c.args.self.now r.2 all c.args.key c.in_default.ensures.none)

pub index-requires : goal.index-requires
index-requires c =
    let s = c.args.self.now in
    let within = slice_get_within s.keys.keys c.in-Some.i c.args.key c.in-Some.ensures.found in
    omega (arith, within, s.aligned, s.objects.ok.0)

pub returns-clause-stand : goal.returns-clause-stand
returns-clause-stand c =
    let s = c.args.self.now in
    let r = c.requires in
    let h = c.args.events.now in
    let o = c.index.result.now in
    let o_at = object_at s.keys.keys s.objects.items c.in-Some.i c.args.key o s.aligned c.in-Some.ensures.found c.index.ensures in
    subst (ArePositionsOf c.args.key h) (sym c.deref.ensures.value) (whole_picked r.0 r.1 h s.split c.args.key o (omega (arith, r.2.within, c.if-self-events.false)) (r.2.each c.in-Some.i c.args.key o c.in-Some.ensures.found o_at))

use Rattle.std.proofs.Common.{sym, ◌∙◌}
use Rattle.lin_members.proofs.Parting.{parting_start, parting_one, parting_zero, parting_end}
use Rattle.lin_members.proofs.parts.part_by_bit.Goals as goal

pub loop-member-init : goal.loop-member-init
loop-member-init g c = parting_start _ _ _ _ c.new-ones.ensures.items c.new-zeros.ensures.items

pub loop-member-preserved-in-Continue-1 : goal.loop-member-preserved-in-Continue-1
loop-member-preserved-in-Continue-1 g c =
    parting_one _ _ c.loop-member.rest.items c.pop.new.self.items _ _ c.in-Some.member c.in-Some.ensures.items c.loop-member.invariant c.push_member.new.members.items c.in_ok-push_member.ensures
    (sym (c.shows_bit.ensures) ∙ c.if-shows_bit.true)

pub loop-member-preserved : goal.loop-member-preserved
loop-member-preserved g c =
    parting_zero _ _ c.loop-member.rest.items c.pop.new.self.items _ _ c.in-Some.member c.in-Some.ensures.items c.loop-member.invariant c.push_member-else-shows_bit.new.members.items c.in_ok-push_member-2.ensures
    (sym (c.shows_bit.ensures) ∙ c.if-shows_bit.false)

pub returns : goal.returns
returns g c = parting_end _ _ c.loop-member.rest.items _ _ (sym c.loop-member.rest.ok.0 ∙ c.in_default.ensures.cases.0) c.loop-member.invariant

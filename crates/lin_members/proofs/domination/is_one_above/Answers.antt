use Rattle.std.proofs.Common.{refl, sym, ◌∙◌, true≢false}
use Rattle.std.proofs.lemmas.List.Elements.{All-contains}
use Rattle.lin_members.specs.Members.{Member}
use Rattle.lin_members.specs.declared.members.Path.{Path}
use Rattle.lin_members.specs.Searching.{IsAboveIn}
use Rattle.lin_frontier.specs.lemmas.Each.{all_more, contains_here, all_end}
use Rattle.lin_members.proofs.domination.is_one_above.Goals as goal

pub returns-then-is_above : goal.returns-then-is_above
returns-then-is_above g c = (
  λ _. (c.member-item.result, contains_here c.args.members.now c.loop-member.member-index c.member-item.result c.loop-member-test.true c.member-item.is, c.is_above.ensures.0 c.if-is_above.true),
  λ _. refl,
)

pub loop-member-preserved : goal.loop-member-preserved
loop-member-preserved g c =
    all_more c.args.members.now c.loop-member.member-index c.member-item.result c.loop-member-test.true c.member-item.is
    (λ (m : Member g.row.O-State.Denot × Path). IsAboveIn (g.O.SeqObject.observing c.args.object.now) c.args.pending.now m c.args.other.now → ⊥)
    c.loop-member.invariant (λ d. true≢false (sym (c.is_above.ensures.1 d) ∙ c.if-is_above.false))

pub returns : goal.returns
returns g c = (
  λ t. absurd (true≢false (sym t)),
  λ h. absurd (All-contains (λ (m : Member g.row.O-State.Denot × Path). IsAboveIn (g.O.SeqObject.observing c.args.object.now) c.args.pending.now m c.args.other.now → ⊥)
      c.args.members.now h.0 (all_end (λ (m : Member g.row.O-State.Denot × Path). IsAboveIn (g.O.SeqObject.observing c.args.object.now) c.args.pending.now m c.args.other.now → ⊥)
      c.args.members.now c.loop-member.member-index c.loop-member-test.false c.loop-member.invariant) h.1 h.2),
)

use Rattle.std.proofs.Common.{[], ◌∷◌, ◌∙◌, ap, sym, subst, arith, length, take}
use Rattle.lin_members.specs.declared.members.Path.{Path}
use Rattle.lin_members.specs.Rounds.SpellsRounds.{root}
use Rattle.lin_engines.specs.Replays.{IsCurrent}
use Rattle.lin_engines.proofs.Replaying.{member_order, known_current, nothing_legal}
use Rattle.lin_engines.proofs.replay.Replay.node.Goals as goal

pub returns-in_default : goal.returns-in_default
returns-in_default c = λ h right.
    let none = ap length (sym c.deref.ensures.value ∙ c.in_default.ensures.none) in
    ([] ∷ [], root, nothing_legal c.empty_is_legal.ensures c.args.self.now.object.kind h c.args.self.now.reached (omega (arith, right.enough, none)))

pub returns-in-Some-get : goal.returns-in-Some-get
returns-in-Some-get c = λ h right.
    let self = c.args.self.now in
    let known = known_current self h right c.in-Some.frontier.now (subst (λ l. IsCurrent self.present l c.in-Some.frontier.now) c.deref.ensures.value c.in-Some.ensures.some) in
    member_order (λ kind. c.members_spell_legal_orders.ensures (record { kind = kind })) self.object.kind (take self.reached h) c.in-Some.frontier.now self.nodes known c.path.result.node 0
    (c.in-Some-get.member.now, c.in-Some-get.ensures.found, sym (ap (λ (k : Path). k.node) c.path.ensures))

pub returns-in-None : goal.returns-in-None
returns-in-None c = λ h right.
    let self = c.args.self.now in
    let known = known_current self h right c.in-Some.frontier.now (subst (λ l. IsCurrent self.present l c.in-Some.frontier.now) c.deref.ensures.value c.in-Some.ensures.some) in
    absurd (omega (arith, known.some, c.in-None.ensures.past))

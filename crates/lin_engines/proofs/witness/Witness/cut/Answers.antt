use Rattle.std.proofs.Common.{◌≡◌, ◌*◌, ◌/◌, refl, sym, subst, ◌∙◌, arith, take}
use Rattle.lin_frontier.specs.Frontiers.{IsPending}
use Rattle.lin_frontier.specs.Opens.{IsPast}
use Rattle.lin_engines.specs.declared.witness.Witness.{Witness}
use Rattle.lin_engines.proofs.Growing.{alike, back}
use Rattle.lin_engines.proofs.witness.Witness.cut.Goals as goal

pub returns-then-self-place-clause-right : goal.returns-then-self-place-clause-right
returns-then-self-place-clause-right c = λ h edited w same. alike c.args.self.now h edited c.args.place c.if-self-place.true same w

pub returns-in-Some-clause-right : goal.returns-in-Some-clause-right
returns-in-Some-clause-right c = λ h edited w same.
    let a = c.args.self.now in
    let last = c.in-Some.last in
    let place = c.args.place in
    let number : place / 64 * 64 ≡ 64 * (place / 64) = omega arith in
    let b : Witness = record a { length = last.length; of = place / 64 * 64; config = last.config; opened = c.cut.new.self; checkpoints = c.pop.new.self } in
    back a b (place / 64) place last h edited (omega arith) (omega arith) (omega (arith, c.if-self-place.false)) same (sym c.truncate.ensures.items ∙ c.in-Some.ensures.items) refl refl refl refl
    (λ past. subst (λ n. IsPending (take n h) c.cut.new.self.operations.items) number (c.cut.ensures.now h (subst (λ n. IsPast a.opened h n last.opened) (sym number) past)))
    (λ earlier mark below ahead past was. c.cut.ensures.past h earlier mark (omega (arith, below)) ahead (subst (λ n. IsPast a.opened h n last.opened) (sym number) past) was)
    (omega arith) w

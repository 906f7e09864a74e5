use Rattle.std.proofs.Common.{Contains, subst, sym}
use Rattle.std.proofs.lemmas.List.Elements.{Contains-append_left, Contains-append_right}
use Rattle.lin_members.specs.Batches.{all_of}
use Rattle.lin_members.proofs.Batching.{inside_all}
use Rattle.lin_members.proofs.offers.Offers.part.Goals as goal

pub returns-in-Some : goal.returns-in-Some
returns-in-Some c x inside =
    let there = c.in-Some.ensures.lookup in
    let older = c.parts.result.0.now in
    subst (λ l. Contains l x) (sym c.parts.ensures)
    (Contains-append_left (all_of older) c.parts.result.1.now x (inside_all older c.args.number c.in-Some.batch.now x there.3.0 there.1 (rw (c.as_slice.ensures, c.as_ref.ensures) at inside)))

pub returns-in-None : goal.returns-in-None
returns-in-None c x inside = subst (λ l. Contains l x) (sym c.parts.ensures) (Contains-append_right (all_of c.parts.result.0.now) c.parts.result.1.now x inside)

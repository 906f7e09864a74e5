use Rattle.std.proofs.Common.{◌≡◌, ◌∷◌, [], arith, length, refl, reverse}
use Rattle.lin_members.specs.Searching.{in_rounds}
use Rattle.lin_members.proofs.Chaining.{put_all, put_next}
use Rattle.lin_members.proofs.chains.Chains.of.Goals as goal

pub loop-placed-init : goal.loop-placed-init
loop-placed-init c = ([] ∷ [], c.in_ok-rounds.ensures, refl)

pub loop-placed-preserved : goal.loop-placed-preserved
loop-placed-preserved c =
    let was = c.loop-placed.invariant in (
      in_rounds was.0 ((c.in-Some.placed, c.in-Some.round) ∷ []),
      c.in_ok-put.ensures was.0 was.1,
      put_next was.0 c.in-Some.placed c.in-Some.round c.loop-placed.rest.items c.pop.new.self.items (in_rounds ([] ∷ []) (reverse c.args.entries.items)) c.in-Some.ensures.items was.2,
    )

pub returns : goal.returns
returns c =
    let was = c.loop-placed.invariant in
    let none : length c.loop-placed.rest.items ≡ 0 = omega (arith, c.in_default.ensures.cases.0, c.loop-placed.rest.ok.0) in
    put_all c.loop-placed.rounds.links.items c.loop-placed.rounds.ends.items was.0 c.loop-placed.rest.items (in_rounds ([] ∷ []) (reverse c.args.entries.items)) none was.1 was.2

use Rattle.std.proofs.Common.{◌<◌, ◌≤◌, arith}
use Rattle.lin_edn.proofs.Limit.{longest_is}
use Rattle.lin_edn.proofs.Skims.{one_more_open}
use Rattle.lin_edn.proofs.Stops.{stops_before, stops_long, stops_behind}
use Rattle.lin_edn.specs.Grammar.{longest}
use Rattle.lin_edn.specs.Skimming.{shapes_of}
use Rattle.lin_edn.proofs.skim.Skim.take.Goals as goal

pub returns-clause-gone : goal.returns-clause-gone
returns-clause-gone c = λ e.
    let short : c.args.self.now.length < longest = omega (arith, longest_is) in (
      omega arith,
      one_more_open c.args.self.now.length c.args.c
          (shapes_of c.args.self.now.levels.items) (shapes_of c.end_before.new.levels.items) (shapes_of c.take_byte.new.levels.items)
          c.args.self.now.part c.in-Some.part c.in-Some-take_byte.next c.in-Some.ensures.ended short c.in-Some-take_byte.ensures.taken,
    )

pub returns-then-self-ge-LONGEST-clause-more : goal.returns-then-self-ge-LONGEST-clause-more
returns-then-self-ge-LONGEST-clause-more c = λ more short. absurd (omega (arith, longest_is))

pub returns-in_default-clause-stopped : goal.returns-in_default-clause-stopped
returns-in_default-clause-stopped c = λ e rest. stops_before c.args.self.now c.args.c rest c.in_default.ensures.ended

pub returns-then-self-ge-LONGEST-clause-stopped : goal.returns-then-self-ge-LONGEST-clause-stopped
returns-then-self-ge-LONGEST-clause-stopped c = λ e rest.
    let long : longest ≤ c.args.self.now.length = omega (arith, longest_is) in
    stops_long c.args.self.now c.args.c rest (shapes_of c.end_before.new.levels.items) c.in-Some.part c.in-Some.ensures.ended long

pub returns-in_default-take_byte-clause-stopped : goal.returns-in_default-take_byte-clause-stopped
returns-in_default-take_byte-clause-stopped c = λ e rest.
    stops_behind c.args.self.now c.args.c rest (shapes_of c.end_before.new.levels.items) c.in-Some.part c.in-Some.ensures.ended c.in_default-take_byte.ensures.taken

use Rattle.std.proofs.Common.{◌∙◌, ap, get_or, map}
use Rattle.lin_certificate_lines.specs.Groups.{IsBetween}
use Rattle.lin_certificate_lines.proofs.Pairing.{one_more_pair, push_all}
use Rattle.lin_certificate_lines.proofs.registers.pairs_of.Goals as goal

pub latest_of-requires-clause-some : goal.latest_of-requires-clause-some
latest_of-requires-clause-some c = c.requires.each c.loop-other.other-index 0 c.loop-other-test.true

pub loop-other-preserved : goal.loop-other-preserved
loop-other-preserved c =
    let h = c.args.told.now.events.now in
    let at = c.args.operation in
    let others = c.args.others.now in
    let i = c.loop-other.other-index in
    let over = c.in_ok-over.over in
    let pairs = c.loop-other.pairs.items in
    let pushed = c.in_ok-push.ensures.items in
    record {
      begin = ap (map (λ pair. pair.0)) pushed ∙ one_more_pair others i over pairs c.loop-other-test.true c.loop-other.invariant.begin;
      between = push_all (λ pair. IsBetween h pair.0 at pair.1) pairs _ (get_or others i 0, over) pushed c.loop-other.invariant.between c.in_ok-over.ensures;
    }

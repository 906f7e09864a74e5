use Rattle.std.proofs.Common.{arith}
use Rattle.lin_formats.proofs.Begun.{map_in_front}
use Rattle.lin_formats.proofs.mark.map_begins.Goals as goal

pub returns-then-text-begun-eq123 : goal.returns-then-text-begun-eq123
returns-then-text-begun-eq123 c = λ v begun used spelled.
    let within = c.tag_until-begun.ensures.within.1 in
    let ne = c.if-begun-end.false in
    map_in_front c.args.text.now c.white_until-at.result c.tag_until-begun.result v begun used c.white_until-at.ensures.all c.tag_until-begun.ensures.within.0
    c.tag_until-begun.ensures.tag c.tag_until-begun.ensures.found (omega arith) c.if-text-begun-eq123.true spelled

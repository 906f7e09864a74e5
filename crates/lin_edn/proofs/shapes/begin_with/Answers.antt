use Rattle.std.proofs.Common.{◌≡◌, get_or, sym, ap, ◌∙◌, ◌+◌, arith}
use Rattle.std.proofs.lemmas.Simd.{length-chunk, get_or-chunk}
use Rattle.std.proofs.lemmas.Bool.{leb-true}
use lib.Lanes.{chunk}
use Rattle.lin_edn.proofs.Same.{same_lanes}
use Rattle.lin_edn.proofs.shapes.begin_with.Goals as goal

pub returns : goal.returns
returns c all k lt =
    let room = c.requires.room in
    let v = chunk c.args.from 16 c.args.input.now in
    let few = c.requires.few in
    let same : 0 + k ≡ k = omega arith in
    let long = length-chunk c.args.from 16 c.args.input.now room in
    sym (get_or-chunk c.args.from 16 c.args.input.now k 0 (omega arith)) ∙ same_lanes v (chunk 0 16 c.args.bytes.now) k long (length-chunk 0 16 c.args.bytes.now (omega (arith, c.told-bytes))) (omega (arith, c.first_set.ensures, leb-true _ _ all))
    ∙ get_or-chunk 0 16 c.args.bytes.now k 0 (omega arith) ∙ ap (λ j. get_or c.args.bytes.now j 0) same

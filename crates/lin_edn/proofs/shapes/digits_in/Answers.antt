use Rattle.std.proofs.Common.{ℕ, refl, ltb, cond, arith}
use Rattle.std.proofs.lemmas.Simd.{zip2_splat, length-chunk}
use lib.Lanes.{chunk}
use Rattle.lin_bytes.specs.Bytes.{class, is_inside}
use Rattle.lin_edn.proofs.Lanes.{joined, splat_is, passes_in}
use Rattle.lin_edn.proofs.shapes.digits_in.Goals as goal

pub returns : goal.returns
returns c =
    let v = chunk c.args.from 16 c.args.input.now in
    let long = length-chunk c.args.from 16 c.args.input.now c.requires in
    let passes = passes_in (λ x. is_inside (class x)) c.args.input.now c.args.from 16 _ _ c.requires (omega arith) c.type_inv.input c.first_set.ensures _
    (joined (λ a b. cond (ltb a b) 255 0) _ _ v (zip2_splat {Y = ℕ} _ v 16 58 long) (splat_is v 16 246 long)) refl in
    record { few = passes.0; inside = passes.1 }

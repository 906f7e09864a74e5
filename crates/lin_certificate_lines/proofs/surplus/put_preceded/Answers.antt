use Rattle.std.proofs.Common.{◌∷◌, refl}
use Rattle.lin_texts.specs.lemmas.Putting.{put_next}
use Rattle.lin_certificate_lines.specs.Reasons.{both_of}
use Rattle.lin_certificate_lines.specs.Surplus.{named_surplus, preceded_text}
use Rattle.lin_certificate_lines.proofs.surplus.put_preceded.Goals as goal

pub returns : goal.returns
returns c =
    let told = c.args.told.now in
    let n = c.args.item in
    let o = c.args.operations in
    let puts = c.in_ok-surplus.surplus.puts.items in
    let takes = c.in_ok-surplus.surplus.takes.items in
    let early = c.in_ok-early.early.items in
    let outs = c.in_ok-outs.outs.items in
    let half = rw c.as_slice-before.ensures.value at c.in_ok-put_preceded_lines.ensures in (
      preceded_text told o.0 o.1 n puts takes early outs,
      o.0 ∷ o.1 ∷ named_surplus puts takes,
      rw c.as_slice-taken.ensures.value at half,
      put_next _ _ _ (both_of o) (named_surplus puts takes) c.in_ok-name_pair.ensures c.in_ok-name_surplus.ensures,
      record {
        puts = puts;
        takes = takes;
        early = early;
        outs = outs;
        surplus = c.in_ok-surplus.ensures;
        all_early = c.in_ok-early.ensures;
        all_outs = c.in_ok-outs.ensures;
        put = refl;
        named = refl;
      },
    )

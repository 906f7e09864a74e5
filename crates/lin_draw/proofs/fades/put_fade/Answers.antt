use Rattle.std.proofs.Common.{◌∙◌, ◌-◌, ◌++◌, ap, decimal}
use Rattle.lin_texts.specs.lemmas.Putting.{put_next}
use Rattle.lin_draw.specs.Fades.{fade_name, fade_width}
use Rattle.lin_draw.proofs.fades.put_fade.Goals as goal

pub returns : goal.returns
returns c =
    let old = c.args.text.now.items in
    let r = c.args.right in
    let first = put_next old c.extend_from_slice.new.self.items c.put_name.new.text.items _ (fade_name r) c.in_ok-extend_from_slice.ensures.items c.in_ok-put_name.ensures in
    let second = put_next old _ c.extend_from_slice-2.new.self.items _ _ first c.in_ok-extend_from_slice-2.ensures.items in
    let third = put_next old _ c.put_number.new.line.items _ (decimal (r - fade_width)) second (c.in_ok-put_number.ensures ∙ ap (λ x. c.extend_from_slice-2.new.self.items ++ decimal x) c.saturating_sub.ensures) in
    let fourth = put_next old _ c.extend_from_slice-3.new.self.items _ _ third c.in_ok-extend_from_slice-3.ensures.items in
    let fifth = put_next old _ c.put_number-2.new.line.items _ (decimal r) fourth c.in_ok-put_number-2.ensures in
    put_next old _ c.extend_from_slice-4.new.self.items _ _ fifth c.in_ok-extend_from_slice-4.ensures.items

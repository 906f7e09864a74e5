use Rattle.std.proofs.Common.{◌++◌, ◌∙◌, ap, codes, decimal, option_map}
use Rattle.lin_tables.specs.Operations.{event_text}
use Rattle.lin_tables.specs.Spots.{event_spot_text}
use Rattle.lin_explain.specs.Heads.{object_text}
use Rattle.lin_explain.proofs.Texts.{five_put, four_put}
use Rattle.lin_explain.proofs.undecided.put_event_line.Goals as goal

pub returns : goal.returns
returns c =
    let old = c.args.text.now.items in
    let object = object_text c.args.origin.now.names.now c.args.event.now.key c.args.kind in
    let spot = event_spot_text (option_map (λ p. p.now) c.args.origin.now.places) c.args.at in
    let front = (((object ++ codes "more than ") ++ decimal c.args.budget) ++ codes " configurations after ") ++ spot in
    four_put old front (codes ": ") (event_text c.args.origin.now.names.now c.args.event.now) (codes "\n")
    c.put_event_spot.new.line.items c.extend_from_slice-3.new.self.items c.put_event.new.line.items c.extend_from_slice-4.new.self.items
    (five_put old object (codes "more than ") (decimal c.args.budget) (codes " configurations after ") spot
    c.put_object.new.text.items c.extend_from_slice.new.self.items c.put_number.new.line.items c.extend_from_slice-2.new.self.items c.put_event_spot.new.line.items
    c.in_ok-put_object.ensures c.in_ok-extend_from_slice.ensures.items (c.in_ok-put_number.ensures ∙ ap (λ n. c.extend_from_slice.new.self.items ++ decimal n) c.from.ensures) c.in_ok-extend_from_slice-2.ensures.items c.in_ok-put_event_spot.ensures)
    c.in_ok-extend_from_slice-3.ensures.items c.in_ok-put_event.ensures c.in_ok-extend_from_slice-4.ensures.items

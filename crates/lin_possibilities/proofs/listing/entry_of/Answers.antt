use Rattle.std.proofs.Common.{◌∙◌, ◌++◌, List, ap}
use Rattle.lin_order.specs.declared.placed.Placed.{Placed}
use Rattle.lin_possibilities.specs.Words.{after_text, leading_to}
use Rattle.lin_possibilities.proofs.listing.entry_of.Goals as goal

pub returns : goal.returns
returns c =
    let names = c.args.leading_by.now.names.now in
    let h = c.args.leading_by.now.events.now in
    let call = c.args.leading_by.now.call in
    record {
      same = c.in_ok-words.ensures;
      after = λ order is. c.in_ok-put_after.ensures
          ∙ ap (λ (l : List Placed). (c.new-after.result.items) ++ after_text names h l) (c.leading.ensures ∙ ap (λ (l : List Placed). leading_to call l) (c.as_slice.ensures.value ∙ c.in_ok-order.ensures order is))
          ∙ ap (λ l. l ++ after_text names h (leading_to call order)) c.new-after.ensures.items;
    }

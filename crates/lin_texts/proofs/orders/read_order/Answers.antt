use Rattle.std.proofs.Common.{◌+◌, ap, drop, length, ◌∙◌, sym}
use Rattle.std.specs.Str.{bytes_eq}
use Rattle.lin_texts.specs.Orders.{pairs_of, pairs_of_words}
use Rattle.lin_texts.specs.Parts.{Part}
use Rattle.lin_texts.proofs.Pairs.{order_is_pairs, pairs_and_more, pairs_not_empty, words, words_left}
use Rattle.lin_texts.proofs.orders.read_order.Goals.{else-is_last-via-then-is_last+else-eq, else-is_last-via-else-is_last}
use Rattle.lin_texts.proofs.orders.read_order.Goals as goal

pub returns-clause-read : goal.returns-clause-read
returns-clause-read c =
    let first = c.in-Some.ensures.0 in
    let word : Part = record { at = c.in-Some.word.at; text = c.in-Some.word.text.now } in
    let end = word.at + length word.text in
    let rest = words end (drop end c.args.text.now) in
    order_is_pairs c.read_pairs.new.names c.args.text.now c.read_pairs.result (λ order. order.items)
    (elim c.else-is_last.branch [
      | else-is_last-via-then-is_last+else-eq w ↦
          ap pairs_of_words first ∙ pairs_not_empty word rest (sym (w.eq.ensures ∙ ap (bytes_eq word.text) w.as_slice.ensures) ∙ w.if-eq.false) ∙ sym (ap pairs_of first)
      | else-is_last-via-else-is_last w ↦
          ap pairs_of_words first ∙ pairs_and_more word rest (words_left c.next_filled-2.result (λ found. record { at = found.at; text = found.text.now }) c.args.text.now end w.if-is_last.ensures c.next_filled-2.ensures)
          ∙ sym (ap pairs_of first)
    ])
    c.read_pairs.ensures.read

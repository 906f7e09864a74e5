use Rattle.std.proofs.Common.{◌≡◌, ℕ, ◌+◌, ◌*◌, ◌^◌, ◌%◌, List, length, sym, ap, ◌∙◌, arith}
use Rattle.std.specs.List.{insert}
use Rattle.std.proofs.lemmas.List.Edits.{length-insert}
use Rattle.lin_events.specs.declared.items.Item.{Item}
use Rattle.lin_events.specs.Items.{code_of, digest_of, factor}
use Rattle.lin_events.proofs.Digests.{digest_end}
use Rattle.lin_events.proofs.lists.digest_with.Goals as goal

pub returns-in-Ok : goal.returns-in-Ok
returns-in-Ok c =
    let old = c.requires.0 in
    let put = c.requires.3 in
    let more = length-insert old c.args.at c.args.item c.requires.2 in
    let items = ap (λ (xs : List Item). length xs) put in
    let last = c.if-at-items.true in
    let end : c.args.at ≡ length old = omega (arith, more, items, last) in
    let whole : ℕ = 18446744073709551616 in
    c.digest_behind.ensures ∙ ap (λ d. (d + code_of c.args.item * factor ^ c.in-Ok.count) % whole) c.requires.1 ∙ ap (λ n. (digest_of old + code_of c.args.item * factor ^ n) % whole) (c.in-Ok.ensures.1 ∙ end)
    ∙ sym (digest_end old c.args.item) ∙ ap (λ k. digest_of (insert old k c.args.item)) (sym end) ∙ ap digest_of (sym put)

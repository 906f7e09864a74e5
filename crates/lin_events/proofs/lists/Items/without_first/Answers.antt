use Rattle.std.proofs.Common.{◌≡◌, ◌+◌, ℕ, List, length, drop, sym, ap, ◌∙◌, arith}
use Rattle.std.proofs.lemmas.List.{drop-drop, length-drop}
use Rattle.lin_events.specs.declared.items.Item.{Item}
use Rattle.lin_events.specs.Items.{digest_of, listed}
use Rattle.lin_events.proofs.lists.Items.without_first.Goals as goal

-- one more is dropped
rest : {X : Type 0} → (d : ℕ) (now before seen : List X) → now ≡ before → drop d before ≡ seen → drop (d + 1) now ≡ drop 1 seen
rest d now before seen same here = ap (drop (d + 1)) same ∙ sym (drop-drop 1 d before) ∙ ap (drop 1) here

pub invariant_of-result : goal.invariant_of-result
invariant_of-result c =
    let long = length-drop c.self.inside.dropped (listed c.self.inside.list) in
    let here = ap (λ (xs : List Item). length xs) c.self.view_is in
    let again = ap (λ (xs : List Item). length xs) c.in_ok-list.ensures in
    let left = rest c.self.inside.dropped (listed c.in_ok-list.list) (listed c.self.inside.list) c.args.self.now c.in_ok-list.ensures c.self.view_is in
    (omega (arith, long, here, again, c.requires, c.self.invariant.0), c.digest_after-digest.ensures ∙ ap (λ (xs : List Item). digest_of (drop 1 xs)) c.as_slice.ensures ∙ ap digest_of (sym left))

pub returns : goal.returns
returns c = rest c.self.inside.dropped (listed c.in_ok-list.list) (listed c.self.inside.list) c.args.self.now c.in_ok-list.ensures c.self.view_is

use Rattle.std.proofs.Common.{◌≡◌, ◌+◌, ◌-◌, ◌≤◌, ℕ, List, length, take, drop, refl, ap, ◌∙◌, arith}
use Rattle.std.proofs.lemmas.List.{take_all, length-drop}
use Rattle.std.proofs.lemmas.List.Edits.{length-insert}
use Rattle.std.specs.List.{insert}
use Rattle.lin_events.specs.Items.{digest_of}
use Rattle.lin_events.proofs.Digests.{drop_insert}
use Rattle.lin_events.proofs.lists.put.Goals as goal

-- a slice from a place on
behind : {X : Type 0} → (d : ℕ) (xs ys : List X) → xs ≡ ys → take (length xs - d) (drop d xs) ≡ drop d ys
behind d xs ys e = let long = length-drop d xs in take_all (length xs - d) (drop d xs) (omega (arith, long)) ∙ ap (drop d) e

-- what is behind those that were dropped
there : {X : Type 0} → (d at : ℕ) (xs ys : List X) (y : X) → d + at ≤ length xs → ys ≡ insert xs (d + at) y → drop d ys ≡ insert (drop d xs) at y
there d at xs ys y le e = ap (drop d) e ∙ drop_insert d at (d + at) xs y refl (omega arith)

within : {X : Type 0} → (d at : ℕ) (xs ys : List X) (y : X) → d + at ≤ length xs → ys ≡ insert xs (d + at) y → d ≤ length ys
within {X} d at xs ys y le e = let long = ap (λ (zs : List X). length zs) e ∙ length-insert xs (d + at) y le in omega (arith, long)

pub digest_with-requires : goal.digest_with-requires
digest_with-requires c =
    let d = c.args.dropped in
    let old = c.args.list.now.items in
    let long = length-drop d old in
    let put = there d c.args.at old c.insert.new.self.items c.args.item c.requires.0 c.in_ok-insert.ensures.items in
    (drop d old, c.requires.1, omega (arith, long, c.requires.0), behind d c.as_slice.result.now c.insert.new.self.items c.as_slice.ensures.value ∙ put)

pub returns-clause-within : goal.returns-clause-within
returns-clause-within c = within c.args.dropped c.args.at c.args.list.now.items c.insert.new.self.items c.args.item c.requires.0 c.in_ok-insert.ensures.items

pub returns-clause-ok : goal.returns-clause-ok
returns-clause-ok c = there c.args.dropped c.args.at c.args.list.now.items c.insert.new.self.items c.args.item c.requires.0 c.in_ok-insert.ensures.items

pub returns-clause-digest : goal.returns-clause-digest
returns-clause-digest c = c.digest_with.ensures ∙ ap digest_of (behind c.args.dropped c.as_slice.result.now c.insert.new.self.items c.as_slice.ensures.value)

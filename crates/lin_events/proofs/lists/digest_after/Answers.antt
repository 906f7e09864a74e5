use Rattle.std.proofs.Common.{List, ◌≡◌, ◌<◌, ◌+◌, ◌-◌, ◌*◌, ◌%◌, length, drop, pos, get_or, [], ◌∷◌, ℕ, ap₂, ◌∙◌, arith}
use Rattle.lin_events.specs.declared.items.Item.{Item}
use Rattle.lin_events.specs.declared.items.Item.TheVariants.{Int}
use Rattle.lin_events.specs.Items.{code_of, digest_of}
use Rattle.lin_events.proofs.Digests.{digest_rest}
use Rattle.lin_events.proofs.lists.digest_after.Goals as goal

-- by the parts of the list
rest : (xs : List Item) (whole code : ℕ) → 0 < length xs → whole ≡ digest_of xs → code ≡ code_of (get_or xs 0 (Int (pos 0))) → code < 18446744073709551616 → (whole + (18446744073709551616 - code)) % 18446744073709551616 * 17428512612931826493 % 18446744073709551616 ≡ digest_of (drop 1 xs)
rest [] whole code some is of fits = absurd (omega arith)
rest (x ∷ xs) whole code some is of fits =
    ap₂ (λ w n. (w + (18446744073709551616 - n)) % 18446744073709551616 * 17428512612931826493 % 18446744073709551616) is of ∙ digest_rest xs x (omega (arith, of, fits))

pub returns : goal.returns
returns c = rest c.args.items.now c.args.whole c.code.result c.requires.0 c.requires.1 c.code.ensures c.code.type_inv

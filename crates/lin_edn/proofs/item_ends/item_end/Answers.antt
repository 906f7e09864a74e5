use Rattle.lin_edn.specs.inner.Turns.{behind_of}
use Rattle.std.proofs.Common.{◌+◌, ◌∷◌, [], get_or, ◌∙◌, ap, sym, arith}
use Rattle.lin_edn.proofs.ItemEnds.{past_end, other_byte, quote_opens, hash_quote_opens, hash_alone_at, no_hash_quote, no_colon_at, text_found, text_missing}
use Rattle.lin_edn.proofs.item_ends.item_end.Goals as goal

pub returns-then-at-text-clause-none : goal.returns-then-at-text-clause-none
returns-then-at-text-clause-none c = past_end c.args.text.now c.args.at (omega (arith, c.if-at-text.true))

pub returns-then-text-at-eq34-clause-some : goal.returns-then-text-at-eq34-clause-some
returns-then-text-at-eq34-clause-some c =
    let lt = c.if-at-text.false in
    let begun = quote_opens c.args.text.now c.args.at (omega arith) c.if-text-at-eq34.true in
    text_found c.args.text.now c.args.at (c.args.at + 1) (34 ∷ []) (omega arith) begun c.text_end.result c.text_end.ensures

pub returns-then-text-at-eq34-clause-none : goal.returns-then-text-at-eq34-clause-none
returns-then-text-at-eq34-clause-none c =
    let lt = c.if-at-text.false in
    let begun = quote_opens c.args.text.now c.args.at (omega arith) c.if-text-at-eq34.true in
    text_missing c.args.text.now c.args.at (c.args.at + 1) (34 ∷ []) (omega arith) begun (no_colon_at c.args.text.now c.args.at (omega arith) c.if-text-at-eq58.false) c.text_end.result c.text_end.ensures

pub returns-then-text-at-ne35-clause-none : goal.returns-then-text-at-ne35-clause-none
returns-then-text-at-ne35-clause-none c =
    let lt = c.if-at-text.false in
    other_byte c.args.text.now c.args.at (omega arith) (omega (arith, c.type_inv.text c.args.at)) c.if-text-at-eq58.false c.if-text-at-eq34.false c.if-text-at-ne35.true

pub returns-then-text-at-lt2-clause-none : goal.returns-then-text-at-lt2-clause-none
returns-then-text-at-lt2-clause-none c =
    let lt = c.if-at-text.false in
    let few = c.if-text-at-lt2.true in
    hash_alone_at c.args.text.now c.args.at (omega arith) (omega arith) c.if-text-at-ne35.false

pub returns-in-Text-clause-some : goal.returns-in-Text-clause-some
returns-in-Text-clause-some c =
    let lt = c.if-at-text.false in
    let few = c.if-text-at-lt2.false in
    let begun = hash_quote_opens c.args.text.now c.args.at (omega arith) c.if-text-at-ne35.false (sym c.behind_hash.ensures ∙ ap behind_of c.in-Text.is) in
    text_found c.args.text.now c.args.at (c.args.at + 2) (35 ∷ get_or c.args.text.now (c.args.at + 1) 0 ∷ []) (omega arith) begun c.text_end-in-Text.result c.text_end-in-Text.ensures

pub returns-in-Text-clause-none : goal.returns-in-Text-clause-none
returns-in-Text-clause-none c =
    let lt = c.if-at-text.false in
    let few = c.if-text-at-lt2.false in
    let begun = hash_quote_opens c.args.text.now c.args.at (omega arith) c.if-text-at-ne35.false (sym c.behind_hash.ensures ∙ ap behind_of c.in-Text.is) in
    text_missing c.args.text.now c.args.at (c.args.at + 2) (35 ∷ get_or c.args.text.now (c.args.at + 1) 0 ∷ []) (omega arith) begun (no_colon_at c.args.text.now c.args.at (omega arith) c.if-text-at-eq58.false) c.text_end-in-Text.result c.text_end-in-Text.ensures

pub returns-in_default : goal.returns-in_default
returns-in_default c =
    let lt = c.if-at-text.false in
    let few = c.if-text-at-lt2.false in
    record { some = tt; none = no_hash_quote c.args.text.now c.args.at c.behind_hash.result (omega arith) c.if-text-at-ne35.false c.in_default.not-Text c.behind_hash.ensures }

use Rattle.std.proofs.Common.{◌≡◌, ◌++◌, ◌∙◌, ap, arith, length, sym, take}
use Rattle.std.proofs.Math.Seq.{take-append_seam}
use Rattle.lin_tables.specs.Shortening.{short_text}
use Rattle.lin_tables.proofs.Letters.{put_ok}
use Rattle.lin_tables.proofs.Shortened.{short_word_double, short_word_single, short_word_whole}
use Rattle.lin_tables.proofs.spellings.put_short_word.Goals as goal

pub returns-then-word-le-LONGEST : goal.returns-then-word-le-LONGEST
returns-then-word-le-LONGEST c =
    put_ok c.extend_from_slice.result _ _ _ _ c.extend_from_slice.ensures.items (ap (λ l. c.args.line.now.items ++ l) (sym (short_word_whole c.args.names.now c.args.word.now c.if-word-le-LONGEST.true)))

pub returns-then-not-has_double : goal.returns-then-not-has_double
returns-then-not-has_double c =
    let single = sym c.has_double.ensures ∙ c.if-not-has_double.true in
    c.in_ok-put_short.ensures ∙ ap (λ l. c.args.line.now.items ++ l) (sym (short_word_single c.args.names.now c.args.word.now single))

pub returns : goal.returns
returns c =
    let line = c.args.line.now.items in
    let word = c.args.word.now in
    let here = c.len-from.ensures in
    let long : c.len-from.result ≡ length line = omega (arith, here, c.args.line.now.ok.0) in
    let put = ap (take c.len-from.result) c.in_ok-put_short.ensures ∙ ap (λ n. take n (line ++ short_text word)) long ∙ take-append_seam line (short_text word) in
    let double = sym c.has_double.ensures ∙ c.if-not-has_double.false in
    put_ok c.extend_from_slice-2.result _ _ _ _ c.extend_from_slice-2.ensures.items
    (ap (λ l. l ++ word) (c.truncate.ensures.items ∙ put) ∙ ap (λ l. line ++ l) (sym (short_word_double c.args.names.now word double)))

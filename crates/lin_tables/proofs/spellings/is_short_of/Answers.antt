use Rattle.std.proofs.Common.{◌++◌, ◌∙◌, ap, codes, sym, append_assoc}
use Rattle.std.specs.Str.{bytes_eq}
use Rattle.std.proofs.lemmas.Bool.Decides.{Decides-eqb}
use Rattle.std.proofs.lemmas.Slice.Eq.{strip_prefix_is}
use Rattle.std.specs.Prelude.{Some, None}
use Rattle.lin_tables.specs.Shortening.{short_text}
use Rattle.lin_tables.proofs.Letters.{short_whole}
use Rattle.lin_tables.proofs.Shortened.{ends_alike, same_rest, unlike}
use Rattle.lin_tables.proofs.spellings.is_short_of.Goals as goal

pub returns-then-word-le-LONGEST : goal.returns-then-word-le-LONGEST
returns-then-word-le-LONGEST c = c.eq.ensures ∙ ap (λ l. bytes_eq l c.args.text.now) (sym (short_whole c.args.word.now c.if-word-le-LONGEST.true))

pub returns-in_default : goal.returns-in_default
returns-in_default c =
    let front = c.ends_of.result.0.now in
    let back = c.ends_of.result.1.now in
    unlike (short_text c.args.word.now) c.args.text.now
    (λ same. strip_prefix_is Decides-eqb c.args.text.now front None c.in_default.ensures.cases (codes "..." ++ back) (sym same ∙ c.ends_of.ensures ∙ append_assoc front (codes "...") back))

pub returns-in-Some-strip_prefix : goal.returns-in-Some-strip_prefix
returns-in-Some-strip_prefix c =
    let text = c.args.text.now in
    let front = c.ends_of.result.0.now in
    let back = c.ends_of.result.1.now in
    let begins = strip_prefix_is Decides-eqb text front (Some c.in-Some.rest) c.in-Some.ensures.cases in
    let dots = strip_prefix_is Decides-eqb c.in-Some.rest.now (codes "...") (Some c.in-Some-strip_prefix.rest) c.in-Some-strip_prefix.ensures.cases in
    c.eq-in-Some-strip_prefix.ensures ∙ ends_alike front back text c.in-Some.rest.now c.in-Some-strip_prefix.rest.now begins dots ∙ ap (λ l. bytes_eq l text) (sym c.ends_of.ensures)

pub returns-in-None : goal.returns-in-None
returns-in-None c =
    let text = c.args.text.now in
    let front = c.ends_of.result.0.now in
    let back = c.ends_of.result.1.now in
    let begins = strip_prefix_is Decides-eqb text front (Some c.in-Some.rest) c.in-Some.ensures.cases in
    unlike (short_text c.args.word.now) text
    (λ same. strip_prefix_is Decides-eqb c.in-Some.rest.now (codes "...") None c.in-None.ensures.cases back (same_rest front c.in-Some.rest.now (codes "..." ++ back) (sym begins ∙ sym same ∙ c.ends_of.ensures ∙ append_assoc front (codes "...") back)))

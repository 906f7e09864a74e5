use Rattle.std.proofs.Common.{◌-◌, ◌++◌, ◌∙◌, ap, codes, drop, length, sym, take, arith}
use Rattle.std.proofs.lemmas.List.{length-drop, take_all}
use Rattle.lin_tables.specs.Shortening.{from_letter}
use Rattle.lin_tables.proofs.Letters.{short_cut}
use Rattle.lin_tables.proofs.spellings.ends_of.Goals as goal

pub returns : goal.returns
returns c =
    let word = c.args.word.now in
    let back = c.letter_from-back.result in
    let rest = take_all (length word - back) (drop back word) (let long = length-drop back word in omega (arith, long)) in
    short_cut word c.requires
    ∙ ap (λ n. take n word ++ codes "..." ++ from_letter (drop (length word - 11) word)) (sym c.letter_before-front.ensures.letter)
    ∙ ap (λ l. take c.letter_before-front.result word ++ codes "..." ++ l) (sym c.letter_from-back.ensures.letter ∙ sym rest)

use Rattle.std.proofs.Common.{◌≡◌, ◌++◌, OnOk, ap, subst, sym, ◌∙◌}
use Rattle.lin_names.specs.Spelled.{seen}
use Rattle.lin_texts.specs.Items.{spelled_text}
use Rattle.lin_tables.specs.Values.{spelled_worded}
use Rattle.lin_tables.proofs.values.put_worded_item.Goals as goal

pub returns-in-Word : goal.returns-in-Word
returns-in-Word c =
    let wording = c.args.wording in
    let names = c.args.names.now in
    let is = sym (ap (λ s. spelled_worded wording names (seen s)) c.in-Word.is) ∙ ap (spelled_worded wording names) c.shown.ensures in
    subst (λ l. OnOk c.put_word.result (c.put_word.new.line.items ≡ c.args.line.now.items ++ l)) is c.put_word.ensures

pub returns-in-Int : goal.returns-in-Int
returns-in-Int c =
    let wording = c.args.wording in
    let names = c.args.names.now in
    let seen_so = sym c.shown.ensures ∙ ap seen c.in-Int.is in
    let is = ap spelled_text seen_so ∙ sym (ap (spelled_worded wording names) seen_so) in
    subst (λ l. OnOk c.put_item.result (c.put_item.new.line.items ≡ c.args.line.now.items ++ l)) is c.put_item.ensures.put

pub returns-in-Bool : goal.returns-in-Bool
returns-in-Bool c =
    let wording = c.args.wording in
    let names = c.args.names.now in
    let seen_so = sym c.shown.ensures ∙ ap seen c.in-Bool.is in
    let is = ap spelled_text seen_so ∙ sym (ap (spelled_worded wording names) seen_so) in
    subst (λ l. OnOk c.put_item-in-Bool.result (c.put_item-in-Bool.new.line.items ≡ c.args.line.now.items ++ l)) is c.put_item-in-Bool.ensures.put

use Rattle.std.proofs.Common.{◌≡◌, ◌++◌, ◌∷◌, [], OnOk, subst, sym}
use Rattle.std.specs.List.{flat_map}
use Rattle.lin_texts.specs.Items.{item_text, spelled_text}
use Rattle.lin_json.specs.Strings.{byte_json}
use Rattle.lin_json.proofs.Plain.{plain_said}
use Rattle.lin_json.proofs.answers.put_key.Goals as goal

pub returns-in-Int : goal.returns-in-Int
returns-in-Int c =
    let plain : flat_map byte_json (item_text c.args.names.now c.args.key) ≡ item_text c.args.names.now c.args.key =
    subst (λ s. flat_map byte_json (spelled_text s) ≡ spelled_text s) c.shown.ensures (plain_said c.shown.result c.in-Int.is) in
    subst (λ l. OnOk c.put_plain.result (c.put_plain.new.text.items ≡ c.args.text.now.items ++ 34 ∷ (l ++ 34 ∷ []))) (sym plain) c.put_plain.ensures

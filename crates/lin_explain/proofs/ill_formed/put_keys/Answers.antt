use Rattle.std.proofs.Common.{◌≡◌, ◌++◌, codes, option_map, subst, sym}
use Rattle.lin_texts.specs.Items.{item_text}
use Rattle.lin_explain.specs.IllFormed.{keys_text}
use Rattle.lin_explain.proofs.Texts.{five_put}
use Rattle.lin_explain.proofs.ill_formed.put_keys.Goals as goal

pub returns : goal.returns
returns c =
    let key = c.args.event.now.key in
    subst (λ o. c.extend_from_slice-3.new.self.items ≡ c.args.text.now.items ++ keys_text c.args.names.now (option_map (λ e. e.now) o) key) (sym c.in-Some.is)
    (five_put c.args.text.now.items (codes "a completion has the key of its invocation: ") (item_text c.args.names.now c.in-Some.invocation.now.key) (codes " and ") (item_text c.args.names.now key) (codes "\n")
    c.extend_from_slice.new.self.items c.put_key.new.text.items c.extend_from_slice-2.new.self.items c.put_key-2.new.text.items c.extend_from_slice-3.new.self.items
    c.in_ok-extend_from_slice.ensures.items c.in_ok-put_key.ensures c.in_ok-extend_from_slice-2.ensures.items c.in_ok-put_key-2.ensures c.in_ok-extend_from_slice-3.ensures.items)

use Rattle.std.proofs.Common.{◌++◌, ◌∙◌, [], append-nil, codes, refl, sym}
use Rattle.lin_explain.proofs.Texts.{two_put}
use Rattle.lin_explain.proofs.certain.put_found.Goals as goal

pub returns-in_default : goal.returns-in_default
returns-in_default c = ([], refl, sym (append-nil c.args.text.now.items))

pub returns : goal.returns
returns c =
    let front = codes "not linearizable all the same:\n" in
    let told = c.in_ok-told.ensures in (
      front ++ told.0,
      (told.0, c.in_ok-told.told.named.items, told.1, refl),
      two_put c.args.text.now.items front told.0 c.extend_from_slice.new.self.items c.put_certificate.new.text.items c.in_ok-extend_from_slice.ensures.items told.2,
    )

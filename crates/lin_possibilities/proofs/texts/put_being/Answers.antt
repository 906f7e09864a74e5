use Rattle.std.proofs.Common.{◌≡◌, ◌++◌, codes, OnOk, sym, subst}
use Rattle.std.specs.Prelude.{if◌then◌else◌}
use Rattle.lin_texts.specs.lemmas.Putting.{put_last}
use Rattle.lin_possibilities.specs.Texts.{listed_text}
use Rattle.lin_possibilities.proofs.texts.put_being.Goals as goal

pub returns : goal.returns
returns c =
    let old = c.args.text.now.items in
    let new = c.put_listed.new.text.items in
    let told = listed_text c.args.outcomes.now.states in
    subst (λ b. OnOk c.put_listed.result (new ≡ old ++ (if b then codes " just that\n" else codes ":\n" ++ told))) (sym c.if-outcomes.false)
    (put_last c.put_listed.result old c.extend_from_slice-2.new.self.items new (codes ":\n") told c.in_ok-extend_from_slice.ensures.items c.put_listed.ensures)

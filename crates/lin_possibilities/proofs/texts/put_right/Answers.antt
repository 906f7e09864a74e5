use Rattle.std.proofs.Common.{◌≡◌, ◌++◌, codes, false, nat_eq, OnOk, sym, subst, arith}
use Rattle.std.specs.Prelude.{if◌then◌else◌}
use Rattle.std.proofs.lemmas.Bool.Decides.{nat_tests}
use Rattle.lin_texts.specs.lemmas.Putting.{put_last}
use Rattle.lin_possibilities.specs.Texts.{counted, listed_text}
use Rattle.lin_possibilities.proofs.texts.put_right.Goals as goal

pub returns : goal.returns
returns c =
    let old = c.args.text.now.items in
    let new = c.put_listed.new.text.items in
    let told = listed_text c.args.replies.now in
    let some : nat_eq c.args.replies.now.count 0 ≡ false = grind (arith, nat_tests) in
    subst
    (λ b. OnOk c.put_listed.result (new ≡ old ++ (if b then counted (codes "no legal order of the first ") c.args.count (codes " events places it\n") else codes "it could have returned:\n" ++ told)))
    (sym some)
    (put_last c.put_listed.result old c.extend_from_slice.new.self.items new (codes "it could have returned:\n") told c.in_ok-extend_from_slice.ensures.items c.put_listed.ensures)

use Rattle.std.proofs.Common.{◌≡◌, Bool, true, false, nat_eq, refl, sym, ap, ◌∙◌}
use Rattle.std.specs.Cmp.Lexicographic.{pointwise}
use Rattle.std.proofs.lemmas.Bool.Decides.{Decides-eqb}
use Rattle.lin_events.specs.Items.{digest_of, item_eq}
use Rattle.lin_events.specs.Sameness.{items_same}
use Rattle.lin_events.proofs.lists.ItemsPartialEq.eq.Goals as goal

pub returns-else-self-other : goal.returns-else-self-other
returns-else-self-other c = unlike (nat_eq c.self.inside.digest c.other.inside.digest) refl ∙ sym (by (pointwise item_eq c.args.self.now c.args.other.now) refl)
  where
    unlike : (b : Bool) → nat_eq c.self.inside.digest c.other.inside.digest ≡ b → nat_eq c.self.inside.digest c.other.inside.digest ≡ false
    unlike false e = e
    unlike true e = absurd (c.if-self-other.false ((Decides-eqb c.self.inside.digest c.other.inside.digest).0 e))

    by : (b : Bool) → pointwise item_eq c.args.self.now c.args.other.now ≡ b → pointwise item_eq c.args.self.now c.args.other.now ≡ false
    by false e = e
    by true e =
        let same = items_same c.args.self.now c.args.other.now e in
        absurd (c.if-self-other.false (c.self.invariant.1 ∙ ap digest_of (c.self.view_is ∙ same ∙ sym c.other.view_is) ∙ sym c.other.invariant.1))

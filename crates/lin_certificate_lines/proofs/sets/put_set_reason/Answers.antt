use Rattle.std.proofs.Common.{[], ◌∷◌, refl, subst, sym}
use Rattle.lin_texts.specs.lemmas.Putting.{put_next}
use Rattle.lin_certificate_lines.specs.Lines.{late_text}
use Rattle.lin_certificate_lines.specs.Reasons.{ArePut, IsReasonOfSet}
use Rattle.lin_certificate_lines.proofs.sets.put_set_reason.Goals as goal

pub returns-in_ok-push-in-Late : goal.returns-in_ok-push-in-Late
returns-in_ok-push-in-Late c =
    let told = c.args.told.now in
    let a = c.in-Late in
    subst (λ x. ArePut (IsReasonOfSet told x) c.args.text.now.items c.put_late.new.text.items c.args.named.now.items c.push.new.self.items) (sym a.is) (
      late_text told (a.earlier, a.add) a.read a.item a.other,
      a.earlier ∷ a.add ∷ a.read ∷ [],
      c.in_ok-put_late-in-Late.ensures,
      put_next _ _ _ (a.earlier ∷ a.add ∷ []) (a.read ∷ []) c.in_ok-name_pair-in-Late.ensures c.in_ok-push-in-Late.ensures.items,
      (refl, refl),
    )

use Rattle.std.proofs.Common.{[], ◌∷◌, ◌++◌, ◌∙◌, ap, refl, subst, sym}
use Rattle.lin_certificates.specs.Adding.{Adds}
use Rattle.lin_texts.specs.lemmas.Putting.{put_next}
use Rattle.lin_certificate_lines.specs.Groups.{Fails, IsListing}
use Rattle.lin_certificate_lines.specs.Lines.{unadded_text}
use Rattle.lin_certificate_lines.specs.Series.{firsts}
use Rattle.lin_certificate_lines.proofs.sets.put_unadded.Goals as goal

pub returns : goal.returns
returns c =
    let told = c.args.told.now in
    let read = c.args.read in
    let n = c.args.item in
    let failed = c.as_slice-failed.result.now in
    let listed = subst (IsListing (Fails told.events.now (λ call. Adds call n))) (sym c.as_slice-failed.ensures.value) c.in_ok-list.ensures in (
      unadded_text told read n failed,
      read ∷ firsts failed,
      c.in_ok-put_unadded_lines.ensures,
      put_next _ _ _ (read ∷ []) (firsts failed) c.in_ok-push.ensures.items (c.in_ok-extend_from_slice.ensures.items ∙ ap (λ l. c.push.new.self.items ++ l) c.firsts_of.ensures),
      record { failed = failed; all_failed = listed; put = refl; named = refl },
    )

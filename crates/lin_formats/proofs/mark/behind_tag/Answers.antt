use Rattle.std.proofs.Common.{ap, sym, ◌∙◌}
use Rattle.lin_edn.specs.Value.{tagged}
use Rattle.lin_edn.specs.View.{view}
use Rattle.lin_edn.specs.lemmas.Untagged.{tagged_view}
use Rattle.lin_formats.proofs.mark.behind_tag.Goals as goal

pub returns-in-Tagged : goal.returns-in-Tagged
returns-in-Tagged c =
    let tag = c.in-Tagged.tag in
    ap view c.in-Tagged.is ∙ tagged_view tag c.in-Tagged.inner ∙ ap (λ e. tagged tag.at tag.text.now (view e)) (sym c.as_ref.ensures)

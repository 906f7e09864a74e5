use Rattle.std.proofs.Common.{append-nil, sym, ap, ◌∙◌}
use Rattle.lin_edn.specs.View.{view}
use Rattle.lin_history.specs.PassedMaps.{keyword_of, keywords_of}
use Rattle.lin_history.specs.Stream.{maps_in}
use Rattle.lin_history.specs.Table.{bare}
use Rattle.lin_history.specs.inner.Passing.{passed_more}
use Rattle.lin_history.proofs.follow.pass_over.Goals as goal

pub returns-in-Some : goal.returns-in-Some
returns-in-Some c =
    c.pass_over_all.ensures ∙ ap (passed_more c.args.passed.now) (sym (ap (λ v. keywords_of (maps_in v)) (sym c.bare-element.ensures) ∙ ap keywords_of c.in-Some.ensures))

pub returns-in-None : goal.returns-in-None
returns-in-None c =
    c.take.ensures ∙ ap (passed_more c.args.passed.now) (sym (ap (λ v. keywords_of (maps_in v)) (sym c.bare-element.ensures) ∙ ap keywords_of c.in-None.ensures
    ∙ append-nil (keyword_of (bare (view c.bare-element.result.now)))))

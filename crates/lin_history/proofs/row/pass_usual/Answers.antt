use Rattle.std.proofs.Common.{◌∷◌, [], ◌++◌, refl, ap, ◌∙◌}
use Rattle.lin_edn.specs.Rows.{row_end, row_levels}
use Rattle.lin_history.specs.PassedMaps.{keyword_of}
use Rattle.lin_history.proofs.Counting.{row_same}
use Rattle.lin_history.proofs.Taking.{passed, said_so}
use Rattle.lin_history.proofs.Waiting.{waits_on}
use Rattle.lin_history.proofs.row.pass_usual.Goals as goal

pub returns-clause-open : goal.returns-clause-open
returns-clause-open c = λ keyed names s t row. (
  row.0 ++ t.value ∷ [],
  passed keyed names s row.0 c.args.row.now.series c.args.row.now.series c.pass.new.self c.args.taken t refl c.pass.ensures.row row.1,
)

pub returns-clause-told : goal.returns-clause-told
returns-clause-told c = λ m keyed names s is t row.
    let old = c.args.row.now.series in
    let ends = c.args.row.now.ends in
    let v = t.value in (
      row.0 ++ v ∷ [],
      passed keyed names s row.0 old old c.pass.new.self c.args.taken t refl c.pass.ensures.row row.1,
      waits_on m v c.args.row.now.waiting.items c.wait_for.new.waiting.items ends ends
          (c.in_ok-wait_for.ensures m v (said_so m keyed names s (row_end old) (row_levels old) c.args.taken is t)) row.0 row.2,
      row_same c.args.row.now.passed row.0 v row.3 (ap keyword_of t.is_map ∙ t.over),
    )

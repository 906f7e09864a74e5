use Rattle.lin_report.proofs.Agreeing.{no_tells_one_prefix, yes_excludes_no}
use Rattle.lin_report.proofs.laws.answers_agree.Goals as goal

pub returns-clause-yes : goal.returns-clause-yes
returns-clause-yes c = yes_excludes_no c.prefixes_are_linearizable.ensures.whole c.prefixes_are_linearizable.ensures.object

pub returns-clause-no : goal.returns-clause-no
returns-clause-no c = no_tells_one_prefix c.prefixes_are_linearizable.ensures.whole c.prefixes_are_linearizable.ensures.object

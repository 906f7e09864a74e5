use Rattle.lin_members.specs.lemmas.Dominating.{domination_law, dropping_law, drop_one_law, transitive_law}
use Rattle.lin_members.proofs.Leading.{led_to_law}
use Rattle.lin_members.proofs.Thinned.{thinning_law}
use Rattle.lin_members.proofs.member_laws.dominated_can_go.Goals as goal

pub returns-clause-covered : goal.returns-clause-covered
returns-clause-covered g c = domination_law _

pub returns-clause-dropped : goal.returns-clause-dropped
returns-clause-dropped g c = dropping_law _ _

pub returns-clause-one : goal.returns-clause-one
returns-clause-one g c = drop_one_law _ _

pub returns-clause-led_to : goal.returns-clause-led_to
returns-clause-led_to g c = led_to_law _ _

pub returns-clause-transitive : goal.returns-clause-transitive
returns-clause-transitive g c = transitive_law _

pub returns-clause-thinned : goal.returns-clause-thinned
returns-clause-thinned g c = thinning_law _ _ c.well_formed_is_alternating.ensures

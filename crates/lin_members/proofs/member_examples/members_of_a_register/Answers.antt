use Rattle.lin_members.proofs.ReadEarly.{early, still, none_dominates, covers_crashed, these_rounds, put_before, too_late}
use Rattle.lin_members.proofs.member_examples.members_of_a_register.Goals as goal

pub returns-clause-early : goal.returns-clause-early
returns-clause-early c v = early v

pub returns-clause-complete : goal.returns-clause-complete
returns-clause-complete c v = still v c.well_formed_is_alternating.ensures c.start_is_complete.ensures c.members_after_events.ensures.invocation c.members_after_ok.ensures.observer

pub returns-clause-offers : goal.returns-clause-offers
returns-clause-offers c v = none_dominates v

pub returns-clause-crashed : goal.returns-clause-crashed
returns-clause-crashed c = covers_crashed

pub returns-clause-nodes : goal.returns-clause-nodes
returns-clause-nodes c = these_rounds

pub returns-clause-put : goal.returns-clause-put
returns-clause-put c v =
    put_before v c.well_formed_is_alternating.ensures c.rounds_spell_members.ensures.start c.rounds_after_events.ensures.invocation c.rounds_take_operations.ensures.places c.rounds_after_events.ensures.observer

pub returns-clause-late : goal.returns-clause-late
returns-clause-late c = too_late

use Rattle.std.proofs.Common.{◌∙◌, ap}
use Rattle.lin_names.specs.Names.{interned, items_of}
use Rattle.lin_names.proofs.Spellings.{interned_begins, interned_there, items-insert, once_in, stored_in}
use Rattle.lin_names.proofs.names.Names.intern.Goals as goal

pub returns-in-Some-clause-kept : goal.returns-in-Some-clause-kept
returns-in-Some-clause-kept c = interned_there _ _ c.in-Some.number c.in-Some.ensures.some

pub returns-clause-number : goal.returns-clause-number
returns-clause-number c = stored_in c.insert_full.new.self.keys c.in_ok-own.own c.args.spelling.now c.in_ok-number.number c.in_ok-own.ensures.items c.in_ok-number.ensures.stored

pub returns-clause-kept : goal.returns-clause-kept
returns-clause-kept c =
    ap items_of c.in_ok-number.ensures.keys ∙ items-insert c.self.inside.spellings.keys c.in_ok-own.own
    ∙ ap (λ w. interned w (items_of c.self.inside.spellings.keys)) c.in_ok-own.ensures.items ∙ ap (interned c.args.spelling.now) c.self.view_is

pub invariant_of-self-2 : goal.invariant_of-self-2
invariant_of-self-2 c = once_in _ c.in_ok-number.ensures.unique

pub returns-clause-once : goal.returns-clause-once
returns-clause-once c = once_in _ c.in_ok-number.ensures.unique

pub returns-clause-begun : goal.returns-clause-begun
returns-clause-begun c = interned_begins c.args.spelling.now _ _ (returns-clause-kept c)

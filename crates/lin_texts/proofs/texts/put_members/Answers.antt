use Rattle.std.proofs.Common.{◌≡◌, ◌++◌, ◌∙◌, ap, map, subst, OnOk}
use Rattle.lin_names.specs.Spelled.{spelled}
use Rattle.lin_texts.proofs.Joined.{list_is_members}
use Rattle.lin_texts.proofs.texts.put_members.Goals as goal

pub returns-then-is_in_print-clause-put : goal.returns-then-is_in_print-clause-put
returns-then-is_in_print-clause-put c =
    subst (λ s. OnOk c.put_list.result (c.put_list.new.line.items ≡ c.args.line.now.items ++ s))
    (list_is_members c.args.names.now c.args.members.now c.args.members.now (c.is_in_print.ensures.yes c.if-is_in_print.true)) c.put_list.ensures.put

pub returns-clause-put : goal.returns-clause-put
returns-clause-put c =
    subst (λ s. OnOk c.put_list-2.result (c.put_list-2.new.line.items ≡ c.args.line.now.items ++ s))
    (list_is_members c.args.names.now c.args.members.now c.as_slice.result.now
    (ap (map (spelled c.args.names.now)) c.as_slice.ensures.value ∙ c.in-Ok.ensures)) c.put_list-2.ensures.put

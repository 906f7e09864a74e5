use Rattle.std.proofs.Common.{◌≡◌, ◌++◌, OnOk, pos, subst, sym}
use Rattle.lin_events.specs.declared.items.Item.TheVariants.{Int}
use Rattle.lin_texts.specs.lemmas.Putting.{put_last}
use Rattle.lin_report.proofs.AskedKeys.{only_key}
use Rattle.lin_report.proofs.asked_keys.put_keys.Goals as goal

pub returns-in_ok-extend_from_slice-in-len1 : goal.returns-in_ok-extend_from_slice-in-len1
returns-in_ok-extend_from_slice-in-len1 c =
    subst (λ more. OnOk c.put_item.result (c.put_item.new.line.items ≡ c.args.text.now.items ++ more)) (sym (only_key c.args.names.now c.args.keys.now (Int (pos 0)) c.in-len1.len_at_least c.in-len1.len_below))
    (put_last c.put_item.result _ _ _ _ _ c.in_ok-extend_from_slice-in-len1.ensures.items c.put_item.ensures.put)

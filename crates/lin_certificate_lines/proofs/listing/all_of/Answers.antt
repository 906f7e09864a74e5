use Rattle.std.proofs.Common.{◌+◌, ap, arith, sym, subst, ◌∙◌}
use Rattle.lin_certificate_lines.specs.Groups.{IsInGroup}
use Rattle.lin_certificate_lines.proofs.AllListed.{ListsBelow, group_within, lists_all, lists_here, lists_none, lists_same}
use Rattle.lin_certificate_lines.proofs.listing.all_of.Goals.{then-is_in_group+in_ok-push, else-is_in_group}
use Rattle.lin_certificate_lines.proofs.listing.all_of.Goals as goal

pub loop-at-init : goal.loop-at-init
loop-at-init c =
    let Is = IsInGroup c.args.told.now.events.now c.args.group.now in
    subst (ListsBelow Is 0) (sym c.new-list.ensures.items) (lists_none Is)

pub loop-at-preserved : goal.loop-at-preserved
loop-at-preserved c =
    let Is = IsInGroup c.args.told.now.events.now c.args.group.now in
    let at = c.loop-at.at in
    let list = c.loop-at.list.items in
    elim c.if-is_in_group.branch [
      | then-is_in_group+in_ok-push w ↦
          subst (ListsBelow Is (at + 1)) (sym (ap (λ v. v.items) w.list-is ∙ w.in_ok-push.ensures.items))
          (lists_here Is at list c.loop-at.invariant (c.is_in_group.ensures.0 w.if-is_in_group.true))
      | else-is_in_group w ↦
          subst (ListsBelow Is (at + 1)) (sym (ap (λ v. v.items) w.list-is))
          (lists_same Is at list c.loop-at.invariant (λ is. let yes' = c.is_in_group.ensures.1 is in let no = w.if-is_in_group.false in cc))
    ]

pub returns : goal.returns
returns c =
    let ended = c.loop-at-test.false in
    let h = c.args.told.now.events.now in
    let group = c.args.group.now in
    lists_all (IsInGroup h group) c.loop-at.at c.loop-at.list.items c.loop-at.invariant
    (λ at is. let within = group_within h group at is in omega (arith, ended, within))

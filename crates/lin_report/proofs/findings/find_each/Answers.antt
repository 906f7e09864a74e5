use Rattle.std.proofs.Common.{◌≡◌, ◌∷◌, ◌∙◌, [], arith, length, pos, slice_index_or, subst, sym}
use Rattle.lin_events.specs.declared.items.Item.TheVariants.{Int}
use Rattle.lin_answers.specs.Answers.{IsVerdict}
use Rattle.lin_answers.specs.Keys.{AreKeys}
use Rattle.lin_answers.specs.declared.answers.Scope.TheVariants.{Object}
use Rattle.lin_report.specs.Reports.{AreFindings}
use Rattle.lin_report.proofs.ObjectFindings.{of_well_formed, one_found}
use Rattle.lin_report.proofs.OneObject.{one_listed, only_key, verdict_of_object}
use Rattle.lin_report.proofs.findings.find_each.Goals as goal

pub returns-in-len1-clause-found : goal.returns-in-len1-clause-found
returns-in-len1-clause-found c =
    let now = c.args.session.now.present in
    let keys = c.args.keys.now in
    let key = slice_index_or keys 0 (Int (pos 0)) in
    let items = c.in_ok-from_slice.field-0.items in
    let one : length keys ≡ 1 = omega (arith, c.in-len1.len_at_least, c.in-len1.len_below) in
    let listed = one_listed keys (Int (pos 0)) one in
    let right : IsVerdict now (Object key) c.args.whole = verdict_of_object c.linearizability_is_local.ensures c.absent_keys_are_legal.ensures now key
    (only_key c.requires.keys.0 now.history key (subst (AreKeys c.requires.keys.0 now.history) listed c.requires.keys.1)) c.args.whole c.requires.whole in
    of_well_formed now keys c.args.whole items (sym c.is_ill_formed.ensures ∙ c.if-is_ill_formed.false)
    (subst (λ ks. AreFindings now ks items) (sym listed) (subst (AreFindings now (key ∷ [])) (sym c.in_ok-from_slice.ensures.items) (one_found now key c.args.whole right)))

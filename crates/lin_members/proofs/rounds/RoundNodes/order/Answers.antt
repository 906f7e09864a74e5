use Rattle.std.proofs.Common.{◌∷◌, [], ap, ◌∙◌, reverse, subst}
use Rattle.std.proofs.lemmas.List.{reverse-reverse}
use Rattle.lin_members.specs.Searching.{in_rounds}
use Rattle.lin_members.specs.inner.Chains.{AreChained}
use Rattle.lin_members.specs.lemmas.InRounds.{entries_of}
use Rattle.lin_members.proofs.rounds.RoundNodes.order.Goals as goal

pub returns : goal.returns
returns c rounds spelled =
    let e = entries_of c.args.self.now c.args.id rounds spelled in
    let read = c.in_ok-entries.ensures e.0 e.1 in
    c.in_ok-order.ensures rounds (subst (AreChained c.in_ok-rounds.rounds) (ap (in_rounds ([] ∷ [])) (ap reverse read ∙ reverse-reverse e.0) ∙ e.2) c.in_ok-rounds.ensures)

use Rattle.std.proofs.Common.{inl, inr, refl, sym, ◌∙◌}
use Rattle.std.proofs.lemmas.Result.{IfErr-weaker}
use Rattle.lin_program.proofs.orders.bytes_in.Goals as goal

pub returns-then-eq-clause-unread : goal.returns-then-eq-clause-unread
returns-then-eq-clause-unread g c =
    let held = g.S.Commands.Read.remaining c.commands.result in
    IfErr-weaker c.read_whole.result _ _ (λ stop h. inr (held, inl (sym c.eq.ensures ∙ c.if-eq.true, (c.commands.result, c.commands.ensures, refl)), h)) c.read_whole.ensures.faults

pub returns-in-Some-clause-unread : goal.returns-in-Some-clause-unread
returns-in-Some-clause-unread g c =
    let held = g.S.File.Read.remaining c.in-Some.file in
    IfErr-weaker c.read_whole-in-Some.result _ _ (λ stop h. inr (held, inr (sym c.eq.ensures ∙ c.if-eq.false, (c.in-Some.file, c.in-Some.ensures.some, refl)), h)) c.read_whole-in-Some.ensures.faults

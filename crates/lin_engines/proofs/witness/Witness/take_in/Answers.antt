use Rattle.std.proofs.Common.{◌≡◌, ◌⊎◌, sym, subst, arith, inl, inr}
use Rattle.lin_events.specs.declared.calls.Call.{Call}
use Rattle.lin_events.specs.declared.calls.Name.{Name}
use Rattle.lin_events.specs.declared.events.Body.TheVariants.{Invoke, Info}
use Rattle.lin_events.specs.declared.events.Event.{Event}
use Rattle.lin_events.specs.Operations.{IsEvent}
use Rattle.lin_frontier.specs.Placing.{IsAbsent}
use Rattle.lin_engines.specs.Witnesses.{IsPassed}
use Rattle.lin_engines.proofs.Growing.{ok_true}
use Rattle.lin_engines.proofs.witness.Witness.take_in.Goals as goal

pub returns-then-not-is_absent-clause-right : goal.returns-then-not-is_absent-clause-right
returns-then-not-is_absent-clause-right c = λ functions h well there w. c.mark.ensures.longer.right h w

pub returns-else-not-is_absent-clause-right : goal.returns-else-not-is_absent-clause-right
returns-else-not-is_absent-clause-right c = λ functions h well there w.
    let marked = c.mark.ensures.longer in
    let event = c.args.event.now in
    c.pass.ensures.right functions h well (subst (λ n. IsEvent h n event) (sym marked.of) there)
    (subst (λ b. IsPassed (record event { body = b }) c.mark.new.self.config) (sym c.in-Fail.is) (subst (IsAbsent event.process) c.placed.ensures (c.is_absent.ensures.0 c.if-not-is_absent.false))) (c.in_ok-mark.ensures.before (ok_true c.in_ok-mark.field-0 c.if-not-branch.false) h w)
    (marked.right h w)

pub returns-else-not-branch-2-clause-right : goal.returns-else-not-branch-2-clause-right
returns-else-not-branch-2-clause-right c = λ functions h well there w.
    let marked = c.mark.ensures.longer in
    let placed = c.provide.ensures.longer in
    let before = c.in_ok-mark.ensures.before (ok_true c.in_ok-mark.field-0 c.if-not-branch.false) h w in
    c.complete.ensures.right functions h c.in-Ok.field-0 c.in-Ok.reply well (subst (λ n. IsEvent h n c.args.event.now) (sym (placed.of)) (subst (λ n. IsEvent h n c.args.event.now) (sym marked.of) there)) c.in-Ok.is
    (c.in_ok-provide-in-Ok.ensures.placed (ok_true c.in_ok-provide-in-Ok.field-0 c.if-not-branch-2.false)) (omega (arith, before, placed.of, placed.more)) (placed.right h (marked.right h w))

-- an invocation and an info leave the order as it is
passes : (event : Event) (config : _) → ((call : Call) × (event.body ≡ Invoke call)) ⊎ ((name : Name) × (event.body ≡ Info name)) → IsPassed event config
passes event config (inl call) = subst (λ b. IsPassed (record event { body = b }) config) (sym call.1) tt
passes event config (inr name) = subst (λ b. IsPassed (record event { body = b }) config) (sym name.1) tt

pub returns-in-Invoke-clause-right : goal.returns-in-Invoke-clause-right
returns-in-Invoke-clause-right c = λ functions h well there w.
    let marked = c.mark.ensures.longer in
    let event = c.args.event.now in
    c.pass-in-Invoke.ensures.right functions h well (subst (λ n. IsEvent h n event) (sym marked.of) there) (passes event c.mark.new.self.config c.in-Invoke.is) (c.in_ok-mark.ensures.before (ok_true c.in_ok-mark.field-0 c.if-not-branch.false) h w) (marked.right h w)

use Rattle.std.proofs.Common.{Contains, sym, subst, ◌∙◌, arith}
use Rattle.std.proofs.lemmas.Option.{same_Some, slice_get_within}
use Rattle.std.proofs.lemmas.Result.{IfOk-weaker}
use Rattle.lin_objects.specs.Kinds.{kind_of}
use Rattle.lin_engines.specs.declared.ends.End.TheVariants.{Alive}
use Rattle.lin_session.specs.Marks.{IsToldOf}
use Rattle.lin_session.specs.inner.Objects.{marks_in}
use Rattle.lin_order.specs.Linearizable.{IsLegalOrderFor}
use Rattle.lin_session.proofs.kept.Objects.order_of.Goals as goal

pub order_listed-requires-clause-alive : goal.order_listed-requires-clause-alive
order_listed-requires-clause-alive c = λ key key_at.
    subst (λ k. IsToldOf c.args.events.now (marks_in c.args.self.now) k Alive) (same_Some c.args.key key (sym c.in-Some.ensures.found ∙ key_at)) c.requires.alive

pub returns-in-Some : goal.returns-in-Some
returns-in-Some c =
    IfOk-weaker c.order_listed.result _ _ (λ order told. told c.args.key c.in-Some.ensures.found) c.order_listed.ensures

pub returns-in-None : goal.returns-in-None
returns-in-None c =
    let K = kind_of c.args.kinds.now in
    let h = c.args.events.now in
    subst (IsLegalOrderFor K c.args.key h) (sym c.new.ensures.items) (c.absent_keys_are_legal.ensures K h c.args.key (λ at event stands same.
    let below = slice_get_within h at event stands in
    c.in-None.ensures.none (subst (Contains c.args.self.now.keys.keys) same (c.requires.right.1.known at event (omega (arith, below, c.requires.split)) stands))))

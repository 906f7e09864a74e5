use Rattle.std.proofs.Common.{◌≡◌, ◌∙◌, refl, ap, sym, subst, length, set, slice_get, Some, ◌<◌, arith}
use Rattle.std.specs.Prelude.{◌||◌}
use Rattle.std.proofs.lemmas.List.{length-set, set-get_or}
use Rattle.std.proofs.lemmas.Bool.{false≢true}
use Rattle.std.proofs.lemmas.Option.{same_Some, slice_get_read}
use Rattle.lin_events.specs.Items.{item_eq}
use Rattle.lin_objects.specs.Kinds.{kind_of}
use Rattle.lin_wellformed.specs.Scans.{ready_count}
use Rattle.lin_order.specs.Orders.{is_of_key}
use Rattle.lin_answers.specs.declared.edits.Edit.TheVariants.{Replace}
use Rattle.lin_session.specs.Objects.{AreRight}
use Rattle.lin_session.specs.inner.Objects.{marks_in}
use Rattle.lin_session.specs.Sessions.{AreTakenIn, Standing}
use Rattle.lin_session.specs.Known.{count_before, mark_of}
use Rattle.lin_session.specs.Leaving.{IsMarkAfter, IsTouched, least, rounded}
use Rattle.lin_session.proofs.Before.{AgreeBefore-events, take-replaced}
use Rattle.lin_session.proofs.Equals.{event_equal, event_same}
use Rattle.lin_session.proofs.Low.{some_left, AreTakenIn-edit, AreTakenIn-lower, rounded_below}
use Rattle.lin_session.proofs.session.Session.replace.Goals as goal

pub invariant_of-self : goal.invariant_of-self
invariant_of-self c = record {
  few = c.self.invariant.few;
  budgeted = c.self.invariant.budgeted;
  scanned = c.self.invariant.scanned;
  kept = c.self.invariant.kept;
  taken_in = subst (λ low. AreTakenIn low (ready_count c.self.inside.scan) (length c.self.inside.events.items)) (sym (c.least_of-self-inside.ensures ∙ ap (λ n. least c.self.inside.low (Some n)) c.round_down.ensures))
      (AreTakenIn-lower c.self.inside.low (rounded c.args.at) (ready_count c.self.inside.scan) (length c.self.inside.events.items) (omega (arith, rounded_below c.args.at, c.if-at-len.false, c.len.ensures)) c.self.invariant.taken_in);
  apart = λ none. absurd (some_left c.self.inside.low _ (sym c.least_of-self-inside.ensures ∙ none));
}

pub returns-then-eq-clause-made : goal.returns-then-eq-clause-made
returns-then-eq-clause-made c =
    let s = c.self.inside in
    let same = event_same c.index.result.now c.args.event (sym c.eq.ensures ∙ c.if-eq.true) in
    let is : set s.events.items c.args.at c.args.event ≡ s.events.items = ap (set s.events.items c.args.at) (sym same ∙ c.index.ensures) ∙ set-get_or s.events.items c.args.at _ in
    subst (λ (t : Standing). record { history = s.events.items; kinds = s.kinds; budget = s.budget } ≡ record t.present { history = set t.present.history c.args.at c.args.event }) c.self.view_is
    (ap (λ l. record { history = l; kinds = s.kinds; budget = s.budget }) (sym is))

pub returns-then-eq-clause-marks : goal.returns-then-eq-clause-marks
returns-then-eq-clause-marks c = λ x.
    let s = c.self.inside in
    let same = event_same c.index.result.now c.args.event (sym c.eq.ensures ∙ c.if-eq.true) in
    let stands : slice_get s.events.items c.args.at ≡ Some c.args.event =
    slice_get_read s.events.items (length s.events.items) c.args.at c.index.result.now refl (omega (arith, c.if-at-len.false, c.len.ensures)) c.index.ensures ∙ ap Some same in
    subst (λ (t : Standing). IsMarkAfter (Replace c.args.at c.args.event) t.present x (mark_of t.marks x) (marks_in s.objects x)) c.self.view_is ((λ is. refl), λ other. absurd (other stands))

pub invariant_of-self-2 : goal.invariant_of-self-2
invariant_of-self-2 c = record {
  few = rw (length-set c.self.inside.events.items c.args.at c.args.event) c.self.invariant.few;
  budgeted = c.self.invariant.budgeted;
  scanned = c.cut.ensures.right _ _ _ _ c.self.invariant.scanned (AgreeBefore-events _ _ _ _ (take-replaced c.args.at c.self.inside.events.items c.args.event));
  kept = subst (λ l. AreRight c.replace.new.self (kind_of c.self.inside.kinds) c.self.inside.budget (set l c.args.at c.args.event)) c.deref.ensures.value
      (c.replace.ensures.right (kind_of c.self.inside.kinds) c.self.inside.budget (subst (AreRight c.self.inside.objects (kind_of c.self.inside.kinds) c.self.inside.budget) (sym c.deref.ensures.value) c.self.invariant.kept));
  taken_in = subst (λ low. AreTakenIn low (ready_count c.cut.new.self) (length (set c.self.inside.events.items c.args.at c.args.event))) (sym (c.least_of-self-inside.ensures ∙ ap (λ n. least c.self.inside.low (Some n)) c.round_down.ensures))
      (AreTakenIn-edit c.self.inside.low (rounded c.args.at) c.args.at (ready_count c.self.inside.scan) (ready_count c.cut.new.self) (length c.self.inside.events.items) (length (set c.self.inside.events.items c.args.at c.args.event)) (rounded_below c.args.at) (omega (arith, c.if-at-len.false, c.len.ensures, c.self.inside.events.ok.0)) c.cut.ensures.back c.self.invariant.taken_in);
  apart = λ none. absurd (some_left c.self.inside.low _ (sym c.least_of-self-inside.ensures ∙ none));
}

pub returns-clause-marks : goal.returns-clause-marks
returns-clause-marks c = λ x.
    let s = c.self.inside in
    let K = kind_of s.kinds in
    let old = marks_in s.objects x in
    let new = marks_in c.replace.new.self x in
    let there = c.deref.ensures.value in
    let touch = c.replace.ensures.marks K s.budget (subst (AreRight s.objects K s.budget) (sym there) c.self.invariant.kept) x in
    let differs : slice_get s.events.items c.args.at ≡ Some c.args.event → ⊥ = λ stands.
    let within : c.args.at < length s.events.items = omega (arith, c.if-at-len.false, c.len.ensures) in
    let same = same_Some c.index.result.now c.args.event (sym (slice_get_read s.events.items (length s.events.items) c.args.at c.index.result.now refl within c.index.ensures) ∙ stands) in
    false≢true (sym c.if-eq.false ∙ c.eq.ensures ∙ event_equal c.index.result.now c.args.event same) in
    subst (λ (t : Standing). IsMarkAfter (Replace c.args.at c.args.event) t.present x (mark_of t.marks x) new) c.self.view_is (
      (λ stands. absurd (differs stands)),
      λ other. subst (λ l. IsTouched (item_eq c.args.event.key x || is_of_key l x c.args.at) (count_before l x c.args.at) old new) there touch,
    )

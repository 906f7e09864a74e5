use Rattle.std.proofs.Common.{◌≡◌, ◌-◌, ℕ, Bool, Some, IsTrue, slice_get, sym, ap, subst, arith, get_or, ◌<◌, length}
use Rattle.std.proofs.lemmas.Result.{IfOk-weaker}
use Rattle.lin_events.specs.declared.items.Item.{Item}
use Rattle.lin_objects.specs.Kinds.{functions_of}
use Rattle.lin_engines.specs.declared.ends.End.TheVariants.{Dead}
use Rattle.lin_answers.specs.declared.answers.Scope.TheVariants.{Object}
use Rattle.lin_answers.specs.declared.answers.Verdict.TheVariants.{No}
use Rattle.lin_chain.specs.Chains.{IsRight, told_in}
use Rattle.lin_events.specs.declared.calls.Name.{Name}
use Rattle.lin_events.specs.WellFormed.{IsWellFormed}
use Rattle.lin_order.specs.Parts.{events_at}
use Rattle.lin_order.specs.Orders.{is_of_key}
use Rattle.lin_session.specs.Marks.{IsMarkedAs, IsToldOf}
use Rattle.lin_session.specs.Objects.{IsObject}
use Rattle.lin_session.specs.Known.{count_before}
use Rattle.lin_session.specs.inner.Objects.{marks_in}
use Rattle.lin_session.proofs.Asking.{picks_inside, right_spelled, spelled_length_of, well_formed_spelled}
use Rattle.lin_session.proofs.Found.{object_at}
use Rattle.lin_session.proofs.Knowing.{told_listed}
use Rattle.lin_session.proofs.Refuting.{over_in, refuted_in, refused_for}
use Rattle.lin_session.proofs.kept.Objects.refutation.Goals as goal
use Rattle.lin_session.proofs.kept.Objects.refutation.Goals.{After-deref}

-- what stands where the key is listed
stands : (c : After-deref) → slice_get c.args.self.now.objects.items c.in-Some.i ≡ Some c.index-object.result.now
stands c =
    let s = c.args.self.now in
    object_at s.keys.keys s.objects.items c.in-Some.i c.args.key c.index-object.result.now s.aligned c.in-Some.ensures.found c.index-object.ensures

-- the object, for the kinds that the caller knows
there : (c : After-deref) → IsObject c.requires.right.0 c.args.budget c.args.events.now c.args.self.now.split c.args.key c.index-object.result.now
there c = c.requires.right.1.each c.in-Some.i c.args.key c.index-object.result.now c.in-Some.ensures.found (stands c)

pub refute-requires-clause-right : goal.refute-requires-clause-right
refute-requires-clause-right c =
    subst (λ l. IsRight c.index-object.result.now.chain (events_at c.args.events.now l)) (sym c.deref.ensures.value)
    (right_spelled c.positions_spell_parts.ensures c.requires.right.0 c.args.budget c.args.events.now c.args.self.now.split c.args.key c.index-object.result.now c.requires.split
    (there (goal.at.refute-requires-clause-right c).After-deref))

pub refute-requires-clause-inside : goal.refute-requires-clause-inside
refute-requires-clause-inside c =
    subst (λ l. (k : ℕ) (d : ℕ) → k < length l → get_or l k d < length c.args.events.now) (sym c.deref.ensures.value)
    (picks_inside c.positions_spell_parts.ensures c.requires.right.0 c.args.budget c.args.events.now c.args.self.now.split c.args.key c.index-object.result.now c.requires.split
    (there (goal.at.refute-requires-clause-inside c).After-deref))

pub refute-requires-clause-well_formed : goal.refute-requires-clause-well_formed
refute-requires-clause-well_formed c =
    subst (λ l. (functions : Item → Name → Bool) × IsWellFormed functions (events_at c.args.events.now l)) (sym c.deref.ensures.value) (
      functions_of c.requires.right.0,
      well_formed_spelled c.positions_spell_parts.ensures c.requires.right.0 c.args.budget c.args.events.now c.args.self.now.split c.args.key c.index-object.result.now c.requires.split
          (there (goal.at.refute-requires-clause-well_formed c).After-deref) c.parts_keep_operations.ensures.well_formed c.requires.right.2,
    )

-- it is told to be dead
dead : (c : After-deref) (n : ℕ) → IsMarkedAs c.args.events.now (Object c.args.key) (marks_in c.args.self.now) (No n) → IsTrue (is_of_key c.args.events.now c.args.key (n - 1)) × (told_in c.index-object.result.now.chain (length c.index-object.result.now.picks.items) ≡ Some (Dead (count_before c.args.events.now c.args.key (n - 1))))
dead c n marked =
    let s = c.args.self.now in
    let h = c.args.events.now in
    let told = subst (λ k. IsToldOf h (marks_in s) k (Dead (count_before h k (n - 1)))) marked.1 marked.3 in (
      subst (λ k. IsTrue (is_of_key h k (n - 1))) marked.1 marked.2,
      told_listed c.requires.right.0 c.args.budget h s c.requires.right.1 c.positions_spell_parts.ensures c.requires.split c.in-Some.i c.args.key c.in-Some.ensures.found c.index-object.result.now (stands c) (Dead (count_before h c.args.key (n - 1))) told,
    )

pub returns-clause-refuted : goal.returns-clause-refuted
returns-clause-refuted c =
    let b = (goal.at.returns-clause-refuted c).After-deref in
    let o = c.index-object.result.now in
    IfOk-weaker c.refute.result _ _
    (λ refutation refutes kinds n kept some marked.
    let told = dead b n marked in
    refuted_in c.positions_spell_parts.ensures c.parts_of_prefixes.ensures.up_to kinds c.args.budget c.args.events.now c.args.self.now.split c.args.key o c.requires.split
    (kept.each c.in-Some.i c.args.key o c.in-Some.ensures.found (stands b)) n _ some told.0 told.1 (rw (← c.deref.ensures.value) refutes)) c.refute.ensures.refuted

pub returns-clause-unrefuted : goal.returns-clause-unrefuted
returns-clause-unrefuted c =
    let b = (goal.at.returns-clause-unrefuted c).After-deref in
    let o = c.index-object.result.now in
    let told = dead b c.requires.dead.0 c.requires.dead.1 in
    let place = count_before c.args.events.now c.args.key (c.requires.dead.0 - 1) in
    refused_for c.refute.result _ (λ is. (c.refute.ensures.not_dead.0 is) place (subst (λ l. told_in o.chain (length l) ≡ Some (Dead place)) (sym c.deref.ensures.value) told.1))
    (λ is kinds kept.
    over_in c.positions_spell_parts.ensures c.parts_of_prefixes.ensures.up_to kinds c.args.budget c.args.events.now c.args.self.now.split c.args.key o c.requires.split
    (kept.each c.in-Some.i c.args.key o c.in-Some.ensures.found (stands b)) (rw (← c.deref.ensures.value) (c.refute.ensures.too_large is)))

pub returns-clause-steps : goal.returns-clause-steps
returns-clause-steps c =
    let is = there (goal.at.returns-clause-steps c).After-deref in
    let o = c.index-object.result.now in
    let long = spelled_length_of c.positions_spell_parts.ensures c.requires.right.0 c.args.budget c.args.events.now c.args.self.now.split c.args.key o c.requires.split is in
    omega (arith, c.refute.ensures.steps, ap length c.deref.ensures.value, long)

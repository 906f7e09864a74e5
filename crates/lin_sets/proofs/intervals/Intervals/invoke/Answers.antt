use Rattle.std.proofs.Common.{◌≡◌, ◌++◌, ◌∷◌, [], ℕ, length, List, Option, inl, inr, arith, refl, sym, ap, subst, ◌∙◌}
use Rattle.lin_events.specs.declared.items.Item.{Item}
use Rattle.lin_events.specs.declared.events.Body.TheVariants.{Invoke}
use Rattle.lin_sets.specs.declared.openings.Opened.{Opened}
use Rattle.lin_sets.specs.declared.changes.Change.{Change}
use Rattle.lin_sets.specs.declared.changes.Change.TheVariants.{Invoked}
use Rattle.lin_sets.specs.Intervals.{AreAll, IsAsBefore}
use Rattle.lin_sets.proofs.Forgetting.{on_err}
use Rattle.lin_sets.proofs.Same.{first_refused, room_made}
use Rattle.lin_sets.proofs.Pushing.{noted_over}
use Rattle.lin_sets.proofs.Undone.{add_cases}
use Rattle.lin_sets.proofs.Whole.{IsOpened, invoked_add, invoked_other}
use Rattle.lin_sets.proofs.intervals.Intervals.invoke.Goals as goal

pub returns-in_err-reserve-clause-refused : goal.returns-in_err-reserve-clause-refused
returns-in_err-reserve-clause-refused c = on_err c.from_residual.result _ (room_made c.args.self.now _ c.args.self.now.changes c.reserve.ensures.items refl)

pub returns-in_err-reserve-2-clause-refused : goal.returns-in_err-reserve-2-clause-refused
returns-in_err-reserve-2-clause-refused c = on_err c.from_residual-in_err-reserve-2.result _ (room_made c.args.self.now _ _ c.reserve.ensures.items c.reserve-2.ensures.items)

pub returns-in_err-list_added-clause-refused : goal.returns-in_err-list_added-clause-refused
returns-in_err-list_added-clause-refused c = on_err c.from_residual-in_err-list_added.result _ (
    first_refused c.args.self.now _ _ c.reserve.ensures.items c.reserve-2.ensures.items c.list_added.new.first c.list_added.ensures.same c.list_added.ensures.kept)

pub returns-in_err-put-clause-refused : goal.returns-in_err-put-clause-refused
returns-in_err-put-clause-refused c =
    let old = c.args.self.now in
    on_err c.from_residual-in_err-put.result _ (
    subst (λ (o : List (ℕ × Opened)). IsAsBefore old (record old { openings = o; adds = c.reserve.new.self; first = c.list_added.new.first; changes = c.reserve-2.new.self })) (sym c.in_err-put.ensures.err)
    (first_refused old c.reserve.new.self c.reserve-2.new.self c.reserve.ensures.items c.reserve-2.ensures.items c.list_added.new.first c.list_added.ensures.same c.list_added.ensures.kept))

pub returns-clause-goes_on : goal.returns-clause-goes_on
returns-clause-goes_on c = λ h event may process is all.
    let old = c.args.self.now in
    let at = c.len-at.result in
    let pushed = c.push_reserved.ensures.items ∙ ap (λ (l : List (Option Item)). l ++ c.added_by.result ∷ []) c.reserve.ensures.items in
    let change = c.push_reserved-2.ensures.items ∙ ap (λ (l : List Change). l ++ Invoked c.args.process c.args.call c.get-before.result ∷ []) c.reserve-2.ensures.items in
    let place : at ≡ length old.adds.items = omega (arith, c.len-at.ensures, old.adds.ok.0) in
    elim (add_cases c.args.call) [
      | inl adds_it ↦
          let listing = c.in_ok-list_added.ensures.listed adds_it.0 adds_it.1 in
          invoked_add old h event may all adds_it.0 (is ∙ ap Invoke adds_it.1) c.put.new.self c.push_reserved.new.self c.note_added.new.first c.args.process at process place
          (subst (IsOpened old.openings c.put.new.self c.args.process at) adds_it.1 c.in_ok-put.ensures.ok)
          (pushed ∙ ap (λ (o : Option Item). old.adds.items ++ o ∷ []) (c.added_by.ensures.add adds_it.0 adds_it.1))
          (noted_over old.first c.list_added.new.first c.note_added.new.first adds_it.0 at listing (c.list_added.ensures.same adds_it.0) (c.note_added.ensures.add adds_it.0 adds_it.1 listing.listed))
          c.push_reserved-2.new.self c.get-before.result c.get-before.ensures
          (subst (λ call. c.push_reserved-2.new.self.items ≡ old.changes.items ++ Invoked c.args.process call c.get-before.result ∷ []) adds_it.1 change)
      | inr none ↦
          subst (λ (f : List (Item × Option ℕ)). AreAll (record old { openings = c.put.new.self; adds = c.push_reserved.new.self; first = f; changes = c.push_reserved-2.new.self }) (h ++ event ∷ []))
          (sym (c.note_added.ensures.other none ∙ c.list_added.ensures.other none))
          (invoked_other old h event may all c.args.call is none c.put.new.self c.push_reserved.new.self c.args.process at process place c.in_ok-put.ensures.ok
          (pushed ∙ ap (λ (o : Option Item). old.adds.items ++ o ∷ []) (c.added_by.ensures.other none)) c.push_reserved-2.new.self c.get-before.result c.get-before.ensures change)
    ]

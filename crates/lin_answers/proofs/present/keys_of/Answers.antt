use Rattle.std.proofs.Common.{◌≡◌, ◌∙◌, ◌+◌, ◌++◌, ◌∷◌, [], ap, sym, subst, take, Contains}
use Rattle.std.proofs.lemmas.List.{take_all, take_more}
use Rattle.lin_events.specs.Sameness.{item_same}
use Rattle.lin_answers.proofs.Keys.{AreKeysIn, AreKeysIn-inserted, AreKeysIn-passed}
use Rattle.lin_lists.specs.lemmas.Taken.{Contains-slice_get}
use Rattle.lin_answers.proofs.present.keys_of.Goals as goal
use Rattle.lin_answers.proofs.present.keys_of.Goals.{in-Some, in_default+in_ok-insert-in_default}

pub loop-event-preserved : goal.loop-event-preserved
loop-event-preserved c =
    let i = c.loop-event.event-index in
    let h = c.args.events.now in
    let keys = c.loop-event.keys.keys in
    let event = c.event-item.result in
    let next : take (i + 1) h ≡ take i h ++ event ∷ [] = take_more h i event c.loop-event-test.true ∙ ap (λ e. take i h ++ e ∷ []) (sym c.event-item.is) in
    elim c.match-last.branch [
      | in-Some w ↦
          let last = w.in-Some.last.now in
          let same : last ≡ event.key = item_same last event.key (sym w.eq.ensures ∙ w.if-eq.true) in
          let listed : Contains keys event.key = subst (Contains keys) same (Contains-slice_get _ _ last (sym w.in-Some.ensures.key)) in
          rw next (rw w.keys-is (AreKeysIn-passed (take i h) keys event listed c.loop-event.invariant))
      | in_default+in_ok-insert-in_default w ↦
          let inserted = w.in_ok-insert-in_default.ensures.keys in
          rw next (rw w.keys-is (rw inserted (AreKeysIn-inserted (take i h) keys event c.loop-event.invariant)))
    ]

pub returns : goal.returns
returns c =
    subst (AreKeysIn c.args.events.now) (sym (c.in_ok-from_slice.ensures.items ∙ c.as_slice.ensures.keys))
    (subst (λ h. AreKeysIn h c.loop-event.keys.keys) (take_all c.loop-event.event-index c.args.events.now c.loop-event-test.false) c.loop-event.invariant)

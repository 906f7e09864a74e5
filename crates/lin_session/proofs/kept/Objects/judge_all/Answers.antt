use Rattle.std.proofs.Common.{◌≡◌, ◌<◌, inl, inr, ◌+◌, ℕ, pos, Contains, Some, length, slice_get, get_or, take, refl, sym, ap, subst, ◌∙◌, arith}
use Rattle.std.proofs.lemmas.Bool.{cases_order}
use Rattle.std.proofs.lemmas.List.{take_all}
use Rattle.std.proofs.lemmas.List.Sums.{sum_by-take-le}
use Rattle.std.proofs.lemmas.Option.{same_Some, slice_get-get_or, slice_get_within}
use Rattle.lin_events.specs.declared.items.Item.{Item}
use Rattle.lin_events.specs.declared.items.Item.TheVariants.{Int}
use Rattle.lin_answers.specs.declared.answers.Scope.TheVariants as scope
use Rattle.lin_session.specs.inner.Judgements.{AreFound}
use Rattle.lin_session.specs.inner.Objects.{marks_in}
use Rattle.lin_session.specs.Marks.{AreCarriedOn, IsKnown, IsNothingDue, IsToldOf}
use Rattle.lin_session.specs.Leaving.{least}
use Rattle.lin_session.proofs.Carrying.{AreCarriedOn-then, IsSpentAtMostIn-all, IsSpentAtMostIn-then, IsSpentIn-all, IsSpentIn-most, IsSpentIn-then, known_stays, no_stays, told_stays, undecided_stays}
use Rattle.lin_session.proofs.Due.{due_at, due_listed, exact_next}
use Rattle.lin_session.proofs.Found.{not_ok}
use Rattle.lin_session.proofs.Knowing.{asked_listed, by_alive, by_dead, by_over, known_by, listed_is_known, never_over, unlisted_alive}
use Rattle.lin_session.proofs.Listed.{is_listed}
use Rattle.lin_lists.specs.lemmas.Taken.{one_place}
use Rattle.lin_session.proofs.Wholes.{AreFound-next, least_is, least_none}
use Rattle.lin_session.proofs.kept.Objects.judge_all.Goals as goal
use Rattle.lin_session.proofs.kept.Objects.judge_all.Goals.{After-judge_listed, In-loop-i}

pub judge_listed-requires-clause-right : goal.judge_listed-requires-clause-right
judge_listed-requires-clause-right c = let r = c.requires.right in (r.0, c.loop-i.invariant.right r.0 r.1, r.2)

pub returns-in_err-found-clause-right : goal.returns-in_err-found-clause-right
returns-in_err-found-clause-right c = λ kinds kept. c.judge_listed.ensures.right kinds (c.loop-i.invariant.right kinds kept)

-- the key that is listed there
key_there : (c : In-loop-i) → (key : Item) × (slice_get c.args.self.now.keys.keys c.loop-i.i ≡ Some key) × (slice_get c.loop-i.self.keys.keys c.loop-i.i ≡ Some key)
key_there c =
    let i = c.loop-i.i in
    let keys = c.args.self.now.keys.keys in
    let within : i < length keys = omega (arith, c.loop-i-test.true, c.len-i-end.ensures, c.args.self.now.objects.ok.0, c.args.self.now.aligned) in
    let key : Item = get_or keys i (Int (pos 0)) in
    let key_at : slice_get keys i ≡ Some key = slice_get-get_or keys i (Int (pos 0)) within in
    (key, key_at, subst (λ k. slice_get k.keys i ≡ Some key) (sym c.loop-i.invariant.keys) key_at)

-- what judging it left
step : (c : After-judge_listed) (key : Item) → slice_get c.loop-i.self.keys.keys c.loop-i.i ≡ Some key → AreCarriedOn c.args.events.now scope.Whole (marks_in c.args.self.now) (marks_in c.judge_listed.new.self)
step c key key_at =
    AreCarriedOn-then c.args.events.now scope.Whole (scope.Object key) (marks_in c.args.self.now) (marks_in c.loop-i.self) (marks_in c.judge_listed.new.self) (λ x asked. (tt, asked.1)) c.loop-i.invariant.carried (c.judge_listed.ensures.carried key key_at)

-- where nothing has to be found, it was known of it
was_known : (c : In-loop-i) → IsNothingDue c.args.events.now scope.Whole (marks_in c.args.self.now) → IsKnown c.args.events.now (marks_in c.loop-i.self) (key_there c).0
was_known c nothing =
    let k = key_there c in
    known_stays c.args.events.now scope.Whole (marks_in c.args.self.now) (marks_in c.loop-i.self) c.loop-i.invariant.carried k.0
    (listed_is_known c.requires.right.0 c.args.budget c.args.events.now c.args.self.now c.requires.right.1 scope.Whole nothing c.loop-i.i k.0 tt k.1)

pub loop-i-preserved : goal.loop-i-preserved
loop-i-preserved c =
    let at = goal.at.loop-i-preserved c in
    let inv = c.loop-i.invariant in
    let e = c.judge_listed.ensures in
    let i = c.loop-i.i in
    let h = c.args.events.now in
    let keys = c.args.self.now.keys.keys in
    let k = key_there at.In-loop-i in
    let f = c.loop-i.failing in
    let o = c.loop-i.over in
    let old = marks_in c.args.self.now in
    let mid = marks_in c.loop-i.self in
    let new = marks_in c.judge_listed.new.self in
    let carried = e.carried k.0 k.2 in
    let by = c.in_ok-found.ensures.told k.0 k.2 in
    let each : (P : Item → Type 0) → ((j : ℕ) (key : Item) → j < i → slice_get keys j ≡ Some key → P key) → P k.0 → (j : ℕ) (key : Item) → j < i + 1 → slice_get keys j ≡ Some key → P key =
    λ P before here j key below key_at. elim (cases_order j i) [
      | inl same ↦ subst P (same_Some k.0 key (sym k.1 ∙ ap (slice_get keys) (sym same) ∙ key_at)) here
      | inr rest ↦ elim rest [ inl ahead ↦ before j key ahead key_at | inr behind ↦ absurd (omega (arith, behind, below)) ]
    ] in
    record {
      keys = e.keys ∙ inv.keys;
      scans = e.scans ∙ inv.scans;
      split = e.split ∙ inv.split;
      right = λ kinds kept. e.right kinds (inv.right kinds kept);
      found = λ kinds kept fine.
          let finding = c.in_ok-found.ensures.found kinds k.0 k.2 (inv.right kinds kept) fine in
          AreFound-next kinds c.args.budget h keys i f o c.in_ok-found.found.0 c.in_ok-found.found.1 c.least_of-failing.result c.least_of-over.result k.0 k.1
          (inv.found kinds kept fine) finding c.least_of-failing.ensures c.least_of-over.ensures;
      carried = step at.After-judge_listed k.0 k.2;
      spent = IsSpentIn-then h old mid new _ _ _ inv.carried.stopped carried.stopped inv.spent (IsSpentIn-all h k.0 mid new carried _ _ (c.in_ok-found.ensures.spent k.0 k.2));
      known = each (IsKnown h new) (λ j key below key_at. known_stays h (scope.Object k.0) mid new carried key (inv.known j key below key_at)) (known_by h new k.0 c.in_ok-found.found.0 c.in_ok-found.found.1 by);
      alive = λ none_failing none_over.
          let a = least_none f c.in_ok-found.found.0 (sym c.least_of-failing.ensures ∙ none_failing) in
          let b = least_none o c.in_ok-found.found.1 (sym c.least_of-over.ensures ∙ none_over) in
          each (λ key. IsToldOf h new key _) (λ j key below key_at. told_stays h (scope.Object k.0) mid new carried key _ (inv.alive a.0 b.0 j key below key_at)) (by_alive h new k.0 c.in_ok-found.found.0 c.in_ok-found.found.1 by a.1 b.1);
      dead = λ n is. elim (least_is f c.in_ok-found.found.0 n (sym c.least_of-failing.ensures ∙ is)) [
        | inl before ↦ no_stays h (scope.Object k.0) mid new carried scope.Whole n (inv.dead n before)
        | inr latest ↦ by_dead h new k.0 c.in_ok-found.found.0 c.in_ok-found.found.1 by n latest
      ];
      over = λ at is. elim (least_is o c.in_ok-found.found.1 at (sym c.least_of-over.ensures ∙ is)) [
        | inl before ↦ undecided_stays h (scope.Object k.0) mid new carried scope.Whole at (inv.over at before)
        | inr latest ↦ by_over h new k.0 c.in_ok-found.found.0 c.in_ok-found.found.1 by at latest
      ];
      decided = λ kinds kept exact many.
          c.least_of-over.ensures ∙ ap (λ x. least x c.in_ok-found.found.1) (inv.decided kinds kept exact many)
          ∙ never_over h new k.0 c.in_ok-found.found.0 c.in_ok-found.found.1 by (λ some. c.in_ok-found.ensures.decided kinds k.0 k.2 (inv.right kinds kept) (exact k.0 (tt, some)) many);
      behind = λ j key ahead key_at.
          carried.others key (λ asked. let place = one_place keys c.requires.right.1.distinct j i key key_at (k.1 ∙ ap Some (sym asked.0)) in omega (arith, place, ahead)) ∙ inv.behind j key (omega (arith, ahead)) key_at;
      exact = λ kinds kept exact many.
          exact_next h old mid keys i k.0 k.1 c.args.meter.now.steps c.loop-i.meter.steps c.judge_listed.new.meter.steps (inv.behind i k.0 (omega arith) k.1) (inv.exact kinds kept exact many) (e.exact kinds k.0 k.2 (inv.right kinds kept) (λ x asked. exact x (tt, asked.1)) many);
      rests = λ nothing. (e.rests k.0 k.2 (was_known at.In-loop-i nothing)).1 ∙ inv.rests nothing;
    }

pub returns-clause-found : goal.returns-clause-found
returns-clause-found c = λ kinds kept fine.
    let keys = c.args.self.now.keys.keys in
    let all : take c.loop-i.i keys ≡ keys = take_all c.loop-i.i keys (omega (arith, c.loop-i-test.false, c.len-i-end.ensures, c.args.self.now.objects.ok.0, c.args.self.now.aligned)) in
    subst (λ k. AreFound kinds c.args.budget c.args.events.now k c.loop-i.failing c.loop-i.over) all (c.loop-i.invariant.found kinds kept fine)

pub returns-clause-alive : goal.returns-clause-alive
returns-clause-alive c = λ none_failing none_over key whole.
    let keys = c.loop-i.invariant.keys in
    elim (is_listed c.args.self.now.keys.keys key) [
      | inl place ↦
          let within = slice_get_within c.args.self.now.keys.keys place.0 key place.1 in
          c.loop-i.invariant.alive none_failing none_over place.0 key (omega (arith, within, c.loop-i-test.false, c.len-i-end.ensures, c.args.self.now.objects.ok.0, c.args.self.now.aligned)) place.1
      | inr absent ↦
          unlisted_alive c.requires.right.0 c.args.budget c.args.events.now c.loop-i.self (c.loop-i.invariant.right c.requires.right.0 c.requires.right.1) (c.loop-i.invariant.split ∙ c.requires.split) key
          (λ there. absent (subst (λ k. Contains k.keys key) keys there))
    ]

pub returns-clause-known : goal.returns-clause-known
returns-clause-known c = λ key asked.
    let place = asked_listed c.requires.right.0 c.args.budget c.args.events.now c.args.self.now c.requires.right.1 c.requires.split scope.Whole key asked in
    let within = slice_get_within c.args.self.now.keys.keys place.0 key place.1 in
    c.loop-i.invariant.known place.0 key (omega (arith, within, c.loop-i-test.false, c.len-i-end.ensures, c.args.self.now.objects.ok.0, c.args.self.now.aligned)) place.1

pub returns-clause-scans : goal.returns-clause-scans
returns-clause-scans c = c.loop-i.invariant.scans

pub returns-in_err-found-clause-scans : goal.returns-in_err-found-clause-scans
returns-in_err-found-clause-scans c = c.judge_listed.ensures.scans ∙ c.loop-i.invariant.scans

pub returns-clause-carried : goal.returns-clause-carried
returns-clause-carried c = c.loop-i.invariant.carried

pub returns-in_err-found-clause-carried : goal.returns-in_err-found-clause-carried
returns-in_err-found-clause-carried c =
    let at = goal.at.returns-in_err-found-clause-carried c in
    let k = key_there at.In-loop-i in
    step at.After-judge_listed k.0 k.2

pub returns-clause-most : goal.returns-clause-most
returns-clause-most c = IsSpentIn-most c.args.events.now scope.Whole (marks_in c.args.self.now) (marks_in c.loop-i.self) _ _ c.loop-i.invariant.spent

pub returns-in_err-found-clause-most : goal.returns-in_err-found-clause-most
returns-in_err-found-clause-most c =
    let k = key_there (goal.at.returns-in_err-found-clause-most c).In-loop-i in
    let h = c.args.events.now in
    let mid = marks_in c.loop-i.self in
    let new = marks_in c.judge_listed.new.self in
    let carried = c.judge_listed.ensures.carried k.0 k.2 in
    IsSpentAtMostIn-then h (marks_in c.args.self.now) mid new _ _ _ c.loop-i.invariant.carried.stopped carried.stopped c.loop-i.invariant.spent
    (IsSpentAtMostIn-all h k.0 mid new carried _ _ (c.judge_listed.ensures.most k.0 k.2))

pub returns-clause-rests : goal.returns-clause-rests
returns-clause-rests c = λ nothing. (refl, c.loop-i.invariant.rests nothing)

pub returns-in_err-found-clause-rests : goal.returns-in_err-found-clause-rests
returns-in_err-found-clause-rests c = λ nothing.
    let at = goal.at.returns-in_err-found-clause-rests c in
    let k = key_there at.In-loop-i in
    absurd (not_ok c.judge_listed.result c.in_err-found.field-0.0 c.in_err-found.was (c.judge_listed.ensures.rests k.0 k.2 (was_known at.In-loop-i nothing)).0)

pub returns-clause-exact : goal.returns-clause-exact
returns-clause-exact c = λ kinds kept exact many.
    let h = c.args.events.now in
    let old = marks_in c.args.self.now in
    let keys = c.args.self.now.keys.keys in
    let all = due_listed h old keys (one_place keys c.requires.right.1.distinct) in
    let first = sum_by-take-le (due_at h old) keys c.loop-i.i in
    omega (arith, c.loop-i.invariant.exact kinds kept exact many, first, all)

pub returns-in_err-found-clause-exact : goal.returns-in_err-found-clause-exact
returns-in_err-found-clause-exact c = λ kinds kept exact many.
    let k = key_there (goal.at.returns-in_err-found-clause-exact c).In-loop-i in
    let i = c.loop-i.i in
    let inv = c.loop-i.invariant in
    let h = c.args.events.now in
    let old = marks_in c.args.self.now in
    let keys = c.args.self.now.keys.keys in
    let more = exact_next h old (marks_in c.loop-i.self) keys i k.0 k.1 c.args.meter.now.steps c.loop-i.meter.steps c.judge_listed.new.meter.steps (inv.behind i k.0 (omega arith) k.1) (inv.exact kinds kept exact many)
    (c.judge_listed.ensures.exact kinds k.0 k.2 (inv.right kinds kept) (λ x asked. exact x (tt, asked.1)) many) in
    let all = due_listed h old keys (one_place keys c.requires.right.1.distinct) in
    let first = sum_by-take-le (due_at h old) keys (i + 1) in
    omega (arith, more, first, all)

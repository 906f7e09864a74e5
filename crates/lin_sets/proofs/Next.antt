-- The next event of well-formed ones.
use Rattle.std.proofs.Common.{◌≡◌, ◌+◌, ◌∷◌, ◌++◌, [], List, take, length, length-append, sym, ap, subst, ◌∙◌, arith, add-one}
use Rattle.lin_events.specs.declared.events.Event.{Event}
use Rattle.lin_events.specs.Alternation.{IsAlternating}
use Rattle.lin_events.specs.lemmas.Alternating.{alternates, beginning_is_well_formed}
use Rattle.lin_lists.specs.lemmas.Lists.{get_taken, take_next}
use Rattle.lin_lists.specs.lemmas.Taken.{element_at}
use Rattle.lin_sets.specs.declared.intervals.Intervals.{Intervals}
use Rattle.lin_sets.specs.Intervals.{AreAll, AreIntervalsOf, IsNextOf, reached_in}
use Rattle.lin_sets.specs.Steps.{MayFollow}

module _ (old : Intervals) (h : List Event) (event : Event) (next : IsNextOf old h event) where
  -- the beginning with the event
  pub with_next : take (reached_in old + 1) h ≡ take (reached_in old) h ++ event ∷ []
  with_next = ap (λ n. take n h) (add-one (reached_in old)) ∙ take_next (reached_in old) h event next.stands

  pub may_follow : MayFollow (take (reached_in old) h) event
  may_follow =
      let functions = next.well_formed.0 in
      (functions, subst (IsAlternating functions) with_next (alternates functions (take (reached_in old + 1) h) (beginning_is_well_formed functions h (reached_in old + 1) next.well_formed.1)))

  pub next_told : (new : Intervals) → AreAll new (take (reached_in old) h ++ event ∷ []) → AreIntervalsOf new h × (reached_in new ≡ reached_in old + 1)
  next_told new all =
      let one : reached_in new ≡ reached_in old + 1 = all.adds.counted ∙ length-append (take (reached_in old) h) (event ∷ []) ∙ ap (λ n. n + 1) (sym next.told.adds.counted) in
      (subst (AreAll new) (sym with_next ∙ ap (λ n. take n h) (sym one)) all, one)

-- one event fewer
pub fewer_told : (old new : Intervals) (h : List Event) → AreIntervalsOf old h → ((g : List Event) (event : Event) → AreAll old (g ++ event ∷ []) → AreAll new g) → reached_in new + 1 ≡ reached_in old → AreIntervalsOf new h
fewer_told old new h told back fewer =
    let all : length (take (reached_in old) h) ≡ reached_in old = sym told.adds.counted in
    let there = element_at (take (reached_in old) h) (reached_in new) (omega (arith, all, fewer)) in
    let stands = (get_taken (reached_in old) h (reached_in new) there.0 there.1).1 in
    let split : take (reached_in old) h ≡ take (reached_in new) h ++ there.0 ∷ [] = ap (λ n. take n h) (sym fewer ∙ add-one (reached_in new)) ∙ take_next (reached_in new) h there.0 stands in
    back (take (reached_in new) h) there.0 (subst (AreAll old) split told)

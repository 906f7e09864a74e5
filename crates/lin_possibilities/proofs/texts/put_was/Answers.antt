use Rattle.std.proofs.Common.{◌≡◌, ℕ, Bool, List, None, ◌++◌, MatchOption, map, ap, sym, subst, ◌∙◌}
use Rattle.lin_events.specs.declared.items.Item.{Item}
use Rattle.lin_events.specs.declared.calls.Name.{Name}
use Rattle.lin_events.specs.declared.events.Event.{Event}
use Rattle.lin_events.specs.WellFormed.{IsWellFormed}
use Rattle.lin_objects.specs.declared.states.State.{State}
use Rattle.lin_possibilities.specs.After.{IsAfter, IsWay}
use Rattle.lin_possibilities.specs.Possible.{LeavesIn}
use Rattle.lin_tables.specs.Values.{state_text}
use Rattle.lin_possibilities.specs.Outcomes.{AreStates}
use Rattle.lin_possibilities.specs.Ranks.{state_rank}
use Rattle.lin_possibilities.specs.Texts.{was_text}
use Rattle.lin_possibilities.specs.inner.OutcomesTelling.{words_in}
use Rattle.lin_possibilities.specs.declared.possibilities.Possibility.{Possibility}
use Rattle.lin_possibilities.specs.declared.possibilities.Possibility.TheVariants.{State as AState}
use Rattle.lin_possibilities.specs.declared.told.Told.{Told}
use Rattle.lin_possibilities.specs.declared.words.Extent.TheVariants.{Short}
use Rattle.lin_possibilities.proofs.OutcomesTelling.{all_are, all_told, all_words}
use Rattle.lin_possibilities.proofs.texts.put_was.Goals as goal

pub returns : goal.returns
returns c =
    let names = c.args.names.now in
    let old = c.args.text.now.items in
    let new = c.put_being_one.new.text.items in
    let kind = c.args.kind in
    let p = c.in-Some.possible.now in
    let told = c.in_ok-states.states.items in
    subst (λ o. MatchOption o (new ≡ old) (λ p. (functions : Item → Name → Bool) (h : List Event) → IsWellFormed functions h → IsAfter p.now kind h
    → (states : List State) × AreStates names kind h states × (new ≡ old ++ was_text kind (map (state_text names) states)))) (sym c.in-Some.is)
    (λ functions h well after.
    let are = c.in_ok-states.ensures functions kind h well after in
    let shows = LeavesIn kind h in
    let told_words : Possibility → List ℕ = words_in Short names None in (
      all_told names shows (IsWay p) (state_rank names) AState told are,
      all_are names shows (IsWay p) (state_rank names) AState told are,
      c.in_ok-put_being_one.ensures ∙ ap (λ ts. old ++ was_text kind (map (λ (t : Told). told_words t.what) ts)) c.as_slice.ensures.value
          ∙ ap (λ ws. old ++ was_text kind ws) (sym (all_words names shows (IsWay p) (state_rank names) AState told are told_words)),
    ))

use Rattle.std.proofs.Common.{ℕ, List, Some, None, map, ap, sym, subst, ◌∙◌}
use Rattle.std.specs.Prelude.{Option}
use Rattle.lin_events.specs.declared.items.Item.{Item}
use Rattle.lin_possibilities.specs.After.{IsWay}
use Rattle.lin_possibilities.specs.Possible.{Answers, LeavesIn}
use Rattle.lin_possibilities.specs.Outcomes.{Failing, failing_of, most_of}
use Rattle.lin_possibilities.specs.Ranks.{members_in, reply_rank, state_rank}
use Rattle.lin_possibilities.specs.inner.OutcomesTelling.{AreListed, AreTold, words_in}
use Rattle.lin_possibilities.specs.declared.listing.Leading.{Leading}
use Rattle.lin_possibilities.specs.declared.possibilities.Possibility.{Possibility}
use Rattle.lin_possibilities.specs.declared.possibilities.Possibility.TheVariants.{Reply as AReply, State as AState}
use Rattle.lin_possibilities.specs.declared.told.Told.{Told}
use Rattle.lin_possibilities.specs.declared.words.Extent.TheVariants.{Short}
use Rattle.lin_possibilities.proofs.OutcomesTelling.{all_are, all_told, all_words, listing_from}
use Rattle.lin_possibilities.proofs.outcomes.outcomes_of.Goals as goal

pub returns : goal.returns
returns c =
    let names = c.args.before.now.names.now in
    let f : Failing = failing_of c.args.before.now in
    let way = IsWay c.args.possible.now in
    let functions = c.requires.well_formed.0 in
    let members : Option (List Item) = members_in f.recorded in
    let right = Answers f.kind f.events f.process in
    let left = LeavesIn f.kind f.events in
    let rank = reply_rank names members in
    let of_state = state_rank names in
    let replies = c.in_ok-replies.replies.items in
    let states = c.in_ok-states.states.items in
    let are_replies : AreTold names right way rank AReply replies = c.in_ok-replies.ensures functions f.kind f.events c.requires.well_formed.1 c.requires.after c.requires.running in
    let are_states : AreTold names left way of_state AState states = c.in_ok-states.ensures functions f.kind f.events c.requires.well_formed.1 c.requires.after in
    let ahead : Leading = record { names = c.args.before.now.names; events = c.args.before.now.events; possible = c.args.possible; recorded = c.args.before.now.recorded; call = Some f.call } in
    let last : Leading = record { names = c.args.before.now.names; events = c.args.before.now.events; possible = c.args.possible; recorded = c.args.before.now.recorded; call = None } in
    let told_words : Possibility → List ℕ = words_in Short names members in
    let of_replies = all_words names right way rank AReply replies are_replies told_words in
    let of_states = all_words names left way of_state AState states are_states told_words in
    let told_by = λ (ts : List Told). map (λ (t : Told). told_words t.what) ts in
    record {
      replies = all_told names right way rank AReply replies are_replies;
      states = all_told names left way of_state AState states are_states;
      are_replies = all_are names right way rank AReply replies are_replies;
      are_states = all_are names left way of_state AState states are_states;
      replies_listed = listing_from right rank AReply ahead replies are_replies (most_of f.recorded) c.in_ok-replies-2.replies
          (subst (λ n. AreListed ahead n replies c.in_ok-replies-2.replies) c.most_replies.ensures
          (subst (λ l. AreListed ahead c.most_replies.result l c.in_ok-replies-2.replies) c.as_slice-3.ensures.value c.in_ok-replies-2.ensures));
      states_listed = listing_from left of_state AState last states are_states 3 c.in_ok-states-2.states
          (subst (λ l. AreListed last 3 l c.in_ok-states-2.states) c.as_slice-4.ensures.value c.in_ok-states-2.ensures);
      just_that = (
        λ yes'. of_replies ∙ sym (ap told_by c.as_slice.ensures.value) ∙ c.in_ok-is_just_that.ensures.0 yes' ∙ ap told_by c.as_slice-2.ensures.value ∙ sym of_states,
        λ same. c.in_ok-is_just_that.ensures.1 (ap told_by c.as_slice.ensures.value ∙ sym of_replies ∙ same ∙ of_states ∙ sym (ap told_by c.as_slice-2.ensures.value)),
      );
    }

use Rattle.std.proofs.Common.{◌≡◌, ◌<◌, ◌≤◌, length, slice_get, Some, refl, sym, ap, ◌∙◌, subst, arith}
use Rattle.std.proofs.lemmas.Option.{slice_get_read, slice_get_within}
use Rattle.lin_events.specs.declared.events.Event.{Event}
use Rattle.lin_events.specs.Sameness.{Decides-item_eq}
use Rattle.lin_session.specs.Objects.{split_in}
use Rattle.lin_session.proofs.kept.Objects.pick_all.Goals as goal

pub returns-in_err-pick-clause-right : goal.returns-in_err-pick-clause-right
returns-in_err-pick-clause-right c = λ kinds budget kept. c.in_err-pick.ensures.same kinds budget c.args.events.now kept

pub loop-self-init : goal.loop-self-init
loop-self-init c =
    let events = c.args.events.now in
    let first = c.args.self.now.split in
    let (event, stands, of_key) = c.requires.next in
    let inside : first < length events = slice_get_within events first event stands in
    record {
      more = omega (arith, c.in_ok-pick.ensures.split);
      within = omega (arith, c.in_ok-pick.ensures.split, inside);
      keys = c.pick.ensures.keys;
      right = λ kinds budget kept. c.in_ok-pick.ensures.next kinds budget events event stands (c.requires.listed ∙ ap Some (sym of_key)) kept;
      marks = c.pick.ensures.marks;
    }

pub pick-requires-in-loop-self-clause-listed : goal.pick-requires-in-loop-self-clause-listed
pick-requires-in-loop-self-clause-listed c = subst (λ k. c.args.i < length k.keys) (sym c.loop-self.invariant.keys) (slice_get_within c.args.self.now.keys.keys c.args.i c.args.key c.requires.listed)

pub loop-self-preserved : goal.loop-self-preserved
loop-self-preserved c =
    let events = c.args.events.now in
    let now = c.loop-self.self in
    let event = c.index-events-self.result in
    let stands = slice_get_read events (length events) now.split event refl c.loop-self-test.true c.index-events-self.is in
    let of_key : event.key ≡ c.args.key = ap (λ (e : Event). e.key) c.index-events-self.is ∙ (Decides-item_eq _ c.args.key).0 (sym c.eq.ensures ∙ c.if-eq.true) in
    let listed = ap (λ k. slice_get k.keys c.args.i) c.loop-self.invariant.keys ∙ c.requires.listed ∙ ap Some (sym of_key) in
    record {
      more = omega (arith, c.in_ok-pick-2.ensures.split, c.loop-self.invariant.more);
      within = omega (arith, c.in_ok-pick-2.ensures.split, c.loop-self-test.true);
      keys = c.pick-in-loop-self.ensures.keys ∙ c.loop-self.invariant.keys;
      right = λ kinds budget kept. c.in_ok-pick-2.ensures.next kinds budget events event stands listed (c.loop-self.invariant.right kinds budget kept);
      marks = λ key. c.pick-in-loop-self.ensures.marks key ∙ c.loop-self.invariant.marks key;
    }

pub returns-in_err-pick-2-clause-right : goal.returns-in_err-pick-2-clause-right
returns-in_err-pick-2-clause-right c = λ kinds budget kept. c.in_err-pick-2.ensures.same kinds budget c.args.events.now (c.loop-self.invariant.right kinds budget kept)

use Rattle.std.proofs.Common.{◌≡◌, ℕ, refl}
use Rattle.std.proofs.lemmas.List.Elements.{All-contains}
use Rattle.lin_events.specs.declared.calls.Reply.{Reply}
use Rattle.lin_frontier.specs.lemmas.Each.{all_end}
use Rattle.lin_members.proofs.batches.round_in.Goals as goal

pub returns-clause-none : goal.returns-clause-none
returns-clause-none c = λ round inside.
    All-contains (λ (o : ℕ × (ℕ × Reply)). o.1 ≡ (c.args.process, c.args.reply.now) → ⊥) c.args.offers.now (round, (c.args.process, c.args.reply.now))
    (all_end (λ (o : ℕ × (ℕ × Reply)). o.1 ≡ (c.args.process, c.args.reply.now) → ⊥) c.args.offers.now c.loop-offer.offer-index c.loop-offer-test.false c.loop-offer.invariant) inside refl

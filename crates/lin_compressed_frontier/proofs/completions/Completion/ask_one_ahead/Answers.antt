use Rattle.std.proofs.Common.{◌+◌, length, refl, sym, inl, inr, arith, ◌∙◌, true≢false}
use Rattle.indexmap.proofs.MapLemmas.{OnOk-map}
use Rattle.lin_frontier.specs.lemmas.Counting.{tried_more, tried_up}
use Rattle.lin_compressed_frontier.proofs.completions.Completion.ask_one_ahead.Goals as goal

pub ask_ahead-requires-clause-gives : goal.ask_ahead-requires-clause-gives
ask_ahead-requires-clause-gives g c = (rw c.state.ensures at c.in_ok-gives.ensures.given).0 c.if-not-gives.false

pub returns-in_err-gives-clause-tried : goal.returns-in_err-gives-clause-tried
returns-in_err-gives-clause-tried g c = tried_up 1 (length c.args.self.now.pending.now + 1) _ _ (omega arith) c.gives.ensures.tried

pub returns-then-not-gives-clause-asked : goal.returns-then-not-gives-clause-asked
returns-then-not-gives-clause-asked g c =
    let given = rw c.state.ensures at c.in_ok-gives.ensures.given in
    inr (λ gives. true≢false (sym (given.1 gives) ∙ c.if-not-gives.true), refl, refl)

pub returns-then-not-gives-clause-tried : goal.returns-then-not-gives-clause-tried
returns-then-not-gives-clause-tried g c = tried_up 1 (length c.args.self.now.pending.now + 1) _ _ (omega arith) c.gives.ensures.tried

pub returns-clause-asked : goal.returns-clause-asked
returns-clause-asked g c = OnOk-map c.ask_ahead.result _ _ (λ made. inl made) c.ask_ahead.ensures.made

pub returns-clause-tried : goal.returns-clause-tried
returns-clause-tried g c = tried_more 1 (length c.args.self.now.pending.now) (length c.args.self.now.pending.now + 1) _ _ _ (omega arith) c.gives.ensures.tried c.ask_ahead.ensures.tried

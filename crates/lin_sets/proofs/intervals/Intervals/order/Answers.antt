use Rattle.std.proofs.Common.{take, sym, subst}
use Rattle.lin_sets.specs.Acts.{AreActs}
use Rattle.lin_order.specs.lemmas.Lists.{if_ok_weaker}
use Rattle.lin_sets.specs.Intervals.{reached_in}
use Rattle.lin_sets.proofs.Free.{no_conflict}
use Rattle.lin_sets.proofs.Acting.{acts_are}
use Rattle.lin_sets.proofs.intervals.Intervals.order.Goals as goal

pub returns : goal.returns
returns c = if_ok_weaker c.order_of_acts.result _ _ (λ order given h told.
    let s = c.args.self.now in
    let g = take (reached_in s) h in
    given g (subst (λ l. AreActs c.as_slice.result.now l g) (sym c.as_slice-2.ensures.value) (subst (λ l. AreActs l s.reads.items g) (sym c.as_slice.ensures.value) (acts_are s g told))) (no_conflict s g told)) c.order_of_acts.ensures

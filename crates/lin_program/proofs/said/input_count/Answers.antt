use Rattle.std.proofs.Common.{◌∙◌, ◌+◌, ℕ, Bool, List, Bor, count_by, codes, ap, sym, arith}
use Rattle.std.proofs.lemmas.List.{take_all}
use Rattle.std.proofs.lemmas.List.Sums.{count_by_more_no, count_by_more_yes}
use Rattle.std.specs.Str.{bytes_eq}
use Rattle.lin_program.proofs.LineOrders.{counted_behind}
use Rattle.lin_program.proofs.said.input_count.Goals.{then-eq, else-eq}
use Rattle.lin_program.proofs.said.input_count.Goals as goal

is_input : Bor (List ℕ) → Bool
is_input name = bytes_eq name.now (codes "-")

pub loop-name-preserved : goal.loop-name-preserved
unfolding is_input
loop-name-preserved c =
    let before = c.loop-name.invariant in
    elim c.if-eq.branch [
      | then-eq w ↦ record {
        counted = w.count-is ∙ ap (λ n. n + 1) before.counted ∙ sym (count_by_more_yes is_input c.args.names.now c.loop-name.name-index _ c.loop-name-test.true (sym c.eq.ensures ∙ w.if-eq.true));
        within = omega (arith, before.within, w.count-is);
      }
      | else-eq w ↦ record {
        counted = w.count-is ∙ before.counted ∙ sym (count_by_more_no is_input c.args.names.now c.loop-name.name-index _ c.loop-name-test.true (sym c.eq.ensures ∙ w.if-eq.false));
        within = omega (arith, before.within, w.count-is);
      }
    ]

pub returns-clause-count : goal.returns-clause-count
unfolding is_input
returns-clause-count c =
    c.loop-name.invariant.counted ∙ ap (count_by is_input) (take_all c.loop-name.name-index c.args.names.now c.loop-name-test.false) ∙ sym (counted_behind c.args.names.now)

pub returns-clause-fits : goal.returns-clause-fits
returns-clause-fits c = omega (arith, c.loop-name.invariant.within, c.loop-name.auto.name-index-end)

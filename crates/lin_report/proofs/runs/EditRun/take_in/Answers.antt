use Rattle.std.proofs.Common.{◌+◌, ◌-◌, ◌<◌, ◌++◌, ◌∷◌, [], length, take, drop, refl, ap, ◌∙◌, arith, append_assoc}
use Rattle.std.proofs.lemmas.List.{take-append-drop, take_all}
use Rattle.lin_texts.specs.declared.faults.RunFault.TheVariants.{OutOfMemory}
use Rattle.lin_report.proofs.CommandLines.{around_end, none_between, up_to, with_end}
use Rattle.lin_report.proofs.Refusals.{passed_on}
use Rattle.lin_report.proofs.UnderWay.{cut_holding, cut_within, held_more, line_done}
use Rattle.lin_report.proofs.runs.EditRun.take_in.Goals as goal

pub returns-in_err-hold-clause-cut : goal.returns-in_err-hold-clause-cut
returns-in_err-hold-clause-cut g c =
    passed_on c.from_residual.result OutOfMemory _ c.from_residual.ensures.1
    (λ start before behind bytes first.
    let piece = c.args.piece.now in
    let from = c.lines.from in
    let cut = cut_holding c.args.keyed start before c.lines.self _ _ behind (bytes ++ take from piece) (drop from piece) (c.lines.invariant.under_way start before bytes first) in
    let whole = append_assoc bytes (take from piece) (drop from piece) ∙ ap (λ t. bytes ++ t) (take-append-drop from piece) in
    rw whole at cut)

pub returns-then-end-piece-clause-done : goal.returns-then-end-piece-clause-done
returns-then-end-piece-clause-done g c = λ start before bytes first.
    let piece = c.args.piece.now in
    let from = c.lines.from in
    let end = c.end_of_part-end.result in
    let so_far = c.lines.invariant.under_way start before bytes first in
    let held = held_more c.args.keyed start before c.lines.self (record c.lines.self { held = c.hold.new.held }) _ _ (bytes ++ take from piece) (take (end - from) (drop from piece)) refl c.in_ok-hold.ensures
    (none_between piece from end c.end_of_part-end.ensures.later c.end_of_part-end.ensures.within c.end_of_part-end.ensures.inner) so_far in
    let joined = append_assoc bytes (take from piece) (take (end - from) (drop from piece)) ∙ ap (λ t. bytes ++ t) (up_to piece from end c.end_of_part-end.ensures.later ∙ take_all end piece (omega arith)) in
    rw joined at held

pub returns-in_err-carry_out-clause-cut : goal.returns-in_err-carry_out-clause-cut
returns-in_err-carry_out-clause-cut g c =
    passed_on c.from_residual-in_err-carry_out.result c.in_err-carry_out.field-0.0 _ c.from_residual-in_err-carry_out.ensures.1
    (λ start before behind bytes first.
    let piece = c.args.piece.now in
    let from = c.lines.from in
    let end = c.end_of_part-end.result in
    let inside : end < length piece = omega (arith, c.if-end-piece.false, c.end_of_part-end.ensures.within) in
    let so_far = c.lines.invariant.under_way start before bytes first in
    let held = held_more c.args.keyed start before c.lines.self (record c.lines.self { held = c.hold.new.held }) _ _ (bytes ++ take from piece) (take (end - from) (drop from piece)) refl c.in_ok-hold.ensures
    (none_between piece from end c.end_of_part-end.ensures.later c.end_of_part-end.ensures.within c.end_of_part-end.ensures.inner) so_far in
    let joined = append_assoc bytes (take from piece) (take (end - from) (drop from piece)) ∙ ap (λ t. bytes ++ t) (up_to piece from end c.end_of_part-end.ensures.later) in
    let under_way = rw joined at held in
    let cut = cut_within c.args.keyed start before _ _ _ _ _ _ behind (bytes ++ take end piece) (drop (end + 1) piece) under_way c.in_err-carry_out.field-0.0
    (c.in_err-carry_out.ensures.cut under_way.state under_way.rest under_way.stands under_way.holds) in
    let whole = append_assoc bytes (take end piece) (10 ∷ drop (end + 1) piece) ∙ ap (λ t. bytes ++ t) (around_end piece end inside (c.end_of_part-end.ensures.stops inside)) in
    rw whole at cut)

pub lines-preserved : goal.lines-preserved
lines-preserved g c =
    let piece = c.args.piece.now in
    let from = c.lines.from in
    let end = c.end_of_part-end.result in
    let inside : end < length piece = omega (arith, c.if-end-piece.false, c.end_of_part-end.ensures.within) in
    record {
      within = omega arith;
      under_way = λ start before bytes first.
          let so_far = c.lines.invariant.under_way start before bytes first in
          let held = held_more c.args.keyed start before c.lines.self (record c.lines.self { held = c.hold.new.held }) _ _ (bytes ++ take from piece) (take (end - from) (drop from piece)) refl c.in_ok-hold.ensures
          (none_between piece from end c.end_of_part-end.ensures.later c.end_of_part-end.ensures.within c.end_of_part-end.ensures.inner) so_far in
          let joined = append_assoc bytes (take from piece) (take (end - from) (drop from piece)) ∙ ap (λ t. bytes ++ t) (up_to piece from end c.end_of_part-end.ensures.later) in
          let under_way = rw joined at held in
          let done = line_done c.args.keyed start before _ _ _ _ _ _ (bytes ++ take end piece) under_way
          (c.in_ok-carry_out.ensures.done under_way.state under_way.rest under_way.stands under_way.holds) in
          let whole = append_assoc bytes (take end piece) (10 ∷ []) ∙ ap (λ t. bytes ++ t) (with_end piece end inside (c.end_of_part-end.ensures.stops inside)) in
          rw whole at done;
      reads = c.in_ok-carry_out.ensures.read_counts ∙ c.lines.invariant.reads;
      writes = c.in_ok-carry_out.ensures.write_counts ∙ c.lines.invariant.writes;
    }

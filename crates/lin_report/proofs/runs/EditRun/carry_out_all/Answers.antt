use Rattle.std.proofs.Common.{◌++◌, [], List, ℕ, take, inr, refl, ◌∙◌, arith}
use Rattle.std.proofs.lemmas.List.{length-take-le}
use Rattle.std.proofs.KnownBytes.{Consumes-kept, Consumes-nil, Consumes-trans}
use Rattle.lin_formats.specs.lemmas.Reading.{consumed_end, longer}
use Rattle.lin_report.proofs.UnderWay.{not_too_much, run_cut, run_ends, stopped, unread_further}
use Rattle.lin_report.proofs.runs.EditRun.carry_out_all.Goals as goal

pub pieces-init : goal.pieces-init
pieces-init g c = record {
  bytes = [];
  consumed = Consumes-nil _;
  under_way = c.requires.fresh _ _;
  passed = refl;
  within = omega arith;
  counted = omega arith;
  room = refl;
  file_reads = refl;
  command_reads = refl;
  writes = refl;
}

pub returns-in_default-clause-ran : goal.returns-in_default-clause-ran
returns-in_default-clause-ran g c =
    let v = c.pieces.invariant in
    let st = unread_further _ _ _ c.pieces.self _ _ (g.C.Read.remaining (c.read.new.self).inner) v.bytes v.under_way in
    ((v.bytes ++ [], Consumes-kept _ _ _ (v.bytes ++ []) (Consumes-trans _ _ _ v.bytes [] v.consumed (Consumes-nil _)) c.in_default.ensures.bytes, st.0, st.1, st.2), λ e. absurd (not_too_much e))

pub returns-then-count-eq0-clause-ran : goal.returns-then-count-eq0-clause-ran
returns-then-count-eq0-clause-ran g c =
    let v = c.pieces.invariant in
    let read = c.in-Ok.ensures.bytes in
    run_ends c.args.settings c.pieces.self _ _ _ _ _ _ _ _ v.bytes c.finish.result (consumed_end _ _ _ v.bytes c.read.new.buf c.in-Ok.count v.consumed read.0 c.if-count-eq0.true)
    (read.1 c.if-count-eq0.true (omega arith)) v.within v.under_way c.finish.ensures.done c.finish.ensures.cut

pub returns-then-count-passed-clause-ran : goal.returns-then-count-passed-clause-ran
returns-then-count-passed-clause-ran g c =
    let v = c.pieces.invariant in
    let piece : List ℕ = take c.in-Ok.count c.read.new.buf in
    let more = longer c.pieces.counter c.in-Ok.count v.bytes c.read.new.buf v.counted c.in-Ok.ensures.bound.0 (omega arith) in
    let consumed = Consumes-trans _ _ _ v.bytes _ v.consumed c.in-Ok.ensures.bytes.0 in
    let st = stopped _ _ _ c.pieces.self _ _ (g.C.Read.remaining (c.read.new.self).inner) v.bytes piece v.under_way in
    let size = length-take-le c.in-Ok.count c.read.new.buf c.in-Ok.ensures.bound.0 in
    ((v.bytes ++ piece, consumed, st.0, st.1, st.2), λ e. inr (v.bytes ++ piece, consumed, omega arith))

pub returns-in_err-take_in-clause-ran : goal.returns-in_err-take_in-clause-ran
returns-in_err-take_in-clause-ran g c =
    let v = c.pieces.invariant in
    let piece : List ℕ = take c.in-Ok.count c.read.new.buf in
    let consumed = Consumes-trans _ _ _ v.bytes _ v.consumed c.in-Ok.ensures.bytes.0 in
    run_cut c.args.settings _ _ _ _ _ _ (v.bytes ++ piece) c.from_residual.result c.in_err-take_in.field-0.0 c.from_residual.ensures.1 consumed
    (c.in_err-take_in.ensures.cut _ _ _ v.bytes v.under_way)

pub pieces-preserved : goal.pieces-preserved
pieces-preserved g c =
    let v = c.pieces.invariant in
    let piece : List ℕ = take c.in-Ok.count c.read.new.buf in
    let more = longer c.pieces.counter c.in-Ok.count v.bytes c.read.new.buf v.counted c.in-Ok.ensures.bound.0 (omega arith) in
    let size = length-take-le c.in-Ok.count c.read.new.buf c.in-Ok.ensures.bound.0 in
    record {
      bytes = v.bytes ++ piece;
      consumed = Consumes-trans _ _ _ v.bytes _ v.consumed c.in-Ok.ensures.bytes.0;
      under_way = c.in_ok-take_in.ensures.done _ _ v.bytes v.under_way;
      passed = omega arith;
      within = omega arith;
      counted = more.0;
      room = c.read.auto.buf ∙ v.room;
      file_reads = c.in_ok-take_in.ensures.read_counts ∙ v.file_reads;
      command_reads = c.in-Ok.ensures.counts ∙ v.command_reads;
      writes = c.in_ok-take_in.ensures.write_counts ∙ v.writes;
    }

use Rattle.std.proofs.Common.{◌≡◌, ◌≤◌, ◌+◌, ℕ, Bool, false, List, All, count_by, take, ap, sym, ◌∙◌, arith}
use Rattle.std.proofs.lemmas.List.{take_all}
use Rattle.std.proofs.lemmas.List.Elements.{All-more}
use Rattle.std.proofs.lemmas.List.Sums.{count_by_more_no, count_by_more_yes}
use Rattle.lin_frontier.specs.declared.pending.Open.{Open}
use Rattle.lin_frontier.specs.lemmas.Each.{all_end}
use Rattle.lin_compressed_frontier.proofs.completions.Completion.count_hindering.Goals.{then-is_hindered, else-is_hindered}
use Rattle.lin_compressed_frontier.proofs.completions.Completion.count_hindering.Goals as goal

pub loop-other-preserved : goal.loop-other-preserved
loop-other-preserved g c =
    let same = c.as_slice-other-items.ensures in
    let inside = rw same at c.loop-other-test.true in
    let object = c.args.self.now.object.now in
    let pending = c.args.self.now.pending.now in
    let hinders = λ (o : Open). g.O.SeqObject.hindered object c.args.self.now.operation.now.call c.args.self.now.reply.now o.call in
    let quiet = All-more (λ (o : Open). g.O.SeqObject.observing object o.call ≡ false) pending c.loop-other.other-index _ inside c.loop-other.invariant.quiet
    (sym (rw same at c.observes-in-loop-other.ensures) ∙ c.if-observes-2.false) in
    let it = sym (rw same at c.is_hindered.ensures) in
    elim c.if-is_hindered.branch [
      | then-is_hindered w ↦ record {
        within = omega (arith, c.loop-other.invariant.within, w.many-is);
        quiet = quiet;
        counted = w.many-is ∙ ap (λ (n : ℕ). n + 1) c.loop-other.invariant.counted ∙ sym (count_by_more_yes hinders pending c.loop-other.other-index _ inside (it ∙ w.if-is_hindered.true));
      }
      | else-is_hindered w ↦ record {
        within = omega (arith, c.loop-other.invariant.within, w.many-is);
        quiet = quiet;
        counted = w.many-is ∙ c.loop-other.invariant.counted ∙ sym (count_by_more_no hinders pending c.loop-other.other-index _ inside (it ∙ w.if-is_hindered.false));
      }
    ]

pub returns : goal.returns
returns g c =
    let same = c.as_slice-other-items.ensures in
    let past = rw same at c.loop-other-test.false in
    let object = c.args.self.now.object.now in
    let pending = c.args.self.now.pending.now in
    record {
      update = sym c.observes.ensures ∙ c.if-observes.false;
      quiet = all_end (λ (o : Open). g.O.SeqObject.observing object o.call ≡ false) pending c.loop-other.other-index past c.loop-other.invariant.quiet;
      counted = c.loop-other.invariant.counted
          ∙ ap (λ (l : List Open). count_by (λ (o : Open). g.O.SeqObject.hindered object c.args.self.now.operation.now.call c.args.self.now.reply.now o.call) l) (take_all c.loop-other.other-index pending past);
    }

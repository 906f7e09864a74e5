use Rattle.std.proofs.Common.{◌≡◌, ℕ, List, max, length, length-append, [], ◌∷◌, get_or, ap, subst, ◌∙◌, arith}
use Rattle.std.proofs.lemmas.Option.{slice_get-get_or}
use Rattle.lin_events.specs.declared.items.Item.{Item}
use Rattle.lin_sets.specs.Points.{IsLatest}
use Rattle.lin_sets.proofs.Making.{point_next, reached_next}
use Rattle.lin_sets.proofs.points.reached_by.Goals as goal

pub loop-read-preserved : goal.loop-read-preserved
loop-read-preserved c =
    let first = c.args.first.now.entries in
    let reads = c.args.reads.now in
    let i = c.loop-read.read-index in
    let r : ℕ × List Item = get_or reads i c.read-item.result in
    let last = c.loop-read.last in
    let greater : c.max.result ≡ max last c.read-item.result.0 = c.max.ensures in
    let later : c.max.result ≡ max last r.0 = greater ∙ ap (λ (x : ℕ × List Item). max last x.0) c.read-item.is in
    let latest = subst (λ m. IsLatest first m r.1 c.latest-last.result) later (subst (λ l. IsLatest first c.max.result l c.latest-last.result) (c.as_slice.ensures.items ∙ ap (λ (x : ℕ × List Item). x.1) c.read-item.is) c.latest-last.ensures) in
    let next = point_next first reads i last c.latest-last.result r (slice_get-get_or reads i c.read-item.result c.loop-read-test.true) c.loop-read.invariant.last latest in
    record {
      many = let many = c.loop-read.invariant.many in let long = length-append c.loop-read.reached.items (c.latest-last.result ∷ []) in ap length c.in_ok-push-2.ensures.items ∙ omega (arith, many, long);
      each = reached_next first reads c.loop-read.reached.items c.push-in-loop-read.new.self.items i c.latest-last.result c.in_ok-push-2.ensures.items c.loop-read.invariant.many next c.loop-read.invariant.each;
      last = next;
    }

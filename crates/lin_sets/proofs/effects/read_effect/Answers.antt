use Rattle.std.proofs.Common.{◌≡◌, ◌+◌, ℕ, suc, List, ap, subst, ◌∙◌, arith}
use Rattle.std.proofs.lemmas.Option.{get_or_from_slice_get}
use Rattle.lin_events.specs.declared.items.Item.{Item}
use Rattle.lin_events.specs.declared.calls.Reply.TheVariants.{Members}
use Rattle.lin_sets.specs.Points.{IsPoint}
use Rattle.lin_sets.proofs.effects.read_effect.Goals as goal

pub returns : goal.returns
returns c = λ r got.
    let i : ℕ = c.args.i in
    let reads : List (ℕ × List Item) = c.args.reads.now in
    let same : c.index-reads-i.result ≡ r = c.index-reads-i.is ∙ get_or_from_slice_get reads i r c.index-reads-i.result got in
    let next : i + 1 ≡ suc i = omega arith in
    let here = c.point.ensures reads c.requires.points.reached in
    record {
      read = got;
      at = ap (λ (x : ℕ × List Item). x.0) same;
      reply = ap Members (c.in_ok-members.ensures ∙ ap (λ (x : ℕ × List Item). x.1) same);
      point = subst (λ k. IsPoint c.args.points.now.first.entries reads r.0 k c.point.result) next
          (subst (λ (x : ℕ × List Item). IsPoint c.args.points.now.first.entries reads x.0 (i + 1) c.point.result) same here);
      rank = omega arith;
    }

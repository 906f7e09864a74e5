use Rattle.std.proofs.Common.{rules, ◌≡◌, ◌∙◌, ap, length, take}
use Rattle.lin_compressed_frontier.specs.declared.within.Advance.TheVariants.{Next}
use Rattle.lin_frontier.specs.lemmas.Closing.{cut_back}
use Rattle.lin_compressed_frontier.proofs.Compressing.{cut_grown}
use Rattle.lin_compressed_frontier.proofs.Tries.{tried_few}
use Rattle.lin_compressed_frontier.proofs.compressed.Compressed.advance.Goals as goal

pub returns-in-Ok-Next-clause-next : goal.returns-in-Ok-Next-clause-next
returns-in-Ok-Next-clause-next g c next is =
    let same : c.in-Ok-Next.next ≡ next = cc in
    c.in-Ok-Next.ensures.next next (c.in-Ok-Next.field-0-is ∙ ap (λ x. Next x) same)

pub returns-in-Ok : goal.returns-in-Ok
returns-in-Ok g c = record {
  next = search rules;
  same = search rules;
  some = search rules;
  empty = c.in-Ok.ensures.empty;
  over = c.in-Ok.ensures.over;
  before = c.in-Ok.ensures.before;
  grown = cut_grown c.args.nodes.now c.step.new.nodes c.cut.new.self c.len-count.result c.cut.ensures c.len-count.ensures c.step.ensures.grown;
  kept = λ is. c.cut.ensures ∙ ap (λ k. take k c.step.new.nodes) c.len-count.ensures ∙ cut_back c.args.nodes.now c.step.new.nodes c.step.ensures.grown;
  refused = tt;
  steps = c.in-Ok.ensures.steps;
  tries = c.in-Ok.ensures.tries;
  searched = c.in-Ok.ensures.searched;
  within = λ few. tried_few c.args.meter.now c.step.new.meter c.args.budget (length c.args.self.now) (length c.args.arrival.now.pending.now) few c.step.ensures.tries;
  scans = c.in-Ok.ensures.scans;
}

pub returns-in-Ok-Next-clause-within : goal.returns-in-Ok-Next-clause-within
returns-in-Ok-Next-clause-within g c few = tried_few c.args.meter.now c.step.new.meter c.args.budget (length c.args.self.now) (length c.args.arrival.now.pending.now) few c.step.ensures.tries

pub returns-in-Err-clause-within : goal.returns-in-Err-clause-within
returns-in-Err-clause-within g c few = tried_few c.args.meter.now c.step.new.meter c.args.budget (length c.args.self.now) (length c.args.arrival.now.pending.now) few c.step.ensures.tries

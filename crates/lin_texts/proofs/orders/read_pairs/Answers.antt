use Rattle.lin_names.specs.lemmas.Begins.{begins_on}
use Rattle.lin_texts.proofs.Pairs.{pairs_more}
use Rattle.lin_texts.specs.Saying.{IsAsSaid}
use Rattle.std.proofs.Common.{subst}
use Rattle.lin_texts.specs.Orders.{pair_of, pair_written}
use Rattle.lin_texts.proofs.orders.read_pairs.Goals as goal

pub words-preserved : goal.words-preserved
words-preserved c = record {
  begun = begins_on _ _ _ c.words.invariant.begun c.in_ok-pair.ensures.begun;
  read = pairs_more c.words.names c.read_pair.new.names c.args.text.now c.words.from _ c.words.order.items c.push.new.self.items c.in-Some-2.pair
      c.in_ok-pair.ensures.begun c.words.invariant.read c.in-Some.ensures
      (subst (IsAsSaid pair_of c.read_pair.new.names (pair_written c.in-Some.word.text.now)) c.in-Some-2.is c.in_ok-pair.ensures.read)
      c.in_ok-push.ensures.items;
}

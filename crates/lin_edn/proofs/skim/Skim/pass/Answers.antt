use Rattle.std.proofs.Common.{◌<◌, ◌≤◌, ◌∷◌, [], length, take, get_or, refl, sym, subst, arith, ◌∙◌, true≢false}
use Rattle.std.proofs.lemmas.List.{take_more, take_all}
use Rattle.lin_edn.proofs.Skims.{nothing_gone, gone_twice, still_more, still_short}
use Rattle.lin_edn.proofs.Stops.{stopped_at}
use Rattle.lin_edn.specs.inner.Skimming.{HasGone}
use Rattle.lin_edn.proofs.skim.Skim.pass.Goals as goal

pub loop-at-init : goal.loop-at-init
loop-at-init c = (nothing_gone c.args.self.now, λ m. refl)

pub loop-at-preserved : goal.loop-at-preserved
loop-at-preserved c =
    let bytes = c.args.bytes.now in
    let at = c.loop-at.at in
    let inside : at < length bytes = omega arith in (
      subst (HasGone c.args.self.now c.take.new.self) (sym (take_more bytes at 0 inside))
          (gone_twice c.args.self.now c.loop-at.self c.take.new.self (take at bytes) (get_or bytes at 0 ∷ []) c.loop-at.invariant.0 (c.take.ensures.gone c.if-not-take.false)),
      λ m. (c.take.ensures.more (still_more c.args.self.now c.loop-at.self bytes at inside (c.loop-at.invariant.1 m) m)
          (still_short c.args.self.now c.loop-at.self bytes at inside c.loop-at.invariant.0 m)).1 ∙ c.loop-at.invariant.1 m,
    )

pub returns-then-not-take : goal.returns-then-not-take
returns-then-not-take c =
    let bytes = c.args.bytes.now in
    let at = c.loop-at.at in
    let inside : at < length bytes = omega arith in record {
      gone = λ e. absurd (true≢false (sym e));
      stopped = λ e. stopped_at c.args.self.now c.loop-at.self bytes at inside c.loop-at.invariant.0 (c.take.ensures.stopped c.if-not-take.true);
      more = λ m. absurd (true≢false (sym (c.take.ensures.more (still_more c.args.self.now c.loop-at.self bytes at inside (c.loop-at.invariant.1 m) m)
          (still_short c.args.self.now c.loop-at.self bytes at inside c.loop-at.invariant.0 m)).0 ∙ c.if-not-take.true));
    }

pub returns-clause-gone : goal.returns-clause-gone
returns-clause-gone c = λ e.
    let bytes = c.args.bytes.now in
    let past : length bytes ≤ c.loop-at.at = omega arith in
    subst (HasGone c.args.self.now c.loop-at.self) (take_all c.loop-at.at bytes past) c.loop-at.invariant.0

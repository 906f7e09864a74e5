use Rattle.std.proofs.Common.{◌≤◌, length, drop, sym, subst, arith}
use Rattle.lin_edn.specs.Grammar.{Element}
use Rattle.lin_history.proofs.Taking.{tagged_or_not}
use Rattle.lin_history.proofs.usual.next_small.Goals as goal

pub returns : goal.returns
returns c = λ names.
    let map = c.in_ok-places.ensures.map in
    let a : c.in_ok-places.used ≤ c.window-end.result = c.in_ok-places.ensures.within.1 in
    let b : c.window-end.result ≤ length c.args.text.now = c.window-end.ensures.within in
    let d = c.window-end.ensures.short in
    let e = c.in_ok-places.ensures.within.0 in
    let f = c.in_ok-at.ensures.within.1 in
    let at = c.in_ok-at.at in
    let here = tagged_or_not c.args.text.now at c.in_ok-at.begun c.in_ok-places.used c.args.levels c.levels_inside-inside.result map.0 f
    c.levels_inside-inside.ensures.tagged c.levels_inside-inside.ensures.plain c.in_ok-at.ensures.tag map.2 in
    record {
      entries = map.0;
      at = at;
      begun = c.in_ok-at.ensures.within.0;
      some = let same = c.in_ok-small.ensures.used in omega arith;
      inside = let same = c.in_ok-small.ensures.used in omega arith;
      reached = let same = c.in_ok-small.ensures.used in omega arith;
      short = c.in_ok-at.ensures.short;
      row = c.in_ok-at.ensures.row;
      value = here.0;
      is_map = here.1;
      element = subst (λ u. Element c.args.levels at (drop at c.args.text.now) here.0 u (drop u c.args.text.now)) (sym c.in_ok-small.ensures.used) here.2;
      told = λ m is. c.in_ok-small.ensures.told m is.0 c.levels_inside-inside.result map.0 (let low = c.requires.1 in let few = c.levels_inside-inside.ensures.few in omega arith) map.1;
      over = c.in_ok-small.ensures.over c.levels_inside-inside.result map.0 map.1;
    }

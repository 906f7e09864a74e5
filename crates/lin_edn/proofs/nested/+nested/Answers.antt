use Rattle.std.proofs.Common.{◌≡◌, suc, ◌+◌, ◌-◌, ◌<◌, ◌≤◌, length, drop, arith, ◌∷◌, ◌∙◌, sym, subst}
use Rattle.std.specs.List.{slice_range}
use Rattle.lin_edn.specs.Grammar.{Blanks, Element, tagged_element}
use Rattle.lin_edn.specs.Run.{run_value}
use Rattle.lin_edn.specs.Scans.{IsStopAt, is_dark}
use Rattle.lin_edn.specs.Simple.{FindsSimple}
use Rattle.lin_edn.specs.Skimming.{level_view}
use Rattle.lin_edn.specs.Value.{tagged, text as text_value}
use Rattle.lin_edn.proofs.Filling.{here, run_here, text_here, tag_here, collection_here, opened_within, white_ends}
use Rattle.lin_edn.proofs.Nesting.{none_filled, more_filled, closed_here, stuck, over}
use Rattle.lin_edn.specs.lemmas.Rising.{tail_rises, blanks_tail, element_past}
use Rattle.lin_edn.proofs.Simple.{tag_opens_none, tag_room}
use Rattle.lin_edn.proofs.Standing.{one_element}
use Rattle.lin_edn.proofs.nested.+nested.Goals as goal

pub collection_until-loop-at-init : goal.collection_until-loop-at-init
collection_until-loop-at-init t c =
    let opens = c.in-Some.ensures.opens in (
      c.white_until-at.ensures.within.0,
      c.white_until-at.ensures.within.1,
      none_filled c.args.input.now c.args.from c.in-Some.inner c.args.end (c.args.levels - 1) c.white_until-at.result (level_view c.in-Some.opened) opens.0 opens.1 opens.2
          c.white_until-at.ensures.row c.white_until-at.ensures.all,
      c.white_until-at.ensures.all.3,
    )

pub collection_until-returns-then-can_close-clause-value : goal.collection_until-returns-then-can_close-clause-value
collection_until-returns-then-can_close-clause-value t c = λ far.
    let inside : c.args.end ≤ length c.args.input.now = c.requires.inside in
    let here = c.loop-at-test.true in
    closed_here c.args.input.now c.args.from c.in-Some.inner c.args.end c.args.levels c.loop-at.at (level_view c.loop-at.level) c.requires.room c.loop-at.invariant.2
    (omega arith) (sym c.can_close.ensures ∙ c.if-can_close.true)

pub collection_until-loop-at-preserved : goal.collection_until-loop-at-preserved
collection_until-loop-at-preserved t c =
    let a = c.loop-at.invariant.0 in
    let b = c.nested_until-used.ensures.within.0 in
    let d = c.if-used-at.false in
    let e = c.white_until-at-in-loop-at.ensures.within.0 in
    let value = c.nested_until-used.ensures.value (omega arith) in (
      omega arith,
      c.white_until-at-in-loop-at.ensures.within.1,
      more_filled c.args.input.now c.args.from c.in-Some.inner c.args.end (c.args.levels - 1) c.loop-at.at c.nested_until-used.result c.white_until-at-in-loop-at.result
          (level_view c.loop-at.level) (level_view c.with_more-level.result) value.0 (let o = c.in-Some.ensures.within.0 in omega arith) c.loop-at.invariant.2 c.with_more-level.ensures value.1
          c.white_until-at-in-loop-at.ensures.row (c.loop-at.invariant.3 c.loop-at-test.true) (sym c.can_close.ensures ∙ c.if-can_close.false) c.white_until-at-in-loop-at.ensures.all,
      c.white_until-at-in-loop-at.ensures.all.3,
    )

pub nested_until-returns-then-run-from-clause-value : goal.nested_until-returns-then-run-from-clause-value
nested_until-returns-then-run-from-clause-value t c = λ far.
    (run_value c.args.from (slice_range c.args.input.now c.args.from c.run_until-run.result), c.run_until-run.ensures.run far c.args.levels)

pub nested_until-returns-then-text-from-clause-value : goal.nested_until-returns-then-text-from-clause-value
nested_until-returns-then-text-from-clause-value t c = λ far.
    (text_value c.args.from (slice_range c.args.input.now c.args.from c.text_until-text.result), c.text_until-text.ensures.text far c.args.levels)

pub nested_until-returns-clause-value : goal.nested_until-returns-clause-value
nested_until-returns-clause-value t c = λ far.
    let s = c.args.input.now in
    let from = c.args.from in
    let tag = c.tag_until-tag.result in
    let at = c.white_until-at.result in
    let used = c.nested_until-used.result in
    let levels = c.args.levels in
    let a = c.tag_until-tag.ensures.within.0 in
    let b = c.if-tag-from.false in
    let d = c.nested_until-used.ensures.within.0 in
    let e = c.if-used-at.false in
    let some = c.if-levels-eq0.false in
    let value = c.nested_until-used.ensures.value (omega arith) in
    let named = c.tag_until-tag.ensures.tag (omega arith) in
    let one_less : suc (levels - 1) ≡ levels = omega arith in (
      tagged (from + 1) named.0 value.0,
      subst (λ n. Element n from (drop from s) (tagged (from + 1) named.0 value.0) used (drop used s)) one_less
          (tagged_element {v = value.0} named.3 named.4 (subst (λ l. Blanks (levels - 1) tag l at (drop at s)) {y = named.1 ∷ named.2} named.5 (c.white_until-at.ensures.blanks (levels - 1))) value.1),
    )

pub collection_until-returns-in_default-clause-found : goal.collection_until-returns-in_default-clause-found
collection_until-returns-in_default-clause-found t c = λ k inner rest opens v used few e simple lt.
    let le : inner ≤ used = opened_within c.args.input.now c.args.from inner used c.args.levels rest v k e simple opens in
    absurd (c.in_default.ensures.none k inner rest opens (omega arith))

pub collection_until-returns-then-can_close-clause-found : goal.collection_until-returns-then-can_close-clause-found
collection_until-returns-then-can_close-clause-found t c = λ k inner rest opens v used few e simple lt.
    let a = c.in-Some.ensures.within.0 in
    let b = c.loop-at.invariant.0 in
    (one_element few few (collection_until-returns-then-can_close-clause-value t c (omega arith)).1 e).1

pub collection_until-returns-then-used-at-clause-found : goal.collection_until-returns-then-used-at-clause-found
collection_until-returns-then-used-at-clause-found t c = λ k inner rest opens v used few e simple lt.
    let s = c.args.input.now in
    let at = c.loop-at.at in
    let a = c.in-Some.ensures.within.0 in
    let b = c.loop-at.invariant.0 in
    let same : c.nested_until-used.result ≡ at = c.if-used-at.true in
    absurd (stuck s c.args.from c.in-Some.inner c.args.end c.args.levels at (level_view c.loop-at.level) c.requires.room (omega arith) c.loop-at.invariant.2
    (c.loop-at.invariant.3 c.loop-at-test.true) (sym c.can_close.ensures ∙ c.if-can_close.false)
    (subst (FindsSimple s at c.args.end (c.args.levels - 1)) same c.nested_until-used.ensures.found) v used few e simple lt)

pub collection_until-returns-clause-found : goal.collection_until-returns-clause-found
collection_until-returns-clause-found t c = λ k inner rest opens v used few e simple lt.
    let done = c.loop-at-test.false in
    absurd (over c.args.input.now c.args.from c.in-Some.inner c.args.end c.args.levels c.loop-at.at (level_view c.loop-at.level) c.requires.room c.loop-at.invariant.2 (omega arith)
    v used few e simple lt)

pub nested_until-returns-then-run-from-clause-found : goal.nested_until-returns-then-run-from-clause-found
nested_until-returns-then-run-from-clause-found t c = λ v used few e simple lt.
    (one_element few few (nested_until-returns-then-run-from-clause-value t c c.if-run-from.true).1 e).1

pub nested_until-returns-then-text-from-clause-found : goal.nested_until-returns-then-text-from-clause-found
nested_until-returns-then-text-from-clause-found t c = λ v used few e simple lt.
    (one_element few few (nested_until-returns-then-text-from-clause-value t c c.if-text-from.true).1 e).1

pub nested_until-returns-then-levels-eq0-clause-found : goal.nested_until-returns-then-levels-eq0-clause-found
nested_until-returns-then-levels-eq0-clause-found t c = λ v used few e simple lt.
    let none = c.if-levels-eq0.true in
    let past : c.args.from < used = (element_past e).0 in
    let a = c.if-run-from.false in
    let b = c.if-text-from.false in
    elim (here c.args.input.now c.args.from used c.args.levels v e simple) [
      | run_here h ↦ (let found = c.run_until-run.ensures.found c.args.levels v used few e h lt in absurd (omega arith))
      | text_here h ↦ (let found = c.text_until-text.ensures.found h c.args.levels v used few e simple lt in absurd (omega arith))
      | tag_here m q r w deeper i bs d ↦ absurd (omega arith)
      | collection_here m inner rest k deeper i ↦ absurd (omega arith)
    ]

pub nested_until-returns-then-tag-from-clause-found : goal.nested_until-returns-then-tag-from-clause-found
nested_until-returns-then-tag-from-clause-found t c = λ v used few e simple lt.
    let past : c.args.from < used = (element_past e).0 in
    let a = c.if-run-from.false in
    let b = c.if-text-from.false in
    let same = c.if-tag-from.true in
    elim (here c.args.input.now c.args.from used c.args.levels v e simple) [
      | run_here h ↦ (let found = c.run_until-run.ensures.found c.args.levels v used few e h lt in absurd (omega arith))
      | text_here h ↦ (let found = c.text_until-text.ensures.found h c.args.levels v used few e simple lt in absurd (omega arith))
      | tag_here m q r w deeper i bs d ↦ (let two : c.args.from + 2 ≤ q = tag_room c.args.input.now c.args.from q i in
          let first : q ≤ r = tail_rises (blanks_tail bs) in
          let next : r < used = (element_past d).0 in
          let found = c.tag_until-tag.ensures.found q i (omega arith) in
          absurd (omega arith))
      | collection_here m inner rest k deeper i ↦ c.collection_until.ensures.found k inner rest i v used few e simple lt
    ]

pub nested_until-returns-then-used-at-clause-found : goal.nested_until-returns-then-used-at-clause-found
nested_until-returns-then-used-at-clause-found t c = λ v used few e simple lt.
    let s = c.args.input.now in
    let from = c.args.from in
    let past : from < used = (element_past e).0 in
    let a = c.if-run-from.false in
    let b = c.if-text-from.false in
    let ne = c.if-tag-from.false in
    let begun = c.tag_until-tag.ensures.within.0 in
    let same = c.if-used-at.true in
    elim (here s from used c.args.levels v e simple) [
      | run_here h ↦ (let found = c.run_until-run.ensures.found c.args.levels v used few e h lt in absurd (omega arith))
      | text_here h ↦ (let found = c.text_until-text.ensures.found h c.args.levels v used few e simple lt in absurd (omega arith))
      | tag_here m q r w deeper i bs d ↦ (let first : q ≤ r = tail_rises (blanks_tail bs) in
          let two : from + 2 ≤ q = tag_room s from q i in
          let next : r < used = (element_past d).0 in
          let found : c.tag_until-tag.result ≡ q = c.tag_until-tag.ensures.found q i (omega arith) in
          let end = c.args.end in
          let at : c.white_until-at.result ≡ r = white_ends s m q r end c.white_until-at.result used w bs (λ j a b. simple j (omega arith) (omega arith)) d (omega arith)
          (subst (λ n. IsStopAt is_dark s n end c.white_until-at.result) found c.white_until-at.ensures.all) in
          let inner = subst (λ n. FindsSimple s n end (c.args.levels - 1) c.nested_until-used.result) at c.nested_until-used.ensures.found in
          let less : m ≡ c.args.levels - 1 = omega arith in
          let there : c.nested_until-used.result ≡ used = inner w used (omega arith) (subst (λ n. Element n r (drop r s) w used (drop used s)) less d) (λ j a b. simple j (omega arith) b) lt in
          absurd (omega arith))
      | collection_here m inner rest k deeper i ↦ absurd (tag_opens_none s from c.tag_until-tag.result inner rest k (c.tag_until-tag.ensures.tag (omega arith)) i)
    ]

pub nested_until-returns-clause-found : goal.nested_until-returns-clause-found
nested_until-returns-clause-found t c = λ v used few e simple lt.
    let a = c.tag_until-tag.ensures.within.0 in
    let b = c.if-tag-from.false in
    let d = c.white_until-at.ensures.within.0 in
    let f = c.nested_until-used.ensures.within.0 in
    let g = c.if-used-at.false in
    (one_element few few (nested_until-returns-clause-value t c (omega arith)).1 e).1

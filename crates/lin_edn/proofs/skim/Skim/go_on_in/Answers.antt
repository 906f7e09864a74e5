use Rattle.std.proofs.Common.{◌≡◌, ◌≤◌, ◌-◌, false, drop, length, refl, ap, ◌∙◌, subst, arith, length-drop}
use Rattle.std.proofs.lemmas.List.{take_all}
use Rattle.lin_edn.proofs.Skims.{seen_in, stopped_in}
use Rattle.lin_edn.proofs.Stops.{goes_on, begins_first}
use Rattle.lin_edn.specs.inner.Skimming.{HasGone, HasStopped}
use Rattle.lin_edn.specs.declared.skim.Part.TheVariants as part
use Rattle.lin_edn.specs.declared.skim.Skim.{Skim}
use Rattle.lin_edn.proofs.skim.Skim.go_on_in.Goals as goal

pub returns-clause-seen : goal.returns-clause-seen
returns-clause-seen c = λ e vs row.
    let r = c.args.series.now in
    let text = c.args.text.now in
    let at = c.place-at.result in
    let old : Skim = record { levels = c.open_in.new.levels; part = part.Between; length = at } in
    let rest = take_all (length text - at) (drop at text) (let n = length-drop at text in omega arith) ∙ ap (λ n. drop n text) c.place-at.ensures in
    let gone : HasGone old c.pass.new.self (drop r.at text) = subst (HasGone old c.pass.new.self) rest (c.pass.ensures.gone e) in
    let first : r.begun ≡ 0 = (let h = c.if-begun-gt0.false in let b = c.begun.ensures in omega arith) in
    seen_in r text vs old c.pass.new.self c.place-at.ensures c.open_in.ensures refl first gone row

pub returns-clause-goes_on : goal.returns-clause-goes_on
returns-clause-goes_on c = λ vs row is.
    let r = c.args.series.now in
    let text = c.args.text.now in
    let at = c.place-at.result in
    let old : Skim = record { levels = c.open_in.new.levels; part = part.Between; length = at } in
    let rest = take_all (length text - at) (drop at text) (let n = length-drop at text in omega arith) ∙ ap (λ n. drop n text) c.place-at.ensures in
    let first : r.begun ≡ 0 = begins_first r text vs false row is in
    goes_on c.pass.result (λ e. stopped_in r text vs false old c.place-at.ensures c.open_in.ensures refl first (subst (HasStopped old) rest (c.pass.ensures.stopped e)) row is)

pub returns-then-at-text-clause-goes_on : goal.returns-then-at-text-clause-goes_on
returns-then-at-text-clause-goes_on c = λ vs row is.
    let within : c.args.series.now.at ≤ length c.args.text.now = row.0 in
    let same = c.place-at.ensures in
    absurd (omega arith)

pub returns-then-begun-gt0-clause-goes_on : goal.returns-then-begun-gt0-clause-goes_on
returns-then-begun-gt0-clause-goes_on c = λ vs row is.
    let first : c.args.series.now.begun ≡ 0 = begins_first c.args.series.now c.args.text.now vs false row is in
    let same = c.begun.ensures in
    absurd (omega arith)

use Rattle.std.proofs.Common.{◌≤◌, ◌<◌, length, arith, ◌∙◌, sym}
use Rattle.lin_edn.specs.Grammar.{longest}
use Rattle.lin_edn.specs.declared.series.Series.{Series}
use Rattle.lin_edn.proofs.Inner.{inner, none_there}
use Rattle.lin_edn.proofs.Rows.{row_white, row_closed, row_element, element_inside, nothing_past, none_white}
use Rattle.lin_edn.proofs.series.Series.next.Goals as goal

pub returns-then-self-end : goal.returns-then-self-end
returns-then-self-end c = λ vs row. (row, nothing_past c.args.self.now c.args.text.now c.window-end.result c.window-end.ensures.whole (let h = c.if-self-end.true in omega arith))

pub returns-then-self-end-2 : goal.returns-then-self-end-2
returns-then-self-end-2 c = λ vs row.
    let old = c.args.self.now in
    let here : Series = record { is_vector = old.is_vector; is_tagged = old.is_tagged; begun = old.begun; at = c.white_end-self.result } in (
      row_white old c.args.text.now vs c.white_end-self.result c.window-end.result row c.white_end-self.ensures c.window-end.ensures.within
          (let e = c.window-end.ensures.short in omega arith),
      nothing_past here c.args.text.now c.window-end.result c.window-end.ensures.whole (let h = c.if-self-end-2.true in omega arith),
    )

pub returns-then-text-self : goal.returns-then-text-self
returns-then-text-self c = λ vs row.
    let w = c.white_end-self.result in
    let old = c.args.self.now in
    let here : Series = record { is_vector = old.is_vector; is_tagged = old.is_tagged; begun = old.begun; at = w } in
    let le = c.white_end-self.ensures.1 in
    let ne = c.if-self-end-2.false in
    let lt : w < c.window-end.result = omega arith in
    let within : c.window-end.result ≤ length c.args.text.now = c.window-end.ensures.within in
    let short : c.window-end.result ≤ longest = (let e = c.window-end.ensures.short in omega arith) in
    row_closed here c.args.text.now vs (row_white old c.args.text.now vs w c.window-end.result row c.white_end-self.ensures within short)
    (omega arith) (omega arith) (c.if-text-self.true ∙ c.closing.ensures)

pub returns-in-Ok-Some : goal.returns-in-Ok-Some
returns-in-Ok-Some c = λ vs row.
    let s = c.args.text.now in
    let w = c.white_end-self.result in
    let old = c.args.self.now in
    let here : Series = record { is_vector = old.is_vector; is_tagged = old.is_tagged; begun = old.begun; at = w } in
    let later : old.at ≤ w = c.white_end-self.ensures.0 in
    let short : c.window-end.result ≤ longest = (let e = c.window-end.ensures.short in omega arith) in
    let before : w ≤ c.window-end.result = c.white_end-self.ensures.1 in
    let found = inner old.is_tagged s w _ c.in-Ok-Some.used (rw c.in-Ok-Some.field-0-is at c.in-Ok-Some.ensures) (omega arith) in
    let inside = element_inside s w _ c.in-Ok-Some.used found in (
      row_element here s vs _ c.in-Ok-Some.used
          (row_white old s vs w c.window-end.result row c.white_end-self.ensures c.window-end.ensures.within short) found,
      omega arith,
    )

pub returns-in-Ok-None : goal.returns-in-Ok-None
returns-in-Ok-None c = λ vs row.
    let none = rw c.in-Ok-None.field-0-is at c.in-Ok-None.ensures in (
      row_white c.args.self.now c.args.text.now vs c.white_end-self.result c.window-end.result row c.white_end-self.ensures c.window-end.ensures.within
          (let e = c.window-end.ensures.short in omega arith),
      (
        none_there c.args.self.now.is_tagged c.args.text.now c.white_end-self.result none,
        λ lt short e. c.if-text-self.false (e ∙ sym c.closing.ensures),
        λ lt short. none_white c.args.text.now c.args.self.now.at c.window-end.result c.white_end-self.result c.white_end-self.ensures
            (let le = c.white_end-self.ensures.1 in let ne = c.if-self-end-2.false in omega arith),
      ),
    )

pub returns-in-OutOfMemory : goal.returns-in-OutOfMemory
returns-in-OutOfMemory c = λ vs row.
    row_white c.args.self.now c.args.text.now vs c.white_end-self.result c.window-end.result row c.white_end-self.ensures c.window-end.ensures.within
    (let e = c.window-end.ensures.short in omega arith)

pub returns-in_default : goal.returns-in_default
returns-in_default c = λ vs row. (
  row_white c.args.self.now c.args.text.now vs c.white_end-self.result c.window-end.result row c.white_end-self.ensures c.window-end.ensures.within
      (let e = c.window-end.ensures.short in omega arith),
  (
    none_there c.args.self.now.is_tagged c.args.text.now c.white_end-self.result (c.in-Err.ensures c.in_default.not-OutOfMemory),
    λ lt short e. c.if-text-self.false (e ∙ sym c.closing.ensures),
    λ lt short. none_white c.args.text.now c.args.self.now.at c.window-end.result c.white_end-self.result c.white_end-self.ensures
        (let le = c.white_end-self.ensures.1 in let ne = c.if-self-end-2.false in omega arith),
  ),
)

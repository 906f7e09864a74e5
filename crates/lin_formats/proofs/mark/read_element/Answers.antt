use Rattle.std.proofs.Common.{◌≡◌, ◌+◌, ℕ, subst, sym, ap, ◌∙◌, arith}
use Rattle.lin_edn.specs.Grammar.{Spells, ShortBlanks, IsUnfinished, IsBlankText}
use Rattle.lin_edn.specs.Reading.{Refuses}
use Rattle.lin_edn.specs.View.{view}
use Rattle.lin_formats.specs.Places.{place_at}
use Rattle.lin_formats.proofs.PlacesReading.{IsPlaced, front_element, front_bad, front_unfinished, front_blank, front_refused}
use Rattle.lin_formats.proofs.mark.read_element.Goals as goal

pub returns-in-Sound-clause-passed : goal.returns-in-Sound-clause-passed
returns-in-Sound-clause-passed c =
    let spelled : Spells c.args.text.now (view c.in-Ok-Complete.value) c.in-Ok-Complete.at c.in-Ok-Complete.used = rw c.in-Ok-Complete.field-0-is at c.in-Ok-Complete.ensures.says in
    let some = (c.places.ensures.spelled _ _ _ _ spelled).0 in
    let passed = rw c.in-Sound.is at c.in_ok-next-in-Ok-Complete.ensures.passed in
    let ends : c.in-Sound.next.at ≡ c.in-Ok-Complete.used = passed.0 in
    (passed.1, omega arith)

pub returns-in-Sound-clause-front : goal.returns-in-Sound-clause-front
returns-in-Sound-clause-front c = λ k is.
    let spelled : Spells c.args.text.now (view c.in-Ok-Complete.value) c.in-Ok-Complete.at c.in-Ok-Complete.used = rw c.in-Ok-Complete.field-0-is at c.in-Ok-Complete.ensures.says in
    let placed : IsPlaced c.args.text.now c.args.place c.go_to.result = λ whole p is h. c.go_to.ensures.place whole p is h ∙ ap (λ i. place_at whole (p + i)) (sym c.go_to.ensures.at) in
    let passed = rw c.in-Sound.is at c.in_ok-next-in-Ok-Complete.ensures.passed in
    front_element k c.args.text.now c.args.place c.args.places.now.items c.mark.new.places.items (view c.in-Ok-Complete.value) c.in-Ok-Complete.at c.in-Ok-Complete.used c.go_to.result c.in-Sound.next
    spelled c.go_to.ensures.at passed.0 placed (rw c.in-Sound.is at (c.in_ok-next-in-Ok-Complete.ensures.marked k is))

pub returns-in-Ok-Complete-clause-front : goal.returns-in-Ok-Complete-clause-front
returns-in-Ok-Complete-clause-front c = λ k is.
    let spelled : Spells c.args.text.now (view c.in-Ok-Complete.value) c.in-Ok-Complete.at c.in-Ok-Complete.used = rw c.in-Ok-Complete.field-0-is at c.in-Ok-Complete.ensures.says in
    let placed : IsPlaced c.args.text.now c.args.place c.go_to.result = λ whole p is h. c.go_to.ensures.place whole p is h ∙ ap (λ i. place_at whole (p + i)) (sym c.go_to.ensures.at) in
    rw c.ends.ensures (front_bad k c.args.text.now c.args.place c.args.places.now.items c.mark.new.places.items (view c.in-Ok-Complete.value) c.in-Ok-Complete.at c.in-Ok-Complete.used c.go_to.result
    c.in-Bad.bad spelled placed (rw c.in-Bad.is at (c.in_ok-next-in-Ok-Complete.ensures.marked k is)))

pub returns-in-Ok-Partial-clause-front : goal.returns-in-Ok-Partial-clause-front
returns-in-Ok-Partial-clause-front c = λ k is.
    let says : IsUnfinished c.args.text.now c.in-Ok-Partial.at = rw c.in-Ok-Partial.field-0-is at c.in-Ok-Partial.ensures.says in
    let front = c.blanks_in_front.ensures.unfinished c.args.text.now c.in-Ok-Partial.at says in
    let placed : IsPlaced c.args.text.now c.args.place c.go_to-next.result = λ whole p is h. c.go_to-next.ensures.place whole p is h ∙ ap (λ i. place_at whole (p + i)) (sym c.go_to-next.ensures.at) in
    rw c.ends-in-Ok-Partial.ensures (front_unfinished k c.args.text.now front.0 c.args.place c.args.places.now.items c.go_to-next.result placed
    (subst (λ (i : ℕ). IsUnfinished c.args.text.now i) (sym c.go_to-next.ensures.at) says) (subst (λ (i : ℕ). ShortBlanks c.args.text.now i front.0) (sym c.go_to-next.ensures.at) front.1))

pub returns-in-Ok-Blank-clause-front : goal.returns-in-Ok-Blank-clause-front
returns-in-Ok-Blank-clause-front c = λ k is.
    let says : IsBlankText c.args.text.now c.in-Ok-Blank.used = rw c.in-Ok-Blank.field-0-is at c.in-Ok-Blank.ensures.says in
    let front = c.blanks_in_front.ensures.blank c.args.text.now c.in-Ok-Blank.used says in
    let next = c.go_to-in-Ok-Blank.result in
    let at = sym c.go_to-in-Ok-Blank.ensures.at in
    let placed : IsPlaced c.args.text.now c.args.place next = λ whole p is h. c.go_to-in-Ok-Blank.ensures.place whole p is h ∙ ap (λ i. place_at whole (p + i)) at in
    rw c.ends-in-Ok-Blank.ensures (front_blank k c.args.text.now front.0 c.args.place c.args.places.now.items next placed
    (subst (λ (i : ℕ). IsBlankText c.args.text.now i) at says) (subst (λ (i : ℕ). ShortBlanks c.args.text.now i front.0) at front.1))

pub returns-clause-front : goal.returns-clause-front
returns-clause-front c = λ k is.
    let refused : Refuses c.args.text.now c.in-Err.fault.at c.in-Err.fault.cause = c.in-Err.ensures.says in
    let next = c.go_to-in_default.result in
    let at = sym c.go_to-in_default.ensures.at in
    let placed : IsPlaced c.args.text.now c.args.place next = λ whole p is h. c.go_to-in_default.ensures.place whole p is h ∙ ap (λ i. place_at whole (p + i)) at in
    rw c.ends-in_default.ensures (front_refused k c.args.text.now c.args.place c.args.places.now.items next c.in-Err.fault.cause placed
    (subst (λ (i : ℕ). Refuses c.args.text.now i c.in-Err.fault.cause) at refused) c.in_default.not-OutOfMemory)

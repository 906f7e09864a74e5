use Rattle.std.proofs.Common.{◌+◌, ◌≤◌, ℕ, [], map, sym, subst, ap, ◌∙◌, arith}
use Rattle.std.proofs.lemmas.Result.{IfOk-weaker}
use Rattle.lin_edn.specs.Value.{values_of}
use Rattle.lin_edn.specs.View.{view}
use Rattle.lin_history.specs.Reading.{Reading, IsReading}
use Rattle.lin_history.specs.Stream.{told, told_by}
use Rattle.lin_formats.specs.inner.Marks.{AreMarked, ArePassed, IsAmong}
use Rattle.lin_formats.specs.Places.{place_at}
use Rattle.lin_formats.proofs.Telling.{told_row}
use Rattle.lin_formats.proofs.Marking.{standing, marked_from, lone_sound, lone_unsound, marked_sound, marked_bad, among_ends, passed_from}
use Rattle.lin_formats.proofs.mark.mark.Goals as goal

pub row_begun-requires-clause-stands : goal.row_begun-requires-clause-stands
row_begun-requires-clause-stands c =
    let within = c.places.ensures.spelled c.args.text.now (view c.args.element.now) c.args.part.from.at c.args.part.until c.requires.spelled in
    let stands = standing c.args.text.now (view c.args.element.now) c.args.part.from.at c.args.part.until c.requires.spelled within.1 in
    (c.args.part.until, stands)

pub go_to-requires-clause-later : goal.go_to-requires-clause-later
go_to-requires-clause-later c =
    let within = c.places.ensures.spelled c.args.text.now (view c.args.element.now) c.args.part.from.at c.args.part.until c.requires.spelled in
    let stands = standing c.args.text.now (view c.args.element.now) c.args.part.from.at c.args.part.until c.requires.spelled within.1 in
    let row = c.in_ok-from-in-Some.ensures c.args.part.until (map view c.in-Some.items.now) stands c.in-Some.ensures in
    let later : c.args.part.from.at ≤ c.in_ok-from-in-Some.from = row.0 in
    let ends : c.in_ok-from-in-Some.from ≤ c.args.part.until = among_ends _ _ _ _ _ row.1 in
    let inside = within.1 in
    omega arith

pub go_to-requires-clause-inside : goal.go_to-requires-clause-inside
go_to-requires-clause-inside c =
    let within = c.places.ensures.spelled c.args.text.now (view c.args.element.now) c.args.part.from.at c.args.part.until c.requires.spelled in
    let stands = standing c.args.text.now (view c.args.element.now) c.args.part.from.at c.args.part.until c.requires.spelled within.1 in
    let row = c.in_ok-from-in-Some.ensures c.args.part.until (map view c.in-Some.items.now) stands c.in-Some.ensures in
    let later : c.args.part.from.at ≤ c.in_ok-from-in-Some.from = row.0 in
    let ends : c.in_ok-from-in-Some.from ≤ c.args.part.until = among_ends _ _ _ _ _ row.1 in
    let inside = within.1 in
    omega arith

pub mark_all-requires-clause-among : goal.mark_all-requires-clause-among
mark_all-requires-clause-among c =
    let within = c.places.ensures.spelled c.args.text.now (view c.args.element.now) c.args.part.from.at c.args.part.until c.requires.spelled in
    let stands = standing c.args.text.now (view c.args.element.now) c.args.part.from.at c.args.part.until c.requires.spelled within.1 in
    let row = c.in_ok-from-in-Some.ensures c.args.part.until (map view c.in-Some.items.now) stands c.in-Some.ensures in
    let later : c.args.part.from.at ≤ c.in_ok-from-in-Some.from = row.0 in
    let ends : c.in_ok-from-in-Some.from ≤ c.args.part.until = among_ends _ _ _ _ _ row.1 in
    let inside = within.1 in
    subst (λ (i : ℕ). IsAmong c.args.text.now i [] (map view c.in-Some.items.now) c.args.part.until) (sym c.go_to.ensures.at) row.1

pub returns-in_ok-from-in-Some-clause-passed : goal.returns-in_ok-from-in-Some-clause-passed
returns-in_ok-from-in-Some-clause-passed c =
    IfOk-weaker c.mark_all.result (ArePassed c.args.text.now c.go_to.result.place c.args.part.until) (ArePassed c.args.text.now c.args.part.from.place c.args.part.until)
    (λ maps passed. passed_from c.args.text.now c.args.part.from.place c.go_to.result.place c.args.part.until maps c.go_to.ensures.behind passed) c.mark_all.ensures.passed

pub returns-in_ok-from-in-Some-clause-marked : goal.returns-in_ok-from-in-Some-clause-marked
returns-in_ok-from-in-Some-clause-marked c =
    let text = c.args.text.now in
    let items = map view c.in-Some.items.now in
    let old = c.args.places.now.items in
    let new = c.mark_all.new.places.items in
    IfOk-weaker c.mark_all.result
    (λ maps. (k : Reading) → IsReading c.args.keyed c.mark_all.new.names k → AreMarked k text (told_by k (values_of items)) c.go_to.result old new maps)
    (λ maps. (k : Reading) → IsReading c.args.keyed c.mark_all.new.names k → AreMarked k text (told k (view c.args.element.now)) c.args.part.from old new maps)
    (λ maps marked k is. marked_from k text _ _ c.args.part.from c.go_to.result old new maps
    (sym (told_row k (view c.args.element.now) (values_of items) c.in-Some.ensures))
    (λ whole p is h. c.go_to.ensures.place whole p is h ∙ ap (λ i. place_at whole (p + i)) (sym c.go_to.ensures.at)) (marked k is)) c.mark_all.ensures.marked

pub returns-then-branch-clause-marked : goal.returns-then-branch-clause-marked
returns-then-branch-clause-marked c = λ k is.
    let put = marked_sound k (view c.args.element.now) c.args.part.from.place c.args.places.now.items c.mark_one.new.places.items c.in_ok-mark_one-in-None.field-0 c.if-branch.true (c.in_ok-mark_one-in-None.ensures.marked k is) in
    lone_sound k c.args.text.now (view c.args.element.now) c.args.part.from c.go_to-then-branch.result c.args.part.until c.args.places.now.items c.mark_one.new.places.items c.requires.spelled c.in-None.ensures put
    (λ whole p is h. c.go_to-then-branch.ensures.place whole p is h ∙ ap (λ i. place_at whole (p + i)) (sym c.go_to-then-branch.ensures.at))

pub returns-else-branch-clause-marked : goal.returns-else-branch-clause-marked
returns-else-branch-clause-marked c = λ k is.
    lone_unsound k c.args.text.now (view c.args.element.now) c.args.part.from c.args.part.until c.args.places.now.items c.mark_one.new.places.items c.requires.spelled c.in-None.ensures
    (marked_bad k (view c.args.element.now) c.args.part.from.place c.args.places.now.items c.mark_one.new.places.items c.in_ok-mark_one-in-None.field-0 c.if-branch.false (c.in_ok-mark_one-in-None.ensures.marked k is))

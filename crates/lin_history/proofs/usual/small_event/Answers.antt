use Rattle.std.proofs.Common.{Some, codes, sym, subst}
use Rattle.lin_edn.specs.Run.{run_value}
use Rattle.lin_names.specs.Spelled.{seen}
use Rattle.lin_history.specs.Table.{under}
use Rattle.lin_history.specs.inner.Fields.{plain_view, value_of}
use Rattle.lin_history.specs.inner.Small.{small_event}
use Rattle.lin_history.specs.inner.Usual.{AreParts, IsPlaced, IsProcess}
use Rattle.lin_history.proofs.Usuals.{none_over, number_other, numbers_tell, usual_told}
use Rattle.lin_history.proofs.usual.small_event.Goals as goal

pub returns-clause-told : goal.returns-clause-told
returns-clause-told c = λ m keyed levels es low are.
    let s = c.args.text.now in
    let process = run_value c.in_ok-place.place.at c.in_ok-word_of.field-0.now in
    let type = run_value c.in_ok-places.field-0.at c.in_ok-word_of-2.field-0.now in
    let function = run_value c.in_ok-places-2.field-0.at c.in_ok-word_of-3.field-0.now in
    let vs = under (codes ":value") es in
    let key = seen c.in_ok-key.key in
    let value = plain_view c.in_ok-key.plain in
    let parts = subst (λ k. AreParts k vs key (value_of value)) (sym keyed) (c.in_ok-key.ensures levels vs low are.values) in
    let number = c.in-Number.number in
    let small = c.in_ok-small.small in
    let tells = numbers_tell m number c.in_ok-event_type.event_type c.in_ok-name.name vs key value c.in_ok-number_in.field-0 c.in_ok-deed.deed (small_event small)
    c.in_ok-number_in.ensures (c.in_ok-deed.ensures m) (c.in_ok-small.ensures.event m.number) parts in
    usual_told m es process type function number c.in_ok-event_type.event_type c.in_ok-name.name (Some (small_event small))
    (c.in_ok-word_of.ensures levels _ (subst (IsPlaced s levels _) c.in_ok-place.was are.process))
    (c.in_ok-word_of-2.ensures levels _ (subst (IsPlaced s levels _) c.in_ok-places.was are.types))
    (c.in_ok-word_of-3.ensures levels _ (subst (IsPlaced s levels _) c.in_ok-places-2.was are.function))
    (subst (IsProcess process) c.in-Number.is c.in_ok-number.ensures) (sym (c.in_ok-event_type.ensures.run c.in_ok-places.field-0.at))
    (sym (c.in_ok-name.ensures.run c.in_ok-places-2.field-0.at)) tells

pub returns-clause-over : goal.returns-clause-over
returns-clause-over c = λ levels es are.
    let s = c.args.text.now in
    let process = run_value c.in_ok-place.place.at c.in_ok-word_of.field-0.now in
    none_over es process (c.in_ok-word_of.ensures levels _ (subst (IsPlaced s levels _) c.in_ok-place.was are.process)) (number_other process c.in-Number.number (subst (IsProcess process) c.in-Number.is c.in_ok-number.ensures))

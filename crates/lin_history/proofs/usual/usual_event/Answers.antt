use Rattle.std.proofs.Common.{codes, sym, subst}
use Rattle.lin_edn.specs.Run.{run_value}
use Rattle.lin_names.specs.Spelled.{seen}
use Rattle.lin_history.specs.Table.{under}
use Rattle.lin_history.specs.inner.Fields.{plain_view, value_of}
use Rattle.lin_history.specs.inner.Usual.{AreParts, IsPlaced, IsProcess}
use Rattle.lin_history.proofs.Usuals.{nemesis_other, none_over, number_other, usual_told, usual_nemesis}
use Rattle.lin_history.proofs.usual.usual_event.Goals as goal

pub returns-in-Nemesis-clause-told : goal.returns-in-Nemesis-clause-told
returns-in-Nemesis-clause-told c = λ m is levels es low are.
    let s = c.args.text.now in
    let process = run_value c.in_ok-place.place.at c.in_ok-word_of.field-0.now in
    usual_nemesis m s levels es c.args.places process are
    (c.in_ok-word_of.ensures levels _ (subst (IsPlaced s levels _) c.in_ok-place.was are.process)) (subst (IsProcess process) c.in-Nemesis.is c.in_ok-number.ensures)

pub returns-in-Some-clause-told : goal.returns-in-Some-clause-told
returns-in-Some-clause-told c = λ m is levels es low are.
    let s = c.args.text.now in
    let process = run_value c.in_ok-place.place.at c.in_ok-word_of.field-0.now in
    let type = run_value c.in_ok-places.field-0.at c.in_ok-word_of-2.field-0.now in
    let function = run_value c.in_ok-places-2.field-0.at c.in_ok-word_of-3.field-0.now in
    let vs = under (codes ":value") es in
    let parts = subst (λ k. AreParts k vs (seen c.in-Some.key) (value_of (plain_view c.in-Some.plain))) (sym is.0) (c.in-Some.ensures levels vs low are.values) in
    usual_told m es process type function c.in-Number.number c.in_ok-event_type.event_type c.in_ok-name.name c.in_ok-told.told
    (c.in_ok-word_of.ensures levels _ (subst (IsPlaced s levels _) c.in_ok-place.was are.process))
    (c.in_ok-word_of-2.ensures levels _ (subst (IsPlaced s levels _) c.in_ok-places.was are.types))
    (c.in_ok-word_of-3.ensures levels _ (subst (IsPlaced s levels _) c.in_ok-places-2.was are.function))
    (subst (IsProcess process) c.in-Number.is c.in_ok-number.ensures) (sym (c.in_ok-event_type.ensures.run c.in_ok-places.field-0.at))
    (sym (c.in_ok-name.ensures.run c.in_ok-places-2.field-0.at)) (c.in_ok-told.ensures.told m is.1 vs parts)

pub returns-clause-told : goal.returns-clause-told
returns-clause-told c = λ m is levels es low are.
    let s = c.args.text.now in
    let process = run_value c.in_ok-place.place.at c.in_ok-word_of.field-0.now in
    let type = run_value c.in_ok-places.field-0.at c.in_ok-word_of-2.field-0.now in
    let function = run_value c.in_ok-places-2.field-0.at c.in_ok-word_of-3.field-0.now in
    usual_told m es process type function c.in-Number.number c.in_ok-event_type.event_type c.in_ok-name.name c.in_ok-told-2.told
    (c.in_ok-word_of.ensures levels _ (subst (IsPlaced s levels _) c.in_ok-place.was are.process))
    (c.in_ok-word_of-2.ensures levels _ (subst (IsPlaced s levels _) c.in_ok-places.was are.types))
    (c.in_ok-word_of-3.ensures levels _ (subst (IsPlaced s levels _) c.in_ok-places-2.was are.function))
    (subst (IsProcess process) c.in-Number.is c.in_ok-number.ensures) (sym (c.in_ok-event_type.ensures.run c.in_ok-places.field-0.at))
    (sym (c.in_ok-name.ensures.run c.in_ok-places-2.field-0.at)) (c.in_ok-told-2.ensures.told m is levels (under (codes ":value") es) low are.values)

pub returns-in-Nemesis-clause-over : goal.returns-in-Nemesis-clause-over
returns-in-Nemesis-clause-over c = λ levels es are.
    let s = c.args.text.now in
    let process = run_value c.in_ok-place.place.at c.in_ok-word_of.field-0.now in
    none_over es process (c.in_ok-word_of.ensures levels _ (subst (IsPlaced s levels _) c.in_ok-place.was are.process)) (nemesis_other process (subst (IsProcess process) c.in-Nemesis.is c.in_ok-number.ensures))

pub returns-in-Some-clause-over : goal.returns-in-Some-clause-over
returns-in-Some-clause-over c = λ levels es are.
    let s = c.args.text.now in
    let process = run_value c.in_ok-place.place.at c.in_ok-word_of.field-0.now in
    none_over es process (c.in_ok-word_of.ensures levels _ (subst (IsPlaced s levels _) c.in_ok-place.was are.process)) (number_other process c.in-Number.number (subst (IsProcess process) c.in-Number.is c.in_ok-number.ensures))

pub returns-clause-over : goal.returns-clause-over
returns-clause-over c = λ levels es are.
    let s = c.args.text.now in
    let process = run_value c.in_ok-place.place.at c.in_ok-word_of.field-0.now in
    none_over es process (c.in_ok-word_of.ensures levels _ (subst (IsPlaced s levels _) c.in_ok-place.was are.process)) (number_other process c.in-Number.number (subst (IsProcess process) c.in-Number.is c.in_ok-number.ensures))

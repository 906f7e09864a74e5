use Rattle.std.proofs.Common.{◌≡◌, false, Option, None, Some, [], ◌∷◌, codes, map as each, refl, sym, ap, subst, ◌∙◌, List}
use Rattle.std.specs.Borrow.{Bor}
use Rattle.lin_edn.specs.Value.{Value, Entries, map, entries_of}
use Rattle.lin_edn.specs.View.{view, entry_view}
use Rattle.lin_edn.specs.declared.Edn.{Edn}
use Rattle.lin_history.specs.Reading.{Reading}
use Rattle.lin_history.specs.Table.{event_in, event_with, under, is_several, is_by_keyword, or_nil, IsAnswer}
use Rattle.lin_history.specs.inner.Fields.{found}
use Rattle.lin_history.proofs.table.event_of.Goals as goal
use Rattle.lin_history.proofs.table.event_of.Goals.{in-Some-process+else-is_keyword, in_default-process}

-- the event of a map with these values under its keys
event_there : (m : Reading) (es : Entries) (ps ts fs vs : List Value) (p t f : Value) → under (codes ":process") es ≡ ps → under (codes ":type") es ≡ ts →
    under (codes ":f") es ≡ fs → under (codes ":value") es ≡ vs → ps ≡ p ∷ [] → ts ≡ t ∷ [] → fs ≡ f ∷ [] → is_several vs ≡ false → is_by_keyword ps ≡ false →
    event_in m (map es) ≡ event_with m p t f (or_nil vs)
event_there m es ps ts fs vs p t f a b c d process type function one named =
    let none : is_by_keyword (p ∷ []) ≡ false = ap is_by_keyword (sym process) ∙ named in
    rw (a, b, c, d, process, type, function, one, none) refl

few : (o : Option (Bor Edn)) → is_several (found o) ≡ false
few None = refl
few (Some e) = refl

pub returns-in-Some-value-clause-event : goal.returns-in-Some-value-clause-event
returns-in-Some-value-clause-event c = λ m is.
    let es = entries_of (each entry_view c.in-Some.entries.now) in
    let fields = c.in_ok-fields.fields in
    let under = c.in_ok-fields.ensures in
    let named : is_by_keyword (found fields.process) ≡ false = elim c.match-fields.branch [
      | in-Some-process+else-is_keyword w ↦ ap (λ o. is_by_keyword (found o)) w.in-Some-process.is ∙ sym w.is_keyword.ensures ∙ w.if-is_keyword.false
      | in_default-process w ↦ ap (λ o. is_by_keyword (found o)) w.in_default-process.is
    ] in
    let three = c.in-Some-Some-Some in
    let told = event_there m es (found fields.process) (found fields.event_type) (found fields.function) (found fields.value)
    (view three.process.now) (view three.event_type.now) (view three.function.now) under.0 under.1 under.2 under.3
    (ap found three.is-0) (ap found three.is-1) (ap found three.is-2) (few fields.value) named in
    subst (λ r. IsAnswer r c.event_with.result) (sym (ap (event_in m) c.in-Some.ensures ∙ told
    ∙ ap (λ o. event_with m (view three.process.now) (view three.event_type.now) (view three.function.now) (or_nil (found o))) c.in-Some-value.is)) (c.event_with.ensures.event m is)

pub returns-in-None-clause-event : goal.returns-in-None-clause-event
returns-in-None-clause-event c = λ m is.
    let es = entries_of (each entry_view c.in-Some.entries.now) in
    let fields = c.in_ok-fields.fields in
    let under = c.in_ok-fields.ensures in
    let named : is_by_keyword (found fields.process) ≡ false = elim c.match-fields.branch [
      | in-Some-process+else-is_keyword w ↦ ap (λ o. is_by_keyword (found o)) w.in-Some-process.is ∙ sym w.is_keyword.ensures ∙ w.if-is_keyword.false
      | in_default-process w ↦ ap (λ o. is_by_keyword (found o)) w.in_default-process.is
    ] in
    let three = c.in-Some-Some-Some in
    let told = event_there m es (found fields.process) (found fields.event_type) (found fields.function) (found fields.value)
    (view three.process.now) (view three.event_type.now) (view three.function.now) under.0 under.1 under.2 under.3
    (ap found three.is-0) (ap found three.is-1) (ap found three.is-2) (few fields.value) named in
    subst (λ r. IsAnswer r c.event_with-in-None.result) (sym (ap (event_in m) c.in-Some.ensures ∙ told
    ∙ ap (λ o. event_with m (view three.process.now) (view three.event_type.now) (view three.function.now) (or_nil (found o))) c.in-None.is
    ∙ ap (event_with m (view three.process.now) (view three.event_type.now) (view three.function.now)) (sym c.nil.ensures))) (c.event_with-in-None.ensures.event m is)

-- Usual maps in streams, and in lists and vectors.
use Rattle.std.proofs.Common.{◌≡◌, ℕ, suc, ◌+◌, ◌<◌, ◌≤◌, Bool, false, inl, inr, List, [], ◌∷◌, ◌++◌, Option, Some, None, Result, Ok, Err, OnOk, length, drop, refl, sym, ap, subst, ◌∙◌, arith, append-nil}
use Rattle.std.specs.Option.{is_some}
use Rattle.std.proofs.lemmas.Bool.{cases_lt}
use Rattle.lin_edn.specs.Grammar.{Element, tagged_element, Row, empty, element, longest, IsTagAt, no_blank, Spells, spells, no_blank_yet}
use Rattle.lin_edn.specs.Rows.{IsRow, row_end, row_levels}
use Rattle.lin_edn.specs.Value.{Value, map, tagged, Entries, values_of}
use Rattle.lin_edn.specs.declared.series.Series.{Series}
use Rattle.lin_history.specs.Reading.{Reading, IsReading}
use Rattle.lin_history.specs.PassedMaps.{keyword_of, keywords_in, keywords_of}
use Rattle.lin_history.specs.inner.Passing.{Gathered, passed_more}
use Rattle.lin_history.specs.inner.Reads.{IsTold, IsToldOn, IsElement}
use Rattle.lin_history.specs.Stream.{Told, before, told_by, maps_in}
use Rattle.lin_history.specs.Table.{event, event_in, bare}
use Rattle.lin_history.specs.inner.Usual.{IsTaken, events_of}
use Rattle.lin_events.specs.declared.events.Event.{Event}
use Rattle.lin_events.specs.declared.lists.OutOfMemory.{OutOfMemory}
use Rattle.lin_history.specs.declared.table.EventFault.{EventFault}
use Rattle.lin_history.specs.declared.usual.Taken.{Taken}
use Rattle.lin_history.proofs.Waiting.{told_on}

-- what a map tells that says an event, or none
told_case : (o : Option Event) → before (Ok o) (record { events = []; ends = None }) ≡ record { events = events_of o; ends = None }
told_case None = refl
told_case (Some e) = refl

pub told_one : (k : Reading) (v : Value) (o : Option Event) → event k v ≡ Ok o → told_by k (values_of (v ∷ [])) ≡ record { events = events_of o; ends = None }
told_one k v o h = ap (λ (r : Result (Option Event) EventFault). before r (record { events = []; ends = None })) h ∙ told_case o

pub tells : (k : Reading) (v : Value) (o : Option Event) (old new : List Event) → event k v ≡ Ok o → new ≡ old ++ events_of o →
    IsTold (told_by k (values_of (v ∷ []))) old new (Ok tt)
tells k v o old new h put =
    let told = told_one k v o h in
    (ap (λ (t : Told). t.ends) told, put ∙ ap (λ (t : Told). old ++ t.events) (sym told))

pub told_event : (r : Result (Unit {0}) OutOfMemory) (o : Option Event) (old new : List Event) (ends : Option EventFault) → OnOk r (new ≡ old ++ events_of o) →
    is_some ends ≡ false → OnOk r ((k : Reading) (v : Value) → event k v ≡ Ok o → IsToldOn k v old ends new ends)
told_event (Ok u) o old new ends put n = λ k v h. told_on k v old new ends n (tells k v o old new h put)
told_event (Err e) o old new ends put n = tt

-- a map with a tag or none says what it says without
pub said_so : (k : Reading) (keyed : Bool) (names : List (List ℕ)) (s : List ℕ) (from levels : ℕ) (taken : Taken) → IsReading keyed names k →
    (t : IsTaken keyed names s from levels taken) → event k t.value ≡ Ok taken.event
said_so k keyed names s from levels taken is t = ap (event_in k) t.is_map ∙ t.told k is

-- a map with a tag directly in front of it, or none
abbrev pub IsTagged : List ℕ → ℕ → ℕ → Entries → ℕ → Type 0
IsTagged s at levels es used = (v : Value) × (bare v ≡ map es) × Element levels at (drop at s) v used (drop used s)

pub tagged_or_not : (s : List ℕ) (at begun used levels inside : ℕ) (es : Entries) → at ≤ begun →
    (at < begun → suc (suc inside) ≡ levels) → (begun ≡ at → suc inside ≡ levels) → (at < begun → IsTagAt s at begun) →
    Element (suc inside) begun (drop begun s) (map es) used (drop used s) → IsTagged s at levels es used
tagged_or_not s at begun used levels inside es le two one tag e = elim (cases_lt at begun) [
  | inl lt ↦ (let t = tag lt in (
    tagged (at + 1) t.0 (map es),
    refl,
    subst (λ n. Element n at (drop at s) (tagged (at + 1) t.0 (map es)) used (drop used s)) (two lt)
        (tagged_element t.3 t.4 no_blank (subst (λ l. Element (suc inside) begun l (map es) used (drop used s)) t.5 e)),
  ))
  | inr ge ↦
      let same : begun ≡ at = omega arith in
      (map es, refl, subst (λ n. Element n at (drop at s) (map es) used (drop used s)) (one same) (subst (λ i. Element (suc inside) i (drop i s) (map es) used (drop used s)) same e))
]

-- the row up to the end of a usual map
pub passed : (keyed : Bool) (names : List (List ℕ)) (s : List ℕ) (vs : List Value) (old mid new : Series) (taken : Taken)
    (t : IsTaken keyed names s (row_end old) (row_levels old) taken) → mid ≡ old →
    ((z : List ℕ) (xs ws : List Value) → IsRow mid z xs → taken.used ≤ length z → taken.used ≤ longest →
    Row (row_levels mid) (row_end mid) (drop (row_end mid) z) ws taken.used (drop taken.used z) → IsRow new z (xs ++ ws)) →
    IsRow old s vs → IsRow new s (vs ++ t.value ∷ [])
passed keyed names s vs old mid new taken t same pass row =
    pass s vs (t.value ∷ []) (subst (λ r. IsRow r s vs) (sym same) row) t.inside t.reached
    (subst (λ (r : Series). Row (row_levels r) (row_end r) (drop (row_end r) s) (t.value ∷ []) taken.used (drop taken.used s)) (sym same)
    (element (t.row (row_levels old) (row_end old) (drop (row_end old) s) [] empty) t.element))

-- a usual map in front of a text
pub spelled_so : (keyed : Bool) (names : List (List ℕ)) (s : List ℕ) (taken : Taken) (t : IsTaken keyed names s 0 64 taken) → Spells s t.value t.at taken.used
spelled_so keyed names s taken t =
    let a = t.some in
    let b = t.reached in
    spells (t.short no_blank_yet) t.element (omega arith)

none_in : (keyed : Bool) (names : List (List ℕ)) (s : List ℕ) (taken : Taken) (t : IsTaken keyed names s 0 64 taken) → keywords_in t.value ≡ []
none_in keyed names s taken t = ap (λ v. keywords_of (maps_in v)) t.is_map ∙ append-nil (keyword_of (map t.entries)) ∙ t.over

pub in_front : (k : Reading) (keyed : Bool) (names : List (List ℕ)) (s : List ℕ) (taken : Taken) (old new : Gathered) → IsReading keyed names k →
    IsTaken keyed names s 0 64 taken → new.items ≡ old.items ++ events_of taken.event → new.passed ≡ old.passed → IsElement k s old new taken.used
in_front k keyed names s taken old new is t put same =
    let a = t.some in
    record {
      events = events_of taken.event;
      value = t.value;
      at = t.at;
      put = put;
      over = same ∙ ap (passed_more old.passed) (sym (none_in keyed names s taken t));
      some = omega arith;
      inside = t.inside;
      spelled = spelled_so keyed names s taken t;
      told = ap (λ v. told_by k (maps_in v)) t.is_map ∙ told_one k (map t.entries) taken.event (t.told k is);
    }

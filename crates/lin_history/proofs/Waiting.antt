-- What waits of a list or vector that is read map by map.
use Rattle.std.proofs.Common.{◌≡◌, ◌≢◌, ℕ, ◌+◌, ◌<◌, ◌≤◌, Bool, true, false, List, [], ◌∷◌, ◌++◌, Option, Some, None, Result, Ok, Err, length, drop, refl, sym, ap, ◌∙◌, subst, append-nil, arith, zero-add, true≢false, suc, map, get_or, drop-cons, append_assoc}
use Rattle.std.specs.Option.{is_some}
use Rattle.std.proofs.lemmas.List.{append_cancel_left}
use Rattle.lin_edn.specs.Value.{Value, values_of}
use Rattle.lin_edn.specs.View.{view}
use Rattle.lin_edn.specs.declared.Edn.{Edn}
use Rattle.lin_edn.specs.Rows.{IsBehind, row_begun, value_in}
use Rattle.lin_history.specs.Reading.{Reading}
use Rattle.lin_history.specs.Table.{event}
use Rattle.lin_history.specs.Stream.{Told, before, told, told_by, Gives, nothing, element}
use Rattle.lin_history.specs.PassedMaps.{PassesOver, nothing as passes_nothing, element as passes_element, keywords_in}
use Rattle.lin_history.specs.inner.Passing.{Gathered, added}
use Rattle.lin_history.specs.inner.Reads.{IsElement, IsReadTo, IsTold, IsToldOn}
use Rattle.lin_history.specs.inner.Rests.{IsWhole}
use Rattle.lin_events.specs.declared.events.Event.{Event}
use Rattle.lin_history.specs.declared.follow.Read.{Read}
use Rattle.lin_history.specs.declared.follow.FollowFault.TheVariants as fault
use Rattle.lin_history.specs.declared.row.Row.{Row}
use Rattle.lin_history.specs.declared.table.EventFault.{EventFault}
use Rattle.lin_history.specs.declared.table.EventFault.TheVariants as cause
use Rattle.lin_history.proofs.Fronts.{ends_in_fault, told_fault}
use Rattle.lin_history.proofs.Reading.{IsReadUp, put_again, the_end}
use Rattle.lin_history.proofs.Telling.{behind_told}
use Rattle.lin_history.proofs.Counting.{added_counted}

-- events and their end, and what is told behind them if there is none
abbrev pub then_told : List Event → Option EventFault → Told → Told
then_told es None t = record { events = es ++ t.events; ends = t.ends }
then_told es (Some f) t = record { events = es; ends = Some f }

pub before_then : (r : Result (Option Event) EventFault) (es : List Event) (o : Option EventFault) (t : Told) →
    before r (then_told es o t) ≡ then_told (before r (record { events = es; ends = o })).events (before r (record { events = es; ends = o })).ends t
before_then (Ok None) es o t = refl
before_then (Ok (Some e)) es None t = refl
before_then (Ok (Some e)) es (Some f) t = refl
before_then (Err f) es o t = refl

-- one more map behind others
pub told_more : (k : Reading) (vs : List Value) (v : Value) →
    told_by k (values_of (vs ++ v ∷ [])) ≡ then_told (told_by k (values_of vs)).events (told_by k (values_of vs)).ends (told_by k (values_of (v ∷ [])))
told_more k [] v = refl
told_more k (w ∷ vs) v = ap (before (event k w)) (told_more k vs v) ∙ before_then (event k w) (told_by k (values_of vs)).events (told_by k (values_of vs)).ends (told_by k (values_of (v ∷ [])))

told_then : (k : Reading) (vs : List Value) (v : Value) (es : List Event) (o : Option EventFault) → told_by k (values_of vs) ≡ record { events = es; ends = o } →
    told_by k (values_of (vs ++ v ∷ [])) ≡ then_told es o (told_by k (values_of (v ∷ [])))
told_then k vs v es o e = told_more k vs v ∙ ap (λ (t : Told). then_told t.events t.ends (told_by k (values_of (v ∷ [])))) e

-- behind a fault a map tells nothing
pub waits_behind_fault : (k : Reading) (vs : List Value) (v : Value) (es : List Event) (o : Option EventFault) → is_some o ≡ true →
    told_by k (values_of vs) ≡ record { events = es; ends = o } → told_by k (values_of (vs ++ v ∷ [])) ≡ record { events = es; ends = o }
waits_behind_fault k vs v es None h e = absurd (true≢false (sym h))
waits_behind_fault k vs v es (Some f) h e = told_then k vs v es (Some f) e

-- the event of a map waits behind those before it
pub waits_more : (k : Reading) (vs : List Value) (v : Value) (es fs : List Event) (o : Option EventFault) → is_some o ≡ false →
    IsTold (told_by k (values_of (v ∷ []))) es fs (Ok tt) →
    told_by k (values_of vs) ≡ record { events = es; ends = o } → told_by k (values_of (vs ++ v ∷ [])) ≡ record { events = fs; ends = o }
waits_more k vs v es fs None h t e = told_then k vs v es None e ∙ cc
waits_more k vs v es fs (Some f) h t e = absurd (true≢false h)

-- a fault of a map ends what waits
pub waits_fault : (k : Reading) (vs : List Value) (v : Value) (es : List Event) (o : Option EventFault) (f : EventFault) → is_some o ≡ false →
    (told_by k (values_of (v ∷ []))).ends ≡ Some f → told_by k (values_of vs) ≡ record { events = es; ends = o } →
    told_by k (values_of (vs ++ v ∷ [])) ≡ record { events = es ++ (told_by k (values_of (v ∷ []))).events; ends = Some f }
waits_fault k vs v es None f h ends e = told_then k vs v es None e ∙ cc
waits_fault k vs v es (Some g) f h ends e = absurd (true≢false h)

-- what a map tells is put behind what was told: nothing behind a fault
pub told_behind_fault : (k : Reading) (v : Value) (old : List Event) (o : Option EventFault) → is_some o ≡ true → IsToldOn k v old o old o
told_behind_fault k v old o h = (
  [],
  sym (append-nil old),
  λ vs es e. subst (λ l. told_by k (values_of (vs ++ v ∷ [])) ≡ record { events = l; ends = o }) (sym (append-nil es)) (waits_behind_fault k vs v es o h e),
)

-- its event, if it says one
pub told_on : (k : Reading) (v : Value) (old new : List Event) (o : Option EventFault) → is_some o ≡ false →
    IsTold (told_by k (values_of (v ∷ []))) old new (Ok tt) → IsToldOn k v old o new o
told_on k v old new o h t =
    let more = (told_by k (values_of (v ∷ []))).events in
    (more, t.1, λ vs es e. waits_more k vs v es (es ++ more) o h (t.0, refl) e)

-- its fault
pub told_fault_on : (k : Reading) (v : Value) (old new : List Event) (o : Option EventFault) (f : EventFault) → is_some o ≡ false → f ≢ cause.OutOfMemory →
    IsTold (told_by k (values_of (v ∷ []))) old new (Err f) → IsToldOn k v old o new (Some f)
told_fault_on k v old new o f h n t =
    let tells = told_fault (told_by k (values_of (v ∷ []))) old new f n t in
    ((told_by k (values_of (v ∷ []))).events, tells.1, λ vs es e. waits_fault k vs v es o f h tells.0 e)

-- what waits, where one more map is told
pub waits_on : (k : Reading) (v : Value) (old new : List Event) (o o' : Option EventFault) → IsToldOn k v old o new o' → (vs : List Value) →
    told_by k (values_of vs) ≡ record { events = old; ends = o } → told_by k (values_of (vs ++ v ∷ [])) ≡ record { events = new; ends = o' }
waits_on k v old new o o' t vs e = t.2 vs old e ∙ ap (λ (es : List Event). record { events = es; ends = o' }) (sym t.1)

-- a list or vector tells what its maps tell, with a tag in front of it or none
pub row_told : (k : Reading) (is_tagged b : Bool) (vs : List Value) (v : Value) → IsBehind is_tagged (value_in b vs) v → told k v ≡ told_by k (values_of vs)
row_told k true true vs v h = ap (told k) h.2
row_told k true false vs v h = ap (told k) h.2
row_told k false true vs v h = ap (told k) h
row_told k false false vs v h = ap (told k) h

-- what waited is ready, as what stands in front of a text
pub row_without_fault : (k : Reading) (s : List ℕ) (old new : Gathered) (row : Row) (used : ℕ) → (w : IsWhole k row s used) → row_begun row.series < used → used ≤ length s →
    row.ends ≡ None → new.items ≡ old.items ++ row.waiting.items → new.passed ≡ added old.passed row.passed → IsElement k s old new used
row_without_fault k s old new row used w some inside is put over = record {
  events = row.waiting.items;
  value = w.0;
  at = row_begun row.series;
  put = put;
  over = over ∙ ap (added old.passed) w.3 ∙ added_counted old.passed (keywords_in w.0);
  some = omega arith;
  inside = inside;
  spelled = w.1;
  told = w.2 ∙ ap (λ (o : Option EventFault). record { events = row.waiting.items; ends = o }) is;
}

-- and the fault behind it is the element's
pub row_with_fault : (k : Reading) (s : List ℕ) (p : ℕ) (old new : Gathered) (row : Row) (used : ℕ) (f : EventFault) → (w : IsWhole k row s used) → used ≤ length s →
    row.ends ≡ Some f → new.items ≡ old.items ++ row.waiting.items → IsReadTo k s p old new (record { used = used; outcome = Err (fault.Event (p + row_begun row.series) f) })
row_with_fault k s p old new row used f w inside is put =
    ends_in_fault k s p old new w.0 (row_begun row.series) used f w.1 inside (ap (λ (t : Told). t.ends) w.2 ∙ is) (put ∙ ap (λ (t : Told). old.items ++ t.events) (sym w.2))

-- one map of several
pub told_step : (k : Reading) (es : List Edn) (n : ℕ) (d : Edn) → n < length es → d ≡ get_or es n d →
    told_by k (values_of (map view (drop n es))) ≡ before (event k (view d)) (told_by k (values_of (map view (drop (n + 1) es))))
told_step k es n d h is =
    let next : suc n ≡ n + 1 = omega arith in
    ap (λ l. told_by k (values_of (map view l))) (drop-cons es n d h)
    ∙ ap (λ i. before (event k (view (get_or es n d))) (told_by k (values_of (map view (drop i es))))) next
    ∙ ap (λ e. before (event k (view e)) (told_by k (values_of (map view (drop (n + 1) es))))) (sym is)

-- what a map tells, before the others
abbrev pub alone_told : Reading → Value → Told
alone_told k v = told_by k (values_of (v ∷ []))

pub told_split : (k : Reading) (v : Value) (t : Told) → before (event k v) t ≡ then_told (alone_told k v).events (alone_told k v).ends t
told_split k v t = before_then (event k v) [] None t

told_up : (all one t : Told) (es old mid new : List Event) (f : EventFault) → all ≡ behind_told es (then_told one.events one.ends t) → mid ≡ old ++ es →
    one.ends ≡ Some f → new ≡ mid ++ one.events → (all.ends ≡ Some f) × (new ≡ old ++ all.events)
told_up all one t es old mid new f is put ends more =
    let so_far : all ≡ record { events = es ++ one.events; ends = Some f } = is ∙ ap (λ o. behind_told es (then_told one.events o t)) ends in
    (ap (λ t. t.ends) so_far, put_again old mid new es one.events put more ∙ ap (λ (t : Told). old ++ t.events) (sym so_far))

-- a fault ends what maps tell
pub told_up_to : (all one t : Told) (es old mid new : List Event) (f : EventFault) → all ≡ behind_told es (then_told one.events one.ends t) → mid ≡ old ++ es →
    IsTold one mid new (Err f) → IsTold all old new (Err f)
told_up_to all one t es old mid new cause.OutOfMemory is put h = (es ++ h.0, put_again old mid new es h.0 put h.1)
told_up_to all one t es old mid new cause.NotAMap is put h = told_up all one t es old mid new cause.NotAMap is put h.0 h.1
told_up_to all one t es old mid new cause.DuplicateKey is put h = told_up all one t es old mid new cause.DuplicateKey is put h.0 h.1
told_up_to all one t es old mid new cause.Missing is put h = told_up all one t es old mid new cause.Missing is put h.0 h.1
told_up_to all one t es old mid new cause.BadProcess is put h = told_up all one t es old mid new cause.BadProcess is put h.0 h.1
told_up_to all one t es old mid new cause.BadType is put h = told_up all one t es old mid new cause.BadType is put h.0 h.1
told_up_to all one t es old mid new cause.BadFunction is put h = told_up all one t es old mid new cause.BadFunction is put h.0 h.1
told_up_to all one t es old mid new cause.BadKey is put h = told_up all one t es old mid new cause.BadKey is put h.0 h.1
told_up_to all one t es old mid new cause.BadValue is put h = told_up all one t es old mid new cause.BadValue is put h.0 h.1

-- without a fault others may follow
pub told_through : (all one t : Told) (es more mid new : List Event) → all ≡ behind_told es (then_told one.events one.ends t) → new ≡ mid ++ more →
    IsTold one mid new (Ok tt) → all ≡ behind_told (es ++ more) t
told_through all one t es more mid new is put h =
    let same : one.events ≡ more = append_cancel_left mid one.events more (sym h.1 ∙ put) in
    is ∙ ap (λ o. behind_told es (then_told one.events o t)) h.0 ∙ ap (λ es'. behind_told es (then_told es' None t)) same
    ∙ ap (λ es'. record { events = es'; ends = t.ends }) (sym (append_assoc es more t.events))

-- the text is read on behind the element
pub reads_on : (k : Reading) (s : List ℕ) (p : ℕ) (old mid new : Gathered) (used : ℕ) (r : Read) → IsElement k s old mid used →
    IsReadTo k (drop used s) (p + used) mid new r → IsReadTo k s p old new (record { used = used + r.used; outcome = r.outcome })
reads_on k s p old mid new used r e rest =
    let up : IsReadUp k s used old mid = record {
      inside = e.inside;
      read = (e.events, e.put, subst (λ n. Gives k s e.events n) (zero-add used) (element {es = []} nothing e.spelled e.told));
      over = (keywords_in e.value, subst (λ n. PassesOver s (keywords_in e.value) n) (zero-add used) (passes_element {ws = []} passes_nothing e.spelled), e.over);
    } in
    the_end k s p used old mid new r up rest

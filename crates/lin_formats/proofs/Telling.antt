-- What maps tell, one after another, and where they stand.
use Rattle.std.proofs.Common.{◌≡◌, List, [], ◌∷◌, ◌++◌, Option, Some, None, Result, Ok, Err, refl, ap, ◌∙◌}
use Rattle.lin_edn.specs.Value.{Value, list, vector, set, map, nil, bool, int, atom, keyword, text, tagged, Values, values_of}
use Rattle.lin_history.specs.Reading.{Reading}
use Rattle.lin_history.specs.Stream.{Told, before, told_by, told, maps_in}
use Rattle.lin_history.specs.Table.{bare, event}
use Rattle.lin_events.specs.declared.events.Event.{Event}
use Rattle.lin_history.specs.declared.table.EventFault.{EventFault}
use Rattle.lin_formats.specs.Places.{row_of}

-- what is told behind events
abbrev pub behind_told : List Event → Told → Told
behind_told es t = record { events = es ++ t.events; ends = t.ends }

abbrev nothing_told : Told
nothing_told = record { events = []; ends = None }

-- an element without its tags, of a list or vector
pub row_maps : (v : Value) (vs : Values) → row_of v ≡ Some vs → maps_in (bare v) ≡ vs
row_maps nil vs h = cc
row_maps (bool b) vs h = cc
row_maps (int i) vs h = cc
row_maps (atom at w) vs h = cc
row_maps (keyword at w) vs h = cc
row_maps (text at w) vs h = cc
row_maps (list ws) vs h = cc
row_maps (vector ws) vs h = cc
row_maps (set ws) vs h = cc
row_maps (map es) vs h = cc
row_maps (tagged at w v) vs h = row_maps v vs h

-- and of another one: it is itself the only map
pub lone_map : (k : Reading) (v : Value) → row_of v ≡ None → told k v ≡ before (event k v) nothing_told
lone_map k nil h = refl
lone_map k (bool b) h = refl
lone_map k (int i) h = refl
lone_map k (atom at w) h = refl
lone_map k (keyword at w) h = refl
lone_map k (text at w) h = refl
lone_map k (list ws) h = cc
lone_map k (vector ws) h = cc
lone_map k (set ws) h = refl
lone_map k (map es) h = refl
lone_map k (tagged at w v) h = lone_map k v h

pub told_row : (k : Reading) (v : Value) (vs : Values) → row_of v ≡ Some vs → told k v ≡ told_by k vs
told_row k v vs h = ap (told_by k) (row_maps v vs h)

-- what is told before others, where it is without fault
told_on : (r : Result (Option Event) EventFault) (t u w : Told) (fs : List Event) → before r t ≡ record { events = fs; ends = None } →
    ((gs : List Event) → t ≡ record { events = gs; ends = None } → u ≡ behind_told gs w) → before r u ≡ behind_told fs w
told_on (Ok None) t u w fs h more = more fs h
told_on (Ok (Some e)) t u w fs h more =
    let gs : List Event = t.events in
    let events : e ∷ gs ≡ fs = ap (λ x. x.events) h in
    let ends : t.ends ≡ None = ap (λ x. x.ends) h in
    let rest : u ≡ behind_told gs w = more gs (ap (λ x. record { events = gs; ends = x }) ends) in
    ap (before (Ok (Some e))) rest ∙ ap (λ l. behind_told l w) events
told_on (Err f) t u w fs h more = absurd (let e : Some f ≡ None = ap (λ x. x.ends) h in cc)

-- maps without fault, and others behind them
pub told_behind : (k : Reading) (vs ws : List Value) (fs : List Event) → told_by k (values_of vs) ≡ record { events = fs; ends = None } →
    told_by k (values_of (vs ++ ws)) ≡ behind_told fs (told_by k (values_of ws))
told_behind k [] ws fs h = ap (λ l. behind_told l (told_by k (values_of ws))) (ap (λ x. x.events) h)
told_behind k (v ∷ vs) ws fs h =
    told_on (event k v) (told_by k (values_of vs)) (told_by k (values_of (vs ++ ws))) (told_by k (values_of ws)) fs h (λ gs e. told_behind k vs ws gs e)

-- Usual maps: the events that they say.
use Rattle.std.proofs.Common.{◌≡◌, ℕ, ℤ, pos, ◌<◌, ◌≤◌, Bool, true, false, if◌then◌else◌, List, [], ◌∷◌, Option, Some, None, Ok, drop, option_map, option_and_then, codes, refl, sym, ap, subst, ◌∙◌, arith, true≢false}
use Rattle.std.proofs.lemmas.Option.{none-some}
use Rattle.std.specs.List.{list_any, slice_range}
use Rattle.lin_bytes.specs.Bytes.{is_newline}
use Rattle.lin_edn.specs.Grammar.{Element}
use Rattle.lin_edn.specs.Laws.{ElementsAreUnique}
use Rattle.lin_edn.specs.Run.{run_value}
use Rattle.lin_edn.specs.Value.{Value, nil, bool, int, atom, keyword, text, list, vector, set, map, tagged, values_of, Entries}
use Rattle.lin_names.specs.Spelled as said
use Rattle.lin_names.specs.Spelled.{Spelled, numbered}
use Rattle.lin_history.specs.PassedMaps.{keyword_of, other_keyword}
use Rattle.lin_history.specs.Reading.{Reading}
use Rattle.lin_history.specs.Table.{bare, under, cas_of, body_of, is_several, is_by_keyword, is_word, or_nil, event, event_under, event_with, said_of, item_of, val_of, pair_of, seen, parts_said, process_of, type_of, function_of}
use Rattle.lin_history.specs.inner.Usual.{IsPair, IsPlaced, ArePlaced, AreParts, TellSame, TellsWith}
use Rattle.lin_history.specs.inner.Fields.{plain_of, item_value, value_of}
use Rattle.lin_history.specs.inner.Small.{number_said, number_value, small_body}
use Rattle.lin_history.specs.declared.small.Deed.{Deed}
use Rattle.lin_events.specs.declared.calls.Call.TheVariants as call
use Rattle.lin_events.specs.declared.calls.Name.{Name}
use Rattle.lin_events.specs.declared.calls.Name.TheVariants.{Read, Write, Cas, Enqueue, Dequeue, Add, Acquire, Release}
use Rattle.lin_events.specs.declared.calls.Reply.TheVariants.{Value as Saw}
use Rattle.lin_events.specs.declared.calls.Val.TheVariants.{Item as Held}
use Rattle.lin_events.specs.declared.events.Body.TheVariants as body
use Rattle.lin_events.specs.declared.events.Event.{Event}
use Rattle.lin_history.specs.declared.table.EventType.{EventType}
use Rattle.lin_history.specs.declared.table.EventType.TheVariants as types
use Rattle.lin_history.specs.declared.usual.Extent.{Extent}
use Rattle.lin_history.specs.declared.usual.ValueExtents.{ValueExtents}
use Rattle.lin_history.proofs.Bodies.{with_body, up_to_body}
use Rattle.lin_history.proofs.Maps.{bare_run}
use Rattle.lin_history.proofs.Saying.{item_bare, item_back, said_plain}

-- a kept run is the only value under its key
pub word_alone : (s : List ℕ) (levels : ℕ) (vs : List Value) (p : Extent) → p.at < p.until → IsPlaced s levels vs (Some p) → vs ≡ run_value p.at (slice_range s p.at p.until) ∷ []
word_alone s levels vs p lt there =
    let word = slice_range s p.at p.until in
    there.2 ∙ ap (λ v. bare v ∷ []) (there.3.1 lt) ∙ ap (λ v. v ∷ []) (bare_run p.at word)

-- an element at a kept place is the only value under its key
alone : ElementsAreUnique → (s : List ℕ) (levels : ℕ) (vs : List Value) (p : Extent) (v : Value) (used : ℕ) → levels ≤ 64 → IsPlaced s levels vs (Some p) →
    bare v ≡ v → Element 2 p.at (drop p.at s) v used (drop used s) → vs ≡ v ∷ []
alone unique s levels vs p v used few there whole here =
    let same : there.0 ≡ v = (unique levels 2 p.at there.1 used (drop p.at s) (drop there.1 s) (drop used s) there.0 v few (omega arith) there.3.0 here).0 in
    there.2 ∙ ap (λ w. w ∷ []) (ap bare same ∙ whole)

-- values that say the same as items, and are no pairs
same_body : (m : Reading) (t : EventType) (f : Name) (v w : Value) → val_of m v ≡ val_of m w → item_of m v ≡ item_of m w → pair_of v ≡ pair_of w → seen m v ≡ seen m w →
    body_of m t f v ≡ body_of m t f w
same_body m types.Invoke Read v w a b c d = refl
same_body m types.Invoke Write v w a b c d = ap (λ o. option_map body.Invoke (option_map call.Write o)) a
same_body m types.Invoke Cas v w a b c d = ap (λ o. option_map body.Invoke (option_and_then (cas_of m) o)) c
same_body m types.Invoke Enqueue v w a b c d = ap (λ o. option_map body.Invoke (option_map call.Enqueue o)) b
same_body m types.Invoke Dequeue v w a b c d = refl
same_body m types.Invoke Add v w a b c d = ap (λ o. option_map body.Invoke (option_map call.Add o)) b
same_body m types.Invoke Acquire v w a b c d = refl
same_body m types.Invoke Release v w a b c d = refl
same_body m types.Ok Read v w a b c d = ap (option_map (body.Ok Read)) d
same_body m types.Ok Write v w a b c d = refl
same_body m types.Ok Cas v w a b c d = refl
same_body m types.Ok Enqueue v w a b c d = refl
same_body m types.Ok Dequeue v w a b c d = ap (λ o. option_map (body.Ok Dequeue) (option_map Saw o)) a
same_body m types.Ok Add v w a b c d = refl
same_body m types.Ok Acquire v w a b c d = refl
same_body m types.Ok Release v w a b c d = refl
same_body m types.Fail f v w a b c d = refl
same_body m types.Info f v w a b c d = refl

as_plain : (v : Value) (o p : Option Spelled) → Some o ≡ Some p → TellSame v (value_of o) → TellSame v (value_of p)
as_plain v o p same tells = let is : o ≡ p = (cc) in subst (λ q. TellSame v (value_of q)) is tells

keyword_tells : (at : ℕ) (w : List ℕ) → TellSame (keyword at w) (keyword 0 w)
keyword_tells at w m t f = same_body m t f (keyword at w) (keyword 0 w) refl refl refl refl

text_tells : (at : ℕ) (w : List ℕ) → said_of (text at w) ≡ Some (said.word w) → TellSame (text at w) (keyword 0 w)
text_tells at w is m t f =
    let item = ap (option_map (numbered m.number)) is in
    same_body m t f (text at w) (keyword 0 w) (ap (option_map Held) item) item refl (ap (λ o. option_map Saw (option_map Held o)) item)

text_plain : (at : ℕ) (w : List ℕ) (p : Option Spelled) (b : Bool) → list_any is_newline w ≡ b → option_map Some (if b then None else Some (said.word w)) ≡ Some p →
    TellSame (text at w) (value_of p)
text_plain at w p true is h = absurd (none-some p h)
text_plain at w p false is h = as_plain (text at w) (Some (said.word w)) p h (text_tells at w (ap (λ (b : Bool). if b then None else Some (said.word w)) is))

-- a value that is nil or an item tells what another does that says the same
pub plain_tells : (v : Value) (p : Option Spelled) → plain_of v ≡ Some p → TellSame v (value_of p)
plain_tells nil p h = as_plain nil None p h (λ m t f. refl)
plain_tells (bool b) p h = as_plain (bool b) (Some (said.truth b)) p h (λ m t f. refl)
plain_tells (int i) p h = as_plain (int i) (Some (said.number i)) p h (λ m t f. refl)
plain_tells (atom at w) p h = absurd (none-some p h)
plain_tells (keyword at w) p h = as_plain (keyword at w) (Some (said.word w)) p h (keyword_tells at w)
plain_tells (text at w) p h = text_plain at w p (list_any is_newline w) refl h
plain_tells (list vs) p h = absurd (none-some p h)
plain_tells (vector vs) p h = absurd (none-some p h)
plain_tells (set vs) p h = absurd (none-some p h)
plain_tells (map es) p h = absurd (none-some p h)
plain_tells (tagged at w v) p h = absurd (none-some p h)

parts_like : (keyed : Bool) (vs : List Value) (w : Value) (key : Spelled) (u v : Value) → vs ≡ w ∷ [] → parts_said keyed w ≡ Some (key, u) → TellSame u v → AreParts keyed vs key v
parts_like keyed vs w key u v one parts same = subst (λ l. AreParts keyed l key v) (sym one) (refl, u, parts, same)

parts_alone : (keyed : Bool) (vs : List Value) (w : Value) (key : Spelled) (v : Value) → vs ≡ w ∷ [] → parts_said keyed w ≡ Some (key, v) → AreParts keyed vs key v
parts_alone keyed vs w key v one parts = parts_like keyed vs w key v v one parts (λ m t f. refl)

-- the parts of a pair whose key says an item
pair_said : (k v : Value) (key : Spelled) → bare k ≡ k → said_of k ≡ Some key → parts_said true (vector (values_of (k ∷ v ∷ []))) ≡ Some (key, bare v)
pair_said k v key whole says = ap (λ x. option_map (λ s. (s, bare v)) (said_of x)) whole ∙ ap (option_map (λ s. (s, bare v))) says

pair_there : ElementsAreUnique → (s : List ℕ) (levels most : ℕ) (vs : List Value) (p : Extent) (key : Spelled) (v : Value) (used : ℕ) → levels ≤ 64 → most ≤ 64 →
    IsPlaced s levels vs (Some p) → (pair : IsPair most s p.at key v used) → vs ≡ vector (values_of (pair.0 ∷ v ∷ [])) ∷ []
pair_there unique s levels most vs p key v used few low there pair =
    let whole = vector (values_of (pair.0 ∷ v ∷ [])) in
    let same : there.0 ≡ whole = (unique levels most p.at there.1 used (drop p.at s) (drop there.1 s) (drop used s) there.0 whole few low there.3.0 pair.3).0 in
    there.2 ∙ ap (λ w. bare w ∷ []) same

pub pair_parts : ElementsAreUnique → (s : List ℕ) (levels : ℕ) (vs : List Value) (p : Extent) (key : Spelled) (v : Value) (used : ℕ) → levels ≤ 64 → IsPlaced s levels vs (Some p) →
    bare v ≡ v → IsPair 2 s p.at key v used → AreParts true vs key v
pair_parts unique s levels vs p key v used few there whole pair =
    parts_alone true vs (vector (values_of (pair.0 ∷ v ∷ []))) key v (pair_there unique s levels 2 vs p key v used few (omega arith) there pair)
    (pair_said pair.0 v key pair.1 pair.2 ∙ ap (λ w. Some (key, w)) whole)

-- where the value is nil or an item
pub plain_pair_parts : ElementsAreUnique → (s : List ℕ) (levels : ℕ) (vs : List Value) (p : Extent) (key : Spelled) (v : Value) (o : Option Spelled) (used : ℕ) → levels ≤ 64 →
    IsPlaced s levels vs (Some p) → bare v ≡ v → plain_of v ≡ Some o → IsPair 2 s p.at key v used → AreParts true vs key (value_of o)
plain_pair_parts unique s levels vs p key v o used few there whole plain pair =
    parts_like true vs (vector (values_of (pair.0 ∷ v ∷ []))) key v (value_of o) (pair_there unique s levels 2 vs p key v used few (omega arith) there pair)
    (pair_said pair.0 v key pair.1 pair.2 ∙ ap (λ w. Some (key, w)) whole) (plain_tells v o plain)

pub word_parts : (vs : List Value) (v : Value) → vs ≡ v ∷ [] → AreParts false vs (said.number (pos 0)) v
word_parts vs v one = parts_alone false vs v (said.number (pos 0)) v one refl

pub plain_parts : (vs : List Value) (v : Value) (o : Option Spelled) → vs ≡ v ∷ [] → plain_of v ≡ Some o → AreParts false vs (said.number (pos 0)) (value_of o)
plain_parts vs v o one plain = parts_like false vs v (said.number (pos 0)) v (value_of o) one refl (plain_tells v o plain)

pub value_parts : ElementsAreUnique → (s : List ℕ) (levels : ℕ) (vs : List Value) (p : Extent) (v : Value) (used : ℕ) → levels ≤ 64 → IsPlaced s levels vs (Some p) →
    bare v ≡ v → Element 2 p.at (drop p.at s) v used (drop used s) → AreParts false vs (said.number (pos 0)) v
value_parts unique s levels vs p v used few there whole here = word_parts vs v (alone unique s levels vs p v used few there whole here)

-- a string
pub string_parts : ElementsAreUnique → (s : List ℕ) (levels : ℕ) (vs : List Value) (p : Extent) (v : Value) (key : Spelled) (used : ℕ) → levels ≤ 64 → IsPlaced s levels vs (Some p) →
    bare v ≡ v → said_of v ≡ Some key → Element 2 p.at (drop p.at s) v used (drop used s) → AreParts false vs (said.number (pos 0)) (value_of (Some key))
string_parts unique s levels vs p v key used few there whole says here =
    plain_parts vs v (Some key) (alone unique s levels vs p v used few there whole here) (said_plain v key says)

-- no value is nil
pub no_parts : (vs : List Value) → vs ≡ [] → AreParts false vs (said.number (pos 0)) nil
no_parts vs none = subst (λ l. AreParts false l (said.number (pos 0)) nil) (sym none) (refl, nil, refl, λ m t f. refl)

-- a number is no name
no_name : (v : Value) (n : ℕ) → process_of v ≡ Some n → is_by_keyword (v ∷ []) ≡ false
no_name nil n h = refl
no_name (bool b) n h = refl
no_name (int i) n h = refl
no_name (atom at w) n h = refl
no_name (keyword at w) n h = absurd (none-some n h)
no_name (text at w) n h = refl
no_name (list vs) n h = refl
no_name (vector vs) n h = refl
no_name (set vs) n h = refl
no_name (map es) n h = refl
no_name (tagged at w v) n h = refl

-- no key stands twice
few : (s : List ℕ) (levels : ℕ) (vs : List Value) (o : Option Extent) → IsPlaced s levels vs o → is_several vs ≡ false
few s levels vs None p = ap is_several p
few s levels vs (Some at) p = ap is_several p.2

-- the event of a usual map
usual_event_is : (m : Reading) (es : Entries) (a b d : Value) (n : ℕ) (told : Option Event) →
    under (codes ":process") es ≡ a ∷ [] → under (codes ":type") es ≡ b ∷ [] → under (codes ":f") es ≡ d ∷ [] → is_several (under (codes ":value") es) ≡ false →
    process_of a ≡ Some n → event_with m a b d (or_nil (under (codes ":value") es)) ≡ Ok told → event m (map es) ≡ Ok told
usual_event_is m es a b d n told first second third fourth process is = rw (first, second, third, fourth, no_name a n process) is

pub usual_told : (m : Reading) (es : Entries) (a b d : Value) (n : ℕ) (t : EventType) (f : Name) (told : Option Event) →
    under (codes ":process") es ≡ a ∷ [] → under (codes ":type") es ≡ b ∷ [] → under (codes ":f") es ≡ d ∷ [] →
    process_of a ≡ Some n → type_of b ≡ Some t → function_of d ≡ Some f → TellsWith m n t f (under (codes ":value") es) told → event m (map es) ≡ Ok told
usual_told m es a b d n t f told first second third process type function tells =
    usual_event_is m es a b d n told first second third tells.0 process (tells.1 a b d process type function)

named_under : (m : Reading) (v : Value) (ts fs vs : List Value) → is_by_keyword (v ∷ []) ≡ true → is_several ts ≡ false → is_several fs ≡ false → is_several vs ≡ false →
    event_under m (v ∷ []) ts fs vs ≡ Ok None
named_under m v ts fs vs h a b c = rw (a, b, c, h) refl

-- a word is a keyword
keyword_names : (w : List ℕ) (v : Value) → is_word w v ≡ true → is_by_keyword (v ∷ []) ≡ true
keyword_names w nil h = absurd (true≢false (sym h))
keyword_names w (bool b) h = absurd (true≢false (sym h))
keyword_names w (int i) h = absurd (true≢false (sym h))
keyword_names w (atom at u) h = absurd (true≢false (sym h))
keyword_names w (keyword at u) h = refl
keyword_names w (text at u) h = absurd (true≢false (sym h))
keyword_names w (list vs) h = absurd (true≢false (sym h))
keyword_names w (vector vs) h = absurd (true≢false (sym h))
keyword_names w (set vs) h = absurd (true≢false (sym h))
keyword_names w (map es) h = absurd (true≢false (sym h))
keyword_names w (tagged at u v) h = absurd (true≢false (sym h))

-- neither the nemesis nor a number is passed over for another keyword
pub nemesis_other : (v : Value) → is_word (codes ":nemesis") v ≡ true → other_keyword v ≡ []
nemesis_other nil h = refl
nemesis_other (bool b) h = refl
nemesis_other (int i) h = refl
nemesis_other (atom at u) h = refl
nemesis_other (keyword at u) h = ap (λ b. if b then [] else u ∷ []) h
nemesis_other (text at u) h = refl
nemesis_other (list vs) h = refl
nemesis_other (vector vs) h = refl
nemesis_other (set vs) h = refl
nemesis_other (map es) h = refl
nemesis_other (tagged at u v) h = refl

pub number_other : (v : Value) (n : ℕ) → process_of v ≡ Some n → other_keyword v ≡ []
number_other nil n h = refl
number_other (bool b) n h = refl
number_other (int i) n h = refl
number_other (atom at u) n h = refl
number_other (keyword at u) n h = absurd (cc)
number_other (text at u) n h = refl
number_other (list vs) n h = refl
number_other (vector vs) n h = refl
number_other (set vs) n h = refl
number_other (map es) n h = refl
number_other (tagged at u v) n h = refl

pub none_over : (es : Entries) (v : Value) → under (codes ":process") es ≡ v ∷ [] → other_keyword v ≡ [] → keyword_of (map es) ≡ []
none_over es v first none = ap (λ vs. other_keyword (or_nil vs)) first ∙ none

-- a usual map of the nemesis
pub usual_nemesis : (m : Reading) (s : List ℕ) (levels : ℕ) (es : Entries) (ps : ValueExtents) (v : Value) → ArePlaced s levels es ps →
    under (codes ":process") es ≡ v ∷ [] → is_word (codes ":nemesis") v ≡ true → event m (map es) ≡ Ok None
usual_nemesis m s levels es ps v are first named =
    rw first (named_under m v (under (codes ":type") es) (under (codes ":f") es) (under (codes ":value") es) (keyword_names (codes ":nemesis") v named)
    (few s levels (under (codes ":type") es) ps.event_type are.types) (few s levels (under (codes ":f") es) ps.function are.function)
    (few s levels (under (codes ":value") es) ps.value are.values))

-- the parts of a value at which nothing but a pair's key is looked
pub key_parts : ElementsAreUnique → (s : List ℕ) (levels : ℕ) (vs : List Value) (p : Extent) (key : Spelled) (v : Value) (used : ℕ) → levels ≤ 64 → IsPlaced s levels vs (Some p) →
    IsPair 63 s p.at key v used → AreParts true vs key (bare v)
key_parts unique s levels vs p key v used few there pair =
    parts_alone true vs (vector (values_of (pair.0 ∷ v ∷ []))) key (bare v) (pair_there unique s levels 63 vs p key v used few (omega arith) there pair)
    (pair_said pair.0 v key pair.1 pair.2)

pub whole_parts : (s : List ℕ) (levels : ℕ) (vs : List Value) (p : Extent) → IsPlaced s levels vs (Some p) → AreParts false vs (said.number (pos 0)) (or_nil vs)
whole_parts s levels vs p there = (few s levels vs (Some p) there, or_nil vs, refl, λ m t f. refl)

-- values with a key and nil
abbrev pub valueless : Bool → Spelled → List Value
valueless true key = vector (values_of (item_value key ∷ nil ∷ [])) ∷ []
valueless false key = []

pub valueless_parts : (keyed : Bool) (vs : List Value) (key : Spelled) (v : Value) → AreParts keyed vs key v → AreParts keyed (valueless keyed key) key nil
valueless_parts true vs key v parts = (refl, nil, pair_said (item_value key) nil key (item_bare key) (item_back key), λ m t f. refl)
valueless_parts false vs key v parts = (refl, nil, ap (option_map (λ (p : Spelled × Value). (p.0, nil))) parts.2, λ m t f. refl)

event_is : (m : Reading) (a b d : Value) (vs : List Value) (v : Value) (n : ℕ) (t : EventType) (f : Name) (key : Spelled) → process_of a ≡ Some n → type_of b ≡ Some t → function_of d ≡ Some f →
    AreParts m.keyed vs key v → event_with m a b d (or_nil vs) ≡ with_body n (numbered m.number key) (body_of m t f v)
event_is m a b d vs v n t f key process type function parts =
    up_to_body m a b d (or_nil vs) n t f (key, parts.1) (process, type, function, parts.2) ∙ ap (with_body n (numbered m.number key)) (parts.3 m t f)

-- where the body hangs on no value, any value tells what nil does
pub tells_same : (m : Reading) (n : ℕ) (t : EventType) (f : Name) (vs : List Value) (key : Spelled) (v : Value) (told : Option Event) →
    ((m : Reading) (v w : Value) → body_of m t f v ≡ body_of m t f w) → AreParts m.keyed vs key v → TellsWith m n t f (valueless m.keyed key) told → TellsWith m n t f vs told
tells_same m n t f vs key v told same parts tells = (
  parts.0,
  λ a b d process type function. event_is m a b d vs v n t f key process type function parts ∙ ap (with_body n (numbered m.number key)) (same m v nil)
      ∙ sym (event_is m a b d (valueless m.keyed key) nil n t f key process type function (valueless_parts m.keyed vs key v parts))
      ∙ tells.1 a b d process type function,
)

number_is : (value : Option ℤ) → value_of (option_map number_said value) ≡ number_value value
number_is None = refl
number_is (Some i) = refl

-- a map that holds nil or a number at most tells what few bytes hold
pub numbers_tell : (m : Reading) (n : ℕ) (t : EventType) (f : Name) (vs : List Value) (key : Spelled) (p : Option Spelled) (value : Option ℤ) (deed : Deed) (e : Event) →
    p ≡ option_map number_said value → body_of m t f (number_value value) ≡ Some (small_body deed) →
    e ≡ record { process = n; key = numbered m.number key; body = small_body deed } → AreParts m.keyed vs key (value_of p) → TellsWith m n t f vs (Some e)
numbers_tell m n t f vs key p value deed e is body there parts = (
  parts.0,
  λ a b d process type function. event_is m a b d vs (value_of p) n t f key process type function parts
      ∙ ap (λ v. with_body n (numbered m.number key) (body_of m t f v)) (ap value_of is ∙ number_is value) ∙ ap (with_body n (numbered m.number key)) body
      ∙ ap (λ o. Ok (Some o)) (sym there),
)

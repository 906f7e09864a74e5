-- A text has one stream.
use Rattle.std.proofs.Common.{◌≡◌, ℕ, ◌+◌, List, [], ◌++◌, Option, Some, None, Result, Ok, Err, drop, refl, sym, ap, ◌∙◌, subst, append_assoc, append-nil, zero-add}
use Rattle.std.proofs.lemmas.List.{drop-drop}
use Rattle.lin_edn.specs.Grammar.{ShortBlanks}
use Rattle.lin_edn.specs.Laws.{later, reading_later, ReadingsAreUnique, BlanksAreSkipped}
use Rattle.lin_edn.specs.Reading.{Reading, an_element, unfinished as is_unfinished, blanks as are_blanks, refused, Allows, IsWantOfMemory}
use Rattle.lin_edn.specs.Value.{Value}
use Rattle.lin_edn.specs.declared.EdnCause.{EdnCause}
use Rattle.lin_edn.specs.declared.EdnCause.TheVariants as edn
use Rattle.lin_history.specs.Reading.{Reading as Way}
use Rattle.lin_history.specs.inner.Reads.{behind}
use Rattle.lin_history.specs.Stream.{Told, told, Gives, nothing, blanks, element, IsStream, blank, unfinished, no_element, no_event, StreamsAreUnique}
use Rattle.lin_events.specs.declared.events.Event.{Event}
use Rattle.lin_history.specs.declared.table.EventFault.{EventFault}
use Rattle.lin_history.specs.declared.follow.FollowFault.{FollowFault}
use Rattle.lin_history.specs.declared.follow.FollowFault.TheVariants as fault
use Rattle.lin_history.proofs.Places.{told_later}
use Rattle.lin_history.proofs.Reading.{behind_twice}

-- how a text ends that allows no element
abbrev EndsAs : Reading → Result (Unit {0}) FollowFault → Type 0
EndsAs (an_element v at used) o = ⊥
EndsAs (are_blanks used) o = o ≡ Ok tt
EndsAs (is_unfinished at) o = o ≡ Err (fault.Truncated at)
EndsAs (refused at cause) o = o ≡ Err (fault.Edn at cause)

one_end : (a : Reading) (o x : Result (Unit {0}) FollowFault) → EndsAs a o → EndsAs a x → o ≡ x
one_end (an_element v at used) o x h k = absurd h
one_end (are_blanks used) o x h k = h ∙ sym k
one_end (is_unfinished at) o x h k = h ∙ sym k
one_end (refused at cause) o x h k = h ∙ sym k

end_later : (n : ℕ) (a : Reading) (o : Result (Unit {0}) FollowFault) → EndsAs a o → EndsAs (reading_later n a) (behind n o)
end_later n (an_element v at used) o h = h
end_later n (are_blanks used) o h = ap (behind n) h
end_later n (is_unfinished at) o h = ap (behind n) h
end_later n (refused at cause) o h = ap (behind n) h

known_later : (n : ℕ) (a : Reading) → (IsWantOfMemory a → ⊥) → IsWantOfMemory (reading_later n a) → ⊥
known_later n (an_element v at used) h w = w
known_later n (are_blanks used) h w = w
known_later n (is_unfinished at) h w = w
known_later n (refused at cause) h w = h w

-- the stream of a text, its first element first
data Runs : Way → List ℕ → List Event → Result (Unit {0}) FollowFault → Type 0 where
  ends : {k : Way} {s : List ℕ} {o : Result (Unit {0}) FollowFault} (a : Reading) → Allows s a → (IsWantOfMemory a → ⊥) → EndsAs a o → Runs k s [] o
  fails : {k : Way} {s : List ℕ} {es : List Event} {cause : EventFault} (v : Value) (at used : ℕ) →
      Allows s (an_element v at used) → told k v ≡ record { events = es; ends = Some cause } → Runs k s es (Err (fault.Event at cause))
  goes : {k : Way} {s : List ℕ} {es fs : List Event} {o : Result (Unit {0}) FollowFault} (v : Value) (at used : ℕ) →
      Allows s (an_element v at used) → told k v ≡ record { events = es; ends = None } → Runs k (drop used s) fs o → Runs k s (es ++ fs) (behind used o)

no_element_ends : (a : Reading) (v : Value) (at used : ℕ) (o : Result (Unit {0}) FollowFault) → a ≡ an_element v at used → EndsAs a o → ⊥
no_element_ends a v at used o e h = subst (λ r. EndsAs r o) e h

one_told : (t : Told) (es fs : List Event) (x y : Option EventFault) → t ≡ record { events = es; ends = x } → t ≡ record { events = fs; ends = y } → (es ≡ fs) × (x ≡ y)
one_told t es fs x y e f = (ap (λ u. u.events) (sym e ∙ f), ap (λ u. u.ends) (sym e ∙ f))

one_run : ReadingsAreUnique → {k : Way} {s : List ℕ} {a b : List Event} {x y : Result (Unit {0}) FollowFault} → Runs k s a x → Runs k s b y → (a ≡ b) × (x ≡ y)
one_run unique {s = s} {x = x} {y = y} (ends a h known e) (ends b i told f) =
    let same : a ≡ b = unique s a b h i known told in (refl, one_end b x y (subst (λ r. EndsAs r x) same e) f)
one_run unique {s = s} {x = x} (ends a h known e) (fails v at used i w) = absurd (no_element_ends a v at used x (unique s a (an_element v at used) h i known (λ z. z)) e)
one_run unique {s = s} {x = x} (ends a h known e) (goes v at used i w r) = absurd (no_element_ends a v at used x (unique s a (an_element v at used) h i known (λ z. z)) e)
one_run unique {s = s} {y = y} (fails v at used i w) (ends a h known e) = absurd (no_element_ends a v at used y (unique s a (an_element v at used) h i known (λ z. z)) e)
one_run unique {s = s} {y = y} (goes v at used i w r) (ends a h known e) = absurd (no_element_ends a v at used y (unique s a (an_element v at used) h i known (λ z. z)) e)
one_run unique {k = k} {s = s} (fails {es = es} {cause = c} v at used i w) (fails {es = fs} {cause = d} u from until j z) =
    let e : an_element v at used ≡ an_element u from until = unique s (an_element v at used) (an_element u from until) i j (λ z. z) (λ z. z) in
    let same : u ≡ v = (cc) in
    let place : at ≡ from = (cc) in
    let t = one_told (told k v) es fs (Some c) (Some d) w (ap (told k) (sym same) ∙ z) in
    let f = t.1 in (t.0, cc)
one_run unique {k = k} {s = s} (fails {es = es} {cause = c} v at used i w) (goes {es = fs} u from until j z r) =
    let e : an_element v at used ≡ an_element u from until = unique s (an_element v at used) (an_element u from until) i j (λ z. z) (λ z. z) in
    let same : u ≡ v = (cc) in
    let f = (one_told (told k v) es fs (Some c) None w (ap (told k) (sym same) ∙ z)).1 in absurd (cc)
one_run unique {k = k} {s = s} (goes {es = es} v at used i w r) (fails {es = fs} {cause = c} u from until j z) =
    let e : an_element v at used ≡ an_element u from until = unique s (an_element v at used) (an_element u from until) i j (λ z. z) (λ z. z) in
    let same : u ≡ v = (cc) in
    let f = (one_told (told k v) es fs None (Some c) w (ap (told k) (sym same) ∙ z)).1 in absurd (cc)
one_run unique {k = k} {s = s} (goes {es = es} {fs = hs} {o = o} v at used i w r) (goes {es = fs} {fs = bs} {o = x} u from until j z q) =
    let e : an_element v at used ≡ an_element u from until = unique s (an_element v at used) (an_element u from until) i j (λ z. z) (λ z. z) in
    let same : u ≡ v = (cc) in
    let length : until ≡ used = (cc) in
    let first : es ≡ fs = (one_told (told k v) es fs None None w (ap (told k) (sym same) ∙ z)).0 in
    let rest = one_run unique r (subst (λ n. Runs k (drop n s) bs x) length q) in
    (ap (λ l. l ++ hs) first ∙ ap (λ l. fs ++ l) rest.0, ap (behind used) rest.1 ∙ ap (λ n. behind n x) (sym length))

-- blanks in front
run_later : BlanksAreSkipped → {k : Way} {s t : List ℕ} {es : List Event} {o : Result (Unit {0}) FollowFault} (n : ℕ) → ShortBlanks s n t → Runs k (drop n s) es o → Runs k s es (behind n o)
run_later skip {s = s} {t = t} {o = o} n bs (ends a h known e) = ends (reading_later n a) (skip s t n a bs h known) (known_later n a known) (end_later n a o e)
run_later skip {k = k} {s = s} {t = t} n bs (fails v at used h w) =
    fails (later n v) (n + at) (n + used) (skip s t n (an_element v at used) bs h (λ z. z)) (told_later n k v ∙ w)
run_later skip {k = k} {s = s} {t = t} n bs (goes {es = es} {fs = fs} {o = o} v at used h w r) =
    let rest : Runs k (drop (n + used) s) fs o = subst (λ l. Runs k l fs o) (drop-drop used n s) r in
    subst (Runs k s (es ++ fs)) (behind_twice n used o) (goes (later n v) (n + at) (n + used) (skip s t n (an_element v at used) bs h (λ z. z)) (told_later n k v ∙ w) rest)

behind_none : (o : Result (Unit {0}) FollowFault) → behind 0 o ≡ o
behind_none (Ok u) = refl
behind_none (Err (fault.Edn at c)) = ap (λ n. Err (fault.Edn n c)) (zero-add at)
behind_none (Err (fault.Event at c)) = ap (λ n. Err (fault.Event n c)) (zero-add at)
behind_none (Err (fault.Truncated at)) = ap (λ n. Err (fault.Truncated n)) (zero-add at)
behind_none (Err fault.OutOfMemory) = refl
behind_none (Err fault.TooMuch) = refl

run_behind : BlanksAreSkipped → {k : Way} {s : List ℕ} {es fs : List Event} {o : Result (Unit {0}) FollowFault} {p : ℕ} → Gives k s es p → Runs k (drop p s) fs o → Runs k s (es ++ fs) (behind p o)
run_behind skip {k = k} {s = s} {fs = fs} {o = o} nothing r = subst (Runs k s fs) (sym (behind_none o)) r
run_behind skip {k = k} {s = s} {fs = fs} {o = o} (blanks {es = es} {p = p} {n = n} g b) r =
    let rest : Runs k (drop n (drop p s)) fs o = subst (λ l. Runs k l fs o) (sym (drop-drop n p s)) r in
    subst (Runs k s (es ++ fs)) (sym (behind_twice p n o)) (run_behind skip g (run_later skip n b rest))
run_behind skip {k = k} {s = s} {fs = fs} {o = o} (element {es = es} {fs = gs} {v = v} {p = p} {at = at} {used = used} g h w) r =
    let rest : Runs k (drop used (drop p s)) fs o = subst (λ l. Runs k l fs o) (sym (drop-drop used p s)) r in
    subst (λ l. Runs k s l (behind (p + used) o)) (sym (append_assoc es gs fs))
    (subst (Runs k s (es ++ (gs ++ fs))) (sym (behind_twice p used o)) (run_behind skip g (goes v at used h w rest)))

known : (cause : EdnCause) (at : ℕ) → (cause ≡ edn.OutOfMemory → ⊥) → IsWantOfMemory (refused at cause) → ⊥
known edn.Unbalanced at h w = w
known edn.OddMap at h w = w
known edn.TooDeep at h w = w
known edn.TooLong at h w = w
known edn.OutOfMemory at h w = h refl

run_of : BlanksAreSkipped → {k : Way} {s : List ℕ} {es : List Event} {o : Result (Unit {0}) FollowFault} → IsStream k s es o → Runs k s es o
run_of skip {k = k} {s = s} (blank {es = es} {used = used} g b) =
    subst (λ l. Runs k s l (Ok tt)) (append-nil es) (run_behind skip g (ends (are_blanks used) b (λ z. z) refl))
run_of skip {k = k} {s = s} (unfinished {es = es} {p = p} at g b) =
    subst (λ l. Runs k s l (Err (fault.Truncated (p + at)))) (append-nil es) (run_behind skip g (ends (is_unfinished at) b (λ z. z) refl))
run_of skip {k = k} {s = s} (no_element {es = es} {p = p} at cause g b c) =
    subst (λ l. Runs k s l (Err (fault.Edn (p + at) cause))) (append-nil es) (run_behind skip g (ends (refused at cause) b (known cause at c) refl))
run_of skip (no_event {v = v} {at = at} {used = used} g b w) = run_behind skip g (fails v at used b w)

pub one_stream : ReadingsAreUnique → BlanksAreSkipped → StreamsAreUnique
one_stream unique skip keyed s a b x y h k = one_run unique (run_of skip h) (run_of skip k)

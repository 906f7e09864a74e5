-- Streams read in parts, and streams that grow.
use Rattle.std.proofs.Common.{◌≡◌, ℕ, ◌+◌, ◌<◌, ◌≤◌, true, List, ◌++◌, Result, Err, drop, length, sym, ap, ◌∙◌, subst, arith, append_assoc, append-nil, add_assoc, add-zero, true≢false}
use Rattle.std.proofs.lemmas.List.{drop-drop, drop-append-le, length-drop}
use Rattle.lin_edn.specs.Value.{Value}
use Rattle.lin_edn.specs.Grammar.{Spells, ShortBlanks, IsBlankText, IsUnfinished}
use Rattle.lin_edn.specs.Reading.{Refuses}
use Rattle.lin_edn.specs.declared.EdnCause.{EdnCause}
use Rattle.lin_history.specs.Reading.{Reading}
use Rattle.lin_history.specs.Stream.{Gives, nothing, blanks, element, IsStream, blank, unfinished, no_element, no_event}
use Rattle.lin_history.specs.Sees.{is_fault}
use Rattle.lin_history.specs.inner.Reads.{behind}
use Rattle.lin_events.specs.declared.events.Event.{Event}
use Rattle.lin_history.specs.declared.follow.FollowFault.{FollowFault}
use Rattle.lin_history.specs.declared.follow.FollowFault.TheVariants as fault

-- the elements behind a place go on from it
pub gives_join : {k : Reading} {t s : List ℕ} {es0 es : List Event} {p q : ℕ} → Gives k t es0 p → Gives k s es q → s ≡ drop p t → Gives k t (es0 ++ es) (p + q)
gives_join {k} {t} {s} {es0} {es} {p} {q} g (nothing) e = subst (λ l. Gives k t l (p + 0)) (sym (append-nil es0)) (subst (λ n. Gives k t es0 n) (sym (add-zero p)) g)
gives_join {k} {t} {s} {es0} {es} {p} {q} g (blanks {t = u} {p = q'} {n = n} h b) e =
    let before : Gives k t (es0 ++ es) (p + q') = gives_join g h e in
    let same : drop q' s ≡ drop (p + q') t = ap (drop q') e ∙ drop-drop q' p t in
    subst (λ m. Gives k t (es0 ++ es) m) (add_assoc p q' n) (blanks before (subst (λ l. ShortBlanks l n u) same b))
gives_join {k} {t} {s} {es0} {es} {p} {q} g (element {es = fs} {fs = gs} {v = v} {p = q'} {at = at} {used = used} h b w) e =
    let before : Gives k t (es0 ++ fs) (p + q') = gives_join g h e in
    let same : drop q' s ≡ drop (p + q') t = ap (drop q') e ∙ drop-drop q' p t in
    let whole : Gives k t ((es0 ++ fs) ++ gs) ((p + q') + used) = element before (subst (λ l. Spells l v at used) same b) w in
    subst (λ m. Gives k t (es0 ++ (fs ++ gs)) m) (add_assoc p q' used) (subst (λ l. Gives k t l ((p + q') + used)) (append_assoc es0 fs gs) whole)

-- what the text behind a place is, the whole is from there on
pub stream_join : {k : Reading} {t s : List ℕ} {es0 es : List Event} {p : ℕ} {o : Result (Unit {0}) FollowFault} →
    Gives k t es0 p → IsStream k s es o → s ≡ drop p t → IsStream k t (es0 ++ es) (behind p o)
stream_join {k} {t} {s} {es0} {es} {p} {o} g (blank {p = q} {used = used} h b) e =
    let same : drop q s ≡ drop (p + q) t = ap (drop q) e ∙ drop-drop q p t in
    blank (gives_join g h e) (subst (λ l. IsBlankText l used) same b)
stream_join {k} {t} {s} {es0} {es} {p} {o} g (unfinished {p = q} at h b) e =
    let same : drop q s ≡ drop (p + q) t = ap (drop q) e ∙ drop-drop q p t in
    subst (λ m. IsStream k t (es0 ++ es) (Err (fault.Truncated m))) (add_assoc p q at) (unfinished at (gives_join g h e) (subst (λ l. IsUnfinished l at) same b))
stream_join {k} {t} {s} {es0} {es} {p} {o} g (no_element {p = q} at cause h b c) e =
    let same : drop q s ≡ drop (p + q) t = ap (drop q) e ∙ drop-drop q p t in
    subst (λ m. IsStream k t (es0 ++ es) (Err (fault.Edn m cause))) (add_assoc p q at) (no_element at cause (gives_join g h e) (subst (λ l. Refuses l at cause) same b) c)
stream_join {k} {t} {s} {es0} {es} {p} {o} g (no_event {es = fs} {fs = gs} {v = v} {p = q} {at = at} {used = used} {cause = cause} h b w) e =
    let same : drop q s ≡ drop (p + q) t = ap (drop q) e ∙ drop-drop q p t in
    let whole : IsStream k t ((es0 ++ fs) ++ gs) (Err (fault.Event ((p + q) + at) cause)) = no_event (gives_join g h e) (subst (λ l. Spells l v at used) same b) w in
    subst (λ m. IsStream k t (es0 ++ (fs ++ gs)) (Err (fault.Event m cause))) (add_assoc p q at)
    (subst (λ l. IsStream k t l (Err (fault.Event ((p + q) + at) cause))) (append_assoc es0 fs gs) whole)

abbrev pub SpelledStays : Type 0
SpelledStays = (s x : List ℕ) (v : Value) (at used : ℕ) → Spells s v at used → Spells (s ++ x) v at used

abbrev pub PassedStays : Type 0
PassedStays = (s x t : List ℕ) (n : ℕ) → ShortBlanks s n t → ShortBlanks (s ++ x) n (t ++ x)

abbrev pub RefusedStays : Type 0
RefusedStays = (s x : List ℕ) (at : ℕ) (cause : EdnCause) → Refuses s at cause → Refuses (s ++ x) at cause

abbrev pub SpelledInside : Type 0
SpelledInside = (s : List ℕ) (v : Value) (at used : ℕ) → Spells s v at used → (at < used) × (used ≤ length s)

abbrev pub PassedInside : Type 0
PassedInside = (s t : List ℕ) (n : ℕ) → ShortBlanks s n t → n ≤ length s

-- what is read ends inside the text
pub gives_inside : SpelledInside → PassedInside → {k : Reading} {s : List ℕ} {es : List Event} {p : ℕ} → Gives k s es p → p ≤ length s
gives_inside a b {k} {s} {es} {p} nothing = omega arith
gives_inside a b {k} {s} {es} {p} (blanks {t = t} {p = q} {n = n} h x) =
    let before : q ≤ length s = gives_inside a b h in
    let here : n ≤ length (drop q s) = b (drop q s) t n x in
    let size = length-drop q s in
    omega arith
gives_inside a b {k} {s} {es} {p} (element {v = v} {p = q} {at = at} {used = used} h x w) =
    let before : q ≤ length s = gives_inside a b h in
    let here : used ≤ length (drop q s) = (a (drop q s) v at used x).1 in
    let size = length-drop q s in
    omega arith

-- more bytes change nothing of what is read
pub gives_more : SpelledInside → PassedInside → SpelledStays → PassedStays → {k : Reading} {s : List ℕ} {es : List Event} {p : ℕ} (x : List ℕ) → Gives k s es p → Gives k (s ++ x) es p
gives_more a b f g {k} {s} {es} {p} x nothing = nothing
gives_more a b f g {k} {s} {es} {p} x (blanks {t = t} {p = q} {n = n} h y) =
    let inside : q ≤ length s = gives_inside a b h in
    blanks (gives_more a b f g x h) (subst (λ l. ShortBlanks l n (t ++ x)) (sym (drop-append-le q s x inside)) (g (drop q s) x t n y))
gives_more a b f g {k} {s} {es} {p} x (element {v = v} {p = q} {at = at} {used = used} h y w) =
    let inside : q ≤ length s = gives_inside a b h in
    element (gives_more a b f g x h) (subst (λ l. Spells l v at used) (sym (drop-append-le q s x inside)) (f (drop q s) x v at used y)) w

-- more bytes change nothing of a fault
pub fault_more : SpelledInside → PassedInside → SpelledStays → PassedStays → RefusedStays →
    {k : Reading} {s : List ℕ} {es : List Event} {o : Result (Unit {0}) FollowFault} (x : List ℕ) → is_fault o ≡ true → IsStream k s es o → IsStream k (s ++ x) es o
fault_more a b f g r {k} {s} {es} {o} x h (blank i y) = absurd (true≢false (sym h))
fault_more a b f g r {k} {s} {es} {o} x h (unfinished at i y) = absurd (true≢false (sym h))
fault_more a b f g r {k} {s} {es} {o} x h (no_element {p = q} at cause i y c) =
    no_element at cause (gives_more a b f g x i) (subst (λ l. Refuses l at cause) (sym (drop-append-le q s x (gives_inside a b i))) (r (drop q s) x at cause y)) c
fault_more a b f g r {k} {s} {es} {o} x h (no_event {v = v} {p = q} {at = at} {used = used} i y w) =
    no_event (gives_more a b f g x i) (subst (λ l. Spells l v at used) (sym (drop-append-le q s x (gives_inside a b i))) (f (drop q s) x v at used y)) w

-- Counting the maps that are passed over.
use Rattle.std.proofs.Common.{inl, inr, map, get_or, drop-cons, ◌≡◌, ℕ, suc, ◌+◌, ◌-◌, ◌^◌, ◌<◌, ◌≤◌, ◌==◌, min, Bool, true, false, if◌then◌else◌, List, [], ◌∷◌, ◌++◌, Option, Some, None, Result, Ok, Err, take, drop, length, refl, sym, ap, ◌∙◌, subst, arith, append_assoc, append-nil, add_assoc, add-zero, zero-add, length-append}
use Rattle.std.proofs.lemmas.Bool.{cases_lt}
use Rattle.std.proofs.lemmas.Bool.Decides.{nat_tests}
use Rattle.std.proofs.lemmas.List.{drop-drop, drop-append-le, length-drop, length-take-le, take-append-le, take_all}
use Rattle.lin_edn.specs.Value.{Value, values_of}
use Rattle.lin_edn.specs.View.{view}
use Rattle.lin_edn.specs.declared.Edn.{Edn}
use Rattle.lin_edn.specs.Grammar.{Spells, ShortBlanks, IsBlankText}
use Rattle.lin_edn.specs.Rows.{IsBehind, value_in}
use Rattle.lin_history.specs.Counts.{Passed, none_passed}
use Rattle.lin_history.specs.PassedMaps.{PassesOver, nothing, blanks, element, ArePassedOver, counted, keyword_of, keywords_of, keywords_in}
use Rattle.lin_history.specs.Table.{bare}
use Rattle.lin_history.specs.declared.follow.FollowFault.{FollowFault}
use Rattle.lin_history.specs.declared.follow.FollowFault.TheVariants as fault
use Rattle.lin_history.specs.inner.Reads.{behind}
use Rattle.lin_history.specs.inner.Passing.{added, or_first, passed_more, IsOver}
use Rattle.lin_history.proofs.Streams.{SpelledStays, PassedStays, SpelledInside, PassedInside}

first_twice : (f : Option (List ℕ)) (u w : List ℕ) → or_first (or_first f (Some u)) (Some w) ≡ or_first f (Some u)
first_twice None u w = refl
first_twice (Some x) u w = refl

count_twice : (n a b c m : ℕ) → c ≡ a + b → min (min (n + a) m + b) m ≡ min (n + c) m
count_twice n a b c m is = omega arith

-- some, and then some more
pub more_twice : (p : Passed) (a b : List (List ℕ)) → passed_more (passed_more p a) b ≡ passed_more p (a ++ b)
more_twice p [] b = refl
more_twice p (u ∷ a) [] = ap (passed_more p) (sym (append-nil (u ∷ a)))
more_twice p (u ∷ a) (w ∷ b) =
    ap (λ n. record { count = n; first = or_first (or_first p.first (Some (take 40 u))) (Some (take 40 w)) })
    (count_twice p.count (length (u ∷ a)) (length (w ∷ b)) (length ((u ∷ a) ++ w ∷ b)) (2 ^ 64 - 1) (length-append (u ∷ a) (w ∷ b)))
    ∙ ap (λ f. record { count = min (p.count + length ((u ∷ a) ++ w ∷ b)) (2 ^ 64 - 1); first = f }) (first_twice p.first (take 40 u) (take 40 w))

from_none : (ws : List (List ℕ)) → passed_more none_passed ws ≡ counted ws
from_none [] = refl
from_none (w ∷ ws) = ap (λ n. record { count = min n (2 ^ 64 - 1); first = Some (take 40 w) }) (zero-add (length (w ∷ ws)))

-- what is counted, and some more
pub counted_more : (ws vs : List (List ℕ)) → passed_more (counted ws) vs ≡ counted (ws ++ vs)
counted_more ws vs = ap (λ p. passed_more p vs) (sym (from_none ws)) ∙ more_twice none_passed ws vs ∙ from_none (ws ++ vs)

count_added : (n k m : ℕ) → min (n + min (suc k) m) m ≡ min (n + suc k) m
count_added n k m = omega arith

nonzero : (n : ℕ) → 0 < n → (n == 0) ≡ false
nonzero n h = grind (arith, nat_tests)

some_count : (k : ℕ) → (min (suc k) (2 ^ 64 - 1) == 0) ≡ false
some_count k = nonzero (min (suc k) (2 ^ 64 - 1)) (omega arith)

pub added_counted : (p : Passed) (ws : List (List ℕ)) → added p (counted ws) ≡ passed_more p ws
added_counted p [] = refl
added_counted p (w ∷ ws) =
    ap (λ b. if b then p else record { count = min (p.count + min (length (w ∷ ws)) (2 ^ 64 - 1)) (2 ^ 64 - 1); first = or_first p.first (Some (take 40 w)) })
    (some_count (length ws))
    ∙ ap (λ n. record { count = n; first = or_first p.first (Some (take 40 w)) }) (count_added p.count (length ws) (2 ^ 64 - 1))

-- one more map
pub one_more_keyword : (vs : List Value) (v : Value) → keywords_of (values_of (vs ++ v ∷ [])) ≡ keywords_of (values_of vs) ++ keyword_of (bare v)
one_more_keyword [] v = append-nil (keyword_of (bare v))
one_more_keyword (w ∷ vs) v = ap (λ l. keyword_of (bare w) ++ l) (one_more_keyword vs v) ∙ sym (append_assoc (keyword_of (bare w)) (keywords_of (values_of vs)) (keyword_of (bare v)))

pub row_more : (p q : Passed) (vs : List Value) (v : Value) → p ≡ counted (keywords_of (values_of vs)) → q ≡ passed_more p (keyword_of (bare v)) →
    q ≡ counted (keywords_of (values_of (vs ++ v ∷ [])))
row_more p q vs v before is =
    is ∙ ap (λ x. passed_more x (keyword_of (bare v))) before ∙ counted_more (keywords_of (values_of vs)) (keyword_of (bare v)) ∙ ap counted (sym (one_more_keyword vs v))

-- a map that isn't passed over
pub row_same : (p : Passed) (vs : List Value) (v : Value) → p ≡ counted (keywords_of (values_of vs)) → keyword_of (bare v) ≡ [] → p ≡ counted (keywords_of (values_of (vs ++ v ∷ [])))
row_same p vs v before none = row_more p p vs v before (ap (passed_more p) (sym none))

-- the maps of a list or vector, with a tag in front of it or none
pub row_keywords : (is_tagged b : Bool) (vs : List Value) (v : Value) → IsBehind is_tagged (value_in b vs) v → keywords_in v ≡ keywords_of (values_of vs)
row_keywords true true vs v h = ap keywords_in h.2
row_keywords true false vs v h = ap keywords_in h.2
row_keywords false true vs v h = ap keywords_in h
row_keywords false false vs v h = ap keywords_in h

-- the elements behind a place go on from it
pub passes_join : {t s : List ℕ} {us ws : List (List ℕ)} {p q : ℕ} → PassesOver t us p → PassesOver s ws q → s ≡ drop p t → PassesOver t (us ++ ws) (p + q)
passes_join {t} {s} {us} {ws} {p} {q} g nothing e = subst (λ l. PassesOver t l (p + 0)) (sym (append-nil us)) (subst (λ n. PassesOver t us n) (sym (add-zero p)) g)
passes_join {t} {s} {us} {ws} {p} {q} g (blanks {t = u} {p = q'} {n = n} h b) e =
    let same : drop q' s ≡ drop (p + q') t = ap (drop q') e ∙ drop-drop q' p t in
    subst (λ m. PassesOver t (us ++ ws) m) (add_assoc p q' n) (blanks (passes_join g h e) (subst (λ l. ShortBlanks l n u) same b))
passes_join {t} {s} {us} {ws} {p} {q} g (element {ws = vs} {v = v} {p = q'} {at = at} {used = used} h b) e =
    let same : drop q' s ≡ drop (p + q') t = ap (drop q') e ∙ drop-drop q' p t in
    let whole : PassesOver t ((us ++ vs) ++ keywords_in v) ((p + q') + used) = element (passes_join g h e) (subst (λ l. Spells l v at used) same b) in
    subst (λ m. PassesOver t (us ++ (vs ++ keywords_in v)) m) (add_assoc p q' used)
    (subst (λ l. PassesOver t l ((p + q') + used)) (append_assoc us vs (keywords_in v)) whole)

-- more bytes change nothing of them
passes_inside : SpelledInside → PassedInside → {s : List ℕ} {ws : List (List ℕ)} {p : ℕ} → PassesOver s ws p → p ≤ length s
passes_inside a b {s} {ws} {p} nothing = omega arith
passes_inside a b {s} {ws} {p} (blanks {t = t} {p = q} {n = n} h x) =
    let before : q ≤ length s = passes_inside a b h in
    let here : n ≤ length (drop q s) = b (drop q s) t n x in
    let size = length-drop q s in
    omega arith
passes_inside a b {s} {ws} {p} (element {v = v} {p = q} {at = at} {used = used} h x) =
    let before : q ≤ length s = passes_inside a b h in
    let here : used ≤ length (drop q s) = (a (drop q s) v at used x).1 in
    let size = length-drop q s in
    omega arith

pub passes_more : SpelledInside → PassedInside → SpelledStays → PassedStays → {s : List ℕ} {ws : List (List ℕ)} {p : ℕ} (x : List ℕ) → PassesOver s ws p → PassesOver (s ++ x) ws p
passes_more a b f g {s} {ws} {p} x nothing = nothing
passes_more a b f g {s} {ws} {p} x (blanks {t = t} {p = q} {n = n} h y) =
    blanks (passes_more a b f g x h) (subst (λ l. ShortBlanks l n (t ++ x)) (sym (drop-append-le q s x (passes_inside a b h))) (g (drop q s) x t n y))
passes_more a b f g {s} {ws} {p} x (element {v = v} {p = q} {at = at} {used = used} h y) =
    element (passes_more a b f g x h) (subst (λ l. Spells l v at used) (sym (drop-append-le q s x (passes_inside a b h))) (f (drop q s) x v at used y))

pub all_join : {t s : List ℕ} {us ws : List (List ℕ)} {p : ℕ} → PassesOver t us p → ArePassedOver s ws → s ≡ drop p t → ArePassedOver t (us ++ ws)
all_join {t} {s} {us} {ws} {p} g all e =
    let same : drop all.0 s ≡ drop (p + all.0) t = ap (drop all.0) e ∙ drop-drop all.0 p t in
    (p + all.0, all.1, passes_join g all.2 e, subst (λ l. IsBlankText l all.1) same all.3)

-- an outcome without fault, whichever place it counts from
pub ok_behind : (p : ℕ) (o : Result (Unit {0}) FollowFault) → behind p o ≡ Ok tt → o ≡ Ok tt
ok_behind p (Ok u) h = refl
ok_behind p (Err (fault.Edn at c)) h = absurd (cc)
ok_behind p (Err (fault.Event at c)) h = absurd (cc)
ok_behind p (Err (fault.Truncated at)) h = absurd (cc)
ok_behind p (Err fault.OutOfMemory) h = absurd (cc)
ok_behind p (Err fault.TooMuch) h = absurd (cc)

-- what is counted up to a place of a text, and on from there
pub over_join : (t s : List ℕ) (old mid new : Passed) (us : List (List ℕ)) (p used : ℕ) (o : Result (Unit {0}) FollowFault) → PassesOver t us p → mid ≡ passed_more old us →
    IsOver s o mid new used → s ≡ drop p t → IsOver t (behind p o) old new (p + used)
over_join t s old mid new us p used o g first over e = (
  us ++ over.0,
  passes_join g over.1 e,
  over.2 ∙ ap (λ x. passed_more x over.0) first ∙ more_twice old us over.0,
  λ ok. all_join g (over.3 (ok_behind p o ok)) e,
)

-- nothing is counted
pub over_nothing : (t : List ℕ) (o : Result (Unit {0}) FollowFault) (old : Passed) (used : ℕ) → PassesOver t [] used → (o ≡ Ok tt → ArePassedOver t []) → IsOver t o old old used
over_nothing t o old used g all = ([], g, refl, all)

-- what is counted of a stream, and on from there
pub counted_on : (t s : List ℕ) (mid new : Passed) (us : List (List ℕ)) (p used : ℕ) (o x : Result (Unit {0}) FollowFault) → PassesOver t us p → mid ≡ counted us →
    IsOver s o mid new used → s ≡ drop p t → x ≡ behind p o →
    (ws : List (List ℕ)) × PassesOver t ws (p + used) × (new ≡ counted ws) × (x ≡ Ok tt → ArePassedOver t ws)
counted_on t s mid new us p used o x g so_far over e is = (
  us ++ over.0,
  passes_join g over.1 e,
  over.2 ∙ ap (λ y. passed_more y over.0) so_far ∙ counted_more us over.0,
  λ ok. all_join g (over.3 (ok_behind p o (sym is ∙ ok))) e,
)

-- how a word begins, with something behind it
pub begun_is : (size : ℕ) (copied rest word : List ℕ) → size ≡ min (length word) 40 → copied ≡ take size word → take size (copied ++ rest) ≡ take 40 word
begun_is size copied rest word is copy =
    let within : size ≤ length word = omega (arith, is) in
    let long : length copied ≡ size = ap length copy ∙ length-take-le size word within in
    take-append-le size copied rest (omega (arith, long)) ∙ ap (take size) copy
    ∙ take_all size (take size word) (omega (arith, length-take-le size word within)) ∙ elim (cases_lt (length word) 40) [
      | inl lt ↦ take_all size word (omega (arith, is, lt)) ∙ sym (take_all 40 word (omega (arith, lt)))
      | inr ge ↦ (let all : size ≡ 40 = omega (arith, is, ge) in ap (λ n. take n word) all)
    ]

-- one map of several
pub keywords_step : (es : List Edn) (n : ℕ) (d : Edn) → n < length es → d ≡ get_or es n d →
    keywords_of (values_of (map view (drop n es))) ≡ keyword_of (bare (view d)) ++ keywords_of (values_of (map view (drop (n + 1) es)))
keywords_step es n d h is =
    let next : suc n ≡ n + 1 = omega arith in
    ap (λ l. keywords_of (values_of (map view l))) (drop-cons es n d h)
    ∙ ap (λ i. keyword_of (bare (view (get_or es n d))) ++ keywords_of (values_of (map view (drop i es)))) next
    ∙ ap (λ e. keyword_of (bare (view e)) ++ keywords_of (values_of (map view (drop (n + 1) es)))) (sym is)

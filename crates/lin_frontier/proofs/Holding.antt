-- What is kept of the operations: first those that crashed, then the others.
use Rattle.std.proofs.Common.{◌≡◌, ◌+◌, ◌-◌, ◌<◌, ◌≤◌, ℕ, zero, suc, Bool, false, ◌||◌, nat_lt, List, [], ◌∷◌, ◌++◌, length, refl, sym, ap, ◌∙◌, subst, arith, append_assoc, get_or, set, take, drop, map, filter, cond, All, IsTrue}
use Rattle.std.specs.List.{remove, swap}
use Rattle.std.specs.List.Sorted.{IsPermutation}
use Rattle.std.proofs.lemmas.List.Sorted.{IsPermutation-append_comm, IsPermutation-append_right}
use Rattle.std.proofs.lemmas.List.{append-nil, drop-append-le, get_or-take, length-append, length-drop, length-map, length-set, length-take, length-take-le, set-set, take-append-drop, take-append-le, take_all, take_rest, take-take}
use Rattle.std.proofs.lemmas.List.Edits.{swap_is}
use Rattle.std.proofs.lemmas.List.Elements.{All-cons, All-filter, All-head, All-map, All-tail, filter-append}
use Rattle.lin_frontier.specs.declared.pending.Open.{Open}
use Rattle.lin_frontier.specs.declared.opens.OpenMark.{OpenMark}
use Rattle.lin_frontier.specs.Opens.{IsEarlier, called_before, fresh}
use Rattle.lin_frontier.proofs.Marks.{before_append, before_before, fronts, in_turn, same, then_open}

abbrev pub HasCrashed : Open → Type 0
HasCrashed o = IsTrue o.crashed

abbrev pub IsAlive : Open → Type 0
IsAlive o = o.crashed ≡ false

-- one more behind
pub push_all : (P : Open → Type 0) (xs : List Open) (x : Open) → All P xs → P x → All P (xs ++ x ∷ [])
push_all P [] x all one = All-cons P x [] one all
push_all P (y ∷ ys) x all one = All-cons P y (ys ++ x ∷ []) (All-head P y ys all) (push_all P ys x (All-tail P y ys all) one)

join_all : (P : Open → Type 0) (xs ys : List Open) → All P xs → All P ys → All P (xs ++ ys)
join_all P [] ys left right = right
join_all P (x ∷ xs) ys left right = All-cons P x (xs ++ ys) (All-head P x xs left) (join_all P xs ys (All-tail P x xs left) right)

set_all : (P : Open → Type 0) (xs : List Open) (i : ℕ) (x : Open) → All P xs → P x → All P (set xs i x)
set_all P [] i x all one = all
set_all P (y ∷ ys) zero x all one = All-cons P x ys one (All-tail P y ys all)
set_all P (y ∷ ys) (suc i) x all one = All-cons P y (set ys i x) (All-head P y ys all) (set_all P ys i x (All-tail P y ys all) one)

get_set : (xs : List Open) (i : ℕ) (y d : Open) → i < length xs → get_or (set xs i y) i d ≡ y
get_set [] i y d inside = absurd (omega arith)
get_set (x ∷ xs) zero y d inside = refl
get_set (x ∷ xs) (suc i) y d inside = get_set xs i y d (omega arith)

-- one crashes
crash_set : (xs : List Open) (c i : ℕ) (y : Open) → c ≤ i → i < length xs → HasCrashed y → All HasCrashed (take c xs) → All IsAlive (drop c xs)
    → All HasCrashed (take (suc c) (set (set (set xs i y) c (get_or (set xs i y) i y)) i (get_or (set xs i y) c y))) × All IsAlive (drop (suc c) (set (set (set xs i y) c (get_or (set xs i y) i y)) i (get_or (set xs i y) c y)))
crash_set [] c i y before inside is front behind = absurd (omega arith)
crash_set (x ∷ xs) zero zero y before inside is front behind = (All-cons HasCrashed y [] is (λ k d l. absurd (omega arith)), All-tail IsAlive x xs behind)
crash_set (x ∷ xs) zero (suc i) y before inside is front behind = (
  subst (λ z. All HasCrashed (z ∷ [])) (sym (get_set xs i y y (omega arith))) (All-cons HasCrashed y [] is (λ k d l. absurd (omega arith))),
  subst (All IsAlive) (sym (set-set xs i y x)) (set_all IsAlive xs i x (All-tail IsAlive x xs behind) (All-head IsAlive x xs behind)),
)
crash_set (x ∷ xs) (suc c) zero y before inside is front behind = absurd (omega arith)
crash_set (x ∷ xs) (suc c) (suc i) y before inside is front behind =
    let rest = crash_set xs c i y (omega arith) (omega arith) is (All-tail HasCrashed x (take c xs) front) behind in
    (All-cons HasCrashed x _ (All-head HasCrashed x (take c xs) front) rest.0, rest.1)

pub crash_holds : (xs : List Open) (c i : ℕ) (y : Open) → c ≤ i → i < length xs → HasCrashed y → All HasCrashed (take c xs) → All IsAlive (drop c xs)
    → All HasCrashed (take (c + 1) (swap (set xs i y) c i)) × All IsAlive (drop (c + 1) (swap (set xs i y) c i))
crash_holds xs c i y before inside is front behind =
    let long = length-set xs i y in
    let same = swap_is (set xs i y) c i y (omega (arith, long)) (omega (arith, long)) in
    let one : suc c ≡ c + 1 = omega arith in
    let both = crash_set xs c i y before inside is front behind in (
      subst (λ n. All HasCrashed (take n (swap (set xs i y) c i))) one (subst (λ l. All HasCrashed (take (suc c) l)) same both.0),
      subst (λ n. All IsAlive (drop n (swap (set xs i y) c i))) one (subst (λ l. All IsAlive (drop (suc c) l)) same both.1),
    )

-- one ends
pub end_holds : (xs : List Open) (c i : ℕ) → c ≤ i → All HasCrashed (take c xs) → All IsAlive (drop c xs) → All HasCrashed (take c (remove xs i)) × All IsAlive (drop c (remove xs i))
end_holds [] c zero before front behind = (front, behind)
end_holds [] c (suc i) before front behind = (front, behind)
end_holds (x ∷ xs) zero zero before front behind = (λ k d l. absurd (omega arith), All-tail IsAlive x xs behind)
end_holds (x ∷ xs) zero (suc i) before front behind =
    let rest = end_holds xs zero i (omega arith) (λ k d l. absurd (omega arith)) (All-tail IsAlive x xs behind) in
    (λ k d l. absurd (omega arith), All-cons IsAlive x (remove xs i) (All-head IsAlive x xs behind) rest.1)
end_holds (x ∷ xs) (suc c) zero before front behind = absurd (omega arith)
end_holds (x ∷ xs) (suc c) (suc i) before front behind =
    let rest = end_holds xs c i (omega arith) (All-tail HasCrashed x (take c xs) front) behind in
    (All-cons HasCrashed x (take c (remove xs i)) (All-head HasCrashed x (take c xs) front) rest.0, rest.1)

-- what a way back to a mark leaves
module _ (place : ℕ) where
  abbrev pub stays : Open → Bool
  stays o = o.crashed || nat_lt o.at place

  stay_all : (xs : List Open) → All HasCrashed xs → filter stays xs ≡ xs
  stay_all [] all = refl
  stay_all (x ∷ xs) all = ap (λ b. cond (b || nat_lt x.at place) (x ∷ filter stays xs) (filter stays xs)) (All-head HasCrashed x xs all) ∙ ap (λ l. x ∷ l) (stay_all xs (All-tail HasCrashed x xs all))

  stay_fresh : (xs : List Open) → filter stays (map fresh xs) ≡ called_before place xs
  stay_fresh [] = refl
  stay_fresh (x ∷ xs) = ap (λ l. cond (nat_lt x.at place) (fresh x ∷ l) l) (stay_fresh xs)

  pub left : (front behind : List Open) → All HasCrashed front → filter stays (front ++ map fresh behind) ≡ front ++ called_before place behind
  left front behind all = filter-append stays front (map fresh behind) ∙ ap (λ l. l ++ filter stays (map fresh behind)) (stay_all front all) ∙ ap (λ l. front ++ l) (stay_fresh behind)

  pub alive_before : (xs : List Open) → All IsAlive (called_before place xs)
  alive_before xs = All-filter (λ o. nat_lt o.at place) IsAlive (map fresh xs) (All-map IsAlive fresh xs (λ k d l. refl))

drop_all : {A : Type 0} (n : ℕ) (xs : List A) → length xs ≤ n → drop n xs ≡ []
drop_all zero [] past = refl
drop_all zero (x ∷ xs) past = absurd (omega arith)
drop_all (suc n) [] past = refl
drop_all (suc n) (x ∷ xs) past = drop_all n xs (omega arith)

-- the first ones of two lists, and the rest
pub take_front : (front behind : List Open) (n : ℕ) → length front ≡ n → take n (front ++ behind) ≡ front
take_front front behind n is = take-append-le n front behind (omega (arith, is)) ∙ take_all n front (omega (arith, is))

pub drop_front : (front behind : List Open) (n : ℕ) → length front ≡ n → drop n (front ++ behind) ≡ behind
drop_front front behind n is = drop-append-le n front behind (omega (arith, is)) ∙ ap (λ l. l ++ behind) (drop_all n front (omega (arith, is)))

pub fewer_all : (P : Open → Type 0) (xs : List Open) (k c : ℕ) → k ≤ c → All P (take c xs) → All P (take k xs)
fewer_all P xs k c below all i d inside =
    let few = length-take k xs in
    let many = length-take c xs in
    subst P (get_or-take c xs i d (omega (arith, inside, few)) ∙ sym (get_or-take k xs i d (omega (arith, inside, few)))) (all i d (omega (arith, inside, few, many)))

-- those behind some are changed in their place
pub written : (c len : ℕ) (s operations freshened rest : List Open) → s ≡ operations → len ≡ length operations → c ≤ length operations → freshened ≡ map fresh (take (length s - c) (drop c s)) → rest ≡ drop (length s - c) (drop c s)
    → take len ((take c s ++ (freshened ++ rest)) ++ drop (length (take c s ++ (freshened ++ rest))) operations) ≡ take c operations ++ map fresh (drop c operations)
written c len s operations freshened rest same is fits made none =
    ap (λ l. take len (l ++ drop (length l) operations)) whole
    ∙ ap (λ l. take len (all ++ l)) (drop_all (length all) operations (omega (arith, long)))
    ∙ ap (take len) (append-nil all)
    ∙ take_all len all (omega (arith, long, is))
  where
    all : List Open
    all = take c operations ++ map fresh (drop c operations)

    long : length all ≡ length operations
    long = length-append (take c operations) (map fresh (drop c operations)) ∙ (let a = length-take-le c operations fits in let b = length-map (drop c operations) fresh in let d = length-drop c operations in omega (arith, a, b, d, fits))

    whole : take c s ++ (freshened ++ rest) ≡ all
    whole =
        ap (λ l. take c s ++ (freshened ++ l)) (none ∙ ap (λ l. drop (length l - c) (drop c l)) same ∙ drop_all (length operations - c) (drop c operations) (omega (arith, length-drop c operations)))
        ∙ ap (λ l. take c s ++ l) (append-nil freshened ∙ made ∙ ap (λ l. map fresh (take (length l - c) (drop c l))) same ∙ ap (map fresh) (take_rest operations c))
        ∙ ap (λ l. take c l ++ map fresh (drop c operations)) same

-- earlier marks, once one went back to a later one
pub back_to : (place earlier : ℕ) (xs ended : List Open) (mark other : OpenMark) → earlier ≤ place → IsEarlier other mark → mark.crashed ≤ length xs → mark.ended ≤ length ended
    → IsPermutation (then_open earlier xs ended other) (then_open earlier (take mark.crashed xs ++ called_before place (drop mark.crashed xs ++ drop mark.ended ended)) (take mark.ended ended) other)
back_to place earlier xs ended mark other below ahead fits kept =
    fronts earlier other xs (front ++ now) ended before
    (take-append-le other.crashed front now (omega (arith, front_len, ahead.0)) ∙ take-take other.crashed mark.crashed xs ahead.0)
    (in_turn earlier
    (same earlier (ap (λ l. called_before earlier (l ++ drop other.ended ended)) split_open ∙ ap (λ l. called_before earlier ((a ++ x) ++ l)) split_ended ∙ before_append earlier (a ++ x) (z ++ y) ∙ ap (λ l. called_before earlier (a ++ x) ++ l) (before_append earlier z y)))
    (in_turn earlier (IsPermutation-append_right (called_before earlier (a ++ x)) (called_before earlier z ++ called_before earlier y) (called_before earlier y ++ called_before earlier z) (IsPermutation-append_comm (called_before earlier z) (called_before earlier y)))
    (same earlier (sym (append_assoc (called_before earlier (a ++ x)) (called_before earlier y) (called_before earlier z)) ∙ ap (λ l. l ++ called_before earlier z) joined ∙ sym (before_append earlier (a ++ now) z)
    ∙ ap (λ l. called_before earlier (l ++ z)) (sym (drop-append-le other.crashed front now (omega (arith, front_len, ahead.0))))))))
  where
    front : List Open
    front = take mark.crashed xs

    x : List Open
    x = drop mark.crashed xs

    before : List Open
    before = take mark.ended ended

    y : List Open
    y = drop mark.ended ended

    now : List Open
    now = called_before place (x ++ y)

    a : List Open
    a = drop other.crashed front

    z : List Open
    z = drop other.ended before

    front_len : length front ≡ mark.crashed
    front_len = length-take-le mark.crashed xs fits

    before_len : length before ≡ mark.ended
    before_len = length-take-le mark.ended ended kept

    split_open : drop other.crashed xs ≡ a ++ x
    split_open = ap (drop other.crashed) (sym (take-append-drop mark.crashed xs)) ∙ drop-append-le other.crashed front x (omega (arith, front_len, ahead.0))

    split_ended : drop other.ended ended ≡ z ++ y
    split_ended = ap (drop other.ended) (sym (take-append-drop mark.ended ended)) ∙ drop-append-le other.ended before y (omega (arith, before_len, ahead.1))

    joined : called_before earlier (a ++ x) ++ called_before earlier y ≡ called_before earlier (a ++ now)
    joined =
        sym (before_append earlier (a ++ x) y) ∙ ap (called_before earlier) (append_assoc a x y) ∙ before_append earlier a (x ++ y)
        ∙ ap (λ l. called_before earlier a ++ l) (sym (before_before place earlier (x ++ y) below)) ∙ sym (before_append earlier a now)

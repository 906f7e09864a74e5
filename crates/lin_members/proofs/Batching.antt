-- What batches hold one after the other, told from the left, and what may still be taken of it.
use Rattle.std.proofs.Common.{◌≡◌, ℕ, ◌+◌, ◌<◌, ◌≤◌, List, [], ◌∷◌, ◌++◌, length, All, Contains, Bool, true, false, refl, ap, sym, ◌∙◌, subst, zero, suc, cond, arith, get_or, take, drop, filter, if◌then◌else◌, inl, inr, Option, Some, None, IfSome, IfNone}
use Rattle.std.specs.declared.rc.Rc.{Rc}
use Rattle.std.proofs.lemmas.List.{append_assoc, append-nil, take_all, take_more, take-append-drop}
use Rattle.std.proofs.lemmas.List.Elements.{All-append, All-contains, All-push, Contains-append_cases, Contains-append_left, Contains-append_right, Contains-get_or, filter-append}
use Rattle.lin_events.specs.declared.calls.Call.{Call}
use Rattle.lin_events.specs.declared.calls.Reply.{Reply}
use Rattle.lin_frontier.specs.declared.pending.Open.{Open}
use Rattle.lin_members.specs.Batches.{all_of}
use Rattle.lin_members.specs.Searching.{is_watching, watched}

module _ {X Z : Type 0} where
  pub all_of_append : (bs cs : List (Rc (List X) Z)) → all_of (bs ++ cs) ≡ all_of bs ++ all_of cs
  all_of_append [] cs = refl
  all_of_append (b ∷ bs) cs = ap (λ l. b.value ++ l) (all_of_append bs cs) ∙ sym (append_assoc b.value (all_of bs) (all_of cs))

  pub all_of_push : (bs : List (Rc (List X) Z)) (b : Rc (List X) Z) → all_of (bs ++ b ∷ []) ≡ all_of bs ++ b.value
  all_of_push bs b = all_of_append bs (b ∷ []) ∙ ap (λ l. all_of bs ++ l) (append-nil b.value)

  -- with one batch more
  pub all_of_more : (bs : List (Rc (List X) Z)) (i : ℕ) (b : Rc (List X) Z) → i < length bs → b ≡ get_or bs i b → all_of (take (i + 1) bs) ≡ all_of (take i bs) ++ b.value
  all_of_more bs i b inside is = ap all_of (take_more bs i b inside) ∙ all_of_push (take i bs) (get_or bs i b) ∙ ap (λ c. all_of (take i bs) ++ c.value) (sym is)

  -- the first ones, and the others
  pub all_of_cut : (bs : List (Rc (List X) Z)) (i : ℕ) → all_of (take i bs) ++ all_of (drop i bs) ≡ all_of bs
  all_of_cut bs i = sym (all_of_append (take i bs) (drop i bs)) ∙ ap all_of (take-append-drop i bs)

  -- what one of them holds all of them hold
  pub inside_all : (bs : List (Rc (List X) Z)) (i : ℕ) (b : Rc (List X) Z) (x : X) → i < length bs → b ≡ get_or bs i b → Contains b.value x → Contains (all_of bs) x
  inside_all bs i b x inside is there =
      subst (λ l. Contains l x) (all_of_cut bs (i + 1))
      (Contains-append_left (all_of (take (i + 1) bs)) (all_of (drop (i + 1) bs)) x
      (subst (λ l. Contains l x) (sym (all_of_more bs i b inside is)) (Contains-append_right (all_of (take i bs)) b.value x there)))

  -- what holds of each of one more batch
  pub each_more : (P : X → Type 0) (bs : List (Rc (List X) Z)) (i : ℕ) (b : Rc (List X) Z) → i < length bs → b ≡ get_or bs i b → All P (all_of (take i bs)) → All P b.value → All P (all_of (take (i + 1) bs))
  each_more P bs i b inside is before here = subst (All P) (sym (all_of_more bs i b inside is)) (All-append P (all_of (take i bs)) b.value before here)

  -- of all, once the end is reached
  pub each_end : (P : X → Type 0) (bs : List (Rc (List X) Z)) (i : ℕ) → length bs ≤ i → All P (all_of (take i bs)) → All P (all_of bs)
  each_end P bs i past so_far = subst (λ l. All P (all_of l)) (take_all i bs past) so_far

  -- what holds of each in all of them holds of each in one
  pub each_of_one : (P : X → Type 0) (bs : List (Rc (List X) Z)) (i : ℕ) (b : Rc (List X) Z) → i < length bs → b ≡ get_or bs i b → All P (all_of bs) → All P b.value
  each_of_one P bs i b inside is all = λ k d within. All-contains P (all_of bs) (get_or b.value k d) all (inside_all bs i b (get_or b.value k d) inside is (Contains-get_or b.value k d within))

-- a filter that each passes keeps all
filter_all : {X : Type 0} (p : X → Bool) (xs : List X) → All (λ x. p x ≡ true) xs → filter p xs ≡ xs
filter_all p [] all = refl
filter_all {X} p (x ∷ xs) all =
    ap (λ b. cond b (x ∷ filter p xs) (filter p xs)) (all zero x (omega arith)) ∙ ap (λ l. x ∷ l) (filter_all p xs (λ k d within. all (suc k) d (omega (arith, within))))

-- what each of the processes watches for can all be taken
pub watched_all : (observes : Call → Bool) (pending : List Open) (processes : List ℕ) (offers : List (ℕ × (ℕ × Reply))) → All (λ (x : ℕ × (ℕ × Reply)). Contains processes x.1.0) offers
    → All (λ x. is_watching observes pending x ≡ true) processes → watched observes pending offers ≡ offers
watched_all observes pending processes offers among watching =
    filter_all (λ (x : ℕ × (ℕ × Reply)). is_watching observes pending x.1.0) offers
    (λ k d within. All-contains (λ x. is_watching observes pending x ≡ true) processes (get_or offers k d).1.0 watching (among k d within))

-- and of two lists, one behind the other
pub watched_both : (observes : Call → Bool) (pending : List Open) (xs ys : List (ℕ × (ℕ × Reply))) → watched observes pending xs ≡ xs → watched observes pending ys ≡ ys → watched observes pending (xs ++ ys) ≡ xs ++ ys
watched_both observes pending xs ys one other =
    filter-append (λ (x : ℕ × (ℕ × Reply)). is_watching observes pending x.1.0) xs ys ∙ ap (λ l. l ++ watched observes pending ys) one ∙ ap (λ l. xs ++ l) other

module _ {Z : Type 0} (observes : Call → Bool) (pending : List Open) (bs : List (Rc (List (ℕ × (ℕ × Reply))) Z)) (i : ℕ) (b : Rc (List (ℕ × (ℕ × Reply))) Z) (inside : i < length bs) (is : b ≡ get_or bs i b) where
  -- with one batch more
  pub watched_more : watched observes pending (all_of (take (i + 1) bs)) ≡ watched observes pending (all_of (take i bs)) ++ watched observes pending b.value
  watched_more = ap (watched observes pending) (all_of_more bs i b inside is) ∙ filter-append (λ (x : ℕ × (ℕ × Reply)). is_watching observes pending x.1.0) (all_of (take i bs)) b.value

  pub watched_same_more : watched observes pending (all_of (take i bs)) ≡ all_of (take i bs) → watched observes pending b.value ≡ b.value → watched observes pending (all_of (take (i + 1) bs)) ≡ all_of (take (i + 1) bs)
  watched_same_more before here =
      subst (λ l. watched observes pending l ≡ l) (sym (all_of_more bs i b inside is)) (watched_both observes pending (all_of (take i bs)) b.value before here)

-- what is among the processes still is, with one offer more to one of them, or without it
pub among_put : (b : Bool) (processes now : List ℕ) (old new : List (ℕ × (ℕ × Reply))) (x : ℕ × (ℕ × Reply)) → ((y : ℕ) → Contains processes y → Contains now y) → Contains now x.1.0
    → All (λ (o : ℕ × (ℕ × Reply)). Contains processes o.1.0) old → new ≡ (if b then old ++ x ∷ [] else old) → All (λ (o : ℕ × (ℕ × Reply)). Contains now o.1.0) new
among_put true processes now old new x kept there all put =
    subst (All (λ (o : ℕ × (ℕ × Reply)). Contains now o.1.0)) (sym put)
    (All-push (λ (o : ℕ × (ℕ × Reply)). Contains now o.1.0) old x (λ k d within. kept (get_or old k d).1.0 (all k d within)) there)
among_put false processes now old new x kept there all put = subst (All (λ (o : ℕ × (ℕ × Reply)). Contains now o.1.0)) (sym put) (λ k d within. kept (get_or old k d).1.0 (all k d within))

-- the reply was offered to the process in no round
pub never_offered : (xs : List (ℕ × (ℕ × Reply))) (process : ℕ) (reply : Reply) → ((round : ℕ) → Contains xs (round, (process, reply)) → ⊥) → All (λ (o : ℕ × (ℕ × Reply)). o.1 ≡ (process, reply) → ⊥) xs
never_offered xs process reply none = λ k d within same. none (get_or xs k d).0 (subst (λ y. Contains xs ((get_or xs k d).0, y)) same (Contains-get_or xs k d within))

-- of two lists, one behind the other, none has it
pub neither : {X : Type 0} (xs ys : List X) (x : X) → (Contains xs x → ⊥) → (Contains ys x → ⊥) → Contains (xs ++ ys) x → ⊥
neither xs ys x one other there = elim (Contains-append_cases xs ys x there) [
  | inl before ↦ one before
  | inr behind ↦ other behind
]

-- lists of which nothing is left when they are joined
pub both_empty : {X : Type 0} (xs ys : List X) → xs ++ ys ≡ [] → (xs ≡ []) × (ys ≡ [])
both_empty [] ys none = (refl, none)
both_empty (x ∷ xs) ys none = absurd (let e : suc (length (xs ++ ys)) ≡ zero = ap length none in omega arith)

-- what holds of each in two lists, one behind the other, holds of each in the first
pub each_before : {X : Type 0} (P : X → Type 0) (xs ys : List X) → All P (xs ++ ys) → All P xs
each_before P xs ys all = λ k d within. All-contains P (xs ++ ys) (get_or xs k d) all (Contains-append_left xs ys (get_or xs k d) (Contains-get_or xs k d within))

-- and in the other
pub each_behind : {X : Type 0} (P : X → Type 0) (xs ys : List X) → All P (xs ++ ys) → All P ys
each_behind P xs ys all = λ k d within. All-contains P (xs ++ ys) (get_or ys k d) all (Contains-append_right xs ys (get_or ys k d) (Contains-get_or ys k d within))

module _ (xs ys zs : List (ℕ × (ℕ × Reply))) (is : zs ≡ xs ++ ys) (x : ℕ × Reply) where
  -- a round that was found behind the others
  pub round_behind : (found : Option ℕ) → IfSome found (λ k. Contains ys (k, x)) → IfSome found (λ k. Contains zs (k, x))
  round_behind None there = there
  round_behind (Some k) there = subst (λ l. Contains l (k, x)) (sym is) (Contains-append_right xs ys (k, x) there)

  -- where none is before them
  pub no_round : (found : Option ℕ) → ((k : ℕ) → Contains xs (k, x) → ⊥) → IfNone found ((k : ℕ) → Contains ys (k, x) → ⊥) → IfNone found ((k : ℕ) → Contains zs (k, x) → ⊥)
  no_round None before behind = λ k there. neither xs ys (k, x) (before k) (behind k) (subst (λ l. Contains l (k, x)) is there)
  no_round (Some k) before behind = behind

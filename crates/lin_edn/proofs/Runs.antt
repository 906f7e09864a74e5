-- How a run goes on by one byte.
use Rattle.std.proofs.Common.{◌≡◌, ℕ, suc, ◌+◌, ◌-◌, ◌<◌, ◌≤◌, List, [], ◌∷◌, ◌++◌, length, get_or, take, drop, ap, ◌∙◌, arith, drop-cons, get_or-drop, length-drop}
use Rattle.std.proofs.lemmas.List.{take_more, drop_all}
use Rattle.std.specs.List.{slice_range}
use Rattle.lin_edn.specs.Grammar.{Frame}
use Rattle.lin_edn.specs.inner.Machine.{Mode, Answer, go, stop, run, step, on_turn, at_end}

pub run_at : (most : ℕ) (s : List ℕ) (at : ℕ) (st : List Frame) (m : Mode) → at < length s →
    run most at st m (drop at s) ≡ on_turn (step most at st m (get_or s at 0)) (λ st' m'. run most (at + 1) st' m' (drop (at + 1) s))
unfolding run
run_at most s at st m h =
    let e : suc at ≡ at + 1 = omega arith in
    ap (run most at st m) (drop-cons s at 0 h) ∙ ap (λ k. on_turn (step most at st m (get_or s at 0)) (λ st' m'. run most (at + 1) st' m' (drop k s))) e

pub stops : (most : ℕ) (s : List ℕ) (at : ℕ) (st : List Frame) (m : Mode) (a : Answer) → at < length s →
    step most at st m (get_or s at 0) ≡ stop a → run most at st m (drop at s) ≡ a
stops most s at st m a h e = run_at most s at st m h ∙ ap (λ t. on_turn t (λ st' m'. run most (at + 1) st' m' (drop (at + 1) s))) e

pub goes : (most : ℕ) (s : List ℕ) (at : ℕ) (st st' : List Frame) (m m' : Mode) → at < length s →
    step most at st m (get_or s at 0) ≡ go st' m' → run most at st m (drop at s) ≡ run most (at + 1) st' m' (drop (at + 1) s)
goes most s at st st' m m' h e = run_at most s at st m h ∙ ap (λ t. on_turn t (λ st' m'. run most (at + 1) st' m' (drop (at + 1) s))) e

pub ends : (most : ℕ) (s : List ℕ) (at : ℕ) (st : List Frame) (m : Mode) → length s ≤ at → run most at st m (drop at s) ≡ at_end at m st
unfolding run
ends most s at st m h = ap (run most at st m) (drop_all at s h)

pub range_more : (s : List ℕ) (i at : ℕ) → i ≤ at → at < length s →
    slice_range s i (at + 1) ≡ slice_range s i at ++ get_or s at 0 ∷ []
range_more s i at le lt =
    let more : (at + 1) - i ≡ (at - i) + 1 = omega arith in
    let inside : at - i < length (drop i s) = simp length-drop (omega arith) in
    let place : i + (at - i) ≡ at = omega arith in
    rw more (take_more (drop i s) (at - i) 0 inside ∙ ap (λ x. take (at - i) (drop i s) ++ x ∷ []) (rw get_or-drop (ap (λ n. get_or s n 0) place)))

pub range_one : (s : List ℕ) (at : ℕ) → at < length s → slice_range s at (at + 1) ≡ get_or s at 0 ∷ []
range_one s at lt =
    let none : at - at ≡ 0 = omega arith in
    range_more s at at (omega arith) lt ∙ ap (λ n. take n (drop at s) ++ get_or s at 0 ∷ []) none

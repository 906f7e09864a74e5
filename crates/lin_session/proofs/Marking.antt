-- Marks of objects, and what edits leave of them.
use Rattle.std.proofs.Common.{◌≡◌, ◌≤◌, ℕ, Bool, true, false, List, length, None, Some, refl, sym, subst, ◌∙◌, arith, nat_eq, if◌then◌else◌}
use Rattle.std.specs.Prelude.{◌||◌}
use Rattle.lin_events.specs.declared.events.Event.{Event}
use Rattle.lin_objects.specs.declared.kinds.Kind.{Kind}
use Rattle.lin_engines.specs.declared.ends.End.TheVariants.{Alive, Over}
use Rattle.lin_chain.specs.declared.beside.Beside.{Beside}
use Rattle.lin_chain.specs.declared.beside.Beside.TheVariants.{Nothing, Exact, Going}
use Rattle.lin_chain.specs.declared.chain.Chain.{Chain}
use Rattle.lin_chain.specs.Chains.{IsBeside, IsMarkBefore, IsRight, mark_beside, mark_in}
use Rattle.lin_chain.specs.Work.{Mark, unasked}
use Rattle.lin_session.specs.Objects.{IsUntaken}
use Rattle.lin_session.specs.Leaving.{IsLonger, IsRaised, IsTouched}

-- an edit, and then another one at an earlier place
pub IsMarkBefore-then : (p q : ℕ) (a b c : Mark) → q ≤ p → IsMarkBefore p a b → IsMarkBefore q b c → IsMarkBefore q a c
IsMarkBefore-then p q a b c less first second = record {
  frontier_back = omega (arith, first.frontier_back, second.frontier_back);
  frontier_near = omega (arith, less, first.frontier_near, second.frontier_near);
  frontier_still = λ within. let one = first.frontier_still (omega (arith, less, within)) in second.frontier_still (omega (arith, one, within)) ∙ one;
  beside_back = omega (arith, first.beside_back, second.beside_back);
  beside_near = omega (arith, less, first.beside_near, second.beside_near);
  beside_still = λ within. let one = first.beside_still (omega (arith, less, within)) in second.beside_still (omega (arith, one, within)) ∙ one;
  searched = omega (arith, less, first.searched, second.searched);
  unstopped = second.unstopped;
}

pub IsTouched-then : (b c : Bool) (p : ℕ) (old mid new : Mark) → IsTouched b p old mid → IsTouched c p mid new → IsTouched (c || b) p old new
IsTouched-then true true p old mid new first second = IsMarkBefore-then p p old mid new (omega arith) first second
IsTouched-then false true p old mid new first second = subst (λ m. IsMarkBefore p m new) first second
IsTouched-then true false p old mid new first second = subst (IsMarkBefore p old) (sym second) first
IsTouched-then false false p old mid new first second = second ∙ first

-- where nothing was taken in, an edit at any place leaves as much
pub IsMarkBefore-untaken : (p q : ℕ) (old new : Mark) → IsUntaken old → IsMarkBefore p old new → IsMarkBefore q old new
IsMarkBefore-untaken p q old new none edit = record {
  frontier_back = omega (arith, none.frontier, edit.frontier_back);
  frontier_near = omega (arith, none.frontier);
  frontier_still = λ within. omega (arith, none.frontier, edit.frontier_back);
  beside_back = omega (arith, none.beside, edit.beside_back);
  beside_near = omega (arith, none.beside);
  beside_still = λ within. omega (arith, none.beside, edit.beside_back);
  searched = omega (arith, none.searched, edit.searched);
  unstopped = edit.unstopped;
}

pub IsUntaken-before : (p : ℕ) (old new : Mark) → IsUntaken old → IsMarkBefore p old new → IsUntaken new
IsUntaken-before p old new none edit = record {
  frontier = omega (arith, none.frontier, edit.frontier_back);
  beside = omega (arith, none.beside, edit.beside_back);
  searched = omega (arith, none.searched, edit.searched);
}

pub IsUntaken-raised : (old new : Mark) → IsUntaken old → IsRaised old new → IsUntaken new
IsUntaken-raised old new none raised = record {
  frontier = omega (arith, none.frontier, raised.no_more);
  beside = raised.beside ∙ none.beside;
  searched = raised.searched ∙ none.searched;
}

pub unasked_untaken : IsUntaken unasked
unasked_untaken = record { frontier = refl; beside = refl; searched = refl }

-- an event more behind all others
pub IsLonger-untaken : (p : ℕ) (old new : Mark) → IsUntaken old → IsMarkBefore p old new → IsLonger old new
IsLonger-untaken p old new none edit = record {
  frontier = omega (arith, none.frontier, edit.frontier_back);
  beside = omega (arith, none.beside, edit.beside_back);
  searched = omega (arith, none.searched, edit.searched);
  free = edit.unstopped;
}

pub IsLonger-end : (count : ℕ) (old new : Mark) → old.frontier ≤ count → old.beside ≤ count → old.searched ≤ count → IsMarkBefore count old new → IsLonger old new
IsLonger-end count old new frontier beside searched edit = record {
  frontier = edit.frontier_still frontier;
  beside = edit.beside_still beside;
  searched = omega (arith, searched, edit.searched);
  free = edit.unstopped;
}

-- what a key that isn't listed has
pub touched_unasked : (p : ℕ) → IsMarkBefore p unasked unasked
touched_unasked p = record {
  frontier_back = omega arith;
  frontier_near = omega arith;
  frontier_still = λ within. refl;
  beside_back = omega arith;
  beside_near = omega arith;
  beside_still = λ within. refl;
  searched = omega arith;
  unstopped = refl;
}

pub longer_unasked : IsLonger unasked unasked
longer_unasked = record { frontier = refl; beside = refl; searched = refl; free = refl }

pub raised_unasked : IsRaised unasked unasked
raised_unasked = record {
  told = λ count end told decided. told;
  over = λ count at told. absurd (never (nat_eq 0 count) at told);
  no_more = omega arith;
  beside = refl;
  searched = refl;
  stopped = refl;
}
  where
    never : (b : Bool) (at : ℕ) → (if b then Some Alive else None) ≡ Some (Over at) → ⊥
    never true at e = cc e
    never false at e = cc e

-- no more is taken in than there is
beside_within : (kind : Kind) (h : List Event) (beside : Beside) → IsBeside kind h beside → mark_beside beside ≤ length h
beside_within kind h Nothing is = omega arith
beside_within kind h (Exact lane) is = is.1.within
beside_within kind h (Going lane) is = is.1.within

pub marks_within : (chain : Chain) (h : List Event) → IsRight chain h → ((mark_in chain).frontier ≤ length h) × ((mark_in chain).beside ≤ length h) × ((mark_in chain).searched ≤ length h)
marks_within chain h is = (is.frontier.within, beside_within _ h chain.beside is.beside, is.searched)

-- What is unfinished or too long isn't whole.
use Rattle.std.proofs.Common.{◌≡◌, ℕ, ◌+◌, ◌<◌, ◌≤◌, List, [], sym, ◌∙◌, arith, subst}
use Rattle.lin_edn.specs.Grammar.{Blank, comment, discarded, longest, ShortBlanks, spells, Whole, an_element, a_discard, Thing, element_or_discard, a_comment}
use Rattle.lin_edn.specs.inner.Machine.{Answer, complete, partial, too_long, run, between}
use Rattle.lin_edn.specs.Value.{Value}
use Rattle.lin_edn.proofs.Forth.{short_run, blank_run, spells_run}
use Rattle.lin_edn.proofs.Order.{AnswerOrder, run_order}
use Rattle.lin_edn.specs.lemmas.Rising.{blank_past}

-- an answer that isn't complete, and tells a place
data Open : Answer → ℕ → Type 0 where
  is_partial : {p : ℕ} → Open (partial p) p
  is_too_long : {p : ℕ} → Open (too_long p) p

not_complete : (a : Answer) (p o q : ℕ) (v : Value) → Open a p → a ≡ complete v o q → ⊥
not_complete a p o q v is_partial e = cc
not_complete a p o q v is_too_long e = cc

no_earlier : (a : Answer) (p q : ℕ) → Open a p → AnswerOrder q a → q ≤ p
no_earlier a p q is_partial h = h
no_earlier a p q is_too_long h = h

-- a blank that ends within the limit is taken, and what is told begins behind it
passed : (s : List ℕ) (a : Answer) (p q : ℕ) (t u : List ℕ) → run longest 0 [] between s ≡ a → Open a p →
    ShortBlanks s p t → Blank 64 p t q u → q ≤ p + longest → ⊥
passed s a p q t u e o bs b le =
    let lt : p < q = (blank_past b).0 in
    let later : q ≤ p = no_earlier a p q o (subst (AnswerOrder q) (sym (short_run bs ∙ blank_run longest b [] (omega arith) le) ∙ e) (run_order longest q u q [] between (omega arith) (omega arith))) in
    absurd (omega arith)

no_whole : (s : List ℕ) (a : Answer) (p : ℕ) → run longest 0 [] between s ≡ a → Open a p → (q : ℕ) → q ≤ p + longest → Whole s p q → ⊥
no_whole s a p e o q le (an_element {v = v} bs i) = not_complete a p p q v o (sym e ∙ spells_run (spells bs i le))
no_whole s a p e o q le (a_discard {t = t} {u = u} bs d) = passed s a p q t u e o bs (discarded d) le

no_thing : (s : List ℕ) (a : Answer) (p : ℕ) → run longest 0 [] between s ≡ a → Open a p → (q : ℕ) → q ≤ p + longest → Thing s p q → ⊥
no_thing s a p e o q le (element_or_discard w) = no_whole s a p e o q le w
no_thing s a p e o q le (a_comment {t = t} {u = u} bs i h) = passed s a p q t u e o bs (comment i h) le

pub no_partial : (s : List ℕ) (p : ℕ) → run longest 0 [] between s ≡ partial p → (q : ℕ) → q ≤ p + longest → Whole s p q → ⊥
no_partial s p e = no_whole s (partial p) p e is_partial

pub no_long : (s : List ℕ) (p : ℕ) → run longest 0 [] between s ≡ too_long p → (q : ℕ) → q ≤ p + longest → Thing s p q → ⊥
no_long s p e = no_thing s (too_long p) p e is_too_long

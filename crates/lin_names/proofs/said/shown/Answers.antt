use Rattle.std.proofs.Common.{◌≡◌, ◌∙◌, ℕ, zero, suc, List, [], ◌∷◌, None, slice_get, ap, refl, sym}
use Rattle.lin_names.specs.Spelled.{spelled, spelling_of, word}
use Rattle.lin_names.proofs.said.shown.Goals as goal

no_spelling : (names : List (List ℕ)) (n : ℕ) → None ≡ slice_get names n → [] ≡ spelling_of names n
no_spelling [] n h = refl
no_spelling (w ∷ names) zero h = cc
no_spelling (w ∷ names) (suc n) h = no_spelling names n h

pub returns-in-None : goal.returns-in-None
returns-in-None c = ap word (no_spelling c.args.names.now c.in-Word.number c.in-None.ensures) ∙ ap (spelled c.args.names.now) (sym c.in-Word.is)

-- Names that begin others.
use Rattle.std.proofs.Common.{◌≡◌, ℕ, zero, suc, List, [], ◌∷◌, ◌++◌, sym, ap, subst, ◌∙◌, append-nil, append_assoc}
use Rattle.lin_names.specs.Names.{AgreesWith, Begins, IsSpelling, Numbering}

pub begins_itself : (names : List (List ℕ)) → Begins names names
begins_itself names = ([], sym (append-nil names))

pub begins_same : (old new : List (List ℕ)) → new ≡ old → Begins old new
begins_same old new is = ([], is ∙ sym (append-nil old))

pub begins_on : (a b c : List (List ℕ)) → Begins a b → Begins b c → Begins a c
begins_on a b c (more, is) (most, are) = (more ++ most, are ∙ ap (λ l. l ++ most) is ∙ append_assoc a more most)

-- what has a number keeps it
pub spelling_stays : (names more : List (List ℕ)) (w : List ℕ) (n : ℕ) → IsSpelling names w n → IsSpelling (names ++ more) w n
spelling_stays [] more w n at = cc
spelling_stays (v ∷ names) more w zero at = at
spelling_stays (v ∷ names) more w (suc n) at = spelling_stays names more w n at

-- a numbering that agrees with more names agrees with those before
pub agrees_before : (old new : List (List ℕ)) (number : Numbering) → Begins old new → AgreesWith new number → AgreesWith old number
agrees_before old new number (more, is) agrees w n at = agrees w n (subst (λ names. IsSpelling names w n) (sym is) (spelling_stays old more w n at))

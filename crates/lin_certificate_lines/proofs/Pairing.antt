-- Operations that leave a value, each with one that stands between it and another one.
use Rattle.std.proofs.Common.{◌≡◌, ◌+◌, ◌<◌, ◌∙◌, ℕ, List, [], ◌∷◌, ◌++◌, All, get_or, length, map, take, ap, subst, sym}
use Rattle.std.proofs.lemmas.List.{map-append, take_more}
use Rattle.std.proofs.lemmas.List.Elements.{All-push, All-take}
use Rattle.lin_lists.specs.lemmas.Elements.{all_of}
use Rattle.lin_events.specs.declared.calls.Val.{Val}
use Rattle.lin_events.specs.declared.events.Event.{Event}
use Rattle.lin_certificates.specs.Certificates.{IsOverwritten, OtherCanLeave}
use Rattle.lin_certificate_lines.specs.Groups.{IsBetween, IsListing}

-- one pair more
pub one_more_pair : (others : List ℕ) (i over : ℕ) (pairs : List (ℕ × ℕ)) → i < length others → map (λ pair. pair.0) pairs ≡ take i others
    → map (λ pair. pair.0) (pairs ++ (get_or others i 0, over) ∷ []) ≡ take (i + 1) others
one_more_pair others i over pairs inside so_far =
    map-append (λ pair. pair.0) pairs ((get_or others i 0, over) ∷ []) ∙ ap (λ l. l ++ get_or others i 0 ∷ []) so_far ∙ sym (take_more others i 0 inside)

-- whichever operation leaves an overwritten value, one stands between
pub all_between : (h : List Event) (at : ℕ) (v : Val) (most : ℕ) (others : List ℕ) → IsOverwritten h at v → IsListing (OtherCanLeave h v at) others
    → All (λ other. (over : ℕ) × IsBetween h other at over) (take most others)
all_between h at v most others holds listed =
    All-take (λ other. (over : ℕ) × IsBetween h other at over) most others
    (all_of (λ other. (over : ℕ) × IsBetween h other at over) others (λ other there. let over = holds.each other ((listed.1 other).1 there) in (over.0, (over.1, over.2))))

pub push_all : (P : ℕ × ℕ → Type 0) (pairs new : List (ℕ × ℕ)) (pair : ℕ × ℕ) → new ≡ pairs ++ pair ∷ [] → All P pairs → P pair → All P new
push_all P pairs new pair is all last = subst (All P) (sym is) (All-push P pairs pair all last)

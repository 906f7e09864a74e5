-- Keys that a map doesn't have.
use Rattle.std.proofs.Common.{◌≡◌, Bool, true, List, Contains, refl, ap, Option, Some, None, is_some}
use Rattle.std.specs.Map.{keys_of, lookup}
use Rattle.std.proofs.lemmas.Map.Views.{Contains-keys_from_lookup}

pub unknown : {K V : Type 0} {eq : K → K → Bool} → ((x y : K) → eq x y ≡ true → x ≡ y) → (k : K) (es : List (K × V)) → (Contains (keys_of es) k → ⊥) → lookup (eq k) es ≡ None
unknown {K} {V} {eq} same k es never = by (lookup (eq k) es) refl
  where
    by : (o : Option V) → lookup (eq k) es ≡ o → lookup (eq k) es ≡ None
    by None is = is
    by (Some v) is = absurd (never (Contains-keys_from_lookup same k es (ap is_some is)))

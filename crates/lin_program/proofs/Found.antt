-- Pairs behind options.
use Rattle.std.proofs.Common.{◌≡◌, refl, sym, ap, Option, Some, None, is_some, option_map, true≢false}
use Rattle.std.specs.Option.{unwrap_or}

-- where both parts of what is behind an option are known, it has the pair of them
pub pair_behind : {X Y : Type 0} (o : Option (X × Y)) (x : X) (y : Y) → Some x ≡ option_map (λ (p : X × Y). p.0) o → Some y ≡ option_map (λ (p : X × Y). p.1) o → o ≡ Some (x, y)
pair_behind (Some p) x y first second =
    let same_x : p.0 ≡ x = sym (ap (λ o. unwrap_or o x) first) in
    let same_y : p.1 ≡ y = sym (ap (λ o. unwrap_or o y) second) in
    λ i. Some (same_x i, same_y i)
pair_behind None x y first second = absurd (true≢false (ap is_some first))

-- an option mapped twice
pub mapped_twice : {A X Y : Type 0} (f : A → X) (g : X → Y) (o : Option A) → option_map (λ a. g (f a)) o ≡ option_map g (option_map f o)
mapped_twice f g (Some a) = refl
mapped_twice f g None = refl

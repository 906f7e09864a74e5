-- Exact frontiers give the sets of all configurations, and these refute a history that has no legal order.
use Rattle.std.proofs.Common.{Result, Ok, ◌≡◌, ℕ, zero, suc, ◌+◌, ◌<◌, ◌≤◌, Bool, List, [], ◌∷◌, ◌++◌, Contains, length, length-append, option_map, Option, Some, None, slice_get, take, inl, inr, refl, sym, ap, subst, ◌∙◌, arith}
use Rattle.std.specs.Global.{Vec}
use Rattle.std.specs.Map.{keys_of}
use Rattle.std.proofs.lemmas.Option.{slice_get-map, slice_get_within}
use Rattle.std.proofs.lemmas.List.{length-map, length-take-le}
use Rattle.std.proofs.lemmas.List.Elements.{All-contains}
use Rattle.lin_events.specs.declared.items.Item.{Item}
use Rattle.lin_events.specs.declared.calls.Name.{Name}
use Rattle.lin_events.specs.declared.events.Event.{Event}
use Rattle.lin_events.specs.WellFormed.{IsWellFormed}
use Rattle.lin_objects.specs.declared.kinds.Kind.{Kind}
use Rattle.lin_objects.specs.Steps.{Step, start}
use Rattle.lin_order.specs.declared.placed.Placed.{Placed}
use Rattle.lin_order.specs.Configurations.{EndsIn}
use Rattle.lin_order.specs.Refutations.{AreConfigurations, Config, IsRefutation, lists_of}
use Rattle.lin_order.specs.RefutationLaws.{ExactSetsRefute}
use Rattle.lin_frontier.specs.Frontiers.{IsFrontier}
use Rattle.lin_frontier.specs.Nodes.{Spells}
use Rattle.lin_order.specs.Linearizable.{IsLinearizableAs}
use Rattle.lin_lists.specs.lemmas.Lists.{get_cases}
use Rattle.lin_frontier.specs.lemmas.Lists.{contains_from_get, get_from_contains}

-- two answers that are one have one value
pub ok_same : {T E : Type 0} {x y : T} {a b : Result T E} → a ≡ Ok x → b ≡ Ok y → a ≡ b → x ≡ y
ok_same p q e = cc

-- what an exact frontier holds
abbrev Entries : Type 0
Entries = List (Config × ℕ)

-- a key is of an entry
key_of_entry : (es : Entries) (c : Config) → Contains (keys_of es) c → (e : Config × ℕ) × Contains es e × (e.0 ≡ c)
key_of_entry es c has =
    let place = get_from_contains (keys_of es) c has in
    by place.0 (slice_get es place.0) refl (sym (slice_get-map (λ (e : Config × ℕ). e.0) es place.0) ∙ place.1)
  where
    by : (k : ℕ) (o : Option (Config × ℕ)) → slice_get es k ≡ o → option_map (λ (e : Config × ℕ). e.0) (slice_get es k) ≡ Some c → (e : Config × ℕ) × Contains es e × (e.0 ≡ c)
    by k None at is = absurd (nothing (sym (ap (option_map (λ (e : Config × ℕ). e.0)) at) ∙ is))
      where
        nothing : None ≡ Some c → ⊥
        nothing e = cc
    by k (Some e) at is = (e, contains_from_get es k e at, some_same (sym (ap (option_map (λ (e : Config × ℕ). e.0)) at) ∙ is))
      where
        some_same : Some e.0 ≡ Some c → e.0 ≡ c
        some_same same = cc

-- the configurations of an exact frontier are all that there are
pub exact_configurations : (kind : Kind) (h : List Event) (es : Entries) (nodes : List (ℕ × Placed)) → IsFrontier (start kind) (Step kind) h es nodes → AreConfigurations kind h (keys_of es)
exact_configurations kind h es nodes exact c = (
  λ has.
      let e = key_of_entry es c has in
      let is = All-contains (λ (x : Config × ℕ). (order : List Placed) × Spells nodes x.1 order × EndsIn (start kind) (Step kind) h order x.0) es e.0 exact.sound e.1 in
      (is.0, subst (EndsIn (start kind) (Step kind) h is.0) e.2 is.2),
  exact.complete c,
)

abbrev pub Sets : Type 0
Sets = List (Vec Config)

-- of each of the first beginnings all configurations are there
abbrev pub AreAll : Kind → List Event → Sets → Type 0
AreAll kind h sets = (i : ℕ) (set : Vec Config) → slice_get sets i ≡ Some set → AreConfigurations kind (take i h) set.items

pub all_of_none : (kind : Kind) (h : List Event) → AreAll kind h []
all_of_none kind h i set at = absurd (nothing at)
  where
    nothing : None ≡ Some set → ⊥
    nothing e = cc

-- with one more set, of the next beginning
pub one_more_set : (kind : Kind) (h : List Event) (n : ℕ) (sets now : Sets) (set : Vec Config) → now ≡ sets ++ set ∷ [] → length sets ≡ n → AreConfigurations kind (take n h) set.items → AreAll kind h sets → AreAll kind h now
one_more_set kind h n sets now set pushed count exact all i other at = elim (get_cases sets set i other (ap (λ l. slice_get l i) (sym pushed) ∙ at)) [
  | inl old ↦ all i other old
  | inr new ↦ subst (λ (s : Vec Config). AreConfigurations kind (take i h) s.items) new.1 (subst (λ k. AreConfigurations kind (take k h) set.items) (sym (new.0 ∙ count)) exact)
]

-- a beginning of a beginning
pub take_within : {A : Type 0} (m n : ℕ) (xs : List A) → m ≤ n → take m (take n xs) ≡ take m xs
take_within zero n xs fits = refl
take_within (suc m) zero xs fits = absurd (omega arith)
take_within (suc m) (suc n) [] fits = refl
take_within (suc m) (suc n) (x ∷ xs) fits = ap (λ l. x ∷ l) (take_within m n xs (omega arith))

-- no configuration, where there is no legal order
no_configurations : (functions : Item → Name → Bool) (kind : Kind) (h : List Event) (set : List Config) → set ≡ [] → (IsLinearizableAs kind h → ⊥) → AreConfigurations kind h set
no_configurations functions kind h set empty fails c = (
  λ has. absurd (let inside = (subst (λ s. Contains s c) empty has).1 in omega arith),
  λ is. absurd (fails (is.0, record { order_of = is.1.order_of; legal = (_, is.1.runs) })),
)

-- a list of a list of lists is that of a set
set_of_list : (sets : Sets) (i : ℕ) (list : List Config) → slice_get (lists_of sets) i ≡ Some list → (set : Vec Config) × (slice_get sets i ≡ Some set) × (set.items ≡ list)
set_of_list sets i list at = by (slice_get sets i) refl (sym (slice_get-map (λ (s : Vec Config). s.items) sets i) ∙ at)
  where
    by : (o : Option (Vec Config)) → slice_get sets i ≡ o → option_map (λ (s : Vec Config). s.items) (slice_get sets i) ≡ Some list → (set : Vec Config) × (slice_get sets i ≡ Some set) × (set.items ≡ list)
    by None none is = absurd (nothing (sym (ap (option_map (λ (s : Vec Config). s.items)) none) ∙ is))
      where
        nothing : None ≡ Some list → ⊥
        nothing e = cc
    by (Some set) there is = (set, there, some_same (sym (ap (option_map (λ (s : Vec Config). s.items)) there) ∙ is))
      where
        some_same : Some set.items ≡ Some list → set.items ≡ list
        some_same same = cc

-- the sets of all configurations, and the empty one, refute the beginning that has no legal order
pub sets_refute : ExactSetsRefute → (functions : Item → Name → Bool) (h : List Event) (kind : Kind) (n : ℕ) (sets now : Sets) (last : Vec Config)
    → IsWellFormed functions (take (n + 1) h) → n < length h → length sets ≡ n + 1 → AreAll kind h sets → now ≡ sets ++ last ∷ [] → last.items ≡ []
    → (IsLinearizableAs kind (take (n + 1) h) → ⊥) → IsRefutation (take (n + 1) h) kind (lists_of now)
sets_refute law functions h kind n sets now last well inside count all pushed empty fails =
    law functions (take (n + 1) h) kind (lists_of now) well (omega (arith, listed, longer, count, shorter))
    (λ i list at.
    let found = set_of_list now i list at in
    let place = slice_get_within now i found.0 found.1 in
    subst (λ g. AreConfigurations kind g list) (sym (take_within i (n + 1) h (omega (arith, longer, count))))
    (subst (AreConfigurations kind (take i h)) found.2 (every i found.0 found.1)))
    fails
  where
    every : AreAll kind h now
    every = one_more_set kind h (n + 1) sets now last pushed count (no_configurations functions kind (take (n + 1) h) last.items empty fails) all

    longer : length now ≡ length sets + 1
    longer = ap length pushed ∙ length-append sets (last ∷ [])

    listed : length (lists_of now) ≡ length now
    listed = length-map now _

    shorter : length (take (n + 1) h) ≡ n + 1
    shorter = length-take-le (n + 1) h (omega arith)

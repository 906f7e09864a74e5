-- The sets of a refutation, one after another.
use Rattle.std.proofs.Common.{◌≡◌, ℕ, zero, suc, ◌+◌, ◌<◌, ◌≤◌, List, [], ◌∷◌, length, Vec, Global, All, Contains, Bool, IsTrue, ◌↔◌, Some, slice_get, inl, inr, refl, sym, ap, subst, ◌∙◌, arith, get_or, take, add-one, option_map}
use Rattle.std.proofs.lemmas.Bool.{cases_eq}
use Rattle.std.proofs.lemmas.Option.{slice_get_within, slice_get-map, slice_get_read, get_or_from_slice_get}
use Rattle.lin_events.specs.declared.events.Event.{Event}
use Rattle.lin_events.specs.Operations.{IsEvent}
use Rattle.lin_objects.specs.declared.kinds.Kind.{Kind}
use Rattle.lin_objects.specs.Steps.{start}
use Rattle.lin_order.specs.Refutations.{AreRising, Config, IsClosed, IsRefutation, IsSet, lists_of}
use Rattle.lin_order.specs.inner.Checking.{Follows, IsCarried, IsFramed}
use Rattle.std.proofs.lemmas.List.Elements.{All-contains}
use Rattle.lin_lists.specs.lemmas.Elements.{all_of}
use Rattle.lin_order.specs.lemmas.OneEnd.{one_event}
use Rattle.lin_order.proofs.Refuting.{there_is}

-- the sets follow each other up to the event with this position
abbrev pub IsCarriedTo : ℕ → List Event → Kind → List (List Config) → Type 0
IsCarriedTo n h kind sets = (i : ℕ) (event : Event) (before after : List Config) → i < n → IsEvent h i event → IsSet sets i before → IsSet sets (i + 1) after
    → Follows kind (take (i + 1) h) event before after

-- a set that was read
pub set_read : (sets : List (Vec Config Global)) (i : ℕ) (set : Vec Config Global) → slice_get sets i ≡ Some set → IsSet (lists_of sets) i set.items
set_read sets i set is = slice_get-map (λ (v : Vec Config Global). v.items) sets i ∙ ap (option_map (λ (v : Vec Config Global). v.items)) is

pub one_set : (sets : List (List Config)) (i : ℕ) (a b : List Config) → IsSet sets i a → IsSet sets i b → a ≡ b
one_set sets i a b is other = inside (sym is ∙ other)
  where
    inside : Some a ≡ Some b → a ≡ b
    inside e = cc

pub many_lists : (sets : List (Vec Config Global)) → length (lists_of sets) ≡ length sets
many_lists [] = refl
many_lists (x ∷ xs) = ap suc (many_lists xs)

-- a set can be read
pub read_set : (sets : List (Vec Config Global)) (i : ℕ) (set : List Config) → IsSet (lists_of sets) i set → (v : Vec Config Global) × (slice_get sets i ≡ Some v) × (v.items ≡ set)
read_set sets i set is =
    let within = slice_get_within (lists_of sets) i set is in
    let found = there_is sets i (omega (arith, within, many_lists sets)) in
    (found.0, found.1, one_set (lists_of sets) i found.0.items set (set_read sets i found.0 found.1) is)

-- each set rises
pub rising_from : (sets : List (Vec Config Global)) → All (λ set. AreRising set.items) sets → (i : ℕ) (set : List Config) → IsSet (lists_of sets) i set → AreRising set
rising_from sets all i set is =
    let v = read_set sets i set is in
    subst AreRising v.2 (All-contains (λ (set : Vec Config Global). AreRising set.items) sets v.0 all (i, slice_get_within sets i v.0 v.1, get_or_from_slice_get sets i v.0 v.0 v.1))

pub rising_to : (sets : List (Vec Config Global)) → ((i : ℕ) (set : List Config) → IsSet (lists_of sets) i set → AreRising set) → All (λ set. AreRising set.items) sets
rising_to sets each = all_of (λ (set : Vec Config Global). AreRising set.items) sets (λ v there. each there.0 v.items (set_read sets there.0 v (slice_get_read sets _ there.0 v refl there.1 (sym there.2))))

-- one set further
module _ (h : List Event) (kind : Kind) (sets : List (List Config)) (n : ℕ) (event : Event) (before after : List Config) (here : IsEvent h n event) (b : IsSet sets n before) (a : IsSet sets (n + 1) after) where
  pub carried_more : IsCarriedTo n h kind sets → Follows kind (take (n + 1) h) event before after → IsCarriedTo (n + 1) h kind sets
  carried_more so_far follows i e first second below is f s = elim (cases_eq i n) [
    | inl same ↦
        let one = one_event h n event e here (subst (λ k. IsEvent h k e) same is) in
        let x = one_set sets n before first b (subst (λ k. IsSet sets k first) same f) in
        let y = one_set sets (n + 1) after second a (subst (λ k. IsSet sets (k + 1) second) same s) in
        subst (λ k. Follows kind (take (k + 1) h) e first second) (sym same)
        (subst (λ z. Follows kind (take (n + 1) h) e first z) y (subst (λ z. Follows kind (take (n + 1) h) e z after) x (subst (λ z. Follows kind (take (n + 1) h) z before after) one follows)))
    | inr other ↦ so_far i e first second (omega arith) is f s
  ]

  pub carried_not : (Follows kind (take (n + 1) h) event before after → ⊥) → IsCarried h kind sets → ⊥
  carried_not never all = never (all n event before after here b a)

pub carried_all : (h : List Event) (kind : Kind) (sets : List (List Config)) (n : ℕ) → length h ≤ n → IsCarriedTo n h kind sets → IsCarried h kind sets
carried_all h kind sets n past so_far i e first second is f s = let inside = slice_get_within h i e is in so_far i e first second (omega arith) is f s

-- a refutation is framed and carried
module _ (h : List Event) (kind : Kind) (sets : List (List Config)) where
  pub is_framed : IsRefutation h kind sets → IsFramed h kind sets
  is_framed is = record { count = is.count; rising = is.rising; begins = is.begins; ends = is.ends }

  pub is_carried : IsRefutation h kind sets → IsCarried h kind sets
  is_carried is i event before after e b a = record { kept = is.kept i event before after e b a; closed = is.closed (i + 1) after a }

  pub refuted : IsFramed h kind sets → IsCarried h kind sets → IsRefutation h kind sets
  refuted framed carried = record {
    count = framed.count;
    rising = framed.rising;
    begins = framed.begins;
    closed = closed;
    kept = λ i event before after e b a. (carried i event before after e b a).kept;
    ends = framed.ends;
  }
    where
      closed : (i : ℕ) (set : List Config) → IsSet sets i set → IsClosed kind (take i h) set
      closed zero set is = λ c d p there placing. absurd (let begins = placing.is_open.begins in cc)
      closed (suc n) set is =
          let inside = slice_get_within sets (suc n) set is in
          let count = framed.count in
          let e = there_is h n (omega arith) in
          let before = there_is sets n (omega arith) in
          let after : IsSet sets (n + 1) set = subst (λ k. IsSet sets k set) (sym (add-one n)) is in
          subst (λ k. IsClosed kind (take k h) set) (add-one n) (carried n e.0 before.0 set e.1 before.1 after).closed

-- a turn of the loop over the sets
module _ (h : List Event) (kind : Kind) (sets : List (Vec Config Global)) (count : length sets ≡ length h + 1) (n : ℕ) (inside : n < length h) (v w : Vec Config Global) (v_is : v ≡ get_or sets n v)
    (w_is : w ≡ get_or sets (n + 1) w) (before after : List Config) (b_is : before ≡ v.items) (a_is : after ≡ w.items) where
  event : (e : Event) × IsEvent h n e
  event = there_is h n inside

  first : IsSet (lists_of sets) n before
  first = subst (IsSet (lists_of sets) n) (sym b_is) (set_read sets n v (slice_get_read sets _ n v refl (omega arith) v_is))

  second : IsSet (lists_of sets) (n + 1) after
  second = subst (IsSet (lists_of sets) (n + 1)) (sym a_is) (set_read sets (n + 1) w (slice_get_read sets _ (n + 1) w refl (omega arith) w_is))

  pub turn_carried : IsCarriedTo n h kind (lists_of sets) → ((e : Event) → IsEvent h n e → Follows kind (take (n + 1) h) e before after) → IsCarriedTo (n + 1) h kind (lists_of sets)
  turn_carried so_far follows = carried_more h kind (lists_of sets) n event.0 before after event.1 first second so_far (follows event.0 event.1)

  pub turn_not : (((e : Event) → IsEvent h n e → Follows kind (take (n + 1) h) e before after) → ⊥) → IsCarried h kind (lists_of sets) → ⊥
  turn_not never all = never (λ e is. all n e before after is first second)

pub empty_if : {A : Type 0} (xs : List A) → length xs ≡ 0 → xs ≡ []
empty_if [] none = refl
empty_if (x ∷ xs) none = absurd (omega arith)

-- the first and the last set
pub first_read : (h : List Event) (sets : List (Vec Config Global)) → length sets ≡ length h + 1 → (v : Vec Config Global) → v ≡ get_or sets 0 v → IsSet (lists_of sets) 0 v.items
first_read h sets count v is = set_read sets 0 v (slice_get_read sets _ 0 v refl (omega arith) is)

module _ (h : List Event) (kind : Kind) (sets : List (Vec Config Global)) (count : length sets ≡ length h + 1) (v w : Vec Config Global) (v_is : v ≡ get_or sets 0 v) (w_is : w ≡ get_or sets (length h) w) where
  first_set : IsSet (lists_of sets) 0 v.items
  first_set = first_read h sets count v v_is

  last_set : IsSet (lists_of sets) (length h) w.items
  last_set = set_read sets (length h) w (slice_get_read sets _ (length h) w refl (omega arith) w_is)

  pub framed_iff : Contains v.items (start kind, []) → w.items ≡ [] → (b : Bool) → IsTrue b ↔ All (λ set. AreRising set.items) sets → IsTrue b ↔ IsFramed h kind (lists_of sets)
  framed_iff has empty b iff = (
    λ yes'. record {
      count = many_lists sets ∙ count;
      rising = rising_from sets (iff.0 yes');
      begins = λ set is. subst (λ l. Contains l (start kind, [])) (one_set (lists_of sets) 0 v.items set first_set is) has;
      ends = subst (IsSet (lists_of sets) (length h)) empty last_set;
    },
    λ framed. iff.1 (rising_to sets framed.rising),
  )

  pub not_ended : (w.items ≡ [] → ⊥) → IsFramed h kind (lists_of sets) → ⊥
  not_ended never framed = never (one_set (lists_of sets) (length h) w.items [] last_set framed.ends)

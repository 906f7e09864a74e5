-- The positions of a key's events, and the part that they spell.
use Rattle.std.proofs.Common.{◌≡◌, ◌<◌, ◌≤◌, ◌+◌, ◌-◌, ℕ, zero, suc, Bool, true, false, cond, List, [], ◌∷◌, length, get_or, slice_get, All, AllPairs, Contains, filter_map, Some, None, Option, inl, inr, refl, sym, ap, subst, ◌∙◌, arith}
use Rattle.std.specs.Option.{option_map_or}
use Rattle.std.proofs.lemmas.Bool.{cases_order, cond_both}
use Rattle.std.proofs.lemmas.Option.{same_Some, slice_get_within, slice_get-get_or, get_or_from_slice_get}
use Rattle.std.proofs.lemmas.List.Elements.{All-cons, All-nil, All-weaker, Contains-append_right}
use Rattle.std.proofs.lemmas.List.Kept.{AllPairs-cons}
use Rattle.lin_events.specs.declared.items.Item.{Item}
use Rattle.lin_events.specs.Sameness.{Decides-item_eq}
use Rattle.lin_events.specs.Items.{item_eq}
use Rattle.lin_events.specs.declared.events.Event.{Event}
use Rattle.lin_events.specs.Operations.{IsEvent}
use Rattle.lin_order.specs.Orders.{is_of_key}
use Rattle.lin_order.specs.Parts.{part, ArePositionsOf, IsNth}
use Rattle.lin_order.specs.PartLaws.{PositionsSpellParts}

-- an event of the key stands at the position
pub event_of_key : (h : List Event) (key : Item) (at : ℕ) → is_of_key h key at ≡ true → (event : Event) × IsEvent h at event × (event.key ≡ key)
event_of_key h key at of_it = by (slice_get h at) refl of_it
  where
    by : (o : Option Event) → slice_get h at ≡ o → option_map_or (λ event. item_eq event.key key) o false ≡ true → (event : Event) × IsEvent h at event × (event.key ≡ key)
    by None is of_none = cc
    by (Some event) is of_event = (event, is, (Decides-item_eq event.key key).0 of_event)

pub of_key_event : (h : List Event) (key : Item) (at : ℕ) (event : Event) → IsEvent h at event → event.key ≡ key → is_of_key h key at ≡ true
of_key_event h key at event stands is = ap (λ o. option_map_or (λ (e : Event). item_eq e.key key) o false) stands ∙ (Decides-item_eq event.key key).1 is

-- the positions of the key's events where the first event stands at `base`
abbrev pub places : Item → ℕ → List Event → List ℕ
places key base [] = []
places key base (e ∷ h) = cond (item_eq e.key key) (base ∷ places key (suc base) h) (places key (suc base) h)

pub places_nth : (key : Item) (base : ℕ) (h : List Event) (n at : ℕ) → slice_get (places key base h) n ≡ Some at
    → (k : ℕ) × (at ≡ base + k) × (is_of_key h key k ≡ true) × (slice_get (part key h) n ≡ slice_get h k)
places_nth key base [] n at there = cc
places_nth key base (e ∷ h) n at there = by (λ m later. places_nth key (suc base) h m at later) (item_eq e.key key) refl n there
  where
    by : ((m : ℕ) → slice_get (places key (suc base) h) m ≡ Some at → (k : ℕ) × (at ≡ suc base + k) × (is_of_key h key k ≡ true) × (slice_get (part key h) m ≡ slice_get h k))
        → (b : Bool) → item_eq e.key key ≡ b → (n : ℕ) → slice_get (cond b (base ∷ places key (suc base) h) (places key (suc base) h)) n ≡ Some at
        → (k : ℕ) × (at ≡ base + k) × (is_of_key (e ∷ h) key k ≡ true) × (slice_get (cond b (e ∷ part key h) (part key h)) n ≡ slice_get (e ∷ h) k)
    by more true of_it zero here = (0, (let s = same_Some base at here in omega arith), of_it, refl)
    by more true of_it (suc m) later = let rest = more m later in (suc rest.0, omega (arith, rest.1), rest.2, rest.3)
    by more false other m later = let rest = more m later in (suc rest.0, omega (arith, rest.1), rest.2, rest.3)

places_length : (key : Item) (base : ℕ) (h : List Event) → length (places key base h) ≡ length (part key h)
places_length key base [] = refl
places_length key base (e ∷ h) = by (places_length key (suc base) h) (item_eq e.key key)
  where
    by : length (places key (suc base) h) ≡ length (part key h) → (b : Bool) → length (cond b (base ∷ places key (suc base) h) (places key (suc base) h)) ≡ length (cond b (e ∷ part key h) (part key h))
    by more true = omega arith
    by more false = more

places_from : (key : Item) (base : ℕ) (h : List Event) → All (λ at. base ≤ at) (places key base h)
places_from key base [] = All-nil (λ at. base ≤ at)
places_from key base (e ∷ h) =
    let rest = All-weaker (λ at. suc base ≤ at) (λ at. base ≤ at) (λ at l. omega arith) (places key (suc base) h) (places_from key (suc base) h) in
    cond_both (item_eq e.key key) (base ∷ places key (suc base) h) (places key (suc base) h) (All (λ at. base ≤ at))
    (λ yes'. All-cons (λ at. base ≤ at) base (places key (suc base) h) (omega arith) rest) (λ no'. rest)

places_rise : (key : Item) (base : ℕ) (h : List Event) → AllPairs (λ i j. i < j) (places key base h)
places_rise key base [] = λ i j d before within. absurd (omega arith)
places_rise key base (e ∷ h) =
    let rest = places_rise key (suc base) h in
    cond_both (item_eq e.key key) (base ∷ places key (suc base) h) (places key (suc base) h) (AllPairs (λ i j. i < j))
    (λ yes'. AllPairs-cons (λ i j. i < j) base (places key (suc base) h) (places_from key (suc base) h) rest) (λ no'. rest)

places_complete : (key : Item) (base : ℕ) (h : List Event) (k : ℕ) → is_of_key h key k ≡ true → Contains (places key base h) (base + k)
places_complete key base [] k of_it = cc
places_complete key base (e ∷ h) k of_it = by (λ m of_m. places_complete key (suc base) h m of_m) (item_eq e.key key) refl k of_it
  where
    shifted : ((m : ℕ) → is_of_key h key m ≡ true → Contains (places key (suc base) h) (suc base + m)) → (m : ℕ) → is_of_key h key m ≡ true → Contains (places key (suc base) h) (base + suc m)
    shifted more m of_m = let same : suc base + m ≡ base + suc m = omega arith in subst (Contains (places key (suc base) h)) same (more m of_m)

    by : ((m : ℕ) → is_of_key h key m ≡ true → Contains (places key (suc base) h) (suc base + m))
        → (b : Bool) → item_eq e.key key ≡ b → (k : ℕ) → is_of_key (e ∷ h) key k ≡ true → Contains (cond b (base ∷ places key (suc base) h) (places key (suc base) h)) (base + k)
    by more true is zero here = (0, omega arith, omega arith)
    by more true is (suc m) later = Contains-append_right (base ∷ []) (places key (suc base) h) (base + suc m) (shifted more m later)
    by more false is zero here = absurd (let never = sym is ∙ here in cc)
    by more false is (suc m) later = shifted more m later

pub places_are : (key : Item) (h : List Event) → ArePositionsOf key h (places key 0 h)
places_are key h = record {
  rising = places_rise key 0 h;
  sound = λ n d inside.
      let found = places_nth key 0 h n (get_or (places key 0 h) n d) (slice_get-get_or (places key 0 h) n d inside) in
      let same : found.0 ≡ get_or (places key 0 h) n d = omega (arith, found.1) in
      subst (λ k. is_of_key h key k ≡ true) same found.2;
  complete = λ at of_it. let same : 0 + at ≡ at = omega arith in subst (Contains (places key 0 h)) same (places_complete key 0 h at of_it);
}

-- rising lists with the same positions are one
module _ (key : Item) where
  tail_pairs : (p : ℕ) (ps : List ℕ) → AllPairs (λ i j. i < j) (p ∷ ps) → AllPairs (λ i j. i < j) ps
  tail_pairs p ps rising i j d before within = rising (suc i) (suc j) d (omega arith) (omega arith)

  in_tail : (p : ℕ) (ps : List ℕ) (x : ℕ) → Contains (p ∷ ps) x → (p ≡ x → ⊥) → Contains ps x
  in_tail p ps x there other = by there.0 there.1 there.2
    where
      by : (i : ℕ) → i < length (p ∷ ps) → get_or (p ∷ ps) i x ≡ x → Contains ps x
      by zero inside is = absurd (other is)
      by (suc i) inside is = (i, omega arith, is)

  are_places : (h : List Event) (base : ℕ) (ps : List ℕ) → AllPairs (λ i j. i < j) ps → All (λ p. base ≤ p) ps
      → ((k : ℕ) → Contains ps (base + k) → is_of_key h key k ≡ true) → ((k : ℕ) → is_of_key h key k ≡ true → Contains ps (base + k)) → ps ≡ places key base h
  are_places [] base [] rising from sound complete = refl
  are_places [] base (p ∷ ps) rising from sound complete =
      let low = from 0 p (omega arith) in
      absurd (let never = sound (p - base) (0, omega arith, omega arith) in cc)
  are_places (e ∷ h) base ps rising from sound complete = by (are_places h (suc base)) (item_eq e.key key) refl ps rising from sound complete
    where
      at_first : (p : ℕ) (ps : List ℕ) → AllPairs (λ i j. i < j) (p ∷ ps) → base ≤ p → (i : ℕ) → i < length (p ∷ ps) → get_or (p ∷ ps) i (base + 0) ≡ base + 0 → p ≡ base
      at_first p ps rising low zero inside is = omega arith
      at_first p ps rising low (suc i) inside is =
          let above = rising 0 (suc i) (base + 0) (omega arith) (omega arith) in
          absurd (omega arith)

      at_any : (ps : List ℕ) (k d : ℕ) → k < length ps → get_or ps k d ≡ base → get_or ps k (base + 0) ≡ base + 0
      at_any ps k d inside same = get_or_from_slice_get ps k (get_or ps k d) (base + 0) (slice_get-get_or ps k d inside) ∙ same ∙ omega arith

      by : ((ps : List ℕ) → AllPairs (λ i j. i < j) ps → All (λ p. suc base ≤ p) ps
          → ((k : ℕ) → Contains ps (suc base + k) → is_of_key h key k ≡ true) → ((k : ℕ) → is_of_key h key k ≡ true → Contains ps (suc base + k)) → ps ≡ places key (suc base) h)
          → (b : Bool) → item_eq e.key key ≡ b → (ps : List ℕ) → AllPairs (λ i j. i < j) ps → All (λ p. base ≤ p) ps
          → ((k : ℕ) → Contains ps (base + k) → is_of_key (e ∷ h) key k ≡ true) → ((k : ℕ) → is_of_key (e ∷ h) key k ≡ true → Contains ps (base + k))
          → ps ≡ cond b (base ∷ places key (suc base) h) (places key (suc base) h)
      by more true is [] rising from sound complete = let here = complete 0 is in absurd (let none = here.1 in omega arith)
      by more true is (p ∷ ps) rising from sound complete =
          let first = complete 0 is in
          let same : p ≡ base = at_first p ps rising (from 0 p (omega arith)) first.0 first.1 first.2 in
          let rest = more ps (tail_pairs p ps rising)
          (λ k d inside. let above = rising 0 (suc k) d (omega arith) (omega arith) in omega arith)
          (λ k there. let shift : suc base + k ≡ base + suc k = omega arith in
          sound (suc k) (Contains-append_right (p ∷ []) ps (base + suc k) (subst (Contains ps) shift there)))
          (λ k of_it.
          let shift : base + suc k ≡ suc base + k = omega arith in
          subst (Contains ps) shift (in_tail p ps (base + suc k) (complete (suc k) of_it) (λ e. omega arith))) in
          ap (λ x. x ∷ ps) same ∙ ap (λ l. base ∷ l) rest
      by more false is ps rising from sound complete = more ps rising
          (λ k d inside.
          let low = from k d inside in
          let other : get_or ps k d ≡ base → ⊥ = (λ same. absurd (let never = sym is ∙ sound 0 (k, inside, at_any ps k d inside same) in cc)) in
          omega arith)
          (λ k there. let shift : suc base + k ≡ base + suc k = omega arith in sound (suc k) (subst (Contains ps) shift there))
          (λ k of_it. let shift : base + suc k ≡ suc base + k = omega arith in subst (Contains ps) shift (complete (suc k) of_it))

pub positions_are_places : (key : Item) (h : List Event) (positions : List ℕ) → ArePositionsOf key h positions → positions ≡ places key 0 h
positions_are_places key h positions is = are_places key h 0 positions is.rising (λ k d inside. omega arith)
    (λ k there. let same : 0 + k ≡ k = omega arith in sound_at k (subst (Contains positions) same there))
    (λ k of_it. let same : k ≡ 0 + k = omega arith in subst (Contains positions) same (is.complete k of_it))
  where
    sound_at : (k : ℕ) → Contains positions k → is_of_key h key k ≡ true
    sound_at k there = subst (λ at. is_of_key h key at ≡ true) there.2 (is.sound there.0 k there.1)

-- what a function gives of the elements of a list is another list, if it gives the elements of that one
pub mapped : {X Y : Type 0} (f : X → Option Y) (xs : List X) (ys : List Y) → length xs ≡ length ys → ((n : ℕ) (x : X) → slice_get xs n ≡ Some x → f x ≡ slice_get ys n) → filter_map f xs ≡ ys
mapped f [] [] many each = refl
mapped f [] (y ∷ ys) many each = absurd (omega arith)
mapped f (x ∷ xs) [] many each = absurd (omega arith)
mapped f (x ∷ xs) (y ∷ ys) many each =
    let first : f x ≡ Some y = each 0 x refl in
    let rest = mapped f xs ys (omega arith) (λ n z there. each (suc n) z there) in
    rw first (ap (λ l. y ∷ l) rest)

pub positions_spell_parts_lem : PositionsSpellParts
positions_spell_parts_lem key h positions is = record {
  events_of = mapped (λ at. slice_get h at) positions (part key h) many (λ n at there. sym (same n at there));
  length_of = many;
  same = same;
}
  where
    all : positions ≡ places key 0 h
    all = positions_are_places key h positions is

    many : length positions ≡ length (part key h)
    many = ap length all ∙ places_length key 0 h

    same : (n at : ℕ) → IsNth positions n at → slice_get (part key h) n ≡ slice_get h at
    same n at there =
        let found = places_nth key 0 h n at (sym (ap (λ l. slice_get l n) all) ∙ there) in
        let k : found.0 ≡ at = omega (arith, found.1) in
        found.3 ∙ ap (λ i. slice_get h i) k

-- positions as numbers of events of the part
module _ (key : Item) (h : List Event) (positions : List ℕ) (is : ArePositionsOf key h positions) where
  pub nth_of_key : (n at : ℕ) → IsNth positions n at → is_of_key h key at ≡ true
  nth_of_key n at there = subst (λ k. is_of_key h key k ≡ true) (get_or_from_slice_get positions n at at there) (is.sound n at (slice_get_within positions n at there))

  pub nth_found : (at : ℕ) → is_of_key h key at ≡ true → (n : ℕ) × IsNth positions n at
  nth_found at of_it = let found = is.complete at of_it in (found.0, slice_get-get_or positions found.0 at found.1 ∙ ap Some found.2)

  pub nth_up : (n m at later : ℕ) → IsNth positions n at → IsNth positions m later → n < m → at < later
  nth_up n m at later there then below =
      let inside = slice_get_within positions m later then in
      let a = get_or_from_slice_get positions n at at there in
      let b = get_or_from_slice_get positions m later at then in
      let rise = is.rising n m at below inside in
      omega arith

  pub nth_one : (n m at : ℕ) → IsNth positions n at → IsNth positions m at → n ≡ m
  nth_one n m at there again = elim (cases_order n m) [
    | inl same ↦ same
    | inr differ ↦ elim differ [
      | inl below ↦ (let up = nth_up n m at at there again below in absurd (omega arith))
      | inr above ↦ (let up = nth_up m n at at again there above in absurd (omega arith))
    ]
  ]

  pub nth_down : (n m at later : ℕ) → IsNth positions n at → IsNth positions m later → at < later → n < m
  nth_down n m at later there then below = elim (cases_order n m) [
    | inl same ↦ (let one = same_Some at later (sym there ∙ ap (λ k. slice_get positions k) same ∙ then) in absurd (omega arith))
    | inr differ ↦ elim differ [
      | inl up ↦ up
      | inr down ↦ (let up = nth_up m n later at then there down in absurd (omega arith))
    ]
  ]

  pub nth_event : (n : ℕ) (event : Event) → IsEvent (part key h) n event → (at : ℕ) × IsNth positions n at
  nth_event n event there =
      let many = (positions_spell_parts_lem key h positions is).length_of in
      let inside = slice_get_within (part key h) n event there in
      (get_or positions n 0, slice_get-get_or positions n 0 (omega arith))

  pub nth_inner : (n at : ℕ) (event : Event) → IsNth positions n at → IsEvent h at event → IsEvent (part key h) n event
  nth_inner n at event there stands = (positions_spell_parts_lem key h positions is).same n at there ∙ stands

  pub nth_outer : (n at : ℕ) (event : Event) → IsNth positions n at → IsEvent (part key h) n event → IsEvent h at event
  nth_outer n at event there stands = sym ((positions_spell_parts_lem key h positions is).same n at there) ∙ stands

-- Whether an event has a key, and the words that tell of an only key.
use Rattle.std.proofs.Common.{◌≡◌, ◌≢◌, ◌≤◌, ◌<◌, ◌⊎◌, ◌++◌, ◌∷◌, ◌||◌, [], ℕ, Bool, true, false, inl, inr, Contains, List, Some, ap, arith, codes, cond, get_or, length, refl, subst, sym, true≢false}
use Rattle.std.specs.List.{list_any}
use Rattle.lin_lists.specs.lemmas.Elements.{from_filter, in_filter}
use Rattle.lin_answers.specs.Keys.{AreKeys, Occurs}
use Rattle.lin_events.specs.Sameness.{Decides-item_eq}
use Rattle.lin_events.specs.Items.{item_eq}
use Rattle.lin_events.specs.declared.events.Event.{Event}
use Rattle.lin_events.specs.declared.items.Item.{Item}
use Rattle.lin_order.specs.Parts.{part}
use Rattle.lin_texts.specs.Items.{item_text}
use Rattle.lin_report.specs.AskedKeys.{absence_text, keys_text}
use Rattle.lin_report.specs.Explanations.{IsToldBehind}

-- some event is of the key
abbrev pub has : Item → List Event → Bool
has key h = list_any (λ event. item_eq event.key key) h

pub none_has : (key : Item) (h : List Event) → has key h ≡ false → part key h ≡ []
none_has key [] none = refl
none_has key (event ∷ h) none = by (item_eq event.key key) none (none_has key h)
  where
    by : (b : Bool) → (b || has key h) ≡ false → (has key h ≡ false → part key h ≡ []) → cond b (event ∷ part key h) (part key h) ≡ []
    by true other rest = absurd (true≢false other)
    by false other rest = rest other

pub one_has : (key : Item) (h : List Event) → has key h ≡ true → part key h ≢ []
one_has key [] one = λ _. true≢false (sym one)
one_has key (event ∷ h) one = by (item_eq event.key key) one (one_has key h)
  where
    by : (b : Bool) → (b || has key h) ≡ true → (has key h ≡ true → part key h ≢ []) → cond b (event ∷ part key h) (part key h) ≢ []
    by true other rest = λ none. absurd (omega (arith, ap length none))
    by false other rest = rest other

-- what the list of all keys says of one
pub listed_has : (names : List (List ℕ)) (h : List Event) (keys : List Item) (key : Item) → AreKeys names h keys → Contains keys key → part key h ≢ []
listed_has names h keys key are there none = let occurs : Occurs h key = (are.each key).0 there in
    let inside = in_filter (λ event. item_eq event.key key) h occurs.0 ((Decides-item_eq occurs.0.key key).1 occurs.2) occurs.1 in
    let within = subst (λ events. Contains events occurs.0) none inside in
    absurd (omega (arith, within.1))

pub unlisted_has : (names : List (List ℕ)) (h : List Event) (keys : List Item) (key : Item) → AreKeys names h keys → (Contains keys key → ⊥) → part key h ≡ []
unlisted_has names h keys key are absent = by (part key h) refl
  where
    by : (events : List Event) → events ≡ part key h → events ≡ []
    by [] is = refl
    by (event ∷ events) is =
        let kept = from_filter (λ e. item_eq e.key key) h event (subst (λ es. Contains es event) is (0, omega arith, refl)) in
        absurd (absent ((are.each key).1 (event, kept.0, (Decides-item_eq event.key key).0 kept.1)))

-- what is told of a key that is one of all keys, or none of them
pub told_behind : (names : List (List ℕ)) (h : List Event) (key : Item) (keys : List Item) (line : List ℕ) → AreKeys names h keys
    → (Contains keys key × (line ≡ [])) ⊎ ((Contains keys key → ⊥) × (line ≡ absence_text names key keys ++ codes "\n")) → IsToldBehind names h (Some key) line
told_behind names h key keys line are (inl (there, none)) = inl (listed_has names h keys key are there, none)
told_behind names h key keys line are (inr (absent, says)) = inr (absence_text names key keys, (unlisted_has names h keys key are absent, (keys, are, refl)), says)

pub only_key : (names : List (List ℕ)) (keys : List Item) (d : Item) → 1 ≤ length keys → length keys < 2 → keys_text names keys ≡ codes "; the key is " ++ item_text names (get_or keys 0 d)
only_key names [] d some few = absurd (omega (arith, some))
only_key names (key ∷ []) d some few = refl
only_key names (key ∷ other ∷ others) d some few = absurd (omega (arith, few))

-- Operations are chosen one by one, in the order of their invocations.
use Rattle.std.proofs.Common.{◌≡◌, ◌≢◌, ◌⊎◌, ◌↔◌, ◌+◌, ◌<◌, ◌≤◌, ℕ, true, false, List, [], ◌∷◌, ◌++◌, length, get_or, AllPairs, Contains, inl, inr, sym, subst, ap, ◌∙◌, refl, arith, length-append}
use Rattle.std.specs.List.{remove}
use Rattle.std.proofs.lemmas.Bool.{cases_lt, cases_order}
use Rattle.std.proofs.lemmas.Grind.{in_remove}
use Rattle.std.proofs.lemmas.List.{get_or_default, get_or_read}
use Rattle.std.proofs.lemmas.List.Edits.{get_or-remove_above, get_or-remove_below, length-remove}
use Rattle.std.proofs.lemmas.List.Elements.{Contains-append_left, Contains-append_right, Contains-get_or, Contains-push, Contains-push_cases, pair_read}
use Rattle.std.proofs.lemmas.List.Kept.{AllPairs-cons}
use Rattle.std.proofs.lemmas.List.Quantifiers.{all_pairs_push, all_pairs_remove}
use Rattle.lin_lists.specs.lemmas.Elements.{all_of, first_or_rest, nothing_in}
use Rattle.lin_tables.specs.Choices.{IsHindmost, TakesIn}
use Rattle.lin_tables.specs.WindowTables.{IsAhead, IsChoice, IsEarlier, Listing}
use Rattle.lin_tables.specs.declared.marks.Chosen.{Chosen}
use Rattle.lin_tables.proofs.Marking.{ahead_total, ahead_trans}

module _ (listed : Listing) (chosen : List Chosen) where
  -- the hindmost of those that stand before a place
  abbrev pub IsHindmostBelow : ℕ → ℕ → Type 0
  IsHindmostBelow at last = (last < at) × ((k : ℕ) (d : Chosen) → k < at → k ≢ last → IsAhead listed (get_or chosen k d) (get_or chosen last d))

  pub hindmost_first : IsHindmostBelow 1 0
  hindmost_first = (omega arith, λ k d below differ. absurd (differ (omega (arith, below))))

  pub hindmost_moves : (at last : ℕ) (x y : Chosen) → at < length chosen → x ≡ get_or chosen last x → y ≡ get_or chosen at y → IsAhead listed x y → IsHindmostBelow at last → IsHindmostBelow (at + 1) at
  hindmost_moves at last x y within is_x is_y ahead so_far =
      let early : last < at = so_far.0 in (
        omega arith,
        λ k d below differ.
            let here = pair_read chosen (IsAhead listed) last at x y (omega (arith, early, within)) within is_x is_y ahead d in
            elim (cases_order k last) [
              | inl same ↦ subst (λ i. IsAhead listed (get_or chosen i d) (get_or chosen at d)) (sym same) here
              | inr apart ↦
                  ahead_trans listed (get_or chosen k d) (get_or chosen last d) (get_or chosen at d)
                  (so_far.1 k d (omega (arith, below, differ)) (λ same. elim apart [ inl before ↦ omega (arith, before, same) | inr after ↦ omega (arith, after, same) ]))
                  here
            ],
      )

  pub hindmost_stays : AllPairs IsEarlier chosen → (at last : ℕ) (x y : Chosen) → at < length chosen → x ≡ get_or chosen last x → y ≡ get_or chosen at y → (IsAhead listed x y → ⊥) → IsHindmostBelow at last → IsHindmostBelow (at + 1) last
  hindmost_stays rising at last x y within is_x is_y never so_far =
      let early : last < at = so_far.0 in (
        omega (arith, early),
        λ k d below differ. elim (cases_lt k at) [
          | inl before ↦ so_far.1 k d before differ
          | inr later ↦
              let same : k ≡ at = omega (arith, below, later) in
              let x_is = get_or_read chosen last x (omega (arith, early, within)) is_x d in
              let y_is = get_or_read chosen at y within is_y d in
              let earlier : (get_or chosen last d).at < (get_or chosen at d).at = rising last at d early within in
              subst (λ i. IsAhead listed (get_or chosen i d) (get_or chosen last d)) (sym same)
              (ahead_total listed (get_or chosen last d) (get_or chosen at d) (λ e. omega (arith, e, earlier))
              (λ is. never (subst (λ z. IsAhead listed z y) (sym x_is) (subst (λ z. IsAhead listed (get_or chosen last d) z) (sym y_is) is))))
        ],
      )

  -- the same of elements as the code reads them
  pub moves_at : (at last : ℕ) (d e : Chosen) → at < length chosen → IsAhead listed (get_or chosen last d) (get_or chosen at e) → IsHindmostBelow at last → IsHindmostBelow (at + 1) at
  moves_at at last d e within ahead so_far =
      let early : last < at = so_far.0 in
      hindmost_moves at last (get_or chosen last d) (get_or chosen at e) within
      (get_or_default chosen last d (get_or chosen last d) (omega (arith, early, within)))
      (get_or_default chosen at e (get_or chosen at e) within)
      ahead so_far

  pub stays_at : AllPairs IsEarlier chosen → (at last : ℕ) (d e : Chosen) → at < length chosen → (IsAhead listed (get_or chosen last d) (get_or chosen at e) → ⊥) → IsHindmostBelow at last → IsHindmostBelow (at + 1) last
  stays_at rising at last d e within never so_far =
      let early : last < at = so_far.0 in
      hindmost_stays rising at last (get_or chosen last d) (get_or chosen at e) within
      (get_or_default chosen last d (get_or chosen last d) (omega (arith, early, within)))
      (get_or_default chosen at e (get_or chosen at e) within)
      never so_far

  pub hindmost_end : (at last : ℕ) → at ≡ length chosen → IsHindmostBelow at last → IsHindmost listed chosen last
  hindmost_end at last end so_far =
      let early : last < at = so_far.0 in
      record { within = omega (arith, early, end); behind = λ k d inside differ. so_far.1 k d (omega (arith, inside, end)) differ }

module _ {X : Type 0} (xs : List X) (i : ℕ) (within : i < length xs) where
  -- without the element at a place a list has those at the others
  pub from_removed : (y : X) → Contains (remove xs i) y → (k : ℕ) × (k < length xs) × (k ≢ i) × (get_or xs k y ≡ y)
  from_removed y there =
      let many = length-remove xs i within in
      let inside : there.0 < length (remove xs i) = there.1 in
      elim (cases_lt there.0 i) [
        | inl below ↦ (there.0, omega (arith, below, within), (λ same. omega (arith, below, same)), sym (get_or-remove_below xs i y there.0 below within) ∙ there.2)
        | inr above ↦ (there.0 + 1, omega (arith, inside, many), (λ same. omega (arith, above, same)), sym (get_or-remove_above xs i y there.0 above within) ∙ there.2)
      ]

  pub in_removed : (k : ℕ) (y : X) → k < length xs → k ≢ i → get_or xs k y ≡ y → Contains (remove xs i) y
  in_removed k y inside differ is = (in_remove xs i k y within inside (sym is) differ).1

-- the same choice of the same operations
pub choice_again : (P Q : Chosen → Type 0) (listed : Listing) (shown left : List Chosen) → ((x : Chosen) → P x ↔ Q x) → IsChoice P listed shown left → IsChoice Q listed shown left
choice_again P Q listed shown left both c = record {
  all = λ x. ((λ is. (c.all x).0 ((both x).1 is)), λ there. (both x).0 ((c.all x).1 there));
  rising = c.rising;
  once = c.once;
  apart = c.apart;
  behind = c.behind;
  few = c.few;
  full = c.full;
}

module _ (such : Chosen → Type 0) (listed : Listing) where
  -- those that were invoked before a place
  abbrev pub Below : ℕ → Chosen → Type 0
  Below place x = (x.at < place) × such x

  -- what is chosen of those before a place, and how many are left out
  abbrev pub IsChoiceBelow : ℕ → List Chosen → ℕ → Type 0
  IsChoiceBelow place shown more = (left : List Chosen) × (more ≡ length left) × (more ≤ place) × IsChoice (Below place) listed shown left

  pub choice_none : IsChoiceBelow 0 [] 0
  choice_none = (
    [],
    refl,
    omega arith,
    record {
      all = λ x. (
        λ is. let no = is.0 in absurd (omega (arith, no)),
        λ there. elim there [ inl shown ↦ absurd (nothing_in x shown) | inr left ↦ absurd (nothing_in x left) ],
      );
      rising = λ i j d before within. absurd (omega (arith, within));
      once = λ i j d before within. absurd (omega (arith, within));
      apart = λ x shown left. nothing_in x left;
      behind = λ x y left shown. absurd (nothing_in x left);
      few = omega arith;
      full = inl refl;
    },
  )

  pub choice_same : (place : ℕ) (shown : List Chosen) (more : ℕ) → ((x : Chosen) → x.at ≡ place → such x → ⊥) → IsChoiceBelow place shown more → IsChoiceBelow (place + 1) shown more
  choice_same place shown more none c =
      let few = c.2 in (
        c.0,
        c.1,
        omega (arith, few),
        choice_again (Below place) (Below (place + 1)) listed shown c.0
            (λ x. (
              λ is. let below = is.0 in (omega (arith, below), is.1),
              λ is. elim (cases_lt x.at place) [
                | inl before ↦ (before, is.1)
                | inr later ↦ let below = is.0 in absurd (none x (omega (arith, below, later)) is.1)
              ],
            ))
            c.3,
      )

  pub choice_end : (place : ℕ) (shown left : List Chosen) → ((x : Chosen) → such x → x.at < place) → IsChoice (Below place) listed shown left → IsChoice such listed shown left
  choice_end place shown left all c = choice_again (Below place) such listed shown left (λ x. ((λ is. is.1), λ is. (all x is, is))) c

  module _ (place : ℕ) (new : Chosen) (here : new.at ≡ place) (belongs : such new) (alone : (x : Chosen) → x.at ≡ place → such x → new ≡ x) (shown left : List Chosen) (c : IsChoice (Below place) listed shown left) where
    -- all up to the new one
    all_with : (x : Chosen) → Below (place + 1) x ↔ (Contains (shown ++ new ∷ []) x ⊎ Contains left x)
    all_with x = (
      λ is. elim (cases_lt x.at place) [
        | inl before ↦ elim ((c.all x).0 (before, is.1)) [
          | inl old ↦ inl (Contains-append_left shown (new ∷ []) x old)
          | inr out ↦ inr out
        ]
        | inr later ↦
            let below = is.0 in
            let same : new ≡ x = alone x (omega (arith, below, later)) is.1 in
            inl (subst (Contains (shown ++ new ∷ [])) same (Contains-push shown new))
      ],
      λ there. elim there [
        | inl with' ↦ elim (Contains-push_cases shown new x with') [
          | inl old ↦ let was = (c.all x).1 (inl old) in let below = was.0 in (omega (arith, below), was.1)
          | inr same ↦ subst (Below (place + 1)) same (omega (arith, here), belongs)
        ]
        | inr out ↦ let was = (c.all x).1 (inr out) in let below = was.0 in (omega (arith, below), was.1)
      ],
    )

    rising_with : AllPairs IsEarlier (shown ++ new ∷ [])
    rising_with = all_pairs_push IsEarlier shown new c.rising (λ k d inside.
        let was = (c.all (get_or shown k d)).1 (inl (Contains-get_or shown k d inside)) in
        let below : (get_or shown k d).at < place = was.0 in
        omega (arith, below, here))

    apart_with : (x : Chosen) → Contains (shown ++ new ∷ []) x → Contains left x → ⊥
    apart_with x there out = elim (Contains-push_cases shown new x there) [
      | inl old ↦ c.apart x old out
      | inr same ↦
          let was = (c.all x).1 (inr out) in
          let below : x.at < place = was.0 in
          let e : new.at ≡ x.at = ap (λ (z : Chosen). z.at) same in
          omega (arith, below, e, here)
    ]

    many_with : length (shown ++ new ∷ []) ≡ length shown + 1
    many_with = length-append shown (new ∷ [])

    none_left : length (shown ++ new ∷ []) ≤ 8 → left ≡ []
    none_left room = elim c.full [
      | inl none ↦ none
      | inr eight ↦ absurd (omega (arith, eight, room, many_with))
    ]

    -- a place is left for the new one
    pub choice_push : length (shown ++ new ∷ []) ≤ 8 → IsChoice (Below (place + 1)) listed (shown ++ new ∷ []) left
    choice_push room = record {
      all = all_with;
      rising = rising_with;
      once = c.once;
      apart = apart_with;
      behind = λ x y out there. absurd (nothing_in x (subst (λ l. Contains l x) (none_left room) out));
      few = room;
      full = inl (none_left room);
    }

    module _ (last : ℕ) (hind : IsHindmost listed (shown ++ new ∷ []) last) where
      -- the one that is left out
      abbrev pub dropped : Chosen
      dropped = get_or (shown ++ new ∷ []) last new

      dropped_there : Contains (shown ++ new ∷ []) dropped
      dropped_there = Contains-get_or (shown ++ new ∷ []) last new hind.within

      one_there : (k : ℕ) → k < length (shown ++ new ∷ []) → k ≢ last → get_or (shown ++ new ∷ []) k new ≡ get_or (shown ++ new ∷ []) last new → ⊥
      one_there k inside differ same =
          let e : (get_or (shown ++ new ∷ []) k new).at ≡ (get_or (shown ++ new ∷ []) last new).at = ap (λ (z : Chosen). z.at) same in
          elim (cases_order k last) [
            | inl equal ↦ differ equal
            | inr apart ↦ elim apart [
              | inl before ↦ let less : (get_or (shown ++ new ∷ []) k new).at < (get_or (shown ++ new ∷ []) last new).at = rising_with k last new before hind.within in omega (arith, less, e)
              | inr after ↦ let less : (get_or (shown ++ new ∷ []) last new).at < (get_or (shown ++ new ∷ []) k new).at = rising_with last k new after inside in omega (arith, less, e)
            ]
          ]

      -- what stays is there, at another place, and is not the one that is left out, but ahead of it
      stays_there : (x : Chosen) → Contains (remove (shown ++ new ∷ []) last) x → Contains (shown ++ new ∷ []) x × (dropped ≡ x → ⊥) × IsAhead listed x dropped
      stays_there x there =
          let found = from_removed (shown ++ new ∷ []) last hind.within x there in
          let is : get_or (shown ++ new ∷ []) found.0 new ≡ x = get_or_default (shown ++ new ∷ []) found.0 new x found.1 ∙ found.3 in (
            (found.0, found.1, found.3),
            (λ same. one_there found.0 found.1 found.2 (is ∙ sym same)),
            subst (λ z. IsAhead listed z (get_or (shown ++ new ∷ []) last new)) is (hind.behind found.0 new found.1 found.2),
          )

      leaves_or_stays : (x : Chosen) → Contains (shown ++ new ∷ []) x → Contains (remove (shown ++ new ∷ []) last) x ⊎ (dropped ≡ x)
      leaves_or_stays x there = elim (cases_order there.0 last) [
        | inl same ↦ inr (get_or_default (shown ++ new ∷ []) last new x hind.within ∙ subst (λ k. get_or (shown ++ new ∷ []) k x ≡ x) same there.2)
        | inr apart ↦ inl (in_removed (shown ++ new ∷ []) last hind.within there.0 x there.1
            (λ same. elim apart [ inl before ↦ omega (arith, before, same) | inr after ↦ omega (arith, after, same) ])
            there.2)
      ]

      behind_with : (x y : Chosen) → Contains left x → Contains (remove (shown ++ new ∷ []) last) y → IsAhead listed y x
      behind_with x y out there =
          let stays = stays_there y there in
          elim (Contains-push_cases shown new y stays.0) [
            | inl old ↦ c.behind x y out old
            | inr same ↦ elim (Contains-push_cases shown new dropped dropped_there) [
              | inl old ↦ ahead_trans listed y dropped x stays.2 (c.behind x dropped out old)
              | inr itself ↦ absurd (stays.1 (sym itself ∙ same))
            ]
          ]

      -- more than eight: the hindmost is left out
      pub choice_drop : 8 < length (shown ++ new ∷ []) → IsChoice (Below (place + 1)) listed (remove (shown ++ new ∷ []) last) (dropped ∷ left)
      choice_drop past = record {
        all = λ x. (
          λ is. elim ((all_with x).0 is) [
            | inl there ↦ elim (leaves_or_stays x there) [
              | inl stays ↦ inl stays
              | inr same ↦ inr (0, omega arith, same)
            ]
            | inr out ↦ inr (Contains-append_right (dropped ∷ []) left x out)
          ],
          λ there. elim there [
            | inl stays ↦ (all_with x).1 (inl (stays_there x stays).0)
            | inr out ↦ elim (first_or_rest dropped left x out) [
              | inl same ↦ (all_with x).1 (inl (subst (Contains (shown ++ new ∷ [])) same dropped_there))
              | inr rest ↦ (all_with x).1 (inr rest)
            ]
          ],
        );
        rising = all_pairs_remove IsEarlier (shown ++ new ∷ []) last hind.within rising_with;
        once = AllPairs-cons ◌≢◌ dropped left (all_of (λ z. dropped ≢ z) left (λ z out same. apart_with z (subst (Contains (shown ++ new ∷ [])) same dropped_there) out)) c.once;
        apart = λ x stays out. elim (first_or_rest dropped left x out) [
          | inl same ↦ (stays_there x stays).1 same
          | inr rest ↦ apart_with x (stays_there x stays).0 rest
        ];
        behind = λ x y out stays. elim (first_or_rest dropped left x out) [
          | inl same ↦ subst (IsAhead listed y) same (stays_there y stays).2
          | inr rest ↦ behind_with x y rest stays
        ];
        few = let many = length-remove (shown ++ new ∷ []) last hind.within in let old = c.few in omega (arith, many, old, many_with);
        full = inr (let many = length-remove (shown ++ new ∷ []) last hind.within in let old = c.few in omega (arith, many, old, many_with, past));
      }

  module _ (place : ℕ) (new : Chosen) (here : new.at ≡ place) (belongs : such new) (alone : (x : Chosen) → x.at ≡ place → such x → new ≡ x) (old shown : List Chosen) (more : ℕ) (c : IsChoiceBelow place old more) where
    -- the new one is taken in, and none is left out
    pub choice_more : TakesIn listed (old ++ new ∷ []) false shown → IsChoiceBelow (place + 1) shown more
    choice_more takes =
        let few = c.2 in (
          c.0,
          c.1,
          omega (arith, few),
          subst (λ l. IsChoice (Below (place + 1)) listed l c.0) (sym takes.0) (choice_push place new here belongs alone old c.0 c.3 takes.1),
        )

    -- or one is
    pub choice_over : TakesIn listed (old ++ new ∷ []) true shown → IsChoiceBelow (place + 1) shown (more + 1)
    choice_over takes =
        let few = c.2 in
        let same = c.1 in (
          dropped place new here belongs alone old c.0 c.3 takes.0 takes.1 ∷ c.0,
          omega (arith, same),
          omega (arith, few),
          subst (λ l. IsChoice (Below (place + 1)) listed l (dropped place new here belongs alone old c.0 c.3 takes.0 takes.1 ∷ c.0)) (sym takes.3)
              (choice_drop place new here belongs alone old c.0 c.3 takes.0 takes.1 takes.2),
        )

    pub rising_more : AllPairs IsEarlier (old ++ new ∷ [])
    rising_more = rising_with place new here belongs alone old c.0 c.3

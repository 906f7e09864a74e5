-- What a read found beyond an earlier one, and what follows from that for all that it found.
use Rattle.std.proofs.Common.{◌≡◌, ◌<◌, ◌≤◌, ◌+◌, ◌⊎◌, ◌∷◌, ◌++◌, [], ℕ, List, Some, Contains, length, get_or, inl, inr, sym, ap, subst, ◌∙◌, arith}
use Rattle.std.proofs.lemmas.Bool.{cases_lt}
use Rattle.std.proofs.lemmas.List.Elements.{Contains-append_left, Contains-get_or, Contains-push, Contains-push_cases}
use Rattle.lin_events.specs.declared.items.Item.{Item}
use Rattle.lin_events.specs.declared.calls.Call.TheVariants.{Read}
use Rattle.lin_events.specs.declared.calls.Reply.TheVariants as Replied
use Rattle.lin_events.specs.declared.events.Event.{Event}
use Rattle.lin_lists.specs.lemmas.Elements.{nothing_in}
use Rattle.lin_sets.specs.declared.endings.Endings.{Endings}
use Rattle.lin_sets.specs.declared.intervals.Intervals.{Intervals}
use Rattle.lin_sets.specs.declared.news.News.{News}
use Rattle.lin_sets.specs.Endings.{AreLearned, known_in}
use Rattle.lin_sets.specs.Intervals.{AreAll}
use Rattle.lin_sets.specs.News.{AreBeyond, IsNews, IsPartly}
use Rattle.lin_sets.specs.Places.{place_in}
use Rattle.lin_sets.specs.Steps.{IsFitting, IsFittingSince}
use Rattle.lin_sets.proofs.Finding.{any_default}
use Rattle.lin_sets.proofs.Free.{known_of}
use Rattle.lin_sets.proofs.Learning.{not_none}

-- one item further
module _ (items other more : List Item) (i met : ℕ) (part : IsPartly items other i met more) where
  pub partly_met : (d : Item) → i < length items → met < length other → ((e : Item) → get_or other met e ≡ get_or items i d) → IsPartly items other (i + 1) (met + 1) more
  partly_met d inside within same = record {
    inside = λ k e below. elim (cases_lt k met) [
      | inl before ↦ part.inside k e before
      | inr from ↦
          let at : met ≡ k = omega (arith, from, below) in
          subst (λ n. Contains items (get_or other n e)) at (subst (Contains items) (sym (same e)) (Contains-get_or items i d inside))
    ];
    each = part.each;
    rest = λ k e below. elim (cases_lt k i) [
      | inl before ↦ part.rest k e before
      | inr from ↦
          let at : i ≡ k = omega (arith, from, below) in
          inl (subst (λ n. Contains other (get_or items n e)) at (met, within, same (get_or items i e) ∙ any_default items i d e inside))
    ];
  }

  pub partly_more : (d : Item) → i < length items → IsPartly items other (i + 1) met (more ++ get_or items i d ∷ [])
  partly_more d inside = record {
    inside = part.inside;
    each = λ item there. elim (Contains-push_cases more (get_or items i d) item there) [
      | inl before ↦ part.each item before
      | inr same ↦ subst (Contains items) same (Contains-get_or items i d inside)
    ];
    rest = λ k e below. elim (cases_lt k i) [
      | inl before ↦ elim (part.rest k e before) [
        | inl met ↦ inl met
        | inr there ↦ inr (Contains-append_left more (get_or items i d ∷ []) (get_or items k e) there)
      ]
      | inr from ↦
          let at : i ≡ k = omega (arith, from, below) in
          inr (subst (Contains (more ++ get_or items i d ∷ [])) (any_default items i d e inside ∙ ap (λ n. get_or items n e) at) (Contains-push more (get_or items i d)))
    ];
  }

  pub partly_all : length items ≤ i → length other ≤ met → AreBeyond items other more
  partly_all over all = record {
    inside = λ item there. subst (Contains items) there.2 (part.inside there.0 item (omega (arith, there.1, all)));
    each = part.each;
    rest = λ item there. subst (λ x. Contains other x ⊎ Contains more x) there.2 (part.rest there.0 item (omega (arith, there.1, over)));
  }

-- the same of these reads and this set
pub news_at : (reads old : List (ℕ × List Item)) (items s : List Item) (news : News) → reads ≡ old → items ≡ s → IsNews reads items news → IsNews old s news
news_at reads old items s news first second is = subst (λ (l : List Item). IsNews old l news) second (subst (λ (l : List (ℕ × List Item)). IsNews l items news) first is)

module _ (all : Intervals) (h : List Event) (told : AreAll all h) (s : List Item) (news : News) (is : IsNews all.reads.items s news) where
  pub news_inside : (item : Item) → Contains news.items.items item → Contains s item
  news_inside = is.2.each

  -- what the earlier read found is known
  found_before : (item : Item) → Contains is.0 item → (known : ℕ) × (known_in all.endings item ≡ Some known)
  found_before item there = elim is.1 [
    | inl none ↦ absurd (nothing_in item (subst (λ (l : List Item). Contains l item) none.0 there))
    | inr read ↦
        let found = told.reads.each news.since is.0 read in
        let known = known_of h item (known_in all.endings item) (told.known item) news.since found.0 (Read, Replied.Members is.0, found.1.0, found.1.1, there) in
        (known.0, known.1)
  ]

  pub fits_whole : (at : ℕ) → IsFittingSince all.first all.endings at s news.since news.items.items → IsFitting all.first all.endings at s
  fits_whole at fits = (
    λ item there. elim (is.2.rest item there) [
      | inl before ↦
          let known = found_before item before in
          let add = told.free.added item known.0 known.1 in
          (add.0, add.1)
      | inr new ↦ fits.0 item new
    ],
    λ item end known lacks.
        let early = earlier item end known lacks in
        let late = fits.1 item end known lacks early.0 in (
          late.0,
          λ other there. elim (is.2.rest other there) [
            | inl before ↦ early.1 other before
            | inr new ↦ late.1 other new
          ],
        ),
  )
    where
      earlier : (item : Item) (end : ℕ) → known_in all.endings item ≡ Some end → (Contains s item → ⊥)
          → (news.since ≤ end) × ((other : Item) → Contains is.0 other → (added : ℕ) × (place_in all.first other ≡ Some added) × (added ≤ end))
      earlier item end known lacks = elim is.1 [
        | inl none ↦ (omega (arith, none.1), λ other there. absurd (nothing_in other (subst (λ (l : List Item). Contains l other) none.0 there)))
        | inr read ↦
            let found = told.reads.each news.since is.0 read in
            let fit = told.free.fits news.since found.0 is.0 item end found.1 known (λ there. lacks (is.2.inside item there)) in (
              elim (cases_lt end news.since) [
                | inl before ↦ absurd (fit.0 before)
                | inr from ↦ from
              ],
              fit.1,
            )
      ]

  pub learned_whole : (new : Endings) (end : ℕ) → AreLearned all.endings new news.items.items end → AreLearned all.endings new s end
  learned_whole new end learned = record {
    stays = learned.stays;
    learned = λ item none there. elim (is.2.rest item there) [
      | inl before ↦ let known = found_before item before in absurd (not_none (sym known.1 ∙ none))
      | inr new ↦ learned.learned item none new
    ];
    others = λ item since none some. let found = learned.others item since none some in (is.2.each item found.0, found.1);
  }

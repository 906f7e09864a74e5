-- From what was found of the objects to the answer for the whole.
use Rattle.std.proofs.Common.{◌≡◌, ◌≢◌, ◌<◌, ◌≤◌, ◌-◌, ◌+◌, ◌↔◌, ◌⊎◌, ℕ, Bool, true, false, List, [], ◌∷◌, ◌++◌, Option, None, Some, Contains, All, min, length, slice_get, take, inl, inr, refl, sym, ap, subst, ◌∙◌, arith, add-one, append-nil}
use Rattle.std.specs.List.{list_any}
use Rattle.std.proofs.lemmas.Bool.{cases_lt, false≢true}
use Rattle.std.proofs.lemmas.List.{take-take, take_all}
use Rattle.std.proofs.lemmas.List.Elements.{filter-append, Contains-push_cases}
use Rattle.std.proofs.lemmas.Map.Views.{list_any-from_Contains, Contains-from_any}
use Rattle.std.proofs.lemmas.Option.{same_Some, none-some}
use Rattle.lin_events.specs.declared.items.Item.{Item}
use Rattle.lin_events.specs.Sameness.{Decides-item_eq, item_eq_equiv}
use Rattle.lin_events.specs.Items.{item_eq}
use Rattle.lin_events.specs.declared.events.Event.{Event}
use Rattle.lin_events.specs.declared.calls.Call.{Call}
use Rattle.lin_events.specs.declared.calls.Reply.{Reply}
use Rattle.lin_events.specs.Operations.{IsEvent}
use Rattle.lin_events.specs.WellFormed.{IsWellFormed}
use Rattle.lin_events.specs.WellFormedLaws.{BeginningsAreWellFormed}
use Rattle.lin_objects.specs.declared.kinds.Kind.{Kind}
use Rattle.lin_objects.specs.Kinds.{functions_of}
use Rattle.lin_objects.specs.Steps.{Step, start}
use Rattle.lin_order.specs.Laws.{PrefixesAreLinearizableFor}
use Rattle.lin_order.specs.Linearizable.{IsLinearizable, IsLinearizableFor, IsLinearizableBy}
use Rattle.lin_order.specs.Merging.{AbsentKeysAreLegal, IsLocal}
use Rattle.lin_order.specs.Parts.{part}
use Rattle.lin_order.specs.PartLaws.{LinearizableByPart}
use Rattle.lin_order.specs.Configurations.{IsConfiguration}
use Rattle.lin_answers.specs.declared.answers.Verdict.{Verdict}
use Rattle.lin_answers.specs.declared.answers.Verdict.TheVariants.{Yes, No, Undecided}
use Rattle.lin_answers.specs.Answers.{IsShortestWithout, IsOverAt, IsWholeVerdict}
use Rattle.lin_session.specs.inner.Judgements.{IsFinding, IsCovered, AreFound, IsTold}
use Rattle.lin_session.specs.Leaving.{least}
use Rattle.lin_session.proofs.Around.{part-same}
use Rattle.lin_lists.specs.lemmas.Lists.{get_taken, take_next}

-- what has a configuration is linearizable
linear_over : {S : Type 0} (start : S) (step : S → Call → S → Reply → Type 0) (h : List Event) (budget : ℕ) (found : List (S × List (ℕ × Reply))) → length found ≡ budget + 1
    → All (IsConfiguration start step h) found → IsLinearizableBy start step h
linear_over start step h budget [] many are = absurd (omega (arith, many))
linear_over start step h budget (c ∷ cs) many are =
    let is = are 0 c (omega arith) in
    (is.0, record { order_of = is.1.order_of; legal = (c.0, is.1.runs) })

module _ (local : IsLocal) (absent : AbsentKeysAreLegal) (prefix : PrefixesAreLinearizableFor) (linear : LinearizableByPart) (beginnings : BeginningsAreWellFormed)
    (kinds : Item → Kind) (budget : ℕ) (h : List Event) (fine : IsWellFormed (functions_of kinds) h) where
  at_prefix : (key : Item) (n : ℕ) → IsLinearizableFor kinds key (take n h) ↔ IsLinearizableBy (start (kinds key)) (Step (kinds key)) (part key (take n h))
  at_prefix key n = linear (functions_of kinds) kinds key (take n h) (beginnings (functions_of kinds) h n fine)

  up_to_over : (key : Item) (at : ℕ) → IsOverAt kinds budget h key at → IsLinearizableFor kinds key (take (at + 1) h)
  up_to_over key at is = (at_prefix key (at + 1)).1 (linear_over (start (kinds key)) (Step (kinds key)) (part key (take (at + 1) h)) budget is.over.found is.over.many is.over.configurations)

  shorter : (key : Item) (m n : ℕ) → n ≤ m → IsLinearizableFor kinds key (take m h) → IsLinearizableFor kinds key (take n h)
  shorter key m n less lin = subst (IsLinearizableFor kinds key) (take-take n m h less) (prefix kinds key (take m h) n lin)

  -- an event of another key changes nothing
  one_more : (key : Item) (at : ℕ) (event : Event) → IsEvent h at event → event.key ≢ key → IsLinearizableFor kinds key (take at h) → IsLinearizableFor kinds key (take (at + 1) h)
  one_more key at event stands other lin =
      let longer : take (at + 1) h ≡ take at h ++ event ∷ [] = ap (λ n. take n h) (add-one at) ∙ take_next at h event stands in
      let same : part key (take (at + 1) h) ≡ part key (take at h) =
      ap (part key) longer ∙ filter-append (λ (e : Event). item_eq e.key key) (take at h) (event ∷ []) ∙ ap (λ l. part key (take at h) ++ l) (part-same key event [] other) ∙ append-nil (part key (take at h)) in
      (at_prefix key (at + 1)).1 (subst (IsLinearizableBy (start (kinds key)) (Step (kinds key))) (sym same) ((at_prefix key at).0 lin))

  module _ (keys : List Item) (complete : (at : ℕ) (event : Event) → IsEvent h at event → Contains keys event.key) where
    -- each object is linearizable up to there, if each listed one is
    all_keys : (n : ℕ) → ((key : Item) → Contains keys key → IsLinearizableFor kinds key (take n h)) → IsLinearizable kinds (take n h)
    all_keys n listed = (local kinds (take n h)).1 (λ key. by key (list_any (item_eq key) keys) refl)
      where
        by : (key : Item) (b : Bool) → list_any (item_eq key) keys ≡ b → IsLinearizableFor kinds key (take n h)
        by key true e = listed key (Contains-from_any (λ x y. (Decides-item_eq x y).0) key keys e)
        by key false e = (
          [],
          absent kinds (take n h) key (λ at event stands same.
              let there = complete at event (get_taken n h at event stands).1 in
              false≢true (sym e ∙ list_any-from_Contains item_eq_equiv key keys (subst (Contains keys) same there))),
        )

    module _ (failing over : Option ℕ) (found : AreFound kinds budget h keys failing over) where
      -- no object fails earlier, and none that is over stands in the way
      pub no_earlier : (n : ℕ) → failing ≡ Some n → ((u : ℕ) → over ≡ Some u → n ≤ u) → IsWholeVerdict kinds budget h (No n)
      no_earlier n fails behind =
          let f = found.fails n fails in
          record {
            within = f.1.within;
            fails = λ lin. f.1.fails ((local kinds (take n h)).0 lin f.0);
            before = all_keys (n - 1) (λ key there. by key (found.each key there));
          }
        where
          by : (key : Item) → IsCovered kinds budget h failing over key → IsLinearizableFor kinds key (take (n - 1) h)
          by key (inl lin) = prefix kinds key h (n - 1) lin
          by key (inr (inl (k, m, is, less, short))) =
              let same = same_Some k n (sym is ∙ fails) in
              shorter key (m - 1) (n - 1) (omega (arith, same, less)) short.before
          by key (inr (inr (u, v, is, less, stands))) =
              let l = behind u is in
              shorter key (v + 1) (n - 1) (omega (arith, l, less)) (up_to_over key v stands)

      -- no object fails up to there
      pub none_hidden : (at : ℕ) → over ≡ Some at → ((n : ℕ) → failing ≡ Some n → at < n) → IsWholeVerdict kinds budget h (Undecided at)
      none_hidden at is_over ahead = (all_keys (at + 1) (λ key there. by key (found.each key there)), (found.stands_over at is_over).0, (found.stands_over at is_over).1)
        where
          at_place : (key x : Item) (b : Bool) → item_eq x key ≡ b → IsOverAt kinds budget h x at → IsLinearizableFor kinds key (take at h) → IsLinearizableFor kinds key (take (at + 1) h)
          at_place key x true e stands lin = subst (λ k. IsLinearizableFor kinds k (take (at + 1) h)) ((Decides-item_eq x key).0 e) (up_to_over x at stands)
          at_place key x false e stands lin = one_more key at stands.event stands.stands (λ same. false≢true (sym e ∙ (Decides-item_eq x key).1 (sym stands.same ∙ same))) lin

          by : (key : Item) → IsCovered kinds budget h failing over key → IsLinearizableFor kinds key (take (at + 1) h)
          by key (inl lin) = prefix kinds key h (at + 1) lin
          by key (inr (inl (n, m, is, less, short))) =
              let l = ahead n is in
              let o = found.stands_over at is_over in
              elim (cases_lt (at + 1) m) [
                | inl far ↦ shorter key (m - 1) (at + 1) (omega (arith, far)) short.before
                | inr near ↦ at_place key o.0 (item_eq o.0 key) refl o.1 (shorter key (m - 1) at (omega (arith, l, less, near)) short.before)
              ]
          by key (inr (inr (u, v, is, less, stands))) =
              let same = same_Some u at (sym is ∙ is_over) in
              shorter key (v + 1) (at + 1) (omega (arith, same, less)) (up_to_over key v stands)

      -- no object fails, and none is over
      pub all_fine : failing ≡ None → over ≡ None → IsWholeVerdict kinds budget h Yes
      all_fine fails stands = subst (IsLinearizable kinds) (take_all (length h) h (omega arith)) (all_keys (length h) (λ key there. by key (found.each key there)))
        where
          by : (key : Item) → IsCovered kinds budget h failing over key → IsLinearizableFor kinds key (take (length h) h)
          by key (inl lin) = prefix kinds key h (length h) lin
          by key (inr (inl (n, m, is, less, short))) = absurd (none-some n (sym fails ∙ is))
          by key (inr (inr (u, v, is, less, over_there))) = absurd (none-some u (sym stands ∙ is))

      pub told_is : (told : Verdict) → IsTold failing over told → IsWholeVerdict kinds budget h told
      told_is told is = by failing refl over refl is
        where
          by : (f : Option ℕ) → failing ≡ f → (o : Option ℕ) → over ≡ o → IsTold f o told → IsWholeVerdict kinds budget h told
          by None f None o t = subst (IsWholeVerdict kinds budget h) (sym t) (all_fine f o)
          by None f (Some at) o t = subst (IsWholeVerdict kinds budget h) (sym t) (none_hidden at o (λ n is. absurd (none-some n (sym f ∙ is))))
          by (Some n) f None o t = subst (IsWholeVerdict kinds budget h) (sym t) (no_earlier n f (λ u is. absurd (none-some u (sym o ∙ is))))
          by (Some n) f (Some at) o (inl t) =
              subst (IsWholeVerdict kinds budget h) (sym t.1) (no_earlier n f (λ u is. let e = same_Some at u (sym o ∙ is) in omega (arith, e, t.0)))
          by (Some n) f (Some at) o (inr t) =
              subst (IsWholeVerdict kinds budget h) (sym t.1) (none_hidden at o (λ m is. let e = same_Some n m (sym f ∙ is) in omega (arith, e, t.0)))

-- one more object
module _ (kinds : Item → Kind) (budget : ℕ) (h : List Event) where
  least_left : (a b : Option ℕ) (n : ℕ) → a ≡ Some n → (m : ℕ) × (least a b ≡ Some m) × (m ≤ n)
  least_left None b n e = absurd (none-some n e)
  least_left (Some k) None n e = (n, e, omega arith)
  least_left (Some k) (Some l) n e = (min k l, refl, omega (arith, same_Some k n e))

  least_right : (a b : Option ℕ) (n : ℕ) → b ≡ Some n → (m : ℕ) × (least a b ≡ Some m) × (m ≤ n)
  least_right None b n e = (n, e, omega arith)
  least_right (Some k) None n e = absurd (none-some n e)
  least_right (Some k) (Some l) n e = (min k l, refl, omega (arith, same_Some l n e))

  least_from : (a b : Option ℕ) (n : ℕ) → least a b ≡ Some n → (a ≡ Some n) ⊎ (b ≡ Some n)
  least_from None b n e = inr e
  least_from (Some k) None n e = inl e
  least_from (Some k) (Some l) n e =
      let same = same_Some (min k l) n e in
      elim (cases_lt k l) [ inl less ↦ inl (ap Some (omega (arith, same, less))) | inr more ↦ inr (ap Some (omega (arith, same, more))) ]

  still : (f o f' o' : Option ℕ) (key : Item) → IsCovered kinds budget h f o key → IsCovered kinds budget h (least f f') (least o o') key
  still f o f' o' key (inl lin) = inl lin
  still f o f' o' key (inr (inl (n, m, is, less, short))) = let l = least_left f f' n is in inr (inl (l.0, m, l.1, omega (arith, l.2, less), short))
  still f o f' o' key (inr (inr (u, v, is, less, stands))) = let l = least_left o o' u is in inr (inr (l.0, v, l.1, omega (arith, l.2, less), stands))

  newly : (f o f' o' : Option ℕ) (key : Item) → IsFinding kinds budget h key f' o' → IsCovered kinds budget h (least f f') (least o o') key
  newly f o None None key lin = inl lin
  newly f o (Some n) o' key short = let l = least_right f (Some n) n refl in inr (inl (l.0, n, l.1, l.2, short.1))
  newly f o None (Some at) key stands = let l = least_right o (Some at) at refl in inr (inr (l.0, at, l.1, l.2, stands))

  fails_new : (f' o' : Option ℕ) (key : Item) (n : ℕ) → f' ≡ Some n → IsFinding kinds budget h key f' o' → IsShortestWithout (IsLinearizableFor kinds key) h n
  fails_new None o' key n e is = absurd (none-some n e)
  fails_new (Some m) o' key n e is = subst (IsShortestWithout (IsLinearizableFor kinds key) h) (same_Some m n e) is.1

  over_new : (f' o' : Option ℕ) (key : Item) (at : ℕ) → o' ≡ Some at → IsFinding kinds budget h key f' o' → IsOverAt kinds budget h key at
  over_new None None key at e is = absurd (none-some at e)
  over_new (Some m) o' key at e is = absurd (none-some at (sym is.0 ∙ e))
  over_new None (Some u) key at e is = subst (IsOverAt kinds budget h key) (same_Some u at e) is

  pub AreFound-none : AreFound kinds budget h [] None None
  AreFound-none = record {
    fails = λ n e. absurd (none-some n e);
    stands_over = λ at e. absurd (none-some at e);
    each = λ key (k, within, is). absurd (omega arith);
  }

  pub AreFound-more : (keys : List Item) (f o f' o' : Option ℕ) (key : Item) → AreFound kinds budget h keys f o → IsFinding kinds budget h key f' o' → AreFound kinds budget h (keys ++ key ∷ []) (least f f') (least o o')
  AreFound-more keys f o f' o' key found is = record {
    fails = λ n e. elim (least_from f f' n e) [ inl old ↦ found.fails n old | inr new ↦ (key, fails_new f' o' key n new is) ];
    stands_over = λ at e. elim (least_from o o' at e) [ inl old ↦ found.stands_over at old | inr new ↦ (key, over_new f' o' key at new is) ];
    each = λ x there. elim (Contains-push_cases keys key x there) [
      | inl old ↦ still f o f' o' x (found.each x old)
      | inr same ↦ subst (IsCovered kinds budget h (least f f') (least o o')) same (newly f o f' o' key is)
    ];
  }

  -- those of one more key among the first ones
  pub AreFound-next : (keys : List Item) (i : ℕ) (f o f' o' a b : Option ℕ) (key : Item) → slice_get keys i ≡ Some key → AreFound kinds budget h (take i keys) f o → IsFinding kinds budget h key f' o'
      → a ≡ least f f' → b ≡ least o o' → AreFound kinds budget h (take (i + 1) keys) a b
  AreFound-next keys i f o f' o' a b key key_at found is first second =
      let keys_are : take i keys ++ key ∷ [] ≡ take (i + 1) keys = sym (take_next i keys key key_at) ∙ ap (λ n. take n keys) (sym (add-one i)) in
      subst (λ x. AreFound kinds budget h (take (i + 1) keys) x b) (sym first) (subst (AreFound kinds budget h (take (i + 1) keys) (least f f')) (sym second)
      (subst (λ k. AreFound kinds budget h k (least f f') (least o o')) keys_are (AreFound-more (take i keys) f o f' o' key found is)))

pub least_none : (a b : Option ℕ) → least a b ≡ None → (a ≡ None) × (b ≡ None)
least_none None b e = (refl, e)
least_none (Some m) None e = absurd (none-some m (sym e))
least_none (Some m) (Some n) e = absurd (none-some (min m n) (sym e))

-- the lesser of two numbers is one of them
pub least_is : (a b : Option ℕ) (at : ℕ) → least a b ≡ Some at → (a ≡ Some at) ⊎ (b ≡ Some at)
least_is None b at e = inr e
least_is (Some m) None at e = inl e
least_is (Some m) (Some n) at e =
    let is = same_Some (min m n) at e in
    elim (cases_lt m n) [
      | inl less ↦ inl (ap Some (omega (arith, is, less)))
      | inr more ↦ inr (ap Some (omega (arith, is, more)))
    ]

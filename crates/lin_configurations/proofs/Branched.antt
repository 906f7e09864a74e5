-- Open operations that can be placed or not, as they are picked: there are more configurations than the budget.
use Rattle.std.proofs.Common.{mul-le-mul, ◌≡◌, ◌≢◌, ℕ, zero, suc, ◌+◌, ◌*◌, ◌-◌, ◌<◌, ◌≤◌, Bool, true, false, List, [], ◌∷◌, ◌++◌, length, length-append, Contains, All, AllPairs, get_or, take, inl, inr, refl, sym, ap, subst, ◌∙◌, arith}
use Rattle.std.proofs.lemmas.Bool.{cases_order}
use Rattle.std.proofs.lemmas.List.{get_or_append_left, get_or_default, get_or-append_right, get_or-take, length-take-le, take_all}
use Rattle.std.proofs.lemmas.List.Elements.{All-append, All-cons, All-contains, All-take, All-weaker, Contains-append_left, Contains-get_or, Contains-push}
use Rattle.std.proofs.lemmas.List.Quantifiers.{all_pairs_push}
use Rattle.lin_events.specs.declared.items.Item.{Item}
use Rattle.lin_events.specs.declared.calls.Call.{Call}
use Rattle.lin_events.specs.declared.calls.Call.TheVariants.{Read}
use Rattle.lin_events.specs.declared.calls.Name.{Name}
use Rattle.lin_events.specs.declared.calls.Reply.{Reply}
use Rattle.lin_events.specs.declared.events.Event.{Event}
use Rattle.lin_events.specs.Alternation.{IsAlternating}
use Rattle.lin_events.specs.Operations.{IsOpen}
use Rattle.lin_events.specs.lemmas.OneMore.{one_open}
use Rattle.lin_objects.specs.Total.{AreTotal, IsShown}
use Rattle.lin_order.specs.ConfigurationLaws.{PlacingIsLegal}
use Rattle.lin_order.specs.Configurations.{IsConfiguration, IsOver}
use Rattle.lin_configurations.specs.inner.Branches.{power, ArePicked, IsFree, IsUntold}
use Rattle.lin_frontier.specs.Frontiers.{IsPending}
use Rattle.lin_frontier.specs.declared.pending.Open.{Open}
use Rattle.lin_configurations.proofs.Branching as branching
use Rattle.lin_frontier.specs.lemmas.Inserting.{none_from}
use Rattle.lin_frontier.specs.lemmas.Trying.{take_next}

-- no two of them are one operation
abbrev pub Apart : Open → Open → Type 0
Apart o p = o.at ≢ p.at

-- picking, one operation after the other
module _ (P : Open → Type 0) where
  pub picked_none : (xs out : List Open) → xs ≡ [] → out ≡ [] → ArePicked P xs out
  picked_none xs out no_xs none = subst (λ l. ArePicked P l out) (sym no_xs) (subst (ArePicked P []) (sym none) (record {
    each = λ k x inside. absurd (omega (arith, inside));
    among = λ k x inside. absurd (omega (arith, inside));
    apart = λ all i j x below inside. absurd (omega (arith, below, inside));
  }))

  left_apart : (ys zs : List Open) → AllPairs Apart (ys ++ zs) → AllPairs Apart ys
  left_apart ys zs all i j d below inside =
      let many = length-append ys zs in
      subst (λ o. Apart o (get_or ys j d)) (get_or_append_left ys zs d i (omega (arith, below, inside)))
      (subst (Apart (get_or (ys ++ zs) i d)) (get_or_append_left ys zs d j inside) (all i j d below (omega (arith, inside, many))))

  last_apart : (ys : List Open) (x y : Open) → AllPairs Apart (ys ++ x ∷ []) → Contains ys y → Apart y x
  last_apart ys x y all there =
      let inside = there.1 in
      let many = length-append ys (x ∷ []) in
      subst (λ o. Apart o x) (get_or_append_left ys (x ∷ []) y there.0 inside ∙ there.2)
      (subst (Apart (get_or (ys ++ x ∷ []) there.0 y)) (get_or-append_right ys (x ∷ []) (length ys) (length ys) y refl (omega arith) ∙ ap (λ k. get_or (x ∷ []) k y) nothing)
      (all there.0 (length ys) y inside (omega (arith, many))))
    where
      nothing : length ys - length ys ≡ 0
      nothing = omega arith

  pub picked_pass : (xs ys : List Open) (x : Open) (out : List Open) → xs ≡ ys ++ x ∷ [] → ArePicked P ys out → ArePicked P xs out
  picked_pass xs ys x out more p = subst (λ l. ArePicked P l out) (sym more) (record {
    each = p.each;
    among = All-weaker (Contains ys) (Contains (ys ++ x ∷ [])) (λ y there. Contains-append_left ys (x ∷ []) y there) out p.among;
    apart = λ all. p.apart (left_apart ys (x ∷ []) all);
  })

  pub picked_push : (xs ys : List Open) (x : Open) (out now : List Open) → xs ≡ ys ++ x ∷ [] → now ≡ out ++ x ∷ [] → P x → ArePicked P ys out → ArePicked P xs now
  picked_push xs ys x out now more pushed holds p = subst (λ l. ArePicked P l now) (sym more) (subst (ArePicked P (ys ++ x ∷ [])) (sym pushed) (record {
    each = All-append P out (x ∷ []) p.each (All-cons P x [] holds (λ i y none. absurd (omega (arith, none))));
    among = All-append (Contains (ys ++ x ∷ [])) out (x ∷ []) (All-weaker (Contains ys) (Contains (ys ++ x ∷ [])) (λ y there. Contains-append_left ys (x ∷ []) y there) out p.among)
        (All-cons (Contains (ys ++ x ∷ [])) x [] (Contains-push ys x) (λ i y none. absurd (omega (arith, none))));
    apart = λ all. all_pairs_push Apart out x (p.apart (left_apart ys (x ∷ []) all)) (λ k d inside. last_apart ys x (get_or out k d) all (p.among k d inside));
  }))

  -- of the first ones, one more
  module _ (xs : List Open) (i : ℕ) (d : Open) (inside : i < length xs) (out now : List Open) where
    pub picked_in : now ≡ out ++ get_or xs i d ∷ [] → P (get_or xs i d) → ArePicked P (take i xs) out → ArePicked P (take (i + 1) xs) now
    picked_in pushed holds p = picked_push (take (i + 1) xs) (take i xs) (get_or xs i d) out now (take_next xs i (get_or xs i d) inside (get_or_default xs i d (get_or xs i d) inside)) pushed holds p

  pub picked_out : (xs : List Open) (i : ℕ) → i < length xs → (out now : List Open) → now ≡ out → ArePicked P (take i xs) out → ArePicked P (take (i + 1) xs) now
  picked_out [] i inside out now same p = absurd (omega (arith, inside))
  picked_out (x ∷ xs) i inside out now same p = subst (ArePicked P (take (i + 1) (x ∷ xs))) (sym same)
      (picked_pass (take (i + 1) (x ∷ xs)) (take i (x ∷ xs)) (get_or (x ∷ xs) i x) out (take_next (x ∷ xs) i (get_or (x ∷ xs) i x) inside (get_or_default (x ∷ xs) i x (get_or (x ∷ xs) i x) inside)) p)

  pub picked_all : (xs : List Open) (i : ℕ) (out : List Open) → length xs ≤ i → ArePicked P (take i xs) out → ArePicked P xs out
  picked_all xs i out past p = subst (λ l. ArePicked P l out) (take_all i xs past) p

-- one more operation, whose call none of them has
pub differ_push : (out now : List Open) (x : Open) → now ≡ out ++ x ∷ [] → All (λ (o : Open). o.call ≢ x.call) out → AllPairs (λ (o p : Open). o.call ≢ p.call) out → AllPairs (λ (o p : Open). o.call ≢ p.call) now
differ_push out now x pushed new all = subst (AllPairs (λ (o p : Open). o.call ≢ p.call)) (sym pushed) (all_pairs_push (λ (o p : Open). o.call ≢ p.call) out x all (λ k d inside. new k d inside))

-- more configurations than the budget
over_from : {S : Type 0} (start : S) (step : S → Call → S → Reply → Type 0) (h : List Event) (budget : ℕ) (found : List (S × List (ℕ × Reply))) → budget < length found
    → All (IsConfiguration start step h) found → AllPairs (λ c d. c ≢ d) found → IsOver start step h budget
over_from start step h budget found many all distinct = record {
  found = take (budget + 1) found;
  many = length-take-le (budget + 1) found (omega (arith, many));
  configurations = All-take (IsConfiguration start step h) (budget + 1) found all;
  distinct = λ i j d below inside.
      let count = length-take-le (budget + 1) found (omega (arith, many)) in
      subst (λ c. c ≢ get_or (take (budget + 1) found) j d) (sym (get_or-take (budget + 1) found i d (omega (arith, below, inside, count))))
      (subst (λ e. get_or found i d ≢ e) (sym (get_or-take (budget + 1) found j d (omega (arith, inside, count)))) (distinct i j d below (omega (arith, inside, count, many))));
}

-- two that are picked at one place are one
same_at : (xs : List Open) → AllPairs Apart xs → (x y : Open) → Contains xs x → Contains xs y → x.at ≡ y.at → x ≡ y
same_at xs all x y there here same = elim (cases_order there.0 here.0) [
  | inl one ↦ sym there.2 ∙ get_or_default xs there.0 x y there.1 ∙ ap (λ k. get_or xs k y) one ∙ here.2
  | inr differ ↦ elim differ [
    | inl below ↦ absurd (all there.0 here.0 x below here.1 (ap (λ (o : Open). o.at) there.2 ∙ same ∙ sym (ap (λ (o : Open). o.at) (get_or_default xs here.0 x y here.1 ∙ here.2))))
    | inr above ↦ absurd (all here.0 there.0 y above there.1 (ap (λ (o : Open). o.at) here.2 ∙ sym same ∙ sym (ap (λ (o : Open). o.at) (get_or_default xs there.0 y x there.1 ∙ there.2))))
  ]
]

module _ {S : Type 0} (start : S) (step : S → Call → S → Reply → Type 0) (total : Call → Bool) (always : AreTotal start step total) (legal : PlacingIsLegal start step)
    (functions : Item → Name → Bool) (h : List Event) (alternates : IsAlternating functions h) (pending : List Open) (opened : IsPending h pending)
    (c : S × List (ℕ × Reply)) (config : IsConfiguration start step h c) (free : List Open) (picked : ArePicked (IsFree total c.1) pending free) where
  -- two open operations of one process are one
  same_process : (o p : Open) → Contains free o → Contains free p → o.process ≡ p.process → o.at ≡ p.at
  same_process o p there here same =
      let first = opened.sound o (All-contains (Contains pending) free o picked.among there) in
      let second = opened.sound p (All-contains (Contains pending) free p picked.among here) in
      one_open functions h alternates o.at p.at o.process first.0 second.0 o.call p.call first.1 (subst (λ q. IsOpen h p.at q second.0 p.call) (sym same) second.1)

  free_apart : AllPairs Apart free
  free_apart = picked.apart opened.once

  waits : (tells : Type 0) (reads : Call) (reads_total : tells → total reads ≡ true) (shows : Call → Reply → Bool) (has : S → Call → Bool) (o : Open) → Contains free o
      → branching.Waits start step total always legal h tells reads reads_total shows has c o
  waits tells call reads_total shows has o there =
      let is = All-contains (IsFree total c.1) free o picked.each there in
      let open' = opened.sound o (All-contains (Contains pending) free o picked.among there) in
      record { key = open'.0; is_open = open'.1; takes = is.0; absent = none_from o.process c.1 is.1 }

  -- each of them is placed or not
  pub each_or_not : (budget : ℕ) → budget < power 2 (length free) → IsOver start step h budget
  each_or_not budget many = over_from start step h budget s.found (let e = s.many in omega (arith, e, many)) s.configurations s.distinct
    where
      never : ⊥ → total Read ≡ true
      never x = absurd x

      none_shows : Call → Reply → Bool
      none_shows call reply = false

      none_has : S → Call → Bool
      none_has state call = false

      differs : (o p : Open) → Contains free o → Contains free p → Apart o p → branching.Differs start step total always legal h ⊥ Read never none_shows none_has o p
      differs o p there here apart = record { processes = λ same. apart (same_process o p there here same); calls = λ x. absurd x }

      ready : branching.Ready start step total always legal h ⊥ Read never none_shows none_has c [] free []
      ready = record {
        reading = λ k x inside. absurd (omega (arith, inside));
        adding = λ k x inside. record {
          waits = waits ⊥ Read never none_shows none_has (get_or free k x) (Contains-get_or free k x inside);
          shown = λ t. absurd t;
          hidden = λ t. absurd t;
          other = λ t. absurd t;
        };
        later = λ k x inside. absurd (omega (arith, inside));
        reads_apart = λ i j x below inside. absurd (omega (arith, inside));
        now_apart = λ i j x below inside. differs (get_or free i x) (get_or free j x) (Contains-get_or free i x (omega (arith, below, inside))) (Contains-get_or free j x inside) (free_apart i j x below inside);
        kept_apart = λ i j x below inside. absurd (omega (arith, inside));
        now_kept = λ k x inside. λ i y none. absurd (omega (arith, none));
        reads_now = λ k x inside. absurd (omega (arith, inside));
        reads_kept = λ k x inside. absurd (omega (arith, inside));
      }

      s : branching.Spread start step total always legal h ⊥ Read never none_shows none_has c [] free []
      s = branching.spread start step total always legal h ⊥ Read never none_shows none_has [] free [] c config ready

  -- the updates stand ahead of one of the reads, behind all of them, or not at all
  module _ (call : Call) (call_total : total call ≡ true) (shown : Call → Call → Bool) (showing : Call → Reply → Bool) (having : S → Call → Bool)
      (told : (other reading : Call) → shown other reading ≡ true → IsShown step (showing other) (λ state. having state other) reading other)
      (rs es : List Open) (reading : ArePicked (λ o. o.call ≡ call) free rs) (untold : ArePicked (IsUntold shown having c.0 call) free es) (calls : AllPairs (λ o p. o.call ≢ p.call) es) where
    given : Unit {0} → total call ≡ true
    given t = call_total

    read_free : (o : Open) → Contains rs o → Contains free o
    read_free o there = All-contains (Contains free) rs o reading.among there

    update_free : (o : Open) → Contains es o → Contains free o
    update_free o there = All-contains (Contains free) es o untold.among there

    is_untold : (o : Open) → Contains es o → IsUntold shown having c.0 call o
    is_untold o there = All-contains (IsUntold shown having c.0 call) es o untold.each there

    -- a read and an update have two processes
    between : (r o : Open) → Contains rs r → Contains es o → r.process ≢ o.process
    between r o there here same =
        let one = same_at free free_apart r o (read_free r there) (update_free o here) (same_process r o (read_free r there) (update_free o here) same) in
        (is_untold o here).2 (sym (All-contains (λ (p : Open). p.call ≡ call) rs r reading.each there) ∙ ap (λ (p : Open). p.call) one)

    pub ahead_or_behind : (base budget : ℕ) → base ≤ length rs + 2 → budget < power base (length es) → IsOver start step h budget
    ahead_or_behind base budget most many =
        over_from start step h budget s.found
        (let e = s.many in let m = power_more base (suc (suc (length rs))) (length es) (omega (arith, most)) in let o : power (suc (suc (length rs))) (length es) * 1 ≡ power (suc (suc (length rs))) (length es) = omega arith in omega (arith, e, m, o, many))
        s.configurations s.distinct
      where
        power_more : (x y n : ℕ) → x ≤ y → power x n ≤ power y n
        power_more x y zero le = omega arith
        power_more x y (suc n) le = mul-le-mul le (power_more x y n le)

        ready : branching.Ready start step total always legal h (Unit {0}) call given showing having c rs es []
        ready = record {
          reading = λ k x inside. record {
            waits = waits (Unit {0}) call given showing having (get_or rs k x) (read_free (get_or rs k x) (Contains-get_or rs k x inside));
            same = reading.each k x inside;
            tell = tt;
          };
          adding = λ k x inside.
              let is = untold.each k x inside in
              let shows = told (get_or es k x).call call is.0 in
              record {
                waits = waits (Unit {0}) call given showing having (get_or es k x) (update_free (get_or es k x) (Contains-get_or es k x inside));
                shown = λ t. shows;
                hidden = λ t end answer step'. shows.absent c.0 end answer is.1 step';
                other = λ t. is.2;
              };
          later = λ k x inside. absurd (omega (arith, inside));
          reads_apart = λ i j x below inside same.
              let there = Contains-get_or rs i x (omega (arith, below, inside)) in
              let here = Contains-get_or rs j x inside in
              reading.apart free_apart i j x below inside (same_process (get_or rs i x) (get_or rs j x) (read_free (get_or rs i x) there) (read_free (get_or rs j x) here) same);
          now_apart = λ i j x below inside.
              let there = update_free (get_or es i x) (Contains-get_or es i x (omega (arith, below, inside))) in
              let here = update_free (get_or es j x) (Contains-get_or es j x inside) in
              record { processes = λ same. untold.apart free_apart i j x below inside (same_process (get_or es i x) (get_or es j x) there here same); calls = λ t. calls i j x below inside };
          kept_apart = λ i j x below inside. absurd (omega (arith, inside));
          now_kept = λ k x inside. λ i y none. absurd (omega (arith, none));
          reads_now = λ k x inside. λ i y within. between (get_or rs k x) (get_or es i y) (Contains-get_or rs k x inside) (Contains-get_or es i y within);
          reads_kept = λ k x inside. λ i y none. absurd (omega (arith, none));
        }

        s : branching.Spread start step total always legal h (Unit {0}) call given showing having c rs es []
        s = branching.spread start step total always legal h (Unit {0}) call given showing having rs es [] c config ready

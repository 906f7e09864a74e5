-- Prefixes of linearizable histories.
use Rattle.std.proofs.Common.{◌≡◌, ◌<◌, ◌≤◌, ℕ, zero, suc, true, false, cond, IsTrue, List, [], ◌∷◌, ◌++◌, length, All, AllPairs, Contains, get_or, take, drop, Some, slice_get, refl, sym, ap, subst, ◌∙◌, arith, inl, inr}
use Rattle.std.specs.Option.{option_map_or}
use Rattle.std.proofs.lemmas.Bool.{cases_lt}
use Rattle.std.proofs.lemmas.Option.{slice_get_past}
use Rattle.std.proofs.lemmas.List.{length-take, get_or-take, length-take-le, take-append-drop}
use Rattle.std.proofs.lemmas.List.Elements.{All-filter, All-take, All-weaker, All-contains, All-contains_itself, filter-append}
use Rattle.lin_events.specs.declared.items.Item.{Item}
use Rattle.lin_events.specs.Items.{item_eq}
use Rattle.lin_events.specs.declared.events.Event.{Event}
use Rattle.lin_events.specs.declared.calls.Call.{Call}
use Rattle.lin_events.specs.declared.calls.Reply.{Reply}
use Rattle.lin_events.specs.Operations.{IsEnd, IsOk, IsFailed}
use Rattle.lin_objects.specs.Steps.{Step, start}
use Rattle.lin_order.specs.declared.placed.Placed.{Placed}
use Rattle.lin_order.specs.Orders.{IsBefore, IsCall, IsOrderOf, Places, is_of_key, part_of}
use Rattle.lin_order.specs.Linearizable.{Runs, IsRun}
use Rattle.lin_order.specs.Laws.{PrefixesAreLinearizable, PrefixesAreLinearizableFor}
use Rattle.lin_order.specs.ConfigurationLaws.{PrefixesAreLinearizableBy}
use Rattle.lin_order.specs.lemmas.Running.{runs_split}

-- what a prefix has at a position, the whole has there
pub get_from_take : {A : Type 0} (n : ℕ) (xs : List A) (k : ℕ) (x : A) → slice_get (take n xs) k ≡ Some x → (k < n) × (slice_get xs k ≡ Some x)
get_from_take zero xs k x h = cc
get_from_take (suc n) [] k x h = cc
get_from_take (suc n) (y ∷ ys) zero x h = (omega arith, h)
get_from_take (suc n) (y ∷ ys) (suc k) x h =
    let rest = get_from_take n ys k x h in
    (omega arith, rest.1)

pub get_of_take : {A : Type 0} (n : ℕ) (xs : List A) (k : ℕ) → k < n → slice_get (take n xs) k ≡ slice_get xs k
get_of_take zero xs k l = absurd (omega arith)
get_of_take (suc n) [] k l = refl
get_of_take (suc n) (y ∷ ys) zero l = refl
get_of_take (suc n) (y ∷ ys) (suc k) l = get_of_take n ys k (omega arith)

-- what holds of each pair holds of each pair of a beginning
pairs_take : {A : Type 0} (R : A → A → Type 0) (m : ℕ) (xs : List A) → m ≤ length xs → AllPairs R xs → AllPairs R (take m xs)
pairs_take R m xs fits all i j d before within =
    let len = length-take-le m xs fits in
    let at_i = get_or-take m xs i d (omega arith) in
    let at_j = get_or-take m xs j d (omega arith) in
    subst (λ x. R x (get_or (take m xs) j d)) (sym at_i) (subst (R (get_or xs i d)) (sym at_j) (all i j d before (omega arith)))

-- where the first operation from n on stands in an order
cut : (n : ℕ) (o : List Placed) → (m : ℕ) × (m ≤ length o) × All (λ p. p.at < n) (take m o) × ((m < length o) → (d : Placed) → n ≤ (get_or o m d).at)
cut n [] = (0, omega arith, (λ k d l. absurd (omega arith)), (λ l d. absurd (omega arith)))
cut n (p ∷ ps) = elim (cases_lt p.at n) [
  | inl below ↦
      let rest = cut n ps in
      (suc rest.0, omega (arith, rest.1), (λ k d l. first_or (take rest.0 ps) k d below rest.2 l), (λ l d. rest.3 (omega arith) d))
  | inr past ↦ (0, omega arith, (λ k d l. absurd (omega arith)), (λ l d. past))
]
  where
    first_or : (xs : List Placed) (k : ℕ) (d : Placed) → p.at < n → All (λ q. q.at < n) xs → k < length (p ∷ xs) → (get_or (p ∷ xs) k d).at < n
    first_or xs zero d below rest l = below
    first_or xs (suc k) d below rest l = rest k d (omega arith)

module _ (h : List Event) (n : ℕ) where
  pub end_whole : (at end : ℕ) (ending : Event) → IsEnd (take n h) at end ending → (end < n) × IsEnd h at end ending
  end_whole at end ending e =
      let stop = get_from_take n h end ending e.ends in (
        stop.0,
        record {
          process = e.process;
          key = e.key;
          call = e.call;
          begins = (get_from_take n h at _ e.begins).1;
          later = e.later;
          ends = stop.1;
          same = e.same;
          least = λ k after before of_it. e.least k after before (of_it.0, get_of_take n h k (omega (arith, stop.0)) ∙ of_it.1, of_it.2);
        },
      )

  pub ok_whole : (at end : ℕ) (reply : Reply) → IsOk (take n h) at end reply → (end < n) × IsOk h at end reply
  ok_whole at end reply ok = let e = end_whole at end ok.0 ok.1 in (e.0, (ok.0, e.1, ok.2, ok.3))

  call_within : (at : ℕ) (call : Call) → at < n → IsCall h at call → IsCall (take n h) at call
  call_within at call below is = (is.0, is.1, get_of_take n h at below ∙ is.2)

  key_within : (key : Item) (at : ℕ) → at < n → is_of_key (take n h) key at ≡ is_of_key h key at
  key_within key at below = ap (λ o. option_map_or (λ event. item_eq event.key key) o false) (get_of_take n h at below)

  key_whole : (key : Item) (at : ℕ) → is_of_key (take n h) key at ≡ true → is_of_key h key at ≡ true
  key_whole key at of_it = elim (cases_lt at n) [
    | inl below ↦ sym (key_within key at below) ∙ of_it
    | inr past ↦ absurd (differ (sym (ap (λ o. option_map_or (λ (event : Event). item_eq event.key key) o false) (slice_get_past (take n h) at (length_at_most past))) ∙ of_it))
  ]
    where
      differ : false ≡ true → ⊥
      differ e = cc

      length_at_most : n ≤ at → length (take n h) ≤ at
      length_at_most past = let len = length-take n h in omega arith

  -- a run through operations below n is a run of the prefix
  run_within : {S : Type 0} (step : S → Call → S → Reply → Type 0) (s t : S) (o : List Placed) → All (λ p. p.at < n) o → Runs step h s o t → Runs step (take n h) s o t
  run_within step s t [] small run = run
  run_within step s t (p ∷ o) small run =
      (run.0, run.1, call_within p.at run.0 (small 0 p (omega arith)) run.2, run.3, run_within step run.1 t o (λ k d l. small (suc k) d (omega arith)) run.4)

  -- the part of a key is the same in the prefix
  part_within : (key : Item) (o : List Placed) → All (λ p. p.at < n) o → part_of (take n h) key o ≡ part_of h key o
  part_within key [] small = refl
  part_within key (p ∷ o) small =
      let rest = part_within key o (λ k d l. small (suc k) d (omega arith)) in
      let same = key_within key p.at (small 0 p (omega arith)) in
      ap (λ b. cond b (p ∷ part_of (take n h) key o) (part_of (take n h) key o)) same ∙ ap (λ l. cond (is_of_key h key p.at) (p ∷ l) l) rest

  module _ (scope inner : ℕ → Type 0) (narrow : (at : ℕ) → at < n → scope at → inner at) (widen : (at : ℕ) → inner at → scope at) (o : List Placed) (is : IsOrderOf scope h o) where
    -- an operation that ended below n stands before the cut
    each_in : (m : ℕ) → m ≤ length o → ((m < length o) → (d : Placed) → n ≤ (get_or o m d).at) → (at end : ℕ) (reply : Reply) → inner at → end < n → IsOk h at end reply → Places (take m o) at reply
    each_in m fits past at end reply of_it small ok = elim (cases_lt there.0 m) [
      | inl before ↦ (let len = length-take-le m o fits in (there.0, omega arith, get_or-take m o there.0 (record { at = at; reply = reply }) before ∙ there.2))
      | inr after ↦
          let inside : there.0 < length o = there.1 in
          let late = past (omega arith) (record { at = at; reply = reply }) in
          let early : at < end = ok.1.later in
          elim (cases_lt m there.0) [
            | inl later ↦
                absurd (is.real_time m there.0 (record { at = at; reply = reply }) later inside
                (subst (λ (x : Placed). IsBefore h x.at (get_or o m (record { at = at; reply = reply })).at) (sym there.2) (end, reply, ok, omega arith)))
            | inr same ↦
                let one : m ≡ there.0 = omega arith in
                let here = ap (λ (x : Placed). x.at) (ap (λ k. get_or o k (record { at = at; reply = reply })) one ∙ there.2) in
                absurd (omega arith)
          ]
    ]
      where
        there : Places o at reply
        there = is.each_ok at end reply (widen at of_it) ok

    -- an order of a prefix
    order_within : (m : ℕ) → m ≤ length o → All (λ p. p.at < n) (take m o) → ((m < length o) → (d : Placed) → n ≤ (get_or o m d).at) → IsOrderOf inner (take n h) (take m o)
    order_within m fits small past = record {
      operations = All-weaker (Contains (take m o)) (λ p. (call : Call) × IsCall (take n h) p.at call × inner p.at) (λ p there.
          let below = All-contains (λ q. q.at < n) (take m o) p small there in
          let operation = All-contains (λ q. (call : Call) × IsCall h q.at call × scope q.at) (take m o) p (All-take (λ q. (call : Call) × IsCall h q.at call × scope q.at) m o is.operations) there in
          (operation.0, call_within p.at operation.0 below operation.1, narrow p.at below operation.2)) (take m o) (All-contains_itself (take m o));
      once = pairs_take (λ p q. p.at ≡ q.at → ⊥) m o fits is.once;
      none_failed = All-take (λ p. IsFailed (take n h) p.at → ⊥) m o (All-weaker (λ p. IsFailed h p.at → ⊥) (λ p. IsFailed (take n h) p.at → ⊥) (λ p never failed. never (failed.0, failed.1, (end_whole p.at failed.0 failed.1 failed.2).1, failed.3, failed.4)) o is.none_failed);
      each_ok = λ at end reply of_it ok. let w = ok_whole at end reply ok in each_in m fits past at end reply of_it w.0 w.1;
      real_time = pairs_take (λ p q. IsBefore (take n h) q.at p.at → ⊥) m o fits (λ i j d before within b.
          is.real_time i j d before within (b.0, b.1, (ok_whole _ b.0 b.1 b.2).1, b.3));
    }

  -- a beginning of a run through operations below n
  run_begins : {S : Type 0} (step : S → Call → S → Reply → Type 0) (s t : S) (xs ys : List Placed) → All (λ p. p.at < n) xs → Runs step h s (xs ++ ys) t → (u : S) × Runs step (take n h) s xs u
  run_begins step s t xs ys small run =
      let halves = runs_split step h s t xs ys run in
      (halves.0, run_within step s halves.0 xs small halves.1)

-- the beginning of a legal order that stands below n is one of the prefix
module _ {S : Type 0} (start : S) (step : S → Call → S → Reply → Type 0) (h : List Event) (n : ℕ) (scope inner : ℕ → Type 0) (narrow : (at : ℕ) → at < n → scope at → inner at)
    (widen : (at : ℕ) → inner at → scope at) (o : List Placed) (is : IsOrderOf scope h o) (run : IsRun start step h o) where
  pub legal_within : (order : List Placed) × IsOrderOf inner (take n h) order × IsRun start step (take n h) order
  legal_within =
      let c = cut n o in
      let ran = subst (λ l. Runs step h start l run.0) (sym (take-append-drop c.0 o)) run.1 in
      (take c.0 o, order_within h n scope inner narrow widen o is c.0 c.1 c.2 c.3, run_begins h n step start run.0 (take c.0 o) (drop c.0 o) c.2 ran)

pub prefixes_for_lem : PrefixesAreLinearizableFor
prefixes_for_lem kinds key h n lin =
    let w = legal_within (start (kinds key)) (Step (kinds key)) h n (λ at. IsTrue (is_of_key h key at)) (λ at. IsTrue (is_of_key (take n h) key at))
    (λ at below of_it. key_within h n key at below ∙ of_it) (λ at of_it. key_whole h n key at of_it) lin.0 lin.1.order_of lin.1.legal in
    (w.0, record { order_of = w.1; legal = w.2 })

pub prefixes_by_lem : {S : Type 0} (start : S) (step : S → Call → S → Reply → Type 0) → PrefixesAreLinearizableBy start step
prefixes_by_lem start step h n lin =
    let w = legal_within start step h n (λ at. Unit {0}) (λ at. Unit {0}) (λ at below of_it. tt) (λ at of_it. tt) lin.0 lin.1.order_of lin.1.legal in
    (w.0, record { order_of = w.1; legal = w.2 })

pub prefixes_whole_lem : PrefixesAreLinearizable
prefixes_whole_lem kinds h n lin =
    let o = lin.0 in
    let c = cut n o in
    let m = c.0 in (
      take m o,
      record {
        order_of = order_within h n (λ at. Unit {0}) (λ at. Unit {0}) (λ at below of_it. tt) (λ at of_it. tt) o lin.1.order_of m c.1 c.2 c.3;
        legal = λ key.
            let split = ap (part_of h key) (sym (take-append-drop m o)) ∙ filter-append (λ p. is_of_key h key p.at) (take m o) (drop m o) in
            let ran = subst (λ l. Runs (Step (kinds key)) h (start (kinds key)) l (lin.1.legal key).0) split (lin.1.legal key).1 in
            let small = All-filter (λ p. is_of_key h key p.at) (λ p. p.at < n) (take m o) c.2 in
            let run = run_begins h n (Step (kinds key)) (start (kinds key)) (lin.1.legal key).0 (part_of h key (take m o)) (part_of h key (drop m o)) small ran in
            (run.0, subst (λ l. Runs (Step (kinds key)) (take n h) (start (kinds key)) l run.0) (sym (part_within h n key (take m o) c.2)) run.1);
      },
    )

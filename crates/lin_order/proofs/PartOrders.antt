-- Orders of a part, and of the whole for its key.
use Rattle.std.proofs.Common.{◌≡◌, ◌<◌, ℕ, suc, Some, List, [], ◌∷◌, length, get_or, All, AllPairs, Contains, IsTrue, refl, sym, ap, subst, ◌∙◌, arith}
use Rattle.std.specs.List.{AllZip}
use Rattle.std.proofs.lemmas.Option.{same_Some, get_or_from_slice_get}
use Rattle.std.proofs.lemmas.List.Elements.{AllZip-get_or, length_all_zip, Contains-get_or}
use Rattle.lin_events.specs.declared.items.Item.{Item}
use Rattle.lin_events.specs.declared.events.Body.TheVariants.{Invoke}
use Rattle.lin_events.specs.declared.events.Event.{Event}
use Rattle.lin_events.specs.declared.calls.Call.{Call}
use Rattle.lin_events.specs.declared.calls.Reply.{Reply}
use Rattle.lin_events.specs.Operations.{IsOk, IsFailed}
use Rattle.lin_events.specs.WellFormedLaws.{WellFormedIsAlternating}
use Rattle.lin_objects.specs.Steps.{Step, start}
use Rattle.lin_order.specs.declared.placed.Placed.{Placed}
use Rattle.lin_order.specs.Orders.{IsBefore, IsCall, IsOrder, IsOrderFor, IsOrderOf, is_of_key}
use Rattle.lin_order.specs.Linearizable.{Runs}
use Rattle.lin_order.specs.Parts.{part, ArePositionsOf, IsNth, IsRenamed, renamed}
use Rattle.lin_order.specs.PartLaws.{IsPartOf, RenamedOrdersAreLegal, CanBeRenamed, OrdersCanBeRenamed, LinearizableByPart}
use Rattle.lin_order.proofs.Positions.{places, places_are, nth_of_key, nth_found, nth_event, nth_one}
use Rattle.lin_order.proofs.PartOperations.{parts_keep_operations_lem, ok_inside, ok_outside}

-- orders that correspond place by place
module _ (R : Placed → Placed → Type 0) (xs ys : List Placed) (zip : AllZip R xs ys) where
  zip_all : (P Q : Placed → Type 0) → ((p q : Placed) → R p q → P p → Q q) → All P xs → All Q ys
  zip_all P Q step all k d inside =
      let many = length_all_zip R xs ys zip in
      step (get_or xs k d) (get_or ys k d) (AllZip-get_or R xs ys k d d zip (omega arith)) (all k d (omega arith))

  zip_pairs : (P Q : Placed → Placed → Type 0) → ((p q r s : Placed) → R p q → R r s → P p r → Q q s) → AllPairs P xs → AllPairs Q ys
  zip_pairs P Q step all i j d before within =
      let many = length_all_zip R xs ys zip in
      step (get_or xs i d) (get_or ys i d) (get_or xs j d) (get_or ys j d) (AllZip-get_or R xs ys i d d zip (omega arith)) (AllZip-get_or R xs ys j d d zip (omega arith)) (all i j d before (omega arith))

  zip_contains : (p : Placed) → Contains xs p → (q : Placed) × Contains ys q × R p q
  zip_contains p there =
      let many = length_all_zip R xs ys zip in
      let inside : there.0 < length xs = there.1 in
      let within : there.0 < length ys = omega arith in
      (get_or ys there.0 p, Contains-get_or ys there.0 p within, subst (λ x. R x (get_or ys there.0 p)) there.2 (AllZip-get_or R xs ys there.0 p p zip inside))

-- operations of one history are those of another by other positions
record Agrees (scope other : ℕ → Type 0) (h g : List Event) (names : ℕ → ℕ → Type 0) : Type 0 where
  pub call : (a b : ℕ) (call : Call) → names a b → IsCall h a call → IsCall g b call
  pub within : (a b : ℕ) → names a b → scope a → other b
  pub same : (a b c : ℕ) → names a b → names a c → b ≡ c
  pub one : (a b c : ℕ) → names a b → names c b → a ≡ c
  pub failed : (a b : ℕ) → names a b → IsFailed g b → IsFailed h a
  pub ok : (b end : ℕ) (reply : Reply) → other b → IsOk g b end reply → (a : ℕ) × names a b × scope a × (begun : ℕ) × IsOk h a begun reply
  pub before : (a b c d : ℕ) → names a b → names c d → IsBefore g b d → IsBefore h a c

module _ (scope other : ℕ → Type 0) (h g : List Event) (names : ℕ → ℕ → Type 0) (agrees : Agrees scope other h g names) where
  abbrev Corresponds : Placed → Placed → Type 0
  Corresponds p q = names p.at q.at × (p.reply ≡ q.reply)

  carry_order : (xs ys : List Placed) → AllZip Corresponds xs ys → IsOrderOf scope h xs → IsOrderOf other g ys
  carry_order xs ys zip order = record {
    operations = zip_all Corresponds xs ys zip (λ p. (call : Call) × IsCall h p.at call × scope p.at) (λ q. (call : Call) × IsCall g q.at call × other q.at)
        (λ p q named is. (is.0, agrees.call p.at q.at is.0 named.0 is.1, agrees.within p.at q.at named.0 is.2)) order.operations;
    once = zip_pairs Corresponds xs ys zip (λ p r. p.at ≡ r.at → ⊥) (λ q s. q.at ≡ s.at → ⊥)
        (λ p q r s one two differ same. differ (agrees.one p.at q.at r.at one.0 (subst (names r.at) (sym same) two.0))) order.once;
    none_failed = zip_all Corresponds xs ys zip (λ p. IsFailed h p.at → ⊥) (λ q. IsFailed g q.at → ⊥) (λ p q named never fail. never (agrees.failed p.at q.at named.0 fail)) order.none_failed;
    each_ok = λ at end reply of_it ok.
        let found = agrees.ok at end reply of_it ok in
        let there = zip_contains Corresponds xs ys zip (record { at = found.0; reply = reply }) (order.each_ok found.0 found.3 reply found.2 found.4) in
        let place : there.0.at ≡ at = agrees.same found.0 there.0.at at there.2.0 found.1 in
        let answer : there.0.reply ≡ reply = sym there.2.1 in
        let all : there.0 ≡ record { at = at; reply = reply } = (λ i. record { at = place i; reply = answer i }) in
        subst (Contains ys) all there.1;
    real_time = zip_pairs Corresponds xs ys zip (λ p r. IsBefore h r.at p.at → ⊥) (λ q s. IsBefore g s.at q.at → ⊥)
        (λ p q r s one two never before. never (agrees.before r.at s.at p.at q.at two.0 one.0 before)) order.real_time;
  }

  carry_run : {S : Type 0} (step : S → Call → S → Reply → Type 0) (from to : S) (xs ys : List Placed) → AllZip Corresponds xs ys → Runs step h from xs to → Runs step g from ys to
  carry_run step from to [] [] zip run = run
  carry_run step from to [] (q ∷ ys) zip run = absurd zip
  carry_run step from to (p ∷ xs) [] zip run = absurd zip
  carry_run step from to (p ∷ xs) (q ∷ ys) zip run =
      (run.0, run.1, agrees.call p.at q.at run.0 zip.0.0 run.2, subst (step from run.0 run.1) zip.0.1 run.3, carry_run step run.1 to xs ys zip.1 run.4)

module _ (key : Item) (h : List Event) (positions : List ℕ) (are : ArePositionsOf key h positions) (is : IsPartOf positions (part key h) h)
    (inside : (n at end : ℕ) (reply : Reply) → IsNth positions n at → IsOk h at end reply → (m : ℕ) × IsNth positions m end × IsOk (part key h) n m reply)
    (outside : (n at m : ℕ) (reply : Reply) → IsNth positions n at → IsOk (part key h) n m reply → (end : ℕ) × IsNth positions m end × IsOk h at end reply) where
  outwards : Agrees (λ n. Unit {0}) (λ at. IsTrue (is_of_key h key at)) (part key h) h (λ n at. IsNth positions n at)
  outwards = record {
    call = λ n at call there op. (op.0, op.1, (is.operations n at op.0 op.1 call there).0 op.2);
    within = λ n at there in_part. nth_of_key key h positions are n at there;
    same = λ n at other there again. same_Some at other (sym there ∙ again);
    one = λ n at m there again. nth_one key h positions are n m at there again;
    failed = λ n at there. (is.failed n at there).1;
    ok = λ at end reply of_it ok.
        let nth = nth_found key h positions are at of_it in
        let found = inside nth.0 at end reply nth.1 ok in
        (nth.0, nth.1, tt, found.0, found.2);
    before = λ n at m later there then. (is.before n at m later there then).1;
  }

  inwards : Agrees (λ at. IsTrue (is_of_key h key at)) (λ n. Unit {0}) h (part key h) (λ at n. IsNth positions n at)
  inwards = record {
    call = λ at n call there op. (op.0, op.1, (is.operations n at op.0 op.1 call there).1 op.2);
    within = λ at n there of_it. tt;
    same = λ at n m there again. nth_one key h positions are n m at there again;
    one = λ at n other there again. same_Some at other (sym there ∙ again);
    failed = λ at n there. (is.failed n at there).0;
    ok = λ n m reply in_part ok.
        let found = nth_event key h positions are n (record { process = ok.1.process; key = ok.1.key; body = Invoke ok.1.call }) ok.1.begins in
        let end = outside n found.0 m reply found.1 ok in
        (found.0, found.1, nth_of_key key h positions are n found.0 found.1, end.0, end.2);
    before = λ at n later m there then. (is.before n at m later there then).0;
  }

pub renamed_orders_lem : WellFormedIsAlternating → RenamedOrdersAreLegal
renamed_orders_lem law functions kinds key h positions inner outer well are zip = record {
  orders = (out_order, in_order);
  legal = (
    λ order. record {
      order_of = out_order order.order_of;
      legal = (
        order.legal.0,
        carry_run (λ n. Unit {0}) (λ at. IsTrue (is_of_key h key at)) (part key h) h (λ n at. IsNth positions n at) out
            (Step (kinds key)) (start (kinds key)) order.legal.0 inner outer zip order.legal.1,
      );
    },
    λ order. record {
      order_of = in_order order.order_of;
      legal = (
        order.legal.0,
        carry_run (λ at. IsTrue (is_of_key h key at)) (λ n. Unit {0}) h (part key h) (λ at n. IsNth positions n at) into
            (Step (kinds key)) (start (kinds key)) order.legal.0 outer inner back order.legal.1,
      );
    },
  );
}
  where
    out : Agrees (λ n. Unit {0}) (λ at. IsTrue (is_of_key h key at)) (part key h) h (λ n at. IsNth positions n at)
    out = outwards key h positions are (parts_keep_operations_lem law functions key h positions well are) (ok_inside functions h ((law functions h).0 well) key positions are) (ok_outside functions h ((law functions h).0 well) key positions are)

    into : Agrees (λ at. IsTrue (is_of_key h key at)) (λ n. Unit {0}) h (part key h) (λ at n. IsNth positions n at)
    into = inwards key h positions are (parts_keep_operations_lem law functions key h positions well are) (ok_inside functions h ((law functions h).0 well) key positions are) (ok_outside functions h ((law functions h).0 well) key positions are)

    turned : (xs ys : List Placed) → IsRenamed positions xs ys → AllZip (λ q p. IsNth positions p.at q.at × (q.reply ≡ p.reply)) ys xs
    turned [] [] zip = zip
    turned [] (q ∷ ys) zip = absurd zip
    turned (p ∷ xs) [] zip = absurd zip
    turned (p ∷ xs) (q ∷ ys) zip = ((zip.0.0, sym zip.0.1), turned xs ys zip.1)

    back : AllZip (λ q p. IsNth positions p.at q.at × (q.reply ≡ p.reply)) outer inner
    back = turned inner outer zip

    out_order : IsOrder (part key h) inner → IsOrderFor key h outer
    out_order = carry_order (λ n. Unit {0}) (λ at. IsTrue (is_of_key h key at)) (part key h) h (λ n at. IsNth positions n at) out inner outer zip

    in_order : IsOrderFor key h outer → IsOrder (part key h) inner
    in_order = carry_order (λ at. IsTrue (is_of_key h key at)) (λ n. Unit {0}) h (part key h) (λ at n. IsNth positions n at) into outer inner back

module _ (positions : List ℕ) where
  rename : (order : List Placed) → All (λ p. (at : ℕ) × IsNth positions p.at at) order → IsRenamed positions order (renamed positions order)
  rename [] each = tt
  rename (p ∷ order) each =
      let first = each 0 p (omega arith) in
      ((first.1 ∙ ap Some (sym (get_or_from_slice_get positions p.at first.0 0 first.1)), refl), rename order (λ k d inside. each (suc k) d (omega arith)))

  named : (order : List Placed) → All (λ p. (n : ℕ) × IsNth positions n p.at) order → (inner : List Placed) × IsRenamed positions inner order
  named [] each = ([], tt)
  named (p ∷ order) each =
      let first = each 0 p (omega arith) in
      let rest = named order (λ k d inside. each (suc k) d (omega arith)) in
      (record { at = first.0; reply = p.reply } ∷ rest.0, ((first.1, refl), rest.1))

  one_name : (order other : List Placed) → IsRenamed positions order other → other ≡ renamed positions order
  one_name [] [] zip = refl
  one_name [] (q ∷ other) zip = absurd zip
  one_name (p ∷ order) [] zip = absurd zip
  one_name (p ∷ order) (q ∷ other) zip =
      let place : q.at ≡ get_or positions p.at 0 = sym (get_or_from_slice_get positions p.at q.at 0 zip.0.0) in
      let answer : q.reply ≡ p.reply = sym zip.0.1 in
      let here : q ≡ record { at = get_or positions p.at 0; reply = p.reply } = (λ i. record { at = place i; reply = answer i }) in
      ap (λ x. x ∷ other) here ∙ ap (λ l. record { at = get_or positions p.at 0; reply = p.reply } ∷ l) (one_name order other zip.1)

pub can_be_renamed_lem : OrdersCanBeRenamed
can_be_renamed_lem key h positions are = record {
  outer = λ order is. rename positions order (λ k d inside.
      let op = is.operations k d inside in
      nth_event key h positions are (get_or order k d).at (record { process = op.1.0; key = op.1.1; body = Invoke op.0 }) op.1.2);
  inner = λ order is. named positions order (λ k d inside. nth_found key h positions are (get_or order k d).at (is.operations k d inside).2);
  one = one_name positions;
}

pub linearizable_by_part_lem : WellFormedIsAlternating → LinearizableByPart
linearizable_by_part_lem law functions kinds key h well = (
  λ is. let found = can.inner is.0 is.1.order_of in (found.0, (renamed_orders_lem law functions kinds key h (places key 0 h) found.0 is.0 well (places_are key h) found.1).legal.1 is.1),
  λ is.
      let zip = can.outer is.0 is.1.order_of in
      (renamed (places key 0 h) is.0, (renamed_orders_lem law functions kinds key h (places key 0 h) is.0 (renamed (places key 0 h) is.0) well (places_are key h) zip).legal.0 is.1),
)
  where
    can : CanBeRenamed key h (places key 0 h)
    can = can_be_renamed_lem key h (places key 0 h) (places_are key h)

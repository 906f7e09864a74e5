-- Placing an open operation last, and taking it away again.
use Rattle.std.proofs.Common.{◌≡◌, ◌≢◌, ℕ, ◌<◌, Bool, List, [], ◌∷◌, ◌++◌, Contains, inl, inr, refl, sym, ap, subst, get_or, filter}
use Rattle.std.proofs.lemmas.List.Elements.{All-contains, All-push, Contains-append_left, Contains-push, Contains-push_cases, Contains-get_or}
use Rattle.std.proofs.lemmas.List.Quantifiers.{all_pairs_push}
use Rattle.std.proofs.lemmas.List.Kept.{AllPairs-filter}
use Rattle.std.proofs.lemmas.Bool.{cases_eq}
use Rattle.lin_events.specs.declared.items.Item.{Item}
use Rattle.lin_events.specs.declared.calls.Call.{Call}
use Rattle.lin_events.specs.declared.calls.Name.{Name}
use Rattle.lin_events.specs.declared.calls.Reply.{Reply}
use Rattle.lin_events.specs.declared.events.Event.{Event}
use Rattle.lin_events.specs.Alternation.{IsAlternating}
use Rattle.lin_events.specs.Operations.{IsOperation, IsOk, IsFailed, IsOpen}
use Rattle.lin_order.specs.declared.placed.Placed.{Placed}
use Rattle.lin_order.specs.Orders.{IsBefore, IsCall, IsOrder, Places}
use Rattle.lin_order.specs.Configurations.{IsPlacedBy, EndsIn, IsAdded, IsPlacing}
use Rattle.lin_order.specs.ConfigurationLaws.{PlacingIsLegal}
use Rattle.lin_order.specs.lemmas.Assembling.{one_reply}
use Rattle.lin_order.specs.lemmas.Adding.{one_rising}
use Rattle.lin_lists.specs.lemmas.Elements.{all_of, pairs_left, pairs_last, in_filter, from_filter, begins_other, other_true, other_from}
use Rattle.lin_events.specs.lemmas.OneMore.{one_caller, one_open}
use Rattle.lin_order.specs.lemmas.Running.{runs_push, runs_split}

process_of : {a b : ℕ × Reply} → a ≡ b → a.0 ≡ b.0
process_of e = ap (λ (x : ℕ × Reply). x.0) e

reply_of : {a b : ℕ × Reply} → a ≡ b → a.1 ≡ b.1
reply_of e = ap (λ (x : ℕ × Reply). x.1) e

place_of : {p q : Placed} → p ≡ q → p.at ≡ q.at
place_of e = ap (λ (x : Placed). x.at) e

module _ (h : List Event) (o : List Placed) (p : Placed) (process : ℕ) (key : Item) (call : Call) (is_open : IsOpen h p.at process key call) where
  -- an order with an open operation that it lacks placed last is an order
  pub place_order : IsOrder h o → ((other : Reply) → Places o p.at other → ⊥) → IsOrder h (o ++ p ∷ [])
  place_order is absent = record {
    operations = All-push (λ q. (c : Call) × IsCall h q.at c × Unit {0}) o p is.operations (call, (process, key, is_open.begins), tt);
    once = all_pairs_push (λ q r. q.at ≢ r.at) o p is.once (λ k d inside same. absent (get_or o k d).reply
        (subst (λ n. Places o n (get_or o k d).reply) same (Contains-get_or o k d inside)));
    none_failed = All-push (λ q. IsFailed h q.at → ⊥) o p is.none_failed is_open.no_fail;
    each_ok = λ at end r of_it ok. Contains-append_left o (p ∷ []) (record { at = at; reply = r }) (is.each_ok at end r of_it ok);
    real_time = all_pairs_push (λ q r. IsBefore h r.at q.at → ⊥) o p is.real_time (λ k d inside before. is_open.no_ok before.0 before.1 before.2);
  }

  -- an order whose last operation is open is an order without it
  pub unplace_order : IsOrder h (o ++ p ∷ []) → IsOrder h o
  unplace_order is = record {
    operations = all_of (λ q. (c : Call) × IsCall h q.at c × Unit {0}) o
        (λ q there. All-contains (λ r. (c : Call) × IsCall h r.at c × Unit {0}) (o ++ p ∷ []) q is.operations (Contains-append_left o (p ∷ []) q there));
    once = pairs_left (λ q r. q.at ≢ r.at) o (p ∷ []) is.once;
    none_failed = all_of (λ q. IsFailed h q.at → ⊥) o
        (λ q there. All-contains (λ r. IsFailed h r.at → ⊥) (o ++ p ∷ []) q is.none_failed (Contains-append_left o (p ∷ []) q there));
    each_ok = λ at end r of_it ok. elim (Contains-push_cases o p (record { at = at; reply = r }) (is.each_ok at end r of_it ok)) [
      | inl old ↦ old
      | inr new ↦ absurd (is_open.no_ok end r (subst (λ k. IsOk h k end r) (sym (place_of new)) ok))
    ];
    real_time = pairs_left (λ q r. IsBefore h r.at q.at → ⊥) o (p ∷ []) is.real_time;
  }

  pub place_placed : (before after : List (ℕ × Reply)) → IsAdded process p.reply before after → IsPlacedBy h o before → IsPlacedBy h (o ++ p ∷ []) after
  place_placed before after added placed = record {
    rising = added.rising;
    sound = λ q r there. elim (added.was (q, r) there) [
      | inl old ↦
          let s = placed.sound q r old in
          (s.0, s.1, s.2, s.3, Contains-append_left o (p ∷ []) (record { at = s.0; reply = r }) s.4)
      | inr new ↦ (
        p.at,
        key,
        call,
        subst (λ k. IsOpen h p.at k key call) (process_of new) is_open,
        subst (λ s. Places (o ++ p ∷ []) p.at s) (reply_of new) (Contains-push o p),
      )
    ];
    complete = λ at q other c r open_at there. elim (Contains-push_cases o p (record { at = at; reply = r }) there) [
      | inl old ↦ added.kept (q, r) (placed.complete at q other c r open_at old)
      | inr new ↦
          let same = one_caller h at process q key other call c (subst (λ k. IsOperation h k process key call) (place_of new) is_open.begins) open_at.begins in
          let said = ap (λ (x : Placed). x.reply) new in
          subst (Contains after) (λ i. (same i, said i)) added.has
    ];
  }

  module _ (functions : Item → Name → Bool) (alternates : IsAlternating functions h) (after : List (ℕ × Reply)) (is : IsOrder h (o ++ p ∷ [])) (placed : IsPlacedBy h (o ++ p ∷ []) after) where
    -- what the order places is what it places without its last operation, and that one
    pub unplace_added : IsAdded process p.reply (filter (begins_other process) after) after
    unplace_added = record {
      absent = λ other there. other_from process (process, other) (from_filter (begins_other process) after (process, other) there).1 refl;
      before = AllPairs-filter (λ a b. a.0 < b.0) (begins_other process) after placed.rising;
      rising = placed.rising;
      kept = λ x there. (from_filter (begins_other process) after x there).0;
      has = placed.complete p.at process key call p.reply is_open (Contains-push o p);
      was = λ x there. elim (cases_eq x.0 process) [
        | inl same ↦
            let s = placed.sound x.0 x.1 there in
            let one = one_open functions h alternates s.0 p.at process s.1 key s.2 call (subst (λ q. IsOpen h s.0 q s.1 s.2) same s.3) is_open in
            let said = one_reply (o ++ p ∷ []) is.once p (record { at = s.0; reply = x.1 }) (Contains-push o p) s.4 (sym one) in
            inr (λ i. (sym same i, said i))
        | inr other ↦ inl (in_filter (begins_other process) after x (other_true process x other) there)
      ];
    }

    pub unplace_placed : IsPlacedBy h o (filter (begins_other process) after)
    unplace_placed = record {
      rising = AllPairs-filter (λ a b. a.0 < b.0) (begins_other process) after placed.rising;
      sound = λ q r there.
          let parts = from_filter (begins_other process) after (q, r) there in
          let s = placed.sound q r parts.0 in (
            s.0,
            s.1,
            s.2,
            s.3,
            elim (Contains-push_cases o p (record { at = s.0; reply = r }) s.4) [
              | inl old ↦ old
              | inr new ↦
                  let same = one_caller h s.0 process q key s.1 call s.2 (subst (λ k. IsOperation h k process key call) (place_of new) is_open.begins) s.3.begins in
                  absurd (other_from process (q, r) parts.1 (sym same))
            ],
          );
      complete = λ at q other c r open_at there.
          in_filter (begins_other process) after (q, r)
          (other_true process (q, r) (λ same.
          let one = one_open functions h alternates at p.at process other key c call (subst (λ k. IsOpen h at k other c) same open_at) is_open in
          pairs_last (λ a b. a.at ≢ b.at) o p (record { at = at; reply = r }) is.once there one))
          (placed.complete at q other c r open_at (Contains-append_left o (p ∷ []) (record { at = at; reply = r }) there));
    }

-- an order places one list of open operations
pub one_placed : (h : List Event) (o : List Placed) (a b : List (ℕ × Reply)) → IsPlacedBy h o a → IsPlacedBy h o b → a ≡ b
one_placed h o a b by_a by_b = one_rising a b by_a.rising by_b.rising (λ x there. also a b by_a by_b x there) (λ x there. also b a by_b by_a x there)
  where
    also : (c d : List (ℕ × Reply)) → IsPlacedBy h o c → IsPlacedBy h o d → (x : ℕ × Reply) → Contains c x → Contains d x
    also c d by_c by_d x there = let s = by_c.sound x.0 x.1 there in by_d.complete s.0 x.0 s.1 s.2 x.1 s.3 s.4

module _ {S : Type 0} (start : S) (step : S → Call → S → Reply → Type 0) where
  pub placing_lem : PlacingIsLegal start step
  placing_lem h o c d p is placing = record {
    order_of = place_order h o p placing.process placing.key placing.call placing.is_open is.order_of
        (λ other there. placing.added.absent other (is.placed.complete p.at placing.process placing.key placing.call other placing.is_open there));
    runs = runs_push step h start c.0 d.0 o p placing.call is.runs (placing.process, placing.key, placing.is_open.begins) placing.steps;
    placed = place_placed h o p placing.process placing.key placing.call placing.is_open c.1 d.1 placing.added is.placed;
  }

  -- taking away the last operation, an open one
  pub unplace : (functions : Item → Name → Bool) (h : List Event) → IsAlternating functions h → (o : List Placed) (p : Placed) (c : S × List (ℕ × Reply)) → EndsIn start step h (o ++ p ∷ []) c
      → ((end : ℕ) (r : Reply) → IsOk h p.at end r → ⊥) → (b : S × List (ℕ × Reply)) × EndsIn start step h o b × IsPlacing step h b p c
  unplace functions h alternates o p c is no_ok =
      let halves = runs_split step h start c.0 o (p ∷ []) is.runs in
      let last = halves.2 in
      let begins = last.2 in
      let is_open : IsOpen h p.at begins.0 begins.1 last.0 = record {
        begins = begins.2;
        no_ok = no_ok;
        no_fail = All-contains (λ q. IsFailed h q.at → ⊥) (o ++ p ∷ []) p is.order_of.none_failed (Contains-push o p);
      } in (
        (halves.0, filter (begins_other begins.0) c.1),
        record {
          order_of = unplace_order h o p begins.0 begins.1 last.0 is_open is.order_of;
          runs = halves.1;
          placed = unplace_placed h o p begins.0 begins.1 last.0 is_open functions alternates c.1 is.order_of is.placed;
        },
        record {
          process = begins.0;
          key = begins.1;
          call = last.0;
          is_open = is_open;
          steps = subst (λ t. step halves.0 last.0 t p.reply) last.4 last.3;
          added = unplace_added h o p begins.0 begins.1 last.0 is_open functions alternates c.1 is.order_of is.placed;
        },
      )

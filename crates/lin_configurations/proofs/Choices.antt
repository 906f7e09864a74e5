-- Each choice among what is on offer to a member, as a member with nothing on offer.
use Rattle.std.proofs.Common.{◌≡◌, ◌≢◌, ℕ, zero, suc, ◌≤◌, Bool, true, false, not, nat_eq, List, [], ◌∷◌, length, cond, filter, map, Contains, get_or, inl, refl, sym, subst, arith}
use Rattle.std.proofs.lemmas.List.Elements.{All-contains, Contains-get_or}
use Rattle.lin_events.specs.declared.items.Item.{Item}
use Rattle.lin_events.specs.declared.calls.Call.{Call}
use Rattle.lin_events.specs.declared.calls.Name.{Name}
use Rattle.lin_events.specs.declared.calls.Reply.{Reply}
use Rattle.lin_events.specs.declared.events.Event.{Event}
use Rattle.lin_events.specs.Alternation.{IsAlternating}
use Rattle.lin_events.specs.WellFormedLaws.{EndsAreUnique}
use Rattle.lin_order.specs.Configurations.{IsRising}
use Rattle.lin_members.specs.declared.members.Path.{Path}
use Rattle.lin_frontier.specs.declared.pending.Open.{Open}
use Rattle.lin_frontier.specs.Frontiers.{IsPending}
use Rattle.lin_members.specs.Listed.{member_at, config_of, AreWorkedOff, IsTakenAt}
use Rattle.lin_members.specs.MemberLaws.{IsSpread}
use Rattle.lin_members.specs.Members.{Member, IsOnOffer, LeadsToCover, DominatesAt}
use Rattle.lin_frontier.specs.Placing.{insert_pair}
use Rattle.lin_frontier.specs.lemmas.Inserting.{absent_from, differs, insert_is, kept_by, other_process, passed_by}
use Rattle.lin_lists.specs.lemmas.Filters.{from_map, in_map}
use Rattle.lin_members.specs.lemmas.Pruned.{dominates_to}
use Rattle.lin_members.specs.lemmas.Spreading.{spread}
use Rattle.lin_members.specs.lemmas.Ways.{from_covers}

-- the offers to other processes
abbrev others_of : ℕ → List (ℕ × (ℕ × Reply)) → List (ℕ × (ℕ × Reply))
others_of q offers = filter (λ (x : ℕ × (ℕ × Reply)). not (nat_eq x.1.0 q)) offers

fewer_pass : {X : Type 0} (p : X → Bool) (xs : List X) → length (filter p xs) ≤ length xs
fewer_pass p [] = omega arith
fewer_pass p (x ∷ xs) = by (p x) (fewer_pass p xs)
  where
    by : (b : Bool) → length (filter p xs) ≤ length xs → length (cond b (x ∷ filter p xs) (filter p xs)) ≤ suc (length xs)
    by true less = omega arith
    by false less = omega arith

-- at least the first one goes
shorter_first : (x : ℕ × (ℕ × Reply)) (xs : List (ℕ × (ℕ × Reply))) → length (others_of x.1.0 (x ∷ xs)) ≤ length xs
shorter_first x xs = by (not (nat_eq x.1.0 x.1.0)) refl
  where
    by : (b : Bool) → not (nat_eq x.1.0 x.1.0) ≡ b → length (cond b (x ∷ others_of x.1.0 xs) (others_of x.1.0 xs)) ≤ length xs
    by true is = absurd (differs x.1.0 x.1.0 is refl)
    by false is = fewer_pass (λ (y : ℕ × (ℕ × Reply)). not (nat_eq y.1.0 x.1.0)) xs

module _ {S : Type 0} (step : S → Call → S → Reply → Type 0) (observes : Call → Bool) (functions : Item → Name → Bool) (h : List Event) (pending : List Open) (opened : IsPending h pending) (unique : EndsAreUnique)
    (alternates : IsAlternating functions h) (offers : List (ℕ × (ℕ × Reply))) (found : List (Member S × Path)) (worked : AreWorkedOff step observes pending offers false found)
    (rising : (n : Member S × Path) → Contains found n → IsRising n.0.placed) (open_to : (x : ℕ × (ℕ × Reply)) → Contains offers x → (o : Open) × Contains pending o × (o.process ≡ x.1.0)) where
  -- with fewer offers
  abbrev fewer : List (ℕ × (ℕ × Reply)) → Member S × Path → Member S
  fewer rest n = member_at (config_of n) rest

  module _ (q : ℕ) (rest : List (ℕ × (ℕ × Reply))) (within : (x : ℕ × (ℕ × Reply)) → Contains rest x → Contains offers x) (n : Member S × Path) (there : Contains found n) where
    abbrev left : List (ℕ × (ℕ × Reply))
    left = others_of q rest

    left_has : (x : ℕ × Reply) → x.0 ≢ q → IsOnOffer (fewer rest n) x → (k : ℕ) × Contains left (k, x)
    left_has x other o = (o.0, kept_by (λ (y : ℕ × (ℕ × Reply)). not (nat_eq y.1.0 q)) rest (o.0, x) (other_process q x.0 other) o.1)

    held_spread : IsSpread observes h q (map (fewer left) found) (fewer rest n)
    held_spread = record {
      without = (
        fewer left n,
        in_map (fewer left) found n there,
        record { sorted = rising n there; same = refl; part = λ x has. has; rest = λ x has. inl has; offered = λ x watching absent o. left_has x o.0 o.1 },
      );
      each = λ reply offer absent wider added.
          let o = open_to (offer.0, (q, reply)) (within (offer.0, (q, reply)) offer.1) in
          let taken = All-contains (IsTakenAt observes pending found (config_of n)) offers (offer.0, (q, reply)) (worked n there).0 (within (offer.0, (q, reply)) offer.1) in
          let held = taken o.0 o.1 o.2 (absent_from q n.0.placed absent) in
          let k = held.0 in
          let d = dominates_to functions h pending opened unique alternates observes (fewer left k) n.0.state (insert_pair q reply n.0.placed) left (rising k held.1)
          (record { same = held.2.same; part = held.2.part; rest = held.2.rest; offered = λ i e inside watching none. ((get_or left i e).0, Contains-get_or left i e inside) }) in (
            fewer left k,
            in_map (fewer left) found k held.1,
            subst (λ l. DominatesAt observes h (fewer left k) n.0.state l (λ x. (x.0 ≢ q) × IsOnOffer (fewer rest n) x)) (sym (insert_is q reply n.0.placed wider added))
                (record { sorted = d.sorted; same = d.same; part = d.part; rest = d.rest; offered = λ x watching none on. d.offered x watching none (left_has x on.0 on.1) }),
          );
    }

  -- what a member with these offers leads to, one of those found leads to without any
  chosen : (fuel : ℕ) (rest : List (ℕ × (ℕ × Reply))) → length rest ≤ fuel → ((x : ℕ × (ℕ × Reply)) → Contains rest x → Contains offers x) → (n : Member S × Path) → Contains found n
      → (c : S × List (ℕ × Reply)) → IsRising c.1 → LeadsToCover step observes h (fewer rest n) c → (k : Member S × Path) × Contains found k × LeadsToCover step observes h (fewer [] k) c
  chosen fuel [] short within n there c sorted leads = (n, there, leads)
  chosen zero (x ∷ xs) short within n there c sorted leads = absurd (omega arith)
  chosen (suc fuel) (x ∷ xs) short within n there c sorted leads =
      let q = x.1.0 in
      let rest = others_of q (x ∷ xs) in
      let to = spread step observes h q (fewer (x ∷ xs) n) c (from_covers step observes h (fewer (x ∷ xs) n) c sorted leads) (map (fewer rest) found) (held_spread q (x ∷ xs) within n there) (rising n there) in
      let k = from_map (fewer rest) found to.0 to.1 in
      chosen fuel rest (omega (arith, short, shorter_first x xs)) (λ y left. within y (passed_by (λ (z : ℕ × (ℕ × Reply)). not (nat_eq z.1.0 q)) (x ∷ xs) y left).0) k.0 k.1 c sorted
      (subst (λ (m : Member S). LeadsToCover step observes h m c) (sym k.2) to.2)

  pub choices_lead : (n : Member S × Path) → Contains found n → (c : S × List (ℕ × Reply)) → IsRising c.1 → LeadsToCover step observes h (fewer offers n) c
      → (k : Member S × Path) × Contains found k × LeadsToCover step observes h (fewer [] k) c
  choices_lead n there c sorted leads = chosen (length offers) offers (omega arith) (λ x has. has) n there c sorted leads

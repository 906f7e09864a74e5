-- The configurations of two writes at once.
use Rattle.std.proofs.Common.{◌≡◌, ℕ, zero, suc, ◌<◌, pos, List, [], ◌∷◌, ◌++◌, All, Contains, ◌⊎◌, inl, inr, refl, sym, ap, subst, ◌∙◌, arith}
use Rattle.std.proofs.lemmas.List.Elements.{All-contains}
use Rattle.lin_events.specs.declared.items.Item.TheVariants.{Int}
use Rattle.lin_events.specs.declared.calls.Call.{Call}
use Rattle.lin_events.specs.declared.calls.Call.TheVariants.{Write}
use Rattle.lin_events.specs.declared.calls.Reply.{Reply}
use Rattle.lin_events.specs.declared.calls.Reply.TheVariants.{Done}
use Rattle.lin_events.specs.declared.calls.Val.{Val}
use Rattle.lin_events.specs.declared.calls.Val.TheVariants.{Nil, Item as Held}
use Rattle.lin_events.specs.declared.events.Body.TheVariants.{Invoke}
use Rattle.lin_events.specs.declared.events.Event.{Event}
use Rattle.lin_events.specs.Operations.{IsOperation, IsEnd, IsOpen}
use Rattle.lin_objects.specs.declared.kinds.Kind.TheVariants.{Register}
use Rattle.lin_objects.specs.declared.states.State.{State}
use Rattle.lin_objects.specs.declared.states.State.TheVariants.{Value}
use Rattle.lin_objects.specs.Laws.{RepliesDecide}
use Rattle.lin_objects.specs.Steps.{Step, start}
use Rattle.lin_order.specs.declared.placed.Placed.{Placed}
use Rattle.lin_order.specs.Orders.{IsCall}
use Rattle.lin_order.specs.Configurations.{EndsIn, IsConfiguration, IsAdded}
use Rattle.lin_order.specs.ConfigurationExamples.{event, two_writes, configurations, HasTheseConfigurations}
use Rattle.lin_order.specs.lemmas.OneEnd.{one_call, one_event}
use Rattle.lin_order.specs.lemmas.Adding.{add_alone, add_first, add_later}
use Rattle.lin_order.specs.lemmas.Again.{placed_inside}
use Rattle.lin_order.specs.lemmas.Ending.{start_lem}
use Rattle.lin_events.specs.lemmas.OneMore.{one_caller}
use Rattle.lin_order.specs.lemmas.Placing.{one_placed, placing_lem}
use Rattle.lin_order.specs.lemmas.Quiet.{ends_kept, invoke_quiet}
use Rattle.lin_order.specs.lemmas.Running.{runs_one}

abbrev Ends : List Placed → State × List (ℕ × Reply) → Type 0
Ends o c = EndsIn (start Register) (Step Register) two_writes o c

abbrev first_write : Call
first_write = Write (Held (Int (pos 1)))

abbrev second_write : Call
second_write = Write (Held (Int (pos 2)))

abbrev first : Placed
first = record { at = 0; reply = Done }

abbrev second : Placed
second = record { at = 1; reply = Done }

no_end : (at end : ℕ) (ending : Event) → IsEnd two_writes at end ending → ⊥
no_end at zero ending e = let later : at < 0 = e.later in omega arith
no_end zero (suc zero) ending e =
    let caller = one_caller two_writes 0 0 e.process (Int (pos 0)) e.key first_write e.call refl e.begins in
    let ender = ap (λ (x : Event). x.process) (one_event two_writes 1 (event 1 (Invoke second_write)) ending refl e.ends) in
    let same = e.same in
    omega arith
no_end (suc at) (suc zero) ending e = let later : suc at < 1 = e.later in omega arith
no_end at (suc (suc end)) ending e = let there = e.ends in cc

all_open : (at process : ℕ) (call : Call) → IsOperation two_writes at process (Int (pos 0)) call → IsOpen two_writes at process (Int (pos 0)) call
all_open at process call begins = record { begins = begins; no_ok = λ end reply ok. no_end at end ok.0 ok.1; no_fail = λ f. no_end at f.0 f.1 f.2 }

-- the five orders, and where they end
none_placed : Ends [] (Value Nil, [])
none_placed =
    ends_kept (start Register) (Step Register) (event 0 (Invoke first_write) ∷ []) (event 1 (Invoke second_write)) (invoke_quiet _ second_write refl) [] _
    (ends_kept (start Register) (Step Register) [] (event 0 (Invoke first_write)) (invoke_quiet _ first_write refl) [] _ (start_lem (start Register) (Step Register)).0)

place_first : (o : List Placed) (v : Val) (before after : List (ℕ × Reply)) → IsAdded 0 Done before after → Ends o (Value v, before) → Ends (o ++ first ∷ []) (Value (Held (Int (pos 1))), after)
place_first o v before after added so_far = placing_lem (start Register) (Step Register) two_writes o (Value v, before) (Value (Held (Int (pos 1))), after) first so_far
    (record { process = 0; key = Int (pos 0); call = first_write; is_open = all_open 0 0 first_write refl; steps = (refl, refl); added = added })

place_second : (o : List Placed) (v : Val) (before after : List (ℕ × Reply)) → IsAdded 1 Done before after → Ends o (Value v, before) → Ends (o ++ second ∷ []) (Value (Held (Int (pos 2))), after)
place_second o v before after added so_far = placing_lem (start Register) (Step Register) two_writes o (Value v, before) (Value (Held (Int (pos 2))), after) second so_far
    (record { process = 1; key = Int (pos 0); call = second_write; is_open = all_open 1 1 second_write refl; steps = (refl, refl); added = added })

first_placed : Ends (first ∷ []) (Value (Held (Int (pos 1))), (0, Done) ∷ [])
first_placed = place_first [] Nil [] ((0, Done) ∷ []) (add_alone 0 Done) none_placed

second_placed : Ends (second ∷ []) (Value (Held (Int (pos 2))), (1, Done) ∷ [])
second_placed = place_second [] Nil [] ((1, Done) ∷ []) (add_alone 1 Done) none_placed

second_last : Ends (first ∷ second ∷ []) (Value (Held (Int (pos 2))), (0, Done) ∷ (1, Done) ∷ [])
second_last = place_second (first ∷ []) (Held (Int (pos 1))) ((0, Done) ∷ []) ((0, Done) ∷ (1, Done) ∷ [])
    (add_later 1 Done (0, Done) [] (add_alone 0 Done).rising ((1, Done) ∷ []) (omega arith) (add_alone 1 Done)) first_placed

first_last : Ends (second ∷ first ∷ []) (Value (Held (Int (pos 1))), (0, Done) ∷ (1, Done) ∷ [])
first_last = place_first (second ∷ []) (Held (Int (pos 2))) ((1, Done) ∷ []) ((0, Done) ∷ (1, Done) ∷ [])
    (add_first 0 Done (1, Done) [] (add_alone 1 Done).rising (omega arith)) second_placed

-- a step that an order takes is one of the two writes
a_write : (v : Val) (p : Placed) (call : Call) (next : State) → IsCall two_writes p.at call → Step Register (Value v) call next p.reply → ((p ≡ first) ⊎ (p ≡ second)) × (w : Val) × (next ≡ Value w)
a_write v p call next is step = by p.at p.reply is step
  where
    taken : (at : ℕ) (w : Val) (reply : Reply) → IsCall two_writes at (Write w) → IsCall two_writes at call → Step Register (Value v) call next reply → (next ≡ Value w) × (reply ≡ Done)
    taken at w reply write is step = subst (λ c. Step Register (Value v) c next reply) (one_call two_writes at call (Write w) is write) step

    by : (at : ℕ) (reply : Reply) → IsCall two_writes at call → Step Register (Value v) call next reply
        → ((record { at = at; reply = reply } ≡ first) ⊎ (record { at = at; reply = reply } ≡ second)) × (w : Val) × (next ≡ Value w)
    by zero reply is step =
        let t = taken 0 (Held (Int (pos 1))) reply (0, Int (pos 0), refl) is step in
        (inl (λ i. record { at = 0; reply = t.1 i }), Held (Int (pos 1)), t.0)
    by (suc zero) reply is step =
        let t = taken 1 (Held (Int (pos 2))) reply (1, Int (pos 0), refl) is step in
        (inr (λ i. record { at = 1; reply = t.1 i }), Held (Int (pos 2)), t.0)
    by (suc (suc at)) reply is step = let there = is.2 in cc

three_differ : (a b c : ℕ) → a < 2 → b < 2 → c < 2 → (a ≡ b → ⊥) → (a ≡ c → ⊥) → (b ≡ c → ⊥) → ⊥
three_differ a b c below_a below_b below_c ab ac bc = omega (arith, ab, ac, bc)

-- an order that ends somewhere is one of the five
abbrev IsListed : List Placed → Type 0
IsListed o = (d : State × List (ℕ × Reply)) × Ends o d × Contains configurations d

is_one : (o one : List Placed) (d : State × List (ℕ × Reply)) → one ≡ o → Ends one d → Contains configurations d → IsListed o
is_one o one d same ends there = (d, subst (λ l. Ends l d) same ends, there)

listed : (o : List Placed) (c : State × List (ℕ × Reply)) → Ends o c → IsListed o
listed [] c is = is_one [] [] _ refl none_placed (0, omega arith, refl)
listed (p ∷ []) c is =
    let run = is.runs in
    elim (a_write Nil p run.0 run.1 run.2 run.3).0 [
      | inl a ↦ is_one (p ∷ []) (first ∷ []) _ (λ i. sym a i ∷ []) first_placed (1, omega arith, refl)
      | inr a ↦ is_one (p ∷ []) (second ∷ []) _ (λ i. sym a i ∷ []) second_placed (2, omega arith, refl)
    ]
listed (p ∷ q ∷ []) c is =
    let run = is.runs in
    let a = a_write Nil p run.0 run.1 run.2 run.3 in
    let later = run.4 in
    let b = a_write a.1 q later.0 later.1 later.2 (subst (λ s. Step Register s later.0 later.1 q.reply) a.2 later.3) in
    both a.0 b.0
  where
    differ : (p ≡ q) → ⊥
    differ same = is.order_of.once 0 1 p (omega arith) (omega arith) (ap (λ (x : Placed). x.at) same)

    both : (p ≡ first) ⊎ (p ≡ second) → (q ≡ first) ⊎ (q ≡ second) → IsListed (p ∷ q ∷ [])
    both (inl a) (inl b) = absurd (differ (a ∙ sym b))
    both (inl a) (inr b) = is_one (p ∷ q ∷ []) (first ∷ second ∷ []) _ (λ i. sym a i ∷ sym b i ∷ []) second_last (3, omega arith, refl)
    both (inr a) (inl b) = is_one (p ∷ q ∷ []) (second ∷ first ∷ []) _ (λ i. sym a i ∷ sym b i ∷ []) first_last (4, omega arith, refl)
    both (inr a) (inr b) = absurd (differ (a ∙ sym b))
listed (p ∷ q ∷ r ∷ o) c is =
    let inside = placed_inside two_writes (p ∷ q ∷ r ∷ o) is.order_of in
    let once = is.order_of.once in
    absurd (three_differ p.at q.at r.at (inside p (0, omega arith, refl)) (inside q (1, omega arith, refl)) (inside r (2, omega arith, refl))
    (once 0 1 p (omega arith) (omega arith)) (once 0 2 p (omega arith) (omega arith)) (once 1 2 p (omega arith) (omega arith)))

pub five : RepliesDecide → HasTheseConfigurations
five decides c = (
  λ is.
      let d = listed is.0 c is.1 in
      let state = runs_one (Step Register) two_writes (decides Register) (start Register) d.0.0 c.0 is.0 d.1.runs is.1.runs in
      let placed = one_placed two_writes is.0 d.0.1 c.1 d.1.placed is.1.placed in
      subst (Contains configurations) (λ i. (state i, placed i)) d.2,
  λ there. All-contains Is configurations c each there,
)
  where
    Is : State × List (ℕ × Reply) → Type 0
    Is d = IsConfiguration (start Register) (Step Register) two_writes d

    each : All Is configurations
    each zero d inside = ([], none_placed)
    each (suc zero) d inside = (first ∷ [], first_placed)
    each (suc (suc zero)) d inside = (second ∷ [], second_placed)
    each (suc (suc (suc zero))) d inside = (first ∷ second ∷ [], second_last)
    each (suc (suc (suc (suc zero)))) d inside = (second ∷ first ∷ [], first_last)
    each (suc (suc (suc (suc (suc k))))) d inside = absurd (omega arith)

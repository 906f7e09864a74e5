-- Objects that run through orders.
use Rattle.std.proofs.Common.{◌≡◌, ◌<◌, ℕ, suc, ◌+◌, List, [], ◌∷◌, ◌++◌, length, Bool, true, false, cond, Option, None, refl, sym, ap, subst, ◌∙◌, take, drop, get_or, unwrap_or}
use Rattle.std.specs.Option.{option_map_or}
use Rattle.std.proofs.Math.Seq.{drop-cons}
use Rattle.std.proofs.lemmas.List.{append-nil, take-append-drop}
use Rattle.std.proofs.lemmas.List.Elements.{filter-append}
use Rattle.lin_events.specs.declared.items.Item.{Item}
use Rattle.lin_events.specs.Sameness.{Decides-item_eq}
use Rattle.lin_events.specs.Items.{item_eq}
use Rattle.lin_events.specs.declared.events.Event.{Event}
use Rattle.lin_events.specs.declared.calls.Call.{Call}
use Rattle.lin_events.specs.declared.calls.Reply.{Reply}
use Rattle.lin_objects.specs.declared.kinds.Kind.{Kind}
use Rattle.lin_objects.specs.declared.states.State.{State}
use Rattle.lin_objects.specs.Steps.{Step, start}
use Rattle.lin_objects.specs.Laws.{RepliesDecide}
use Rattle.lin_objects.specs.Total.{Reaches, stays, goes}
use Rattle.lin_order.specs.declared.placed.Placed.{Placed}
use Rattle.lin_order.specs.Orders.{IsCall, is_of_key, part_of}
use Rattle.lin_order.specs.Linearizable.{Runs, IsLegal}
use Rattle.lin_order.specs.Tables.{IsCallOn, Moves, state_of}
use Rattle.lin_order.specs.lemmas.Lists.{take_more}
use Rattle.lin_order.specs.lemmas.OneEnd.{one_call}

module _ {S : Type 0} (step : S → Call → S → Reply → Type 0) (h : List Event) where
  -- one more step
  pub runs_push : (s t u : S) (order : List Placed) (p : Placed) (call : Call) → Runs step h s order t → IsCall h p.at call → step t call u p.reply → Runs step h s (order ++ p ∷ []) u
  runs_push s t u [] p call run is steps = (call, u, is, subst (λ x. step x call u p.reply) (sym run) steps, refl)
  runs_push s t u (q ∷ order) p call run is steps = (run.0, run.1, run.2, run.3, runs_push run.1 t u order p call run.4 is steps)

  -- a run in two parts
  pub runs_split : (s u : S) (xs ys : List Placed) → Runs step h s (xs ++ ys) u → (t : S) × Runs step h s xs t × Runs step h t ys u
  runs_split s u [] ys run = (s, refl, run)
  runs_split s u (p ∷ xs) ys run =
      let rest = runs_split run.1 u xs ys run.4 in
      (rest.0, (run.0, run.1, run.2, run.3, rest.1), rest.2)

  -- steps lead to where a run ends
  pub runs_reach : (order : List Placed) (s t : S) → Runs step h s order t → Reaches step s t
  runs_reach [] s t same = subst (Reaches step s) same stays
  runs_reach (p ∷ order) s t run = goes run.3 (runs_reach order run.1 t run.4)

  -- where replies decide, a run ends in one state
  pub runs_one : ((state : S) (call : Call) (next other : S) (reply : Reply) → step state call next reply → step state call other reply → next ≡ other)
      → (s t u : S) (order : List Placed) → Runs step h s order t → Runs step h s order u → t ≡ u
  runs_one decides s t u [] a b = sym a ∙ b
  runs_one decides s t u (p ∷ order) a b =
      let call = one_call h p.at a.0 b.0 a.2 b.2 in
      let next = decides s b.0 a.1 b.1 p.reply (subst (λ x. step s x a.1 p.reply) call a.3) b.3 in
      runs_one decides b.1 t u order (subst (λ x. Runs step h x order t) next a.4) b.4

module _ (kinds : Item → Kind) (h : List Event) where
  -- each object has run through its part of the order to the state that it is in
  pub record HasRun (order : List Placed) (listed : Item → Option State) : Type 0 where
    pub each : (key : Item) → Runs (Step (kinds key)) h (start (kinds key)) (part_of h key order) (state_of kinds listed key)

  -- the part of the key has a further operation if it is on the key
  part_push : (key : Item) (order : List Placed) (p : Placed) (b : Bool) → is_of_key h key p.at ≡ b → part_of h key (order ++ p ∷ []) ≡ part_of h key order ++ cond b (p ∷ []) []
  part_push key order p b is = filter-append (λ q. is_of_key h key q.at) order (p ∷ []) ∙ ap (λ c. part_of h key order ++ cond c (p ∷ []) []) is

  is_on : (at : ℕ) (key : Item) (call : Call) → IsCallOn h at key call → (other : Item) → is_of_key h other at ≡ item_eq key other
  is_on at key call on other = ap (λ (o : Option Event). option_map_or (λ event. item_eq event.key other) o false) on.1

  module _ (order : List Placed) (i : ℕ) (p : Placed) (inside : i < length order) (is : p ≡ get_or order i p) (key : Item) (call : Call) (on : IsCallOn h p.at key call) (listed : Item → Option State) (so_far : HasRun (take i order) listed) where
    pub run_more : (now : Item → Option State) → Moves kinds listed now key call p.reply → HasRun (take (i + 1) order) now
    run_more now moves = record { each = λ other. by other (item_eq key other) refl (Decides-item_eq key other).0 }
      where
        by : (other : Item) (b : Bool) → item_eq key other ≡ b → (item_eq key other ≡ true → key ≡ other) → Runs (Step (kinds other)) h (start (kinds other)) (part_of h other (take (i + 1) order)) (state_of kinds now other)
        by other true on_it same =
            let part = part_push other (take i order) p true (is_on p.at key call on other ∙ on_it) in
            let key_is : key ≡ other = same on_it in
            let ran = so_far.each other in
            let steps = subst (λ k. Step (kinds k) (state_of kinds listed k) call (state_of kinds now k) p.reply) key_is moves.steps in
            subst (λ l. Runs (Step (kinds other)) h (start (kinds other)) l (state_of kinds now other)) (sym (ap (part_of h other) (take_more order i p inside is) ∙ part))
            (runs_push (Step (kinds other)) h (start (kinds other)) (state_of kinds listed other) (state_of kinds now other) (part_of h other (take i order)) p call ran (on.0, key, on.1) steps)
        by other false off_it same =
            let part = part_push other (take i order) p false (is_on p.at key call on other ∙ off_it) in
            let stays : state_of kinds now other ≡ state_of kinds listed other = ap (λ o. unwrap_or o (start (kinds other))) (moves.others other off_it) in
            subst (λ l. Runs (Step (kinds other)) h (start (kinds other)) l (state_of kinds now other))
            (sym (ap (part_of h other) (take_more order i p inside is) ∙ part ∙ append-nil (part_of h other (take i order))))
            (subst (Runs (Step (kinds other)) h (start (kinds other)) (part_of h other (take i order))) (sym stays) (so_far.each other))

    -- an object that may take no step does not run through the whole
    pub run_stuck : RepliesDecide → ((next : State) → Step (kinds key) (state_of kinds listed key) call next p.reply → ⊥) → IsLegal kinds h order → ⊥
    run_stuck decides stuck legal =
        let halves = filter-append (λ q. is_of_key h key q.at) (take i order) (drop i order) in
        let whole = ap (part_of h key) (sym (take-append-drop i order)) ∙ halves in
        let rest = ap (part_of h key) (drop-cons order i p inside ∙ ap (λ q. q ∷ drop (suc i) order) (sym is)) ∙ here in
        let ran = subst (λ l. Runs (Step (kinds key)) h (start (kinds key)) l (legal key).0) (whole ∙ ap (λ l. part_of h key (take i order) ++ l) rest) (legal key).1 in
        let split = runs_split (Step (kinds key)) h (start (kinds key)) (legal key).0 (part_of h key (take i order)) (p ∷ part_of h key (drop (suc i) order)) ran in
        let state = runs_one (Step (kinds key)) h (decides (kinds key)) (start (kinds key)) split.0 (state_of kinds listed key) (part_of h key (take i order)) split.1 (so_far.each key) in
        let next = split.2 in
        let same = one_call h p.at next.0 call next.2 (on.0, key, on.1) in
        stuck next.1 (subst (λ c. Step (kinds key) (state_of kinds listed key) c next.1 p.reply) same (subst (λ s. Step (kinds key) s next.0 next.1 p.reply) state next.3))
      where
        here : part_of h key (p ∷ drop (suc i) order) ≡ p ∷ part_of h key (drop (suc i) order)
        here = ap (λ b. cond b (p ∷ part_of h key (drop (suc i) order)) (part_of h key (drop (suc i) order))) (is_on p.at key call on key ∙ (Decides-item_eq key key).1 refl)

-- at first each object is at its start
pub none_ran : (kinds : Item → Kind) (h : List Event) (listed : Item → Option State) → ((key : Item) → listed key ≡ None) → HasRun kinds h [] listed
none_ran kinds h listed none = record { each = λ key. sym (ap (λ o. unwrap_or o (start (kinds key))) (none key)) }

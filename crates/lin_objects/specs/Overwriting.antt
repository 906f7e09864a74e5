-- Objects that are overwritten: each call that isn't treated as an observer does the same wherever the object comes to.
use Rattle.std.specs.Prelude.{◌≡◌, Bool, true, false}
use Rattle.std.proofs.Common.{refl, sym, ap, subst, true≢false, ◌∙◌}
use Rattle.lin_events.specs.declared.calls.Call.{Call}
use Rattle.lin_events.specs.declared.calls.Call.TheVariants.{Read, Write}
use Rattle.lin_events.specs.declared.calls.Reply.{Reply}
use Rattle.lin_events.specs.declared.calls.Reply.TheVariants.{Done}
use Rattle.lin_events.specs.declared.calls.Val.{Val}
use Rattle.lin_events.specs.declared.calls.Val.TheVariants.{Nil}
use Rattle.lin_objects.specs.declared.kinds.Kind.{Kind}
use Rattle.lin_objects.specs.declared.kinds.Kind.TheVariants.{Register}
use Rattle.lin_objects.specs.declared.states.State.{State}
use Rattle.lin_objects.specs.declared.states.State.TheVariants.{Value}
use Rattle.lin_objects.specs.Observing.{observes}
use Rattle.lin_objects.specs.Steps.{Step, start}
use Rattle.lin_objects.specs.Total.{Reaches, stays, goes}

-- a step by a call that isn't treated as an observer can be taken in each state that the object comes to, and by that call there is no other step anywhere
abbrev pub IsOverwriting : {S : Type 0} → S → (S → Call → S → Reply → Type 0) → (Call → Bool) → Type 0
IsOverwriting {S} start step observes = (call : Call) → observes call ≡ false → (state other next : S) (reply : Reply) → step state call next reply
    → (Reaches step start other → step other call next reply) × ((last : S) (answer : Reply) → step other call last answer → (last ≡ next) × (answer ≡ reply))

-- the kinds of which each object is overwritten: registers, without compare-and-set
abbrev pub overwrites : Kind → Bool
overwrites Register = true
overwrites _ = false

-- a step of a register by a call that isn't treated as an observer is a write
written : (state next : State) (call : Call) (reply : Reply) → observes Register call ≡ false → Step Register state call next reply → (v : Val) × (call ≡ Write v) × (next ≡ Value v) × (reply ≡ Done)
written (Value w) next (Write v) reply none_observes s = (v, refl, s.0, s.1)
written (Value w) next Read reply none_observes s = absurd (true≢false none_observes)
written _ next _ reply none_observes s = absurd s

-- a register stays one
abbrev IsValue : State → Type 0
IsValue (Value v) = Unit {0}
IsValue _ = ⊥

register_step : (state next : State) (call : Call) (reply : Reply) → Step Register state call next reply → IsValue next
register_step (Value v) next Read reply s = subst IsValue (sym s.0) tt
register_step (Value v) next (Write w) reply s = subst IsValue (sym s.0) tt
register_step _ next _ reply s = absurd s

registers_stay : (state last : State) → IsValue state → Reaches (Step Register) state last → IsValue last
registers_stay state last is stays = is
registers_stay state last is (goes {next} {call} {reply} s way) = registers_stay next last (register_step state next call reply s) way

-- which takes each write
writes : (state : State) (v : Val) → IsValue state → Step Register state (Write v) (Value v) Done
writes (Value w) v is = (refl, refl)
writes _ v is = absurd is

-- registers are overwritten
pub registers_overwritten : (kind : Kind) → overwrites kind ≡ true → IsOverwriting (start kind) (Step kind) (observes kind)
registers_overwritten Register is call none_observes state other next reply s =
    let w = written state next call reply none_observes s in (
      λ way.
          let takes = writes other w.0 (registers_stay (Value Nil) other tt way) in
          subst (λ c. Step Register other c next reply) (sym w.1) (subst (λ n. Step Register other (Write w.0) n reply) (sym w.2) (subst (Step Register other (Write w.0) (Value w.0)) (sym w.3) takes)),
      λ last answer t.
          let x = written other last call answer none_observes t in
          let same = write_same (sym w.1 ∙ x.1) in
          (x.2 ∙ ap Value (sym same) ∙ sym w.2, x.3 ∙ sym w.3),
    )
  where
    write_same : {v u : Val} → Write v ≡ Write u → v ≡ u
    write_same e = cc
registers_overwritten _ is call none_observes state other next reply s = absurd (true≢false (sym is))

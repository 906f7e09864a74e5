-- How ok operations are answered.
use Rattle.std.proofs.Common.{◌≡◌, ◌<◌, ◌≤◌, ℕ, ◌+◌, List, Bool, true, false, Decides, IsTrue, ◌↔◌, length, subst, ◌∙◌, inl, inr, arith, get_or}
use Rattle.std.proofs.lemmas.Bool.{cases_lt}
use Rattle.std.proofs.lemmas.Option.{slice_get_within}
use Rattle.lin_events.specs.declared.events.Event.{Event}
use Rattle.lin_events.specs.declared.calls.Reply.{Reply}
use Rattle.lin_events.specs.Operations.{IsOk, IsFailed}
use Rattle.lin_order.specs.declared.placed.Placed.{Placed}
use Rattle.lin_order.specs.Tables.{KeepsOutcome, MarksEachOk}
use Rattle.lin_order.specs.lemmas.OneEnd.{one_ok}

-- an ok operation keeps its outcome by having its reply
pub outcome_since : (h : List Event) (p : Placed) (end : ℕ) (reply : Reply) → (IsFailed h p.at → ⊥) → IsOk h p.at end reply → (b : Bool) → Decides b (p.reply ≡ reply) → IsTrue b ↔ KeepsOutcome h p
outcome_since h p end reply succeeded ok b tells = (
  λ yes. record {
    not_failed = succeeded;
    recorded = λ other said again. tells.0 yes ∙ (one_ok h p.at end other reply said ok again).1;
  },
  λ keeps. tells.1 (keeps.recorded end reply ok),
)

module _ (h : List Event) (marks : List Bool) (at : ℕ) (so_far : (k end : ℕ) (reply : Reply) → k < at → IsOk h k end reply → get_or marks k false ≡ true) where
  -- one more ok operation is marked
  pub kept_more : ((end : ℕ) (reply : Reply) → IsOk h at end reply → get_or marks at false ≡ true) → (k end : ℕ) (reply : Reply) → k < at + 1 → IsOk h k end reply → get_or marks k false ≡ true
  kept_more here k end reply below ok = elim (cases_lt k at) [
    | inl before ↦ so_far k end reply before ok
    | inr past ↦
        let same : at ≡ k = omega arith in
        subst (λ j. (end : ℕ) (reply : Reply) → IsOk h j end reply → get_or marks j false ≡ true) same here end reply ok
  ]

  -- all are, once the end is reached
  pub kept_all : length marks ≡ length h → length marks ≤ at → MarksEachOk h marks
  kept_all many past k end reply ok =
      let inside = slice_get_within h k _ ok.1.begins in
      so_far k end reply (omega arith) ok

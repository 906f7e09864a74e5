-- The empty history.
use Rattle.std.proofs.Common.{ℕ, [], refl, arith}
use Rattle.std.proofs.lemmas.Option.{slice_get_within}
use Rattle.lin_events.specs.declared.calls.Reply.{Reply}
use Rattle.lin_events.specs.Operations.{IsOk}
use Rattle.lin_objects.specs.Steps.{start}
use Rattle.lin_order.specs.Orders.{IsOrderOf}
use Rattle.lin_order.specs.Laws.{EmptyIsLegal}

no_ok : (at end : ℕ) (reply : Reply) → IsOk [] at end reply → ⊥
no_ok at end reply ok = let inside = slice_get_within [] end ok.0 ok.1.ends in omega arith

pub empty_order : (scope : ℕ → Type 0) → IsOrderOf scope [] []
empty_order scope = record {
  operations = λ k d inside. absurd (omega arith);
  once = λ i j d before inside. absurd (omega arith);
  none_failed = λ k d inside. absurd (omega arith);
  each_ok = λ at end reply of_it ok. absurd (no_ok at end reply ok);
  real_time = λ i j d before inside. absurd (omega arith);
}

pub empty_is_legal_lem : EmptyIsLegal
empty_is_legal_lem kinds = (
  record { order_of = empty_order _; legal = λ key. (start (kinds key), refl) },
  λ key. record { order_of = empty_order _; legal = (start (kinds key), refl) },
)

use Rattle.std.proofs.Common.{◌≡◌, ◌<◌, ℕ, Some, slice_get}
use Rattle.lin_events.specs.declared.calls.Call.TheVariants.{Dequeue}
use Rattle.lin_queues.specs.declared.opens.OpenCall.{OpenCall}
use Rattle.lin_queues.proofs.opens.dequeues_of.Given as goal

abbrev pub invariant-loop-operation : goal.invariant-loop-operation
invariant-loop-operation l = record {
  from : (j x : ℕ) → slice_get l.dequeues.items j ≡ Some x → (k : ℕ) × (o : OpenCall) × (k < l.operation-index) × (slice_get l.open k ≡ Some o) × (o.place ≡ x) × (o.call ≡ Dequeue);
  rising : ((j k : ℕ) (o p : OpenCall) → j < k → slice_get l.open j ≡ Some o → slice_get l.open k ≡ Some p → o.place < p.place) → (j k x y : ℕ) → j < k → slice_get l.dequeues.items j ≡ Some x → slice_get l.dequeues.items k ≡ Some y → x < y;
  complete : (k : ℕ) (o : OpenCall) → k < l.operation-index → slice_get l.open k ≡ Some o → o.call ≡ Dequeue → (j : ℕ) × (slice_get l.dequeues.items j ≡ Some o.place);
}

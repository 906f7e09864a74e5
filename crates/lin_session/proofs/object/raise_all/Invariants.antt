use Rattle.std.proofs.Common.{◌≡◌, ◌<◌, ◌≤◌, ℕ, Some, length, slice_get}
use Rattle.lin_session.specs.declared.kept.Object.{Object}
use Rattle.lin_session.specs.inner.Objects.{IsRaisedObject}
use Rattle.lin_session.proofs.object.raise_all.Given as goal

abbrev pub invariant-loop-object : goal.invariant-loop-object
invariant-loop-object l = record {
  long : length l.object-items ≡ length l.fn.objects.items;
  done : (i : ℕ) (old new : Object) → i < l.object-index → slice_get l.fn.objects.items i ≡ Some old → slice_get l.object-items i ≡ Some new → IsRaisedObject l.budget old new;
  rest : (i : ℕ) (o : Object) → l.object-index ≤ i → slice_get l.object-items i ≡ Some o → slice_get l.fn.objects.items i ≡ Some o;
}

use Rattle.std.proofs.Common.{option_map, refl, take, take_all}
use Rattle.lin_explain.specs.inner.Own.{stretch_of}
use Rattle.lin_explain.proofs.certain.put_certain_reason.Goals as goal

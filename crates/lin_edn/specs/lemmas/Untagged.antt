-- The view of a tagged element.
use Rattle.std.proofs.Common.{◌≡◌, Box, Global}
use Rattle.lin_edn.specs.Value.{Value, tagged}
use Rattle.lin_edn.specs.View.{view, edn_step, entry_step}
use Rattle.lin_edn.specs.declared.Edn.TheFolds.{fold-roll-Edn}
use Rattle.lin_edn.specs.declared.Edn.{Edn}
use Rattle.lin_edn.specs.declared.Edn.TheOpen.{Edn-F}
use Rattle.lin_edn.specs.declared.Edn.TheViews.{Tagged}
use Rattle.lin_edn.specs.declared.Span.{Span}

pub tagged_view : (s : Span) (b : Box Edn Global) → view (Tagged s b) ≡ tagged s.at s.text.now (view b.value)
unfolding Rattle.lin_edn.specs.declared.Edn.TheViews.roll-Edn denote.Hole.Carrier.roll
tagged_view s b = fold-roll-Edn Value (Value × Value) edn_step entry_step (Edn-F.Tagged s b)

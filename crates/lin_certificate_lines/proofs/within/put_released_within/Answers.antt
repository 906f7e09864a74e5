use Rattle.std.proofs.Common.{refl}
use Rattle.lin_events.specs.declared.calls.Name.TheVariants as Named
use Rattle.lin_certificate_lines.specs.Sides.{named_sides}
use Rattle.lin_certificate_lines.specs.Within.{within_text}
use Rattle.lin_certificate_lines.proofs.within.put_released_within.Goals as goal

pub returns : goal.returns
returns c =
    let sides = c.in_ok-sides.sides in (
      within_text c.args.told.now Named.Release Named.Acquire c.args.places.0 c.args.places.1 sides,
      named_sides sides.done.items sides.may.items sides.failed.items,
      c.in_ok-put_within_lines.ensures,
      c.in_ok-name_sides.ensures,
      record { sides = sides; are = c.in_ok-sides.ensures; put = refl; named = refl },
    )

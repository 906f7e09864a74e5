use Rattle.std.proofs.Common.{◌≡◌, length, inl, inr, refl, subst, arith}
use Rattle.std.proofs.lemmas.Bool.{cases_lt}
use Rattle.std.proofs.lemmas.Option.{slice_get_read, slice_get_within}
use Rattle.lin_events.specs.WellFormed.{IsBad}
use Rattle.lin_objects.specs.Kinds.{kind_of, functions_of}
use Rattle.lin_wellformed.proofs.backward.look_back.Goals as goal

pub loop-at-preserved : goal.loop-at-preserved
loop-at-preserved c = λ k cause below bad.
    let h = c.args.events.now in
    let at = c.loop-at.at in
    let functions = functions_of (kind_of c.args.kinds.now) in
    let stands = slice_get_read h (length h) at c.index-events-at.result refl (omega arith) c.index-events-at.is in
    elim (cases_lt k at) [
      | inl earlier ↦ c.loop-at.invariant k cause earlier bad
      | inr upto ↦
          let here : k ≡ at = omega arith in
          c.bad_positions.ensures.good functions h at c.index-events-at.result c.status_at_end-status.result stands c.status_at_end-status.ensures c.in_default.ensures cause
          (subst (λ n. IsBad functions h n cause) here bad)
    ]

pub returns : goal.returns
returns c = λ k cause bad. c.loop-at.invariant k cause (let inside = slice_get_within c.args.events.now k bad.event bad.stands in omega arith) bad

use Rattle.std.proofs.Common.{◌∙◌, List, false, length, sym, subst, arith}
use Rattle.std.proofs.lemmas.List.{take_all}
use Rattle.lin_events.specs.declared.events.Event.{Event}
use Rattle.lin_objects.specs.Observing.{observes}
use Rattle.lin_objects.specs.Overwriting.{overwrites}
use Rattle.lin_objects.specs.Steps.{Step, start}
use Rattle.lin_frontier.specs.Frontiers.{IsPending}
use Rattle.lin_frontier.specs.lemmas.Answered.{from_none, from_some}
use Rattle.lin_members.specs.Compressed.{IsCovering}
use Rattle.lin_members.specs.Listed.{IsListingOf}
use Rattle.lin_possibilities.specs.Running.{IsKnown, kind_of}
use Rattle.lin_possibilities.proofs.Keeping.{known_stays}
use Rattle.lin_possibilities.proofs.run.Run.listed.Goals as goal
use Rattle.lin_possibilities.proofs.run.Run.listed.Goals.{In_ok-found}

opened : (c : In_ok-found) (h : List Event) → IsKnown c.args.self.now h (length h) → IsPending h c.of-pending.result
opened c h known = subst (IsPending h) (sym (c.of-pending.ensures ∙ c.as_slice.ensures.value)) (subst (λ g. IsPending g c.args.self.now.pending.items) (take_all (length h) h (omega arith)) known.opened)

covering : (c : In_ok-found) (h : List Event) → IsKnown c.args.self.now h (length h)
    → IsCovering (start (kind_of c.args.self.now)) (Step (kind_of c.args.self.now)) (observes (kind_of c.args.self.now)) false h c.deref.result.now c.args.self.now.nodes
covering c h known =
    let self = c.args.self.now in
    subst (λ l. IsCovering (start (kind_of self)) (Step (kind_of self)) (observes (kind_of self)) false h l self.nodes) (sym (c.deref.ensures.value ∙ c.in_ok-members.ensures))
    (subst (λ b. IsCovering (start (kind_of self)) (Step (kind_of self)) (observes (kind_of self)) b h self.frontier self.nodes) c.requires
    (subst (λ g. IsCovering (start (kind_of self)) (Step (kind_of self)) (observes (kind_of self)) (overwrites (kind_of self)) g self.frontier self.nodes) (take_all (length h) h (omega arith)) known.compressed.covering))

pub returns-clause-listing : goal.returns-clause-listing
returns-clause-listing c = λ functions h well known.
    let self = c.args.self.now in
    let step = (goal.at.returns-clause-listing c).In_ok-found in
    subst (λ l. IsListingOf (start (kind_of self)) (Step (kind_of self)) (observes (kind_of self)) h l c.listed.new.nodes) (sym c.into_members.ensures)
    (from_some _ c.in-Some.is c.in_ok-found.ensures.listing functions h well (opened step h known) (covering step h known))

pub returns-in_default-clause-over : goal.returns-in_default-clause-over
returns-in_default-clause-over c = λ functions h well known.
    let step = (goal.at.returns-in_default-clause-over c).In_ok-found in
    from_none _ c.in_default.is c.in_ok-found.ensures.over functions h well (opened step h known) (covering step h known).spelled

pub returns-clause-known : goal.returns-clause-known
returns-clause-known c = λ h n known. known_stays c.args.self.now c.listed.new.nodes h n c.listed.ensures.grown known

pub returns-in_default-clause-known : goal.returns-in_default-clause-known
returns-in_default-clause-known c = λ h n known. known_stays c.args.self.now c.listed.new.nodes h n c.listed.ensures.grown known

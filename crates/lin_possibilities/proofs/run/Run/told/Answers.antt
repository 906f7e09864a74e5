use Rattle.std.proofs.Common.{◌∙◌, true, length, refl, sym, subst, arith}
use Rattle.std.proofs.lemmas.List.{take_all}
use Rattle.lin_objects.specs.Observing.{observes}
use Rattle.lin_objects.specs.Overwriting.{overwrites, registers_overwritten}
use Rattle.lin_objects.specs.Steps.{Step, start}
use Rattle.lin_frontier.specs.Frontiers.{IsPending}
use Rattle.lin_members.specs.Compressed.{IsCovering}
use Rattle.lin_possibilities.specs.Running.{kind_of}
use Rattle.lin_possibilities.proofs.Keeping.{known_stays}
use Rattle.lin_possibilities.proofs.Overwritten.{told_after}
use Rattle.lin_possibilities.proofs.run.Run.told.Goals as goal

pub returns-clause-after : goal.returns-clause-after
returns-clause-after c = λ functions h well known.
    let self = c.args.self.now in
    let kind = kind_of self in
    let told = c.in_ok-list.ensures.told in
    let opened : IsPending h c.as_slice.result.now = subst (IsPending h) (sym c.as_slice.ensures.value) (subst (λ g. IsPending g self.pending.items) (take_all (length h) h (omega arith)) known.opened) in
    let covering : IsCovering (start kind) (Step kind) (observes kind) true h c.deref.result.now self.nodes = subst (λ l. IsCovering (start kind) (Step kind) (observes kind) true h l self.nodes) (sym (c.deref.ensures.value ∙ c.in_ok-members.ensures))
    (subst (λ b. IsCovering (start kind) (Step kind) (observes kind) b h self.frontier self.nodes) c.requires
    (subst (λ g. IsCovering (start kind) (Step kind) (observes kind) (overwrites kind) g self.frontier self.nodes) (take_all (length h) h (omega arith)) known.compressed.covering)) in
    told_after (record { run = record self { nodes = c.told.new.nodes }; members = c.in_ok-list.list }) kind h (registers_overwritten kind c.requires) c.rounds_spell_members.ensures.ends c.well_formed_is_alternating.ensures functions well c.as_slice.result.now told.0 opened told.1
    c.deref.result.now self.nodes covering told.2 (c.in_ok-list.ensures.spelled functions h well opened covering.spelled)
    refl (known_stays self c.told.new.nodes h (length h) c.in_ok-list.ensures.grown known)

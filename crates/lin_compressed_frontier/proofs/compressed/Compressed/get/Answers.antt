use Rattle.std.proofs.Common.{◌∙◌}
use Rattle.lin_compressed_frontier.proofs.Shown.{members_lead_within, shown_at, shown_holds}
use Rattle.lin_compressed_frontier.proofs.compressed.Compressed.get.Goals as goal

pub returns-clause-found : goal.returns-clause-found
returns-clause-found g c = shown_at c.deref.result.now c.args.self.now (c.deref.ensures.value ∙ c.self.view_is) c.args.i c.get.result c.get.ensures.lookup

pub returns-clause-sound : goal.returns-clause-sound
returns-clause-sound g c =
    let object = c.args.object.now in
    shown_holds _ c.args.self.now (λ m there functions h nodes well_formed is.
    members_lead_within (g.O.SeqObject.starts object) (g.O.SeqObject.step object) (g.O.SeqObject.observing object) c.members_are_exact.ensures.sound c.overwritten_are_sound.ensures (g.O.SeqObject.unchanged object)
    (g.O.SeqObject.overwriting object) (g.O.SeqObject.overwritten object) functions h well_formed c.args.self.now nodes is m there)
    c.args.i c.get.result (shown_at c.deref.result.now c.args.self.now (c.deref.ensures.value ∙ c.self.view_is) c.args.i c.get.result c.get.ensures.lookup)

use Rattle.std.proofs.Common.{◌++◌, ap, ◌∙◌}
use Rattle.std.proofs.lemmas.List.{append-nil}
use Rattle.lin_members.specs.Batches.{all_of}
use Rattle.lin_members.specs.Searching.{watched}
use Rattle.lin_members.proofs.Batching.{both_empty}
use Rattle.lin_members.proofs.offers.OfferList.share_watched.Goals as goal

pub returns : goal.returns
returns g c =
    let none = both_empty (all_of c.self.inside.older.items) c.self.inside.items.items (c.self.view_is ∙ c.requires) in
    let new = all_of c.share_watched.new.batches.items in
    ap (λ l. new ++ l) none.1 ∙ append-nil new ∙ c.in_ok-share_watched.ensures
    ∙ ap (λ l. l ++ watched (g.O.SeqObject.observing c.args.object.now) c.args.pending.now (all_of c.args.batches.now)) none.0

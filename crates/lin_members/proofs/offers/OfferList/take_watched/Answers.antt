use Rattle.std.proofs.Common.{ℕ, ◌++◌, ap, sym, ◌∙◌}
use Rattle.std.proofs.lemmas.List.Elements.{filter-append}
use Rattle.lin_events.specs.declared.calls.Reply.{Reply}
use Rattle.lin_members.specs.Batches.{all_of}
use Rattle.lin_members.specs.Searching.{is_watching, watched}
use Rattle.lin_members.proofs.offers.OfferList.take_watched.Goals as goal

pub returns : goal.returns
returns g c =
    let observes = g.O.SeqObject.observing c.args.object.now in
    let older = all_of c.parts.result.0.now in
    let newest = c.parts.result.1.now in
    c.in_ok-put_many_aside.ensures ∙ c.in_ok-push_watched.ensures ∙ ap (λ l. l ++ watched observes c.args.pending.now newest) c.in_ok-share_watched.ensures
    ∙ sym (filter-append (λ (x : ℕ × (ℕ × Reply)). is_watching observes c.args.pending.now x.1.0) older newest) ∙ ap (watched observes c.args.pending.now) (sym c.parts.ensures)

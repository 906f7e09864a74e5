use Rattle.std.proofs.Common.{sym, ◌∙◌}
use Rattle.indexmap.proofs.CallerLemmas.{insert_entry-new}
use Rattle.lin_events.specs.Replies.{reply_Decides}
use Rattle.lin_frontier.specs.lemmas.Absorbing.{none_from_not_some}
use Rattle.lin_possibilities.proofs.Showing.{put_new, put_there}
use Rattle.lin_possibilities.proofs.possible.put_reply.Goals as goal

pub returns-then-contains_key : goal.returns-then-contains_key
returns-then-contains_key c = put_there _ reply_Decides c.args.reply c.args.way c.args.found.now.entries (sym c.if-contains_key.ensures)

pub returns : goal.returns
returns c =
    let none = sym c.if-contains_key.ensures in
    put_new _ reply_Decides c.args.reply c.args.way c.args.found.now.entries c.insert.new.self.entries none
    (c.in-Ok.ensures.entries ∙ insert_entry-new _ c.args.found.now c.args.reply c.args.way (none_from_not_some _ none))

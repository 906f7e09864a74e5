use Rattle.std.proofs.Common.{ℕ, IfSome, subst, sym, ◌∙◌}
use Rattle.lin_objects.specs.Ahead.{IsAhead}
use Rattle.lin_members.specs.Searching.{AreHindering}
use Rattle.lin_compressed_frontier.proofs.completions.Completion.goes_ahead.Goals as goal

pub returns-in-Some : goal.returns-in-Some
returns-in-Some g c first =
    let object = c.args.self.now.object.now in
    let operation = c.args.self.now.operation.now in
    let reply = c.args.self.now.reply.now in
    let h = subst (λ many. IfSome many (AreHindering (g.O.SeqObject.observing object) (g.O.SeqObject.hindered object) operation reply c.args.self.now.pending.now)) c.in-Some.is c.requires in
    record {
      update = h.update;
      quiet = h.quiet;
      hinders = g.O.SeqObject.hindered object operation.call reply;
      ahead = subst (λ (n : ℕ). IsAhead (g.O.SeqObject.step object) (g.O.SeqObject.hindered object operation.call reply) c.args.state.now operation.call reply n) h.counted
          (g.O.SeqObject.ahead object c.args.state.now operation.call reply c.in-Some.many (sym c.goes_first.ensures ∙ first));
    }

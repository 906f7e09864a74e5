use Rattle.std.proofs.Common.{None, Some, Ok, Err, ap, sym, ◌∙◌}
use Rattle.lin_report.specs.Runs.{AreMore}
use Rattle.lin_report.specs.declared.commands.Command.TheVariants.{Pull}
use Rattle.lin_report.proofs.Replying.{IsReadBy, command_said, nothing_said, plainly_said, refused_said, says, stands_there}
use Rattle.lin_report.proofs.Pulling.{more_on, seen_on}
use Rattle.lin_report.proofs.runs.reply.Goals as goal

pub returns-in-Ok-None-clause-reply : goal.returns-in-Ok-None-clause-reply
returns-in-Ok-None-clause-reply g c = λ line is before stands.
    let read : IsReadBy c.args.keyed c.read_command-said.new.names c.args.held.now (Ok None) = rw c.in-Ok-None.field-0-is at c.in-Ok-None.ensures.read in
    let more : AreMore c.args.names.now c.read_command-said.new.names = (c.read_command-said.ensures.begun, c.names_are_apart.ensures) in (
      _,
      stands_there c.args.keyed c.args.held.now line is before _ _ _ _ _ stands more,
      nothing_said c.args.keyed c.args.held.now line is before _ _ _ _ _ stands more _ _ read (c.plain.ensures.text ∙ c.new.ensures.items) c.plain.ensures.status,
    )

pub returns-in_ok-reply_to_pull-in-Ok-Some-Pull-clause-reply : goal.returns-in_ok-reply_to_pull-in-Ok-Some-Pull-clause-reply
returns-in_ok-reply_to_pull-in-Ok-Some-Pull-clause-reply g c = λ line is before stands.
    let read : IsReadBy c.args.keyed c.read_command-said.new.names c.args.held.now (Ok (Some Pull)) = rw (c.in-Ok-Some-Pull.field-0-is, c.in-Ok-Some-Pull.field-0-0-is) at c.in-Ok-Some-Pull.ensures.read in
    let more : AreMore c.args.names.now c.read_command-said.new.names = (c.read_command-said.ensures.begun, c.names_are_apart.ensures) in
    let there = stands_there c.args.keyed c.args.held.now line is before _ _ _ _ _ stands more in
    let p = c.in_ok-reply_to_pull-in-Ok-Some-Pull.ensures.reply c.args.keyed _ there in
    (p.0, p.1, command_said c.args.keyed c.args.held.now line is before _ _ _ _ _ stands more p.0 _ _ _ read p.2)

pub returns-in_ok-reply_to-in-Ok-Some-clause-reply : goal.returns-in_ok-reply_to-in-Ok-Some-clause-reply
returns-in_ok-reply_to-in-Ok-Some-clause-reply g c = λ line is before stands.
    let read : IsReadBy c.args.keyed c.read_command-said.new.names c.args.held.now (Ok (Some c.in-Ok-Some.command)) = rw (c.in-Ok-Some.field-0-is, c.in-Ok-Some.command-is) at c.in-Ok-Some.ensures.read in
    let more : AreMore c.args.names.now c.read_command-said.new.names = (c.read_command-said.ensures.begun, c.names_are_apart.ensures) in
    plainly_said c.args.keyed c.args.held.now line is before _ _ _ _ _ stands more _ _ _ c.in-Ok-Some.command read c.in_ok-reply_to-in-Ok-Some.ensures.reply

pub returns-in_ok-reply_to_fault-in-Err-clause-reply : goal.returns-in_ok-reply_to_fault-in-Err-clause-reply
returns-in_ok-reply_to_fault-in-Err-clause-reply g c = λ line is before stands.
    let read : IsReadBy c.args.keyed c.read_command-said.new.names c.args.held.now (Err c.in-Err.fault) = c.in-Err.ensures.read in
    let more : AreMore c.args.names.now c.read_command-said.new.names = (c.read_command-said.ensures.begun, c.names_are_apart.ensures) in
    let r = c.in_ok-reply_to_fault-in-Err.ensures in (
      _,
      stands_there c.args.keyed c.args.held.now line is before _ _ _ _ _ stands more,
      refused_said c.args.keyed c.args.held.now line is before _ _ _ _ _ stands more _ _ c.in-Err.fault read r.0 r.1 r.2,
    )

pub returns-in_err-reply_to_pull-in-Ok-Some-Pull-clause-reads : goal.returns-in_err-reply_to_pull-in-Ok-Some-Pull-clause-reads
returns-in_err-reply_to_pull-in-Ok-Some-Pull-clause-reads g c =
    let reads = c.in_err-reply_to_pull-in-Ok-Some-Pull.ensures.reads in
    let more : AreMore c.args.names.now c.read_command-said.new.names = (c.read_command-said.ensures.begun, c.names_are_apart.ensures) in (
      more_on _ _ _ more reads.0,
      reads.1,
      reads.2,
      λ is bytes put seen. reads.3 (ap Err (sym (rw is at c.from_residual.ensures.1))) bytes put (seen_on _ _ _ bytes put more seen),
    )

pub returns-in_err-reply_to_pull-in-Ok-Some-Pull-clause-pulls : goal.returns-in_err-reply_to_pull-in-Ok-Some-Pull-clause-pulls
returns-in_err-reply_to_pull-in-Ok-Some-Pull-clause-pulls g c = λ failed line is.
    let read : IsReadBy c.args.keyed c.read_command-said.new.names c.args.held.now (Ok (Some Pull)) = rw (c.in-Ok-Some-Pull.field-0-is, c.in-Ok-Some-Pull.field-0-0-is) at c.in-Ok-Some-Pull.ensures.read in
    (c.read_command-said.new.names, says c.args.keyed c.args.held.now line is c.read_command-said.new.names (Ok (Some Pull)) (λ e. cc) read)

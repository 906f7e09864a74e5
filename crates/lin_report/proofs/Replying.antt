-- The reply to a line, by what the line says.
use Rattle.std.proofs.Common.{◌≡◌, ◌+◌, ◌++◌, [], ℕ, Bool, List, Option, None, Some, Result, Ok, Err, inl, inr, take, refl, subst}
use Rattle.std.specs.Prelude.{codes}
use Rattle.lin_history.specs.Reading.{IsReading, Reading}
use Rattle.lin_history.specs.Sees.{Followed}
use Rattle.lin_names.specs.lemmas.Begins.{agrees_before}
use Rattle.lin_answers.specs.Edits.{Present}
use Rattle.lin_report.specs.Commands.{IsCommand, IsCommandBy, IsRead, longest_line}
use Rattle.lin_report.specs.Pulls.{StandsAt}
use Rattle.lin_report.specs.Runs.{AreMore, IsCommandReply, IsDone, IsReply, RunState}
use Rattle.lin_report.specs.Refusals.{fault_text}
use Rattle.lin_texts.specs.declared.status.Status.{Status}
use Rattle.lin_report.specs.declared.commands.Command.{Command}
use Rattle.lin_report.specs.declared.commands.Command.TheVariants.{Edit, Skipped, Ask, Order, Report, Pull, Refute, Explain, Work}
use Rattle.lin_report.specs.declared.commands.CommandFault.{CommandFault}
use Rattle.lin_report.specs.declared.commands.CommandFault.TheVariants.{OutOfMemory}
use Rattle.lin_report.proofs.CommandLines.{kept_says}

-- what was read of a line is what it says, but where memory was refused
read_right : (m : Reading) (held : List ℕ) (said : Result (Option Command) CommandFault) → (said ≡ Err OutOfMemory → ⊥) → IsRead m held said → IsCommand m held said
read_right m held said none (inl right) = right
read_right m held said none (inr refused) = absurd (none refused.3)

-- what is read of a line by names
abbrev pub IsReadBy : Bool → List (List ℕ) → List ℕ → Result (Option Command) CommandFault → Type 0
IsReadBy keyed names held said = (m : Reading) → IsReading keyed names m → IsRead m held said

-- a refusal is one
abbrev refused_for : CommandFault → Result (Option Command) CommandFault
refused_for fault = Err fault

one_fault : (a b : CommandFault) → refused_for a ≡ refused_for b → a ≡ b
one_fault a b e = cc

-- more names stand where the run stands
pub stands_on : (keyed : Bool) (before : RunState) (now : Present) (old names : List (List ℕ)) (follow : Followed) (left : Option (List ℕ)) → AreMore old names
    → StandsAt keyed before now old follow left → StandsAt keyed (record before { names = names }) now names follow left
stands_on keyed before now old names follow left more stands = record {
  present_is = stands.present_is;
  names_are = refl;
  once = more.1;
  sees = λ m is. stands.sees m (is.0, agrees_before old names m.number more.0 is.1);
  keyed_is = stands.keyed_is;
  left_is = stands.left_is;
}

-- a command that reads no file is done where it is replied to
done_by : (keyed : Bool) (command : Command) (before : RunState) (now new : Present) (text : List ℕ) (status : Option Status) → now ≡ before.present
    → IsCommandReply before.names keyed command now new text status → IsDone keyed command before (record before { present = new }) text status
done_by keyed (Edit edit) before now new text status same reply = (new, subst (λ p. IsCommandReply before.names keyed (Edit edit) p new text status) same reply, refl)
done_by keyed Skipped before now new text status same reply = (new, subst (λ p. IsCommandReply before.names keyed Skipped p new text status) same reply, refl)
done_by keyed (Ask scope) before now new text status same reply = (new, subst (λ p. IsCommandReply before.names keyed (Ask scope) p new text status) same reply, refl)
done_by keyed (Order scope) before now new text status same reply = (new, subst (λ p. IsCommandReply before.names keyed (Order scope) p new text status) same reply, refl)
done_by keyed Report before now new text status same reply = (new, subst (λ p. IsCommandReply before.names keyed Report p new text status) same reply, refl)
done_by keyed (Refute key) before now new text status same reply = (new, subst (λ p. IsCommandReply before.names keyed (Refute key) p new text status) same reply, refl)
done_by keyed (Explain scope) before now new text status same reply = (new, subst (λ p. IsCommandReply before.names keyed (Explain scope) p new text status) same reply, refl)
done_by keyed Work before now new text status same reply = (new, subst (λ p. IsCommandReply before.names keyed Work p new text status) same reply, refl)
done_by keyed Pull before now new text status same reply = elim reply [ ]

-- a line of which so much is held, read by these names, which are more than those before
-- what is read of so much of a line is what the line says
pub says : (keyed : Bool) (held line : List ℕ) → held ≡ take (longest_line + 1) line → (names : List (List ℕ)) (said : Result (Option Command) CommandFault)
    → (said ≡ Err OutOfMemory → ⊥) → IsReadBy keyed names held said → IsCommandBy keyed names line said
says keyed held line is names said none read = λ m by. kept_says m line held said is (read_right m held said none (read m by))

module _ (keyed : Bool) (held line : List ℕ) (is : held ≡ take (longest_line + 1) line) (before : RunState) (old names : List (List ℕ)) (now : Present) (follow : Followed) (left : Option (List ℕ))
    (stands : StandsAt keyed before now old follow left) (more : AreMore old names) where
  said_by : (said : Result (Option Command) CommandFault) → (said ≡ Err OutOfMemory → ⊥) → IsReadBy keyed names held said → IsCommandBy keyed names line said
  said_by = says keyed held line is names

  grown : AreMore before.names names
  grown = subst (λ n. AreMore n names) stands.names_are more

  -- where the run stands once the line is read
  pub read_at : RunState
  read_at = record before { names = names }

  pub stands_there : StandsAt keyed (record before { names = names }) now names follow left
  stands_there = stands_on keyed before now old names follow left more stands

  -- a line without a word
  pub nothing_said : (text : List ℕ) (status : Option Status) → IsReadBy keyed names held (Ok None) → text ≡ [] → status ≡ None
      → IsReply keyed before line (record before { names = names }) text status
  nothing_said text status read none no_answer = (names, grown, Ok None, said_by (Ok None) (λ e. cc) read, (refl, none, no_answer))

  -- a line that is refused
  pub refused_said : (text : List ℕ) (status : Option Status) (fault : CommandFault) → IsReadBy keyed names held (Err fault) → (fault ≡ OutOfMemory → ⊥)
      → text ≡ fault_text fault ++ codes "\n" → status ≡ None → IsReply keyed before line (record before { names = names }) text status
  refused_said text status fault read other right no_answer =
      (names, grown, Err fault, said_by (Err fault) (λ e. other (one_fault fault OutOfMemory e)) read, (refl, right, no_answer))

  -- a command
  pub command_said : (after : RunState) (text : List ℕ) (status : Option Status) (command : Command) → IsReadBy keyed names held (Ok (Some command))
      → IsDone keyed command (record before { names = names }) after text status → IsReply keyed before line after text status
  command_said after text status command read done = (names, grown, Ok (Some command), said_by (Ok (Some command)) (λ e. cc) read, done)

  pub plainly_said : (new : Present) (text : List ℕ) (status : Option Status) (command : Command) → IsReadBy keyed names held (Ok (Some command))
      → IsCommandReply names keyed command now new text status → (end : RunState) × StandsAt keyed end new names follow left × IsReply keyed before line end text status
  plainly_said new text status command read reply =
      let there = stands_there in (
        record before { present = new; names = names },
        record { present_is = refl; names_are = refl; once = there.once; sees = there.sees; keyed_is = there.keyed_is; left_is = there.left_is },
        command_said (record before { present = new; names = names }) text status command read (done_by keyed command (record before { names = names }) now new text status stands.present_is reply),
      )

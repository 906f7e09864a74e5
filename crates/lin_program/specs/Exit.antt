-- The exit statuses with which the program ends, and the words of the system that it runs on.
use Rattle.std.specs.Prelude.{ℕ, Bool, List, Result, Ok, Err, fold, nat_lt, if◌then◌else◌}
use Rattle.clap.specs.declared.error.kind.ErrorKind.{ErrorKind}
use Rattle.clap.specs.declared.error.kind.ErrorKind.TheVariants as kind
use Rattle.lin_texts.specs.declared.status.Status.{Status}
use Rattle.lin_texts.specs.declared.status.Status.TheVariants.{Yes, No, Undecided, IllFormed, Refused}
use Rattle.lin_texts.specs.declared.faults.RunFault.{RunFault}
use Rattle.lin_texts.specs.declared.faults.RunFault.TheVariants.{ReadFailed, WriteFailed, OutOfMemory, TooMuch}
use Rattle.lin_program.specs.declared.system.Message.{Message}

-- 0 for a yes, 1 for a no, 2 for undecided, 3 for ill-formed, 4 for refused input, 6 where memory or a device failed
abbrev pub exit_status : Result Status RunFault → ℕ
exit_status (Ok Yes) = 0
exit_status (Ok No) = 1
exit_status (Ok Undecided) = 2
exit_status (Ok IllFormed) = 3
exit_status (Ok Refused) = 4
exit_status (Err TooMuch) = 4
exit_status (Err ReadFailed) = 6
exit_status (Err WriteFailed) = 6
exit_status (Err OutOfMemory) = 6

-- where there is no line: 0 for help or the version that was asked for, 6 where memory ran out, else 5
abbrev pub refusal_status : ErrorKind → ℕ
refusal_status kind.DisplayHelp = 0
refusal_status kind.DisplayVersion = 0
refusal_status kind.OutOfMemory = 6
refusal_status _ = 5

-- how bad a status is: refused, ill-formed, no, undecided, yes, the worst first
abbrev pub rank : Status → ℕ
rank Yes = 0
rank Undecided = 1
rank No = 2
rank IllFormed = 3
rank Refused = 4

abbrev pub worse : Status → Status → Status
worse one other = if nat_lt (rank one) (rank other) then other else one

-- the worst of statuses; a yes where there is none
abbrev pub worst : List Status → Status
worst statuses = fold worse Yes statuses

-- The words of a system, which mean what it answers: it opened the file of that name as this one, or couldn't; that is a plain file, and it opened
-- it once more as this one; this is standard input, and runs write there; it was told the message, or that couldn't be done, and from the one
-- system it is the other then.
pub record SystemWords (S F C O : Type 0) : Type 1 where
  pub opens : S → List ℕ → F → Type 0
  pub lacks : S → List ℕ → Type 0
  pub reopens : S → List ℕ → F → Type 0
  pub reads : S → C → Type 0
  pub writes : S → O → Type 0
  pub tells : S → Message → Bool → S → Type 0

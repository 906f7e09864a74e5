-- What is right to answer of a file and an order.
use Rattle.std.specs.Prelude.{◌≡◌, ◌<◌, ◌≤◌, ◌^◌, ◌⊎◌, ℕ, Bool, true, false, List, Option, Result, Ok, Err, length, take}
use Rattle.std.specs.Io.KnownBytes.{Appends, Consumes, IsAtEnd, Keeps}
use Rattle.lin_events.specs.declared.items.Item.{Item}
use Rattle.lin_events.specs.declared.events.Event.{Event}
use Rattle.lin_objects.specs.declared.kinds.Kind.{Kind}
use Rattle.lin_objects.specs.Kinds.{functions_of}
use Rattle.lin_events.specs.declared.shapes.Shape.TheVariants.{Bad}
use Rattle.lin_events.specs.WellFormed.{IsShape, IsWellFormed}
use Rattle.lin_names.specs.Names.{AreEachOnce}
use Rattle.lin_order.specs.declared.placed.Placed.{Placed}
use Rattle.lin_order.specs.Linearizable.{IsLegalOrder}
use Rattle.lin_formats.specs.VerdictTexts.{line_of, status_of}
use Rattle.lin_formats.specs.Inputs.{AreRefused, IsWhole}
use Rattle.lin_formats.specs.Histories.{StopsFor}
use Rattle.lin_texts.specs.Orders.{order_written, IsOrderBy}
use Rattle.lin_formats.specs.declared.verdicts.Refusal.{Refusal}
use Rattle.lin_formats.specs.declared.verdicts.Refusal.TheVariants as refusal
use Rattle.lin_texts.specs.declared.status.Status.{Status}
use Rattle.lin_formats.specs.declared.verdicts.OrderVerdict.{OrderVerdict}
use Rattle.lin_formats.specs.declared.verdicts.OrderVerdict.TheVariants.{Yes, No, IllFormed, Refused}
use Rattle.lin_texts.specs.declared.faults.RunFault.{RunFault}
use Rattle.lin_texts.specs.declared.faults.RunFault.TheVariants.{ReadFailed, WriteFailed, OutOfMemory, TooMuch}
use Rattle.lin_texts.specs.declared.settings.Settings.{Settings}

-- every key has an object of this kind
abbrev pub all_of : Kind → Item → Kind
all_of kind key = kind

module _ (names : List (List ℕ)) where
  -- What is right to answer of a whole history and the text of an order: that the text is no order; else that the history
  -- isn't well-formed, with its first bad event; else whether the order is a legal order of the history.
  abbrev pub IsJudged : Kind → List Event → List ℕ → OrderVerdict → Type 0
  IsJudged kind events text Yes =
      (order : List Placed) × IsOrderBy names text order × IsWellFormed (functions_of (all_of kind)) events × IsLegalOrder (all_of kind) events order
  IsJudged kind events text No =
      (order : List Placed) × IsOrderBy names text order × IsWellFormed (functions_of (all_of kind)) events × (IsLegalOrder (all_of kind) events order → ⊥)
  IsJudged kind events text (IllFormed at cause) =
      (order : List Placed) × IsOrderBy names text order × IsShape (functions_of (all_of kind)) events (Bad at cause)
  IsJudged kind events text (Refused (refusal.BadPair at)) = order_written text ≡ Err at
  IsJudged kind events text (Refused (refusal.Edn at cause)) = ⊥
  IsJudged kind events text (Refused (refusal.Event at cause)) = ⊥
  IsJudged kind events text (Refused (refusal.Truncated at)) = ⊥
  IsJudged kind events text (Refused refusal.Full) = ⊥
  IsJudged kind events text (Refused (refusal.Few count wanted)) = ⊥

  -- What is right to answer of the bytes of a file and the text of an order, both read by these names: why the bytes are refused; or,
  -- where they are a whole history, what is right to answer of that.
  abbrev pub IsRightBy : Settings → List ℕ → List ℕ → OrderVerdict → Type 0
  IsRightBy settings bytes order verdict =
      ((refusal : Refusal) × (verdict ≡ Refused refusal) × AreRefused settings.keyed names bytes refusal)
      ⊎ ((events : List Event) × IsWhole settings.keyed names bytes events × IsJudged settings.kind events order verdict)

-- how far the file was read: to its end, but for a fault of form and too many events
abbrev pub IsReadFor : OrderVerdict → Option (List ℕ) → Type 0
IsReadFor Yes left = IsAtEnd left
IsReadFor No left = IsAtEnd left
IsReadFor (IllFormed at cause) left = IsAtEnd left
IsReadFor (Refused refusal) left = StopsFor refusal left

-- what is left of a file went from the one to the other, the bytes between are not too many, and this is right to answer of
-- them and the order, by these names
abbrev pub IsVerifiedBy : List (List ℕ) → Settings → List ℕ → Option (List ℕ) → Option (List ℕ) → OrderVerdict → Type 0
IsVerifiedBy names settings order old new verdict =
    (bytes : List ℕ) × Consumes old new bytes × (length bytes ≤ 2 ^ 40) × IsReadFor verdict new × IsRightBy names settings bytes order verdict

-- there are names, each once, by which it is
abbrev pub IsVerified : Settings → List ℕ → Option (List ℕ) → Option (List ℕ) → OrderVerdict → Type 0
IsVerified settings order old new verdict = (names : List (List ℕ)) × AreEachOnce names × IsVerifiedBy names settings order old new verdict

-- more was read than the greatest length of a file
abbrev pub IsReadTooFar : Option (List ℕ) → Option (List ℕ) → Type 0
IsReadTooFar old new = (bytes : List ℕ) × Consumes old new bytes × (2 ^ 40 < length bytes)

-- What stands after a run that ended early: after a fault of the writer a beginning of the right line is written, else
-- nothing. More was read than may be, where that is the fault.
abbrev pub IsStopped : Settings → List ℕ → Option (List ℕ) → Option (List ℕ) → Option (List ℕ) → Option (List ℕ) → RunFault → Type 0
IsStopped settings order old new before after ReadFailed = Keeps before after
IsStopped settings order old new before after OutOfMemory = Keeps before after
IsStopped settings order old new before after TooMuch =
    Keeps before after × IsReadTooFar old new
IsStopped settings order old new before after WriteFailed =
    (verdict : OrderVerdict) × IsVerified settings order old new verdict × ((n : ℕ) × Appends before after (take n (line_of verdict)))

-- What a run reads and writes, and how it ends: with the status of what is right to answer, and the line of that written; or early.
abbrev pub IsVerifyRun : Settings → List ℕ → Option (List ℕ) → Option (List ℕ) → Option (List ℕ) → Option (List ℕ) → Result Status RunFault → Type 0
IsVerifyRun settings order old new before after (Ok status) =
    (verdict : OrderVerdict) × IsVerified settings order old new verdict × Appends before after (line_of verdict) × (status ≡ status_of verdict)
IsVerifyRun settings order old new before after (Err fault) = IsStopped settings order old new before after fault

-- whether the run ended because the writer failed
abbrev pub is_write_failed : {T : Type 0} → Result T RunFault → Bool
is_write_failed (Ok x) = false
is_write_failed (Err ReadFailed) = false
is_write_failed (Err WriteFailed) = true
is_write_failed (Err OutOfMemory) = false
is_write_failed (Err TooMuch) = false

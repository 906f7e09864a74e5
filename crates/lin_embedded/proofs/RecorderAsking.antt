-- What questions make of a recorder.
use Rattle.std.proofs.Common.{ℕ, List, Result, Ok, Err}
use Rattle.std.specs.Prelude.{IfOk}
use Rattle.lin_events.specs.declared.lists.OutOfMemory.{OutOfMemory}
use Rattle.lin_answers.specs.declared.answers.Verdict.{Verdict}
use Rattle.lin_texts.specs.declared.settings.Settings.{Settings}
use Rattle.lin_embedded.specs.Recorders.{Asks, HasRead, IsOrderedOf, IsVerdictOf, Orders}
use Rattle.lin_embedded.specs.declared.recorder.Ordered.{Ordered}
use Rattle.lin_embedded.specs.declared.recorder.Recorder.{Recorder}

pub asked : (old new : Recorder) (found : Result Verdict OutOfMemory)
    → ((settings : Settings) (bytes : List ℕ) → HasRead settings old bytes → HasRead settings new bytes × IfOk found (IsVerdictOf settings new.names bytes)) → Asks old new found
asked old new (Ok verdict) reads = reads
asked old new (Err refused) reads = λ settings bytes read. (reads settings bytes read).0

pub ordered : (old new : Recorder) (found : Result Ordered OutOfMemory)
    → ((settings : Settings) (bytes : List ℕ) → HasRead settings old bytes → HasRead settings new bytes × IfOk found (IsOrderedOf settings new.names bytes)) → Orders old new found
ordered old new (Ok told) reads = reads
ordered old new (Err refused) reads = λ settings bytes read. (reads settings bytes read).0

-- A run that takes in the bytes of its commands.
use Rattle.std.proofs.Common.{◌≡◌, ◌≢◌, ◌+◌, ◌<◌, ◌≤◌, ◌^◌, IfOk, IfErr, unwrap_or, ◌∷◌, ◌++◌, [], ℕ, Bool, List, Option, None, Some, Result, Ok, Err, All, length, take, inl, inr, refl, sym, ap, subst, ◌∙◌, arith, append_assoc, append-nil, length-append}
use Rattle.std.specs.Io.KnownBytes.{Appends, Consumes, IsAtEnd, Keeps}
use Rattle.std.specs.Prelude.{IsErrAnd}
use Rattle.std.specs.Option.{option_or}
use Rattle.std.proofs.KnownBytes.{Appends-kept, Appends-trans, Consumes-nil, Consumes-trans}
use Rattle.std.proofs.Math.Seq.{take-append-add}
use Rattle.std.proofs.lemmas.List.Elements.{All-append}
use Rattle.lin_history.specs.Sees.{Followed}
use Rattle.lin_names.specs.Names.{AreEachOnce}
use Rattle.lin_report.specs.inner.Engines.{Holds, IsCarriedOut, IsCutOff, IsCutShort, IsFinished, IsUnderWay, ReadsPart}
use Rattle.lin_report.specs.Runs.{AreCarriedOut, AreRead, IsDone, IsReply, AreReplies, IsEditRun, IsLeftFor, IsSaidDone, IsWritten, RunState, SaysPull, lines_of, start_of}
use Rattle.lin_report.specs.Runs.AreReplies.{one_more}
use Rattle.lin_formats.specs.Intakes.{AreSeen}
use Rattle.lin_formats.specs.Verdicts.{IsReadTooFar}
use Rattle.lin_texts.specs.declared.status.Status.{Status}
use Rattle.lin_texts.specs.declared.status.Status.TheVariants.{Yes}
use Rattle.lin_texts.specs.declared.settings.Settings.{Settings}
use Rattle.lin_report.specs.declared.commands.Command.{Command}
use Rattle.lin_report.specs.declared.commands.Command.TheVariants.{Edit, Skipped, Ask, Order, Report, Pull, Refute, Explain, Work}
use Rattle.lin_report.specs.declared.commands.CommandFault.{CommandFault}
use Rattle.lin_report.specs.declared.runs.EditRun.{EditRun}
use Rattle.lin_texts.specs.declared.faults.RunFault.{RunFault}
use Rattle.lin_texts.specs.declared.faults.RunFault.TheVariants.{ReadFailed, WriteFailed, OutOfMemory, TooMuch}
use Rattle.lin_report.proofs.CommandLines.{last_line, line_ends}

-- what was read of the file at a line
abbrev pub Reads : RunState → RunState → Type 0
Reads before after = (part : List ℕ) × Consumes before.left after.left part × (after.bytes ≡ before.bytes ++ part)

unread : (before after : RunState) → after.left ≡ before.left → after.bytes ≡ before.bytes → Reads before after
unread before after same still =
    ([], subst (λ l. Consumes before.left l []) (sym same) (Consumes-nil before.left), still ∙ sym (append-nil before.bytes))

read_by : (keyed : Bool) (command : Command) (before after : RunState) (text : List ℕ) (status : Option Status) → IsDone keyed command before after text status → Reads before after
read_by keyed (Edit edit) before after text status done = unread before after (ap (λ (s : RunState). s.left) done.2) (ap (λ (s : RunState). s.bytes) done.2)
read_by keyed Skipped before after text status done = unread before after (ap (λ (s : RunState). s.left) done.2) (ap (λ (s : RunState). s.bytes) done.2)
read_by keyed (Ask scope) before after text status done = unread before after (ap (λ (s : RunState). s.left) done.2) (ap (λ (s : RunState). s.bytes) done.2)
read_by keyed (Order scope) before after text status done = unread before after (ap (λ (s : RunState). s.left) done.2) (ap (λ (s : RunState). s.bytes) done.2)
read_by keyed Report before after text status done = unread before after (ap (λ (s : RunState). s.left) done.2) (ap (λ (s : RunState). s.bytes) done.2)
read_by keyed (Refute key) before after text status done = unread before after (ap (λ (s : RunState). s.left) done.2) (ap (λ (s : RunState). s.bytes) done.2)
read_by keyed (Explain scope) before after text status done = unread before after (ap (λ (s : RunState). s.left) done.2) (ap (λ (s : RunState). s.bytes) done.2)
read_by keyed Work before after text status done = unread before after (ap (λ (s : RunState). s.left) done.2) (ap (λ (s : RunState). s.bytes) done.2)
read_by keyed Pull before after text status done = (done.1.part, done.1.reads, done.1.bytes)

read_at : (keyed : Bool) (said : Result (Option Command) CommandFault) (before after : RunState) (text : List ℕ) (status : Option Status) → IsSaidDone keyed said before after text status
    → Reads before after
read_at keyed (Ok None) before after text status done = unread before after (ap (λ (s : RunState). s.left) done.0) (ap (λ (s : RunState). s.bytes) done.0)
read_at keyed (Ok (Some command)) before after text status done = read_by keyed command before after text status done
read_at keyed (Err fault) before after text status done = unread before after (ap (λ (s : RunState). s.left) done.0) (ap (λ (s : RunState). s.bytes) done.0)

pub file_part : (keyed : Bool) (before : RunState) (line : List ℕ) (after : RunState) (text : List ℕ) (status : Option Status) → IsReply keyed before line after text status → Reads before after
file_part keyed before line after text status replies = read_at keyed replies.2 (record before { names = replies.0 }) after text status replies.4

other_fault : WriteFailed ≡ TooMuch → ⊥
other_fault e = cc

no_such : OutOfMemory ≡ TooMuch → ⊥
no_such e = cc

keeps_itself : (device : Option (List ℕ)) → Keeps device device
keeps_itself None = tt
keeps_itself (Some bytes) = refl

-- nothing is written where the writer didn't fail
pub cut_unwritten : (keyed : Bool) (names names' : List (List ℕ)) (follow : Followed) (file file' out : Option (List ℕ)) (before : RunState) (line : List ℕ) (fault : RunFault)
    → (fault ≡ WriteFailed → ⊥) → (fault ≡ ReadFailed → SaysPull keyed line) → ReadsPart names names' follow file file' (fault ≡ TooMuch) → IsCutShort keyed names names' follow file file' out out before line fault
cut_unwritten keyed names names' follow file file' out before line ReadFailed other pulls reads = (reads, keeps_itself out, pulls)
cut_unwritten keyed names names' follow file file' out before line WriteFailed other pulls reads = absurd (other refl)
cut_unwritten keyed names names' follow file file' out before line OutOfMemory other pulls reads = (reads, keeps_itself out, pulls)
cut_unwritten keyed names names' follow file file' out before line TooMuch other pulls reads = (reads, keeps_itself out, pulls)

module _ (keyed : Bool) (start : RunState) (before : Option (List ℕ)) where
  -- some bytes of a line are held
  pub held_more : (old new : EditRun) (left after : Option (List ℕ)) (bytes more : List ℕ) → new ≡ record old { held = new.held }
      → ((line : List ℕ) → Holds old line → Holds new (line ++ more)) → All (λ c. c ≢ 10) more
      → IsUnderWay keyed start before old left after bytes → IsUnderWay keyed start before new left after (bytes ++ more)
  held_more old new left after bytes more same holds none so_far = record {
    lines = so_far.lines;
    state = so_far.state;
    text = so_far.text;
    rest = so_far.rest ++ more;
    run = subst (AreReplies keyed start so_far.lines so_far.state so_far.text) (sym (ap (λ (e : EditRun). e.status) same)) so_far.run;
    stands = record {
      present_is = ap (λ (e : EditRun). e.session.present) same ∙ so_far.stands.present_is;
      names_are = ap (λ (e : EditRun). e.names) same ∙ so_far.stands.names_are;
      once = subst (λ (e : EditRun). AreEachOnce e.names) (sym same) so_far.stands.once;
      sees = subst (λ (e : EditRun). AreSeen e.names e.follow so_far.state.bytes so_far.state.put) (sym same) so_far.stands.sees;
      keyed_is = ap (λ (e : EditRun). e.follow.keyed) same ∙ so_far.stands.keyed_is;
      left_is = so_far.stands.left_is;
    };
    consumed = so_far.consumed;
    written = so_far.written;
    begins = λ others. ap lines_of (append_assoc bytes more others) ∙ so_far.begins (more ++ others) ∙ ap (λ r. so_far.lines ++ lines_of r) (sym (append_assoc so_far.rest more others));
    unended = All-append (λ c. c ≢ 10) so_far.rest more so_far.unended none;
    holds = holds so_far.rest so_far.holds;
  }

  -- the line that was held ended, and is carried out
  pub line_done : (old new : EditRun) (left left' after after' : Option (List ℕ)) (bytes : List ℕ) (so_far : IsUnderWay keyed start before old left after bytes)
      → IsCarriedOut keyed old new left left' after after' so_far.state so_far.rest → IsUnderWay keyed start before new left' after' (bytes ++ 10 ∷ [])
  line_done old new left left' after after' bytes so_far done =
      let part = file_part keyed so_far.state so_far.rest done.after done.reply done.answer done.replies in
      record {
        lines = so_far.lines ++ so_far.rest ∷ [];
        state = done.after;
        text = so_far.text ++ done.reply;
        rest = [];
        run = subst (AreReplies keyed start (so_far.lines ++ so_far.rest ∷ []) done.after (so_far.text ++ done.reply)) (sym done.status)
            (one_more so_far.run so_far.rest done.after done.reply done.answer done.replies);
        stands = done.stands;
        consumed = subst (λ l. Consumes start.left l done.after.bytes) (sym done.stands.left_is)
            (subst (Consumes start.left done.after.left) (sym part.2)
            (Consumes-trans start.left so_far.state.left done.after.left so_far.state.bytes part.0
            (subst (λ l. Consumes start.left l so_far.state.bytes) so_far.stands.left_is so_far.consumed) part.1));
        written = Appends-trans before after after' so_far.text done.reply so_far.written done.written;
        begins = λ others. ap lines_of (append_assoc bytes (10 ∷ []) others) ∙ so_far.begins (10 ∷ others)
            ∙ ap (λ ls. so_far.lines ++ ls) (line_ends so_far.rest others so_far.unended) ∙ sym (append_assoc so_far.lines (so_far.rest ∷ []) (lines_of others));
        unended = λ k d none. absurd (omega arith);
        holds = done.emptied;
      }

  -- the lines that were carried out before
  lines_before : (engine : EditRun) (names : List (List ℕ)) (left left' after after' : Option (List ℕ)) (bytes : List ℕ) (is : Type 0)
      (so_far : IsUnderWay keyed start before engine left after bytes) → ReadsPart engine.names names engine.follow left left' is → Keeps after after'
      → AreCarriedOut keyed start so_far.lines left' (Appends before after')
  lines_before engine names left left' after after' bytes is so_far reads keeps = (
    so_far.state,
    so_far.text,
    engine.status,
    so_far.run,
    (reads.1, subst (λ l. Consumes l left' reads.1) so_far.stands.left_is reads.2),
    Appends-kept before after after' so_far.text so_far.written keeps,
  )

  -- too much was read of the file
  too_far : (engine : EditRun) (names : List (List ℕ)) (left left' after : Option (List ℕ)) (bytes : List ℕ) (is : Type 0)
      (so_far : IsUnderWay keyed start before engine left after bytes) → ReadsPart engine.names names engine.follow left left' is → is → IsReadTooFar start.left left'
  too_far engine names left left' after bytes is so_far reads too_much =
      let size = length-append so_far.state.bytes reads.1 in
      let large = reads.3 too_much so_far.state.bytes so_far.state.put so_far.stands.sees in
      (so_far.state.bytes ++ reads.1, Consumes-trans start.left left left' so_far.state.bytes reads.1 so_far.consumed reads.2, omega arith)

  -- these lines and the one that is held were carried out, and a beginning of the last reply is written
  lines_with : (engine : EditRun) (names : List (List ℕ)) (left left' after after' : Option (List ℕ)) (bytes : List ℕ) (so_far : IsUnderWay keyed start before engine left after bytes)
      → IsCutShort keyed engine.names names engine.follow left left' after after' so_far.state so_far.rest WriteFailed
      → AreCarriedOut keyed start (so_far.lines ++ so_far.rest ∷ []) left' (IsWritten WriteFailed before after')
  lines_with engine names left left' after after' bytes so_far cut = (
    cut.0,
    so_far.text ++ cut.1,
    option_or cut.2 engine.status,
    one_more so_far.run so_far.rest cut.0 cut.1 cut.2 cut.3,
    ([], subst (λ l. Consumes cut.0.left l []) (sym cut.4) (Consumes-nil cut.0.left)),
    (
      length so_far.text + cut.5.0,
      subst (Appends before after') (sym (take-append-add so_far.text cut.1 cut.5.0))
          (Appends-trans before after after' so_far.text (take cut.5.0 cut.1) so_far.written cut.5.1),
    ),
  )

  -- the lines before the one that is held are whole
  begun : (engine : EditRun) (left after cleft : Option (List ℕ)) (bytes others : List ℕ) (so_far : IsUnderWay keyed start before engine left after bytes)
      → (fault : RunFault) → IsLeftFor keyed fault (so_far.rest ++ others) → AreRead keyed fault (bytes ++ others) cleft so_far.lines
  begun engine left after cleft bytes others so_far fault leaves =
      inl (
        so_far.rest ++ others,
        λ more. ap lines_of (append_assoc bytes others more) ∙ so_far.begins (others ++ more)
            ∙ ap (λ r. so_far.lines ++ lines_of r) (sym (append_assoc so_far.rest others more)),
        leaves,
      )

  -- and that one is, where it ended
  begun_with : (engine : EditRun) (left after cleft : Option (List ℕ)) (bytes others : List ℕ) (so_far : IsUnderWay keyed start before engine left after bytes)
      → AreRead keyed WriteFailed (bytes ++ 10 ∷ others) cleft (so_far.lines ++ so_far.rest ∷ [])
  begun_with engine left after cleft bytes others so_far =
      inl (
        others,
        λ more. ap lines_of (append_assoc bytes (10 ∷ others) more) ∙ so_far.begins (10 ∷ (others ++ more))
            ∙ ap (λ ls. so_far.lines ++ ls) (line_ends so_far.rest (others ++ more) so_far.unended) ∙ sym (append_assoc so_far.lines (so_far.rest ∷ []) (lines_of (others ++ more))),
        tt,
      )

  -- a fault came at the line that was held, or at the one behind it
  pub cut_within : (engine : EditRun) (names : List (List ℕ)) (left left' after after' cleft : Option (List ℕ)) (bytes others : List ℕ) (so_far : IsUnderWay keyed start before engine left after bytes)
      → (fault : RunFault) → IsCutShort keyed engine.names names engine.follow left left' after after' so_far.state so_far.rest fault
      → IsCutOff keyed start before left' after' cleft (bytes ++ 10 ∷ others) fault
  cut_within engine names left left' after after' cleft bytes others so_far ReadFailed cut =
      ((so_far.lines, begun engine left after cleft bytes (10 ∷ others) so_far ReadFailed (inr (record { line = so_far.rest; behind = others; stands = refl; unended = so_far.unended; says = cut.2 refl })), lines_before engine names left left' after after' bytes _ so_far cut.0 cut.1), too_far engine names left left' after bytes _ so_far cut.0)
  cut_within engine names left left' after after' cleft bytes others so_far OutOfMemory cut =
      ((so_far.lines, begun engine left after cleft bytes (10 ∷ others) so_far OutOfMemory tt, lines_before engine names left left' after after' bytes _ so_far cut.0 cut.1), too_far engine names left left' after bytes _ so_far cut.0)
  cut_within engine names left left' after after' cleft bytes others so_far TooMuch cut =
      ((so_far.lines, begun engine left after cleft bytes (10 ∷ others) so_far TooMuch tt, lines_before engine names left left' after after' bytes _ so_far cut.0 cut.1), too_far engine names left left' after bytes _ so_far cut.0)
  cut_within engine names left left' after after' cleft bytes others so_far WriteFailed cut =
      ((so_far.lines ++ so_far.rest ∷ [], begun_with engine left after cleft bytes others so_far, lines_with engine names left left' after after' bytes so_far cut), λ e. absurd (other_fault e))

  -- memory was refused for a line
  pub cut_holding : (engine : EditRun) (left after cleft : Option (List ℕ)) (bytes others : List ℕ) → IsUnderWay keyed start before engine left after bytes
      → IsCutOff keyed start before left after cleft (bytes ++ others) OutOfMemory
  cut_holding engine left after cleft bytes others so_far = (
    (
      so_far.lines,
      begun engine left after cleft bytes others so_far OutOfMemory tt,
      (so_far.state, so_far.text, engine.status, so_far.run, ([], subst (λ l. Consumes l left []) so_far.stands.left_is (Consumes-nil left)), so_far.written),
    ),
    λ e. absurd (no_such e),
  )

  -- the lines are all, where the bytes end
  all_lines : (engine : EditRun) (left after : Option (List ℕ)) (bytes : List ℕ) (so_far : IsUnderWay keyed start before engine left after bytes)
      → lines_of bytes ≡ so_far.lines ++ lines_of so_far.rest
  all_lines engine left after bytes so_far =
      ap lines_of (sym (append-nil bytes)) ∙ so_far.begins [] ∙ ap (λ r. so_far.lines ++ lines_of r) (append-nil so_far.rest)

  -- the run ends where nothing is held
  pub finished : (engine : EditRun) (left after : Option (List ℕ)) (bytes : List ℕ) (status : Status) (so_far : IsUnderWay keyed start before engine left after bytes)
      → so_far.rest ≡ [] → status ≡ unwrap_or engine.status Yes → IsFinished keyed start before left after bytes status
  finished engine left after bytes status so_far none is =
      let all : lines_of bytes ≡ so_far.lines = all_lines engine left after bytes so_far ∙ ap (λ r. so_far.lines ++ lines_of r) none ∙ append-nil so_far.lines in (
        so_far.state,
        so_far.text,
        engine.status,
        subst (λ ls. AreReplies keyed start ls so_far.state so_far.text engine.status) (sym all) so_far.run,
        so_far.stands.left_is,
        so_far.written,
        is,
      )

  -- the last line
  with_last : (engine : EditRun) (left after : Option (List ℕ)) (bytes : List ℕ) (so_far : IsUnderWay keyed start before engine left after bytes) → 0 < length so_far.rest
      → lines_of bytes ≡ so_far.lines ++ so_far.rest ∷ []
  with_last engine left after bytes so_far some =
      all_lines engine left after bytes so_far ∙ ap (λ ls. so_far.lines ++ ls) (last_line so_far.rest some so_far.unended)

  -- or where the last line is carried out
  pub finished_with : (old new : EditRun) (left left' after after' : Option (List ℕ)) (bytes : List ℕ) (status : Status) (so_far : IsUnderWay keyed start before old left after bytes)
      → 0 < length so_far.rest → IsCarriedOut keyed old new left left' after after' so_far.state so_far.rest → status ≡ unwrap_or new.status Yes
      → IsFinished keyed start before left' after' bytes status
  finished_with old new left left' after after' bytes status so_far some done is =
      let last = option_or done.answer old.status in (
        done.after,
        so_far.text ++ done.reply,
        last,
        subst (λ ls. AreReplies keyed start ls done.after (so_far.text ++ done.reply) last) (sym (with_last old left after bytes so_far some))
            (one_more so_far.run so_far.rest done.after done.reply done.answer done.replies),
        done.stands.left_is,
        Appends-trans before after after' so_far.text done.reply so_far.written done.written,
        is ∙ ap (λ s. unwrap_or s Yes) done.status,
      )

  -- a fault came at the last line
  pub cut_at_end : (engine : EditRun) (names : List (List ℕ)) (left left' after after' behind : Option (List ℕ)) (bytes : List ℕ) (so_far : IsUnderWay keyed start before engine left after bytes)
      → 0 < length so_far.rest → IsAtEnd behind → (fault : RunFault) → IsCutShort keyed engine.names names engine.follow left left' after after' so_far.state so_far.rest fault
      → IsCutOff keyed start before left' after' behind bytes fault
  cut_at_end engine names left left' after after' behind bytes so_far some end ReadFailed cut =
      ((so_far.lines, inl (so_far.rest, so_far.begins, inl so_far.unended), lines_before engine names left left' after after' bytes _ so_far cut.0 cut.1), too_far engine names left left' after bytes _ so_far cut.0)
  cut_at_end engine names left left' after after' behind bytes so_far some end OutOfMemory cut =
      ((so_far.lines, inl (so_far.rest, so_far.begins, tt), lines_before engine names left left' after after' bytes _ so_far cut.0 cut.1), too_far engine names left left' after bytes _ so_far cut.0)
  cut_at_end engine names left left' after after' behind bytes so_far some end TooMuch cut =
      ((so_far.lines, inl (so_far.rest, so_far.begins, tt), lines_before engine names left left' after after' bytes _ so_far cut.0 cut.1), too_far engine names left left' after bytes _ so_far cut.0)
  cut_at_end engine names left left' after after' behind bytes so_far some end WriteFailed cut =
      ((so_far.lines ++ so_far.rest ∷ [], inr (end, with_last engine left after bytes so_far some), lines_with engine names left left' after after' bytes so_far cut), λ e. absurd (other_fault e))

  -- nothing more comes
  unended_with_none : (rest : List ℕ) → All (λ c. c ≢ 10) rest → All (λ c. c ≢ 10) (rest ++ [])
  unended_with_none rest none = subst (All (λ c. c ≢ 10)) (sym (append-nil rest)) none

  -- the reader of commands failed behind the bytes
  pub unread_further : (engine : EditRun) (left after behind : Option (List ℕ)) (bytes : List ℕ) → IsUnderWay keyed start before engine left after bytes
      → (lines : List (List ℕ)) × AreRead keyed ReadFailed (bytes ++ []) behind lines × AreCarriedOut keyed start lines left (Appends before after)
  unread_further engine left after behind bytes so_far = (
    so_far.lines,
    begun engine left after behind bytes [] so_far ReadFailed (inl (unended_with_none so_far.rest so_far.unended)),
    (so_far.state, so_far.text, engine.status, so_far.run, ([], subst (λ l. Consumes l left []) so_far.stands.left_is (Consumes-nil left)), so_far.written),
  )

  -- the bytes are too many
  pub stopped : (engine : EditRun) (left after behind : Option (List ℕ)) (bytes others : List ℕ) → IsUnderWay keyed start before engine left after bytes
      → (lines : List (List ℕ)) × AreRead keyed TooMuch (bytes ++ others) behind lines × AreCarriedOut keyed start lines left (Appends before after)
  stopped engine left after behind bytes others so_far = (
    so_far.lines,
    begun engine left after behind bytes others so_far TooMuch tt,
    (so_far.state, so_far.text, engine.status, so_far.run, ([], subst (λ l. Consumes l left []) so_far.stands.left_is (Consumes-nil left)), so_far.written),
  )

-- how a run ends at the end of its commands
pub run_ends : (settings : Settings) (engine : EditRun) (file left file' commands commands' out after out' : Option (List ℕ)) (bytes : List ℕ) (r : Result Status RunFault)
    → Consumes commands commands' bytes → IsAtEnd commands' → length bytes ≤ 2 ^ 40 → IsUnderWay settings.keyed (start_of settings file) out engine left after bytes
    → IfOk r (λ status. (start : RunState) (before : Option (List ℕ)) (bs : List ℕ) → IsUnderWay settings.keyed start before engine left after bs → IsFinished settings.keyed start before file' out' bs status)
    → IfErr r (λ fault. (start : RunState) (before behind : Option (List ℕ)) (bs : List ℕ) → IsAtEnd behind → IsUnderWay settings.keyed start before engine left after bs
    → IsCutOff settings.keyed start before file' out' behind bs fault)
    → IsEditRun settings file file' commands commands' out out' r
run_ends settings engine file left file' commands commands' out after out' bytes (Ok status) consumed end within so_far done cut =
    let d = done (start_of settings file) out bytes so_far in
    (bytes, consumed, end, within, d.0, d.1, d.2, d.3, d.4, d.5, d.6)
run_ends settings engine file left file' commands commands' out after out' bytes (Err fault) consumed end within so_far done cut =
    let k = cut (start_of settings file) out commands' bytes end so_far in
    ((bytes, consumed, k.0.0, k.0.1, k.0.2), λ e. inl (k.1 e))

-- how it ends early, by a fault that is passed on
pub run_cut : (settings : Settings) (file file' commands commands' out out' : Option (List ℕ)) (bytes : List ℕ) (r : Result Status RunFault) (fault : RunFault)
    → IsErrAnd r (λ f. f ≡ fault) → Consumes commands commands' bytes → IsCutOff settings.keyed (start_of settings file) out file' out' commands' bytes fault
    → IsEditRun settings file file' commands commands' out out' r
run_cut settings file file' commands commands' out out' bytes (Ok status) fault same consumed cut = elim same [ ]
run_cut settings file file' commands commands' out out' bytes (Err f) fault same consumed cut =
    let k = subst (IsCutOff settings.keyed (start_of settings file) out file' out' commands' bytes) (sym same) cut in
    ((bytes, consumed, k.0.0, k.0.1, k.0.2), λ e. inl (k.1 e))

pub not_too_much : ReadFailed ≡ TooMuch → ⊥
not_too_much e = cc

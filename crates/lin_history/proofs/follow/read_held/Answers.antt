use Rattle.std.proofs.Common.{◌≡◌, List, ℕ, ◌++◌, drop, sym, ◌∙◌, subst, arith}
use Rattle.std.proofs.lemmas.Result.{IfOk-weaker}
use Rattle.lin_edn.specs.Rows.{IsRow}
use Rattle.lin_history.specs.Reading.{Reading, IsReading}
use Rattle.lin_history.specs.Rests.{IsBegun, IsOpen, IsWaiting, Knows}
use Rattle.lin_history.specs.inner.Rests.{GoesOn, IsReadHeld}
use Rattle.lin_history.specs.declared.follow.Read.{Read}
use Rattle.lin_history.proofs.Resting.{held_goes_on}
use Rattle.lin_history.specs.inner.Passing.{gathered}
use Rattle.lin_history.proofs.follow.read_held.Goals as goal

pub read_in-requires-clause-open : goal.read_in-requires-clause-open
read_in-requires-clause-open c =
    let known = c.requires.known in
    let row = subst (λ o. IsBegun o known.0) (sym c.in-Some.ensures.value) known.2.1 in
    (row.0, subst (λ (l : List ℕ). IsRow c.in-Some.row.series l row.0) (sym known.1) (c.more_bytes.ensures.row c.in-Some.row.series known.0 c.args.piece.now row.0 row.1))

pub returns-in-Some-clause-read : goal.returns-in-Some-clause-read
returns-in-Some-clause-read c =
    let held = c.args.held.now in
    let piece = c.args.piece.now in
    let reads : Reading → Read → Type 0 = λ m r. IsReadHeld m held c.args.passed (gathered c.args.ready.now) (gathered c.read_in.new.ready) c.read_in.new.rest.row r in
    IfOk-weaker c.read_in.result (λ r. (m : Reading) → IsReading c.args.keyed c.read_in.new.names m → IsOpen m c.in-Some.row held → reads m r)
    (λ r. (m : Reading) → IsReading c.args.keyed c.read_in.new.names m → (text : List ℕ) → held ≡ text ++ piece → IsWaiting m c.args.rest.now.row text → reads m r)
    (λ r read m is text whole waits.
    let row = subst (λ o. IsWaiting m o text) (sym c.in-Some.ensures.value) waits in
    read m is (row.0, subst (λ (l : List ℕ). IsRow c.in-Some.row.series l row.0) (sym whole) (c.more_bytes.ensures.row c.in-Some.row.series text piece row.0 row.1), row.2, row.3))
    c.read_in.ensures.read

pub read_anew-requires-clause-unaware : goal.read_anew-requires-clause-unaware
read_anew-requires-clause-unaware c =
    let known = c.requires.known in (
      subst (λ b. GoesOn c.go_on.new.rest (known.0 ++ c.args.piece.now) b) c.if-not-go_on.true (c.go_on.ensures.seen known.0 known.2.0),
      c.go_on.ensures.row ∙ c.take.ensures.after,
    )

pub resting-read-requires : goal.resting-read-requires
resting-read-requires c =
    let known = c.requires.known in
    held_goes_on c.go_on.new.rest known.0 c.args.piece.now c.args.held.now c.go_on.result known.1 c.if-not-go_on.false (c.go_on.ensures.seen known.0 known.2.0)

pub returns-then-piece-held-clause-held : goal.returns-then-piece-held-clause-held
returns-then-piece-held-clause-held c =
    let known = c.requires.known in
    let goes = held_goes_on c.go_on.new.rest known.0 c.args.piece.now c.args.held.now c.go_on.result known.1 c.if-not-go_on.false (c.go_on.ensures.seen known.0 known.2.0) in (
      (rw c.resting-read.ensures.used (omega arith)),
      subst (λ n. Knows (record { means = c.go_on.new.rest.means; skim = c.go_on.new.rest.skim; is_seen = c.go_on.new.rest.is_seen; row = c.begin_row.result }) (drop n c.args.held.now))
          (sym c.resting-read.ensures.used) (λ e. goes.1, c.begin_row.ensures.begun),
    )

pub returns-then-piece-held-clause-read : goal.returns-then-piece-held-clause-read
returns-then-piece-held-clause-read c = λ m is text whole waits. (
  c.resting-read.ensures.read m (gathered c.args.ready.now),
  subst (λ n. IsWaiting m c.begin_row.result (drop n c.args.held.now)) (sym c.resting-read.ensures.used) (c.begin_row.ensures.waits m),
)

pub returns-else-piece-held-clause-held : goal.returns-else-piece-held-clause-held
returns-else-piece-held-clause-held c =
    let known = c.requires.known in
    let goes = held_goes_on c.go_on.new.rest known.0 c.args.piece.now c.args.held.now c.go_on.result known.1 c.if-not-go_on.false (c.go_on.ensures.seen known.0 known.2.0) in (
      (rw c.resting-read.ensures.used (omega arith)),
      subst (λ n. Knows c.go_on.new.rest (drop n c.args.held.now)) (sym c.resting-read.ensures.used)
          (λ e. goes.1, subst (λ o. IsBegun o c.args.held.now) (sym (c.go_on.ensures.row ∙ c.take.ensures.after)) tt),
    )

pub returns-else-piece-held-clause-read : goal.returns-else-piece-held-clause-read
returns-else-piece-held-clause-read c = λ m is text whole waits. (
  c.resting-read.ensures.read m (gathered c.args.ready.now),
  subst (λ n. IsWaiting m c.go_on.new.rest.row (drop n c.args.held.now)) (sym c.resting-read.ensures.used)
      (subst (λ o. IsWaiting m o c.args.held.now) (sym (c.go_on.ensures.row ∙ c.take.ensures.after)) tt),
)

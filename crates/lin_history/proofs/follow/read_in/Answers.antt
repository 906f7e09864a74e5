use Rattle.std.proofs.Common.{List, ℕ, Some, drop, sym, subst, arith}
use Rattle.lin_names.specs.lemmas.Begins.{begins_on}
use Rattle.lin_history.specs.Rests.{IsBegun, IsWaiting, Knows}
use Rattle.lin_history.proofs.Reading.{rest_is, reading_before}
use Rattle.lin_history.specs.inner.Passing.{gathered}
use Rattle.lin_history.proofs.follow.read_in.Goals as goal

pub close-requires-clause-whole : goal.close-requires-clause-whole
close-requires-clause-whole c = rw c.in-Closed.is at c.in_ok-used.ensures.row

pub resting-read-requires : goal.resting-read-requires
resting-read-requires c =
    let row = rw c.in-Open.is at c.in_ok-used.ensures.row in
    (c.if-not-rest.false, c.go_on_in-rest.ensures.seen c.if-not-rest.false row.0 row.1)

pub returns-in_ok-read-in-Closed-clause-begun : goal.returns-in_ok-read-in-Closed-clause-begun
returns-in_ok-read-in-Closed-clause-begun c =
    begins_on c.args.names.now c.read_maps.new.names c.close.new.names c.in_ok-used.ensures.begun c.in_ok-read-in-Closed.ensures.begun

pub returns-in_ok-read-in-Closed-clause-held : goal.returns-in_ok-read-in-Closed-clause-held
returns-in_ok-read-in-Closed-clause-held c = (
  c.in_ok-read-in-Closed.ensures.within,
  subst (λ (l : List ℕ). Knows c.look_at.new.rest l) (rest_is c.args.held.now c.in_ok-read-in-Closed.read.used) c.look_at.ensures.known,
)

pub returns-in_ok-read-in-Closed-clause-read : goal.returns-in_ok-read-in-Closed-clause-read
returns-in_ok-read-in-Closed-clause-read c = λ m is opens.
    let before = reading_before c.args.keyed c.read_maps.new.names c.close.new.names m c.in_ok-read-in-Closed.ensures.begun is in
    let whole = rw c.in-Closed.is at (c.in_ok-used.ensures.told m before opens) in (
      c.in_ok-read-in-Closed.ensures.read m is whole,
      subst (λ (l : List ℕ). IsWaiting m c.look_at.new.rest.row l) (rest_is c.args.held.now c.in_ok-read-in-Closed.read.used) (c.look_at.ensures.waits m),
    )

pub returns-then-more-clause-held : goal.returns-then-more-clause-held
returns-then-more-clause-held c =
    let row = rw c.in-Open.is at c.in_ok-used.ensures.row in (
      (rw c.resting-read.ensures.used (omega arith)),
      subst (λ n. Knows (record { means = c.read_maps.new.means; skim = c.go_on_in-rest.new.self; is_seen = c.go_on_in-rest.result; row = Some c.read_maps.new.row }) (drop n c.args.held.now))
          (sym c.resting-read.ensures.used) (λ e. c.go_on_in-rest.ensures.seen e row.0 row.1, row),
    )

pub returns-then-more-clause-read : goal.returns-then-more-clause-read
returns-then-more-clause-read c = λ m is opens.
    let row = rw c.in-Open.is at (c.in_ok-used.ensures.told m is opens) in (
      c.resting-read.ensures.read m (gathered c.args.ready.now),
      subst (λ n. IsWaiting m (Some c.read_maps.new.row) (drop n c.args.held.now)) (sym c.resting-read.ensures.used) row,
    )

pub returns-else-more-clause-held : goal.returns-else-more-clause-held
returns-else-more-clause-held c =
    let row = rw c.in-Open.is at c.in_ok-used.ensures.row in (
      (rw c.resting-read.ensures.used (omega arith)),
      subst (λ n. Knows (record { means = c.read_maps.new.means; skim = c.go_on_in-rest.new.self; is_seen = c.go_on_in-rest.result; row = c.args.rest.now.row }) (drop n c.args.held.now))
          (sym c.resting-read.ensures.used)
          (λ e. c.go_on_in-rest.ensures.seen e row.0 row.1, subst (λ o. IsBegun o c.args.held.now) (sym c.requires.row) tt),
    )

pub returns-else-more-clause-read : goal.returns-else-more-clause-read
returns-else-more-clause-read c = λ m is opens. (
  c.resting-read.ensures.read m (gathered c.args.ready.now),
  subst (λ n. IsWaiting m c.args.rest.now.row (drop n c.args.held.now)) (sym c.resting-read.ensures.used)
      (subst (λ o. IsWaiting m o c.args.held.now) (sym c.requires.row) tt),
)

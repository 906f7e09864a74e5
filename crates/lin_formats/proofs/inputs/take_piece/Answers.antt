use Rattle.std.proofs.Common.{◌++◌, Err, MatchBool, ap, subst, sym}
use Rattle.lin_formats.specs.Inputs.{IsTooMany}
use Rattle.lin_formats.specs.Intakes.{IsFed}
use Rattle.lin_formats.proofs.Taking.{piece_told, refusal_stops}
use Rattle.lin_formats.proofs.inputs.take_piece.Goals as goal

pub returns-in_err-refusal-clause-too_much : goal.returns-in_err-refusal-clause-too_much
returns-in_err-refusal-clause-too_much c = λ e bytes fed.
    let same = rw e at c.from_residual.ensures.1 in
    c.in_err-refusal.ensures.too_much (ap Err (sym same)) bytes c.args.events.now.items fed.sees

pub returns-then-not-branch-clause-taken : goal.returns-then-not-branch-clause-taken
returns-then-not-branch-clause-taken c = λ bytes fed.
    let follow = c.take_ready.new.follow in
    let names = c.feed_piece.new.names in
    let text = bytes ++ c.args.piece.now in
    subst (λ b. MatchBool b (IsFed names follow text c.take_ready.new.events.items) (IsTooMany follow.keyed names text)) c.if-not-branch.true
    (c.in_ok-take_ready.ensures.all names text (c.in_ok-refusal.ensures.fed.seen bytes c.args.events.now.items fed.sees))

pub returns-then-not-branch-clause-within : goal.returns-then-not-branch-clause-within
returns-then-not-branch-clause-within c = λ bytes fed. c.in_ok-refusal.ensures.fed.fits bytes c.args.events.now.items fed.sees

pub returns-clause-taken : goal.returns-clause-taken
returns-clause-taken c = λ bytes fed.
    let follow = c.take_ready.new.follow in
    let names = c.feed_piece.new.names in
    let text = bytes ++ c.args.piece.now in
    piece_told names follow text c.take_ready.new.events.items c.in_ok-refusal.refusal c.feed_piece.new.follow.outcome
    (subst (λ b. MatchBool b (IsFed names follow text c.take_ready.new.events.items) (IsTooMany follow.keyed names text)) c.if-not-branch.false
    (c.in_ok-take_ready.ensures.all names text (c.in_ok-refusal.ensures.fed.seen bytes c.args.events.now.items fed.sees)))
    c.in_ok-take_ready.ensures.outcome c.in_ok-refusal.ensures.fed.ends

pub returns-clause-within : goal.returns-clause-within
returns-clause-within c = λ bytes fed. c.in_ok-refusal.ensures.fed.fits bytes c.args.events.now.items fed.sees

pub returns-clause-stops : goal.returns-clause-stops
returns-clause-stops c = refusal_stops c.in_ok-refusal.refusal c.feed_piece.new.follow.outcome c.in_ok-refusal.ensures.fed.ends

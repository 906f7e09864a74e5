use Rattle.std.proofs.Common.{inl, inr, subst}
use Rattle.lin_report.specs.AskedKeys.{HasEvents, IsAbsence}
use Rattle.lin_report.proofs.Keys.{key_on}
use Rattle.lin_report.proofs.drawing.find.Goals as goal

pub returns-in-Some-clause-found : goal.returns-in-Some-clause-found
returns-in-Some-clause-found g c =
    let read = rw c.in-Whole.is at c.in_ok-history.ensures.read in
    let key = key_on c.item_of.new.names c.read_placed.new.names c.args.key c.in_ok-key.key c.read_placed.ensures.begun c.in_ok-key.ensures.key in
    let told = subst (λ events. IsAbsence c.read_placed.new.names events c.in_ok-key.key c.in-Some.words.items) c.deref.ensures.value (rw c.in-Some.is at c.in_ok-words-in-Whole.ensures) in
    (read.0, read.1, read.2, (c.read_placed.new.names, c.names_are_apart.ensures, c.in-Whole.events.items, read.4, read.3, c.in_ok-key.key, key, told))

pub returns-in-Whole-clause-found : goal.returns-in-Whole-clause-found
returns-in-Whole-clause-found g c =
    let read = rw c.in-Whole.is at c.in_ok-history.ensures.read in
    let key = key_on c.item_of.new.names c.read_placed.new.names c.args.key c.in_ok-key.key c.read_placed.ensures.begun c.in_ok-key.ensures.key in
    let there = subst (λ events. HasEvents events c.in_ok-key.key) c.deref.ensures.value (rw c.in_default.is at c.in_ok-words-in-Whole.ensures) in (
      read.0,
      read.1,
      read.2,
      (c.read_placed.new.names, c.names_are_apart.ensures, inr (c.in-Whole.events.items, read.4, read.3, c.in_ok-key.key, key, there, c.in_ok-drawn-in-Whole.ensures)),
    )

pub returns-clause-found : goal.returns-clause-found
returns-clause-found g c =
    let read = rw c.in-Refused.is at c.in_ok-history.ensures.read in
    let line = c.in_ok-told-in-Refused.ensures in
    (read.0, read.1, read.2, (c.read_placed.new.names, c.names_are_apart.ensures, inl (c.in-Refused.refusal, read.4, read.3, line.0, line.1)))

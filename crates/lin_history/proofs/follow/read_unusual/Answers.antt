use Rattle.std.proofs.Common.{List, ℕ}
use Rattle.std.proofs.lemmas.Result.{IfOk-weaker}
use Rattle.lin_history.specs.Reading.{Reading, IsReading}
use Rattle.lin_history.specs.inner.Reads.{IsFront, IsWithin}
use Rattle.lin_history.specs.inner.Rests.{IsWhole, IsWholeRow}
use Rattle.lin_history.specs.inner.Passing.{gathered}
use Rattle.lin_history.proofs.follow.read_unusual.Goals as goal

pub returns-in-Some-clause-within : goal.returns-in-Some-clause-within
returns-in-Some-clause-within c =
    IfOk-weaker c.tell_row.result (λ front. (text : List ℕ) → IsWholeRow c.in-Some.row text c.in-Some.used → IsWithin text front) (IsWithin c.args.text.now)
    (λ front within. within c.args.text.now (rw c.in-Some.is at c.in_ok-row.ensures.row)) c.tell_row.ensures.within

pub returns-in-Some-clause-front : goal.returns-in-Some-clause-front
returns-in-Some-clause-front c =
    let ready = gathered c.args.ready.now in
    let new = gathered c.tell_row.new.ready in
    IfOk-weaker c.tell_row.result
    (λ front. (m : Reading) (text : List ℕ) → IsWhole m c.in-Some.row text c.in-Some.used → IsFront m text c.args.place ready new front)
    (λ front. (m : Reading) → IsReading c.args.keyed c.whole_row.new.names m → IsFront m c.args.text.now c.args.place ready new front)
    (λ front is_front m is. is_front m c.args.text.now ((rw c.in-Some.is at c.in_ok-row.ensures.told) m is)) c.tell_row.ensures.front

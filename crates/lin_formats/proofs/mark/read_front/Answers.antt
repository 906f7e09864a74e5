use Rattle.std.proofs.lemmas.Result.{IfOk-weaker}
use Rattle.lin_edn.specs.Grammar.{Spells}
use Rattle.lin_edn.specs.Value.{Value}
use Rattle.std.proofs.Common.{◌≡◌, None}
use Rattle.lin_history.specs.Reading.{Reading, IsReading}
use Rattle.lin_history.specs.Table.{event, IsAnswer}
use Rattle.lin_formats.specs.Places.{row_of}
use Rattle.lin_formats.specs.inner.Marks.{IsFront}
use Rattle.lin_formats.proofs.mark.read_front.Goals as goal

pub returns-in-Some-clause-front : goal.returns-in-Some-clause-front
returns-in-Some-clause-front c =
    let text = c.args.text.now in
    let map = c.in-Some.ensures.map in
    let old = c.args.places.now.items in
    let new = c.read_map.new.places.items in
    IfOk-weaker c.read_map.result
    (λ front. (k : Reading) (v : Value) → Spells text v c.in-Some.map.at c.in-Some.map.used → row_of v ≡ None → IsAnswer (event k v) c.in-Some.map.said → IsFront k text c.args.place old new front)
    (λ front. (k : Reading) → IsReading c.args.keyed c.next_map.new.names k → IsFront k text c.args.place old new front)
    (λ front is_front k is. is_front k map.0 map.1 map.2 (map.3 k is)) c.read_map.ensures.front

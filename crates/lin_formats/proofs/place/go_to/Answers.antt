use Rattle.std.proofs.Common.{◌≡◌, ◌-◌, length, take, drop, length-take-le, length-drop, arith}
use Rattle.lin_formats.proofs.Newlines.{place_behind}
use Rattle.lin_formats.proofs.place.go_to.Goals as goal

pub returns-clause-place : goal.returns-clause-place
returns-clause-place c = λ whole p is here.
    let size = length-drop c.args.from.at c.args.text.now in
    let inside = c.requires.inside in
    let passed : length (take (c.args.to - c.args.from.at) (drop c.args.from.at c.args.text.now)) ≡ c.args.to - c.args.from.at =
    length-take-le (c.args.to - c.args.from.at) (drop c.args.from.at c.args.text.now) (omega arith) in
    rw (passed, c.newlines.ensures.count) (place_behind c.args.text.now whole p c.args.from.at c.args.to c.args.from.place is here c.requires.later)

use Rattle.std.proofs.Common.{◌≡◌, ◌<◌, vec_len, length, refl, arith}
use Rattle.lin_program.proofs.LineOrders.{some_of}
use Rattle.lin_program.proofs.said.verify_given.Goals as goal

pub returns-in-Some-clause-said : goal.returns-in-Some-clause-said
returns-in-Some-clause-said c =
    let files = c.pop.new.self in
    let some : 0 < vec_len files = some_of _ c.if-not-is_empty.ensures in
    let count : vec_len files ≡ length files.items = omega (arith, files.ok.0) in
    (c.in-Some.order, files, refl, omega (arith, some, count), c.in-Some.ensures.items)

use Rattle.std.proofs.Common.{◌∙◌, ◌++◌, get_or, ap, arith, length, set, take}
use Rattle.std.proofs.lemmas.List.{append-nil, drop_all, length-map, take_all}
use Rattle.lin_members.specs.Asking.{alone_of}
use Rattle.lin_compressed_frontier.proofs.Making.{written_all, written_next}
use Rattle.lin_compressed_frontier.proofs.compressed.alone_all.Goals as goal

pub loop-member-init : goal.loop-member-init
loop-member-init g c = c.deref_mut-member-items.ensures.value

pub loop-member-preserved : goal.loop-member-preserved
loop-member-preserved g c =
    let xs = c.args.members.items in
    let i = c.loop-member.member-index in
    let so_far = c.loop-member.invariant in
    let same = ap length c.deref_mut-member-items.ensures.value in
    ap (λ y. set c.loop-member.member-items i y) (c.stand_alone.ensures)
    ∙ ap (λ l. set l i (alone_of (get_or l i c.member-item.result))) so_far
    ∙ written_next alone_of xs i c.member-item.result (omega (arith, same, c.loop-member-test.true))

pub returns : goal.returns
returns g c =
    let xs = c.args.members.items in
    let out = c.loop-member.member-items in
    let same = ap length c.deref_mut-member-items.ensures.value in
    let written = c.loop-member.invariant ∙ written_all alone_of xs c.loop-member.member-index (omega (arith, same, c.loop-member-test.false)) in
    let many = ap length written ∙ length-map xs alone_of in
    ap (λ l. take c.args.members.len (out ++ l)) (drop_all (length out) xs (omega (arith, many)))
    ∙ ap (take c.args.members.len) (append-nil out)
    ∙ take_all c.args.members.len out (let fits = c.args.members.ok.0 in omega (arith, many, fits))
    ∙ written

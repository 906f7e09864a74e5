use Rattle.std.proofs.Common.{◌≡◌, ◌-◌, ◌++◌, length, take, ap, ◌∙◌, arith}
use Rattle.std.proofs.lemmas.List.{take_min}
use Rattle.lin_report.proofs.CommandLines.{kept_more}
use Rattle.lin_report.proofs.runs.hold.Goals as goal

pub returns : goal.returns
returns c = λ line is.
    let held = c.args.held.now.items in
    let more = c.args.more.now in
    let room : c.saturating_sub-room.result ≡ 1048577 - length held = omega (arith, c.saturating_sub-room.ensures, c.len.ensures, c.args.held.now.ok.0) in
    let taken = ap (λ n. take n more) c.min.ensures ∙ take_min c.saturating_sub-room.result more ∙ ap (λ n. take n more) room in
    c.in_ok-extend_from_slice.ensures.items ∙ ap (λ t. held ++ t) taken ∙ kept_more 1048577 held line more is

use Rattle.std.proofs.Common.{◌-◌, length, ◌∙◌, arith}
use Rattle.std.proofs.lemmas.Iterator.Consumers.{YieldsList-from_first, count_from_yields_List}
use Rattle.lin_bytes.specs.Bytes.{is_newline}
use Rattle.lin_formats.proofs.Newlines.{as_many}
use Rattle.lin_formats.proofs.place.newlines.Goals as goal

pub returns-clause-count : goal.returns-clause-count
returns-clause-count c =
    let bytes = c.args.bytes.now in
    count_from_yields_List _ c.count.result c.count.ensures.ran (YieldsList-from_first (λ x. x) (λ rest. rest) _ c.memchr_iter.ensures.value)
    ∙ as_many is_newline bytes (length bytes - 0) 0 (omega arith)

use Rattle.std.proofs.Common.{◌≡◌, ℕ, ◌+◌, ◌≤◌, ◌<◌, List, get_or, length, subst, refl, arith}
use Rattle.std.specs.List.{slice_range}
use Rattle.lin_bytes.specs.Bytes.{quoted}
use Rattle.lin_edn.specs.Grammar.{Frame}
use Rattle.lin_edn.specs.inner.Levels.{frames_of}
use Rattle.lin_edn.specs.inner.Machine.{go, in_escape, put, quotes}
use Rattle.lin_edn.specs.inner.Turns.{IsMove}
use Rattle.lin_edn.specs.Value.{text}
use Rattle.lin_edn.proofs.Runs.{range_more}
use Rattle.lin_edn.proofs.reader.in_text.Goals as goal

ends_text : (s : List ℕ) (st : List Frame) (i at : ℕ) → i ≤ at → at < length s → get_or s at 0 ≡ 34 →
    put (text i (slice_range s i (at + 1))) i st (at + 1) ≡ quotes (quoted (get_or s at 0)) at st i (slice_range s i at) (get_or s at 0)
ends_text s st i at le lt h = rw (range_more s i at le lt, h) refl

escapes_text : (s : List ℕ) (st : List Frame) (i at : ℕ) → i ≤ at → at < length s → get_or s at 0 ≡ 92 →
    quotes (quoted (get_or s at 0)) at st i (slice_range s i at) (get_or s at 0) ≡ go st (in_escape i (slice_range s i (at + 1)))
escapes_text s st i at le lt h = rw (range_more s i at le lt, h) refl

pub returns-in-92 : goal.returns-in-92
returns-in-92 c = (escapes_text c.args.input.now (frames_of c.args.stack.now.items) c.args.start c.args.at c.requires.begun c.requires.inside c.in-92.is, omega arith)

pub returns-in_ok-settle-in-34 : goal.returns-in_ok-settle-in-34
returns-in_ok-settle-in-34 c =
    let s = c.args.input.now in
    subst (IsMove s c.args.at c.in_ok-settle-in-34.field-0 (frames_of c.settle.new.stack.items))
    (ends_text s (frames_of c.args.stack.now.items) c.args.start c.args.at c.requires.begun c.requires.inside c.in-34.is)
    (let turn = rw c.text_of.ensures at c.in_ok-settle-in-34.ensures in turn s c.args.at)

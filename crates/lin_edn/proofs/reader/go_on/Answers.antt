use Rattle.std.proofs.Common.{◌≡◌, ℕ, ◌+◌, ◌≤◌, ◌<◌, List, [], ◌∷◌, get_or, length, ap, ◌∙◌, subst, arith}
use Rattle.std.specs.List.{slice_range}
use Rattle.lin_bytes.specs.Bytes.{behind, names_tag}
use Rattle.lin_edn.specs.Grammar.{Frame}
use Rattle.lin_edn.specs.inner.Levels.{frames_of}
use Rattle.lin_edn.specs.inner.Machine.{go, deeper, goes_on, in_tag}
use Rattle.lin_edn.specs.inner.Turns.{IsMove}
use Rattle.lin_edn.proofs.Runs.{range_one}
use Rattle.lin_edn.proofs.reader.go_on.Goals as goal

tag_begins : (s : List ℕ) (st : List Frame) (i at c : ℕ) → names_tag ≡ behind c → at < length s → get_or s at 0 ≡ c → i + 1 ≡ at →
    deeper at i st (go st (in_tag i (slice_range s (i + 1) (at + 1)))) ≡ goes_on (behind c) at st i (slice_range s i at) c
tag_begins s st i at c h lt is e =
    let one : slice_range s (i + 1) (at + 1) ≡ c ∷ [] = rw e (range_one s at lt ∙ ap (λ x. x ∷ []) is) in
    ap (λ w. deeper at i st (go st (in_tag i w))) one ∙ ap (λ b. goes_on b at st i (slice_range s i at) c) h

pub returns-in-Tag : goal.returns-in-Tag
returns-in-Tag c = λ s lt is e.
    let le : c.args.start + 1 ≤ c.args.at = omega arith in
    let turn = rw c.deref.ensures.value at c.begin_tag.ensures in
    subst (IsMove s c.args.at c.begin_tag.result (frames_of c.args.stack.now.items))
    (tag_begins s (frames_of c.args.stack.now.items) c.args.start c.args.at c.args.c c.in-Tag.ensures lt is e)
    (turn s c.args.at le)

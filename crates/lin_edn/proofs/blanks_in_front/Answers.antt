use Rattle.std.proofs.Common.{ℕ, List, []}
use Rattle.lin_edn.specs.Grammar.{ShortBlanks, IsBlankText, nothing_more, open_comment}
use Rattle.lin_edn.proofs.blanks_in_front.Goals as goal

before : {s : List ℕ} {q : ℕ} → IsBlankText s q → (t : List ℕ) × ShortBlanks s q t
before (nothing_more bs) = ([], bs)
before (open_comment {t = t} bs i le) = (t, bs)

pub returns : goal.returns
returns c = record {
  unfinished = λ s at h. (h.3, h.4);
  blank = λ s used h. before h;
}

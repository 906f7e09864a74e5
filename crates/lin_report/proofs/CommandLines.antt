-- The lines of commands, as their bytes come.
use Rattle.std.proofs.Common.{◌≡◌, ◌≢◌, ◌==◌, ◌+◌, ◌-◌, ◌<◌, ◌≤◌, ◌∷◌, ◌++◌, [], ℕ, false, List, Result, Option, Err, All, length, take, drop, get_or, inl, inr, refl, sym, ap, subst, ◌∙◌, arith, ne_eqb, lt-ltb, append-nil, append_assoc}
use Rattle.std.specs.Prelude.{if◌then◌else◌}
use Rattle.std.proofs.lemmas.Bool.{cases_order}
use Rattle.std.proofs.lemmas.List.{get_or-drop, get_or-take, get_or_default, length-drop, length-take, length-take-le, take-append-drop, take-append-le, take_all, take_more}
use Rattle.std.proofs.Math.Seq.{take-add, take-append-add}
use Rattle.std.proofs.lemmas.List.Elements.{All-tail, All-head}
use Rattle.lin_report.specs.Commands.{IsCommand, IsSaid, longest_line, sense_of, sense_of_line, without_return}
use Rattle.lin_texts.specs.Parts.{words_from}
use Rattle.lin_history.specs.Reading.{Reading}
use Rattle.lin_names.specs.Names.{Numbering}
use Rattle.lin_report.specs.Runs.{in_front, lines_of}
use Rattle.lin_report.specs.declared.commands.Command.{Command}
use Rattle.lin_report.specs.declared.commands.CommandFault.{CommandFault}
use Rattle.lin_report.specs.declared.commands.CommandFault.TheVariants.{LineTooLong}

-- a line ends at its byte 10
pub line_ends : (line more : List ℕ) → All (λ c. c ≢ 10) line → lines_of (line ++ 10 ∷ more) ≡ line ∷ lines_of more
line_ends [] more none = refl
line_ends (c ∷ line) more none =
    let other : (c == 10) ≡ false = ne_eqb c 10 (All-head (λ x. x ≢ 10) c line none) in
    ap (λ b. if b then [] ∷ lines_of (line ++ 10 ∷ more) else in_front c (lines_of (line ++ 10 ∷ more))) other
    ∙ ap (in_front c) (line_ends line more (All-tail (λ x. x ≢ 10) c line none))

-- a last line needs no byte 10
pub last_line : (line : List ℕ) → 0 < length line → All (λ c. c ≢ 10) line → lines_of line ≡ line ∷ []
last_line [] some none = absurd (omega arith)
last_line (c ∷ []) some none =
    ap (λ b. if b then [] ∷ [] else in_front c []) (ne_eqb c 10 (All-head (λ x. x ≢ 10) c [] none))
last_line (c ∷ d ∷ line) some none =
    let other : (c == 10) ≡ false = ne_eqb c 10 (All-head (λ x. x ≢ 10) c (d ∷ line) none) in
    ap (λ b. if b then [] ∷ lines_of (d ∷ line) else in_front c (lines_of (d ∷ line))) other
    ∙ ap (in_front c) (last_line (d ∷ line) (omega arith) (All-tail (λ x. x ≢ 10) c (d ∷ line) none))

-- what is kept of a line, where more of it comes
pub kept_more : (m : ℕ) (kept rest more : List ℕ) → kept ≡ take m rest → kept ++ take (m - length kept) more ≡ take m (rest ++ more)
kept_more m kept rest more is = elim (cases_order m (length rest)) [
  | inl same ↦
      let all : take m rest ≡ rest = take_all m rest (omega arith) in
      let size : length kept ≡ m = ap length (is ∙ all) ∙ sym same in
      let none : m - length kept ≡ 0 = omega arith in
      ap (λ n. kept ++ take n more) none ∙ append-nil kept ∙ is ∙ sym (take-append-le m rest more (omega arith))
  | inr differ ↦ elim differ [
    | inl below ↦
        let size : length kept ≡ m = ap length is ∙ length-take-le m rest (omega arith) in
        let none : m - length kept ≡ 0 = omega arith in
        ap (λ n. kept ++ take n more) none ∙ append-nil kept ∙ is ∙ sym (take-append-le m rest more (omega arith))
    | inr above ↦
        let all : kept ≡ rest = is ∙ take_all m rest (omega arith) in
        let sum : length rest + (m - length rest) ≡ m = omega arith in
        ap (λ k. k ++ take (m - length k) more) all ∙ sym (take-append-add rest more (m - length rest)) ∙ ap (λ n. take n (rest ++ more)) sum
  ]
]

-- nothing is kept of no line alone
pub kept_none : (m : ℕ) (kept rest : List ℕ) → 0 < m → kept ≡ take m rest → length kept ≡ 0 → rest ≡ []
kept_none m kept [] some is none = refl
kept_none m kept (c ∷ rest) some is none =
    let size = length-take m (c ∷ rest) in
    let same = ap length is in
    absurd (omega arith)

pub kept_some : (m : ℕ) (kept rest : List ℕ) → kept ≡ take m rest → 0 < length kept → 0 < length rest
kept_some m kept rest is some =
    let size = length-take m rest in
    let same = ap length is in
    omega arith

-- a line that is too long
too_long : (number : Numbering) (line : List ℕ) → longest_line < length line → sense_of_line number line ≡ Err LineTooLong
too_long number line long = ap (λ b. if b then Err LineTooLong else sense_of number (words_from 0 (without_return line))) (lt-ltb longest_line (length line) long)

-- what is kept of a line says what the line says
pub kept_says : (m : Reading) (line kept : List ℕ) (said : Result (Option Command) CommandFault) → kept ≡ take (longest_line + 1) line
    → IsCommand m kept said → IsCommand m line said
kept_says m line kept said is right = elim (cases_order longest_line (length line)) [
  | inl same ↦ subst (λ l. IsCommand m l said) (is ∙ take_all (longest_line + 1) line (omega arith)) right
  | inr differ ↦ elim differ [
    | inl long ↦
        let size : length kept ≡ longest_line + 1 = ap length is ∙ length-take-le (longest_line + 1) line (omega arith) in
        let refused = subst (λ s. IsSaid m (without_return kept) s said) (too_long m.number kept (omega arith)) right in
        subst (λ s. IsSaid m (without_return line) s said) (sym (too_long m.number line long)) refused
    | inr short ↦ subst (λ l. IsCommand m l said) (is ∙ take_all (longest_line + 1) line (omega arith)) right
  ]
]

-- the bytes of a piece up to a place, and from there to the next one
pub up_to : (piece : List ℕ) (from end : ℕ) → from ≤ end → take from piece ++ take (end - from) (drop from piece) ≡ take end piece
up_to piece from end order =
    let sum : from + (end - from) ≡ end = omega arith in
    sym (take-add from (end - from) piece) ∙ ap (λ n. take n piece) sum

-- no line ends between two places
pub none_between : (piece : List ℕ) (from end : ℕ) → from ≤ end → end ≤ length piece → ((k : ℕ) → from ≤ k → k < end → get_or piece k 0 ≡ 10 → ⊥)
    → All (λ c. c ≢ 10) (take (end - from) (drop from piece))
none_between piece from end order within inner = λ k d inside is.
    let left : length (drop from piece) ≡ length piece - from = length-drop from piece in
    let size : length (take (end - from) (drop from piece)) ≡ end - from = length-take-le (end - from) (drop from piece) (omega arith) in
    inner (from + k) (omega arith) (omega arith)
    (sym (get_or-drop from piece k 0) ∙ sym (get_or-take (end - from) (drop from piece) k 0 (omega arith))
    ∙ get_or_default (take (end - from) (drop from piece)) k 0 d inside ∙ is)

-- a line ends at a place
pub with_end : (piece : List ℕ) (end : ℕ) → end < length piece → get_or piece end 0 ≡ 10 → take end piece ++ 10 ∷ [] ≡ take (end + 1) piece
with_end piece end inside is = ap (λ c. take end piece ++ c ∷ []) (sym is) ∙ sym (take_more piece end 0 inside)

pub around_end : (piece : List ℕ) (end : ℕ) → end < length piece → get_or piece end 0 ≡ 10 → take end piece ++ 10 ∷ drop (end + 1) piece ≡ piece
around_end piece end inside is =
    sym (append_assoc (take end piece) (10 ∷ []) (drop (end + 1) piece)) ∙ ap (λ t. t ++ drop (end + 1) piece) (with_end piece end inside is)
    ∙ take-append-drop (end + 1) piece

-- What is found of objects, one after another, and the report that tells it.
use Rattle.std.proofs.Common.{◌≡◌, ◌++◌, ◌∷◌, ◌<◌, ◌+◌, [], ℕ, List, length, get_or, take, ap, sym, ◌∙◌, pos, refl, false, arith}
use Rattle.std.specs.Prelude.{if◌then◌else◌}
use Rattle.std.proofs.lemmas.List.{map-append, take_more}
use Rattle.std.proofs.lemmas.List.Elements.{All-append, All-cons}
use Rattle.lin_events.specs.declared.items.Item.{Item}
use Rattle.lin_events.specs.declared.items.Item.TheVariants.{Int}
use Rattle.lin_answers.specs.Answers.{IsVerdict}
use Rattle.lin_answers.specs.Edits.{Present}
use Rattle.lin_answers.specs.declared.answers.Scope.TheVariants.{Object}
use Rattle.lin_answers.specs.declared.answers.Verdict.{Verdict}
use Rattle.lin_report.specs.Reports.{AreFindings, is_ill_formed}
use Rattle.lin_report.specs.declared.findings.Finding.{Finding}

-- the finding is one that is right
abbrev IsRight : Present → Finding → Type 0
IsRight now f = IsVerdict now (Object f.key) f.verdict

-- nothing is found of no object
pub nothing_found : (now : Present) → AreFindings now [] []
nothing_found now = record { listed = refl; each = λ k d none. absurd (omega arith) }

-- what is found of one object
pub one_found : (now : Present) (key : Item) (verdict : Verdict) → IsVerdict now (Object key) verdict
    → AreFindings now (key ∷ []) ((record { key = key; verdict = verdict }) ∷ [])
one_found now key verdict right = record {
  listed = refl;
  each = All-cons (IsRight now) (record { key = key; verdict = verdict }) [] right (λ k d none. absurd (omega arith));
}

-- what is found of one more object
pub one_more_found : (now : Present) (keys : List Item) (at : ℕ) (key : Item) (found : List Finding) (verdict : Verdict) → at < length keys → key ≡ get_or keys at (Int (pos 0))
    → AreFindings now (take at keys) found → IsVerdict now (Object key) verdict
    → AreFindings now (take (at + 1) keys) (found ++ (record { key = key; verdict = verdict }) ∷ [])
one_more_found now keys at key found verdict inside is so_far right = record {
  listed = map-append (λ f. f.key) found _ ∙ ap (λ ks. ks ++ key ∷ []) so_far.listed ∙ ap (λ k. take at keys ++ k ∷ []) is ∙ sym (take_more keys at (Int (pos 0)) inside);
  each = All-append (IsRight now) found _ so_far.each (All-cons (IsRight now) (record { key = key; verdict = verdict }) [] right (λ k d none. absurd (omega arith)));
}

-- each object is named of a well-formed history
pub of_well_formed : (now : Present) (keys : List Item) (whole : Verdict) (found : List Finding) → is_ill_formed whole ≡ false → AreFindings now keys found
    → AreFindings now (if is_ill_formed whole then [] else keys) found
of_well_formed now keys whole found well are = rw well are

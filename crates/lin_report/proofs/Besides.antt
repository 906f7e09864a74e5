-- What is told beside an undecided whole.
use Rattle.std.proofs.Common.{◌≡◌, ◌≤◌, ◌+◌, ◌*◌, ◌∙◌, ℕ, List, Option, None, Some, ap, arith, length, refl, subst, sym}
use Rattle.lin_events.specs.declared.items.Item.{Item}
use Rattle.lin_events.specs.WellFormed.{IsWellFormed}
use Rattle.lin_objects.specs.Kinds.{functions_of}
use Rattle.lin_answers.specs.Answers.{IsAnswer, kinds_in, verdict_of}
use Rattle.lin_answers.specs.Edits.{Present}
use Rattle.lin_answers.specs.declared.answers.Answer.{Answer}
use Rattle.lin_answers.specs.declared.answers.Answer.TheVariants as answer
use Rattle.lin_answers.specs.declared.answers.Scope.{Scope}
use Rattle.lin_answers.specs.declared.answers.Scope.TheVariants.{Object}
use Rattle.lin_answers.specs.declared.answers.Verdict.{Verdict}
use Rattle.lin_answers.specs.declared.answers.Verdict.TheVariants.{IllFormed, Yes, No, Undecided}
use Rattle.lin_explain.specs.Explained.{scope_of}
use Rattle.lin_session.specs.Known.{mark_of}
use Rattle.lin_session.specs.Marks.{IsNothingDue}
use Rattle.lin_session.specs.Sessions.{IsAnswered, Standing}
use Rattle.lin_report.specs.Explanations.{IsFailing}
use Rattle.lin_report.specs.declared.failing.Failing.{Failing}
use Rattle.lin_report.specs.inner.Still.{IsSettled, IsSettledFor, IsStill, beside_passes}
use Rattle.lin_report.proofs.FirstFailing.{failing_is_no}

never : (f : Failing) → Some f ≡ None → ⊥
never f e = cc

-- the object that is told was found to be a no
pub failing_answers : (names : List (List ℕ)) (now : Present) (key : Option Item) (verdict : Verdict) (f : Failing) → IsFailing names now key verdict (Some f)
    → IsAnswer now (Object f.key) (answer.No f.prefix)
failing_answers names now None (IllFormed at cause) f is = absurd (never f is)
failing_answers names now None Yes f is = absurd (never f is)
failing_answers names now None (No n) f is = absurd (never f is)
failing_answers names now None (Undecided at) f is = failing_is_no now is.2 f is.3.each is.4
failing_answers names now (Some key) verdict f is = absurd (never f is)

-- so the whole is undecided
failing_passes : (names : List (List ℕ)) (now : Present) (key : Option Item) (told : Answer) (f : Failing) → IsFailing names now key (verdict_of told) (Some f) → beside_passes told ≡ 7
failing_passes names now None (answer.IllFormed at cause) f is = absurd (never f is)
failing_passes names now None (answer.Yes order) f is = absurd (never f is)
failing_passes names now None (answer.No n) f is = absurd (never f is)
failing_passes names now None (answer.Undecided at) f is = refl
failing_passes names now (Some key) told f is = absurd (never f is)

-- behind an answer all is known that is asked for
pub settled_for : (key : Option Item) (told : Answer) (s : Standing) → IsAnswer s.present (scope_of key) told → IsSettled (scope_of key) s → IsSettledFor key (verdict_of told) s
settled_for None (answer.IllFormed at cause) s is settled = settled.low
settled_for None (answer.Yes order) s is settled = settled.low
settled_for None (answer.No n) s is settled = settled.low
settled_for None (answer.Undecided at) s is settled = record { low = settled.low; known = settled.known is.0 }
settled_for (Some key) told s is settled = settled.low

-- so it is behind a question that is answered
pub settled_behind : (key : Option Item) (scope : Scope) (old mid : Standing) → scope_of key ≡ scope → IsAnswered scope 0 old mid → mid.present ≡ old.present → IsSettled (scope_of key) mid
settled_behind key scope old mid is answered present = record {
  low = answered.low;
  known = subst (λ (now : Present). IsWellFormed (functions_of (kinds_in now)) now.history → IsNothingDue now.history (scope_of key) (mark_of mid.marks)) (sym present)
      (subst (λ about. IsWellFormed (functions_of (kinds_in old.present)) old.present.history → IsNothingDue old.present.history about (mark_of mid.marks)) (sym is) answered.known);
}

-- the no of the object is explained
pub still_told : (names : List (List ℕ)) (key : Option Item) (told : Answer) (f : Failing) (a b c : Standing) → IsFailing names a.present key (verdict_of told) (Some f) → IsStill 0 a b
    → c ≡ record b { meter = c.meter } → c.meter.steps ≤ b.meter.steps + 7 * length b.present.history → c.meter.scans ≡ b.meter.scans
    → IsStill (beside_passes told * length a.present.history) a c
still_told names key told f a b c is still same few scans = subst (λ passes. IsStill (passes * length a.present.history) a c) (sym (failing_passes names a.present key told f is)) (record {
  present = ap (λ (s : Standing). s.present) same ∙ still.present;
  low = ap (λ (s : Standing). s.low) same ∙ still.low;
  scans = let bound = still.scans in omega (arith, bound, scans);
  marks = λ k. ap (λ (s : Standing). mark_of s.marks k) same ∙ still.marks k;
  steps =
      let first = still.steps in
      let next = subst (λ (now : Present). c.meter.steps ≤ b.meter.steps + 7 * length now.history) still.present few in
      omega (arith, first, next);
})

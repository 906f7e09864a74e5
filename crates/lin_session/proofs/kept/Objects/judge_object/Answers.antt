use Rattle.std.proofs.Common.{◌≡◌, Contains, [], refl, subst, sym, ◌∙◌, arith}
use Rattle.std.proofs.lemmas.Option.{none-some, slice_get_within}
use Rattle.lin_engines.specs.declared.ends.End.TheVariants.{Alive}
use Rattle.lin_answers.specs.declared.answers.Scope.TheVariants.{Object}
use Rattle.lin_answers.specs.declared.answers.Verdict.TheVariants.{Undecided}
use Rattle.lin_session.specs.Marks.{IsKnown, IsToldOf}
use Rattle.lin_session.specs.inner.Objects.{marks_in}
use Rattle.lin_session.proofs.Asking.{told_undecided, verdict_told}
use Rattle.lin_session.proofs.Carrying.{AreCarriedOn-same}
use Rattle.lin_session.proofs.Found.{not_ok}
use Rattle.lin_session.proofs.Knowing.{known_by, listed_is_known, marked_as, over_asked, unlisted_alive}
use Rattle.lin_session.proofs.kept.Objects.judge_object.Goals as goal
use Rattle.lin_session.proofs.kept.Objects.judge_object.Goals.{In-None}

pub returns-in-None-clause-verdict : goal.returns-in-None-clause-verdict
returns-in-None-clause-verdict c = λ kinds kept fine.
    let h = c.args.events.now in (
      [],
      c.absent_keys_are_legal.ensures kinds h c.args.key (λ at event stands same.
          let below = slice_get_within h at event stands in
          c.in-None.ensures.none (subst (Contains c.args.self.now.keys.keys) same (kept.known at event (omega (arith, below, c.requires.split)) stands))),
    )

alive : (c : In-None) → IsToldOf c.args.events.now (marks_in c.args.self.now) c.args.key Alive
alive c = unlisted_alive c.requires.right.0 c.args.budget c.args.events.now c.args.self.now c.requires.right.1 c.requires.split c.args.key c.in-None.ensures.none

pub returns-in-None-clause-told : goal.returns-in-None-clause-told
returns-in-None-clause-told c = λ key same. subst (λ k. IsToldOf c.args.events.now (marks_in c.args.self.now) k Alive) (sym same) (alive (goal.at.returns-in-None-clause-told c).In-None)

pub returns-in-None-clause-known : goal.returns-in-None-clause-known
returns-in-None-clause-known c = λ key asked. subst (IsKnown c.args.events.now (marks_in c.args.self.now)) (sym asked.0) (Alive, alive (goal.at.returns-in-None-clause-known c).In-None)

pub returns-in-None-clause-carried : goal.returns-in-None-clause-carried
returns-in-None-clause-carried c = AreCarriedOn-same c.args.events.now _ (marks_in c.args.self.now) (marks_in c.args.self.now) (λ x. refl)

pub returns-in_ok-failing-in-Some-clause-verdict : goal.returns-in_ok-failing-in-Some-clause-verdict
returns-in_ok-failing-in-Some-clause-verdict c = λ kinds kept fine.
    let key_at = c.in-Some.ensures.found in
    verdict_told kinds c.args.budget c.args.events.now c.args.key c.in_ok-failing-in-Some.failing c.in_ok-failing-in-Some.over c.verdict_of_findings.result
    (c.in_ok-failing-in-Some.ensures.found kinds c.args.key key_at kept fine) c.verdict_of_findings.ensures

pub returns-in_ok-failing-in-Some-clause-told : goal.returns-in_ok-failing-in-Some-clause-told
returns-in_ok-failing-in-Some-clause-told c =
    marked_as c.args.events.now (marks_in c.judge_listed.new.self) c.args.key c.in_ok-failing-in-Some.failing c.in_ok-failing-in-Some.over c.verdict_of_findings.result (c.in_ok-failing-in-Some.ensures.told c.args.key c.in-Some.ensures.found) c.verdict_of_findings.ensures

pub returns-in_ok-failing-in-Some-clause-known : goal.returns-in_ok-failing-in-Some-clause-known
returns-in_ok-failing-in-Some-clause-known c = λ key asked.
    subst (IsKnown c.args.events.now (marks_in c.judge_listed.new.self)) (sym asked.0)
    (known_by c.args.events.now (marks_in c.judge_listed.new.self) c.args.key c.in_ok-failing-in-Some.failing c.in_ok-failing-in-Some.over (c.in_ok-failing-in-Some.ensures.told c.args.key c.in-Some.ensures.found))

pub returns-in_ok-failing-in-Some-clause-carried : goal.returns-in_ok-failing-in-Some-clause-carried
returns-in_ok-failing-in-Some-clause-carried c = c.judge_listed.ensures.carried c.args.key c.in-Some.ensures.found

pub returns-in_err-failing-in-Some-clause-carried : goal.returns-in_err-failing-in-Some-clause-carried
returns-in_err-failing-in-Some-clause-carried c = c.judge_listed.ensures.carried c.args.key c.in-Some.ensures.found

pub returns-in_ok-failing-in-Some-clause-spent : goal.returns-in_ok-failing-in-Some-clause-spent
returns-in_ok-failing-in-Some-clause-spent c = c.in_ok-failing-in-Some.ensures.spent c.args.key c.in-Some.ensures.found

pub returns-in_ok-failing-in-Some-clause-most : goal.returns-in_ok-failing-in-Some-clause-most
returns-in_ok-failing-in-Some-clause-most c = c.judge_listed.ensures.most c.args.key c.in-Some.ensures.found

pub returns-in_err-failing-in-Some-clause-most : goal.returns-in_err-failing-in-Some-clause-most
returns-in_err-failing-in-Some-clause-most c = c.judge_listed.ensures.most c.args.key c.in-Some.ensures.found

pub returns-in_ok-failing-in-Some-clause-rests : goal.returns-in_ok-failing-in-Some-clause-rests
returns-in_ok-failing-in-Some-clause-rests c = λ nothing.
    let known = listed_is_known c.requires.right.0 c.args.budget c.args.events.now c.args.self.now c.requires.right.1 (Object c.args.key) nothing c.in-Some.i c.args.key refl c.in-Some.ensures.found in
    (refl, (c.judge_listed.ensures.rests c.args.key c.in-Some.ensures.found known).1)

pub returns-in_err-failing-in-Some-clause-rests : goal.returns-in_err-failing-in-Some-clause-rests
returns-in_err-failing-in-Some-clause-rests c = λ nothing.
    let known = listed_is_known c.requires.right.0 c.args.budget c.args.events.now c.args.self.now c.requires.right.1 (Object c.args.key) nothing c.in-Some.i c.args.key refl c.in-Some.ensures.found in
    absurd (not_ok c.judge_listed.result c.in_err-failing-in-Some.field-0.0 c.in_err-failing-in-Some.was (c.judge_listed.ensures.rests c.args.key c.in-Some.ensures.found known).0)

pub returns-in_ok-failing-in-Some-clause-decided : goal.returns-in_ok-failing-in-Some-clause-decided
returns-in_ok-failing-in-Some-clause-decided c = λ kinds kept exact many at is_over.
    let key_at = c.in-Some.ensures.found in
    let told : c.verdict_of_findings.result ≡ Undecided at = cc is_over in
    let over = told_undecided c.in_ok-failing-in-Some.failing c.in_ok-failing-in-Some.over c.verdict_of_findings.result at c.verdict_of_findings.ensures told in
    let asked = over_asked c.args.events.now (marks_in c.judge_listed.new.self) c.args.key c.in_ok-failing-in-Some.failing c.in_ok-failing-in-Some.over at over (c.in_ok-failing-in-Some.ensures.told c.args.key key_at) in
    none-some at (sym (c.in_ok-failing-in-Some.ensures.decided kinds c.args.key key_at kept (exact c.args.key (refl, asked)) many) ∙ over)

pub returns-in_ok-failing-in-Some-clause-exact : goal.returns-in_ok-failing-in-Some-clause-exact
returns-in_ok-failing-in-Some-clause-exact c = λ kinds kept exact many. c.judge_listed.ensures.exact kinds c.args.key c.in-Some.ensures.found kept exact many

pub returns-in_err-failing-in-Some-clause-exact : goal.returns-in_err-failing-in-Some-clause-exact
returns-in_err-failing-in-Some-clause-exact c = λ kinds kept exact many. c.judge_listed.ensures.exact kinds c.args.key c.in-Some.ensures.found kept exact many

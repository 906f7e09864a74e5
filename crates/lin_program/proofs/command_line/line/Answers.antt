use Rattle.std.proofs.Common.{List, [], ap, sym, subst, map, refl, ◌≡◌, ◌∙◌, true, inl, inr, Result, Ok, Err}
use Rattle.std.specs.Result.{IfErr, IsErrAnd}
use Rattle.clap.specs.Words.{App, Row, Text, found_of, is_simple, is_simple_and_free, rows_of, subcommand_of, subcommand_rows_of, fault_of, HasKind}
use Rattle.clap.specs.declared.error.Error.{Error}
use Rattle.clap.proofs.OnLiterals.{clap_on_literals}
use Rattle.lin_program.specs.CommandLine.{Parsers, program_app}
use Rattle.clap.specs.declared.parser.matches.ArgMatches.TheViews.{out-ArgMatches}
use Rattle.lin_program.proofs.Found.{mapped_twice, pair_behind}
use Rattle.lin_program.proofs.command_line.line.Goals as goal

plain : (parsers : Parsers) → is_simple (program_app parsers) ≡ true
unfolding clap_on_literals
plain parsers = refl

free : (parsers : Parsers) → is_simple_and_free (program_app parsers) ≡ true
unfolding clap_on_literals
free parsers = refl

err_if : {A B : Type 0} (r : Result A B) (P Q : B → Type 0) → ((e : B) → P e → Q e) → IsErrAnd r P → IfErr r Q
err_if (Ok x) P Q f h = tt
err_if (Err e) P Q f h = f e h

pub returns-in_err-matches-clause-refused : goal.returns-in_err-matches-clause-refused
returns-in_err-matches-clause-refused c =
    let parsers = c.in_ok-program.ensures.0 in
    let app_is = c.in_ok-program.ensures.2 in
    let words = map (λ w. w.now) c.args.words.now in
    let kinds = c.in_err-matches.ensures.kinds (ap is_simple_and_free app_is ∙ free parsers) in
    let defined : HasKind (fault_of (program_app parsers) words) c.in_err-matches.field-0.0 = subst (λ (a : App). HasKind (fault_of a words) c.in_err-matches.field-0.0) app_is kinds in
    err_if c.from_residual-in_err-matches.result _ _
    (λ e h. inr (inl (parsers, c.in_ok-program.ensures.1, subst (λ (x : Error). HasKind (fault_of (program_app parsers) words) x) (sym h) defined)))
    c.from_residual-in_err-matches.ensures.1

pub returns-in-Ok-clause-understood : goal.returns-in-Ok-clause-understood
returns-in-Ok-clause-understood c =
    let parsers = c.in_ok-program.ensures.0 in
    let app_is = c.in_ok-program.ensures.2 in
    let words = map (λ w. w.now) c.args.words.now in
    let rows = (c.in_ok-matches.ensures.matches (ap is_simple app_is ∙ plain parsers)).1 ∙ ap (λ (a : App). subcommand_of a words) app_is in
    let name = c.in-Some.ensures.name ∙ mapped_twice _ (λ (p : Text × List Row). p.0) (out-ArgMatches c.in_ok-matches.matches).subcommand in
    let found = pair_behind (subcommand_rows_of c.in_ok-matches.matches) c.in-Some.name.now (rows_of (found_of c.in-Some.inner.now)) name c.in-Some.ensures.rows in
    let kinds = c.in_ok-matches.ensures.kinds (ap is_simple_and_free app_is ∙ free parsers) in
    let none : fault_of (program_app parsers) words ≡ [] = subst (λ (a : App). fault_of a words ≡ []) app_is kinds in
    (parsers, c.in_ok-program.ensures.1, (c.in-Some.name.now, rows_of (found_of c.in-Some.inner.now)), (none, sym rows ∙ found), c.in-Ok.ensures.said)

pub returns-clause-refused : goal.returns-clause-refused
returns-clause-refused c =
    let parsers = c.in_ok-program.ensures.0 in
    let app_is = c.in_ok-program.ensures.2 in
    let words = map (λ w. w.now) c.args.words.now in
    let rows = (c.in_ok-matches.ensures.matches (ap is_simple app_is ∙ plain parsers)).1 ∙ ap (λ (a : App). subcommand_of a words) app_is in
    let name = c.in-Some.ensures.name ∙ mapped_twice _ (λ (p : Text × List Row). p.0) (out-ArgMatches c.in_ok-matches.matches).subcommand in
    let found = pair_behind (subcommand_rows_of c.in_ok-matches.matches) c.in-Some.name.now (rows_of (found_of c.in-Some.inner.now)) name c.in-Some.ensures.rows in
    let kinds = c.in_ok-matches.ensures.kinds (ap is_simple_and_free app_is ∙ free parsers) in
    let none : fault_of (program_app parsers) words ≡ [] = subst (λ (a : App). fault_of a words ≡ []) app_is kinds in
    inr (inr (parsers, c.in_ok-program.ensures.1, (c.in-Some.name.now, rows_of (found_of c.in-Some.inner.now)), (none, sym rows ∙ found), c.in-Err.why, c.in-Err.ensures.unsaid, c.in_ok-refusal-in-Err.ensures))

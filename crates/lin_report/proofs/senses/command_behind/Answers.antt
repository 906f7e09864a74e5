use Rattle.std.proofs.Common.{inl, ap, drop, subst, sym}
use Rattle.lin_texts.specs.Parts.{words_from}
use Rattle.lin_names.specs.Names.{AgreesWith, Begins}
use Rattle.lin_names.specs.lemmas.Begins.{begins_same}
use Rattle.lin_report.specs.Commands as said
use Rattle.lin_report.specs.declared.commands.Command.TheVariants.{Pull, Report, Work}
use Rattle.lin_report.proofs.WordSenses.{by_verb, command_made, question_made}
use Rattle.lin_report.proofs.senses.command_behind.Goals as goal
use Rattle.lin_report.proofs.senses.command_behind.Goals.{in-Remove+in_ok-number_in-in-Remove, in-Truncate+in_ok-number_in-in-Truncate, in-Kind+in_ok-key-in-Kind, in-Budget+in_ok-budget-in-Budget, in-Ask+in_ok-scope_in-in-Ask, in-Order+in_ok-scope_in-in-Order, in-Report+in_ok-no_more-in-Report, in-Pull+in_ok-no_more-in-Pull, in-Refute+in_ok-key_in-in-Refute, in-Explain+in_ok-scope_in-in-Explain, in-Work+in_ok-no_more-in-Work}

pub returns-clause-begun : goal.returns-clause-begun
returns-clause-begun c =
    elim c.match-verb.branch [
      | in-Remove+in_ok-number_in-in-Remove w ↦ begins_same _ _ w.names-is
      | in-Truncate+in_ok-number_in-in-Truncate w ↦ begins_same _ _ w.names-is
      | in-Kind+in_ok-key-in-Kind w ↦ subst (Begins c.args.names.now) (sym w.names-is) w.key_and_kind.ensures.begun
      | in-Budget+in_ok-budget-in-Budget w ↦ begins_same _ _ w.names-is
      | in-Ask+in_ok-scope_in-in-Ask w ↦ subst (Begins c.args.names.now) (sym w.names-is) w.scope_in.ensures.begun
      | in-Order+in_ok-scope_in-in-Order w ↦ subst (Begins c.args.names.now) (sym w.names-is) w.scope_in-in-Order.ensures.begun
      | in-Report+in_ok-no_more-in-Report w ↦ begins_same _ _ w.names-is
      | in-Pull+in_ok-no_more-in-Pull w ↦ begins_same _ _ w.names-is
      | in-Refute+in_ok-key_in-in-Refute w ↦ subst (Begins c.args.names.now) (sym w.names-is) w.key_in.ensures.begun
      | in-Explain+in_ok-scope_in-in-Explain w ↦ subst (Begins c.args.names.now) (sym w.names-is) w.scope_in-in-Explain.ensures.begun
      | in-Work+in_ok-no_more-in-Work w ↦ begins_same _ _ w.names-is
    ]

pub returns-clause-said : goal.returns-clause-said
returns-clause-said c = λ number agrees.
    let words = words_from c.args.end (drop c.args.end c.args.line.now) in
    elim c.match-verb.branch [
      | in-Remove+in_ok-number_in-in-Remove w ↦ by_verb number c.args.end words c.args.verb c.match-verb.command _ _ w.in-Remove.is w.command-is
          (command_made _ _ _ (inl w.in_ok-number_in-in-Remove.ensures))
      | in-Truncate+in_ok-number_in-in-Truncate w ↦ by_verb number c.args.end words c.args.verb c.match-verb.command _ _ w.in-Truncate.is w.command-is
          (command_made _ _ _ (inl w.in_ok-number_in-in-Truncate.ensures))
      | in-Kind+in_ok-key-in-Kind w ↦ by_verb number c.args.end words c.args.verb c.match-verb.command _ _ w.in-Kind.is w.command-is
          (command_made _ _ _ (w.in_ok-key-in-Kind.ensures.both number (subst (λ n. AgreesWith n number) w.names-is agrees)))
      | in-Budget+in_ok-budget-in-Budget w ↦ by_verb number c.args.end words c.args.verb c.match-verb.command _ _ w.in-Budget.is w.command-is
          (command_made _ _ _ (inl (rw w.from.ensures at w.in_ok-budget-in-Budget.ensures)))
      | in-Ask+in_ok-scope_in-in-Ask w ↦ by_verb number c.args.end words c.args.verb c.match-verb.command _ _ w.in-Ask.is w.command-is
          (question_made _ _ _ (w.in_ok-scope_in-in-Ask.ensures.scope number (subst (λ n. AgreesWith n number) w.names-is agrees)))
      | in-Order+in_ok-scope_in-in-Order w ↦ by_verb number c.args.end words c.args.verb c.match-verb.command _ _ w.in-Order.is w.command-is
          (question_made _ _ _ (w.in_ok-scope_in-in-Order.ensures.scope number (subst (λ n. AgreesWith n number) w.names-is agrees)))
      | in-Report+in_ok-no_more-in-Report w ↦ by_verb number c.args.end words c.args.verb c.match-verb.command _ _ w.in-Report.is w.command-is
          (inl (ap (said.plain (λ nothing. Report)) w.in_ok-no_more-in-Report.ensures))
      | in-Pull+in_ok-no_more-in-Pull w ↦ by_verb number c.args.end words c.args.verb c.match-verb.command _ _ w.in-Pull.is w.command-is
          (inl (ap (said.plain (λ nothing. Pull)) w.in_ok-no_more-in-Pull.ensures))
      | in-Refute+in_ok-key_in-in-Refute w ↦ by_verb number c.args.end words c.args.verb c.match-verb.command _ _ w.in-Refute.is w.command-is
          (command_made _ _ _ (w.in_ok-key_in-in-Refute.ensures.key number (subst (λ n. AgreesWith n number) w.names-is agrees)))
      | in-Explain+in_ok-scope_in-in-Explain w ↦ by_verb number c.args.end words c.args.verb c.match-verb.command _ _ w.in-Explain.is w.command-is
          (question_made _ _ _ (w.in_ok-scope_in-in-Explain.ensures.scope number (subst (λ n. AgreesWith n number) w.names-is agrees)))
      | in-Work+in_ok-no_more-in-Work w ↦ by_verb number c.args.end words c.args.verb c.match-verb.command _ _ w.in-Work.is w.command-is
          (inl (ap (said.plain (λ nothing. Work)) w.in_ok-no_more-in-Work.ensures))
    ]

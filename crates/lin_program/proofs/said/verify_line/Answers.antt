use Rattle.std.proofs.lemmas.Result.{IfOk-weaker, IfErr-weaker}
use Rattle.clap.specs.Words.{found_of, rows_of}
use Rattle.lin_program.proofs.LineOrders.{says_given, says_in_file, unsaid_given, unsaid_in_file}
use Rattle.lin_program.proofs.said.verify_line.Goals as goal

pub returns-in-Some-clause-said : goal.returns-in-Some-clause-said
returns-in-Some-clause-said c =
    IfOk-weaker c.verify_in_file.result _ _
    (λ line h. says_in_file (rows_of (found_of c.args.matches.now)) c.args.settings c.in-Some.name c.in_ok-words.words line c.in_ok-words.ensures c.in-Some.ensures c.requires.once c.requires.settings h)
    c.verify_in_file.ensures.said

pub returns-in-Some-clause-unsaid : goal.returns-in-Some-clause-unsaid
returns-in-Some-clause-unsaid c =
    IfErr-weaker c.verify_in_file.result _ _
    (λ why h. unsaid_in_file (rows_of (found_of c.args.matches.now)) c.in-Some.name c.in_ok-words.words why c.in_ok-words.ensures c.in-Some.ensures h)
    c.verify_in_file.ensures.unsaid

pub returns-in-None-clause-said : goal.returns-in-None-clause-said
returns-in-None-clause-said c =
    IfOk-weaker c.verify_given.result _ _
    (λ line h. says_given (rows_of (found_of c.args.matches.now)) c.args.settings c.in_ok-words.words.items line c.in_ok-words.ensures c.in-None.ensures c.requires.once c.requires.settings h)
    c.verify_given.ensures.said

pub returns-in-None-clause-unsaid : goal.returns-in-None-clause-unsaid
returns-in-None-clause-unsaid c =
    IfErr-weaker c.verify_given.result _ _
    (λ why h. unsaid_given (rows_of (found_of c.args.matches.now)) c.in_ok-words.words.items why c.in_ok-words.ensures c.in-None.ensures h)
    c.verify_given.ensures.unsaid

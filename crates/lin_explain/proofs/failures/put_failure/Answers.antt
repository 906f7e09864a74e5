use Rattle.std.proofs.Common.{◌++◌, refl, option_map, rules}
use Rattle.lin_explain.specs.Failures.{head_text}
use Rattle.lin_explain.proofs.Parting.{looked_up}
use Rattle.lin_explain.proofs.Texts.{three_put}
use Rattle.lin_explain.proofs.failures.put_failure.Goals as goal

pub returns-clause-told : goal.returns-clause-told
returns-clause-told c =
    let failure = c.args.failure.now in
    let invocation = c.in-Some-Some.invocation.now in
    let at = c.in-Some-Some.at.now in
    let head = head_text failure.stretch.names.now failure.kind (option_map (λ p. p.now) failure.stretch.places) at failure.prefix invocation c.args.ending.now in
    let possible = c.in_ok-told.ensures in
    let reasons = c.in_ok-why.ensures in (
      (head ++ possible.0) ++ reasons.0,
      record {
        invocation = invocation;
        at = at;
        possible = possible.0;
        reasons = reasons.0;
        failing = c.requires.fails;
        called = looked_up failure.stretch.events.now failure.call invocation c.in-Some-Some.ensures.lookup.0 c.in-Some-Some.ensures.lookup.1;
        stands = looked_up failure.stretch.picks.now failure.call at c.in-Some-Some.ensures'.lookup.0 c.in-Some-Some.ensures'.lookup.1;
        is_possible = possible.1;
        are_reasons = reasons.1;
        says = refl;
        key_of = search rules;
        kind_of = refl;
        spots = c.in_ok-event.ensures;
      },
      three_put c.args.text.now.items head possible.0 reasons.0 c.put_head.new.text.items c.put_before_failure.new.text.items c.put_reasons.new.text.items
          c.in_ok-put_head.ensures possible.2 reasons.2,
    )

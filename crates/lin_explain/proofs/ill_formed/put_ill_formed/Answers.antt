use Rattle.std.proofs.Common.{refl, option_map}
use Rattle.lin_answers.specs.Answers.{kinds_in}
use Rattle.lin_explain.specs.IllFormed.{bad_text}
use Rattle.lin_explain.proofs.ill_formed.put_ill_formed.Goals as goal

pub returns-clause-told : goal.returns-clause-told
returns-clause-told c =
    let event = c.in-Some.event.now in
    let bad = c.in_ok-put_bad.ensures in (
      bad_text c.args.origin.now.names.now (kinds_in c.args.present.now event.key) (option_map (λ p. p.now) c.args.origin.now.places) c.args.at event bad.0 bad.1 c.args.cause,
      record {
        event = event;
        earlier = bad.0;
        before = bad.1;
        spot = c.in_ok-event.event;
        stands = c.in-Some.ensures.found;
        is_before = bad.2;
        says = refl;
        is_spot = c.in_ok-event.ensures;
        told = refl;
      },
      bad.3,
    )

use Rattle.std.proofs.Common.{◌∙◌, ap, length, option_map, refl, subst, sym, take}
use Rattle.std.proofs.lemmas.Result.{IfOk-weaker}
use Rattle.lin_explain.specs.Failures.{IsFailureText}
use Rattle.lin_explain.specs.inner.Own.{stretch_of}
use Rattle.lin_explain.proofs.failures.put_no.Goals as goal

pub put_own-requires-clause-failure : goal.put_own-requires-clause-failure
put_own-requires-clause-failure c = c.requires.1.fails

pub put_own-requires-clause-picks : goal.put_own-requires-clause-picks
put_own-requires-clause-picks c =
    let fallen = c.args.fallen.now in
    let own = c.requires.1.own_of in
    let spells = c.positions_spell_parts.ensures fallen.ending.key (take c.args.prefix c.requires.0.history) fallen.own.picks.items own.positions in
    spells.length_of ∙ sym (ap length own.events_of)

pub returns-clause-told : goal.returns-clause-told
returns-clause-told c =
    let fallen = c.args.fallen.now in
    let places = option_map (λ p. p.now) c.args.origin.now.places in
    let stretch = stretch_of c.args.origin.now.names.now fallen.own places in
    IfOk-weaker c.put_own.result _ _
    (λ failed told. (
      told.0,
      λ now is. record {
        ending = fallen.ending;
        stretch = stretch;
        call = told.1;
        stands = is.stands;
        own = record { names_of = refl; events_of = is.own_of.events_of; positions = is.own_of.positions; places_of = refl };
        told = subst (λ k. IsFailureText k now.budget stretch c.args.prefix told.1 fallen.ending told.0 failed) is.kind_of
            (subst (λ b. IsFailureText fallen.kind b stretch c.args.prefix told.1 fallen.ending told.0 failed) is.budget_of told.2);
      },
      told.3,
    )) c.put_own.ensures.told

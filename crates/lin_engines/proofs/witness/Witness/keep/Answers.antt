use Rattle.std.proofs.Common.{◌≡◌, ◌++◌, length, take, refl, sym, subst, ap, ◌∙◌, arith}
use Rattle.std.proofs.lemmas.List.{length_push}
use Rattle.lin_frontier.specs.Frontiers.{IsPending}
use Rattle.lin_engines.specs.declared.witness.Checkpoint.{Checkpoint}
use Rattle.lin_engines.proofs.Growing.{grown, marked}
use Rattle.lin_engines.proofs.witness.Witness.keep.Goals as goal

pub returns-in_err-push-clause-longer : goal.returns-in_err-push-clause-longer
returns-in_err-push-clause-longer c =
    let a = c.args.self.now in
    let count = ap length c.in_err-push.ensures.items in
    record {
      object = refl;
      of = refl;
      opened = c.mark.ensures.operations;
      more = omega (arith, count);
      right = λ h w. grown a (record a { checkpoints = c.push.new.self; opened = c.mark.new.self }) h refl (omega arith) w.inside refl (λ place mark below past. (c.mark.ensures.past h place mark past).0) c.in_err-push.ensures.items
          (omega arith) (omega (arith, w.enough, count)) w.reached (subst (IsPending (take a.of h)) (sym c.mark.ensures.operations) w.opened) w;
    }

pub returns-clause-longer : goal.returns-clause-longer
returns-clause-longer c =
    let a = c.args.self.now in
    let made = c.in_ok-push.ensures.items in
    let len = ap length made in
    let kept : Checkpoint = record { length = a.length; config = c.in_ok-config.config; opened = c.mark.result; weight = c.args.weight } in
    record {
      object = refl;
      of = refl;
      opened = c.mark.ensures.operations;
      more = omega (arith, len, length_push a.checkpoints.items kept);
      right = λ h w. marked a c.push.new.self c.mark.new.self kept h made c.requires.due refl c.in_ok-config.ensures c.mark.ensures.operations (c.mark.ensures.now h) (λ place mark past. c.mark.ensures.past h place mark past) w;
    }

use Rattle.std.proofs.Common.{◌≡◌, ◌++◌, [], ◌∷◌, length, take, refl, sym, ap, ◌∙◌, subst, arith}
use Rattle.std.proofs.lemmas.List.{take_all, take-take, take-append-le, length-take-le, length_push}
use Rattle.lin_engines.specs.declared.witness.Witness.{Witness}
use Rattle.lin_engines.specs.Witnesses.{IsReached, listed, order_in}
use Rattle.lin_engines.proofs.Growing.{grown, placed_last, same_order}
use Rattle.lin_engines.proofs.witness.Witness.put.Goals as goal

pub returns-in_err-push-clause-longer : goal.returns-in_err-push-clause-longer
returns-in_err-push-clause-longer c =
    let a = c.args.self.now in
    let items : c.push.new.self.items ≡ take a.length a.order.items = c.in_err-push.ensures.items ∙ c.truncate.ensures.items in
    same_order a c.push.new.self a.hint (λ inside.
    let long = length-take-le a.length a.order.items inside in
    let len = ap length items in
    (omega (arith, len, long), ap (λ l. take a.length l) items ∙ take-take a.length a.length a.order.items (omega arith)))

pub returns-clause-longer : goal.returns-clause-longer
returns-clause-longer c =
    let a = c.args.self.now in
    let b : Witness = record a { order = c.push.new.self; length = c.len-self.result; config = c.args.next } in
    let items : c.push.new.self.items ≡ take a.length a.order.items ++ c.args.placed ∷ [] = c.in_ok-push.ensures.items ∙ ap (λ l. l ++ c.args.placed ∷ []) c.truncate.ensures.items in
    record {
      object = refl;
      of = refl;
      opened = refl;
      more = omega arith;
      right = λ h w.
          let long = length-take-le a.length a.order.items w.inside in
          let size = ap length items ∙ length_push (take a.length a.order.items) c.args.placed in
          let whole : c.len-self.result ≡ length c.push.new.self.items = c.len-self.ensures ∙ c.push.new.self.ok.0 in
          let all : order_in b ≡ take a.length a.order.items ++ c.args.placed ∷ [] = take_all c.len-self.result c.push.new.self.items (omega (arith, whole)) ∙ items in
          grown a b h refl (omega (arith, whole, size, long)) (omega (arith, whole))
          (ap (λ l. take a.length l) items ∙ take-append-le a.length (take a.length a.order.items) (c.args.placed ∷ []) (omega (arith, long)) ∙ take-take a.length a.length a.order.items (omega arith))
          (λ place mark below past. past) refl (omega arith) w.enough
          (subst (λ l. IsReached a.object.kind h a.of l c.args.next) (sym all)
          (placed_last a.object.kind c.placing_is_legal.ensures h a.of (take a.length a.order.items) a.config c.args.next (listed a.opened) c.requires.placed.0 c.args.placed c.requires.placed.1 c.requires.placed.2 w.opened w.reached)) w.opened w;
    }

use Rattle.std.proofs.Common.{◌≡◌, ◌++◌, ◌∷◌, [], List, ℕ, sym, ◌∙◌, subst, ap, take, drop, length, length-drop, ◌-◌, arith}
use Rattle.std.proofs.lemmas.List.{append_assoc, take_all}
use Rattle.lin_events.specs.declared.calls.Reply.{Reply}
use Rattle.lin_order.specs.Configurations.{IsAdded}
use Rattle.lin_order.proofs.ref_configs.with_pair.Goals as goal

pub returns : goal.returns
returns c =
    let at = c.place_of-at.result in
    let xs = c.args.placed.now in
    let pair : List (ℕ × Reply) = (c.args.process, c.args.reply) ∷ [] in
    let front = c.in_ok-push.ensures.items ∙ ap (λ l. l ++ pair) c.in_ok-more.ensures in
    let rest = c.in_ok-rest.ensures ∙ take_all (length xs - at) (drop at xs) (omega (arith, length-drop at xs)) in
    let whole : c.append.new.self.items ≡ take at xs ++ (c.args.process, c.args.reply) ∷ drop at xs =
    c.in_ok-append.ensures.items ∙ ap (λ l. l ++ c.in_ok-rest.rest.items) front ∙ ap (λ l. take at xs ++ pair ++ l) rest ∙ append_assoc (take at xs) pair (drop at xs) in
    subst (IsAdded c.args.process c.args.reply xs) (sym whole) (c.place_of-at.ensures.added c.args.reply)

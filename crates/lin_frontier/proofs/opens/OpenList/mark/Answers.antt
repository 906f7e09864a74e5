use Rattle.std.proofs.Common.{◌≡◌, ◌+◌, ◌<◌, ◌++◌, [], ℕ, List, sym, ap, ◌∙◌, subst, arith, take, drop, All, get_or}
use Rattle.std.proofs.lemmas.List.{append-nil, length-take, take-append-drop, get_or-drop, length-drop}
use Rattle.std.proofs.lemmas.List.Elements.{Contains-get_or}
use Rattle.std.proofs.lemmas.Option.{slice_get_within}
use Rattle.lin_events.specs.declared.events.Event.{Event}
use Rattle.lin_frontier.specs.declared.pending.Open.{Open}
use Rattle.lin_frontier.specs.Frontiers.{IsPending}
use Rattle.lin_frontier.specs.Opens.{called_before}
use Rattle.lin_frontier.proofs.Holding.{drop_front}
use Rattle.lin_frontier.proofs.Marks.{all_before}
use Rattle.lin_frontier.proofs.opens.OpenList.mark.Goals as goal

-- what is open was called before
called : (h : List Event) (place : ℕ) (xs : List Open) → IsPending (take place h) xs → All (λ o. o.at < place) xs
called h place xs pending k d inside =
    let o = get_or xs k d in
    let is_open = pending.sound o (Contains-get_or xs k d inside) in
    let within = slice_get_within (take place h) o.at _ is_open.1.begins in
    omega (arith, within, length-take place h)

pub returns-clause-now : goal.returns-clause-now
returns-clause-now c = λ h pending.
    let self = c.args.self.now in
    let xs = self.operations.items in
    let rest = drop self.crashed xs in
    let place = c.args.place in
    let none : drop c.len.result self.ended.items ≡ [] = ap (λ l. drop c.len.result l) (sym (append-nil self.ended.items)) ∙ drop_front self.ended.items [] c.len.result (omega (arith, c.len.ensures, self.ended.ok.0)) in
    let behind : All (λ o. o.at < place) rest = (λ k d inside.
    subst (λ (o : Open). o.at < place) (sym (get_or-drop self.crashed xs k d)) (called h place xs pending (self.crashed + k) d (omega (arith, inside, length-drop self.crashed xs)))) in
    let same = ap (λ l. take self.crashed xs ++ called_before place (rest ++ l)) none ∙ ap (λ l. take self.crashed xs ++ called_before place l) (append-nil rest)
    ∙ ap (λ l. take self.crashed xs ++ l) (all_before place rest behind self.behind) ∙ take-append-drop self.crashed xs in
    record {
      marked = omega (arith, c.max-self.ensures);
      crashed = omega arith;
      ended = omega (arith, c.len.ensures, self.ended.ok.0);
      open_then = subst (IsPending (take place h)) (sym same) pending;
    }

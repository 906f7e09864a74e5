use Rattle.std.proofs.Common.{rules, ◌≡◌, ◌≤◌, ◌++◌, length, List, refl, sym, ap, ◌∙◌, subst, arith, take, drop, filter, map, All}
use Rattle.std.proofs.lemmas.Fn.{filter_same}
use Rattle.std.proofs.lemmas.List.{length-append, length-drop, length-take, length-take-le, take-append-le, drop-append-le}
use Rattle.lin_frontier.specs.declared.pending.Open.{Open}
use Rattle.lin_frontier.specs.Frontiers.{IsPending}
use Rattle.lin_frontier.specs.Opens.{called_before, fresh, open_at}
use Rattle.lin_frontier.proofs.Holding.{HasCrashed, IsAlive, alive_before, back_to, drop_front, fewer_all, left, stays, take_front, written}
use Rattle.lin_frontier.proofs.Marks.{pending_permuted}
use Rattle.lin_frontier.proofs.opens.OpenList.cut.Goals as goal
use Rattle.lin_frontier.proofs.opens.OpenList.cut.Goals.{After-retain}

abbrev front_of : (c : After-retain) → List Open
front_of c = take c.min-crashed.result c.args.self.now.operations.items

abbrev behind_of : (c : After-retain) → List Open
behind_of c = called_before c.args.place (drop c.min-crashed.result c.args.self.now.operations.items ++ drop c.args.mark.ended c.args.self.now.ended.items)

few : (c : After-retain) → (c.min-crashed.result ≤ c.args.self.now.crashed) × (c.args.self.now.crashed ≤ length c.args.self.now.operations.items)
few c = let self = c.args.self.now in (omega (arith, c.min-crashed.ensures), omega (arith, self.within, self.operations.ok.0))

-- what is left
shape : (c : After-retain) → c.retain.new.self.items ≡ front_of c ++ behind_of c
shape c =
    let self = c.args.self.now in
    let xs = self.operations.items in
    let k = c.min-crashed.result in
    let rest = drop c.args.mark.ended self.ended.items in
    let below = few c in
    let opened = c.reopen.ensures.operations in
    let long = ap length opened ∙ length-append xs rest in
    filter_same _ (stays c.args.place) _ (λ x b f' called. search rules) _ _ c.retain.ensures.filtered
    ∙ ap (filter (stays c.args.place)) (written k c.reopen.new.operations.len c.deref_mut.result.now c.reopen.new.operations.items c.freshen.new.operations _ c.deref_mut.ensures.value c.reopen.new.operations.ok.0 (omega (arith, below, long)) c.freshen.ensures refl)
    ∙ ap (filter (stays c.args.place)) (ap (λ l. take k l ++ map fresh (drop k l)) opened ∙ ap (λ l. l ++ map fresh (drop k (xs ++ rest))) (take-append-le k xs rest (omega (arith, below))) ∙ ap (λ l. take k xs ++ map fresh l) (drop-append-le k xs rest (omega (arith, below))))
    ∙ left c.args.place (take k xs) (drop k xs ++ rest) (fewer_all HasCrashed xs k self.crashed below.0 self.in_front)

front_len : (c : After-retain) → length (front_of c) ≡ c.min-crashed.result
front_len c = let below = few c in length-take-le c.min-crashed.result c.args.self.now.operations.items (omega (arith, below))

pub invariant_of-self : goal.invariant_of-self
invariant_of-self c =
    let it = (goal.at.invariant_of-self c).After-retain in
    let self = c.args.self.now in
    let k = c.min-crashed.result in
    let is = shape it in
    let size = front_len it in
    let long = ap length is ∙ length-append (front_of it) (behind_of it) in
    let opened = ap length c.reopen.ensures.operations ∙ length-append self.operations.items (drop c.args.mark.ended self.ended.items) in
    let kept = ap length c.reopen.ensures.ended in
    record {
      within = omega (arith, size, long, c.retain.new.self.ok.0);
      in_front = subst (All HasCrashed) (sym (ap (take k) is ∙ take_front (front_of it) (behind_of it) k size)) (fewer_all HasCrashed self.operations.items k self.crashed (few it).0 self.in_front);
      behind = subst (All IsAlive) (sym (ap (drop k) is ∙ drop_front (front_of it) (behind_of it) k size)) (alive_before c.args.place (drop k self.operations.items ++ drop c.args.mark.ended self.ended.items));
      room = omega (
        arith,
        self.room,
        c.retain.ensures.bound,
        c.retain.ensures.capacity,
        c.reopen.ensures.capacity,
        opened,
        kept,
        length-drop c.args.mark.ended self.ended.items,
        length-take c.args.mark.ended self.ended.items,
        c.reopen.new.operations.ok.0,
        c.reopen.new.ended.ok.0,
        self.operations.ok.0,
        self.ended.ok.0,
      );
    }

-- the mark isn't of more than there is
exact : (c : After-retain) → c.args.mark.crashed ≤ c.args.self.now.crashed → c.min-crashed.result ≡ c.args.mark.crashed
exact c fits = omega (arith, c.min-crashed.ensures, fits)

pub returns-clause-now : goal.returns-clause-now
returns-clause-now c = λ h past.
    let it = (goal.at.returns-clause-now c).After-retain in
    let self = c.args.self.now in
    let same = ap (λ k. take k self.operations.items ++ called_before c.args.place (drop k self.operations.items ++ drop c.args.mark.ended self.ended.items)) (exact it past.crashed) in
    subst (IsPending (take c.args.place h)) (sym (shape it ∙ same)) past.open_then

pub returns-clause-past : goal.returns-clause-past
returns-clause-past c = λ h earlier other below ahead last past.
    let it = (goal.at.returns-clause-past c).After-retain in
    let self = c.args.self.now in
    let xs = self.operations.items in
    let mark = c.args.mark in
    let is = exact it last.crashed in
    let same = shape it ∙ ap (λ k. take k xs ++ called_before c.args.place (drop k xs ++ drop mark.ended self.ended.items)) is in
    let kept = ap length c.reopen.ensures.ended in
    let moved = back_to c.args.place earlier xs self.ended.items mark other below ahead (omega (arith, few it, is)) last.ended in
    record {
      marked = below;
      crashed = omega (arith, ahead.0, is);
      ended = omega (arith, kept, length-take-le mark.ended self.ended.items last.ended, ahead.1);
      open_then = pending_permuted (take earlier h) (open_at self earlier other) _ (rw (sym c.reopen.ensures.ended) at (rw (sym same) at moved)) past.open_then;
    }

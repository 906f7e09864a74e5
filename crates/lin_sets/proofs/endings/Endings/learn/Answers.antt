use Rattle.std.proofs.Common.{◌≡◌, ◌++◌, ◌∷◌, [], List, None, Some, refl, sym, ap, ◌∙◌}
use Rattle.lin_sets.specs.declared.endings.Ending.{Ending}
use Rattle.lin_sets.specs.Endings.{known_in}
use Rattle.lin_sets.specs.Places.{IsPut}
use Rattle.lin_sets.proofs.Learning.{learned_now, listed_now, listed_same, none_is}
use Rattle.lin_sets.proofs.endings.Endings.learn.Goals as goal
use Rattle.lin_sets.proofs.endings.Endings.learn.Goals.{After-push_reserved}

none : (c : After-push_reserved) → known_in c.args.self.now c.args.item ≡ None
none c = sym c.get.ensures ∙ none_is c.get.result c.is_some.result c.is_some.ensures c.if-is_some.false

put : (c : After-push_reserved) → IsPut c.args.self.now.known c.reset.new.self c.args.item (Some c.args.end)
put c = c.in_ok-list.ensures.listed.over c.reset.new.self (Some c.args.end) (c.reset.ensures c.in_ok-list.ensures.listed.listed)

pub returns-clause-learned : goal.returns-clause-learned
returns-clause-learned c = learned_now c.args.self.now _ c.args.item c.args.end (none c) (put c)

pub returns-clause-listed : goal.returns-clause-listed
returns-clause-listed c = λ listed by. listed_now c.args.self.now _ c.args.item c.args.end (none c) (put c) (c.push_reserved.ensures.items ∙ ap (λ (l : List Ending). l ++ record { item = c.args.item; end = c.args.end } ∷ []) c.reserve.ensures.items) by listed

pub returns-in_err-reserve-clause-listed : goal.returns-in_err-reserve-clause-listed
returns-in_err-reserve-clause-listed c = λ listed by. listed_same c.args.self.now _ c.reserve.ensures.items (λ item. refl) listed

pub returns-in_err-list-clause-listed : goal.returns-in_err-list-clause-listed
returns-in_err-list-clause-listed c = λ listed by. listed_same c.args.self.now _ c.reserve.ensures.items c.list.ensures.same listed

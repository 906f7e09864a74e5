use Rattle.std.proofs.Common.{◌≡◌, refl, ◌∙◌}
use Rattle.lin_events.specs.declared.items.Item.{Item}
use Rattle.lin_events.specs.Items.{item_eq}
use Rattle.lin_events.proofs.items.ItemPartialEq.eq.Goals as goal

same : {a b x y : Item} → a ≡ x → b ≡ y → item_eq x y ≡ item_eq a b
same e f = rw (e, f) refl

pub returns-in-Int-Int : goal.returns-in-Int-Int
returns-in-Int-Int c = c.eq.ensures ∙ same c.in-Int-Int.is-0 c.in-Int-Int.is-1

pub returns-in-Int-Bool : goal.returns-in-Int-Bool
returns-in-Int-Bool c = same c.in-Int-Bool.is-0 c.in-Int-Bool.is-1

pub returns-in-Int-Word : goal.returns-in-Int-Word
returns-in-Int-Word c = same c.in-Int-Word.is-0 c.in-Int-Word.is-1

pub returns-in-Bool-Int : goal.returns-in-Bool-Int
returns-in-Bool-Int c = same c.in-Bool-Int.is-0 c.in-Bool-Int.is-1

pub returns-in-Bool-Bool : goal.returns-in-Bool-Bool
returns-in-Bool-Bool c = same c.in-Bool-Bool.is-0 c.in-Bool-Bool.is-1

pub returns-in-Bool-Word : goal.returns-in-Bool-Word
returns-in-Bool-Word c = same c.in-Bool-Word.is-0 c.in-Bool-Word.is-1

pub returns-in-Word-Int : goal.returns-in-Word-Int
returns-in-Word-Int c = same c.in-Word-Int.is-0 c.in-Word-Int.is-1

pub returns-in-Word-Bool : goal.returns-in-Word-Bool
returns-in-Word-Bool c = same c.in-Word-Bool.is-0 c.in-Word-Bool.is-1

pub returns-in-Word-Word : goal.returns-in-Word-Word
returns-in-Word-Word c = same c.in-Word-Word.is-0 c.in-Word-Word.is-1

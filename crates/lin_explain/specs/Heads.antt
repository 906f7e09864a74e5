-- Words that several answers begin with.
use Rattle.std.specs.Prelude.{ℕ, List, ◌++◌, codes}
use Rattle.lin_events.specs.declared.items.Item.{Item}
use Rattle.lin_objects.specs.declared.kinds.Kind.{Kind}
use Rattle.lin_texts.specs.Items.{item_text}
use Rattle.lin_texts.specs.Kinds.{kind_text}

module _ (names : List (List ℕ)) where
  abbrev pub object_text : Item → Kind → List ℕ
  object_text key kind = codes "object " ++ item_text names key ++ codes " " ++ kind_text kind ++ codes ": "

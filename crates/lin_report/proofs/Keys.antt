-- Keys that are said.
use Rattle.std.proofs.Common.{ℕ, List, Option}
use Rattle.lin_events.specs.declared.items.Item.{Item}
use Rattle.lin_names.specs.Names.{Begins}
use Rattle.lin_names.specs.declared.said.Said.{Said}
use Rattle.lin_names.specs.lemmas.Begins.{agrees_before}
use Rattle.lin_report.specs.AskedKeys.{IsKey}

-- a key is the one that is said by more names too
pub key_on : (old new : List (List ℕ)) (said : Option Said) (key : Option Item) → Begins old new → IsKey old said key → IsKey new said key
key_on old new said key begun is number agrees = is number (agrees_before old new number begun agrees)

-- What is right to answer of an order is one: the law of verdicts.
use Rattle.std.specs.Prelude.{◌≡◌, ℕ, List}
use Rattle.lin_names.specs.Names.{AreEachOnce}
use Rattle.lin_formats.specs.Verdicts.{IsRightBy}
use Rattle.lin_formats.specs.declared.verdicts.OrderVerdict.{OrderVerdict}
use Rattle.lin_texts.specs.declared.settings.Settings.{Settings}

-- for the bytes of a file and the text of an order one verdict is right by the same names
abbrev pub VerdictsAreUnique : Type 0
VerdictsAreUnique = (names : List (List ℕ)) → AreEachOnce names → (settings : Settings) (bytes order : List ℕ) (verdict other : OrderVerdict)
    → IsRightBy names settings bytes order verdict → IsRightBy names settings bytes order other → verdict ≡ other

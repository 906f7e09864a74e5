-- The text of a picture.
use Rattle.std.specs.Prelude.{◌≡◌, ◌++◌, ℕ, List, Option, None, Some, codes}

-- it is an SVG from its first mark to its last; nothing is said of what stands between them
abbrev pub IsSvg : List ℕ → Type 0
IsSvg text = (inside : List ℕ) × (text ≡ (codes "<svg " ++ inside) ++ codes "</svg>\n")

-- so many operations are drawn at most: twenty where nothing is said of that
abbrev pub drawn_at_most : Option ℕ → ℕ
drawn_at_most None = 20
drawn_at_most (Some count) = count

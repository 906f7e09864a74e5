-- Tables of operations and lists of what was possible: lines whose columns are padded with spaces to the widest.
use Rattle.std.specs.Prelude.{ℕ, List, [], ◌∷◌, ◌++◌, ◌-◌, Option, Some, None, codes, decimal, length, map, max, replicate, nat_eq, if◌then◌else◌}
use Rattle.std.specs.List.{flat_map}
use Rattle.lin_tables.specs.declared.tables.ListLine.{ListLine}
use Rattle.lin_tables.specs.declared.tables.TableRow.{TableRow}
use Rattle.lin_tables.specs.declared.tables.LineSpan.{LineSpan}
use Rattle.lin_tables.specs.declared.tables.LineSpan.TheVariants.{Lines, Bytes, Nowhere}

-- two numbers with two dots between them, or the first alone with the dots
abbrev pub range_text : ℕ → Option ℕ → List ℕ
range_text from None = decimal from ++ codes ".."
range_text from (Some to) = decimal from ++ codes ".." ++ decimal to

abbrev pub span_text : LineSpan → List ℕ
span_text (Lines from to) = codes "line " ++ range_text from to
span_text (Bytes from to) = codes "byte " ++ range_text from to
span_text Nowhere = []

-- the text, and spaces that make it so wide
abbrev pub padded : ℕ → List ℕ → List ℕ
padded width text = text ++ replicate (width - length text) 32

abbrev pub widest : List (List ℕ) → ℕ
widest [] = 0
widest (text ∷ texts) = max (length text) (widest texts)

-- the column of places, where there is one
abbrev pub place_column : ℕ → List ℕ → List ℕ
place_column width text = if nat_eq width 0 then [] else padded width text ++ codes "  "

abbrev pub line_text : ℕ → ℕ → TableRow → List ℕ
line_text range span row = (row.mark ∷ codes " ") ++ padded range row.range.items ++ codes "  " ++ place_column span row.span.items ++ row.words.items ++ codes "\n"

abbrev pub table_text : List TableRow → List ℕ
table_text rows = flat_map (line_text (widest (map (λ row. row.range.items) rows)) (widest (map (λ row. row.span.items) rows))) rows

abbrev pub entry_line : ℕ → ListLine → List ℕ
entry_line width entry = codes "  " ++ padded width entry.words.items ++ codes "  after " ++ entry.after.items ++ codes "\n"

abbrev pub list_text : List ListLine → List ℕ
list_text entries = flat_map (entry_line (widest (map (λ entry. entry.words.items) entries))) entries

-- The pieces of which an SVG is put together.
use Rattle.std.specs.Prelude.{ℕ, List, decimal}
use Rattle.lin_draw.specs.declared.canvas.Piece.{Piece}
use Rattle.lin_draw.specs.declared.canvas.Piece.TheVariants.{Plain, Number, Words}
use Rattle.lin_draw.specs.Letters.{shown_text}

-- a plain piece stands as it is, a number by its digits, and so many letters of words so that none is taken for a mark of XML
abbrev pub piece_text : Piece → List ℕ
piece_text (Plain words) = words.now
piece_text (Number number) = decimal number
piece_text (Words words most) = shown_text words.now most

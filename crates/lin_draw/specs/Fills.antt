-- What a bar is filled with.
use Rattle.std.specs.Prelude.{ℕ, List}
use Rattle.lin_draw.specs.Fades.{fade_fill}
use Rattle.lin_draw.specs.declared.bars.Fill.{Fill}
use Rattle.lin_draw.specs.declared.bars.Fill.TheVariants.{Fading, Plain}

-- in a picture whose rows end at a place, where bars that fade out end too
abbrev pub fill_text : Fill → ℕ → List ℕ
fill_text (Plain words) right = words.now
fill_text Fading right = fade_fill right

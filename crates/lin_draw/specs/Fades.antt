-- What the bars of open operations are filled with, which fade out.
use Rattle.std.specs.Prelude.{◌≡◌, ◌<◌, ◌-◌, ◌^◌, ◌++◌, ℕ, List, codes, decimal}

-- Of two elements of one name in a page the first one counts, also for the pictures behind it: so a fade is named by where it ends.
abbrev pub fade_name : ℕ → List ℕ
fade_name right = codes "lincheck-fade-" ++ decimal right

abbrev pub fade_fill : ℕ → List ℕ
fade_fill right = codes "url(#" ++ fade_name right ++ codes ")"

-- it begins so far ahead of that in each picture
abbrev pub fade_width : ℕ
fade_width = 56

abbrev pub fade_text : ℕ → List ℕ
fade_text right = codes "<linearGradient id=\"" ++ fade_name right ++ codes "\" gradientUnits=\"userSpaceOnUse\" y1=\"0\" y2=\"0\" x1=\"" ++ decimal (right - fade_width)
    ++ codes "\" x2=\"" ++ decimal right
    ++ codes "\"><stop class=\"full\" offset=\"0\" stop-color=\"#8fb4ea\"/><stop class=\"gone\" offset=\"1\" stop-color=\"#8fb4ea\" stop-opacity=\"0\"/></linearGradient>\n"

-- fades of one name are the same
abbrev pub NamesTellFades : Type 0
NamesTellFades = (one other : ℕ) → one < 2 ^ 64 → other < 2 ^ 64 → fade_name one ≡ fade_name other → fade_text one ≡ fade_text other

-- The words for the kinds of objects.
use Rattle.std.specs.Prelude.{◌≡◌, List, [], ◌∷◌, ℕ, Option, Some, codes, find, map}
use Rattle.std.specs.Str.{bytes_eq}
use Rattle.lin_objects.specs.declared.kinds.Kind.{Kind}
use Rattle.lin_objects.specs.declared.kinds.Kind.TheVariants.{Register, CasRegister, Fifo, Set, Mutex, Bag}

-- the word for a kind
abbrev pub kind_text : Kind → List ℕ
kind_text Register = codes "register"
kind_text CasRegister = codes "cas-register"
kind_text Fifo = codes "fifo"
kind_text Set = codes "set"
kind_text Mutex = codes "mutex"
kind_text Bag = codes "unordered-queue"

-- all kinds
abbrev pub kinds : List Kind
kinds = Register ∷ CasRegister ∷ Fifo ∷ Set ∷ Mutex ∷ Bag ∷ []

-- the words for all kinds
abbrev pub kind_words : List (List ℕ)
kind_words = map kind_text kinds

-- the kind that a word names, if it names one
abbrev pub kind_named : List ℕ → Option Kind
kind_named word = find (λ kind. bytes_eq (kind_text kind) word) kinds

-- the word for a kind names it
abbrev pub KindWordsAreRead : Type 0
KindWordsAreRead = (kind : Kind) → kind_named (kind_text kind) ≡ Some kind

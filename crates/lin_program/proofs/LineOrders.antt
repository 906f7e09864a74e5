-- The words of `verify`, files and an order, and texts that say none.
use Rattle.std.proofs.Common.{◌≡◌, ◌∙◌, ◌<◌, ◌⊎◌, inl, inr, ◌++◌, ◌∷◌, [], ◌==◌, ◌+◌, cond, ℕ, zero, suc, arith, Bool, true, false, List, Bor, Vec, Global, Some, None, Result, Ok, Err, length, map, refl, sym, ap, subst, true≢false, codes}
use Rattle.std.proofs.lemmas.List.{length-map, map-append}
use Rattle.std.specs.Prelude.{MatchBool, count_by, fold, is_ok}
use Rattle.std.specs.Str.{bytes_eq}
use Rattle.clap.specs.Words.{Row, Text, first_of}
use Rattle.lin_texts.specs.Orders.{SaidPair, order_said, order_written}
use Rattle.lin_names.specs.Names.{Numbering}
use Rattle.lin_formats.specs.Inputs.{AreRefused, AreRefusedFor}
use Rattle.lin_formats.specs.declared.verdicts.Refusal.{Refusal}
use Rattle.lin_formats.specs.declared.verdicts.Refusal.TheVariants.{Edn, Event, Truncated, Full, BadPair, Few}
use Rattle.lin_texts.specs.declared.settings.Settings.{Settings}
use Rattle.lin_program.specs.CommandLine.{EndInOrder, HasSettings, IsUnsaid, SayOrder, Says, input_count, names_input_twice, texts_of}
use Rattle.lin_program.specs.declared.misuse.NoLine.{NoLine}
use Rattle.lin_program.specs.declared.misuse.NoLine.TheVariants.{NoOrder, TwoOrders, Unsaid}
use Rattle.lin_program.specs.declared.words.Line.{Line}
use Rattle.lin_program.specs.declared.words.Line.TheVariants.{Verify}
use Rattle.lin_program.specs.declared.words.OrderSource.TheVariants.{Given, InFile}

last_of : Text → List Text → Text
last_of x [] = x
last_of x (y ∷ ys) = last_of y ys

last_behind : (x : Text) (xs : List Text) (y : Text) → last_of x (xs ++ y ∷ []) ≡ y
unfolding last_of
last_behind x [] y = refl
last_behind x (z ∷ zs) y = last_behind z zs y

pub some_of : (n : ℕ) → false ≡ (n == 0) → 0 < n
some_of zero is = absurd (true≢false (sym is))
some_of (suc n) is = omega arith

-- two lists that are the same have the same last element
same_last : (xs ys : List Text) (x y : Text) → xs ++ x ∷ [] ≡ ys ++ y ∷ [] → x ≡ y
same_last xs ys x y same = sym (last_behind x xs x) ∙ ap (last_of x) same ∙ last_behind x ys y

-- several words end in an order just where the last one is an order's text
pub ends : (names words : List Text) (text : Text) (is : Bool) → words ≡ names ++ text ∷ [] → 0 < length names → is ≡ is_ok (order_written text)
    → MatchBool is (EndInOrder words) (EndInOrder words → ⊥)
ends names words text true split several is = (names, text, split, several, sym is)
ends names words text false split several is =
    λ e. true≢false (sym e.4 ∙ ap (λ t. is_ok (order_written t)) (sym (same_last names e.0 text e.1 (sym split ∙ e.2))) ∙ sym is)

-- the same of words behind references
pub ends_behind : (names words : List (Bor Text)) (text : Bor Text) (is : Bool) → words ≡ names ++ text ∷ [] → 0 < length names → is ≡ is_ok (order_written text.now)
    → MatchBool is (EndInOrder (map (λ w. w.now) words)) (EndInOrder (map (λ w. w.now) words) → ⊥)
ends_behind names words text is split several said =
    ends (map (λ w. w.now) names) (map (λ w. w.now) words) text.now is
    (ap (map (λ (w : Bor Text). w.now)) split ∙ map-append (λ (w : Bor Text). w.now) names (text ∷ []))
    (subst (λ n. 0 < n) (sym (length-map names (λ w. w.now))) several) said

-- what `verify` says with an order
pub says_given : (rows : List Row) (settings : Settings) (words : List (Bor Text)) (line : Line)
    → map (λ w. w.now) words ≡ texts_of (codes "file") rows → None ≡ first_of (codes "order-file") rows → names_input_twice rows ≡ false → HasSettings rows settings
    → ((order : Bor Text) × (files : Vec (Bor Text) Global) × (line ≡ Verify settings (Given order) files) × (0 < length files.items) × (words ≡ files.items ++ order ∷ []))
    → Says (codes "verify", rows) line
says_given rows settings words line are lacks once set said =
    let names = map (λ (w : Bor Text). w.now) said.1.items in
    let split : texts_of (codes "file") rows ≡ names ++ said.0.now ∷ [] =
    sym are ∙ ap (map (λ (w : Bor Text). w.now)) said.4 ∙ map-append (λ (w : Bor Text). w.now) said.1.items (said.0 ∷ []) in
    let ordered : SayOrder (texts_of (codes "file") rows) (first_of (codes "order-file") rows) (Given said.0) names =
    subst (λ o. SayOrder (texts_of (codes "file") rows) o (Given said.0) names) lacks split in
    subst (Says (codes "verify", rows)) (sym said.2)
    (refl, ordered, (subst (λ n. 0 < n) (sym (length-map said.1.items (λ w. w.now))) said.3, once), set)

-- what `verify` says with an order file
pub says_in_file : (rows : List Row) (settings : Settings) (name : Bor Text) (words : Vec (Bor Text) Global) (line : Line)
    → map (λ w. w.now) words.items ≡ texts_of (codes "file") rows → Some name.now ≡ first_of (codes "order-file") rows → names_input_twice rows ≡ false → HasSettings rows settings
    → (line ≡ Verify settings (InFile name) words) × (0 < length words.items) × (EndInOrder (map (λ w. w.now) words.items) → ⊥)
    → Says (codes "verify", rows) line
says_in_file rows settings name words line are names once set said =
    let files = map (λ (w : Bor Text). w.now) words.items in
    let ordered : SayOrder (texts_of (codes "file") rows) (first_of (codes "order-file") rows) (InFile name) files =
    subst (λ o. SayOrder (texts_of (codes "file") rows) o (InFile name) files) names (refl, are, subst (λ ws. EndInOrder ws → ⊥) are said.2) in
    subst (Says (codes "verify", rows)) (sym said.0)
    (refl, ordered, (subst (λ n. 0 < n) (sym (length-map words.items (λ w. w.now))) said.1, once), set)

-- why `verify` says nothing with words and no order file, and with one
pub unsaid_given : (rows : List Row) (words : List (Bor Text)) (why : NoLine) → map (λ w. w.now) words ≡ texts_of (codes "file") rows → None ≡ first_of (codes "order-file") rows
    → (why ≡ NoOrder) × (length words < 2) → IsUnsaid (codes "verify", rows) why
unsaid_given rows words why are lacks unsaid =
    let few : length (texts_of (codes "file") rows) < 2 = subst (λ n. n < 2) (sym (length-map words (λ w. w.now)) ∙ ap length are) unsaid.1 in
    subst (IsUnsaid (codes "verify", rows)) (sym unsaid.0) (refl, sym lacks, few)

pub unsaid_in_file : (rows : List Row) (name : Bor Text) (words : Vec (Bor Text) Global) (why : NoLine) → map (λ w. w.now) words.items ≡ texts_of (codes "file") rows
    → Some name.now ≡ first_of (codes "order-file") rows → (why ≡ Unsaid) ⊎ ((why ≡ TwoOrders) × EndInOrder (map (λ w. w.now) words.items)) → IsUnsaid (codes "verify", rows) why
unsaid_in_file rows name words why are names (inl nothing) = subst (IsUnsaid (codes "verify", rows)) (sym nothing) tt
unsaid_in_file rows name words why are names (inr both) =
    subst (IsUnsaid (codes "verify", rows)) (sym both.0) (refl, (name.now, sym names), subst EndInOrder are both.1)

dash_from : ℕ → List Text → ℕ
dash_from = fold (λ (count : ℕ) (name : Text). count + cond (bytes_eq name (codes "-")) 1 0)

dash_behind_from : ℕ → List (Bor Text) → ℕ
dash_behind_from = fold (λ (count : ℕ) (name : Bor Text). count + cond (bytes_eq name.now (codes "-")) 1 0)

from_any : (count : ℕ) (names : List (Bor Text)) → dash_from count (map (λ n. n.now) names) ≡ dash_behind_from count names
unfolding dash_from dash_behind_from
from_any count [] = refl
from_any count (name ∷ names) = from_any (count + cond (bytes_eq name.now (codes "-")) 1 0) names

-- how many names behind references are that of standard input
pub counted_behind : (names : List (Bor Text)) → input_count (map (λ n. n.now) names) ≡ count_by (λ (n : Bor Text). bytes_eq n.now (codes "-")) names
unfolding dash_from dash_behind_from
counted_behind names = from_any 0 names

-- where an order is read, the text writes one
pub written_where_read : (number : Numbering) (written : Result (List SaidPair) ℕ) → is_ok (order_said number written) ≡ true → is_ok written ≡ true
written_where_read number (Ok pairs) is = refl
written_where_read number (Err at) is = is

none_below : (n : ℕ) → n < 0 → ⊥
none_below n below = omega arith

-- where no event is wanted, a file is refused for a fault of its own
pub refused_anyway : (keyed : Bool) (names : List (List ℕ)) (text : List ℕ) (refusal : Refusal) → AreRefusedFor keyed names 0 text refusal → AreRefused keyed names text refusal
refused_anyway keyed names text (Edn at cause) are = are
refused_anyway keyed names text (Event at cause) are = are
refused_anyway keyed names text (Truncated at) are = are
refused_anyway keyed names text Full are = are
refused_anyway keyed names text (BadPair at) are = are
refused_anyway keyed names text (Few count wanted) are = none_below count (subst (λ n. count < n) are.3 are.4)

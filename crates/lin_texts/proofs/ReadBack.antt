-- What is read of texts that were written.
use Rattle.std.proofs.Common.{◌≡◌, ◌≢◌, ◌==◌, cond, ℕ, suc, ◌+◌, ◌-◌, ◌^◌, ◌<◌, Bool, true, false, List, [], ◌∷◌, ◌++◌, length, get_or, take, drop, filter, map, Some, None, Ok, All, codes, decimal, option_map, refl, sym, ap, subst, ◌∙◌, true≢false, arith, append-nil, append_assoc, length-append, eq-eqb, ne_eqb, lt-ltb, nat_lt}
use Rattle.std.specs.Prelude.{if◌then◌else◌}
use Rattle.std.specs.Fmt.{signed_decimal}
use Rattle.std.specs.List.{flat_map, join_by, position, position_or_len, slice_range}
use Rattle.std.specs.Str.{bytes_eq}
use Rattle.std.proofs.Math.Seq.{take-append_seam, drop-append-add, get_or-append_seam}
use Rattle.std.proofs.lemmas.Fmt.{decimal_nonempty}
use Rattle.std.proofs.lemmas.List.{get_or_append_left}
use Rattle.std.proofs.lemmas.List.Elements.{All-contains, All-head, All-tail}
use Rattle.std.proofs.lemmas.List.Sorted.{Contains-permutation, IsPermutation-sym}
use Rattle.std.proofs.lemmas.List.Sums.{position_or_len_is}
use Rattle.std.proofs.lemmas.Option.{get_or_from_slice_get}
use Rattle.std.proofs.lemmas.Slice.Eq.{bytes_eq-Decides}
use Rattle.lin_lists.specs.lemmas.Elements.{all_of}
use Rattle.lin_bytes.specs.Bytes.{is_digit}
use Rattle.lin_events.specs.declared.items.Item.{Item}
use Rattle.lin_events.specs.declared.items.Item.TheVariants.{Int, Bool as Truth, Word}
use Rattle.lin_events.specs.declared.calls.Val.TheVariants.{Item as Held, Nil}
use Rattle.lin_events.specs.declared.calls.Reply.{Reply}
use Rattle.lin_events.specs.declared.calls.Reply.TheVariants.{Done, Value, Members}
use Rattle.lin_names.specs.Names.{AgreesWith, Numbering}
use Rattle.lin_names.specs.Spelled.{Spelled, truth, number, word, numbered, printed, spelled}
use Rattle.lin_names.specs.lemmas.Printed.{printed_permutes}
use Rattle.lin_order.specs.declared.placed.Placed.{Placed}
use Rattle.lin_texts.specs.Integers.{integer_of, number_of}
use Rattle.lin_texts.specs.Items.{is_word, item_text, item_written, spelled_text}
use Rattle.lin_texts.specs.Parts.{Part, filled_from, is_filled, is_inside, divides, next, parts_from, separator}
use Rattle.lin_texts.specs.Orders.{SaidPair, SaidReply, done, nil, item, members, before_all, before_pairs, is_rising, items_of, members_written, only_rising, order_of, order_said, order_written, pair_at, pair_of, pair_written, pairs_of, pairs_of_words, reply_of, reply_written, said_pair}
use Rattle.lin_texts.specs.Texts.{members_text, order_text, placed_text, reply_text}
use Rattle.lin_texts.specs.OrderLaws.{HasBits, IsItemOfCode, IsPairOfCode, IsReplyOfCode}
use Rattle.lin_texts.specs.declared.parts.Division.{Division}
use Rattle.lin_texts.specs.declared.parts.Division.TheVariants as division
use Rattle.lin_texts.specs.declared.parts.Standing.{Standing}
use Rattle.lin_texts.specs.declared.parts.Standing.TheVariants.{Fresh, Hashed, Quoted, Escaped, Plain}
use Rattle.lin_texts.proofs.Calm.{Begun, colon, quote, hash, passed, IsCalm, calm_on, calm_run, parts_next, parts_one, word_begun, word_calm}
use Rattle.lin_texts.proofs.Digits.{avoids, avoids_at, avoids_decimal, avoids_signed, integer_read, number_read, some_signed}
use Rattle.lin_texts.proofs.Pairs.{pairs_not_empty}
use Rattle.lin_texts.proofs.PrintedSets.{from_map, printed_rises, seen_back, set_back}
use Rattle.lin_texts.proofs.Replies.{placed_at}
use Rattle.lin_texts.proofs.Rising.{is_rising_of}

-- what is seen of items of the code
abbrev IsOfCode : Spelled → Type 0
IsOfCode (truth b) = Unit {0}
IsOfCode (number i) = HasBits i
IsOfCode (word w) = is_word w ≡ true

-- what begins as neither a truth value nor a word is read as an integer
integer_item : (text : List ℕ) → 0 < length text → avoids 116 text ≡ true → avoids 102 text ≡ true → avoids 58 text ≡ true → avoids 34 text ≡ true
    → avoids 35 text ≡ true → item_written text ≡ option_map number (integer_of text)
integer_item [] some t f k q h = absurd (omega arith)
integer_item (c ∷ cs) some t f k q h =
    let no_t = avoids_at 116 (c ∷ cs) 0 t some in
    let no_f = avoids_at 102 (c ∷ cs) 0 f some in
    let no_colon = avoids_at 58 (c ∷ cs) 0 k some in
    let no_quote = avoids_at 34 (c ∷ cs) 0 q some in
    let no_hash = avoids_at 35 (c ∷ cs) 0 h some in
    rw (no_t, no_f, no_colon, no_quote, no_hash)

-- a word is no other text
no_word : (w t : List ℕ) → is_word w ≡ true → is_word t ≡ false → bytes_eq w t ≡ false
no_word w t is other = by (bytes_eq w t) refl
  where
    by : (b : Bool) → bytes_eq w t ≡ b → bytes_eq w t ≡ false
    by true e = absurd (true≢false (sym is ∙ ap is_word ((bytes_eq-Decides w t).0 e) ∙ other))
    by false e = e

item_read : (s : Spelled) → IsOfCode s → item_written (spelled_text s) ≡ Some s
item_read (number i) fits =
    integer_item (signed_decimal i) (some_signed i fits) (avoids_signed 116 i refl refl fits) (avoids_signed 102 i refl refl fits) (avoids_signed 58 i refl refl fits)
    (avoids_signed 34 i refl refl fits) (avoids_signed 35 i refl refl fits)
    ∙ ap (option_map number) (integer_read i fits)
item_read (truth true) fits = refl
item_read (truth false) fits = refl
item_read (word w) fits =
    let rest = option_map number (integer_of w) in
    let other = if is_word w then Some (word w) else rest in
    ap (λ b. if b then Some (truth true) else (if bytes_eq w (codes "false") then Some (truth false) else other)) (no_word w (codes "true") fits refl)
    ∙ ap (λ b. if b then Some (truth false) else other) (no_word w (codes "false") fits refl) ∙ ap (λ b. if b then Some (word w) else rest) fits

-- the separators stand in no number and no truth value
no_digit : (d : Division) → is_digit (separator d) ≡ false
no_digit division.Words = refl
no_digit division.Pairs = refl
no_digit division.Members = refl

no_sign : (d : Division) → (45 == separator d) ≡ false
no_sign division.Words = refl
no_sign division.Pairs = refl
no_sign division.Members = refl

no_truth : (d : Division) → (avoids (separator d) (codes "true") ≡ true) × (avoids (separator d) (codes "false") ≡ true)
no_truth division.Words = (refl, refl)
no_truth division.Pairs = (refl, refl)
no_truth division.Members = (refl, refl)

-- an item is one part
item_calm : (d : Division) → (s : Spelled) → IsOfCode s → IsCalm d Fresh (spelled_text s)
item_calm d (number i) fits = calm_run d Fresh (signed_decimal i) refl (avoids_signed 34 i refl refl fits) (avoids_signed (separator d) i (no_digit d) (no_sign d) fits)
item_calm d (truth true) fits = calm_run d Fresh (codes "true") refl refl (no_truth d).0
item_calm d (truth false) fits = calm_run d Fresh (codes "false") refl refl (no_truth d).1
item_calm d (word w) fits = word_calm d w fits

some_item : (s : Spelled) → IsOfCode s → 0 < length (spelled_text s)
some_item (number i) fits = some_signed i fits
some_item (truth true) fits = omega arith
some_item (truth false) fits = omega arith
some_item (word w) fits = by (word_begun w fits)
  where
    by : Begun w → 0 < length w
    by (colon s is none) = subst (λ t. 0 < length t) (sym is) (omega arith)
    by (quote s is closed) = subst (λ t. 0 < length t) (sym is) (omega arith)
    by (hash s is closed) = subst (λ t. 0 < length t) (sym is) (omega arith)

abbrev joined : List Spelled → List ℕ
joined ss = join_by spelled_text (codes ",") ss

items_read : (at : ℕ) (s : Spelled) (ss : List Spelled) → IsOfCode s → All IsOfCode ss → items_of (parts_from division.Members at (joined (s ∷ ss))) ≡ Some (s ∷ ss)
items_read at s [] fits more =
    ap (λ t. items_of (parts_from division.Members at t)) (append-nil (spelled_text s))
    ∙ ap items_of (parts_one division.Members at (spelled_text s) (item_calm division.Members s fits))
    ∙ ap (λ r. before_all r (Some [])) (item_read s fits)
items_read at s (z ∷ zs) fits more =
    let (p, is) = parts_next division.Members at (spelled_text s) (joined (z ∷ zs)) (item_calm division.Members s fits) in
    ap items_of is ∙ ap (λ r. before_all r (items_of (parts_from division.Members p (joined (z ∷ zs))))) (item_read s fits)
    ∙ ap (before_all (Some s)) (items_read p z zs (All-head IsOfCode z zs more) (All-tail IsOfCode z zs more))

members_read : (ss : List Spelled) → All IsOfCode ss → is_rising ss ≡ true → members_written (joined ss) ≡ Some ss
members_read [] fits rises = refl
members_read (s ∷ ss) fits rises =
    let text = joined (s ∷ ss) in
    let first = All-head IsOfCode s ss fits in
    let some = some_item s first in
    let more : Spelled → List ℕ = λ z. codes "," ++ spelled_text z in
    let size : length text ≢ 0 = λ (e : length text ≡ 0). absurd (omega (arith, length-append (spelled_text s) (flat_map more ss), e)) in
    ap (λ b. cond b (Some []) (only_rising (items_of (parts_from division.Members 0 text)))) (ne_eqb (length text) 0 size)
    ∙ ap only_rising (items_read 0 s ss first (All-tail IsOfCode s ss fits)) ∙ ap (λ b. cond b (Some (s ∷ ss)) None) rises

-- what begins with none of the bytes `d`, `n` and `{` is read as an item
item_reply : (text : List ℕ) → 0 < length text → avoids 100 text ≡ true → avoids 110 text ≡ true → avoids 123 text ≡ true
    → reply_written text ≡ option_map item (item_written text)
item_reply [] some d n b = absurd (omega arith)
item_reply (c ∷ cs) some d n b =
    let no_d = avoids_at 100 (c ∷ cs) 0 d some in
    let no_n = avoids_at 110 (c ∷ cs) 0 n some in
    let no_b = avoids_at 123 (c ∷ cs) 0 b some in
    rw (no_d, no_n, no_b)

-- so is what a word begins
word_reply : (text : List ℕ) → Begun text → reply_written text ≡ option_map item (item_written text)
word_reply text (colon s is none) = subst (λ t. reply_written t ≡ option_map item (item_written t)) (sym is) refl
word_reply text (quote s is closed) = subst (λ t. reply_written t ≡ option_map item (item_written t)) (sym is) refl
word_reply text (hash s is closed) = subst (λ t. reply_written t ≡ option_map item (item_written t)) (sym is) refl

item_reply_read : (s : Spelled) → IsOfCode s → reply_written (spelled_text s) ≡ Some (item s)
item_reply_read (number i) fits =
    item_reply (signed_decimal i) (some_signed i fits) (avoids_signed 100 i refl refl fits) (avoids_signed 110 i refl refl fits) (avoids_signed 123 i refl refl fits)
    ∙ ap (option_map item) (item_read (number i) fits)
item_reply_read (truth true) fits = refl
item_reply_read (truth false) fits = refl
item_reply_read (word w) fits = word_reply w (word_begun w fits) ∙ ap (option_map item) (item_read (word w) fits)

-- what stands between braces
braced_reply : (inside : List ℕ) → reply_written (codes "{" ++ inside ++ codes "}") ≡ option_map members (members_written inside)
braced_reply inside =
    let text = 123 ∷ (inside ++ 125 ∷ []) in
    let size : length text - 1 ≡ length (123 ∷ inside) = omega (arith, length-append inside (125 ∷ [])) in
    let last : get_or text (length text - 1) 0 ≡ 125 = ap (λ k. get_or text k 0) size ∙ get_or-append_seam (123 ∷ inside) 125 [] 0 in
    let count : (length text - 1) - 1 ≡ length inside = omega (arith, size) in
    let part : slice_range text 1 (length text - 1) ≡ inside = ap (λ k. take k (inside ++ 125 ∷ [])) count ∙ take-append_seam inside (125 ∷ []) in
    ap (λ b. if b then option_map members (members_written (slice_range text 1 (length text - 1))) else option_map item (item_written text)) (eq-eqb (get_or text (length text - 1) 0) 125 last)
    ∙ ap (λ s. option_map members (members_written s)) part

-- the first `=` of a text
sign_at : (a b : List ℕ) → avoids 61 a ≡ true → position (λ c. c == 61) (a ++ 61 ∷ b) ≡ Some (length a)
sign_at a b h =
    let text = a ++ 61 ∷ b in
    let size : length text ≡ length a + suc (length b) = length-append a (61 ∷ b) in
    let at : position_or_len (λ c. c == 61) text ≡ length a =
    position_or_len_is (λ c. c == 61) text (length a) 0 (omega arith)
    (λ k inside. ap (λ c. c == 61) (get_or_append_left a (61 ∷ b) 0 k inside) ∙ avoids_at 61 a k h inside)
    (λ inside. ap (λ c. c == 61) (get_or-append_seam a 61 b 0)) in
    ap (λ k. cond (nat_lt k (length text)) (Some k) None) at ∙ ap (λ t. cond t (Some (length a)) None) (lt-ltb (length a) (length text) (omega arith))

-- a byte behind which a string may begin in a pair
abbrev Opens : ℕ → Type 0
Opens c = (standing : Standing) → is_inside standing ≡ false → (divides division.Pairs standing c ≡ false) × (next division.Pairs standing c ≡ Fresh)

sign_opens : Opens 61
sign_opens Fresh out = (refl, refl)
sign_opens Hashed out = (refl, refl)
sign_opens Quoted out = absurd (true≢false out)
sign_opens Escaped out = absurd (true≢false out)
sign_opens Plain out = (refl, refl)

brace_opens : Opens 123
brace_opens Fresh out = (refl, refl)
brace_opens Hashed out = (refl, refl)
brace_opens Quoted out = absurd (true≢false out)
brace_opens Escaped out = absurd (true≢false out)
brace_opens Plain out = (refl, refl)

comma_opens : Opens 44
comma_opens Fresh out = (refl, refl)
comma_opens Hashed out = (refl, refl)
comma_opens Quoted out = absurd (true≢false out)
comma_opens Escaped out = absurd (true≢false out)
comma_opens Plain out = (refl, refl)

calm_behind : (c : ℕ) (standing : Standing) (s : List ℕ) → Opens c → is_inside standing ≡ false → IsCalm division.Pairs Fresh s → IsCalm division.Pairs standing (c ∷ s)
calm_behind c standing s opens out (after, passes, none) =
    let (on, fresh) = opens standing out in
    (after, ap (λ b. cond b None (passed division.Pairs (next division.Pairs standing c) s)) on ∙ ap (λ st. passed division.Pairs st s) fresh ∙ passes, none)

others_calm : (standing : Standing) (ss : List Spelled) → is_inside standing ≡ false → All IsOfCode ss
    → IsCalm division.Pairs standing (flat_map (λ (z : Spelled). codes "," ++ spelled_text z) ss)
others_calm standing [] out fits = (standing, refl, out)
others_calm standing (s ∷ ss) out fits =
    calm_behind 44 standing (spelled_text s ++ flat_map (λ (z : Spelled). codes "," ++ spelled_text z) ss) comma_opens out
    (calm_on division.Pairs Fresh (spelled_text s) _ (item_calm division.Pairs s (All-head IsOfCode s ss fits))
    (λ after none. others_calm after ss none (All-tail IsOfCode s ss fits)))

joined_calm : (ss : List Spelled) → All IsOfCode ss → IsCalm division.Pairs Fresh (joined ss)
joined_calm [] fits = (Fresh, refl, refl)
joined_calm (s ∷ ss) fits =
    calm_on division.Pairs Fresh (spelled_text s) _ (item_calm division.Pairs s (All-head IsOfCode s ss fits)) (λ after none. others_calm after ss none (All-tail IsOfCode s ss fits))

braced_calm : (ss : List Spelled) → All IsOfCode ss → IsCalm division.Pairs Fresh (codes "{" ++ joined ss ++ codes "}")
braced_calm ss fits =
    calm_behind 123 Fresh (joined ss ++ 125 ∷ []) brace_opens refl
    (calm_on division.Pairs Fresh (joined ss) (125 ∷ []) (joined_calm ss fits) (λ after none. calm_run division.Pairs after (125 ∷ []) none refl refl))

module _ (names : List (List ℕ)) (of : Numbering) (agrees : AgreesWith names of) where
  spelled_of_code : (x : Item) → IsItemOfCode names x → IsOfCode (spelled names x)
  spelled_of_code (Int i) fits = fits
  spelled_of_code (Truth b) fits = tt
  spelled_of_code (Word n) fits = ap is_word (get_or_from_slice_get names n fits.0 [] fits.1) ∙ fits.2

  printed_of_code : (xs : List Item) → All (IsItemOfCode names) xs → All IsOfCode (printed names xs)
  printed_of_code xs fits = all_of IsOfCode (printed names xs) (λ s inside.
      let (x, there, e) = from_map (spelled names) xs s (Contains-permutation _ _ s (IsPermutation-sym _ _ (printed_permutes names xs)) inside) in
      subst IsOfCode e (spelled_of_code x (All-contains (IsItemOfCode names) xs x fits there)))

  -- what is said of a reply
  abbrev said : Reply → SaidReply
  said Done = done
  said (Value Nil) = nil
  said (Value (Held x)) = item (spelled names x)
  said (Members xs) = members (printed names xs)

  reply_read : (r : Reply) → IsReplyOfCode names r → reply_written (reply_text names r) ≡ Some (said r)
  reply_read Done fits = refl
  reply_read (Value Nil) fits = refl
  reply_read (Value (Held x)) fits = item_reply_read (spelled names x) (spelled_of_code x fits)
  reply_read (Members xs) fits =
      braced_reply (members_text names xs)
      ∙ ap (option_map members) (members_read (printed names xs) (printed_of_code xs fits.0) (is_rising_of (printed names xs) (printed_rises names of agrees xs fits.0 fits.1)))

  reply_calm : (r : Reply) → IsReplyOfCode names r → IsCalm division.Pairs Fresh (reply_text names r)
  reply_calm Done fits = calm_run division.Pairs Fresh (codes "done") refl refl refl
  reply_calm (Value Nil) fits = calm_run division.Pairs Fresh (codes "nil") refl refl refl
  reply_calm (Value (Held x)) fits = item_calm division.Pairs (spelled names x) (spelled_of_code x fits)
  reply_calm (Members xs) fits = braced_calm (printed names xs) (printed_of_code xs fits.0)

  abbrev said_at : Placed → SaidPair
  said_at pair = record { at = pair.at; reply = said pair.reply }

  pair_read : (pair : Placed) → IsPairOfCode names pair → pair_written (placed_text names pair) ≡ Some (said_at pair)
  pair_read pair fits =
      let at = decimal pair.at in
      let reply = reply_text names pair.reply in
      let text = at ++ 61 ∷ reply in
      ap pair_written (append_assoc at (codes "=") reply)
      ∙ ap (pair_at text) (sign_at at reply (avoids_decimal 61 pair.at refl fits.0))
      ∙ ap (λ s. said_pair (number_of (2 ^ 64 - 1) s) (reply_written (drop (length at + 1) text))) (take-append_seam at (61 ∷ reply))
      ∙ ap (λ s. said_pair (number_of (2 ^ 64 - 1) at) (reply_written s)) (drop-append-add at (61 ∷ reply) 1)
      ∙ ap (λ n. said_pair n (reply_written reply)) (number_read (2 ^ 64 - 1) pair.at fits.0 (omega (arith, fits.0)))
      ∙ ap (said_pair (Some pair.at)) (reply_read pair.reply fits.1)

  pair_calm : (pair : Placed) → IsPairOfCode names pair → IsCalm division.Pairs Fresh (placed_text names pair)
  pair_calm pair fits =
      let at = decimal pair.at in
      let reply = reply_text names pair.reply in
      subst (IsCalm division.Pairs Fresh) (sym (append_assoc at (codes "=") reply))
      (calm_on division.Pairs Fresh at (61 ∷ reply) (calm_run division.Pairs Fresh at refl (avoids_decimal 34 pair.at refl fits.0) (avoids_decimal 32 pair.at refl fits.0))
      (λ after none. calm_behind 61 after reply sign_opens none (reply_calm pair.reply fits.1)))

  -- the word of a pair
  abbrev word_of : ℕ → Placed → Part
  word_of at pair = record { at = at; text = placed_text names pair }

  some_pair : (pair : Placed) → IsPairOfCode names pair → 0 < length (placed_text names pair)
  some_pair pair fits =
      let at = decimal_nonempty pair.at fits.0 in
      omega (arith, at, length-append (decimal pair.at ++ codes "=") (reply_text names pair.reply), length-append (decimal pair.at) (codes "="))

  kept : (at : ℕ) (pair : Placed) (ps : List Part) → IsPairOfCode names pair → filter is_filled (word_of at pair ∷ ps) ≡ word_of at pair ∷ filter is_filled ps
  kept at pair ps fits = ap (λ b. cond b (word_of at pair ∷ filter is_filled ps) (filter is_filled ps)) (lt-ltb 0 (length (placed_text names pair)) (some_pair pair fits))

  abbrev text_of : List Placed → List ℕ
  text_of order = join_by (placed_text names) (codes " ") order

  words_read : (at : ℕ) (x : Placed) (xs : List Placed) → IsPairOfCode names x → All (IsPairOfCode names) xs
      → (rest : List Part) × (filled_from division.Pairs at (text_of (x ∷ xs)) ≡ word_of at x ∷ rest) × (pairs_of rest ≡ Ok (map said_at xs))
  words_read at x [] fits more =
      ([], ap (λ s. filled_from division.Pairs at s) (append-nil (placed_text names x)) ∙ ap (filter is_filled) (parts_one division.Pairs at (placed_text names x) (pair_calm x fits)) ∙ kept at x [] fits, refl)
  words_read at x (y ∷ ys) fits more =
      let here = All-head (IsPairOfCode names) y ys more in
      let (p, is) = parts_next division.Pairs at (placed_text names x) (text_of (y ∷ ys)) (pair_calm x fits) in
      let (rest, words, pairs) = words_read p y ys here (All-tail (IsPairOfCode names) y ys more) in (
        word_of p y ∷ rest,
        ap (filter is_filled) is ∙ kept at x (parts_from division.Pairs p (text_of (y ∷ ys))) fits ∙ ap (λ ws. word_of at x ∷ ws) words,
        ap (λ o. before_pairs p o (pairs_of rest)) (pair_read y here) ∙ ap (before_pairs p (Some (said_at y))) pairs,
      )

  -- a pair is not the word `empty`
  no_empty : (pair : Placed) → IsPairOfCode names pair → bytes_eq (placed_text names pair) (codes "empty") ≡ false
  no_empty pair fits = by (decimal pair.at) (decimal_nonempty pair.at fits.0) (avoids_decimal 101 pair.at refl fits.0)
    where
      by : (at : List ℕ) → 0 < length at → avoids 101 at ≡ true → bytes_eq (at ++ codes "=" ++ reply_text names pair.reply) (codes "empty") ≡ false
      by [] some h = absurd (omega arith)
      by (c ∷ cs) some h = let differs = avoids_at 101 (c ∷ cs) 0 h some in rw differs

  order_said_read : (order : List Placed) → All (IsPairOfCode names) order → order_written (order_text names order) ≡ Ok (map said_at order)
  order_said_read [] fits = refl
  order_said_read (x ∷ xs) fits =
      let here = All-head (IsPairOfCode names) x xs fits in
      let (rest, words, pairs) = words_read 0 x xs here (All-tail (IsPairOfCode names) x xs fits) in
      ap pairs_of_words words ∙ pairs_not_empty (word_of 0 x) rest (no_empty x here)
      ∙ ap (λ o. before_pairs 0 o (pairs_of rest)) (pair_read x here) ∙ ap (before_pairs 0 (Some (said_at x))) pairs

  reply_back : (r : Reply) → IsReplyOfCode names r → reply_of of (said r) ≡ r
  reply_back Done fits = refl
  reply_back (Value Nil) fits = refl
  reply_back (Value (Held x)) fits = ap (λ y. Value (Held y)) (seen_back names of agrees x fits)
  reply_back (Members xs) fits = ap Members (set_back names of agrees xs fits.0 fits.1)

  order_back : (order : List Placed) → All (IsPairOfCode names) order → map (pair_of of) (map said_at order) ≡ order
  order_back [] fits = refl
  order_back (x ∷ xs) fits =
      let here : pair_of of (said_at x) ≡ x = ap (λ (r : Reply). placed_at x.at r) (reply_back x.reply (All-head (IsPairOfCode names) x xs fits).1) in
      let rest = order_back xs (All-tail (IsPairOfCode names) x xs fits) in
      (λ i. here i ∷ rest i)

  pub order_read : (order : List Placed) → All (IsPairOfCode names) order → order_of of (order_text names order) ≡ Ok order
  order_read order fits = ap (order_said of) (order_said_read order fits) ∙ ap Ok (order_back order fits)

  pub written_item : (x : Item) → IsItemOfCode names x → option_map (numbered of) (item_written (item_text names x)) ≡ Some x
  written_item x fits = ap (option_map (numbered of)) (item_read (spelled names x) (spelled_of_code x fits)) ∙ ap Some (seen_back names of agrees x fits)

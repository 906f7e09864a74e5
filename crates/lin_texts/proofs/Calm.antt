-- Texts that no separator divides, since each stands in a string.
use Rattle.std.proofs.Common.{◌≡◌, ◌==◌, ◌&&◌, ◌||◌, not, cond, ℕ, suc, ◌+◌, Bool, true, false, List, [], ◌∷◌, ◌++◌, length, drop, Option, Some, None, refl, sym, ap, subst, ◌∙◌, true≢false, arith, append-nil, eq-eqb, eqb-true, ne_eqb, nat_lt, get_or, ◌⊎◌, inl, inr}
use Rattle.std.specs.Prelude.{if◌then◌else◌}
use Rattle.std.specs.List.{list_any}
use Rattle.std.specs.Option.{option_eq}
use Rattle.lin_bytes.specs.Bytes.{ends, escapes, is_stop, stays}
use Rattle.lin_bytes.specs.TextEnds.{by_quoted, closing_end}
use Rattle.lin_texts.specs.Items.{is_closed, is_keyword, is_string, is_word}
use Rattle.lin_texts.specs.Parts.{Part, behind, divides, is_inside, next, opens, parts_from, parts_on, separator, with_first}
use Rattle.lin_texts.specs.declared.parts.Division.{Division}
use Rattle.lin_texts.specs.declared.parts.Division.TheVariants.{Words, Pairs, Members}
use Rattle.lin_texts.specs.declared.parts.Standing.{Standing}
use Rattle.lin_texts.specs.declared.parts.Standing.TheVariants.{Fresh, Hashed, Quoted, Escaped, Plain}
use Rattle.lin_texts.proofs.PartsOfTexts.{no_front, part_at, with_front}
use Rattle.lin_texts.proofs.Digits.{avoids, both, is_not}

-- how the byte behind a text stands, where nothing divides the text
abbrev pub passed : Division → Standing → List ℕ → Option Standing
passed division standing [] = Some standing
passed division standing (c ∷ s) = cond (divides division standing c) None (passed division (next division standing c) s)

-- nothing divides the text, and no string is open behind it
abbrev pub IsCalm : Division → Standing → List ℕ → Type 0
IsCalm division standing s = (after : Standing) × (passed division standing s ≡ Some after) × (is_inside after ≡ false)

passed_on : (division : Division) (standing after : Standing) (s t : List ℕ) → passed division standing s ≡ Some after
    → passed division standing (s ++ t) ≡ passed division after t
passed_on division standing after [] t h = let same : standing ≡ after = cc in ap (λ st. passed division st t) same
passed_on division standing after (c ∷ s) t h = by (divides division standing c) h (passed_on division (next division standing c) after s t)
  where
    by : (b : Bool) → cond b None (passed division (next division standing c) s) ≡ Some after
        → (passed division (next division standing c) s ≡ Some after → passed division (next division standing c) (s ++ t) ≡ passed division after t)
        → cond b None (passed division (next division standing c) (s ++ t)) ≡ passed division after t
    by true e rest = absurd (cc)
    by false e rest = rest e

-- a text behind a calm one
pub calm_on : (division : Division) (standing : Standing) (s t : List ℕ) → IsCalm division standing s
    → ((after : Standing) → is_inside after ≡ false → IsCalm division after t) → IsCalm division standing (s ++ t)
calm_on division standing s t (middle, passes, none) more =
    let (after, on, out) = more middle none in (after, passed_on division standing middle s t passes ∙ on, out)

-- a byte that is no quote opens no string
next_calm : (division : Division) → (standing : Standing) (c : ℕ) → is_inside standing ≡ false → (c == 34) ≡ false → is_inside (next division standing c) ≡ false
next_calm division standing c out other = by standing out
  where
    opened : (b : Bool) → is_inside (if b then Fresh else Plain) ≡ false
    opened true = refl
    opened false = refl

    hashed : (b : Bool) → is_inside (if b then Hashed else behind division c) ≡ false
    hashed true = refl
    hashed false = opened (opens division c)

    by : (st : Standing) → is_inside st ≡ false → is_inside (next division st c) ≡ false
    by Fresh e = ap (λ b. is_inside (if b then Quoted else (if c == 35 then Hashed else behind division c))) other ∙ hashed (c == 35)
    by Hashed e = ap (λ b. is_inside (if b then Quoted else behind division c)) other ∙ opened (opens division c)
    by Quoted e = absurd (true≢false e)
    by Escaped e = absurd (true≢false e)
    by Plain e = opened (opens division c)

-- a text with no quote and no separator
pub calm_run : (division : Division) → (standing : Standing) (s : List ℕ) → is_inside standing ≡ false → avoids 34 s ≡ true → avoids (separator division) s ≡ true
    → IsCalm division standing s
calm_run division standing [] out quotes separators = (standing, refl, out)
calm_run division standing (c ∷ s) out quotes separators =
    let quote = both (not (c == 34)) (avoids 34 s) quotes in
    let parts = both (not (c == separator division)) (avoids (separator division) s) separators in
    let (after, passes, rest) = calm_run division (next division standing c) s (next_calm division standing c out (is_not (c == 34) quote.0)) quote.1 parts.1 in
    let on : divides division standing c ≡ false =
    ap (λ b. not b && (c == separator division)) out ∙ is_not (c == separator division) parts.0 in
    (after, ap (λ b. cond b None (passed division (next division standing c) s)) on ∙ passes, rest)

-- a string from a place behind its opening quote
abbrev open_as : Bool → Standing
open_as true = Escaped
open_as false = Quoted

closed_run : (division : Division) (escaped : Bool) (q : ℕ) (s : List ℕ) → closing_end escaped q s ≡ Some (q + length s) → passed division (open_as escaped) s ≡ Some Plain
closed_run division escaped q [] h = absurd (cc)
closed_run division true q (b ∷ s) h =
    let place : q + length (b ∷ s) ≡ (q + 1) + length s = omega arith in
    closed_run division false (q + 1) s (h ∙ ap Some place)
closed_run division false q (b ∷ s) h = by (b == 34) (b == 92) h (closed_run division true (q + 1) s) (closed_run division false (q + 1) s)
  where
    place : q + length (b ∷ s) ≡ (q + 1) + length s
    place = omega arith

    last : (t : List ℕ) → Some (q + 1) ≡ Some (q + suc (length t)) → passed division Plain t ≡ Some Plain
    last [] e = refl
    last (c ∷ t) e = let same : q + 1 ≡ q + suc (length (c ∷ t)) = cc in absurd (omega (arith, same))

    by : (ends_it escapes_it : Bool)
        → by_quoted (if ends_it then ends else (if escapes_it then escapes else stays)) (Some (q + 1)) (closing_end true (q + 1) s) (closing_end false (q + 1) s) ≡ Some (q + length (b ∷ s))
        → (closing_end true (q + 1) s ≡ Some ((q + 1) + length s) → passed division Escaped s ≡ Some Plain)
        → (closing_end false (q + 1) s ≡ Some ((q + 1) + length s) → passed division Quoted s ≡ Some Plain)
        → passed division (if ends_it then Plain else (if escapes_it then Escaped else Quoted)) s ≡ Some Plain
    by true other e escaped more = last s e
    by false true e escaped more = escaped (e ∙ ap Some place)
    by false false e escaped more = more (e ∙ ap Some place)

closed_end : (from : ℕ) (text : List ℕ) → is_closed from text ≡ true → closing_end false from (drop from text) ≡ Some (length text)
closed_end from text h = by (closing_end false from (drop from text)) h
  where
    by : (r : Option ℕ) → option_eq ◌==◌ r (Some (length text)) ≡ true → r ≡ Some (length text)
    by None e = absurd (true≢false (sym e))
    by (Some k) e = ap Some (eqb-true k (length text) e)

-- no quote and no hash divides
quote_on : (division : Division) → divides division Fresh 34 ≡ false
quote_on Words = refl
quote_on Pairs = refl
quote_on Members = refl

hash_on : (division : Division) → divides division Fresh 35 ≡ false
hash_on Words = refl
hash_on Pairs = refl
hash_on Members = refl

quote_behind : (division : Division) → divides division Hashed 34 ≡ false
quote_behind Words = refl
quote_behind Pairs = refl
quote_behind Members = refl

both_ways : (a b : Bool) → a || b ≡ true → (a ≡ true) ⊎ (b ≡ true)
both_ways true b h = inl refl
both_ways false b h = inr h

neither : (a b : Bool) → a || b ≡ false → (a ≡ false) × (b ≡ false)
neither true b h = absurd (true≢false h)
neither false b h = (refl, h)

three : (a b c : Bool) → a && b && c ≡ true → (a ≡ true) × (b ≡ true) × (c ≡ true)
three true true true h = (refl, refl, refl)
three true true false h = absurd (true≢false (sym h))
three true false c h = absurd (true≢false (sym h))
three false b c h = absurd (true≢false (sym h))

-- a string that begins with a quote
quoted_calm : (division : Division) (s : List ℕ) → is_closed 1 (34 ∷ s) ≡ true → IsCalm division Fresh (34 ∷ s)
quoted_calm division s closed =
    let place : length (34 ∷ s) ≡ 1 + length s = omega arith in
    let run = closed_run division false 1 s (closed_end 1 (34 ∷ s) closed ∙ ap Some place) in
    (Plain, ap (λ b. cond b None (passed division Quoted s)) (quote_on division) ∙ run, refl)

-- and one with a hash in front
hashed_calm : (division : Division) (s : List ℕ) → is_closed 2 (35 ∷ 34 ∷ s) ≡ true → IsCalm division Fresh (35 ∷ 34 ∷ s)
hashed_calm division s closed =
    let place : length (35 ∷ 34 ∷ s) ≡ 2 + length s = omega arith in
    let run = closed_run division false 2 s (closed_end 2 (35 ∷ 34 ∷ s) closed ∙ ap Some place) in
    (Plain, ap (λ b. cond b None (passed division Hashed (34 ∷ s))) (hash_on division) ∙ ap (λ b. cond b None (passed division Quoted s)) (quote_behind division) ∙ run, refl)

first_byte : (k : ℕ) (text : List ℕ) → (0 == k) ≡ false → (get_or text 0 0 == k) ≡ true → (s : List ℕ) × (text ≡ k ∷ s)
first_byte k [] some h = absurd (true≢false (sym h ∙ some))
first_byte k (c ∷ s) some h = (s, ap (λ b. b ∷ s) (eqb-true c k h))

-- how a word begins
pub data Begun (text : List ℕ) : Type 0 where
  colon : (s : List ℕ) → text ≡ 58 ∷ s → list_any is_stop s ≡ false → Begun text
  quote : (s : List ℕ) → text ≡ 34 ∷ s → is_closed 1 (34 ∷ s) ≡ true → Begun text
  hash : (s : List ℕ) → text ≡ 35 ∷ 34 ∷ s → is_closed 2 (35 ∷ 34 ∷ s) ≡ true → Begun text

keyword_begun : (text : List ℕ) → is_keyword text ≡ true → Begun text
keyword_begun text h =
    let parts = three (get_or text 0 0 == 58) (nat_lt 1 (length text)) (not (list_any is_stop (drop 1 text))) h in
    let (s, is) = first_byte 58 text refl parts.0 in
    colon s is (subst (λ t. list_any is_stop (drop 1 t) ≡ false) is (is_not (list_any is_stop (drop 1 text)) parts.2))

string_begun : (text : List ℕ) → is_string text ≡ true → Begun text
string_begun text h = by (both_ways ((get_or text 0 0 == 34) && is_closed 1 text) ((get_or text 0 0 == 35) && (get_or text 1 0 == 34) && is_closed 2 text) h)
  where
    second : (s : List ℕ) → text ≡ 35 ∷ s → (get_or text 1 0 == 34) ≡ true → (t : List ℕ) × (text ≡ 35 ∷ 34 ∷ t)
    second s is next_is =
        let (t, same) = first_byte 34 s refl (subst (λ u. (get_or u 1 0 == 34) ≡ true) is next_is) in
        (t, is ∙ ap (λ u. 35 ∷ u) same)

    by : ((get_or text 0 0 == 34) && is_closed 1 text ≡ true) ⊎ ((get_or text 0 0 == 35) && (get_or text 1 0 == 34) && is_closed 2 text ≡ true) → Begun text
    by (inl g) =
        let parts = both (get_or text 0 0 == 34) (is_closed 1 text) g in
        let (s, is) = first_byte 34 text refl parts.0 in
        quote s is (subst (λ t. is_closed 1 t ≡ true) is parts.1)
    by (inr g) =
        let parts = three (get_or text 0 0 == 35) (get_or text 1 0 == 34) (is_closed 2 text) g in
        let (s, is) = first_byte 35 text refl parts.0 in
        let (t, same) = second s is parts.1 in
        hash t same (subst (λ u. is_closed 2 u ≡ true) same parts.2)

pub word_begun : (text : List ℕ) → is_word text ≡ true → Begun text
word_begun text h = by (both_ways (is_keyword text) (is_string text) (both (is_keyword text || is_string text) (not (list_any (λ c. c == 10) text)) h).0)
  where
    by : (is_keyword text ≡ true) ⊎ (is_string text ≡ true) → Begun text
    by (inl g) = keyword_begun text g
    by (inr g) = string_begun text g

-- a byte that stops a run stands in no row of bytes without such
avoids_stop : (k : ℕ) (s : List ℕ) → is_stop k ≡ true → list_any is_stop s ≡ false → avoids k s ≡ true
avoids_stop k [] stop none = refl
avoids_stop k (x ∷ s) stop none =
    let parts = neither (is_stop x) (list_any is_stop s) none in
    let differs : (x == k) ≡ false = ne_eqb x k (λ e. true≢false (sym stop ∙ ap is_stop (sym e) ∙ parts.0)) in
    ap (λ b. not b && avoids k s) differs ∙ avoids_stop k s stop parts.1

separator_stops : (division : Division) → (is_stop (separator division) ≡ true) × ((58 == separator division) ≡ false)
separator_stops Words = (refl, refl)
separator_stops Pairs = (refl, refl)
separator_stops Members = (refl, refl)

-- a word is one part
pub word_calm : (division : Division) → (text : List ℕ) → is_word text ≡ true → IsCalm division Fresh text
word_calm division text h = by (word_begun text h)
  where
    by : Begun text → IsCalm division Fresh text
    by (colon s is none) =
        let (stop, other) = separator_stops division in
        subst (IsCalm division Fresh) (sym is)
        (calm_run division Fresh (58 ∷ s) refl (avoids_stop 34 s refl none) (ap (λ b. not b && avoids (separator division) s) other ∙ avoids_stop (separator division) s stop none))
    by (quote s is closed) = subst (IsCalm division Fresh) (sym is) (quoted_calm division s closed)
    by (hash s is closed) = subst (IsCalm division Fresh) (sym is) (hashed_calm division s closed)

-- Where nothing divides a text, it stands in front of the first part of what follows.
parts_pass : (division : Division) (standing after : Standing) (at : ℕ) (s t : List ℕ) → passed division standing s ≡ Some after
    → (p : ℕ) × (parts_on division standing at (s ++ t) ≡ with_front at s (parts_on division after p t))
parts_pass division standing after at [] t h =
    let same : standing ≡ after = cc in
    (at, no_front division standing at t ∙ ap (λ st. with_front at [] (parts_on division st at t)) same)
parts_pass division standing after at (c ∷ s) t h = by (divides division standing c) refl h (parts_pass division (next division standing c) after (suc at) s t)
  where
    first : (place : ℕ) (parts : List Part) → with_first at c (with_front place s parts) ≡ with_front at (c ∷ s) parts
    first place [] = refl
    first place (part ∷ parts) = refl

    by : (b : Bool) → divides division standing c ≡ b → cond b None (passed division (next division standing c) s) ≡ Some after
        → (passed division (next division standing c) s ≡ Some after
        → (p : ℕ) × (parts_on division (next division standing c) (suc at) (s ++ t) ≡ with_front (suc at) s (parts_on division after p t)))
        → (p : ℕ) × (parts_on division standing at (c ∷ s ++ t) ≡ with_front at (c ∷ s) (parts_on division after p t))
    by true on e more = absurd (cc)
    by false on e more =
        let (p, rest) = more e in (
          p,
          ap (λ b. if b then part_at at [] ∷ parts_on division Fresh (suc at) (s ++ t) else with_first at c (parts_on division (next division standing c) (suc at) (s ++ t))) on
              ∙ ap (with_first at c) rest ∙ first (suc at) (parts_on division after p t),
        )

-- the part that is a whole text
pub parts_one : (division : Division) (at : ℕ) (w : List ℕ) → IsCalm division Fresh w → parts_from division at w ≡ (record { at = at; text = w }) ∷ []
parts_one division at w (after, passes, out) =
    let (p, is) = parts_pass division Fresh after at w [] passes in
    ap (parts_from division at) (sym (append-nil w)) ∙ is ∙ ap (λ s. part_at at s ∷ []) (append-nil w)

-- the part before a separator
pub parts_next : (division : Division) (at : ℕ) (w s : List ℕ) → IsCalm division Fresh w
    → (p : ℕ) × (parts_from division at (w ++ separator division ∷ s) ≡ (record { at = at; text = w }) ∷ parts_from division p s)
parts_next division at w s (after, passes, out) =
    let (p, is) = parts_pass division Fresh after at w (separator division ∷ s) passes in
    let on : divides division after (separator division) ≡ true =
    ap (λ b. not b && (separator division == separator division)) out ∙ eq-eqb (separator division) (separator division) refl in (
      suc p,
      is ∙ ap (λ b. with_front at w (if b then part_at p [] ∷ parts_on division Fresh (suc p) s else with_first p (separator division) (parts_on division (next division after (separator division)) (suc p) s))) on
          ∙ ap (λ u. part_at at u ∷ parts_from division (suc p) s) (append-nil w),
    )

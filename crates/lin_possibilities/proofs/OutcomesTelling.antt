-- What is told of all that some order shows.
use Rattle.std.proofs.Common.{◌≡◌, ◌+◌, ◌<◌, ℕ, zero, suc, false, List, [], ◌∷◌, length, get_or, map, take, All, refl, sym, ap, subst, ◌∙◌, arith, is_lt}
use Rattle.std.specs.Prelude.{◌≢◌, option_map}
use Rattle.std.specs.List.{AllZip}
use Rattle.std.specs.List.Sorted.{IsPermutation}
use Rattle.std.proofs.lemmas.List.{get_or-map, length-map, take-map}
use Rattle.std.proofs.lemmas.List.Elements.{All-map}
use Rattle.std.proofs.lemmas.List.Sorted.{All-permutation, Contains-permutation, IsPermutation-map}
use Rattle.lin_lists.specs.lemmas.Taken.{element_at}
use Rattle.lin_names.specs.Spelled.{Spelled}
use Rattle.lin_order.specs.declared.placed.Placed.{Placed}
use Rattle.lin_possibilities.specs.After.{IsWay}
use Rattle.lin_possibilities.specs.Possible.{AreShown}
use Rattle.lin_tables.specs.declared.tables.ListLine.{ListLine}
use Rattle.lin_possibilities.specs.Ranks.{IsRisingBy, members_in, rank_cmp}
use Rattle.lin_possibilities.specs.Outcomes.{AreAll, IsEntry, IsListing}
use Rattle.lin_possibilities.specs.Words.{leading_to}
use Rattle.lin_possibilities.specs.inner.OutcomesTelling.{AreListed, AreTold, IsTold, Leads, rank_in, words_in}
use Rattle.lin_possibilities.specs.declared.listing.Leading.{Leading}
use Rattle.lin_possibilities.specs.declared.listing.Listed.{Listed}
use Rattle.lin_possibilities.specs.declared.possibilities.Possibility.{Possibility}
use Rattle.lin_possibilities.specs.declared.told.Told.{Told}
use Rattle.lin_possibilities.specs.declared.words.Extent.{Extent}
use Rattle.lin_possibilities.specs.declared.words.Extent.TheVariants.{Short, Whole}
use Rattle.lin_possibilities.proofs.Permuting.{pairs_permuted, zip_permuted}
use Rattle.lin_possibilities.proofs.Zips.{zip_at, zip_from, zip_length}

-- lists that are told by the same words
module _ (words_of : Told → List ℕ) where
  map_same : (xs ys : List Told) → AllZip (λ x y. words_of x ≡ words_of y) xs ys → map words_of xs ≡ map words_of ys
  map_same [] [] zip = refl
  map_same [] (y ∷ ys) zip = absurd zip
  map_same (x ∷ xs) [] zip = absurd zip
  map_same (x ∷ xs) (y ∷ ys) zip = let rest = map_same xs ys zip.1 in let first = zip.0 in cc

  pub words_same : (xs ys : List Told) → length xs ≡ length ys → ((k : ℕ) (d e : Told) → k < length xs → words_of (get_or xs k d) ≡ words_of (get_or ys k e)) → map words_of xs ≡ map words_of ys
  words_same xs ys long each = map_same xs ys (zip_from (λ x y. words_of x ≡ words_of y) xs ys long each)

  pub words_long : (xs ys : List Told) → map words_of xs ≡ map words_of ys → length xs ≡ length ys
  words_long xs ys same = sym (length-map xs words_of) ∙ ap length same ∙ length-map ys words_of

  pub words_at : (xs ys : List Told) → map words_of xs ≡ map words_of ys → (k : ℕ) (d e : Told) → k < length xs → words_of (get_or xs k d) ≡ words_of (get_or ys k e)
  words_at xs ys same k d e within =
      let long = words_long xs ys same in
      sym (get_or-map words_of xs k d [] within) ∙ ap (λ l. get_or l k []) same ∙ get_or-map words_of ys k e [] (omega arith)

-- found in another order, told in the same
pub told_in_order : (names : List (List ℕ)) {T : Type 0} (shows : List Placed → T → Type 0) (tells : ℕ → List Placed → Type 0) (rank : T → ℕ × List Spelled) (made : T → Possibility) (found : List (T × ℕ)) (told sorted : List Told)
    → AreShown shows tells found → AllZip (IsTold names rank made) found told → IsPermutation told sorted → IsRisingBy (λ t. rank_in names t.rank) sorted → AreTold names shows tells rank made sorted
told_in_order names {T} shows tells rank made found told sorted shown zip perm rising =
    let other = zip_permuted (IsTold names rank made) found told sorted zip perm in
    let ws : List (T × ℕ) = other.0 in
    record {
      found = ws;
      shown = record {
        sound = All-permutation (λ (e : T × ℕ). (order : List Placed) × tells e.1 order × shows order e.0) found ws other.1 shown.sound;
        complete = λ order what is. Contains-permutation (map (λ (e : T × ℕ). e.0) found) (map (λ (e : T × ℕ). e.0) ws) what (IsPermutation-map (λ (e : T × ℕ). e.0) found ws other.1) (shown.complete order what is);
        once = pairs_permuted (λ (d e : T × ℕ). d.0 ≢ e.0) (λ x y differ same. differ (sym same)) found ws other.1 shown.once;
      };
      each = other.2;
      rising = rising;
    }

module _ (names : List (List ℕ)) {T : Type 0} (shows : List Placed → T → Type 0) (tells : ℕ → List Placed → Type 0) (rank : T → ℕ × List Spelled) (made : T → Possibility) (told : List Told) (are : AreTold names shows tells rank made told) where
  abbrev what_of : T × ℕ → T
  what_of e = e.0

  -- all of them, as they are told
  abbrev pub all_told : List T
  all_told = map what_of are.found

  pub all_long : length told ≡ length all_told
  all_long = sym (zip_length (IsTold names rank made) are.found told are.each) ∙ sym (length-map are.found what_of)

  reads : (k : ℕ) (d : T) → k < length told → get_or all_told k d ≡ (get_or are.found k (d, 0)).0
  reads k d within = let long = zip_length (IsTold names rank made) are.found told are.each in get_or-map what_of are.found k (d, 0) d (omega arith)

  rising_all : IsRisingBy rank all_told
  rising_all k d from before =
      let long = all_long in
      let some = element_at told k (omega arith) in
      let t : Told = some.0 in
      let many = zip_length (IsTold names rank made) are.found told are.each in
      let at : (i : ℕ) → i < length told → rank_in names (get_or told i t).rank ≡ rank (get_or all_told i d) =
      λ i within. (zip_at (IsTold names rank made) are.found told are.each i (d, 0) t (omega arith)).ranked ∙ ap rank (sym (reads i d within)) in
      let one = at (k + 1) (omega arith) in
      let other = at k (omega arith) in
      subst (λ r. is_lt (rank_cmp r (rank (get_or all_told k d))) ≡ false) one
      (subst (λ r. is_lt (rank_cmp (rank_in names (get_or told (k + 1) t).rank) r) ≡ false) other (are.rising k t from (omega arith)))

  pub all_are : AreAll shows rank all_told
  all_are = record {
    sound = All-map (λ what. (order : List Placed) × shows order what) what_of are.found (λ k d within. let s = are.shown.sound k d within in (s.0, s.2));
    complete = λ order what is. are.shown.complete order what is;
    once = λ i j d before within same.
        let long = all_long in
        are.shown.once i j (d, 0) before (let many = length-map are.found what_of in omega arith) (sym (reads i d (omega arith)) ∙ same ∙ reads j d (omega arith));
    rising = rising_all;
  }

  words_zip : (words : Possibility → List ℕ) (found : List (T × ℕ)) (ts : List Told) → AllZip (IsTold names rank made) found ts → map (λ x. words (made x)) (map what_of found) ≡ map (λ (t : Told). words t.what) ts
  words_zip words [] [] zip = refl
  words_zip words [] (t ∷ ts) zip = absurd zip
  words_zip words (e ∷ es) [] zip = absurd zip
  words_zip words (e ∷ es) (t ∷ ts) zip =
      let rest = words_zip words es ts zip.1 in
      let first : words t.what ≡ words (made e.0) = ap words zip.0.same in
      cc

  pub all_words : (words : Possibility → List ℕ) → map (λ x. words (made x)) all_told ≡ map (λ (t : Told). words t.what) told
  all_words words = words_zip words are.found told are.each

-- the lines tell of what was found
module _ {T : Type 0} (shows : List Placed → T → Type 0) (rank : T → ℕ × List Spelled) (made : T → Possibility) (by : Leading) where
  -- the words of what was made of it
  abbrev pub made_words : Extent → T → List ℕ
  made_words extent what = words_in extent by.names.now (members_in (option_map (λ r. r.now) by.recorded)) (made what)

  abbrev IsShown : T × ℕ → Type 0
  IsShown e = (order : List Placed) × IsWay by.possible.now e.1 order × shows order e.0

  abbrev IsLine : T → ListLine → Type 0
  IsLine what entry = IsEntry by.names.now shows (made_words Short) (leading_to by.call) by.events.now what entry

  line_of : (e : T × ℕ) (t : Told) (entry : ListLine) → IsShown e → IsTold by.names.now rank made e t → Leads by t entry → IsLine e.0 entry
  line_of e t entry s is leads = record {
    told = leads.same ∙ ap (words_in Short by.names.now (members_in (option_map (λ r. r.now) by.recorded))) is.same;
    order = s.0;
    shown = s.2;
    after = leads.after s.0 (subst (λ w. IsWay by.possible.now w s.0) (sym is.way) s.1);
  }

  pub lines_of : (most : ℕ) (found : List (T × ℕ)) (told : List Told) (entries : List ListLine) → All IsShown found → AllZip (IsTold by.names.now rank made) found told → AllZip (Leads by) (take most told) entries
      → AllZip IsLine (take most (map (λ (e : T × ℕ). e.0) found)) entries
  lines_of zero found told [] s zip leads = tt
  lines_of zero found told (entry ∷ entries) s zip leads = absurd leads
  lines_of (suc n) [] [] [] s zip leads = tt
  lines_of (suc n) [] [] (entry ∷ entries) s zip leads = absurd leads
  lines_of (suc n) [] (t ∷ ts) entries s zip leads = absurd zip
  lines_of (suc n) (e ∷ es) [] entries s zip leads = absurd zip
  lines_of (suc n) (e ∷ es) (t ∷ ts) [] s zip leads = absurd leads
  lines_of (suc n) (e ∷ es) (t ∷ ts) (entry ∷ entries) s zip leads =
      (line_of e t entry (s 0 e (omega arith)) zip.0 leads.0, lines_of n es ts entries (λ k d within. s (suc k) d (omega arith)) zip.1 leads.1)

-- of all of them the first are listed
pub listing_from : {T : Type 0} (shows : List Placed → T → Type 0) (rank : T → ℕ × List Spelled) (made : T → Possibility) (by : Leading) (told : List Told) (are : AreTold by.names.now shows (IsWay by.possible.now) rank made told) (most : ℕ) (listed : Listed)
    → AreListed by most told listed
    → IsListing (IsEntry by.names.now shows (made_words shows rank made by Short) (leading_to by.call) by.events.now) (made_words shows rank made by Whole) most (all_told by.names.now shows (IsWay by.possible.now) rank made told are) listed
listing_from shows rank made by told are most listed is =
    let words = words_in Whole by.names.now (members_in (option_map (λ r. r.now) by.recorded)) in
    let all = all_told by.names.now shows (IsWay by.possible.now) rank made told are in
    record {
      counted = is.counted ∙ all_long by.names.now shows (IsWay by.possible.now) rank made told are;
      entries = lines_of shows rank made by most are.found told listed.entries.items are.shown.sound are.each is.lines;
      whole = is.whole ∙ sym (take-map (λ (t : Told). words t.what) most told)
          ∙ ap (take most) (sym (all_words by.names.now shows (IsWay by.possible.now) rank made told are words))
          ∙ take-map (λ x. words (made x)) most all;
    }

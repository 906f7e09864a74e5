-- Values that are told alike are the same.
use Rattle.std.proofs.Common.{◌≡◌, inl, inr, ℕ, true, false, List, [], ap, refl, sym, ◌∙◌, codes, Some, None}
use Rattle.std.specs.Fmt.{signed_decimal}
use Rattle.std.specs.Option.{option_map, unwrap_or}
use Rattle.std.proofs.lemmas.Option.{get_or_from_slice_get, slice_get_cases, unwrap_or-slice_get}
use Rattle.lin_events.specs.declared.items.Item.{Item}
use Rattle.lin_events.specs.declared.items.Item.TheVariants as item
use Rattle.lin_events.specs.declared.calls.Val.{Val}
use Rattle.lin_events.specs.declared.calls.Val.TheVariants.{Item as Held, Nil}
use Rattle.lin_events.specs.declared.calls.Reply.TheVariants.{Value}
use Rattle.lin_names.specs.Names.{AreEachOnce, NumberingsAgree, number_of}
use Rattle.lin_names.specs.Spelled.{numbered, spelling_of}
use Rattle.lin_tables.specs.Values.{short_item_text, value_text}
use Rattle.lin_tables.proofs.Apart.{IsTold, undotted, undotted_number, words_apart}
use Rattle.lin_texts.specs.Items.{item_text, item_written}
use Rattle.lin_texts.specs.OrderLaws.{IsItemOfCode, IsReplyOfCode, WrittenItemsAreRead}

-- an item's word is one of the names, or there is none
word_told : (names : List (List ℕ)) (n : ℕ) → IsTold names (spelling_of names n)
word_told names n = elim (slice_get_cases names n).1 [
  | inl found ↦ inl (n, found.2 ∙ ap Some (sym (get_or_from_slice_get names n found.0 [] found.2)))
  | inr outside ↦ inr (sym (unwrap_or-slice_get names n []) ∙ ap (λ o. unwrap_or o []) outside.1)
]

pub texts_told : (names : List (List ℕ)) (one other : Item) → short_item_text names one ≡ short_item_text names other → item_text names one ≡ item_text names other
texts_told names (item.Int i) (item.Int j) told = told
texts_told names (item.Int i) (item.Bool true) told = told
texts_told names (item.Int i) (item.Bool false) told = told
texts_told names (item.Int i) (item.Word n) told = sym (undotted names (spelling_of names n) (signed_decimal i) (undotted_number i) (sym told))
texts_told names (item.Bool true) (item.Int j) told = told
texts_told names (item.Bool false) (item.Int j) told = told
texts_told names (item.Bool true) (item.Bool true) told = told
texts_told names (item.Bool true) (item.Bool false) told = told
texts_told names (item.Bool false) (item.Bool true) told = told
texts_told names (item.Bool false) (item.Bool false) told = told
texts_told names (item.Bool true) (item.Word n) told = sym (undotted names (spelling_of names n) (codes "true") refl (sym told))
texts_told names (item.Bool false) (item.Word n) told = sym (undotted names (spelling_of names n) (codes "false") refl (sym told))
texts_told names (item.Word m) (item.Int j) told = undotted names (spelling_of names m) (signed_decimal j) (undotted_number j) told
texts_told names (item.Word m) (item.Bool true) told = undotted names (spelling_of names m) (codes "true") refl told
texts_told names (item.Word m) (item.Bool false) told = undotted names (spelling_of names m) (codes "false") refl told
texts_told names (item.Word m) (item.Word n) told = words_apart names (spelling_of names m) (spelling_of names n) (word_told names m) (word_told names n) told

module _ (read : WrittenItemsAreRead) (agree : NumberingsAgree) (names : List (List ℕ)) (once : AreEachOnce names) where
  reads : (i : Item) → IsItemOfCode names i → option_map (numbered (number_of names)) (item_written (item_text names i)) ≡ Some i
  reads i fits = read names (number_of names) i (agree names once) fits

  some_same : (i j : Item) → Some i ≡ Some j → i ≡ j
  some_same i j same = cc

  items_told : (i j : Item) → IsItemOfCode names i → IsItemOfCode names j → item_text names i ≡ item_text names j → i ≡ j
  items_told i j fits also same = some_same i j (sym (reads i fits) ∙ ap (λ t. option_map (numbered (number_of names)) (item_written t)) same ∙ reads j also)

  -- no item has the text of nil
  nil_text : (i : Item) → codes "nil" ≡ short_item_text names i → item_text names i ≡ codes "nil"
  nil_text (item.Int i) told = sym told
  nil_text (item.Bool true) told = sym told
  nil_text (item.Bool false) told = sym told
  nil_text (item.Word n) told = undotted names (spelling_of names n) (codes "nil") refl (sym told)

  never_nil : (i : Item) → IsItemOfCode names i → codes "nil" ≡ short_item_text names i → ⊥
  never_nil i fits told =
      let none : option_map (numbered (number_of names)) (item_written (item_text names i)) ≡ None = ap (λ t. option_map (numbered (number_of names)) (item_written t)) (nil_text i told) in
      let some = reads i fits in
      cc

  pub values_told : (one other : Val) → IsReplyOfCode names (Value one) → IsReplyOfCode names (Value other) → value_text names one ≡ value_text names other → one ≡ other
  values_told Nil Nil fits also told = refl
  values_told Nil (Held j) fits also told = absurd (never_nil j also told)
  values_told (Held i) Nil fits also told = absurd (never_nil i fits (sym told))
  values_told (Held i) (Held j) fits also told = ap Held (items_told i j fits also (texts_told names i j told))

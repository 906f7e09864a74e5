use Rattle.std.proofs.Common.{ℕ, ◌+◌, ◌<◌, List, [], ◌∷◌, ◌++◌, get_or, length, take, subst, sym}
use Rattle.std.specs.List.{AllZip}
use Rattle.std.proofs.lemmas.List.{take_more}
use Rattle.lin_lists.specs.lemmas.Taken.{zip_push}
use Rattle.lin_tables.specs.declared.tables.TableRow.{TableRow}
use Rattle.lin_tables.specs.WindowTables.{IsRow, told_of}
use Rattle.lin_tables.proofs.rows.rows_of.Goals as goal

zip_more : {A B : Type 0} (R : A → B → Type 0) (xs : List A) (ys : List B) (i : ℕ) (d : A) (y : B) → i < length xs → AllZip R (take i xs) ys → R (get_or xs i d) y → AllZip R (take (i + 1) xs) (ys ++ y ∷ [])
zip_more R xs ys i d y inside zip is = subst (λ l. AllZip R l (ys ++ y ∷ [])) (sym (take_more xs i d inside)) (zip_push R (take i xs) ys (get_or xs i d) y zip is)

pub loop-chosen-preserved : goal.loop-chosen-preserved
loop-chosen-preserved c =
    let s = told_of c.args.stretch.now in
    let shown = c.args.shown.now in
    let i = c.loop-chosen.chosen-index in
    subst (AllZip (IsRow s) (take (i + 1) shown)) (sym {A = List TableRow} c.in_ok-push.ensures.items)
    (zip_more (IsRow s) shown c.loop-chosen.rows.items i _ c.in_ok-row_of.field-0 c.loop-chosen-test.true c.loop-chosen.invariant c.in_ok-row_of.ensures)

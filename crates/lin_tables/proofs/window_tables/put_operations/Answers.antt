use Rattle.std.proofs.Common.{◌++◌, All, append_assoc, ap, inl, length, subst, sym, refl, ◌∙◌}
use Rattle.std.specs.List.{AllZip}
use Rattle.std.proofs.lemmas.Result.{on_ok_weaker}
use Rattle.lin_lists.specs.lemmas.Elements.{all_of}
use Rattle.lin_tables.specs.Tables.{table_text}
use Rattle.lin_tables.specs.WindowOperations.{IsInvoked}
use Rattle.lin_tables.specs.WindowTables.{IsRow, listing_of, more_text, told_of}
use Rattle.lin_tables.specs.declared.marks.Chosen.{Chosen}
use Rattle.lin_tables.proofs.Marking.{mark_invoked}
use Rattle.lin_tables.proofs.window_tables.put_operations.Goals as goal

pub rows_of-requires-clause-begin : goal.rows_of-requires-clause-begin
rows_of-requires-clause-begin c =
    let h = c.args.stretch.now.events.now in
    let choice = c.in_ok-choice.ensures in
    subst (All (λ (x : Chosen). IsInvoked h x.at)) (sym c.as_slice.ensures.value)
    (all_of (λ (x : Chosen). IsInvoked h x.at) c.in_ok-choice.choice.shown.items (λ x there. mark_invoked h (listing_of c.args.listed.now) x.at x.mark ((choice.2.all x).1 (inl there))))

pub returns : goal.returns
returns c =
    let s = told_of c.args.stretch.now in
    let old = c.args.text.now.items in
    let choice = c.in_ok-choice.ensures in
    let rows = c.in_ok-rows.rows.items in
    let more = c.in_ok-choice.choice.more in
    on_ok_weaker c.put_more.result
    (λ put. (
      table_text rows ++ more_text (length choice.0),
      record {
        shown = c.in_ok-choice.choice.shown.items;
        left = choice.0;
        rows = rows;
        chosen = choice.2;
        lines = subst (λ l. AllZip (IsRow s) l rows) c.as_slice.ensures.value c.in_ok-rows.ensures;
        is = refl;
      },
      put ∙ ap (λ t. t ++ more_text more) (c.in_ok-put_table.ensures ∙ ap (λ r. old ++ table_text r) c.as_slice-2.ensures.value) ∙ append_assoc old (table_text rows) (more_text more)
          ∙ ap (λ m. old ++ (table_text rows ++ more_text m)) choice.1,
    ))
    c.put_more.ensures

use Rattle.std.proofs.Common.{ap, ◌∙◌, map, ◌++◌, ◌∷◌, [], None, option_map, sym}
use Rattle.std.proofs.lemmas.List.{map-append}
use Rattle.lin_edn.proofs.Flat.{flat_pair}
use Rattle.lin_bytes.specs.Bytes.{a_map}
use Rattle.lin_edn.specs.Grammar.{frame}
use Rattle.lin_edn.specs.inner.Levels.{flat}
use Rattle.lin_edn.specs.View.{view, entry_view}
use Rattle.lin_edn.proofs.levels.with_element.Goals as goal

pub returns-in_ok-push-in-Some : goal.returns-in_ok-push-in-Some
returns-in_ok-push-in-Some c =
    let old = map entry_view c.args.entries.items in
    ap (λ l. frame a_map c.args.at (flat (map entry_view l) None)) c.in_ok-push-in-Some.ensures.items
    ∙ ap (λ l. frame a_map c.args.at (flat l None)) (map-append entry_view c.args.entries.items (c.entry_of.result ∷ []))
    ∙ ap (λ x. frame a_map c.args.at (flat (old ++ x ∷ []) None)) c.entry_of.ensures
    ∙ ap (frame a_map c.args.at) (flat_pair old (view c.in-Some.key) (view c.args.element))
    ∙ ap (λ o. frame a_map c.args.at (flat old (option_map view o) ++ view c.args.element ∷ [])) (sym c.in-Some.is)

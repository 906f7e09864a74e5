use Rattle.std.proofs.Common.{◌+◌, ℕ, sym, subst, ap, ◌∙◌}
use Rattle.lin_edn.specs.Grammar.{Spells}
use Rattle.lin_formats.specs.Places.{place_at}
use Rattle.lin_formats.proofs.Marking.{lone_sound, lone_unsound, marked_sound, marked_bad}
use Rattle.lin_formats.proofs.PlacesReading.{IsPlaced, front_element, front_bad}
use Rattle.lin_formats.proofs.mark.read_map.Goals as goal

pub returns-then-branch-clause-front : goal.returns-then-branch-clause-front
returns-then-branch-clause-front c = λ k v spelled none said.
    let begun = c.go_to-begun.result in
    let old = c.args.places.now.items in
    let new = c.mark_said.new.places.items in
    let put = marked_sound k v begun.place old new c.in_ok-mark_said.field-0 c.if-branch.true (c.in_ok-mark_said.ensures.marked k v said) in
    let placed : IsPlaced c.args.text.now c.args.place begun = λ whole p is h. c.go_to-begun.ensures.place whole p is h ∙ ap (λ i. place_at whole (p + i)) (sym c.go_to-begun.ensures.at) in
    let there : Spells c.args.text.now v begun.at c.args.map.used = subst (λ (i : ℕ). Spells c.args.text.now v i c.args.map.used) (sym c.go_to-begun.ensures.at) spelled in
    front_element k c.args.text.now c.args.place old new v c.args.map.at c.args.map.used begun c.go_to.result spelled c.go_to-begun.ensures.at c.go_to.ensures.at placed
    (lone_sound k c.args.text.now v begun c.go_to.result c.args.map.used old new there none put
    (λ whole p is h. c.go_to.ensures.place whole p is h ∙ ap (λ i. place_at whole (p + i)) (sym c.go_to.ensures.at)))

pub returns-else-branch-clause-front : goal.returns-else-branch-clause-front
returns-else-branch-clause-front c = λ k v spelled none said.
    let begun = c.go_to-begun.result in
    let old = c.args.places.now.items in
    let new = c.mark_said.new.places.items in
    let placed : IsPlaced c.args.text.now c.args.place begun = λ whole p is h. c.go_to-begun.ensures.place whole p is h ∙ ap (λ i. place_at whole (p + i)) (sym c.go_to-begun.ensures.at) in
    let there : Spells c.args.text.now v begun.at c.args.map.used = subst (λ (i : ℕ). Spells c.args.text.now v i c.args.map.used) (sym c.go_to-begun.ensures.at) spelled in
    rw c.ends.ensures (front_bad k c.args.text.now c.args.place old new v c.args.map.at c.args.map.used begun begun.place spelled placed
    (lone_unsound k c.args.text.now v begun c.args.map.used old new there none
    (marked_bad k v begun.place old new c.in_ok-mark_said.field-0 c.if-branch.false (c.in_ok-mark_said.ensures.marked k v said))))

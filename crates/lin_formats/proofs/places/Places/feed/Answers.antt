use Rattle.std.proofs.Common.{◌≡◌, List, ℕ, ◌++◌, false, refl, sym, subst, ◌∙◌}
use Rattle.lin_names.specs.Names.{AgreesWith}
use Rattle.lin_history.specs.Reading.{Reading}
use Rattle.std.proofs.lemmas.Bool.{false≢true}
use Rattle.lin_formats.specs.Places.{IsHeld, Marked, Marks, is_bad}
use Rattle.lin_formats.proofs.Feeding.{Laws, marks_behind, marks_taken}
use Rattle.lin_formats.proofs.places.Places.feed.Goals as goal

pub returns-then-is_bad-clause-feeds : goal.returns-then-is_bad-clause-feeds
returns-then-is_bad-clause-feeds c =
    let old : Marked = record { keyed = c.self.inside.keyed; places = c.self.inside.places.items; stop = c.self.inside.stop; next = c.self.inside.next; held = c.self.inside.held.items } in
    let laws : Laws = record { spelled = c.places.ensures.spelled; passed = c.places.ensures.passed; spelled_stays = c.more_bytes.ensures.spelled; passed_stays = c.more_bytes.ensures.passed } in
    subst (λ (m : Marked). (m.keyed ≡ m.keyed) × ((k : Reading) → AgreesWith c.args.names.now k.number → (text : List ℕ) → Marks k m text → Marks k m (text ++ c.args.piece.now) × (is_bad m.stop ≡ false → IsHeld m (text ++ c.args.piece.now)))) c.self.view_is (
      refl,
      λ k agrees text m. (
        marks_behind laws c.places.ensures.refused c.faults_stay.ensures k old c.args.piece.now text (sym c.is_bad.ensures ∙ c.if-is_bad.true) m,
        λ calm. absurd (false≢true (sym calm ∙ sym c.is_bad.ensures ∙ c.if-is_bad.true)),
      ),
    )

pub returns-in-Ok-clause-feeds : goal.returns-in-Ok-clause-feeds
returns-in-Ok-clause-feeds c =
    let old : Marked = record { keyed = c.self.inside.keyed; places = c.self.inside.places.items; stop = c.self.inside.stop; next = c.self.inside.next; held = c.self.inside.held.items } in
    let new : Marked = record { keyed = c.self.inside.keyed; places = c.take_in.new.places.items; stop = c.in-Ok.read.stop; next = c.in-Ok.read.next.place; held = c.take_in.new.held.items } in
    let laws : Laws = record { spelled = c.places.ensures.spelled; passed = c.places.ensures.passed; spelled_stays = c.more_bytes.ensures.spelled; passed_stays = c.more_bytes.ensures.passed } in
    subst (λ (m : Marked). (c.self.inside.keyed ≡ m.keyed) × ((k : Reading) → AgreesWith c.take_in.new.names k.number → (text : List ℕ) → Marks k m text → Marks k new (text ++ c.args.piece.now) × (is_bad m.stop ≡ false → IsHeld new (text ++ c.args.piece.now)))) c.self.view_is (
      refl,
      λ k agrees text m.
          let taken = marks_taken laws k old c.args.piece.now text c.take_in.new.held.items c.take_in.new.places.items c.in-Ok.read (sym c.is_bad.ensures ∙ c.if-is_bad.false)
          c.in-Ok.ensures.cut (c.in-Ok.ensures.read k (m.keyed, agrees)) m in
          (taken.0, λ calm. taken.1),
    )

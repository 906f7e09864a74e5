use Rattle.std.proofs.Common.{[], refl, append-nil, ◌≡◌, ◌+◌, ◌<◌, ◌≤◌, ℕ, List, take, drop, map, sym, subst, ap, ◌∙◌, arith}
use Rattle.std.proofs.lemmas.List.{length-map, take_all}
use Rattle.lin_names.specs.lemmas.Begins.{begins_itself, begins_on}
use Rattle.lin_edn.specs.Value.{Value, values_of}
use Rattle.lin_edn.specs.View.{view}
use Rattle.lin_history.specs.Stream.{told_by}
use Rattle.lin_formats.specs.inner.Marks.{IsAmong, IsSound, IsUnsound}
use Rattle.lin_formats.specs.Places.{ArePlaces, place_at}
use Rattle.lin_formats.proofs.Marking.{put_again, reading_before, took, all_items, among_item, among_ends, marked_sound, marked_bad, sound_next, sound_later, unsound_next}
use Rattle.lin_formats.proofs.mark.mark_all.Goals as goal

pub element_at-requires-clause-stands : goal.element_at-requires-clause-stands
element_at-requires-clause-stands c =
    let n = among_item c.args.text.now c.loop-item.next.at c.args.part.until c.args.items.now c.loop-item.item-index c.item-item.result c.loop-item-test.true c.item-item.is c.loop-item.invariant.among in
    (view c.item-item.result, n.begun, n.used, n.stands_at)

pub go_to-here-requires-clause-later : goal.go_to-here-requires-clause-later
go_to-here-requires-clause-later c =
    let n = among_item c.args.text.now c.loop-item.next.at c.args.part.until c.args.items.now c.loop-item.item-index c.item-item.result c.loop-item-test.true c.item-item.is c.loop-item.invariant.among in
    let here = c.in_ok-begun.ensures (view c.item-item.result) n.begun n.used n.stands_at in
    let begun : c.in_ok-begun.begun ≡ n.begun = here.0 in
    let used : c.in_ok-begun.used ≡ n.used = here.1 in
    let later : c.loop-item.next.at ≤ n.begun = n.later in
    let some : n.begun < n.used = n.some in
    let ends : n.used ≤ c.args.part.until = n.ends in
    let inside = n.among.inside in
    omega arith

pub go_to-here-requires-clause-inside : goal.go_to-here-requires-clause-inside
go_to-here-requires-clause-inside c =
    let n = among_item c.args.text.now c.loop-item.next.at c.args.part.until c.args.items.now c.loop-item.item-index c.item-item.result c.loop-item-test.true c.item-item.is c.loop-item.invariant.among in
    let here = c.in_ok-begun.ensures (view c.item-item.result) n.begun n.used n.stands_at in
    let begun : c.in_ok-begun.begun ≡ n.begun = here.0 in
    let used : c.in_ok-begun.used ≡ n.used = here.1 in
    let later : c.loop-item.next.at ≤ n.begun = n.later in
    let some : n.begun < n.used = n.some in
    let ends : n.used ≤ c.args.part.until = n.ends in
    let inside = n.among.inside in
    omega arith

pub loop-item-init : goal.loop-item-init
loop-item-init c =
    let places = c.args.places.now.items in
    record {
      begun = begins_itself c.args.names.now;
      fits = c.requires.fits;
      behind = omega arith;
      among = c.requires.among;
      put = ([], sym (append-nil places));
      sound = λ k is. ([], refl, λ whole p es up. (up.2, subst (λ l. ArePlaces k whole l places) (sym (append-nil es)) up.3));
    }

pub returns-in_err-begun-clause-begun : goal.returns-in_err-begun-clause-begun
returns-in_err-begun-clause-begun c = c.loop-item.invariant.begun

pub returns-in_err-begun-clause-put : goal.returns-in_err-begun-clause-put
returns-in_err-begun-clause-put c = c.loop-item.invariant.put

pub returns-in_err-mark_one-clause-begun : goal.returns-in_err-mark_one-clause-begun
returns-in_err-mark_one-clause-begun c = begins_on c.args.names.now c.loop-item.names c.mark_one.new.names c.loop-item.invariant.begun c.in_err-mark_one.ensures.begun

pub returns-in_err-mark_one-clause-put : goal.returns-in_err-mark_one-clause-put
returns-in_err-mark_one-clause-put c = put_again _ _ _ c.loop-item.invariant.put c.in_err-mark_one.ensures.put

pub returns-then-not-branch-clause-begun : goal.returns-then-not-branch-clause-begun
returns-then-not-branch-clause-begun c = begins_on c.args.names.now c.loop-item.names c.mark_one.new.names c.loop-item.invariant.begun c.in_ok-mark_one.ensures.begun

pub returns-then-not-branch-clause-put : goal.returns-then-not-branch-clause-put
returns-then-not-branch-clause-put c = put_again _ _ _ c.loop-item.invariant.put c.in_ok-mark_one.ensures.put

pub returns-then-not-branch-clause-marked : goal.returns-then-not-branch-clause-marked
returns-then-not-branch-clause-marked c = λ k is.
    let n = among_item c.args.text.now c.loop-item.next.at c.args.part.until c.args.items.now c.loop-item.item-index c.item-item.result c.loop-item-test.true c.item-item.is c.loop-item.invariant.among in
    let here = c.in_ok-begun.ensures (view c.item-item.result) n.begun n.used n.stands_at in
    let begun : c.in_ok-begun.begun ≡ n.begun = here.0 in
    let before = reading_before c.args.keyed c.loop-item.names c.mark_one.new.names k c.in_ok-mark_one.ensures.begun is in
    let place : (whole : List ℕ) (p : ℕ) → c.args.text.now ≡ drop p whole → c.loop-item.next.place ≡ place_at whole (p + c.loop-item.next.at) → c.go_to-here.result.place ≡ place_at whole (p + n.begun) =
    λ whole p is h. c.go_to-here.ensures.place whole p is h ∙ ap (λ i. place_at whole (p + i)) begun in
    let bad = marked_bad k (view c.item-item.result) c.go_to-here.result.place c.loop-item.places.items c.mark_one.new.places.items c.in_ok-mark_one.field-0 c.if-not-branch.true (c.in_ok-mark_one.ensures.marked k is) in
    subst (λ (l : List Value). IsUnsound k c.args.text.now (told_by k (values_of l)) c.args.part.from c.args.places.now.items c.go_to-here.result.place c.mark_one.new.places.items)
    (all_items c.args.items.now c.loop-item.item-index c.item-item.result c.loop-item-test.true c.item-item.is)
    (unsound_next k c.args.text.now c.loop-item.next.at c.args.part.until (take c.loop-item.item-index (map view c.args.items.now)) (drop (c.loop-item.item-index + 1) (map view c.args.items.now))
    (view c.item-item.result) c.args.part.from c.loop-item.next c.go_to-here.result c.args.places.now.items c.loop-item.places.items c.mark_one.new.places.items n bad.0 place (c.loop-item.invariant.sound k before) bad.1 bad.2)

pub go_to-next-requires-clause-later : goal.go_to-next-requires-clause-later
go_to-next-requires-clause-later c =
    let n = among_item c.args.text.now c.loop-item.next.at c.args.part.until c.args.items.now c.loop-item.item-index c.item-item.result c.loop-item-test.true c.item-item.is c.loop-item.invariant.among in
    let here = c.in_ok-begun.ensures (view c.item-item.result) n.begun n.used n.stands_at in
    let begun : c.in_ok-begun.begun ≡ n.begun = here.0 in
    let used : c.in_ok-begun.used ≡ n.used = here.1 in
    let later : c.loop-item.next.at ≤ n.begun = n.later in
    let some : n.begun < n.used = n.some in
    let ends : n.used ≤ c.args.part.until = n.ends in
    let inside = n.among.inside in
    let at : c.go_to-here.result.at ≡ c.in_ok-begun.begun = c.go_to-here.ensures.at in
    omega arith

pub go_to-next-requires-clause-inside : goal.go_to-next-requires-clause-inside
go_to-next-requires-clause-inside c =
    let n = among_item c.args.text.now c.loop-item.next.at c.args.part.until c.args.items.now c.loop-item.item-index c.item-item.result c.loop-item-test.true c.item-item.is c.loop-item.invariant.among in
    let here = c.in_ok-begun.ensures (view c.item-item.result) n.begun n.used n.stands_at in
    let begun : c.in_ok-begun.begun ≡ n.begun = here.0 in
    let used : c.in_ok-begun.used ≡ n.used = here.1 in
    let later : c.loop-item.next.at ≤ n.begun = n.later in
    let some : n.begun < n.used = n.some in
    let ends : n.used ≤ c.args.part.until = n.ends in
    let inside = n.among.inside in
    omega arith

pub loop-item-preserved : goal.loop-item-preserved
loop-item-preserved c =
    let n = among_item c.args.text.now c.loop-item.next.at c.args.part.until c.args.items.now c.loop-item.item-index c.item-item.result c.loop-item-test.true c.item-item.is c.loop-item.invariant.among in
    let here = c.in_ok-begun.ensures (view c.item-item.result) n.begun n.used n.stands_at in
    let begun : c.in_ok-begun.begun ≡ n.begun = here.0 in
    let used : c.in_ok-begun.used ≡ n.used = here.1 in
    let place : (whole : List ℕ) (p : ℕ) → c.args.text.now ≡ drop p whole → c.loop-item.next.place ≡ place_at whole (p + c.loop-item.next.at) → c.go_to-here.result.place ≡ place_at whole (p + n.begun) =
    λ whole p is h. c.go_to-here.ensures.place whole p is h ∙ ap (λ i. place_at whole (p + i)) begun in
    let list = took c.args.items.now c.loop-item.item-index c.item-item.result c.loop-item-test.true c.item-item.is in
    let at : n.used ≡ c.go_to-next.result.at = sym used ∙ sym c.go_to-next.ensures.at in
    record {
      begun = begins_on c.args.names.now c.loop-item.names c.mark_one.new.names c.loop-item.invariant.begun c.in_ok-mark_one.ensures.begun;
      fits = c.go_to-next.ensures.fits;
      behind = omega (arith, c.loop-item.invariant.behind, c.go_to-here.ensures.behind, c.go_to-next.ensures.behind);
      among = subst (λ (i : ℕ). IsAmong c.args.text.now i (take (c.loop-item.item-index + 1) (map view c.args.items.now)) (drop (c.loop-item.item-index + 1) (map view c.args.items.now)) c.args.part.until) at
          (subst (λ (l : List Value). IsAmong c.args.text.now n.used l (drop (c.loop-item.item-index + 1) (map view c.args.items.now)) c.args.part.until) list n.among);
      put = put_again _ _ _ c.loop-item.invariant.put c.in_ok-mark_one.ensures.put;
      sound = λ k is.
          let before = reading_before c.args.keyed c.loop-item.names c.mark_one.new.names k c.in_ok-mark_one.ensures.begun is in
          let put = marked_sound k (view c.item-item.result) c.go_to-here.result.place c.loop-item.places.items c.mark_one.new.places.items c.in_ok-mark_one.field-0 c.if-not-branch.false (c.in_ok-mark_one.ensures.marked k is) in
          let sound = sound_next k c.args.text.now c.loop-item.next.at c.args.part.until (take c.loop-item.item-index (map view c.args.items.now)) (drop (c.loop-item.item-index + 1) (map view c.args.items.now))
          (view c.item-item.result) c.args.part.from c.loop-item.next c.go_to-here.result c.args.places.now.items c.loop-item.places.items c.mark_one.new.places.items n
          (c.go_to-here.ensures.at ∙ begun) place (c.loop-item.invariant.sound k before) put in
          subst (λ (l : List Value). IsSound k c.args.text.now (told_by k (values_of l)) c.args.part.from c.args.places.now.items c.go_to-next.result c.mark_one.new.places.items) list
          (sound_later k c.args.text.now _ c.args.part.from c.go_to-here.result c.go_to-next.result c.args.places.now.items c.mark_one.new.places.items
          (λ whole p is h. c.go_to-next.ensures.place whole p is h ∙ ap (λ i. place_at whole (p + i)) (sym c.go_to-next.ensures.at)) sound);
    }

pub go_to-requires-clause-later : goal.go_to-requires-clause-later
go_to-requires-clause-later c =
    among_ends _ _ _ _ _ c.loop-item.invariant.among

pub returns-clause-marked : goal.returns-clause-marked
returns-clause-marked c = λ k is.
    let items = map view c.args.items.now in
    let size = length-map c.args.items.now view in
    let behind = c.loop-item-test.false in
    let all : take c.loop-item.item-index items ≡ items = take_all c.loop-item.item-index items (omega arith) in
    subst (λ (l : List Value). IsSound k c.args.text.now (told_by k (values_of l)) c.args.part.from c.args.places.now.items c.go_to.result c.loop-item.places.items) all
    (sound_later k c.args.text.now _ c.args.part.from c.loop-item.next c.go_to.result c.args.places.now.items c.loop-item.places.items
    (λ whole p is h. c.go_to.ensures.place whole p is h ∙ ap (λ i. place_at whole (p + i)) (sym c.go_to.ensures.at)) (c.loop-item.invariant.sound k is))

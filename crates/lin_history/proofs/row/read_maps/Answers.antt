use Rattle.std.proofs.Common.{◌≡◌, ◌<◌, ◌≤◌, length, sym, ap, ◌∙◌, subst, arith, [], ◌∷◌, ◌++◌}
use Rattle.lin_names.specs.lemmas.Begins.{begins_itself, begins_on}
use Rattle.lin_edn.specs.Rows.{IsRow, row_end}
use Rattle.lin_edn.specs.View.{view}
use Rattle.lin_history.proofs.Reading.{reading_before}
use Rattle.lin_history.specs.PassedMaps.{counted}
use Rattle.lin_history.proofs.Counting.{row_keywords, row_more}
use Rattle.lin_history.proofs.Waiting.{row_told}
use Rattle.lin_history.proofs.row.read_maps.Goals as goal

pub maps-init : goal.maps-init
maps-init c = record { begun = begins_itself c.args.names.now; row = c.requires; told = λ m is row. row }

pub maps-smaller-in_ok-pass_usual-in-Some : goal.maps-smaller-in_ok-pass_usual-in-Some
maps-smaller-in_ok-pass_usual-in-Some c =
    let t = c.in-Some.ensures.taken in
    let from : c.place.result ≡ row_end c.maps.row.series = c.place.ensures in
    let used : row_end c.pass_usual.new.row.series ≡ c.in-Some.taken.used = c.in_ok-pass_usual-in-Some.ensures.end in
    let begun : c.place.result ≤ t.at = t.begun in
    let some : t.at < c.in-Some.taken.used = t.some in
    let inside : c.in-Some.taken.used ≤ length c.args.text.now = t.inside in
    omega arith

pub maps-preserved-in_ok-pass_usual-in-Some : goal.maps-preserved-in_ok-pass_usual-in-Some
maps-preserved-in_ok-pass_usual-in-Some c =
    let s = c.args.text.now in
    let keyed = c.args.keyed in
    let names = c.next_taken.new.names in
    let t = rw (c.place.ensures, c.levels.ensures.levels) at c.in-Some.ensures.taken in
    let old = c.maps.invariant in
    record {
      begun = begins_on c.args.names.now c.maps.names names old.begun c.in-Some.ensures.begun;
      row = c.in_ok-pass_usual-in-Some.ensures.open keyed names s t old.row;
      told = λ m is row.
          c.in_ok-pass_usual-in-Some.ensures.told m keyed names s is t (old.told m (reading_before keyed c.maps.names names m c.in-Some.ensures.begun is) row);
    }

pub maps-smaller : goal.maps-smaller
maps-smaller c =
    let row = c.maps.invariant.row in
    let next = c.in-Element.ensures row.0 row.1 in
    let same : row_end c.take_map.new.row.series ≡ row_end c.next.new.self = ap row_end c.take_map.ensures.series in
    let inside : row_end c.next.new.self ≤ length c.args.text.now = next.0.0 in
    let farther = next.1 in
    omega arith

pub maps-preserved : goal.maps-preserved
maps-preserved c =
    let s = c.args.text.now in
    let keyed = c.args.keyed in
    let old = c.maps.invariant in
    let v = view c.in-Element.element in
    let usual = c.in-None.ensures.begun in
    let more = c.in_ok-take_map-in-Element.ensures.begun in
    let same = sym c.take_map.ensures.series in
    record {
      begun = begins_on c.args.names.now c.maps.names c.take_map.new.names old.begun (begins_on c.maps.names c.next_taken.new.names c.take_map.new.names usual more);
      row = (old.row.0 ++ v ∷ [], subst (λ r. IsRow r s (old.row.0 ++ v ∷ [])) same (c.in-Element.ensures old.row.0 old.row.1).0);
      told = λ m is row.
          let mid = reading_before keyed c.next_taken.new.names c.take_map.new.names m more is in
          let so_far = old.told m (reading_before keyed c.maps.names c.next_taken.new.names m usual mid) row in
          let vs = so_far.0 ++ v ∷ [] in (
            vs,
            subst (λ r. IsRow r s vs) same (c.in-Element.ensures so_far.0 so_far.1).0,
            c.in_ok-take_map-in-Element.ensures.told m is so_far.0 so_far.2,
            row_more c.maps.row.passed c.take_map.new.row.passed so_far.0 v so_far.3 c.in_ok-take_map-in-Element.ensures.over,
          );
    }

pub returns-in-Closed-clause-begun : goal.returns-in-Closed-clause-begun
returns-in-Closed-clause-begun c = begins_on c.args.names.now c.maps.names c.next_taken.new.names c.maps.invariant.begun c.in-None.ensures.begun

pub returns-in-Closed-clause-row : goal.returns-in-Closed-clause-row
returns-in-Closed-clause-row c =
    let row = c.maps.invariant.row in
    let closed = c.in-Closed.ensures row.0 row.1 in
    (closed.0, closed.2)

pub returns-in-Closed-clause-told : goal.returns-in-Closed-clause-told
returns-in-Closed-clause-told c = λ m is row.
    let so_far = c.maps.invariant.told m (reading_before c.args.keyed c.maps.names c.next_taken.new.names m c.in-None.ensures.begun is) row in
    let closed = c.in-Closed.ensures so_far.0 so_far.1 in (
      closed.0,
      closed.2,
      row_told m c.next.new.self.is_tagged c.next.new.self.is_vector so_far.0 closed.0 closed.1 ∙ so_far.2,
      so_far.3 ∙ ap counted (sym (row_keywords c.next.new.self.is_tagged c.next.new.self.is_vector so_far.0 closed.0 closed.1)),
    )

pub returns-in-Unknown-clause-begun : goal.returns-in-Unknown-clause-begun
returns-in-Unknown-clause-begun c = begins_on c.args.names.now c.maps.names c.next_taken.new.names c.maps.invariant.begun c.in-None.ensures.begun

pub returns-in-Unknown-clause-row : goal.returns-in-Unknown-clause-row
returns-in-Unknown-clause-row c =
    let row = c.maps.invariant.row in
    (row.0, (c.in-Unknown.ensures row.0 row.1).0)

pub returns-in-Unknown-clause-told : goal.returns-in-Unknown-clause-told
returns-in-Unknown-clause-told c = λ m is row.
    let so_far = c.maps.invariant.told m (reading_before c.args.keyed c.maps.names c.next_taken.new.names m c.in-None.ensures.begun is) row in
    (so_far.0, (c.in-Unknown.ensures so_far.0 so_far.1).0, so_far.2, so_far.3)

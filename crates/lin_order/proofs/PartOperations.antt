-- Operations of a part, and of the whole.
use Rattle.std.proofs.Common.{◌≡◌, ◌<◌, ◌≤◌, ◌↔◌, ◌⊎◌, ℕ, Bool, true, List, inl, inr, refl, sym, ap, subst, ◌∙◌, arith}
use Rattle.std.proofs.lemmas.Bool.{cases_order}
use Rattle.lin_events.specs.declared.items.Item.{Item}
use Rattle.lin_events.specs.declared.events.Body.{Body}
use Rattle.lin_events.specs.declared.events.Body.TheVariants.{Invoke, Ok, Fail, Info}
use Rattle.lin_events.specs.declared.events.Event.{Event}
use Rattle.lin_events.specs.declared.calls.Call.{Call}
use Rattle.lin_events.specs.declared.calls.Name.{Name}
use Rattle.lin_events.specs.declared.calls.Reply.{Reply}
use Rattle.lin_events.specs.Operations.{IsEvent, IsOf, IsOperation, IsEnd, IsOk, IsFailed, IsCrashed}
use Rattle.lin_events.specs.WellFormed.{Completes}
use Rattle.lin_events.specs.WellFormedLaws.{WellFormedIsAlternating}
use Rattle.lin_events.specs.Alternation.{IsReturn, IsAlternating}
use Rattle.lin_order.specs.Orders.{is_of_key}
use Rattle.lin_order.specs.Parts.{part, ArePositionsOf, IsNth}
use Rattle.lin_order.specs.PartLaws.{IsPartOf, PartsAreWellFormed, PartsKeepOperations}
use Rattle.lin_order.specs.lemmas.OneEnd.{one_event, one_process, one_end, call_since}
use Rattle.lin_order.proofs.Positions.{event_of_key, of_key_event, places, places_are, nth_of_key, nth_found, nth_up, nth_down, nth_event, nth_inner, nth_outer}

-- an event invokes or completes
body_cases : (body : Body) → ((call : Call) × (body ≡ Invoke call)) ⊎ ((name : Name) × Completes body name)
body_cases (Invoke call) = inl (call, refl)
body_cases (Ok name reply) = inr (name, refl)
body_cases (Fail name) = inr (name, refl)
body_cases (Info name) = inr (name, refl)

module _ (h : List Event) where
  -- an event that invokes is an operation of its process
  operation_of : (at process : ℕ) (event : Event) (call : Call) → IsEvent h at event → event.process ≡ process → event.body ≡ Invoke call → IsOperation h at process event.key call
  operation_of at process event call stands same is =
      let found = call_since h at event stands call is in
      subst (λ p. IsOperation h at p event.key call) (ap (λ (e : Event). e.process) (one_event h at _ event found.1 stands) ∙ same) found.1

  of_operation : (at process : ℕ) (key : Item) (call : Call) → IsOperation h at process key call → IsOf h process at
  of_operation at process key call op = (record { process = process; key = key; body = Invoke call }, op, refl)

  return_ends : (at end : ℕ) → IsReturn h at end → (ending : Event) × IsEnd h at end ending
  return_ends at end (inl ok) = (ok.1.0, ok.1.1)
  return_ends at end (inr failed) = (failed.0, failed.1)

module _ (functions : Item → Name → Bool) (h : List Event) (alternates : IsAlternating functions h) where
  -- an operation whose process has a later event ends no later than there
  end_by : (at process k : ℕ) (key : Item) (call : Call) → IsOperation h at process key call → at < k → IsOf h process k → (end : ℕ) × (ending : Event) × IsEnd h at end ending × (end ≤ k)
  end_by at process k key call op below of_it = elim (body_cases of_it.0.body) [
    | inl invokes ↦
        let back = alternates.returned at k process key of_it.0.key call invokes.0 below op (operation_of h k process of_it.0 invokes.0 of_it.1 of_it.2 invokes.1) in
        let e = return_ends h at back.0 back.2 in
        (back.0, e.0, e.1, omega (arith, back.1))
    | inr completes ↦
        let done = alternates.completed k of_it.0 completes.0 of_it.1 completes.1 in
        elim (cases_order at done.0) [
          | inl same ↦ (k, of_it.0, subst (λ a. IsEnd h a k of_it.0) (sym same) done.4, omega arith)
          | inr differ ↦ elim differ [
            | inl before ↦
                let back = alternates.returned at done.0 process key of_it.0.key call done.1 before op (subst (λ p. IsOperation h done.0 p of_it.0.key done.1) of_it.2 done.2) in
                let e = return_ends h at back.0 back.2 in
                let late : done.0 < k = done.4.later in
                (back.0, e.0, e.1, omega (arith, back.1))
            | inr after ↦ absurd (done.4.least at after below (subst (λ p. IsOf h p at) (sym of_it.2 ∙ done.4.same) (of_operation h at process key call op)))
          ]
        ]
  ]

  -- an operation's end is of its key
  end_key : (at end : ℕ) (ending : Event) (e : IsEnd h at end ending) → ending.key ≡ e.key
  end_key at end ending e = elim (body_cases ending.body) [
    | inl invokes ↦
        let back = alternates.returned at end e.process e.key ending.key e.call invokes.0 e.later e.begins (operation_of h end e.process ending invokes.0 e.ends e.same invokes.1) in
        let f = return_ends h at back.0 back.2 in
        let one = one_end h at back.0 end f.0 ending f.1 e in
        absurd (omega (arith, back.1))
    | inr completes ↦
        let done = alternates.completed end ending completes.0 e.ends completes.1 in
        elim (cases_order at done.0) [
          | inl same ↦ ap (λ (x : Event). x.key) (one_event h done.0 (record { process = ending.process; key = ending.key; body = Invoke done.1 }) (record { process = e.process; key = e.key; body = Invoke e.call }) done.2
              (subst (λ k. IsOperation h k e.process e.key e.call) same e.begins))
          | inr differ ↦ elim differ [
            | inl before ↦ absurd (e.least done.0 before done.4.later (subst (λ p. IsOf h p done.0) e.same (of_operation h done.0 ending.process ending.key done.1 done.2)))
            | inr after ↦ absurd (done.4.least at after e.later (subst (λ p. IsOf h p at) (sym e.same ∙ done.4.same) (of_operation h at e.process e.key e.call e.begins)))
          ]
        ]
  ]

  module _ (key : Item) (positions : List ℕ) (are : ArePositionsOf key h positions) where
    -- an event at a position of the key is of the key
    key_at : (at : ℕ) (event : Event) → is_of_key h key at ≡ true → IsEvent h at event → event.key ≡ key
    key_at at event of_it stands = let found = event_of_key h key at of_it in ap (λ (x : Event). x.key) (one_event h at event found.0 stands found.1) ∙ found.2

    end_inside : (n at end : ℕ) (ending : Event) → IsNth positions n at → IsEnd h at end ending → (m : ℕ) × IsNth positions m end
    end_inside n at end ending there e = nth_found key h positions are end (of_key_event h key end ending e.ends
        (end_key at end ending e ∙ key_at at (record { process = e.process; key = e.key; body = Invoke e.call }) (nth_of_key key h positions are n at there) e.begins))

    end_into : (n at m end : ℕ) (ending : Event) → IsNth positions n at → IsNth positions m end → IsEnd h at end ending → IsEnd (part key h) n m ending
    end_into n at m end ending there then e = record {
      process = e.process;
      key = e.key;
      call = e.call;
      begins = nth_inner key h positions are n at (record { process = e.process; key = e.key; body = Invoke e.call }) there e.begins;
      later = nth_down key h positions are n m at end there then e.later;
      ends = nth_inner key h positions are m end ending then e.ends;
      same = e.same;
      least = λ k after before of_it.
          let between = nth_event key h positions are k of_it.0 of_it.1 in
          e.least between.0 (nth_up key h positions are n k at between.0 there between.1 after) (nth_up key h positions are k m between.0 end between.1 then before)
          (of_it.0, nth_outer key h positions are k between.0 of_it.0 between.1 of_it.1, of_it.2);
    }

    end_out : (n at m end : ℕ) (ending : Event) → IsNth positions n at → IsNth positions m end → IsEnd (part key h) n m ending → IsEnd h at end ending
    end_out n at m end ending there then e =
        let begins : IsOperation h at e.process e.key e.call = nth_outer key h positions are n at (record { process = e.process; key = e.key; body = Invoke e.call }) there e.begins in
        record {
          process = e.process;
          key = e.key;
          call = e.call;
          begins = begins;
          later = nth_up key h positions are n m at end there then e.later;
          ends = nth_outer key h positions are m end ending then e.ends;
          same = e.same;
          least = λ k after before of_it.
              let early = end_by at e.process k e.key e.call begins after of_it in
              let f = early.2 in
              let in_part = end_inside n at early.0 early.1 there f in
              let same_process = one_process h at f.process e.process (of_operation h at f.process f.key f.call f.begins) (of_operation h at e.process e.key e.call begins) in
              e.least in_part.0 (nth_down key h positions are n in_part.0 at early.0 there in_part.1 f.later)
              (nth_down key h positions are in_part.0 m early.0 end in_part.1 then (omega (arith, early.3)))
              (early.1, nth_inner key h positions are in_part.0 early.0 early.1 in_part.1 f.ends, f.same ∙ same_process);
        }

    -- where the event stands in the whole that ends an operation in the part
    end_found : (n m : ℕ) (ending : Event) → IsEnd (part key h) n m ending → (end : ℕ) × IsNth positions m end
    end_found n m ending e = nth_event key h positions are m ending e.ends

    ok_into : (n at m end : ℕ) (reply : Reply) → IsNth positions n at → IsNth positions m end → IsOk h at end reply → IsOk (part key h) n m reply
    ok_into n at m end reply there then ok = (ok.0, end_into n at m end ok.0 there then ok.1, ok.2, ok.3)

    ok_out : (n at m end : ℕ) (reply : Reply) → IsNth positions n at → IsNth positions m end → IsOk (part key h) n m reply → IsOk h at end reply
    ok_out n at m end reply there then ok = (ok.0, end_out n at m end ok.0 there then ok.1, ok.2, ok.3)

    pub ok_inside : (n at end : ℕ) (reply : Reply) → IsNth positions n at → IsOk h at end reply → (m : ℕ) × IsNth positions m end × IsOk (part key h) n m reply
    ok_inside n at end reply there ok = let inside = end_inside n at end ok.0 there ok.1 in (inside.0, inside.1, ok_into n at inside.0 end reply there inside.1 ok)

    pub ok_outside : (n at m : ℕ) (reply : Reply) → IsNth positions n at → IsOk (part key h) n m reply → (end : ℕ) × IsNth positions m end × IsOk h at end reply
    ok_outside n at m reply there ok = let found = end_found n m ok.0 ok.1 in (found.0, found.1, ok_out n at m found.0 reply there found.1 ok)

    failed : (n at : ℕ) → IsNth positions n at → IsFailed (part key h) n ↔ IsFailed h at
    failed n at there = (
      λ is. let found = end_found n is.0 is.1 is.2 in (found.0, is.1, end_out n at is.0 found.0 is.1 there found.1 is.2, is.3, is.4),
      λ is. let inside = end_inside n at is.0 is.1 there is.2 in (inside.0, is.1, end_into n at inside.0 is.0 is.1 there inside.1 is.2, is.3, is.4),
    )

    crashed : (n at : ℕ) → IsNth positions n at → IsCrashed (part key h) n ↔ IsCrashed h at
    crashed n at there = (
      λ is. let found = end_found n is.0 is.1 is.2 in (found.0, is.1, end_out n at is.0 found.0 is.1 there found.1 is.2, is.3, is.4),
      λ is. let inside = end_inside n at is.0 is.1 there is.2 in (inside.0, is.1, end_into n at inside.0 is.0 is.1 there inside.1 is.2, is.3, is.4),
    )

    event : (n at : ℕ) (x : Event) → IsNth positions n at → IsEvent (part key h) n x ↔ IsEvent h at x
    event n at x there = (nth_outer key h positions are n at x there, nth_inner key h positions are n at x there)

    pub part_of_whole : IsPartOf positions (part key h) h
    part_of_whole = record {
      events = event;
      operations = λ n at process k call there. event n at (record { process = process; key = k; body = Invoke call }) there;
      ends = λ n at m end ending there then. (end_out n at m end ending there then, end_into n at m end ending there then);
      ends_inside = end_inside;
      oks = λ n at m end reply there then. (ok_out n at m end reply there then, ok_into n at m end reply there then);
      failed = failed;
      crashed = crashed;
      open_ones = λ n at process k call there. (
        λ is. record {
          begins = (event n at (record { process = process; key = k; body = Invoke call }) there).0 is.begins;
          no_ok = λ end reply ok. let inside = ok_inside n at end reply there ok in is.no_ok inside.0 reply inside.2;
          no_fail = λ fail. is.no_fail ((failed n at there).1 fail);
        },
        λ is. record {
          begins = (event n at (record { process = process; key = k; body = Invoke call }) there).1 is.begins;
          no_ok = λ m reply ok. let found = ok_outside n at m reply there ok in is.no_ok found.0 reply found.2;
          no_fail = λ fail. is.no_fail ((failed n at there).0 fail);
        },
      );
      before = λ n at m later there then. (
        λ is. let found = ok_outside n at is.0 is.1 there is.2 in (found.0, is.1, found.2, nth_up key h positions are is.0 m found.0 later found.1 then is.3),
        λ is. let inside = ok_inside n at is.0 is.1 there is.2 in (inside.0, is.1, inside.2, nth_down key h positions are inside.0 m is.0 later inside.1 then is.3),
      );
    }

    return_into : (n at end : ℕ) → IsNth positions n at → IsReturn h at end → (m : ℕ) × IsNth positions m end × IsReturn (part key h) n m
    return_into n at end there (inl ok) = let inside = ok_inside n at end ok.0 there ok.1 in (inside.0, inside.1, inl (ok.0, inside.2))
    return_into n at end there (inr fail) =
        let inside = end_inside n at end fail.0 there fail.1 in
        (inside.0, inside.1, inr (fail.0, end_into n at inside.0 end fail.0 there inside.1 fail.1, fail.2, fail.3))

    pub part_alternates : IsAlternating functions (part key h)
    part_alternates = record {
      allowed = λ n process k call op.
          let found = nth_event key h positions are n (record { process = process; key = k; body = Invoke call }) op in
          alternates.allowed found.0 process k call ((event n found.0 (record { process = process; key = k; body = Invoke call }) found.1).0 op);
      returned = λ n m process k other call again below op next.
          let found = nth_event key h positions are n (record { process = process; key = k; body = Invoke call }) op in
          let later = nth_event key h positions are m (record { process = process; key = other; body = Invoke again }) next in
          let back = alternates.returned found.0 later.0 process k other call again (nth_up key h positions are n m found.0 later.0 found.1 later.1 below)
          ((event n found.0 (record { process = process; key = k; body = Invoke call }) found.1).0 op) ((event m later.0 (record { process = process; key = other; body = Invoke again }) later.1).0 next) in
          let inside = return_into n found.0 back.0 found.1 back.2 in
          (inside.0, nth_down key h positions are inside.0 m back.0 later.0 inside.1 later.1 back.1, inside.2);
      completed = λ m ending name stands completes.
          let end = nth_event key h positions are m ending stands in
          let whole = (event m end.0 ending end.1).0 stands in
          let done = alternates.completed end.0 ending name whole completes in
          let of_it = of_key_event h key done.0 (record { process = ending.process; key = ending.key; body = Invoke done.1 }) done.2 (key_at end.0 ending (nth_of_key key h positions are m end.0 end.1) whole) in
          let at = nth_found key h positions are done.0 of_it in
          (at.0, done.1, (event at.0 done.0 (record { process = ending.process; key = ending.key; body = Invoke done.1 }) at.1).1 done.2, done.3, end_into at.0 done.0 m end.0 ending at.1 end.1 done.4);
    }

pub parts_are_well_formed_lem : WellFormedIsAlternating → PartsAreWellFormed
parts_are_well_formed_lem law functions key h well = (law functions (part key h)).1 (part_alternates functions h ((law functions h).0 well) key (places key 0 h) (places_are key h))

pub parts_keep_operations_lem : WellFormedIsAlternating → PartsKeepOperations
parts_keep_operations_lem law functions key h positions well are = part_of_whole functions h ((law functions h).0 well) key positions are

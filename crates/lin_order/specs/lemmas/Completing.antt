-- After an ok, a fail or an info: which configurations stay.
use Rattle.std.proofs.Common.{◌≡◌, ℕ, ◌<◌, Bool, List, length, Contains, ◌↔◌, inl, inr, refl, sym, ap, subst, ◌∙◌, arith}
use Rattle.std.proofs.lemmas.Bool.{cases_eq}
use Rattle.lin_events.specs.declared.items.Item.{Item}
use Rattle.lin_events.specs.declared.calls.Call.{Call}
use Rattle.lin_events.specs.declared.calls.Name.{Name}
use Rattle.lin_events.specs.declared.calls.Reply.{Reply}
use Rattle.lin_events.specs.declared.events.Body.{Body}
use Rattle.lin_events.specs.declared.events.Body.TheVariants.{Ok, Fail, Info}
use Rattle.lin_events.specs.declared.events.Event.{Event}
use Rattle.lin_events.specs.Alternation.{IsAlternating}
use Rattle.lin_events.specs.Operations.{IsEnd, IsOpen}
use Rattle.lin_events.specs.WellFormed.{Completes}
use Rattle.lin_order.specs.declared.placed.Placed.{Placed}
use Rattle.lin_order.specs.Orders.{IsOrder, Places}
use Rattle.lin_order.specs.Configurations.{EndsIn, IsAdded}
use Rattle.lin_order.specs.ConfigurationLaws.{with_event, AfterOk}
use Rattle.lin_lists.specs.lemmas.Lists.{get_last}
use Rattle.lin_order.specs.lemmas.OneEnd.{body_of}
use Rattle.lin_order.specs.lemmas.Assembling.{one_reply}
use Rattle.lin_order.specs.lemmas.Adding.{can_add}
use Rattle.lin_events.specs.lemmas.OneMore.{one_open, operation_kept, end_cases, end_before, ok_before, failed_before, open_other, open_until, completes, alternates_before}
use Rattle.lin_order.specs.lemmas.OneMore.{call_kept}
use Rattle.lin_order.specs.lemmas.Again.{operation_of, never_failed, placed_inside, order_again, placed_again, order_before, run_before, run_kept, was_open, none_past}
use Rattle.lin_order.specs.lemmas.Quiet.{info_quiet, ends_kept, ends_before}

-- a completion is no operation
none_new : (h : List Event) (event : Event) (name : Name) → Completes event.body name → (o : List Placed) → IsOrder (with_event h event) o → (r : Reply) → Places o (length h) r → ⊥
none_new h event name completes o is r there =
    let op = operation_of (with_event h event) o is (record { at = length h; reply = r }) there in
    subst (λ b. Completes b name) (body_of (with_event h event) (length h) event (get_last h event) op.0 op.1) completes

pub ok_completes : (body : Body) (name : Name) (reply : Reply) → body ≡ Ok name reply → Completes body name
ok_completes body name reply is = subst (λ b. Completes b name) (sym is) refl

pub fail_completes : (body : Body) (name : Name) → body ≡ Fail name → Completes body name
fail_completes body name is = subst (λ b. Completes b name) (sym is) refl

pub info_completes : (body : Body) (name : Name) → body ≡ Info name → Completes body name
info_completes body name is = subst (λ b. Completes b name) (sym is) refl

module _ (functions : Item → Name → Bool) (h : List Event) (event : Event) (name : Name) (alternates : IsAlternating functions (with_event h event)) (completing : Completes event.body name) where
  -- the operation that the event ends
  ended : (at : ℕ) × (key : Item) × (call : Call) × IsOpen h at event.process key call × IsEnd (with_event h event) at (length h) event
  ended = completes h event functions alternates name completing

  -- each open operation of the process is that one
  the_one : (at : ℕ) (key : Item) (call : Call) → IsOpen h at event.process key call → at ≡ ended.0
  the_one at key call is_open = one_open functions h (alternates_before h event functions alternates) at ended.0 event.process key ended.1 call ended.2 is_open ended.3

  end_of_it : (at : ℕ) (key : Item) (call : Call) → IsOpen h at event.process key call → IsEnd (with_event h event) at (length h) event
  end_of_it at key call is_open = subst (λ k. IsEnd (with_event h event) k (length h) event) (sym (the_one at key call is_open)) ended.4

module _ {S : Type 0} (start : S) (step : S → Call → S → Reply → Type 0) (functions : Item → Name → Bool) (h : List Event) (event : Event) (name : Name) where
  pub info_lem : event.body ≡ Info name → (o : List Placed) (c : S × List (ℕ × Reply)) → EndsIn start step (with_event h event) o c ↔ EndsIn start step h o c
  info_lem is_info o c = (
    λ is. ends_before start step h event (info_quiet event.body name is_info) o c (none_new h event name (info_completes event.body name is_info) o is.order_of) is,
    λ is. ends_kept start step h event (info_quiet event.body name is_info) o c is,
  )

  module _ (alternates : IsAlternating functions (with_event h event)) (is_fail : event.body ≡ Fail name) (o : List Placed) (c : S × List (ℕ × Reply)) where
    no_ok : (other : Name) (r : Reply) → event.body ≡ Ok other r → ⊥
    no_ok other r is = cc

    completing : Completes event.body name
    completing = fail_completes event.body name is_fail

    fail_to : EndsIn start step (with_event h event) o c → EndsIn start step h o c
    fail_to is = record {
      order_of = order_before h event o absent is.order_of;
      runs = run_before h event step o start c.0 absent is.runs;
      placed = placed_again (with_event h event) h o c.1 is.placed (was_open h event o absent) (λ at p key call r there is_open. record {
        begins = operation_kept h event at p key call is_open.begins;
        no_ok = λ end reply ok. is_open.no_ok end reply (ok_before h event no_ok at end reply ok);
        no_fail = never_failed (with_event h event) o is.order_of (record { at = at; reply = r }) there;
      });
    }
      where
        absent : (r : Reply) → Places o (length h) r → ⊥
        absent = none_new h event name completing o is.order_of

    fail_absent : EndsIn start step (with_event h event) o c → (r : Reply) → Contains c.1 (event.process, r) → ⊥
    fail_absent is r there =
        let s = is.placed.sound event.process r there in
        let old = was_open h event o (none_new h event name completing o is.order_of) s.0 event.process s.1 s.2 r s.4 s.3 in
        s.3.no_fail (length h, event, end_of_it functions h event name alternates completing s.0 s.1 s.2 old, name, is_fail)

    fail_from : EndsIn start step h o c → ((r : Reply) → Contains c.1 (event.process, r) → ⊥) → EndsIn start step (with_event h event) o c
    fail_from is absent = record {
      order_of = order_again h o is.order_of (with_event h event)
          (λ p call there. call_kept h event p.at call)
          (λ p there f. elim (end_cases h event p.at f.0 f.1 f.2) [
            | inl old ↦ never_failed h o is.order_of p there (f.0, f.1, old, f.3, f.4)
            | inr new ↦
                let e = subst (λ x. IsEnd (with_event h event) p.at (length h) x) (sym new.1) (subst (λ k. IsEnd (with_event h event) p.at k f.1) new.0 f.2) in
                absent p.reply (is.placed.complete p.at event.process e.key e.call p.reply (open_until h event p.at e) there)
          ])
          (λ at end r ok. is.order_of.each_ok at end r tt (ok_before h event no_ok at end r ok))
          (λ p at there b. (b.0, b.1, ok_before h event no_ok at b.0 b.1 b.2, b.3));
      runs = run_kept h event step o start c.0 is.runs;
      placed = placed_again h (with_event h event) o c.1 is.placed
          (λ at p key call r there is_open. open_other h event at p key call
          (λ same. absent r (subst (λ q. Contains c.1 (q, r)) same (is.placed.complete at p key call r is_open there))) is_open)
          (was_open h event o (none_past h o is.order_of));
    }

    pub fail_lem : EndsIn start step (with_event h event) o c ↔ (EndsIn start step h o c × ((reply : Reply) → Contains c.1 (event.process, reply) → ⊥))
    fail_lem = (λ is. (fail_to is, fail_absent is), λ from. fail_from from.0 from.1)

  module _ (reply : Reply) (alternates : IsAlternating functions (with_event h event)) (is_ok : event.body ≡ Ok name reply) (o : List Placed) (c : S × List (ℕ × Reply)) where
    no_fail : (other : Name) → event.body ≡ Fail other → ⊥
    no_fail other is = cc

    the_end : (at : ℕ) × (key : Item) × (call : Call) × IsOpen h at event.process key call × IsEnd (with_event h event) at (length h) event
    the_end = ended functions h event name alternates (ok_completes event.body name reply is_ok)

    the_place : (at : ℕ) (key : Item) (call : Call) → IsOpen h at event.process key call → at ≡ the_end.0
    unfolding the_end
    the_place = the_one functions h event name alternates (ok_completes event.body name reply is_ok)

    -- it is no longer open
    no_more : (at : ℕ) (key other : Item) (call again : Call) → IsOpen h at event.process key call → IsOpen (with_event h event) at event.process other again → ⊥
    no_more at key other call again before after =
        after.no_ok (length h) reply (event, end_of_it functions h event name alternates (ok_completes event.body name reply is_ok) at key call before, name, is_ok)

    ok_to : EndsIn start step (with_event h event) o c → (placed : List (ℕ × Reply)) × EndsIn start step h o (c.0, placed) × IsAdded event.process reply c.1 placed
    ok_to is = (
      more.0,
      record {
        order_of = order_before h event o absent is.order_of;
        runs = run_before h event step o start c.0 absent is.runs;
        placed = record {
          rising = more.1.rising;
          sound = λ p r there. elim (more.1.was (p, r) there) [
            | inl old ↦ let s = is.placed.sound p r old in (s.0, s.1, s.2, was_open h event o absent s.0 p s.1 s.2 r s.4 s.3, s.4)
            | inr new ↦ (
              the_end.0,
              the_end.1,
              the_end.2,
              subst (λ q. IsOpen h the_end.0 q the_end.1 the_end.2) (ap (λ (x : ℕ × Reply). x.0) new) the_end.3,
              subst (Places o the_end.0) (ap (λ (x : ℕ × Reply). x.1) new) there_is,
            )
          ];
          complete = λ at p key call r is_open there. elim (cases_eq p event.process) [
            | inl same ↦
                let one = the_place at key call (subst (λ q. IsOpen h at q key call) same is_open) in
                let r_is = one_reply o is.order_of.once (record { at = the_end.0; reply = reply }) (record { at = at; reply = r }) there_is there (sym one) in
                subst (Contains more.0) (λ i. (sym same i, r_is i)) more.1.has
            | inr other ↦ more.1.kept (p, r) (is.placed.complete at p key call r (open_other h event at p key call other is_open) there)
          ];
        };
      },
      more.1,
    )
      where
        absent : (r : Reply) → Places o (length h) r → ⊥
        absent = none_new h event name (ok_completes event.body name reply is_ok) o is.order_of

        there_is : Places o the_end.0 reply
        there_is = is.order_of.each_ok the_end.0 (length h) reply tt (event, the_end.4, name, is_ok)

        more : (placed : List (ℕ × Reply)) × IsAdded event.process reply c.1 placed
        more = can_add event.process reply c.1 is.placed.rising (λ r there.
            let s = is.placed.sound event.process r there in
            no_more s.0 s.1 s.1 s.2 s.2 (was_open h event o absent s.0 event.process s.1 s.2 r s.4 s.3) s.3)

    ok_from : (placed : List (ℕ × Reply)) → EndsIn start step h o (c.0, placed) → IsAdded event.process reply c.1 placed → EndsIn start step (with_event h event) o c
    ok_from placed is added = record {
      order_of = order_again h o is.order_of (with_event h event)
          (λ p call there. call_kept h event p.at call)
          (λ p there f. never_failed h o is.order_of p there (failed_before h event no_fail p.at f))
          (λ at end r ok. elim (end_cases h event at end ok.0 ok.1) [
            | inl old ↦ is.order_of.each_ok at end r tt (ok.0, old, ok.2, ok.3)
            | inr new ↦
                let e = subst (λ x. IsEnd (with_event h event) at (length h) x) (sym new.1) (subst (λ k. IsEnd (with_event h event) at k ok.0) new.0 ok.1) in
                let place = the_place at e.key e.call (open_until h event at e) in
                let said = same_reply (sym is_ok ∙ ap (λ (x : Event). x.body) new.1 ∙ ok.3) in
                subst (Contains o) (λ i. record { at = sym place i; reply = said i }) there_is
          ])
          (λ p at there b. (b.0, b.1, (b.2.0, end_before h event at b.0 b.2.0 (early p there b.0 b.3) b.2.1, b.2.2, b.2.3), b.3));
      runs = run_kept h event step o start c.0 is.runs;
      placed = record {
        rising = added.before;
        sound = λ p r there.
            let s = is.placed.sound p r (added.kept (p, r) there) in
            (s.0, s.1, s.2, open_other h event s.0 p s.1 s.2 (λ same. added.absent r (subst (λ q. Contains c.1 (q, r)) same there)) s.3, s.4);
        complete = λ at p key call r is_open there.
            let old = was_open h event o (none_past h o is.order_of) at p key call r there is_open in
            elim (added.was (p, r) (is.placed.complete at p key call r old there)) [
              | inl stays ↦ stays
              | inr new ↦
                  let same : p ≡ event.process = sym (ap (λ (x : ℕ × Reply). x.0) new) in
                  absurd (no_more at key key call call (subst (λ q. IsOpen h at q key call) same old) (subst (λ q. IsOpen (with_event h event) at q key call) same is_open))
            ];
      };
    }
      where
        there_is : Places o the_end.0 reply
        there_is =
            let s = is.placed.sound event.process reply added.has in
            subst (λ k. Places o k reply) (the_place s.0 s.1 s.2 s.3) s.4

        early : (p : Placed) → Contains o p → (end : ℕ) → end < p.at → end < length h
        early p there end before = let inside = placed_inside h o is.order_of p there in omega arith

        same_reply : {a b : Name} {r s : Reply} → Ok a r ≡ Ok b s → r ≡ s
        same_reply e = cc

  pub ok_lem : (reply : Reply) → IsAlternating functions (with_event h event) → event.body ≡ Ok name reply → AfterOk start step h event reply
  ok_lem reply alternates is_ok = record {
    kept = λ o c placed is added. ok_from reply alternates is_ok o c placed is added;
    was = λ o c is. ok_to reply alternates is_ok o c is;
  }

-- What rounds allow to be overwritten: after an event, with an observer put in, and with a new round.
use Rattle.std.proofs.Common.{ℕ, ◌<◌, ◌≤◌, Bool, List, [], ◌∷◌, ◌++◌, length, length-append, inl, inr, refl, sym, subst, ◌∙◌, arith, ap}
use Rattle.std.proofs.lemmas.List.Elements.{Contains-append_cases}
use Rattle.lin_events.specs.declared.calls.Call.{Call}
use Rattle.lin_events.specs.declared.calls.Reply.{Reply}
use Rattle.lin_events.specs.declared.events.Event.{Event}
use Rattle.lin_events.specs.Operations.{IsOk}
use Rattle.lin_events.specs.lemmas.OneMore.{end_before, operation_kept}
use Rattle.lin_order.specs.declared.placed.Placed.{Placed}
use Rattle.lin_order.specs.ConfigurationLaws.{with_event}
use Rattle.lin_order.specs.Orders.{IsBefore}
use Rattle.lin_members.specs.Overwritten.{IsOverwrittenBy}
use Rattle.lin_members.specs.OverwrittenLaws.{AllowsBeginsLaw, AllowsOnLaw, AllowsPutLaw}
use Rattle.lin_members.specs.Rounds.{put}
use Rattle.lin_members.specs.lemmas.Aheads.{put_last}
use Rattle.lin_members.specs.lemmas.Choosing.{nothing_in}
use Rattle.lin_frontier.specs.lemmas.Inserting.{first_or_rest}
use Rattle.lin_members.specs.lemmas.Joining.{put_many}

module _ (h : List Event) (event : Event) where
  -- what is before an operation that was called before the event was so before the event
  before_kept : (earlier later : ℕ) → later < length h → IsBefore (with_event h event) earlier later → IsBefore h earlier later
  before_kept earlier later inside b = let early = b.3 in (b.0, b.1, (b.2.0, end_before h event earlier b.0 b.2.0 (omega arith) b.2.1, b.2.2, b.2.3), b.3)

  overwritten_on : (observes : Call → Bool) (until : ℕ) (rounds : List (List Placed)) → until ≤ length h → IsOverwrittenBy observes h until rounds → IsOverwrittenBy observes (with_event h event) until rounds
  overwritten_on observes until rounds within by = record {
    front = by.front;
    first = by.first;
    rest = by.rest;
    is = by.is;
    behind = by.behind;
    call = by.call;
    begins = (by.begins.0, by.begins.1, operation_kept h event by.first.at by.begins.0 by.begins.1 by.call by.begins.2);
    update = by.update;
    late = λ p there at early before. by.late p there at early (before_kept p.at at (omega arith) before);
  }

-- an open operation that is put into a round is before nothing
overwritten_put : (observes : Call → Bool) (h : List Event) (until : ℕ) (rounds : List (List Placed)) (round : ℕ) (p : Placed) → ((end : ℕ) (reply : Reply) → IsOk h p.at end reply → ⊥)
    → IsOverwrittenBy observes h until rounds → IsOverwrittenBy observes h until (put round p rounds)
overwritten_put observes h until rounds round p no_ok by =
    let k = put_last round p by.front (by.first ∷ by.rest) in
    record {
      front = k.before;
      first = by.first;
      rest = by.rest ++ k.more;
      is = ap (put round p) by.is ∙ k.is;
      behind = let many = k.many in let some = by.behind in omega (arith, many);
      call = by.call;
      begins = by.begins;
      update = by.update;
      late = λ y there at early before. elim (Contains-append_cases (by.first ∷ by.rest) k.more y there) [
        | inl old ↦ by.late y old at early before
        | inr new ↦ no_ok before.0 before.1 (subst (λ (z : Placed). IsOk h z.at before.0 before.1) (sym (k.only y new)) before.2)
      ];
    }

pub allows_on_law : (S : Type 0) → AllowsOnLaw S
allows_on_law S observes h event m n rounds same fewer allows = record {
  within = let many = length-append h (event ∷ []) in let within = allows.within in omega (arith, same);
  by = λ some. subst (λ i. IsOverwrittenBy observes (with_event h event) i rounds) same (overwritten_on h event observes m.1.until rounds allows.within (allows.by (omega (arith, same))));
  earlier = λ some round x there. allows.earlier (omega (arith, same)) round x (fewer (round, x) there);
}

pub allows_put_law : (S : Type 0) → AllowsPutLaw S
allows_put_law S observes functions h event name reply body well_formed m n rounds at key call is_open round same fewer allows = record {
  within = let many = length-append h (event ∷ []) in let within = allows.within in omega (arith, same);
  by = λ some. subst (λ i. IsOverwrittenBy observes (with_event h event) i (put round p rounds)) same
      (overwritten_on h event observes m.1.until (put round p rounds) allows.within (overwritten_put observes h m.1.until rounds round p is_open.no_ok (allows.by (omega (arith, same)))));
  earlier = λ some k x there. let many = put_many round p rounds in let below = allows.earlier (omega (arith, same)) k x (fewer (k, x) there) in omega arith;
}
  where
    p : Placed
    p = record { at = at; reply = reply }

pub allows_begins_law : (S : Type 0) → AllowsBeginsLaw S
allows_begins_law S observes h n rounds some p process key call is_open update until within = record {
  within = omega (arith, until);
  by = λ positive. record {
    front = rounds;
    first = p;
    rest = [];
    is = refl;
    behind = some;
    call = call;
    begins = (process, key, is_open.begins);
    update = update;
    late = λ y there at early before. elim (first_or_rest p [] y there) [
      | inl same ↦ is_open.no_ok before.0 before.1 (subst (λ (z : Placed). IsOk h z.at before.0 before.1) (sym same) before.2)
      | inr none ↦ nothing_in y none
    ];
  };
  earlier = λ positive round x there. let many = length-append rounds ((p ∷ []) ∷ []) in let below = within round x there in omega arith;
}

-- One more event: what is kept of the members, alone or with overwritten updates.
use Rattle.std.proofs.Common.{◌≡◌, ℕ, Bool, true, List, map, Contains, inl, inr, refl, sym, ap, subst, ◌∙◌, Option}
use Rattle.lin_events.specs.declared.items.Item.{Item}
use Rattle.lin_events.specs.declared.calls.Call.{Call}
use Rattle.lin_events.specs.declared.calls.Name.{Name}
use Rattle.lin_events.specs.declared.calls.Reply.{Reply}
use Rattle.lin_events.specs.declared.events.Body.{Body}
use Rattle.lin_events.specs.declared.events.Body.TheVariants.{Invoke, Ok, Fail, Info}
use Rattle.lin_events.specs.declared.events.Event.{Event}
use Rattle.lin_objects.specs.Observing.{IsObserving}
use Rattle.lin_objects.specs.Overwriting.{IsOverwriting}
use Rattle.lin_order.specs.declared.placed.Placed.{Placed}
use Rattle.lin_order.specs.ConfigurationLaws.{with_event}
use Rattle.lin_members.specs.declared.members.Path.{Path}
use Rattle.lin_frontier.specs.declared.pending.Open.{Open}
use Rattle.lin_members.specs.Asking.{alone_of, AreAlone, IsNextWith, IsReturnWith}
use Rattle.lin_members.specs.Compressed.{IsCovering, IsCompressed}
use Rattle.lin_frontier.specs.Frontiers.{IsPending, IsNextEvent}
use Rattle.lin_members.specs.MemberLaws.{ThinningLaw}
use Rattle.lin_members.specs.Members.{Member}
use Rattle.lin_members.specs.Searching.{IsMade, IsNextOf, IsPruned}
use Rattle.lin_members.specs.Settling.{IsThinned}
use Rattle.lin_compressed_frontier.proofs.Alone.{reset, with_overwritten, without_overwritten}
use Rattle.lin_compressed_frontier.proofs.Compressing.{Laws, next_covering, next_covering_with, pruned_compressed, thinned_compressed}
use Rattle.lin_lists.specs.lemmas.Filters.{from_map, in_map}
use Rattle.lin_compressed_frontier.proofs.ReturnedWith.{returned_with}

pub made_map : {A B : Type 0} (f : A → B) (xs : List A) → IsMade (λ x. Unit {0}) f xs (map f xs)
made_map f xs = record {
  sound = λ y there. let x = from_map f xs y there in (x.0, x.1, tt, sym x.2);
  complete = λ x there _. in_map f xs x there;
}

-- no update is early enough for members that were made alone
pub none_early : {S : Type 0} (members : List (Member S × Path)) (m : Member S × Path) → Contains (map alone_of members) m → m.1.until ≡ 0
none_early {S} members m there = let k = from_map alone_of members m there in sym (ap (λ (x : Member S × Path). x.1.until) k.2)

-- what is kept is of those
thinned_alone : {S : Type 0} (observes : Call → Bool) (pending : List Open) (found out : List (Member S × Path)) → IsThinned observes pending (map alone_of found) out → (m : Member S × Path) → Contains out m → m.1.until ≡ 0
thinned_alone {S} observes pending found out t m there =
    none_early found m (elim t [
      | inl p ↦ p.from m there
      | inr two ↦ two.2.from m (two.3.from m (two.4.from m there))
    ])

module _ {S : Type 0} (start : S) (step : S → Call → S → Reply → Type 0) (observes : Call → Bool) (laws : Laws start step) (functions : Item → Name → Bool) (h : List Event) (before : List Open) (at : ℕ) (event : Event)
    (next : IsNextEvent functions h before at event) (pending : List Open) (opened : IsPending (with_event h event) pending) (observing : IsObserving step observes)
    (nodes : List (ℕ × (Placed × Option ℕ))) (members found out : List (Member S × Path)) where
  pub alone_advances : ThinningLaw start step → (overwriting : Bool) → AreAlone overwriting members → IsNextOf step observes event.process event.body before pending nodes members found → IsThinned observes pending (map alone_of found) out
      → IsCovering start step observes overwriting h members nodes → IsCompressed start step observes overwriting (with_event h event) out nodes
  alone_advances thinning overwriting alone made thinned c =
      with_overwritten start step observes overwriting (with_event h event) out nodes laws.alone (thinned_alone observes pending found out thinned)
      (thinned_compressed start step observes laws.alternating laws.unique laws.dropping laws.above functions (with_event h event) next.well_formed pending opened thinning nodes (map alone_of found) out thinned
      (reset start step observes (with_event h event) found nodes (map alone_of found) (made_map alone_of found)
      (next_covering start step observes laws functions h before at event next pending opened observing nodes members found made (without_overwritten start step observes overwriting h members nodes laws.none alone c))))

  pub advances_with : (overwriting : Bool) → overwriting ≡ true → IsOverwriting start step observes → IsNextWith step observes event.process event.body before pending nodes at members found → IsPruned observes pending found out
      → IsCovering start step observes overwriting h members nodes → IsCompressed start step observes overwriting (with_event h event) out nodes
  advances_with overwriting is over made pruned c =
      subst (λ b. IsCompressed start step observes b (with_event h event) out nodes) (sym is)
      (pruned_compressed start step observes laws.alternating laws.unique laws.dropping laws.above functions (with_event h event) next.well_formed pending opened true nodes found out pruned
      (by event.body refl made (subst (λ b. IsCovering start step observes b h members nodes) is c)))
    where
      by : (b : Body) → event.body ≡ b → IsNextWith step observes event.process b before pending nodes at members found → IsCovering start step observes true h members nodes → IsCovering start step observes true (with_event h event) found nodes
      by (Invoke call) body m covering =
          next_covering_with start step observes laws functions h before at event next pending opened true observing (λ name reply ok. absurd (let none : Invoke call ≡ Ok name reply = sym body ∙ ok in cc)) nodes members found
          (subst (λ e. IsNextOf step observes event.process e before pending nodes members found) (sym body) m) covering
      by (Info name) body m covering =
          next_covering_with start step observes laws functions h before at event next pending opened true observing (λ other reply ok. absurd (let none : Info name ≡ Ok other reply = sym body ∙ ok in cc)) nodes members found
          (subst (λ e. IsNextOf step observes event.process e before pending nodes members found) (sym body) m) covering
      by (Fail name) body m covering =
          next_covering_with start step observes laws functions h before at event next pending opened true observing (λ other reply ok. absurd (let none : Fail name ≡ Ok other reply = sym body ∙ ok in cc)) nodes members found
          (subst (λ e. IsNextOf step observes event.process e before pending nodes members found) (sym body) m) covering
      by (Ok name reply) body m covering =
          returned_with start step observes over functions h event name reply body next.well_formed laws.alternating laws.unique before next.opened pending opened m.0 m.1 m.2 observing laws.update_with laws.observer_with laws.goes_ahead
          laws.allows_on laws.allows_put laws.allows_begins laws.places laws.trail_observer laws.trail_return laws.trail_ok nodes members found
          (subst (λ n. IsReturnWith step observes m.0 reply pending nodes n members found) (sym next.place) m.3) covering

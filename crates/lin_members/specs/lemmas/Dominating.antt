-- Domination, and which members can be dropped.
use Rattle.std.proofs.Common.{ℕ, Bool, List, ◌∷◌, ◌++◌, Contains, inl, inr, refl, sym, subst, ◌∙◌}
use Rattle.std.proofs.lemmas.List.Elements.{Contains-append_left, Contains-append_right, Contains-append_cases}
use Rattle.lin_events.specs.declared.calls.Call.{Call}
use Rattle.lin_events.specs.declared.calls.Reply.{Reply}
use Rattle.lin_events.specs.declared.events.Event.{Event}
use Rattle.lin_order.specs.Configurations.{IsRising}
use Rattle.lin_members.specs.Covers.{HasCrashed}
use Rattle.lin_members.specs.Members.{Member, IsOnOffer, IsComplete, Leads, LeadsToCover, Dominates}
use Rattle.lin_members.specs.MemberLaws.{DominationLaw, DroppingLaw, DropOneLaw, TransitiveLaw}
use Rattle.lin_members.specs.lemmas.Exchanging.{covered_by}
use Rattle.lin_frontier.specs.lemmas.Inserting.{first_or_rest}
use Rattle.lin_members.specs.lemmas.Ways.{covers_from, way_start, from_covers, to_covers}
use Rattle.lin_members.specs.lemmas.Following.{Passes, meets_over}

-- nothing ends
pub passes_itself : (observes : Call → Bool) (h : List Event) → Passes observes h h (λ q. ⊥)
passes_itself observes h = record {
  crashes = λ q crashed. crashed;
  opens = λ at q key call none is_open. is_open;
  watches = λ q none watching. inl watching;
  shut = λ at q key call none is_open. none;
}

pub dominates_itself : {S : Type 0} (observes : Call → Bool) (h : List Event) (m : Member S) → IsRising m.placed → Dominates observes h m m
dominates_itself observes h m sorted = record {
  sorted = sorted;
  same = refl;
  part = λ x there. there;
  rest = λ x there. inl there;
  offered = λ x watching absent there. there;
}

pub transitive_law : (S : Type 0) → TransitiveLaw S
transitive_law S observes h k m n first second = record {
  sorted = first.sorted;
  same = first.same ∙ second.same;
  part = λ x there. second.part x (first.part x there);
  rest = λ x there. elim (second.rest x there) [
    | inl kept ↦ first.rest x kept
    | inr crashed ↦ inr crashed
  ];
  offered = λ x watching absent there. first.offered x watching absent (second.offered x watching
      (λ other is. elim (first.rest (x.0, other) is) [ inl kept ↦ absent other kept | inr crashed ↦ watching.alive crashed ]) there);
}

module _ {S : Type 0} (step : S → Call → S → Reply → Type 0) where
  -- where the histories are such that nothing ends
  pub covers_on : (observes : Call → Bool) (h g : List Event) → Passes observes h g (λ q. ⊥) → (m n : Member S) → Dominates observes g n m
      → (c : S × List (ℕ × Reply)) → IsRising c.1 → LeadsToCover step observes h m c → LeadsToCover step observes g n c
  covers_on observes h g passes m n dominates c rising is =
      to_covers step observes g n c (meets_over step observes h g (λ q. ⊥) passes m.state m.placed m.placed (IsOnOffer m) n
      (λ x there. there) (λ x there none. none) (λ x there. inl there) dominates c.0 c.1 c.1 rising (λ x there. there) (λ x there none. none) (λ x there. inl there)
      (from_covers step observes h m c rising is) (λ at p key call reply is_open no' absent there over. over))

  pub covers_own : (observes : Call → Bool) (h : List Event) (m : Member S) (c : S × List (ℕ × Reply)) → Leads step observes h m c → LeadsToCover step observes h m c
  covers_own observes h m c is = (c, is, covers_from (HasCrashed h) c c refl (λ x there. there) (λ x there. inl there))

  pub domination_law : DominationLaw step
  domination_law observes h m n dominates c is = covers_on observes h h (passes_itself observes h) n m dominates c is.rising (covers_own observes h n c is)

  -- a member that leads anywhere has its placed operations by rising process
  pub covers_sorted : (observes : Call → Bool) (h : List Event) (m : Member S) (c : S × List (ℕ × Reply)) → LeadsToCover step observes h m c → IsRising m.placed
  covers_sorted observes h m c is = way_start step observes h (m.state, m.placed) (is.0.0, is.1.placed) is.1.way is.1.before

module _ {S : Type 0} (start : S) (step : S → Call → S → Reply → Type 0) where
  pub dropping_law : DroppingLaw start step
  dropping_law observes h members others dominated complete c config =
      let found = complete c config in
      let by = dominated found.member found.among in
      covered_by step observes h members others c found (by.0, by.1, covers_on step observes h h (passes_itself observes h) found.member by.0 by.2 (c.0, found.placed) found.exchanged.rising found.leads)

  -- more members
  pub complete_within : (observes : Call → Bool) (h : List Event) (members others : List (Member S)) → ((m : Member S) → Contains members m → Contains others m) → IsComplete start step observes h members
      → IsComplete start step observes h others
  complete_within observes h members others within complete c config =
      let found = complete c config in
      covered_by step observes h members others c found (found.member, within found.member found.among, found.leads)

  pub drop_one_law : DropOneLaw start step
  drop_one_law observes h before after m n there dominates complete c config =
      let found = complete c config in
      covered_by step observes h (before ++ (n ∷ after)) (before ++ after) c found (elim (Contains-append_cases before (n ∷ after) found.member found.among) [
        | inl first ↦ (found.member, Contains-append_left before after found.member first, found.leads)
        | inr last ↦ elim (first_or_rest n after found.member last) [
          | inl same ↦ (
            m,
            there,
            covers_on step observes h h (passes_itself observes h) n m dominates (c.0, found.placed) found.exchanged.rising
                (subst (λ k. LeadsToCover step observes h k (c.0, found.placed)) (sym same) found.leads),
          )
          | inr later ↦ (found.member, Contains-append_right before after found.member later, found.leads)
        ]
      ])

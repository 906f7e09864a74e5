-- A listing is a covering, in which each member leads to its own configuration.
use Rattle.std.proofs.Common.{map, Contains, subst, sym, true≢false}
use Rattle.lin_events.specs.declared.calls.Call.{Call}
use Rattle.lin_events.specs.declared.calls.Reply.{Reply}
use Rattle.lin_order.specs.Configurations.{IsRising}
use Rattle.lin_members.specs.declared.members.Path.{Path}
use Rattle.lin_members.specs.Listed.{ListingCoversLaw}
use Rattle.lin_members.specs.MemberLaws.{ListedLaw}
use Rattle.lin_members.specs.Members.{Member}
use Rattle.lin_configurations.specs.lemmas.Onward.{spelled_rising}
use Rattle.lin_lists.specs.lemmas.Filters.{from_map}

pub listing_covers : {S : Type 0} (start : S) (step : S → Call → S → Reply → Type 0) → ListedLaw start step → ListingCoversLaw start step
listing_covers {S} start step law observes h members nodes l = record {
  complete = law observes h (map (λ m. m.0) members) rising l.listing;
  spelled = l.spelled;
  overwritten = λ is. absurd (true≢false (sym is));
}
  where
    rising : (m : Member S) → Contains (map (λ k. k.0) members) m → IsRising m.placed
    rising m there =
        let k = from_map (λ (n : Member S × Path). n.0) members m there in
        subst (λ (n : Member S). IsRising n.placed) k.2 (spelled_rising start step observes h nodes k.0 (l.spelled k.0 k.1))

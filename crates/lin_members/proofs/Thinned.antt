-- Members that others dominate, once crashed operations that have the same call are exchanged, can be dropped.
use Rattle.std.proofs.Common.{inl}
use Rattle.lin_events.specs.declared.calls.Call.{Call}
use Rattle.lin_events.specs.declared.calls.Reply.{Reply}
use Rattle.lin_events.specs.WellFormedLaws.{WellFormedIsAlternating}
use Rattle.lin_members.specs.MemberLaws.{ThinningLaw}
use Rattle.lin_members.specs.Members.{IsOnOffer}
use Rattle.lin_members.specs.lemmas.Dominating.{passes_itself}
use Rattle.lin_members.specs.lemmas.Exchanging.{both, exchanged_both, exchanged_meets}
use Rattle.lin_members.specs.lemmas.Following.{meets_over}
use Rattle.lin_members.specs.lemmas.Ways.{from_covers, to_covers}

pub thinning_law : {S : Type 0} (start : S) (step : S → Call → S → Reply → Type 0) → WellFormedIsAlternating → ThinningLaw start step
thinning_law {S} start step alternating observes functions h well_formed members others each complete c config =
    let alternates = (alternating functions h).0 well_formed in
    let found = complete c config in
    let m = found.member in
    let by = each m found.among in
    let on = exchanged_meets by.exchange functions alternates step observes (IsOnOffer m) (m.state, m.placed) by.others by.exchanged c.0 found.placed
    (from_covers step observes h m (c.0, found.placed) found.exchanged.rising found.leads) in
    record {
      exchange = both functions alternates found.exchange by.exchange;
      placed = on.0;
      exchanged = exchanged_both functions alternates found.exchange by.exchange c.1 found.placed on.0 found.exchanged on.1;
      member = by.member;
      among = by.among;
      leads = to_covers step observes h by.member (c.0, on.0) (meets_over step observes h h (λ q. ⊥) (passes_itself observes h) m.state by.others by.others (IsOnOffer m) by.member
          (λ x there. there) (λ x there none. none) (λ x there. inl there) by.dominates c.0 on.0 on.0 on.1.rising (λ x there. there) (λ x there none. none) (λ x there. inl there)
          on.2 (λ at p key call reply is_open no' absent there over. over));
    }

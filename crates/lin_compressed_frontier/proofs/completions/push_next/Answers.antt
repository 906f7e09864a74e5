use Rattle.lin_compressed_frontier.proofs.completions.push_next.Goals as goal
use Rattle.indexmap.proofs.MapLemmas.{OnOk-map}

pub returns-clause-put : goal.returns-clause-put
returns-clause-put g c = OnOk-map c.push_member.result _ _ (λ pushed. record {
  member = c.in_ok-member.member;
  pushed = pushed;
  same = c.in_ok-member.ensures.same;
  begins = record { round = c.in_ok-member.ensures.round; node = c.in_ok-member.ensures.node };
}) c.push_member.ensures

use Rattle.std.proofs.Common.{◌≡◌, ℕ, ◌+◌, ◌-◌, ◌<◌, ◌≤◌, nat_le, Bool, true, false, arith, refl, ◌∙◌, ap}
use Rattle.lin_edn.specs.Grammar.{longest}
use Rattle.lin_edn.proofs.Limit.{is_above, is_past, is_under, is_within}
use Rattle.lin_edn.proofs.reader.is_over.Goals as goal

over_case : (m b at : ℕ) → 0 < m → (t : Bool) → nat_le (b + m) at ≡ t → nat_le m (at - b) ≡ t
over_case m b at z true h = let e : b + m ≤ at = is_past (b + m) at h in is_within m (at - b) (omega arith)
over_case m b at z false h = let e : at < b + m = is_under (b + m) at h in is_above m (at - b) (omega arith)

over_is : (b at : ℕ) → nat_le 16777216 (at - b) ≡ nat_le (b + longest) at
unfolding longest
over_is b at = over_case 16777216 b at (omega arith) (nat_le (b + 16777216) at) refl

pub returns : goal.returns
returns c = ap (nat_le 16777216) c.saturating_sub.ensures ∙ over_is c.args.begun c.args.at

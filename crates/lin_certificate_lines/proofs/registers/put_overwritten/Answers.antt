use Rattle.std.proofs.Common.{◌≡◌, ◌-◌, ◌∙◌, ℕ, All, ap, arith, length, map, refl, subst, sym, take}
use Rattle.lin_certificates.specs.Certificates.{OtherCanLeave}
use Rattle.lin_certificate_lines.specs.Groups.{IsBetween, IsListing}
use Rattle.lin_certificate_lines.specs.Lines.{overwritten_text}
use Rattle.lin_certificate_lines.specs.Reasons.{most_told, named_over}
use Rattle.lin_certificate_lines.proofs.Pairing.{all_between}
use Rattle.lin_certificate_lines.proofs.registers.put_overwritten.Goals as goal

pub pairs_of-requires-clause-each : goal.pairs_of-requires-clause-each
pairs_of-requires-clause-each c =
    let h = c.args.told.now.events.now in
    let at = c.args.operation in
    let v = c.args.value in
    let others = c.as_slice-others.result.now in
    let listed = subst (IsListing (OtherCanLeave h v at)) (sym c.as_slice-others.ensures.value) c.in_ok-list.ensures in
    subst (All (λ other. (over : ℕ) × IsBetween h other at over)) (sym c.firsts_of.ensures) (all_between h at v c.most_told-most.result others c.requires.holds listed)

pub returns : goal.returns
returns c =
    let told = c.args.told.now in
    let h = told.events.now in
    let at = c.args.operation in
    let v = c.args.value in
    let others = c.as_slice-others.result.now in
    let pairs = c.as_slice-pairs.result.now in
    let first = c.in_ok-first.first in
    let listed = subst (IsListing (OtherCanLeave h v at)) (sym c.as_slice-others.ensures.value) c.in_ok-list.ensures in
    let more : c.saturating_sub-more.result ≡ length others - most_told v = omega (arith, c.saturating_sub-more.ensures, c.most_told-most.ensures) in (
      overwritten_text told at v first pairs c.saturating_sub-more.result,
      named_over at first pairs,
      c.in_ok-put_overwritten_lines.ensures,
      c.in_ok-name_overwritten.ensures,
      record {
        others = others;
        all_others = listed;
        first = first;
        first_over = c.in_ok-first.ensures;
        pairs = pairs;
        pairs_begin = ap (map (λ pair. pair.0)) c.as_slice-pairs.ensures.value ∙ c.in_ok-over.ensures.begin ∙ c.firsts_of.ensures ∙ ap (λ n. take n others) c.most_told-most.ensures;
        each_between = subst (All (λ pair. IsBetween h pair.0 at pair.1)) (sym c.as_slice-pairs.ensures.value) c.in_ok-over.ensures.between;
        put = ap (overwritten_text told at v first pairs) more;
        named = refl;
      },
    )

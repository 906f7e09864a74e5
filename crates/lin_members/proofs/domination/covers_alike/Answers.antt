use Rattle.std.proofs.Common.{◌≡◌, ◌⊎◌, true, inl, refl, subst, sym, ◌∙◌, All, Contains, true≢false}
use Rattle.std.proofs.lemmas.List.Elements.{All-contains_itself, All-weaker}
use Rattle.lin_frontier.specs.Masks.{is_crashed}
use Rattle.lin_members.proofs.domination.covers_alike.Goals as goal

pub returns-then-not-is_same_state : goal.returns-then-not-is_same_state
returns-then-not-is_same_state g c =
    let same = rw (c.state.ensures, c.state-2.ensures) at c.is_same_state.ensures in (
      λ t. absurd (true≢false (sym t)),
      λ d. absurd (true≢false (sym (same.1 d.same) ∙ c.if-not-is_same_state.true)),
    )

pub returns-then-are_same : goal.returns-then-are_same
returns-then-are_same g c =
    let state = (rw (c.state.ensures, c.state-2.ensures) at c.is_same_state.ensures).0 c.if-not-is_same_state.false in
    let same = (rw (c.placed.ensures, c.placed-2.ensures) at c.are_same.ensures) c.if-are_same.true in
    let these = c.args.config.now.1 in
    let itself = All-contains_itself these in (
      λ _. record {
        same = state;
        part = subst (λ l. All (λ x. Contains l x) these) same itself;
        rest = subst (λ l. All (λ x. Contains these x ⊎ (is_crashed c.args.pending.now x.0 ≡ true)) l) same (All-weaker (λ x. Contains these x) (λ x. Contains these x ⊎ (is_crashed c.args.pending.now x.0 ≡ true)) (λ x there. inl there) these itself);
      },
      λ _. refl,
    )

use Rattle.std.proofs.Common.{refl, sym, inl, inr, ◌∙◌, true≢false}
use Rattle.lin_members.proofs.domination.is_below.Goals as goal

pub returns-then-is_one_above : goal.returns-then-is_one_above
returns-then-is_one_above g c = (
  λ _. let f = c.is_one_above.ensures.0 c.if-is_one_above.true in (f.0, inl f.1, f.2),
  λ _. refl,
)

pub returns : goal.returns
returns g c = (
  λ t. let f = c.is_one_above-2.ensures.0 t in (f.0, inr f.1, f.2),
  λ h. elim h.1 [
    | inl in_rest ↦ absurd (true≢false (sym (c.is_one_above.ensures.1 (h.0, in_rest, h.2)) ∙ c.if-is_one_above.false))
    | inr in_kept ↦ c.is_one_above-2.ensures.1 (h.0, in_kept, h.2)
  ],
)

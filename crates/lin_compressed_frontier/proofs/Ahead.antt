-- Operations that are open beside one that goes ahead of them.
use Rattle.std.proofs.Common.{◌≡◌, ◌≢◌, ◌≤◌, ◌+◌, ℕ, suc, Bool, cond, List, [], ◌∷◌, ◌++◌, AllPairs, Contains, count_by, take, drop, inl, inr, sym, ap, subst, ◌∙◌, arith, refl}
use Rattle.std.proofs.lemmas.List.Elements.{Contains-append_cases, Contains-append_left, Contains-append_right}
use Rattle.std.proofs.lemmas.List.Sums.{sum_by-cons}
use Rattle.lin_lists.specs.lemmas.Elements.{first_or_rest}
use Rattle.lin_lists.specs.lemmas.Taken.{split_at}
use Rattle.lin_events.specs.declared.calls.Call.{Call}
use Rattle.lin_events.specs.declared.calls.Reply.{Reply}
use Rattle.lin_objects.specs.lemmas.Counted.{count_middle}
use Rattle.lin_frontier.specs.declared.pending.Open.{Open}
use Rattle.lin_members.specs.lemmas.Choosing.{head_pairs, tail_pairs}

-- calls of different processes, each of which is pending, are no more than those
pub no_more : (hinders : Call → Bool) (calls : List (ℕ × Call × Reply)) (pending : List Open) → AllPairs (λ x y. x.0 ≢ y.0) calls
    → ((x : ℕ × Call × Reply) → Contains calls x → (o : Open) × Contains pending o × (o.process ≡ x.0) × (o.call ≡ x.1)) → count_by (λ x. hinders x.1) calls ≤ count_by (λ o. hinders o.call) pending
no_more hinders [] pending apart each = omega arith
no_more hinders (x ∷ xs) pending apart each =
    let rest = no_more hinders xs (before ++ behind) (tail_pairs (λ (a : ℕ × Call × Reply) (b : ℕ × Call × Reply). a.0 ≢ b.0) x xs apart) others in
    let one = sum_by-cons (λ (y : ℕ × Call × Reply). cond (hinders y.1) 1 0) x xs in
    let own = count_middle (λ (o : Open). hinders o.call) before t.0 behind in
    let same = ap {B = ℕ} (λ (a : Call). cond (hinders a) 1 0) t.3 in
    subst (λ (l : List Open). count_by (λ (y : ℕ × Call × Reply). hinders y.1) (x ∷ xs) ≤ count_by (λ (o : Open). hinders o.call) l) whole (omega (arith, rest, one, own, same))
  where
    t : (o : Open) × Contains pending o × (o.process ≡ x.0) × (o.call ≡ x.1)
    t = each x (0, omega arith, refl)

    before : List Open
    before = take t.1.0 pending

    behind : List Open
    behind = drop (suc t.1.0) pending

    whole : before ++ t.0 ∷ behind ≡ pending
    whole = split_at pending t.1.0 t.0 t.1.1 (sym t.1.2)

    others : (y : ℕ × Call × Reply) → Contains xs y → (o : Open) × Contains (before ++ behind) o × (o.process ≡ y.0) × (o.call ≡ y.1)
    others y there =
        let k = each y (suc there.0, omega (arith, there.1), there.2) in (
          k.0,
          elim (Contains-append_cases before (t.0 ∷ behind) k.0 (subst (λ (l : List Open). Contains l k.0) (sym whole) k.1)) [
            | inl earlier ↦ Contains-append_left before behind k.0 earlier
            | inr later ↦ elim (first_or_rest t.0 behind k.0 later) [
              | inl same ↦ absurd (head_pairs (λ (a : ℕ × Call × Reply) (b : ℕ × Call × Reply). a.0 ≢ b.0) x xs y apart there (sym t.2 ∙ ap (λ (o : Open). o.process) same ∙ k.2))
              | inr there' ↦ Contains-append_right before behind k.0 there'
            ]
          ],
          k.2,
          k.3,
        )

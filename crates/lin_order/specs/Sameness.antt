-- Configurations that compare alike by `==` are the same.
use Rattle.std.specs.Prelude.{◌≡◌, ℕ, Bool, true, false, ◌&&◌, nat_eq, List, Decides}
use Rattle.std.proofs.Common.{refl, sym, ap, ◌∙◌, true≢false}
use Rattle.std.specs.Cmp.Lexicographic.{pointwise}
use Rattle.std.proofs.lemmas.Bool.Decides.{Decides-eqb}
use Rattle.std.proofs.lemmas.Slice.Eq.{slice_eq-Decides}
use Rattle.lin_events.specs.declared.calls.Reply.{Reply}
use Rattle.lin_events.specs.Replies.{reply_Decides}
use Rattle.lin_events.specs.contracts.calls.ReplyPartialEq.TheImpl as ReplyImpl
use Rattle.lin_objects.specs.declared.states.State.{State}
use Rattle.lin_objects.specs.States.{state_Decides}
use Rattle.lin_objects.specs.contracts.states.StatePartialEq.TheImpl as StateImpl

left_true : (a b : Bool) → (a && b) ≡ true → a ≡ true
left_true true b h = refl
left_true false b h = absurd (true≢false (sym h))

right_true : (a b : Bool) → (a && b) ≡ true → b ≡ true
right_true true b h = h
right_true false b h = absurd (true≢false (sym h))

-- tests of both parts decide whether pairs are the same
both_Decide : {A B : Type 0} {D : A → A → Bool} {E : B → B → Bool} → ((a b : A) → Decides (D a b) (a ≡ b)) → ((a b : B) → Decides (E a b) (a ≡ b))
    → (p q : A × B) → Decides (D p.0 q.0 && E p.1 q.1) (p ≡ q)
both_Decide {A} {B} {D} {E} d e p q = (
  λ h.
      let first = (d p.0 q.0).0 (left_true (D p.0 q.0) (E p.1 q.1) h) in
      let second = (e p.1 q.1).0 (right_true (D p.0 q.0) (E p.1 q.1) h) in
      λ i. (first i, second i),
  λ same.
      ap (λ (r : A × B). D p.0 r.0 && E p.1 r.1) (sym same) ∙ ap (λ b. b && E p.1 p.1) ((d p.0 p.0).1 refl) ∙ (e p.1 p.1).1 refl,
)

-- a process with a reply
abbrev pub pair_eq : ℕ × Reply → ℕ × Reply → Bool
pair_eq p q = nat_eq p.0 q.0 && ReplyImpl.ghosts.eq p.1 q.1

pub placed_Decides : (xs ys : List (ℕ × Reply)) → Decides (pointwise pair_eq xs ys) (xs ≡ ys)
placed_Decides xs ys = slice_eq-Decides (both_Decide Decides-eqb reply_Decides) xs ys _ refl

abbrev pub config_eq : State × List (ℕ × Reply) → State × List (ℕ × Reply) → Bool
config_eq c d = StateImpl.ghosts.eq c.0 d.0 && pointwise pair_eq c.1 d.1

pub config_Decides : (c d : State × List (ℕ × Reply)) → Decides (config_eq c d) (c ≡ d)
config_Decides = both_Decide state_Decides placed_Decides

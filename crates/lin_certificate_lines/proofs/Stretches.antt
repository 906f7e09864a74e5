-- Of other calls than a lock's nothing is told.
use Rattle.std.proofs.Common.{◌≡◌, ℕ, List, [], append-nil, refl, sym}
use Rattle.lin_certificates.specs.declared.words.Calls.{Calls}
use Rattle.lin_certificates.specs.declared.words.Calls.TheVariants.{Leaves, Updates, Spends, Adds, AddsSome, Dequeues, Acquires, Releases}
use Rattle.lin_certificate_lines.specs.Reasons.{ArePut}
use Rattle.lin_certificate_lines.specs.Within.{IsWithinTold}
use Rattle.lin_certificate_lines.specs.declared.told.ObjectEvents.{ObjectEvents}

module _ (told : ObjectEvents) (from to : ℕ) (text named : List ℕ) where
  nothing : (calls : Calls) → ((lines more : List ℕ) → lines ≡ [] → more ≡ [] → IsWithinTold told calls from to lines more) → ArePut (IsWithinTold told calls from to) text text named named
  nothing calls tells = ([], [], sym (append-nil text), sym (append-nil named), tells [] [] refl refl)

  pub nothing_within : (calls : Calls) → (calls ≡ Acquires → ⊥) → (calls ≡ Releases → ⊥) → ArePut (IsWithinTold told calls from to) text text named named
  nothing_within Acquires a b = absurd (a refl)
  nothing_within Releases a b = absurd (b refl)
  nothing_within (Leaves v) a b = nothing (Leaves v) (λ lines more p q. (p, q))
  nothing_within Updates a b = nothing Updates (λ lines more p q. (p, q))
  nothing_within (Spends v) a b = nothing (Spends v) (λ lines more p q. (p, q))
  nothing_within (Adds n) a b = nothing (Adds n) (λ lines more p q. (p, q))
  nothing_within AddsSome a b = nothing AddsSome (λ lines more p q. (p, q))
  nothing_within Dequeues a b = nothing Dequeues (λ lines more p q. (p, q))

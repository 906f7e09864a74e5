-- What a certificate of some kind of object says by its form.
use Rattle.std.proofs.Common.{◌≡◌, ℕ, List, [], Option, append-nil, refl, subst, sym}
use Rattle.lin_events.specs.declared.items.Item.{Item}
use Rattle.lin_events.specs.declared.calls.Val.{Val}
use Rattle.lin_events.specs.declared.events.Event.{Event}
use Rattle.lin_objects.specs.declared.kinds.Kind.{Kind}
use Rattle.lin_objects.specs.declared.kinds.Kind.TheVariants.{Register, CasRegister, Fifo, Bag, Set, Mutex}
use Rattle.lin_certificates.specs.Certificates.{Certifies, IsCounted, IsOverwritten}
use Rattle.lin_certificates.specs.declared.certificate.Certificate.{Certificate}
use Rattle.lin_certificates.specs.declared.certificate.Certificate.TheVariants.{Shape, Unwritten, Overwritten, Stale, Crossed, Spent, Taken, Passed, Inside, Preceded, Remaining, Surplus, Unadded, Lost, Split, Late, Twice, Counted, Within}
use Rattle.lin_certificate_lines.specs.Reasons.{ArePut, IsCertified, IsReasonOfRegister}
use Rattle.lin_certificate_lines.specs.declared.told.ObjectEvents.{ObjectEvents}

overwritten_by : (h : List Event) (at : ℕ) (v : Val) (kind : Kind) → Certifies h kind (Overwritten at v) → IsOverwritten h at v
overwritten_by h at v Register holds = holds
overwritten_by h at v CasRegister holds = holds
overwritten_by h at v Fifo holds = absurd holds
overwritten_by h at v Bag holds = absurd holds
overwritten_by h at v Set holds = absurd holds
overwritten_by h at v Mutex holds = absurd holds

pub overwritten_of : (h : List Event) (c : Certificate) (at : ℕ) (v : Val) → c ≡ Overwritten at v → IsCertified h c → IsOverwritten h at v
overwritten_of h c at v is holds = overwritten_by h at v holds.0 (subst (Certifies h holds.0) is holds.1)

counted_by : (h : List Event) (kind : Kind) → Certifies h kind Counted → IsCounted h
counted_by h Register holds = absurd holds
counted_by h CasRegister holds = absurd holds
counted_by h Fifo holds = absurd holds
counted_by h Bag holds = absurd holds
counted_by h Set holds = absurd holds
counted_by h Mutex holds = holds

pub counted_of : (h : List Event) (c : Certificate) → c ≡ Counted → IsCertified h c → IsCounted h
counted_of h c is holds = counted_by h holds.0 (subst (Certifies h holds.0) is holds.1)

module _ (told : ObjectEvents) where
  nothing : (c : Certificate) (text named : List ℕ) → ((lines more : List ℕ) → lines ≡ [] → more ≡ [] → IsReasonOfRegister told c lines more) → ArePut (IsReasonOfRegister told c) text text named named
  nothing c text named tells = ([], [], sym (append-nil text), sym (append-nil named), tells [] [] refl refl)

  -- a certificate of another kind of object is told elsewhere
  pub nothing_put : (c : Certificate) (text named : List ℕ)
      → ((read : ℕ) → c ≡ Shape read → ⊥)
      → ((at : ℕ) (n : Item) → c ≡ Unwritten at n → ⊥)
      → ((at : ℕ) (v : Val) → c ≡ Overwritten at v → ⊥)
      → ((at : ℕ) (v : Val) (over : ℕ) (w : Val) → c ≡ Stale at v over w → ⊥)
      → ((v : Val) (n : Item) (early late : ℕ) (back : Option (ℕ × ℕ)) → c ≡ Crossed v n early late back → ⊥)
      → ArePut (IsReasonOfRegister told c) text text named named
  nothing_put (Shape read) text named a b d s e = absurd (a read refl)
  nothing_put (Unwritten at n) text named a b d s e = absurd (b at n refl)
  nothing_put (Overwritten at v) text named a b d s e = absurd (d at v refl)
  nothing_put (Stale at v over w) text named a b d s e = absurd (s at v over w refl)
  nothing_put (Crossed v n early late back) text named a b d s e = absurd (e v n early late back refl)
  nothing_put (Spent v) text named a b d s e = nothing (Spent v) text named (λ lines more p q. (p, q))
  nothing_put (Taken n) text named a b d s e = nothing (Taken n) text named (λ lines more p q. (p, q))
  nothing_put (Passed enqueue later dequeue n other) text named a b d s e = nothing (Passed enqueue later dequeue n other) text named (λ lines more p q. (p, q))
  nothing_put (Inside enqueue dequeue n) text named a b d s e = nothing (Inside enqueue dequeue n) text named (λ lines more p q. (p, q))
  nothing_put (Preceded later dequeue n) text named a b d s e = nothing (Preceded later dequeue n) text named (λ lines more p q. (p, q))
  nothing_put (Remaining dequeue) text named a b d s e = nothing (Remaining dequeue) text named (λ lines more p q. (p, q))
  nothing_put (Surplus dequeue ns) text named a b d s e = nothing (Surplus dequeue ns) text named (λ lines more p q. (p, q))
  nothing_put (Unadded read n) text named a b d s e = nothing (Unadded read n) text named (λ lines more p q. (p, q))
  nothing_put (Lost earlier read n) text named a b d s e = nothing (Lost earlier read n) text named (λ lines more p q. (p, q))
  nothing_put (Split first second n other) text named a b d s e = nothing (Split first second n other) text named (λ lines more p q. (p, q))
  nothing_put (Late earlier add read n other) text named a b d s e = nothing (Late earlier add read n other) text named (λ lines more p q. (p, q))
  nothing_put (Twice first second) text named a b d s e = nothing (Twice first second) text named (λ lines more p q. (p, q))
  nothing_put Counted text named a b d s e = nothing Counted text named (λ lines more p q. (p, q))
  nothing_put (Within calls from to) text named a b d s e = nothing (Within calls from to) text named (λ lines more p q. (p, q))

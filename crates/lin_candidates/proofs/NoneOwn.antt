-- What certificates of one operation say of it.
use Rattle.std.proofs.Common.{◌≡◌, ℕ, List, sym, subst, false, true≢false, Option, Some, None, MatchOption, IfNone}
use Rattle.std.specs.Option.{is_some}
use Rattle.lin_events.specs.declared.items.Item.{Item}
use Rattle.lin_events.specs.declared.calls.Call.{Call}
use Rattle.lin_events.specs.declared.calls.Reply.{Reply}
use Rattle.lin_events.specs.declared.calls.Val.{Val}
use Rattle.lin_events.specs.declared.calls.Val.TheVariants.{Item as Held}
use Rattle.lin_events.specs.declared.events.Event.{Event}
use Rattle.lin_objects.specs.declared.kinds.Kind.{Kind}
use Rattle.lin_objects.specs.declared.kinds.Kind.TheVariants.{Register, CasRegister, Fifo, Bag, Set, Mutex}
use Rattle.lin_events.specs.Operations.{IsOk}
use Rattle.lin_order.specs.Orders.{IsCall}
use Rattle.lin_order.specs.lemmas.OneEnd.{one_call, one_ok}
use Rattle.lin_certificates.specs.Certificates.{Certifies, Needed, TookOut}
use Rattle.lin_certificates.specs.Words.{Returned}
use Rattle.lin_certificates.specs.declared.certificate.Certificate.{Certificate}
use Rattle.lin_certificates.specs.declared.certificate.Certificate.TheVariants as Form
use Rattle.lin_candidates.specs.OwnCertificates.{IsOwn}

-- of a result that may be nothing
pub none_always : {A : Type 0} {P : Type 0} (found : Option A) → P → IfNone found P
none_always None p = p
none_always (Some x) p = tt

pub none_on : {A : Type 0} {P Q : Type 0} (found : Option A) → (P → Q) → IfNone found P → IfNone found Q
none_on None then p = then p
none_on (Some x) then p = tt

pub none_is : {A : Type 0} {P : Type 0} (found : Option A) → false ≡ is_some found → IfNone found P → P
none_is None none p = p
none_is (Some x) none p = absurd (true≢false (sym none))

module _ (h : List Event) (at : ℕ) where
  -- what holds of the call with its reply holds of the operation that returned, of which there is one
  pub of_call : {V : Type 0} (P : Call → Reply → V → Type 0) (call : Call) (end : ℕ) (reply : Reply) → IsCall h at call → IsOk h at end reply → (found : Option V)
      → MatchOption found ((v : V) → P call reply v → ⊥) (λ x. (v : V) → P call reply v → x ≡ v)
      → MatchOption found ((v : V) → Returned h (λ c r. P c r v) at → ⊥) (λ x. (v : V) → Returned h (λ c r. P c r v) at → x ≡ v)
  of_call {V} P call end reply called ok found is = by found is
    where
      same : (v : V) → Returned h (λ c r. P c r v) at → P call reply v
      same v it = subst (λ r. P call r v) (one_ok h at it.1 end it.2 reply it.4 ok).1 (subst (λ x. P x it.2 v) (one_call h at it.0 call it.3 called) it.5)

      by : (found : Option V) → MatchOption found ((v : V) → P call reply v → ⊥) (λ x. (v : V) → P call reply v → x ≡ v)
          → MatchOption found ((v : V) → Returned h (λ c r. P c r v) at → ⊥) (λ x. (v : V) → Returned h (λ c r. P c r v) at → x ≡ v)
      by None none = λ v it. none v (same v it)
      by (Some x) some = λ v it. some v (same v it)

  pub unwritten_needed : (kind : Kind) (item : Item) → Certifies h kind (Form.Unwritten at item) → Needed h (Held item) at
  unwritten_needed Register item is = is.0
  unwritten_needed CasRegister item is = is.0
  unwritten_needed Fifo item is = absurd is
  unwritten_needed Bag item is = absurd is
  unwritten_needed Set item is = absurd is
  unwritten_needed Mutex item is = absurd is

  pub overwritten_needed : (kind : Kind) (v : Val) → Certifies h kind (Form.Overwritten at v) → Needed h v at
  overwritten_needed Register v is = is.needed
  overwritten_needed CasRegister v is = is.needed
  overwritten_needed Fifo v is = absurd is
  overwritten_needed Bag v is = absurd is
  overwritten_needed Set v is = absurd is
  overwritten_needed Mutex v is = absurd is

  module _ (kind : Kind) (shape : Certifies h kind (Form.Shape at) → ⊥) (unwritten : (item : Item) → Certifies h kind (Form.Unwritten at item) → ⊥) (overwritten : (v : Val) → Certifies h kind (Form.Overwritten at v) → ⊥)
      (taken : (n : Item) → TookOut h n at → Certifies h kind (Form.Taken n) → ⊥) (remaining : Certifies h kind (Form.Remaining at) → ⊥) (counted : Certifies h kind Form.Counted → ⊥) where
    pub none_own : (c : Certificate) → IsOwn h at c → Certifies h kind c → ⊥
    none_own (Form.Shape read) own is = shape (subst (λ k. Certifies h kind (Form.Shape k)) own is)
    none_own (Form.Unwritten operation item) own is = unwritten item (subst (λ k. Certifies h kind (Form.Unwritten k item)) own is)
    none_own (Form.Overwritten operation v) own is = overwritten v (subst (λ k. Certifies h kind (Form.Overwritten k v)) own is)
    none_own (Form.Taken n) own is = taken n own is
    none_own (Form.Remaining dequeue) own is = remaining (subst (λ k. Certifies h kind (Form.Remaining k)) own is)
    none_own Form.Counted own is = counted is
    none_own (Form.Stale operation v over w) own is = own
    none_own (Form.Crossed v w early late back) own is = own
    none_own (Form.Spent v) own is = own
    none_own (Form.Passed enqueue later dequeue n other) own is = own
    none_own (Form.Inside enqueue dequeue n) own is = own
    none_own (Form.Surplus dequeue ns) own is = own
    none_own (Form.Preceded later dequeue n) own is = own
    none_own (Form.Unadded read n) own is = own
    none_own (Form.Lost earlier read n) own is = own
    none_own (Form.Split first second n m) own is = own
    none_own (Form.Late earlier add read n other) own is = own
    none_own (Form.Twice first second) own is = own
    none_own (Form.Within calls from to) own is = own

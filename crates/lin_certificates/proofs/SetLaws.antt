-- Sets have no legal order of operations that a certificate holds of.
use Rattle.std.proofs.Common.{◌≡◌, ◌<◌, ℕ, List, sym, subst, ◌∙◌}
use Rattle.lin_events.specs.declared.items.Item.{Item}
use Rattle.lin_events.specs.declared.calls.Call.TheVariants.{Read}
use Rattle.lin_events.specs.declared.calls.Reply.{Reply}
use Rattle.lin_events.specs.declared.calls.Reply.TheVariants as Replied
use Rattle.lin_events.specs.declared.calls.Val.{Val}
use Rattle.lin_events.specs.declared.events.Event.{Event}
use Rattle.lin_objects.specs.declared.kinds.Kind.TheVariants.{Set}
use Rattle.lin_objects.specs.declared.states.State.{State}
use Rattle.lin_objects.specs.declared.states.State.TheVariants.{Members}
use Rattle.lin_objects.specs.Steps.{Step, start}
use Rattle.lin_order.specs.declared.placed.Placed.{Placed}
use Rattle.lin_order.specs.Linearizable.{IsLegalOrderAs}
use Rattle.lin_order.specs.Orders.{IsBefore}
use Rattle.lin_order.specs.lemmas.OneEnd.{one_call, one_ok}
use Rattle.lin_certificates.specs.SetConflicts.{FoundAt, HadAt}
use Rattle.lin_certificates.specs.lemmas.SetConflicting.{ahead_of, apart, lost, unadded}
use Rattle.lin_certificates.specs.Words.{Gives, Returned}
use Rattle.lin_certificates.specs.Certificates.{AreSplit, Had, IsLate, IsLost, IsUnadded, Told}
use Rattle.lin_certificates.specs.declared.words.ReadSort.TheVariants as Sorted
use Rattle.lin_certificates.proofs.Outcomes.{not_added}
use Rattle.lin_certificates.specs.lemmas.Standing.{ok_there, step_there}

module _ (h : List Event) (order : List Placed) (legal : IsLegalOrderAs Set h order) where
  had_at : (n : Item) (at : ℕ) (is : Had h n at) → HadAt h at n is.1
  had_at n at is = (is.0, is.2, is.3, is.4, is.5)

  told_at : (n m : Item) (at : ℕ) → Told h n m at → FoundAt h at n m
  told_at n m at is = (is.0, is.2, is.3, (is.1, is.4), is.5.0, is.5.1)

  -- whatever it is before was invoked past its end
  past : (n : Item) (at : ℕ) (is : Had h n at) (later : ℕ) → IsBefore h at later → is.1 < later
  past n at is later before = subst (λ (end : ℕ). end < later) (one_ok h at before.0 is.1 before.1 is.2 before.2 is.4).0 before.3

  pub none_added : (read : ℕ) (n : Item) → IsUnadded h read n → ⊥
  none_added read n is = unadded h order legal n read is.0.1 (not_added h n is.0.1 (λ at can. absurd (is.1 at can))) (had_at n read is.0)

  pub one_lost : (earlier read : ℕ) (n : Item) → IsLost h earlier read n → ⊥
  one_lost earlier read n is = lost h order legal n earlier is.0.1 read is.1.1 (had_at n earlier is.0) (is.1.0, is.1.2, is.1.3, is.1.4, is.1.5) (past n earlier is.0 read is.2)

  pub split : (first second : ℕ) (n m : Item) → AreSplit h first second n m → ⊥
  split first second n m is = apart h order legal n m first second (told_at n m first is.0) (told_at m n second is.1)

  pub late : (earlier add read : ℕ) (n other : Item) → IsLate h earlier add read n other → ⊥
  late earlier add read n other is =
      ahead_of h order legal other n earlier is.had.1 read (had_at n earlier is.had) (told_at other n read is.told)
      (not_added h other is.had.1 (λ at can. past n earlier is.had at (is.all_later at can)))

  -- a read of a set gives members
  read_members : (s next : State) (reply : Reply) → Step Set s Read next reply → (m : List Item) × (reply ≡ Replied.Members m)
  read_members (Members m) next reply step = (m, step.1)
  read_members s next reply step = absurd step

  pub no_value : (at : ℕ) → Returned h (λ call reply. Gives Sorted.Value call reply) at → ⊥
  no_value at is =
      let p : Placed = record { at = at; reply = is.2 } in
      let place = ok_there Set h order legal at is.1 is.2 is.4 in
      let step = step_there Set h (start Set) legal.legal.0 order place.0 p legal.legal.1 place.1 in
      let call : step.0 ≡ Read = one_call h at step.0 is.0 step.3 is.3 ∙ is.5.0 in
      let found = read_members step.1 step.2 is.2 (subst (λ c. Step Set step.1 c step.2 is.2) call step.4) in
      differ is.5.1.0 found.0 (sym is.5.1.1 ∙ found.1)
    where
      differ : (x : Val) (m : List Item) → Replied.Value x ≡ Replied.Members m → ⊥
      differ x m e = cc

-- The open operations of a history that grows.
use Rattle.std.proofs.Common.{◌≡◌, ℕ, ◌+◌, ◌<◌, ◌≤◌, Bool, true, false, not, List, [], ◌∷◌, ◌++◌, length, Contains, ◌↔◌, IsTrue, inl, inr, refl, sym, ap, subst, ◌∙◌, arith, take, get_or, add-one}
use Rattle.std.proofs.lemmas.Bool.{cases_eq}
use Rattle.std.proofs.lemmas.List.{length-take-le}
use Rattle.std.proofs.lemmas.Option.{slice_get_within, slice_get-get_or, get_or_from_slice_get}
use Rattle.std.proofs.lemmas.List.Elements.{Contains-append_left, Contains-push, Contains-push_cases}
use Rattle.lin_events.specs.declared.items.Item.{Item}
use Rattle.lin_events.specs.declared.calls.Call.{Call}
use Rattle.lin_events.specs.declared.calls.Name.{Name}
use Rattle.lin_events.specs.declared.calls.Reply.{Reply}
use Rattle.lin_events.specs.declared.events.Body.{Body}
use Rattle.lin_events.specs.declared.events.Body.TheVariants.{Invoke, Ok, Fail, Info}
use Rattle.lin_events.specs.declared.events.Event.{Event}
use Rattle.lin_events.specs.Operations.{IsEvent, IsEnd, IsOpen, IsOperation}
use Rattle.lin_order.specs.inner.Checking.{AreOpen, IsOpenAt, IsReturning}
use Rattle.lin_order.specs.lemmas.Lists.{take_more}
use Rattle.lin_lists.specs.lemmas.Elements.{nothing_in}
use Rattle.lin_order.specs.lemmas.OneEnd.{one_end, one_ending}
use Rattle.lin_events.specs.lemmas.OneMore.{open_before}
use Rattle.lin_order.specs.lemmas.Prefixes.{get_from_take, get_of_take, end_whole}
use Rattle.lin_order.proofs.Refuting.{there_is, one_further}

ok_returns : (body : Body) (name : Name) (reply : Reply) → body ≡ Ok name reply → IsReturning body
ok_returns body name reply is = subst IsReturning (sym is) tt

fail_returns : (body : Body) (name : Name) → body ≡ Fail name → IsReturning body
fail_returns body name is = subst IsReturning (sym is) tt

module _ (h : List Event) (at n : ℕ) (before : at < n) where
  -- an operation whose end, if it has one, is past or no return, is open in the first events
  still_open : (process : ℕ) (key : Item) (call : Call) → IsOperation h at process key call → ((end : ℕ) (ending : Event) → end < n → IsEnd h at end ending → IsReturning ending.body → ⊥) → IsOpenAt (take n h) at
  still_open process key call op never = (
    process,
    key,
    call,
    record {
      begins = get_of_take n h at before ∙ op;
      no_ok = λ end reply ok. let e = end_whole h n at end ok.0 ok.1 in never end ok.0 e.0 e.1 (ok_returns ok.0.body ok.2 reply ok.3);
      no_fail = λ f. let e = end_whole h n at f.0 f.1 f.2 in never f.0 f.1 e.0 e.1 (fail_returns f.1.body f.3 f.4);
    },
  )

  pub never_ended : (process : ℕ) (key : Item) (call : Call) → IsOperation h at process key call → ((end : ℕ) (ending : Event) → IsEnd h at end ending → ⊥) → IsOpenAt (take n h) at
  never_ended process key call op never = still_open process key call op (λ end ending inside e returns. never end ending e)

  module _ (end : ℕ) (ending : Event) (e : IsEnd h at end ending) where
    pub ended_past : n ≤ end → IsOpenAt (take n h) at
    ended_past past = still_open e.process e.key e.call e.begins (λ other another inside f returns. let same = one_end h at end other ending another e f in omega arith)

    pub ended_open : (IsReturning ending.body → ⊥) → IsOpenAt (take n h) at
    ended_open quiet = still_open e.process e.key e.call e.begins (λ other another inside f returns.
        quiet (subst (λ (x : Event). IsReturning x.body) (sym (one_ending h at end other ending another e f)) returns))

    pub ended_not : end < n → IsReturning ending.body → IsOpenAt (take n h) at → ⊥
    ended_not inside returns is_open = by ending.body refl returns
      where
        within : IsEnd (take n h) at end ending
        within = record {
          process = e.process;
          key = e.key;
          call = e.call;
          begins = get_of_take n h at before ∙ e.begins;
          later = e.later;
          ends = get_of_take n h end inside ∙ e.ends;
          same = e.same;
          least = λ k after earlier of_it. e.least k after earlier (of_it.0, (get_from_take n h k of_it.0 of_it.1).1, of_it.2);
        }

        by : (body : Body) → ending.body ≡ body → IsReturning body → ⊥
        by (Invoke call) is never = never
        by (Ok name reply) is yes' = is_open.3.no_ok end reply (ending, within, name, is)
        by (Fail name) is yes' = is_open.3.no_fail (end, ending, within, name, is)
        by (Info name) is never = never

-- a number that was read
pub number_read : (xs : List ℕ) (i : ℕ) → i < length xs → get_or xs i 0 ≡ get_or xs i (get_or xs i 0)
number_read xs i inside = sym (get_or_from_slice_get xs i (get_or xs i 0) (get_or xs i 0) (slice_get-get_or xs i 0 inside))

pub not_iff : (b : Bool) (P Q : Type 0) → IsTrue b ↔ P → ((P → ⊥) → Q) → (P → Q → ⊥) → IsTrue (not b) ↔ Q
not_iff true P Q iff from never = (λ e. cc, λ q. absurd (never (iff.0 refl) q))
not_iff false P Q iff from never = (λ e. from (λ p. let yes' = iff.1 p in cc), λ q. refl)

-- kept are just those that are open in the history
abbrev pub AreStillOpen : List Event → List ℕ → List ℕ → Type 0
AreStillOpen h old now = (at : ℕ) → Contains now at ↔ (Contains old at × IsOpenAt h at)

-- an open operation of the first events is one of them
pub open_inside : (h : List Event) (n at : ℕ) → IsOpenAt (take n h) at → (at < n) × (at < length h)
open_inside h n at is = let there = get_from_take n h at _ is.3.begins in (there.0, slice_get_within h at _ there.1)

-- one more of those that were open
module _ (h : List Event) (old now : List ℕ) (at : ℕ) (so_far : AreStillOpen h old now) where
  pub still_kept : IsOpenAt h at → AreStillOpen h (old ++ at ∷ []) (now ++ at ∷ [])
  still_kept yes' k = (
    λ there. elim (Contains-push_cases now at k there) [
      | inl earlier ↦ let both = (so_far k).0 earlier in (Contains-append_left old (at ∷ []) k both.0, both.1)
      | inr same ↦ (subst (Contains (old ++ at ∷ [])) same (Contains-push old at), subst (IsOpenAt h) same yes')
    ],
    λ both. elim (Contains-push_cases old at k both.0) [
      | inl earlier ↦ Contains-append_left now (at ∷ []) k ((so_far k).1 (earlier, both.1))
      | inr same ↦ subst (Contains (now ++ at ∷ [])) same (Contains-push now at)
    ],
  )

  pub still_dropped : (IsOpenAt h at → ⊥) → AreStillOpen h (old ++ at ∷ []) now
  still_dropped never k = (
    λ there. let both = (so_far k).0 there in (Contains-append_left old (at ∷ []) k both.0, both.1),
    λ both. elim (Contains-push_cases old at k both.0) [
      | inl earlier ↦ (so_far k).1 (earlier, both.1)
      | inr same ↦ absurd (never (subst (IsOpenAt h) (sym same) both.1))
    ],
  )

-- and the newest
module _ (h : List Event) (n : ℕ) (inside : n < length h) (old now : List ℕ) (opened : AreOpen (take n h) old) (still : AreStillOpen (take (n + 1) h) old now) where
  was_open : (at : ℕ) → (at ≡ n → ⊥) → IsOpenAt (take (n + 1) h) at → Contains old at
  was_open at other is = (opened at).1 (
    is.0,
    is.1,
    is.2,
    open_before (take n h) event.0 at is.0 is.1 is.2 (λ same. other (same ∙ length-take-le n h (omega arith)))
        (subst (λ g. IsOpen g at is.0 is.1 is.2) further is.3),
  )
    where
      event : (e : Event) × IsEvent h n e
      event = there_is h n inside

      further : take (n + 1) h ≡ take n h ++ event.0 ∷ []
      further = ap (λ k. take k h) (add-one n) ∙ one_further h n event.0 inside event.1

  pub open_newest : IsOpenAt (take (n + 1) h) n → AreOpen (take (n + 1) h) (now ++ n ∷ [])
  open_newest yes' at = (
    λ there. elim (Contains-push_cases now n at there) [
      | inl earlier ↦ ((still at).0 earlier).1
      | inr same ↦ subst (IsOpenAt (take (n + 1) h)) same yes'
    ],
    λ is. elim (cases_eq at n) [
      | inl same ↦ subst (Contains (now ++ n ∷ [])) (sym same) (Contains-push now n)
      | inr other ↦ Contains-append_left now (n ∷ []) at ((still at).1 (was_open at other is, is))
    ],
  )

  pub open_older : (IsOpenAt (take (n + 1) h) n → ⊥) → AreOpen (take (n + 1) h) now
  open_older never at = (
    λ there. ((still at).0 there).1,
    λ is. elim (cases_eq at n) [
      | inl same ↦ absurd (never (subst (IsOpenAt (take (n + 1) h)) same is))
      | inr other ↦ (still at).1 (was_open at other is, is)
    ],
  )

-- a turn of the loop over those that were open
module _ (h : List Event) (pending : List ℕ) (i : ℕ) (inside : i < length pending) (old now : List ℕ) (so_far : AreStillOpen h (take i pending) old) where
  pub turn_kept : now ≡ old ++ get_or pending i 0 ∷ [] → IsOpenAt h (get_or pending i 0) → AreStillOpen h (take (i + 1) pending) now
  turn_kept is yes' = subst (AreStillOpen h (take (i + 1) pending)) (sym is)
      (subst (λ l. AreStillOpen h l (old ++ get_or pending i 0 ∷ [])) (sym (take_more pending i (get_or pending i 0) inside (number_read pending i inside)))
      (still_kept h (take i pending) old (get_or pending i 0) so_far yes'))

  pub turn_dropped : now ≡ old → (IsOpenAt h (get_or pending i 0) → ⊥) → AreStillOpen h (take (i + 1) pending) now
  turn_dropped is never = subst (AreStillOpen h (take (i + 1) pending)) (sym is)
      (subst (λ l. AreStillOpen h l old) (sym (take_more pending i (get_or pending i 0) inside (number_read pending i inside)))
      (still_dropped h (take i pending) old (get_or pending i 0) so_far never))

-- nothing is open in the empty history
pub none_open : (pending : List ℕ) → pending ≡ [] → AreOpen [] pending
none_open pending empty at = (λ there. absurd (nothing_in at (subst (λ l. Contains l at) empty there)), λ is. absurd (let begins = is.3.begins in cc))

-- How many events are due to the engines that decide their objects, one object after the other.
use Rattle.std.proofs.Common.{◌≡◌, ◌≤◌, ◌+◌, ◌-◌, ℕ, List, length, slice_get, take, Some, inl, inr, ap, arith}
use Rattle.std.specs.List.{sum_by}
use Rattle.std.proofs.lemmas.Bool.{cases_lt}
use Rattle.lin_events.specs.declared.items.Item.{Item}
use Rattle.lin_events.specs.declared.events.Event.{Event}
use Rattle.lin_order.specs.Parts.{part}
use Rattle.lin_chain.specs.Work.{Mark}
use Rattle.lin_answers.specs.declared.answers.Scope.TheVariants.{Object, Whole}
use Rattle.lin_session.specs.Work.{due_in, keys_of}
use Rattle.lin_session.proofs.Listed.{IsOnce}
use Rattle.lin_session.proofs.Sums.{in_keys, sum_listed, sum_next}

abbrev pub due_at : List Event → (Item → Mark) → Item → ℕ
due_at h marks key = length (part key h) - (marks key).beside

-- the objects that are listed are no more than those of the whole
pub due_listed : (h : List Event) (marks : Item → Mark) (keys : List Item) → IsOnce keys → sum_by (due_at h marks) keys ≤ due_in h Whole marks
due_listed h marks keys once = sum_listed (due_at h marks) keys (keys_of h) once (λ i key at. elim (cases_lt 0 (length (part key h))) [
  | inl some ↦ inr (in_keys h key some)
  | inr none ↦ inl (omega (arith, none))
])

-- one more takes as many steps as are due to it
pub exact_next : (h : List Event) (old mid : Item → Mark) (keys : List Item) (i : ℕ) (key : Item) → slice_get keys i ≡ Some key → (before between after : ℕ) → mid key ≡ old key
    → between ≤ before + sum_by (due_at h old) (take i keys) → after ≤ between + due_in h (Object key) mid → after ≤ before + sum_by (due_at h old) (take (i + 1) keys)
exact_next h old mid keys i key at before between after same first second = omega (arith, first, second, ap (λ (m : Mark). length (part key h) - m.beside) same, sum_next (due_at h old) keys i key at)

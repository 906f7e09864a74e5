use Rattle.std.proofs.Common.{◌≤◌, ◌+◌, ◌<◌, ℕ, List, length, arith, sym, subst}
use Rattle.lin_events.specs.declared.events.Event.{Event}
use Rattle.lin_tables.specs.WindowOperations.{IsOfSort}
use Rattle.lin_tables.specs.declared.counts.Sort.{Sort}
use Rattle.lin_tables.specs.declared.counts.Sort.TheVariants.{Open, Crashed}
use Rattle.lin_tables.proofs.Passing.{CountBelow, count_at_end, count_here, count_same}
use Rattle.lin_tables.specs.lemmas.Standing.{crashed_within, invoked_within, open_invoked}
use Rattle.lin_tables.proofs.counts.count_of.Goals.{then-is_of_sort, else-is_of_sort}
use Rattle.lin_tables.proofs.counts.count_of.Goals as goal

sort_within : (h : List Event) (sort : Sort) (at : ℕ) → IsOfSort h sort at → at < length h
sort_within h Open at is = invoked_within h at (open_invoked h at is)
sort_within h Crashed at is = crashed_within h at is

pub loop-at-preserved : goal.loop-at-preserved
loop-at-preserved c =
    let Is = IsOfSort c.args.events.now c.args.sort in
    let at = c.loop-at.at in
    let below = c.loop-at.invariant.0 in
    elim c.if-is_of_sort.branch [
      | then-is_of_sort w ↦
          subst (λ k. (k ≤ at + 1) × CountBelow Is (at + 1) k) (sym w.count-is) (omega (arith, below), count_here Is at c.loop-at.count c.loop-at.invariant.1 (c.is_of_sort.ensures.0 w.if-is_of_sort.true))
      | else-is_of_sort w ↦
          subst (λ k. (k ≤ at + 1) × CountBelow Is (at + 1) k) (sym w.count-is)
          (omega (arith, below), count_same Is at c.loop-at.count c.loop-at.invariant.1 (λ is. let yes' = c.is_of_sort.ensures.1 is in let no' = w.if-is_of_sort.false in cc))
    ]

pub returns : goal.returns
returns c =
    let ended = c.loop-at-test.false in
    count_at_end (IsOfSort c.args.events.now c.args.sort) c.loop-at.at c.loop-at.count c.loop-at.invariant.1
    (λ at is. let within = sort_within c.args.events.now c.args.sort at is in omega (arith, ended, within))

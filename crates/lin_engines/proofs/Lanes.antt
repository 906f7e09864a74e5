-- Where an engine stands, and what a cut leaves of it.
use Rattle.std.proofs.Common.{◌≡◌, ◌≢◌, ◌≤◌, ◌<◌, ◌+◌, ◌*◌, ◌/◌, ◌∙◌, ◌⊎◌, inl, inr, ℕ, List, length, take, min, ap, sym, subst, arith, refl}
use Rattle.std.proofs.lemmas.Bool.{cases_lt}
use Rattle.std.proofs.lemmas.List.{length-take, length-take-le, take_all, take-take}
use Rattle.std.proofs.lemmas.List.Elements.{All-take}
use Rattle.lin_events.specs.declared.events.Event.{Event}
use Rattle.lin_objects.specs.declared.kinds.Kind.{Kind}
use Rattle.lin_objects.specs.Steps.{Step, start}
use Rattle.lin_order.specs.Configurations.{IsConfiguration, IsOver}
use Rattle.lin_order.specs.Linearizable.{IsDeadAt, IsLinearizableAs}
use Rattle.lin_engines.specs.Ends.{IsEndOf, IsOverAt}
use Rattle.lin_engines.specs.Engines.{IsFailing}
use Rattle.lin_engines.specs.Lanes.{IsStanding, IsStoppedAhead}
use Rattle.lin_engines.specs.declared.ends.End.TheVariants.{Alive, Dead as DeadAt, Over as OverAt}
use Rattle.lin_engines.specs.declared.says.Says.{Says}
use Rattle.lin_engines.specs.declared.says.Says.TheVariants.{On, Dead, Over, Gone}
use Rattle.lin_engines.specs.lemmas.Beginnings.{longer, take_alike}
use Rattle.lin_engines.proofs.Replaying.{pairs_take}

failing_alike : (kind : Kind) (h edited : List Event) (place at : ℕ) → at < place → take place h ≡ take place edited → IsFailing kind h at → IsFailing kind edited at
failing_alike kind h edited place at below same failing = λ lin. failing (subst (IsLinearizableAs kind) (sym (take_alike (at + 1) place h edited (omega arith) same)) lin)

over_alike : (kind : Kind) (budget : ℕ) (h edited : List Event) (place at : ℕ) → at < place → take place h ≡ take place edited → IsOverAt kind budget h at → IsOverAt kind budget edited at
over_alike kind budget h edited place at below same over = record {
  inside = let long = longer h edited place (at + 1) (omega arith) (omega (arith, over.inside)) same in omega arith;
  over = subst (λ l. IsOver (start kind) (Step kind) l budget) (take_alike (at + 1) place h edited (omega arith) same) over.over;
}

-- an engine that stopped ahead of the place still stands so, with its mark at most there
pub still_standing : (kind : Kind) (budget : ℕ) (h edited : List Event) (place reached mark lower : ℕ) (said : Says) → take place h ≡ take place edited → IsStoppedAhead said reached place → lower ≡ min mark place
    → IsStanding kind budget h reached mark said → IsStanding kind budget edited reached lower said
still_standing kind budget h edited place reached mark lower On same ahead least stands = absurd ahead
still_standing kind budget h edited place reached mark lower Dead same ahead least stands = (omega (arith, stands.0, ahead), failing_alike kind h edited place reached ahead same stands.1)
still_standing kind budget h edited place reached mark lower (Over at) same ahead least stands = (stands.0, stands.1, omega (arith, stands.2, ahead), over_alike kind budget h edited place at ahead same stands.3)
still_standing kind budget h edited place reached mark lower Gone same ahead least stands = omega (arith, stands, ahead)

-- an engine that stopped stopped ahead of whatever comes behind
pub standing_further : (kind : Kind) (budget : ℕ) (h : List Event) (reached mark more : ℕ) (said : Says) → (said ≡ On → ⊥) → mark ≤ more → IsStanding kind budget h reached mark said → IsStanding kind budget h reached more said
standing_further kind budget h reached mark more On stopped below stands = absurd (stopped refl)
standing_further kind budget h reached mark more Dead stopped below stands = (omega (arith, stands.0, below), stands.1)
standing_further kind budget h reached mark more (Over at) stopped below stands = (stands.0, stands.1, omega (arith, stands.2, below), stands.3)
standing_further kind budget h reached mark more Gone stopped below stands = omega (arith, stands, below)

-- one that stopped ahead of the place stands there or ahead of it or ahead of it
pub ahead_or_there : (kind : Kind) (budget : ℕ) (h : List Event) (place reached mark : ℕ) (said : Says) → IsStoppedAhead said reached place → IsStanding kind budget h reached mark said → reached ≤ place
ahead_or_there kind budget h place reached mark On ahead stands = absurd ahead
ahead_or_there kind budget h place reached mark Dead ahead stands = omega (arith, ahead)
ahead_or_there kind budget h place reached mark (Over at) ahead stands = omega (arith, ahead, stands.1)
ahead_or_there kind budget h place reached mark Gone ahead stands = omega (arith, ahead)

-- no engine that goes on or failed stands behind its mark, and one that is over by no more than an event
pub no_further : (kind : Kind) (budget : ℕ) (h : List Event) (place reached mark : ℕ) (said : Says) → (IsStoppedAhead said reached place → ⊥) → IsStanding kind budget h reached mark said → mark ≤ place → mark ≡ reached
no_further kind budget h place reached mark On ahead stands below = omega (arith, stands)
no_further kind budget h place reached mark Dead ahead stands below = absurd (ahead (omega (arith, stands.0, below)))
no_further kind budget h place reached mark (Over at) ahead stands below = absurd (ahead (omega (arith, stands.2, below)))
no_further kind budget h place reached mark Gone ahead stands below = by (cases_lt reached place)
  where
    by : (reached < place) ⊎ (place ≤ reached) → mark ≡ reached
    by (inl less) = absurd (ahead less)
    by (inr more) = omega (arith, stands, below, more)

-- what is over a budget is over any smaller one
over_smaller : (kind : Kind) (h : List Event) (budget smaller : ℕ) → smaller ≤ budget → IsOver (start kind) (Step kind) h budget → IsOver (start kind) (Step kind) h smaller
over_smaller kind h budget smaller below over = record {
  found = take (smaller + 1) over.found;
  many = length-take-le (smaller + 1) over.found (omega (arith, over.many));
  configurations = All-take (IsConfiguration (start kind) (Step kind) h) (smaller + 1) over.found over.configurations;
  distinct = pairs_take (λ c d. c ≢ d) (smaller + 1) over.found (omega (arith, over.many)) over.distinct;
}

-- what an engine tells of all events is true of them
pub alive_end : (kind : Kind) (budget : ℕ) (h : List Event) (reached mark count : ℕ) → count ≡ length h → mark ≡ count → reached ≡ mark → IsLinearizableAs kind (take reached h) → IsEndOf kind budget h Alive
alive_end kind budget h reached mark count all here at_mark lin = subst (IsLinearizableAs kind) (take_all reached h (omega (arith, all, here, at_mark))) lin

pub dead_end : (kind : Kind) (budget : ℕ) (h : List Event) (reached at : ℕ) → at ≡ reached → IsLinearizableAs kind (take reached h) → IsFailing kind h reached → IsEndOf kind budget h (DeadAt at)
dead_end kind budget h reached at here lin failing = subst (IsDeadAt kind h) (sym here) (record { before = lin; failing = failing })

pub over_end : (kind : Kind) (budget smaller : ℕ) (h : List Event) (at : ℕ) → smaller ≤ budget → IsOverAt kind budget h at → IsEndOf kind smaller h (OverAt at)
over_end kind budget smaller h at below over = record { inside = over.inside; over = over_smaller kind (take (at + 1) h) budget smaller below over.over }

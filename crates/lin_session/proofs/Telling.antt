-- What chains tell of how their events end, and who of their engines tells it.
use Rattle.std.proofs.Common.{◌≡◌, ◌≤◌, ◌⊎◌, ℕ, Bool, true, false, List, length, Option, None, Some, inl, inr, refl, sym, ap, subst, ◌∙◌, arith, nat_eq, nat_lt, if◌then◌else◌}
use Rattle.std.proofs.lemmas.Option.{none-some, same_Some}
use Rattle.std.proofs.lemmas.Bool.Decides.{Decides-eqb}
use Rattle.lin_events.specs.declared.events.Event.{Event}
use Rattle.lin_objects.specs.declared.kinds.Kind.{Kind}
use Rattle.lin_engines.specs.declared.ends.End.{End}
use Rattle.lin_engines.specs.declared.ends.End.TheVariants.{Alive, Dead, Over}
use Rattle.lin_engines.specs.declared.says.Says.{Says}
use Rattle.lin_engines.specs.declared.says.Says.TheVariants as says
use Rattle.lin_engines.specs.Ends.{IsEndOf}
use Rattle.lin_engines.specs.Lanes.{IsOfExact, IsOfFrontier, IsOfWitness, IsStanding, told_of}
use Rattle.lin_engines.specs.Exacts.{kind_of_exact, reach_of_exact}
use Rattle.lin_engines.specs.Replays.{kind_of_replay, reach_of_replay}
use Rattle.lin_engines.specs.Witnessing.{kind_of_witness, reach_of_witness}
use Rattle.lin_chain.specs.declared.beside.Beside.{Beside}
use Rattle.lin_chain.specs.declared.beside.Beside.TheVariants.{Nothing, Exact, Going}
use Rattle.lin_chain.specs.declared.found.Found.{Found}
use Rattle.lin_chain.specs.declared.found.Found.TheVariants as found
use Rattle.lin_chain.specs.declared.chain.Chain.{Chain}
use Rattle.lin_chain.specs.Chains.{IsBeside, IsDecided, IsFor, IsFound, IsRight, first_of, kind_in, mark_in, told_beside, told_by_found, told_in}
use Rattle.lin_session.specs.Leaving.{IsRaised}
use Rattle.lin_session.proofs.Overs.{IsEndOf-smaller}

-- the first of two that is there is one of them
first_cases : (a b : Option End) (end : End) → first_of a b ≡ Some end → (a ≡ Some end) ⊎ ((a ≡ None) × (b ≡ Some end))
first_cases None b end e = inr (refl, e)
first_cases (Some x) b end e = inl e

-- where a test gives an end
chosen : (b : Bool) (x end : End) → (if b then Some x else None) ≡ Some end → x ≡ end
chosen true x end e = same_Some x end e
chosen false x end e = absurd (none-some end e)

found_decided : (of : Found) (count : ℕ) (end : End) → told_by_found of count ≡ Some end → IsDecided end
found_decided found.Nothing count end e = absurd (none-some end e)
found_decided (found.Order order of) count end e = subst IsDecided (chosen (nat_eq of count) Alive end e) tt
found_decided (found.Failure at) count end e = subst IsDecided (chosen (nat_lt at count) (Dead at) end e) tt

-- an engine that isn't over tells whether there is a legal order
said_decided : (said : Says) (reached mark count : ℕ) (end : End) → ((at : ℕ) → said ≡ says.Over at → ⊥) → told_of said reached mark count ≡ Some end → IsDecided end
said_decided says.On reached mark count end other e = subst IsDecided (chosen (nat_eq mark count) Alive end e) tt
said_decided says.Dead reached mark count end other e = subst IsDecided (chosen (nat_lt reached count) (Dead reached) end e) tt
said_decided (says.Over at) reached mark count end other e = absurd (other at refl)
said_decided says.Gone reached mark count end other e = absurd (none-some end e)

-- and one that is tells nothing but where
said_over : (said : Says) (reached mark count at : ℕ) (end : End) → said ≡ says.Over at → told_of said reached mark count ≡ Some end → Over at ≡ end
said_over said reached mark count at end is e = chosen (nat_eq mark count) (Over at) end (ap (λ s. told_of s reached mark count) (sym is) ∙ e)

never_exact : (said : Says) → IsOfExact said → (at : ℕ) → said ≡ says.Over at → ⊥
never_exact said may at is = subst IsOfExact is may

never_witness : (said : Says) → IsOfWitness said → (at : ℕ) → said ≡ says.Over at → ⊥
never_witness said may at is = subst IsOfWitness is may

beside_decided : (kind : Kind) (h : List Event) (beside : Beside) (count : ℕ) (end : End) → IsBeside kind h beside → told_beside beside count ≡ Some end → IsDecided end
beside_decided kind h Nothing count end is e = absurd (none-some end e)
beside_decided kind h (Exact lane) count end is e = said_decided lane.said _ lane.mark count end (never_exact lane.said is.1.may) e
beside_decided kind h (Going lane) count end is e = said_decided lane.said _ lane.mark count end (never_witness lane.said is.1.may) e

-- who tells an end: a search, the engine beside the frontiers, or these
told_cases : (chain : Chain) (count : ℕ) (end : End) → told_in chain count ≡ Some end
    → (told_by_found chain.found count ≡ Some end) ⊎ ((told_by_found chain.found count ≡ None) × (told_beside chain.beside count ≡ Some end))
    ⊎ ((told_by_found chain.found count ≡ None) × (told_beside chain.beside count ≡ None) × (told_of chain.frontier.said (reach_of_replay chain.frontier.engine) chain.frontier.mark count ≡ Some end))
told_cases chain count end e = elim (first_cases _ _ end e) [
  | inl searched ↦ inl searched
  | inr (none, other) ↦ elim (first_cases _ _ end other) [ inl beside ↦ inr (inl (none, beside)) | inr (none_too, last) ↦ inr (inr (none, none_too, last)) ]
]

-- only frontiers are over
pub over_said : (chain : Chain) (h : List Event) (count at : ℕ) → IsRight chain h → told_in chain count ≡ Some (Over at) → chain.frontier.said ≡ says.Over at
over_said chain h count at is e = elim (told_cases chain count (Over at) e) [
  | inl searched ↦ absurd (found_decided chain.found count (Over at) searched)
  | inr (inl beside) ↦ absurd (beside_decided (kind_in chain) h chain.beside count (Over at) is.beside beside.1)
  | inr (inr last) ↦ by chain.frontier.said last.2
]
  where
    by : (said : Says) → told_of said (reach_of_replay chain.frontier.engine) chain.frontier.mark count ≡ Some (Over at) → said ≡ says.Over at
    by says.On told = absurd (cc (chosen (nat_eq chain.frontier.mark count) Alive (Over at) told))
    by says.Dead told = absurd (cc (chosen (nat_lt (reach_of_replay chain.frontier.engine) count) (Dead (reach_of_replay chain.frontier.engine)) (Over at) told))
    by (says.Over i) told = let same = chosen (nat_eq chain.frontier.mark count) (Over i) (Over at) told in cc
    by says.Gone told = absurd (none-some (Over at) told)

-- that its events have more configurations than the budget
pub over_right : (chain : Chain) (h : List Event) (budget count at : ℕ) → IsRight chain h → IsFor budget chain → told_in chain count ≡ Some (Over at) → IsEndOf (kind_in chain) budget h (Over at)
over_right chain h budget count at is retried e =
    let said = over_said chain h count at is e in
    let stands = subst (IsStanding (kind_in chain) chain.frontier.budget h (reach_of_replay chain.frontier.engine) chain.frontier.mark) said is.frontier.standing in
    IsEndOf-smaller (kind_in chain) chain.frontier.budget budget h at (retried at said) stands.3

-- of no events it is told that they have a legal order
module _ (h : List Event) (none : length h ≡ 0) where
  lane_none : (kind : Kind) (budget reached mark : ℕ) (said : Says) → mark ≤ length h → IsStanding kind budget h reached mark said → (told_of said reached mark 0 ≡ Some Alive) ⊎ (said ≡ says.Gone)
  lane_none kind budget reached mark says.On within stands = inl (ap (λ b. if b then Some Alive else None) ((Decides-eqb mark 0).1 (omega (arith, within, none))))
  lane_none kind budget reached mark says.Dead within stands = absurd (omega (arith, within, none, stands.0))
  lane_none kind budget reached mark (says.Over at) within stands = absurd (omega (arith, within, none, stands.2))
  lane_none kind budget reached mark says.Gone within stands = inr refl

  first_alive : (a b : Option End) → (a ≡ Some Alive) ⊎ (a ≡ None) → b ≡ Some Alive → first_of a b ≡ Some Alive
  first_alive a b (inl is) rest = ap (λ o. first_of o b) is
  first_alive a b (inr is) rest = ap (λ o. first_of o b) is ∙ rest

  found_none : (kind : Kind) (of : Found) → IsFound kind h of → (told_by_found of 0 ≡ Some Alive) ⊎ (told_by_found of 0 ≡ None)
  found_none kind found.Nothing is = inr refl
  found_none kind (found.Order order of) is = inl (ap (λ b. if b then Some Alive else None) ((Decides-eqb of 0).1 (omega (arith, is.0, none))))
  found_none kind (found.Failure at) is = absurd (omega (arith, is.0, none))

  beside_none : (kind : Kind) (beside : Beside) → IsBeside kind h beside → (told_beside beside 0 ≡ Some Alive) ⊎ (told_beside beside 0 ≡ None)
  beside_none kind Nothing is = inr refl
  beside_none kind (Exact lane) is = elim (lane_none (kind_of_exact lane.engine) lane.budget (reach_of_exact lane.engine) lane.mark lane.said is.1.within is.1.standing) [
    | inl alive ↦ inl alive
    | inr gone ↦ inr (ap (λ s. told_of s (reach_of_exact lane.engine) lane.mark 0) gone)
  ]
  beside_none kind (Going lane) is = elim (lane_none (kind_of_witness lane.engine) lane.budget (reach_of_witness lane.engine) lane.mark lane.said is.1.within is.1.standing) [
    | inl alive ↦ inl alive
    | inr gone ↦ inr (ap (λ s. told_of s (reach_of_witness lane.engine) lane.mark 0) gone)
  ]

  pub told_none : (chain : Chain) → IsRight chain h → told_in chain 0 ≡ Some Alive
  told_none chain is =
      let lane = chain.frontier in
      let last : told_of lane.said (reach_of_replay lane.engine) lane.mark 0 ≡ Some Alive = elim (lane_none (kind_of_replay lane.engine) lane.budget (reach_of_replay lane.engine) lane.mark lane.said is.frontier.within is.frontier.standing) [
        | inl alive ↦ alive
        | inr gone ↦ absurd (subst IsOfFrontier gone is.frontier.may)
      ] in
      first_alive _ _ (found_none (kind_in chain) chain.found is.found) (first_alive _ _ (beside_none (kind_in chain) chain.beside is.beside) last)

-- what is told if no search tells, or nor the engine beside the frontiers
abbrev last : Chain → ℕ → Option End
last chain count = told_of chain.frontier.said (reach_of_replay chain.frontier.engine) chain.frontier.mark count

abbrev rest : Chain → ℕ → Option End
rest chain count = first_of (told_beside chain.beside count) (last chain count)

-- a larger budget
pub IsRaised-chain : (old new : Chain) (h : List Event) → IsRight old h → new ≡ record old { frontier = new.frontier } → (mark_in new).frontier ≤ (mark_in old).frontier
    → ((at : ℕ) → old.frontier.said ≡ says.Over at → at ≤ (mark_in new).frontier) → (((at : ℕ) → old.frontier.said ≡ says.Over at → ⊥) → new ≡ old) → IsRaised (mark_in old) (mark_in new)
IsRaised-chain old new h is others less back kept = record {
  told = λ count end told decided. elim (told_cases old count end told) [
    | inl searched ↦ ap (λ o. first_of o (rest new count)) (ap (λ (k : Chain). told_by_found k.found count) others ∙ searched)
    | inr (inl beside) ↦ ap (λ o. first_of o (rest new count)) (ap (λ (k : Chain). told_by_found k.found count) others ∙ beside.0) ∙ ap (λ o. first_of o (last new count)) (ap (λ (k : Chain). told_beside k.beside count) others ∙ beside.1)
    | inr (inr by_frontier) ↦ ap (λ k. told_in k count) (kept (λ at over. subst IsDecided (sym (said_over old.frontier.said _ old.frontier.mark count at end over by_frontier.2)) decided)) ∙ told
  ];
  over = λ count at told. back at (over_said old h count at is told);
  no_more = less;
  beside = ap (λ (k : Chain). (mark_in k).beside) others;
  searched = ap (λ (k : Chain). k.searched) others;
  stopped = ap (λ (k : Chain). k.stopped) others;
}

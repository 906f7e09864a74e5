-- A member that dominates a point of a way follows the rest of the way, also in another history.
use Rattle.std.proofs.Common.{◌≡◌, ℕ, Bool, false, List, Contains, ◌⊎◌, inl, inr, sym, subst}
use Rattle.lin_events.specs.declared.items.Item.{Item}
use Rattle.lin_events.specs.declared.calls.Call.{Call}
use Rattle.lin_events.specs.declared.calls.Reply.{Reply}
use Rattle.lin_events.specs.declared.events.Event.{Event}
use Rattle.lin_events.specs.Operations.{IsOpen}
use Rattle.lin_order.specs.Configurations.{IsRising}
use Rattle.lin_members.specs.Covers.{HasCrashed}
use Rattle.lin_members.specs.Members.{Meets, Member, IsWatching, Way, here, more, IsOffered, IsOnOffer, DominatesAt}
use Rattle.lin_members.specs.lemmas.Choosing.{can_add, stands}
use Rattle.lin_frontier.specs.lemmas.Inserting.{rising_once}
use Rattle.lin_members.specs.lemmas.Ways.{way_kept, way_was}

-- what the one history keeps of the other, but for some processes whose operations ended
pub record Passes (observes : Call → Bool) (h g : List Event) (ended : ℕ → Type 0) : Type 0 where
  pub crashes : (q : ℕ) → HasCrashed h q → HasCrashed g q
  pub opens : (at q : ℕ) (key : Item) (call : Call) → (ended q → ⊥) → IsOpen h at q key call → IsOpen g at q key call
  pub watches : (q : ℕ) → (ended q → ⊥) → IsWatching observes h q → IsWatching observes g q ⊎ HasCrashed g q
  pub shut : (at q : ℕ) (key : Item) (call : Call) → ended q → IsOpen g at q key call → ⊥

-- a way in the other history, beside a way in the one
pub record Follows {S : Type 0} (step : S → Call → S → Reply → Type 0) (observes : Call → Bool) (h g : List Event) (b b' : S × List (ℕ × Reply)) (offers offers' : ℕ × Reply → Type 0)
    (gone keeps : ℕ × Reply → Type 0) (c : S × List (ℕ × Reply)) (way : Way step observes h b c) : Type 0 where
  pub placed : List (ℕ × Reply)
  pub way' : Way step observes g b' (c.0, placed)
  pub sorted : IsRising placed
  pub part : (x : ℕ × Reply) → Contains placed x → Contains c.1 x
  pub rest : (x : ℕ × Reply) → Contains c.1 x → Contains placed x ⊎ gone x
  pub offered : (x : ℕ × Reply) → keeps x → IsOffered step observes h offers b c way x → IsOffered step observes g offers' b' (c.0, placed) way' x

module _ {S : Type 0} (step : S → Call → S → Reply → Type 0) (observes : Call → Bool) (h g : List Event) (s : S) (old new : List (ℕ × Reply)) (offers offers' : ℕ × Reply → Type 0)
    (gone keeps : ℕ × Reply → Type 0) (sorted : IsRising new) (part : (x : ℕ × Reply) → Contains new x → Contains old x) (rest : (x : ℕ × Reply) → Contains old x → Contains new x ⊎ gone x)
    (offered : (x : ℕ × Reply) → keeps x → offers x → offers' x) (given : (x : ℕ × Reply) → keeps x → (at : ℕ) (key : Item) (call : Call) → IsOpen h at x.0 key call → IsOpen g at x.0 key call) where
  pub follow : (c : S × List (ℕ × Reply)) (way : Way step observes h (s, old) c)
      → ((at q : ℕ) (key : Item) (call : Call) (reply : Reply) → IsOpen h at q key call → observes call ≡ false → ((other : Reply) → Contains old (q, other) → ⊥) → Contains c.1 (q, reply) → IsOpen g at q key call)
      → Follows step observes h g (s, old) (s, new) offers offers' gone keeps c way
  follow c here opens = record { placed = new; way' = here; sorted = sorted; part = part; rest = rest; offered = offered }
  follow c (more {c = d} way u) opens =
      let f = follow d way (λ at q key call reply is no' absent there. opens at q key call reply is no' absent (u.1.added.kept (q, reply) there)) in
      let more_of = can_add u.1.process u.0.reply f.placed f.sorted (λ other there. u.1.added.absent other (f.part (u.1.process, other) there)) in
      record {
        placed = more_of.0;
        way' = more f.way' (
          u.0,
          record {
            process = u.1.process;
            key = u.1.key;
            call = u.1.call;
            is_open = opens u.0.at u.1.process u.1.key u.1.call u.0.reply u.1.is_open u.2
                (λ other there. u.1.added.absent other (way_kept step observes h (s, old) d way (u.1.process, other) there)) u.1.added.has;
            steps = u.1.steps;
            added = more_of.1;
          },
          u.2,
        );
        sorted = more_of.1.rising;
        part = λ x there. elim (more_of.1.was x there) [
          | inl before ↦ u.1.added.kept x (f.part x before)
          | inr now ↦ subst (Contains c.1) now u.1.added.has
        ];
        rest = λ x there. elim (u.1.added.was x there) [
          | inl before ↦ elim (f.rest x before) [
            | inl kept ↦ inl (more_of.1.kept x kept)
            | inr out ↦ inr out
          ]
          | inr now ↦ inl (subst (Contains more_of.0) now more_of.1.has)
        ];
        offered = λ x keep is. elim is [
          | inl earlier ↦ inl (f.offered x keep earlier)
          | inr now ↦ inr (record { at = now.at; key = now.key; call = now.call; next = now.next; is_open = given x keep now.at now.key now.call now.is_open; steps = now.steps })
        ];
      }

-- these placed operations, with these offers, do for those: no more are placed but what crashed is left out, and all that matters is on offer
pub record DoesFor (observes : Call → Bool) (g : List Event) (new : List (ℕ × Reply)) (offers' : ℕ × Reply → Type 0) (kept : List (ℕ × Reply)) (offers : ℕ × Reply → Type 0) : Type 0 where
  pub sorted : IsRising new
  pub part : (x : ℕ × Reply) → Contains new x → Contains kept x
  pub rest : (x : ℕ × Reply) → Contains kept x → Contains new x ⊎ HasCrashed g x.0
  pub offered : (x : ℕ × Reply) → IsWatching observes g x.0 → ((other : Reply) → Contains new (x.0, other) → ⊥) → offers x → offers' x

module _ {S : Type 0} (step : S → Call → S → Reply → Type 0) (observes : Call → Bool) (h g : List Event) (ended : ℕ → Type 0) (passes : Passes observes h g ended)
    (s : S) (old kept new : List (ℕ × Reply)) (offers offers' : ℕ × Reply → Type 0)
    (within : (x : ℕ × Reply) → Contains kept x → Contains old x) (stays : (x : ℕ × Reply) → Contains kept x → ended x.0 → ⊥)
    (leaves : (x : ℕ × Reply) → Contains old x → Contains kept x ⊎ ended x.0)
    (does : DoesFor observes g new offers' kept offers) where
  -- what meets a configuration of the one history, meets in the other history what the configuration is without the ended operations
  pub meets_by : (t : S) (q r : List (ℕ × Reply)) → IsRising r → ((x : ℕ × Reply) → Contains r x → Contains q x) → ((x : ℕ × Reply) → Contains r x → ended x.0 → ⊥)
      → ((x : ℕ × Reply) → Contains q x → Contains r x ⊎ ended x.0) → (is : Meets step observes h (s, old) offers t q)
      → ((at p : ℕ) (key : Item) (call : Call) (reply : Reply) → IsOpen h at p key call → observes call ≡ false → ((other : Reply) → Contains old (p, other) → ⊥) → Contains is.placed (p, reply) → ended p → ⊥)
      → Meets step observes g (s, new) offers' t r
  meets_by t q r rising smaller none splits is never =
      record {
        placed = f.placed;
        way = f.way';
        before = f.sorted;
        rising = rising;
        part = inside;
        each = λ x there. elim (is.each x (smaller x there)) [
          | inl placed ↦ elim (f.rest x placed) [
            | inl yes' ↦ inl yes'
            | inr out ↦ elim out [
              | inl crashed ↦ inr (inr crashed)
              | inr over ↦ absurd (none x there over)
            ]
          ]
          | inr other ↦ elim other [
            | inl ready ↦ elim (passes.watches x.0 (none x there) ready.0) [
              | inl watching ↦ elim (stands x.0 new) [
                | inl some ↦ inl (way_kept step observes g (s, new) (t, f.placed) f.way' x
                    (subst (λ a. Contains new (x.0, a)) (rising_once r x.0 some.0 x.1 rising (inside (x.0, some.0) (way_kept step observes g (s, new) (t, f.placed) f.way' (x.0, some.0) some.1)) there) some.1))
                | inr absent ↦ inr (inl (
                  watching,
                  elim ready.1 [
                    | inl offered ↦ inl (f.offered x (watching, absent, none x there) offered)
                    | inr now ↦ inr (record { at = now.at; key = now.key; call = now.call; next = now.next; is_open = passes.opens now.at x.0 now.key now.call (none x there) now.is_open; steps = now.steps })
                  ],
                ))
              ]
              | inr crashed ↦ inr (inr crashed)
            ]
            | inr crashed ↦ inr (inr (passes.crashes x.0 crashed))
          ]
        ];
      }
    where
      f : Follows step observes h g (s, old) (s, new) offers offers' (λ x. HasCrashed g x.0 ⊎ ended x.0)
          (λ x. IsWatching observes g x.0 × ((other : Reply) → Contains new (x.0, other) → ⊥) × (ended x.0 → ⊥)) (t, is.placed) is.way
      f = follow step observes h g s old new offers offers' _ _ does.sorted
          (λ x there. within x (does.part x there))
          (λ x there. elim (leaves x there) [
            | inl stay ↦ elim (does.rest x stay) [
              | inl yes' ↦ inl yes'
              | inr crashed ↦ inr (inl crashed)
            ]
            | inr over ↦ inr (inr over)
          ])
          (λ x keep is_offered. does.offered x keep.0 keep.1 is_offered)
          (λ x keep at key call is_open. passes.opens at x.0 key call keep.2 is_open)
          (t, is.placed) is.way
          (λ at p key call reply is_open no' absent there. passes.opens at p key call (never at p key call reply is_open no' absent there) is_open)

      inside : (x : ℕ × Reply) → Contains f.placed x → Contains r x
      inside x there = elim (splits x (is.part x (f.part x there))) [
        | inl yes' ↦ yes'
        | inr over ↦ elim (way_was step observes g (s, new) (t, f.placed) f.way' x there) [
          | inl begins ↦ absurd (stays x (does.part x begins) over)
          | inr open' ↦ absurd (passes.shut open'.0 x.0 open'.1 open'.2 over open'.3)
        ]
      ]

module _ {S : Type 0} (step : S → Call → S → Reply → Type 0) (observes : Call → Bool) (h g : List Event) (ended : ℕ → Type 0) (passes : Passes observes h g ended)
    (s : S) (old kept : List (ℕ × Reply)) (offers : ℕ × Reply → Type 0) (m : Member S)
    (within : (x : ℕ × Reply) → Contains kept x → Contains old x) (stays : (x : ℕ × Reply) → Contains kept x → ended x.0 → ⊥)
    (leaves : (x : ℕ × Reply) → Contains old x → Contains kept x ⊎ ended x.0)
    (dominates : DominatesAt observes g m s kept offers) where
  -- the same of a member that dominates
  pub meets_over : (t : S) (q r : List (ℕ × Reply)) → IsRising r → ((x : ℕ × Reply) → Contains r x → Contains q x) → ((x : ℕ × Reply) → Contains r x → ended x.0 → ⊥)
      → ((x : ℕ × Reply) → Contains q x → Contains r x ⊎ ended x.0) → (is : Meets step observes h (s, old) offers t q)
      → ((at p : ℕ) (key : Item) (call : Call) (reply : Reply) → IsOpen h at p key call → observes call ≡ false → ((other : Reply) → Contains old (p, other) → ⊥) → Contains is.placed (p, reply) → ended p → ⊥)
      → Meets step observes g (m.state, m.placed) (IsOnOffer m) t r
  meets_over t q r rising smaller none splits is never =
      subst (λ b. Meets step observes g (b, m.placed) (IsOnOffer m) t r) (sym dominates.same)
      (meets_by step observes h g ended passes s old kept m.placed offers (IsOnOffer m) within stays leaves
      (record { sorted = dominates.sorted; part = dominates.part; rest = dominates.rest; offered = dominates.offered }) t q r rising smaller none splits is never)

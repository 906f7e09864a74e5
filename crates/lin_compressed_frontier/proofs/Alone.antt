-- Members that no update is early enough to be ahead of: with overwritten updates they lead to what they lead to alone.
use Rattle.std.proofs.Common.{◌≡◌, ℕ, Bool, true, false, List, Contains, map, refl, sym, subst, arith, Option, true≢false}
use Rattle.lin_events.specs.declared.calls.Call.{Call}
use Rattle.lin_events.specs.declared.calls.Reply.{Reply}
use Rattle.lin_events.specs.declared.events.Event.{Event}
use Rattle.lin_order.specs.declared.placed.Placed.{Placed}
use Rattle.lin_members.specs.declared.members.Path.{Path}
use Rattle.lin_members.specs.Asking.{alone_of, AreAlone}
use Rattle.lin_members.specs.Compressed.{IsCompressed, IsCovering, IsSpelled}
use Rattle.lin_members.specs.Members.{Member}
use Rattle.lin_members.specs.Overwritten.{AllowsOverwritten}
use Rattle.lin_members.specs.OverwrittenLaws.{CompleteAloneLaw, NoneOverwrittenLaw}
use Rattle.lin_members.specs.Searching.{IsMade}
use Rattle.lin_members.specs.lemmas.Dominating.{complete_within}
use Rattle.lin_lists.specs.lemmas.Filters.{from_map, in_map}

-- rounds lead to each of the members
abbrev pub AreSpelled : {S : Type 0} → S → (S → Call → S → Reply → Type 0) → (Call → Bool) → List Event → List (ℕ × (Placed × Option ℕ)) → List (Member S × Path) → Type 0
AreSpelled {S} start step observes h nodes members = (m : Member S × Path) → Contains members m → IsSpelled start step observes h nodes m

-- no update can be ahead of the last one of the members
abbrev pub HaveNoneEarly : {S : Type 0} → List (Member S × Path) → Type 0
HaveNoneEarly {S} members = (m : Member S × Path) → Contains members m → m.1.until ≡ 0

-- any rounds allow none
pub allows_none : {S : Type 0} (observes : Call → Bool) (h : List Event) (m : Member S × Path) (rounds : List (List Placed)) → m.1.until ≡ 0 → AllowsOverwritten observes h m rounds
allows_none observes h m rounds none = record { within = omega arith; by = λ some. absurd (omega arith); earlier = λ some. absurd (omega arith) }

module _ {S : Type 0} (start : S) (step : S → Call → S → Reply → Type 0) (observes : Call → Bool) (h : List Event) (members : List (Member S × Path)) (nodes : List (ℕ × (Placed × Option ℕ))) where
  pub covering_alone : CompleteAloneLaw start step → HaveNoneEarly members → IsCovering start step observes false h members nodes → IsCovering start step observes true h members nodes
  covering_alone alone none c = record {
    complete = alone observes h members c.complete;
    spelled = c.spelled;
    overwritten = λ is m there rounds spelled. allows_none observes h m rounds (none m there);
  }

  pub alone_covering : NoneOverwrittenLaw start step → HaveNoneEarly members → IsCovering start step observes true h members nodes → IsCovering start step observes false h members nodes
  alone_covering law none c = record {
    complete = law observes h members none c.complete;
    spelled = c.spelled;
    overwritten = λ is. absurd (true≢false (sym is));
  }

  pub compressed_alone : CompleteAloneLaw start step → HaveNoneEarly members → IsCompressed start step observes false h members nodes → IsCompressed start step observes true h members nodes
  compressed_alone alone none c = record { covering = covering_alone alone none c.covering; apart = c.apart }

  pub alone_compressed : NoneOverwrittenLaw start step → HaveNoneEarly members → IsCompressed start step observes true h members nodes → IsCompressed start step observes false h members nodes
  alone_compressed law none c = record { covering = alone_covering law none c.covering; apart = c.apart }

  -- where overwritten updates are left out, paths need not allow them
  pub reset : (out : List (Member S × Path)) → IsMade (λ m. Unit {0}) alone_of members out → IsCovering start step observes false h members nodes → IsCovering start step observes false h out nodes
  reset out made c = record {
    complete = complete_within start step observes h (map (λ m. m.0) members) (map (λ m. m.0) out) (λ n there.
        let m = from_map (λ (x : Member S × Path). x.0) members n there in
        subst (Contains (map (λ m. m.0) out)) m.2 (in_map (λ (x : Member S × Path). x.0) out (alone_of m.0) (made.complete m.0 m.1 tt))) c.complete;
    spelled = λ n there.
        let s = made.sound n there in
        let k = c.spelled s.0 s.1 in
        subst (IsSpelled start step observes h nodes) (sym s.3) (record { states = k.states; rounds = k.rounds; spelled = k.spelled; last = k.last; trail = k.trail });
    overwritten = λ is. absurd (true≢false (sym is));
  }

-- whether the object is overwritten or not, where no update can be ahead of the last one
pub without_overwritten : {S : Type 0} (start : S) (step : S → Call → S → Reply → Type 0) (observes : Call → Bool) (overwriting : Bool) (h : List Event) (members : List (Member S × Path)) (nodes : List (ℕ × (Placed × Option ℕ)))
    → NoneOverwrittenLaw start step → AreAlone overwriting members → IsCovering start step observes overwriting h members nodes → IsCovering start step observes false h members nodes
without_overwritten start step observes false h members nodes law alone c = c
without_overwritten start step observes true h members nodes law alone c = alone_covering start step observes h members nodes law (alone refl) c

pub with_overwritten : {S : Type 0} (start : S) (step : S → Call → S → Reply → Type 0) (observes : Call → Bool) (overwriting : Bool) (h : List Event) (members : List (Member S × Path)) (nodes : List (ℕ × (Placed × Option ℕ)))
    → CompleteAloneLaw start step → HaveNoneEarly members → IsCompressed start step observes false h members nodes → IsCompressed start step observes overwriting h members nodes
with_overwritten start step observes false h members nodes law none c = c
with_overwritten start step observes true h members nodes law none c = compressed_alone start step observes h members nodes law none c

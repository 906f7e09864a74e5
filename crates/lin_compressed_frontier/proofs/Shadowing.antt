-- Members that stand for others, which their nodes name.
use Rattle.std.proofs.Common.{◌≡◌, ℕ, ◌+◌, ◌<◌, ◌≤◌, Bool, List, [], ◌∷◌, ◌++◌, length, take, get_or, Contains, inl, inr, sym, ap, subst, ◌∙◌, arith, Some, slice_get}
use Rattle.std.proofs.lemmas.Bool.{cases_lt}
use Rattle.std.proofs.lemmas.List.Elements.{Contains-append_left, Contains-push, Contains-push_cases}
use Rattle.std.proofs.lemmas.Option.{slice_get-get_or, slice_get_within}
use Rattle.lin_events.specs.declared.calls.Call.{Call}
use Rattle.lin_members.specs.declared.members.Path.{Path}
use Rattle.lin_frontier.specs.declared.pending.Open.{Open}
use Rattle.lin_members.specs.Members.{Member}
use Rattle.lin_members.specs.Searching.{IsPruned}
use Rattle.lin_members.specs.Settling.{AreFewer, IsSettled, IsShadow}
use Rattle.lin_frontier.specs.lemmas.Trying.{take_all, take_next}

some_same : {A : Type 0} {x y : A} → Some x ≡ Some y → x ≡ y
some_same e = cc

module _ {S : Type 0} (pending : List Open) (members : List (Member S × Path)) where
  -- those below `at` have one that stands for them
  pub record AreShadows (at : ℕ) (out : List (Member S × Path)) : Type 0 where
    pub sound : (x : Member S × Path) → Contains out x → IsShadow pending members x
    pub complete : (k : ℕ) → k < at → (x : Member S × Path) × Contains out x × (x.1.node ≡ k)

  pub shadows_start : (out : List (Member S × Path)) → out ≡ [] → AreShadows 0 out
  shadows_start out none = record {
    sound = λ x there. absurd (let short = ap length none in let inside = there.1 in omega arith);
    complete = λ k below. absurd (omega arith);
  }

  pub shadows_next : (at : ℕ) (out now : List (Member S × Path)) (m x : Member S × Path) → slice_get members at ≡ Some m → x.1.node ≡ at → IsSettled pending m.0 x.0 → now ≡ out ++ x ∷ []
      → AreShadows at out → AreShadows (at + 1) now
  shadows_next at out now m x stands node settled pushed h = record {
    sound = λ y there. elim (Contains-push_cases out x y (subst (λ l. Contains l y) pushed there)) [
      | inl before ↦ h.sound y before
      | inr is ↦ subst (IsShadow pending members) is (record { member = m; stands = ap (λ k. slice_get members k) node ∙ stands; settled = settled })
    ];
    complete = λ k below. elim (cases_lt k at) [
      | inl earlier ↦ let y = h.complete k earlier in (y.0, subst (λ l. Contains l y.0) (sym pushed) (Contains-append_left out (x ∷ []) y.0 y.1), y.2)
      | inr past ↦ (x, subst (λ l. Contains l x) (sym pushed) (Contains-push out x), node ∙ omega arith)
    ];
  }

  pub shadows_end : (at : ℕ) (out : List (Member S × Path)) → length members ≤ at → AreShadows at out → (m : Member S × Path) → Contains members m
      → (x : Member S × Path) × Contains out x × (slice_get members x.1.node ≡ Some m)
  shadows_end at out past h m there =
      let x = h.complete there.0 (let inside = there.1 in omega arith) in
      (x.0, x.1, ap (λ k. slice_get members k) x.2 ∙ slice_get-get_or members there.0 m there.1 ∙ ap Some there.2)

  -- of these some are kept, and the members that they stand for are enough
  pub fewer_from : (observes : Call → Bool) (others kept fewer : List (Member S × Path)) → ((x : Member S × Path) → Contains others x → IsShadow pending members x)
      → ((m : Member S × Path) → Contains members m → (x : Member S × Path) × Contains others x × (slice_get members x.1.node ≡ Some m)) → IsPruned observes pending others kept
      → ((m : Member S × Path) → Contains fewer m → Contains members m) → ((x m : Member S × Path) → Contains kept x → slice_get members x.1.node ≡ Some m → Contains fewer m)
      → AreFewer observes pending members fewer
  fewer_from observes others kept fewer sound complete pruned from picks = record {
    from = from;
    covered = λ m there.
        let x = complete m there in
        let y = pruned.covered x.0 x.1 in
        let own = sound y.0 (pruned.from y.0 y.1) in
        let other = sound x.0 x.1 in (
          own.member,
          picks y.0 own.member y.1 own.stands,
          record {
            own = y.0.0;
            other = x.0.0;
            own_settled = own.settled;
            other_settled = subst (λ (k : Member S × Path). IsSettled pending k.0 x.0.0) (some_same (sym other.stands ∙ x.2)) other.settled;
            dominates = y.2.0;
          },
        );
  }

-- the members that the nodes of the others name
pub record ArePicked {S : Type 0} (members others out : List (Member S × Path)) : Type 0 where
  pub sound : (m : Member S × Path) → Contains out m → Contains members m
  pub complete : (x m : Member S × Path) → Contains others x → slice_get members x.1.node ≡ Some m → Contains out m

module _ {S : Type 0} (members : List (Member S × Path)) where
  pub picked_none : (others out : List (Member S × Path)) → others ≡ [] → out ≡ [] → ArePicked members others out
  picked_none others out none empty = record {
    sound = λ m there. absurd (let short = ap length empty in let inside = there.1 in omega arith);
    complete = λ x m there. absurd (let short = ap length none in let inside = there.1 in omega arith);
  }

  picked_one : (others out now : List (Member S × Path)) (o : Member S × Path) → ((m : Member S × Path) → Contains out m → Contains now m) → ((m : Member S × Path) → Contains now m → Contains members m)
      → ((m : Member S × Path) → slice_get members o.1.node ≡ Some m → Contains now m) → ArePicked members others out → ArePicked members (others ++ o ∷ []) now
  picked_one others out now o kept sound named h = record {
    sound = sound;
    complete = λ x m there stands. elim (Contains-push_cases others o x there) [
      | inl before ↦ kept m (h.complete x m before stands)
      | inr is ↦ named m (subst (λ (y : Member S × Path). slice_get members y.1.node ≡ Some m) (sym is) stands)
    ];
  }

  module _ (xs : List (Member S × Path)) (i : ℕ) (o : Member S × Path) (inside : i < length xs) (is : o ≡ get_or xs i o) where
    -- where the node names a member
    pub picked_next : (out now : List (Member S × Path)) (m : Member S × Path) → slice_get members o.1.node ≡ Some m → Contains members m → now ≡ out ++ m ∷ [] → ArePicked members (take i xs) out
        → ArePicked members (take (i + 1) xs) now
    picked_next out now m stands there pushed h = subst (λ l. ArePicked members l now) (sym (take_next xs i o inside is)) (picked_one (take i xs) out now o
        (λ k has. subst (λ l. Contains l k) (sym pushed) (Contains-append_left out (m ∷ []) k has))
        (λ k has. elim (Contains-push_cases out m k (subst (λ l. Contains l k) pushed has)) [
          | inl before ↦ h.sound k before
          | inr same ↦ subst (Contains members) same there
        ])
        (λ k named. subst (λ l. Contains l k) (sym pushed) (subst (Contains (out ++ m ∷ [])) (some_same (sym stands ∙ named)) (Contains-push out m))) h)

    -- where it names none
    pub picked_pass : (out : List (Member S × Path)) → length members ≤ o.1.node → ArePicked members (take i xs) out → ArePicked members (take (i + 1) xs) out
    picked_pass out past h = subst (λ l. ArePicked members l out) (sym (take_next xs i o inside is)) (picked_one (take i xs) out out o (λ k has. has) h.sound
        (λ k named. absurd (let within = slice_get_within members o.1.node k named in omega arith)) h)

  pub picked_all : (xs : List (Member S × Path)) (i : ℕ) (out : List (Member S × Path)) → length xs ≤ i → ArePicked members (take i xs) out → ArePicked members xs out
  picked_all xs i out past h = subst (λ l. ArePicked members l out) (take_all i xs past) h

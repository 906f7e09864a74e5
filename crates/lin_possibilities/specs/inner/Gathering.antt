-- What members show, while it is gathered: cited by the contracts of private functions alone.
use Rattle.std.specs.Prelude.{◌≡◌, ◌≢◌, ◌⊎◌, ◌∷◌, ◌++◌, [], ℕ, List, AllPairs, Contains}
use Rattle.std.specs.Map.{keys_of}
use Rattle.lin_objects.specs.declared.states.State.{State}
use Rattle.lin_members.specs.declared.members.Path.{Path}
use Rattle.lin_members.specs.Members.{Member}

-- the key was there, or stands last now
abbrev pub IsPut : {K : Type 0} → K → ℕ → List (K × ℕ) → List (K × ℕ) → Type 0
IsPut {K} key way old now = (Contains (keys_of old) key × (now ≡ old)) ⊎ ((Contains (keys_of old) key → ⊥) × (now ≡ old ++ (key, way) ∷ []))

-- of each member all that it shows is there, each once, with the way of a member that shows it
pub record IsGathered {T : Type 0} (shows : Member State × Path → T → Type 0) (members : List (Member State × Path)) (found : List (T × ℕ)) : Type 0 where
  pub sound : (e : T × ℕ) → Contains found e → (m : Member State × Path) × Contains members m × (m.1.node ≡ e.1) × shows m e.0
  pub complete : (m : Member State × Path) (what : T) → Contains members m → shows m what → Contains (keys_of found) what
  pub once : AllPairs (λ d e. d.0 ≢ e.0) found

-- what one of them shows was put behind what was found
pub record IsTakenFrom {C T : Type 0} (shows : C → T → Type 0) (c : C) (way : ℕ) (old now : List (T × ℕ)) : Type 0 where
  pub sound : (e : T × ℕ) → Contains now e → Contains old e ⊎ ((e.1 ≡ way) × shows c e.0)
  pub kept : (what : T) → Contains (keys_of old) what → Contains (keys_of now) what
  pub has : (what : T) → shows c what → Contains (keys_of now) what
  pub once : AllPairs (λ d e. d.0 ≢ e.0) old → AllPairs (λ d e. d.0 ≢ e.0) now

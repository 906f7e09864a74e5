-- What is kept of the objects of a history.
use Rattle.std.specs.Prelude.{◌≡◌, ◌≢◌, ◌≤◌, ◌<◌, ◌⊎◌, ℕ, List, [], ◌∷◌, Some, AllPairs, Contains, length, take, slice_get}
use Rattle.lin_events.specs.declared.items.Item.{Item}
use Rattle.lin_events.specs.declared.events.Event.{Event}
use Rattle.lin_events.specs.Operations.{IsEvent}
use Rattle.lin_objects.specs.declared.kinds.Kind.{Kind}
use Rattle.lin_order.specs.Parts.{ArePositionsOf, part}
use Rattle.lin_engines.specs.declared.says.Says.TheVariants.{On, Dead, Gone}
use Rattle.lin_engines.specs.Exacts.{reach_of_exact}
use Rattle.lin_engines.specs.Replays.{reach_of_replay}
use Rattle.lin_engines.specs.Witnessing.{reach_of_witness}
use Rattle.lin_chain.specs.declared.beside.Beside.{Beside}
use Rattle.lin_chain.specs.declared.beside.Beside.TheVariants as beside
use Rattle.lin_chain.specs.declared.chain.Chain.{Chain}
use Rattle.lin_chain.specs.declared.found.Found.{Found}
use Rattle.lin_chain.specs.declared.found.Found.TheVariants as found
use Rattle.lin_chain.specs.Chains.{IsFor, IsRight, kind_in, mark_in}
use Rattle.lin_chain.specs.Work.{Mark}
use Rattle.lin_session.specs.Known.{Known, Teller}
use Rattle.lin_session.specs.declared.kept.Object.{Object}
use Rattle.lin_session.specs.declared.kept.Objects.{Objects}

-- no engine took an event in
pub record IsUntaken (mark : Mark) : Type 0 where
  pub frontier : mark.frontier ≡ 0
  pub beside : mark.beside ≡ 0
  pub searched : mark.searched ≡ 0

-- the object of the key, after a history whose first `split` events are told apart by their keys
pub record IsObject (kinds : Item → Kind) (budget : ℕ) (h : List Event) (split : ℕ) (key : Item) (object : Object) : Type 0 where
  pub picked : ArePositionsOf key (take split h) object.picks.items
  pub kind : kind_in object.chain ≡ kinds key
  pub right : IsRight object.chain (part key h)
  pub retried : IsFor budget object.chain
  pub counted : object.count ≤ length (part key h)
  pub exact : IsUntaken (mark_in object.chain) ⊎ (object.count ≡ length (part key h))

-- each key of the first `split` events is listed, once, and at its place stands what is kept of its object
pub record AreKept (kinds : Item → Kind) (budget : ℕ) (h : List Event) (split : ℕ) (keys : List Item) (objects : List Object) : Type 0 where
  pub within : split ≤ length h
  pub distinct : AllPairs (λ x y. x ≢ y) keys
  pub known : (at : ℕ) (event : Event) → at < split → IsEvent h at event → Contains keys event.key
  pub each : (i : ℕ) (key : Item) (object : Object) → slice_get keys i ≡ Some key → slice_get objects i ≡ Some object → IsObject kinds budget h split key object

-- how many events are told apart
abbrev pub split_in : Objects → ℕ
split_in objects = objects.split

-- who tells of the object of a chain
abbrev pub found_teller : Found → Teller
found_teller found.Nothing = record { said = Gone; reached = 0; mark = 0 }
found_teller (found.Order order of) = record { said = On; reached = of; mark = of }
found_teller (found.Failure at) = record { said = Dead; reached = at; mark = at }

abbrev pub beside_teller : Beside → Teller
beside_teller beside.Nothing = record { said = Gone; reached = 0; mark = 0 }
beside_teller (beside.Exact lane) = record { said = lane.said; reached = reach_of_exact lane.engine; mark = lane.mark }
beside_teller (beside.Going lane) = record { said = lane.said; reached = reach_of_witness lane.engine; mark = lane.mark }

abbrev pub known_in : Chain → Known
known_in chain = record {
  found = found_teller chain.found;
  beside = beside_teller chain.beside;
  frontier = record { said = chain.frontier.said; reached = reach_of_replay chain.frontier.engine; mark = chain.frontier.mark };
  searched = chain.searched;
  stopped = chain.stopped;
}

-- each key that is listed with what is known of its object
abbrev pub listed_known : List Item → List Object → List (Item × Known)
listed_known [] objects = []
listed_known (key ∷ keys) [] = []
listed_known (key ∷ keys) (object ∷ objects) = (key, known_in object.chain) ∷ listed_known keys objects

abbrev pub known_keys : Objects → List (Item × Known)
known_keys objects = listed_known objects.keys.keys objects.objects.items

-- what is kept is right for the history, the kinds and the budget
abbrev pub AreRight : Objects → (Item → Kind) → ℕ → List Event → Type 0
AreRight objects kinds budget h = AreKept kinds budget h objects.split objects.keys.keys objects.objects.items

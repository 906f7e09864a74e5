-- A witness as an engine.
use Rattle.std.specs.Prelude.{◌≤◌, ℕ, List, length}
use Rattle.lin_events.specs.declared.events.Event.{Event}
use Rattle.lin_objects.specs.declared.kinds.Kind.{Kind}
use Rattle.lin_engines.specs.declared.witness.Witness.{Witness}
use Rattle.lin_engines.specs.Witnesses.{IsWitness}
use Rattle.lin_engines.specs.declared.lane.Lane.{Lane}
use Rattle.lin_engines.specs.Lanes.{IsLane, IsOfWitness}

-- of which kind its object is, and how many events it has taken in
abbrev pub kind_of_witness : Witness → Kind
kind_of_witness witness = witness.object.kind

abbrev pub reach_of_witness : Witness → ℕ
reach_of_witness witness = witness.of

-- as an engine with its mark
abbrev pub IsWitnessLane : Lane Witness → List Event → Type 0
IsWitnessLane lane h = IsLane IsWitness kind_of_witness reach_of_witness IsOfWitness lane h

pub witness_within : (witness : Witness) (h : List Event) → IsWitness witness h → witness.of ≤ length h
witness_within witness h right = right.reached.within

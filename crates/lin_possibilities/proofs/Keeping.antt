-- What is known stays known where nodes are added.
use Rattle.std.proofs.Common.{ℕ, List, Option, arith, length, subst, take}
use Rattle.std.proofs.lemmas.List.{take_all}
use Rattle.lin_events.specs.declared.events.Event.{Event}
use Rattle.lin_frontier.specs.Frontiers.{IsPending}
use Rattle.lin_frontier.specs.Nodes.{IsGrown}
use Rattle.lin_configurations.specs.lemmas.Onward.{rounds_stay, spelled_stays}
use Rattle.lin_members.specs.Compressed.{IsCompressed}
use Rattle.lin_members.specs.Overwritten.{AllowsOverwritten}
use Rattle.lin_members.specs.lemmas.InRounds.{one_rounds}
use Rattle.lin_objects.specs.Observing.{observes}
use Rattle.lin_objects.specs.Overwriting.{overwrites}
use Rattle.lin_objects.specs.Steps.{Step, start}
use Rattle.lin_order.specs.declared.placed.Placed.{Placed}
use Rattle.lin_possibilities.specs.declared.run.Run.{Run}
use Rattle.lin_possibilities.specs.Running.{IsKnown, kind_of}

pub known_stays : (run : Run) (nodes : List (ℕ × (Placed × Option ℕ))) (h : List Event) (n : ℕ) → IsGrown run.nodes nodes → IsKnown run h n → IsKnown (record run { nodes = nodes }) h n
known_stays run nodes h n grown known =
    let kind = kind_of run in
    let g = take n h in
    let covering = known.compressed.covering in
    record {
      compressed = record {
        covering = record {
          complete = covering.complete;
          spelled = λ m there. spelled_stays (start kind) (Step kind) (observes kind) g run.nodes nodes m grown (covering.spelled m there);
          overwritten = λ is m there rounds spelled.
              let s = covering.spelled m there in
              subst (AllowsOverwritten (observes kind) g m) (one_rounds nodes m.1.node s.rounds rounds (rounds_stay run.nodes nodes m.1.node s.rounds grown s.spelled) spelled) (covering.overwritten is m there s.rounds s.spelled);
        };
        apart = known.compressed.apart;
      };
      opened = known.opened;
    }

-- what is known of the first events of some is known of the first events of all
pub known_of_all : (run : Run) (h : List Event) (n : ℕ) → IsKnown run (take n h) (length (take n h)) → IsKnown run h n
known_of_all run h n known =
    let all = take_all (length (take n h)) (take n h) (omega arith) in
    let kind = kind_of run in
    record {
      compressed = subst (λ g. IsCompressed (start kind) (Step kind) (observes kind) (overwrites kind) g run.frontier run.nodes) all known.compressed;
      opened = subst (λ g. IsPending g run.pending.items) all known.opened;
    }

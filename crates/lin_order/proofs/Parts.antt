-- The part of an order that is of a key.
use Rattle.std.proofs.Common.{◌≡◌, Contains, IsTrue}
use Rattle.std.proofs.lemmas.List.Elements.{All-contains, All-contains_itself, All-filter, All-weaker}
use Rattle.std.proofs.lemmas.List.Kept.{AllPairs-filter}
use Rattle.lin_events.specs.declared.calls.Call.{Call}
use Rattle.lin_events.specs.Operations.{IsFailed}
use Rattle.lin_order.specs.declared.placed.Placed.{Placed}
use Rattle.lin_order.specs.Orders.{IsBefore, IsCall, is_of_key, part_of}
use Rattle.lin_order.specs.Laws.{PartsAreLegal}
use Rattle.lin_lists.specs.lemmas.Elements.{in_filter, from_filter}

pub parts_are_legal_lem : PartsAreLegal
parts_are_legal_lem kinds h order legal key =
    let of_it = λ (p : Placed). is_of_key h key p.at in
    let whole = legal.order_of in
    record {
      order_of = record {
        operations = All-weaker (Contains (part_of h key order)) (λ p. (call : Call) × IsCall h p.at call × IsTrue (is_of_key h key p.at)) (λ p there.
            let from = from_filter of_it order p there in
            let operation = All-contains (λ q. (call : Call) × IsCall h q.at call × Unit {0}) order p whole.operations from.0 in
            (operation.0, operation.1, from.1)) (part_of h key order) (All-contains_itself (part_of h key order));
        once = AllPairs-filter (λ p q. p.at ≡ q.at → ⊥) of_it order whole.once;
        none_failed = All-filter of_it (λ p. IsFailed h p.at → ⊥) order whole.none_failed;
        each_ok = λ at end reply on_it ok. in_filter of_it order (record { at = at; reply = reply }) on_it (whole.each_ok at end reply tt ok);
        real_time = AllPairs-filter (λ p q. IsBefore h q.at p.at → ⊥) of_it order whole.real_time;
      };
      legal = legal.legal key;
    }

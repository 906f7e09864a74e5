use Rattle.std.proofs.Common.{◌∷◌, ◌++◌, [], ◌+◌, ap, arith, refl, ◌∙◌}
use Rattle.std.proofs.lemmas.List.{drop_all}
use Rattle.lin_lists.specs.Sets.{members_of}
use Rattle.lin_events.specs.Items.{item_cmp}
use Rattle.lin_names.specs.Spelled.{seen}
use Rattle.lin_names.specs.lemmas.Begins.{begins_on}
use Rattle.lin_texts.proofs.Rising.{is_last, rises_on}
use Rattle.lin_texts.proofs.Members.{members_end, members_fall, members_more, none_said, numbered_more, some_said}
use Rattle.lin_texts.proofs.orders.read_members.Goals as goal

pub returns-then-not-is_above-clause-read : goal.returns-then-not-is_above-clause-read
returns-then-not-is_above-clause-read c =
    let v = c.parts.invariant.read in
    let said = seen c.in-Some.said in
    none_said _ _ _ (members_fall c.args.text.now c.parts.from c.part_end-end.result v.saids _ said v.reads c.part_end-end.ensures.part c.in-Some.ensures
    (rises_on c.parts.last v.saids said _ v.ends v.reads.rising c.is_above.ensures ∙ c.if-not-is_above.true))

pub returns-then-end-text-clause-read : goal.returns-then-end-text-clause-read
returns-then-end-text-clause-read c =
    let v = c.parts.invariant.read in
    let said = seen c.in-Some.said in
    let end = c.part_end-end.result in
    let rises = rises_on c.parts.last v.saids said _ v.ends v.reads.rising c.is_above.ensures ∙ c.if-not-is_above.false in
    let numbers = numbered_more c.parts.names c.item.new.names c.parts.members.items c.push.new.self.items v.saids c.in_ok-item.field-0 said c.in_ok-item.ensures.begun v.numbers
    c.in_ok-item.ensures.item c.in_ok-push.ensures.items in
    some_said _ _ _ (v.saids ++ said ∷ []) _
    (members_end c.args.text.now c.parts.from end v.saids _ said v.reads c.part_end-end.ensures.part c.in-Some.ensures rises (drop_all end c.args.text.now (omega arith)))
    (λ number agrees. c.in_ok-from_members.ensures ∙ ap (members_of item_cmp) (numbers number agrees))

pub parts-preserved : goal.parts-preserved
parts-preserved c =
    let v = c.parts.invariant.read in
    let said = seen c.in-Some.said in
    let rises = rises_on c.parts.last v.saids said _ v.ends v.reads.rising c.is_above.ensures ∙ c.if-not-is_above.false in
    record {
      begun = begins_on _ _ _ c.parts.invariant.begun c.in_ok-item.ensures.begun;
      read = record {
        saids = v.saids ++ said ∷ [];
        reads = members_more c.args.text.now c.parts.from c.part_end-end.result (c.part_end-end.result + 1) v.saids (v.saids ++ said ∷ []) _ said v.reads
            c.part_end-end.ensures.part c.in-Some.ensures refl rises (omega arith) refl;
        ends = is_last v.saids c.in-Some.said;
        numbers = numbered_more c.parts.names c.item.new.names c.parts.members.items c.push.new.self.items v.saids c.in_ok-item.field-0 said c.in_ok-item.ensures.begun v.numbers
            c.in_ok-item.ensures.item c.in_ok-push.ensures.items;
      };
    }

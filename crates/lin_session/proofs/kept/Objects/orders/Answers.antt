use Rattle.std.proofs.Common.{◌≡◌, ◌<◌, ◌+◌, pos, Some, List, ◌++◌, ◌∷◌, [], length, slice_get, get_or, take, sym, ap, subst, ◌∙◌, arith, add-one}
use Rattle.std.specs.Global.{Vec}
use Rattle.std.specs.List.{AllZip}
use Rattle.std.proofs.lemmas.List.{map_push, take_all}
use Rattle.std.proofs.lemmas.Option.{slice_get-get_or}
use Rattle.lin_events.specs.declared.items.Item.{Item}
use Rattle.lin_events.specs.declared.items.Item.TheVariants.{Int}
use Rattle.lin_lists.specs.lemmas.Lists.{take_next}
use Rattle.lin_objects.specs.Kinds.{kind_of}
use Rattle.lin_order.specs.declared.placed.Placed.{Placed}
use Rattle.lin_order.specs.Linearizable.{IsLegalOrderFor}
use Rattle.lin_order.specs.Merging.{lists_of}
use Rattle.lin_lists.specs.lemmas.Taken.{zip_push}
use Rattle.lin_session.proofs.kept.Objects.orders.Goals as goal

pub loop-i-preserved : goal.loop-i-preserved
loop-i-preserved c =
    let s = c.args.self.now in
    let i = c.loop-i.i in
    let h = c.args.events.now in
    let within : i < length s.keys.keys = omega (arith, c.loop-i-test.true, c.len-i-end.ensures, s.objects.ok.0, s.aligned) in
    let key : Item = get_or s.keys.keys i (Int (pos 0)) in
    let key_at : slice_get s.keys.keys i ≡ Some key = slice_get-get_or s.keys.keys i (Int (pos 0)) within in
    let order = c.in_ok-order.order in
    let legal = c.in_ok-order.ensures key key_at in
    let R : Item → List Placed → Type 0 = λ k p. IsLegalOrderFor (kind_of c.args.kinds.now) k h p in
    let more = zip_push R (take i s.keys.keys) (lists_of c.loop-i.parts.items) key order.items c.loop-i.invariant legal in
    let keys_are : take i s.keys.keys ++ key ∷ [] ≡ take (i + 1) s.keys.keys = sym (take_next i s.keys.keys key key_at) ∙ ap (λ n. take n s.keys.keys) (sym (add-one i)) in
    let lists_are : lists_of c.loop-i.parts.items ++ order.items ∷ [] ≡ lists_of c.push.new.self.items =
    sym (ap lists_of c.in_ok-push.ensures.items ∙ map_push (λ (p : Vec Placed). p.items) c.loop-i.parts.items order) in
    subst (λ k. AllZip R k (lists_of c.push.new.self.items)) keys_are (subst (AllZip R (take i s.keys.keys ++ key ∷ [])) lists_are more)

pub order_listed-requires-clause-alive : goal.order_listed-requires-clause-alive
order_listed-requires-clause-alive c = λ key key_at. c.requires.alive key tt

pub returns : goal.returns
returns c =
    let s = c.args.self.now in
    let whole : take c.loop-i.i s.keys.keys ≡ s.keys.keys = take_all c.loop-i.i s.keys.keys (omega (arith, c.loop-i-test.false, c.len-i-end.ensures, s.objects.ok.0, s.aligned)) in
    subst (λ k. AllZip (λ key order. IsLegalOrderFor (kind_of c.args.kinds.now) key c.args.events.now order) k (lists_of c.loop-i.parts.items)) whole c.loop-i.invariant

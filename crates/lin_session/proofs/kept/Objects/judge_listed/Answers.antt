use Rattle.std.specs.Global.{Vec}
use Rattle.std.proofs.Common.{◌≡◌, ◌<◌, ℕ, Some, All, length, slice_get, set, get_or, refl, sym, ap, subst, ◌∙◌, arith}
use Rattle.std.specs.Prelude.{IfOk, IsOk}
use Rattle.lin_events.specs.declared.items.Item.{Item}
use Rattle.lin_objects.specs.declared.kinds.Kind.{Kind}
use Rattle.lin_order.specs.Parts.{events_at, part}
use Rattle.lin_events.specs.declared.meter.Meter.{Meter}
use Rattle.lin_engines.specs.declared.ends.End.TheVariants.{Alive}
use Rattle.lin_engines.specs.Ends.{IsEndOf}
use Rattle.lin_engines.specs.declared.ends.End.{End}
use Rattle.lin_engines.specs.Exacts.{HasExact}
use Rattle.lin_chain.specs.Chains.{IsDecided, kind_in, told_in}
use Rattle.lin_session.specs.Objects.{AreRight, IsObject, listed_known}
use Rattle.lin_session.specs.Known.{mark_of}
use Rattle.lin_session.specs.inner.Objects.{Finds, IsPlaceIn}
use Rattle.lin_session.proofs.Advancing.{after, carried_there, exact_there, fine_there, inside, known_there, most_there, object_there, retried_there, right_there, spelled_length, spent_there, told_there}
use Rattle.lin_session.proofs.Asking.{IsPlaceIn-end, finding_of, finds_decided, marked_of, spelled}
use Rattle.lin_session.proofs.Found.{not_ok}
use Rattle.lin_session.proofs.kept.Objects.judge_listed.Goals as goal
use Rattle.lin_session.proofs.kept.Objects.judge_listed.Goals.{After-index_mut-object, After-settle, In_ok-end}

-- what is known of the object that stands there
there : (c : After-index_mut-object) (kinds : Item → Kind) → AreRight c.args.self.now kinds c.args.budget c.args.events.now → (key : Item) → slice_get c.args.self.now.keys.keys c.args.i ≡ Some key
    → IsObject kinds c.args.budget c.args.events.now c.args.self.now.split key c.index_mut-object.result.now
there c kinds kept = object_there c.args.self.now c.args.i c.requires.listed c.index_mut-object.result.now c.index_mut-object.ensures.value c.positions_spell_parts.ensures c.args.budget c.args.events.now c.requires.split kinds kept

picks_there : (c : After-index_mut-object) (k : ℕ) (d : ℕ) → k < length c.index_mut-object.result.now.picks.items → get_or c.index_mut-object.result.now.picks.items k d < length c.args.events.now
picks_there c = inside c.args.self.now c.args.i c.requires.listed c.index_mut-object.result.now c.index_mut-object.ensures.value c.positions_spell_parts.ensures c.args.budget c.args.events.now c.requires.split c.requires.right.0 c.requires.right.1

length_there : (c : After-index_mut-object) → length (events_at c.args.events.now c.index_mut-object.result.now.picks.items) ≡ length c.index_mut-object.result.now.picks.items
length_there c = spelled_length c.args.self.now c.args.i c.requires.listed c.index_mut-object.result.now c.index_mut-object.ensures.value c.positions_spell_parts.ensures c.args.budget c.args.events.now c.requires.split c.requires.right.0 c.requires.right.1

pub settle-requires-clause-right : goal.settle-requires-clause-right
settle-requires-clause-right c = right_there c.args.self.now c.args.i c.requires.listed c.index_mut-object.result.now c.index_mut-object.ensures.value c.positions_spell_parts.ensures c.args.budget c.args.events.now c.requires.split c.requires.right.0 c.requires.right.1

pub settle-requires-clause-retried : goal.settle-requires-clause-retried
settle-requires-clause-retried c = retried_there c.args.self.now c.args.i c.requires.listed c.index_mut-object.result.now c.index_mut-object.ensures.value c.positions_spell_parts.ensures c.args.budget c.args.events.now c.requires.split c.requires.right.0 c.requires.right.1

pub settle-requires-clause-inside : goal.settle-requires-clause-inside
settle-requires-clause-inside c = picks_there (goal.at.settle-requires-clause-inside c).After-index_mut-object

pub settle-requires-clause-well_formed : goal.settle-requires-clause-well_formed
settle-requires-clause-well_formed c = fine_there c.args.self.now c.args.i c.requires.listed c.index_mut-object.result.now c.index_mut-object.ensures.value c.positions_spell_parts.ensures c.args.budget c.args.events.now c.requires.split c.requires.right.0 c.requires.right.1 c.parts_keep_operations.ensures.well_formed c.requires.right.2

pub finding-requires-clause-place : goal.finding-requires-clause-place
finding-requires-clause-place c =
    let b = (goal.at.finding-requires-clause-place c).After-index_mut-object in
    let old = c.index_mut-object.result.now in
    let len = length_there b ∙ ap (λ (p : Vec ℕ). length p.items) (sym c.settle.ensures.picks) in
    IsPlaceIn-end (kind_in old.chain) c.args.budget (events_at c.args.events.now old.picks.items) (length c.settle.new.self.picks.items) len c.in_ok-end.end c.in_ok-end.ensures.end

pub finding-requires-clause-small : goal.finding-requires-clause-small
finding-requires-clause-small c =
    let b = (goal.at.finding-requires-clause-small c).After-index_mut-object in
    subst (λ (p : Vec ℕ). All (λ at. at < 18446744073709551615) p.items) (sym c.settle.ensures.picks) (λ k d within. omega (arith, picks_there b k d within, c.requires.few))

-- what told stays told
again : (c : After-settle) (end : End) → told_in c.index_mut-object.result.now.chain (length c.index_mut-object.result.now.picks.items) ≡ Some end → c.settle.new.self.chain ≡ c.index_mut-object.result.now.chain
again c end told = (c.settle.ensures.again end told).1

pub returns-in_err-end-clause-right : goal.returns-in_err-end-clause-right
returns-in_err-end-clause-right c = λ kinds kept. after c.args.self.now c.args.i c.requires.listed c.index_mut-object.result.now c.index_mut-object.ensures.value c.positions_spell_parts.ensures c.args.budget c.args.events.now c.requires.split kinds kept c.settle.new.self c.settle.ensures.picks c.settle.ensures.count c.settle.ensures.kept

pub returns-clause-right : goal.returns-clause-right
returns-clause-right c = λ kinds kept. after c.args.self.now c.args.i c.requires.listed c.index_mut-object.result.now c.index_mut-object.ensures.value c.positions_spell_parts.ensures c.args.budget c.args.events.now c.requires.split kinds kept c.settle.new.self c.settle.ensures.picks c.settle.ensures.count c.settle.ensures.kept

pub returns-in_err-end-clause-carried : goal.returns-in_err-end-clause-carried
returns-in_err-end-clause-carried c = carried_there c.args.self.now c.args.i c.requires.listed c.index_mut-object.result.now c.index_mut-object.ensures.value c.positions_spell_parts.ensures c.args.budget c.args.events.now c.requires.split c.requires.right.0 c.requires.right.1 c.settle.new.self c.settle.ensures.kept (again (goal.at.returns-in_err-end-clause-carried c).After-settle)

pub returns-clause-carried : goal.returns-clause-carried
returns-clause-carried c = carried_there c.args.self.now c.args.i c.requires.listed c.index_mut-object.result.now c.index_mut-object.ensures.value c.positions_spell_parts.ensures c.args.budget c.args.events.now c.requires.split c.requires.right.0 c.requires.right.1 c.settle.new.self c.settle.ensures.kept (again (goal.at.returns-clause-carried c).After-settle)

pub returns-in_err-end-clause-most : goal.returns-in_err-end-clause-most
returns-in_err-end-clause-most c = λ key key_at.
    most_there c.args.self.now c.args.i c.requires.listed c.index_mut-object.result.now c.index_mut-object.ensures.value c.positions_spell_parts.ensures c.args.budget c.args.events.now c.requires.split c.requires.right.0 c.requires.right.1 c.settle.new.self c.settle.ensures.kept (again (goal.at.returns-in_err-end-clause-most c).After-settle) key key_at _ _ c.settle.ensures.most

pub returns-clause-most : goal.returns-clause-most
returns-clause-most c = λ key key_at.
    most_there c.args.self.now c.args.i c.requires.listed c.index_mut-object.result.now c.index_mut-object.ensures.value c.positions_spell_parts.ensures c.args.budget c.args.events.now c.requires.split c.requires.right.0 c.requires.right.1 c.settle.new.self c.settle.ensures.kept (again (goal.at.returns-clause-most c).After-settle) key key_at _ _ c.settle.ensures.most

pub returns-clause-spent : goal.returns-clause-spent
returns-clause-spent c = λ key key_at.
    spent_there c.args.self.now c.args.i c.requires.listed c.index_mut-object.result.now c.index_mut-object.ensures.value c.positions_spell_parts.ensures c.args.budget c.args.events.now c.requires.split c.requires.right.0 c.requires.right.1 c.settle.new.self c.settle.ensures.kept (again (goal.at.returns-clause-spent c).After-settle) key key_at _ _ c.in_ok-end.ensures.spent

pub returns-in_err-end-clause-rests : goal.returns-in_err-end-clause-rests
returns-in_err-end-clause-rests c = λ key key_at known.
    let told = known_there c.args.self.now c.args.i c.requires.listed c.index_mut-object.result.now c.index_mut-object.ensures.value c.positions_spell_parts.ensures c.args.budget c.args.events.now c.requires.split c.requires.right.0 c.requires.right.1 key key_at known in
    absurd (not_ok c.settle.result c.in_err-end.field-0.0 c.in_err-end.was (subst IsOk (sym (c.settle.ensures.again told.0 told.1).0) refl))

pub returns-clause-rests : goal.returns-clause-rests
returns-clause-rests c = λ key key_at known.
    let told = known_there c.args.self.now c.args.i c.requires.listed c.index_mut-object.result.now c.index_mut-object.ensures.value c.positions_spell_parts.ensures c.args.budget c.args.events.now c.requires.split c.requires.right.0 c.requires.right.1 key key_at known in
    (refl, (c.settle.ensures.again told.0 told.1).2)

place : (c : In_ok-end) → IsPlaceIn (length c.index_mut-object.result.now.picks.items) c.in_ok-end.end
place c =
    let old = c.index_mut-object.result.now in
    let len = spelled_length c.args.self.now c.args.i c.requires.listed c.index_mut-object.result.now c.index_mut-object.ensures.value c.positions_spell_parts.ensures c.args.budget c.args.events.now c.requires.split c.requires.right.0 c.requires.right.1 in
    IsPlaceIn-end (kind_in old.chain) c.args.budget (events_at c.args.events.now old.picks.items) (length old.picks.items) len c.in_ok-end.end c.in_ok-end.ensures.end

pub returns-clause-found : goal.returns-clause-found
returns-clause-found c = λ kinds key key_at kept fine.
    let at = goal.at.returns-clause-found c in
    let s = c.args.self.now in
    let h = c.args.events.now in
    let old = c.index_mut-object.result.now in
    let end = c.in_ok-end.end in
    let spell = c.positions_spell_parts.ensures in
    let is = there at.After-index_mut-object kinds kept key key_at in
    let spells = spelled spell kinds c.args.budget h s.split key old c.requires.split is in
    let told = subst (λ (p : Vec ℕ). Finds p.items end c.finding.result) c.settle.ensures.picks c.finding.ensures in
    let ended = subst (λ k. IsEndOf k c.args.budget (part key h) end) is.kind (subst (λ l. IsEndOf (kind_in old.chain) c.args.budget l end) spells c.in_ok-end.ensures.end) in
    finding_of spell kinds c.args.budget h s.split key old c.requires.split is c.beginnings_are_well_formed.ensures c.parts_of_prefixes.ensures.prefixes c.parts_of_prefixes.ensures.up_to
    c.parts_keep_orders.ensures.linearizable fine end c.finding.result (place at.In_ok-end) ended told

pub returns-clause-told : goal.returns-clause-told
returns-clause-told c = λ key key_at.
    let at = goal.at.returns-clause-told c in
    let s = c.args.self.now in
    let h = c.args.events.now in
    let old = c.index_mut-object.result.now in
    let end = c.in_ok-end.end in
    let is = there at.After-index_mut-object c.requires.right.0 c.requires.right.1 key key_at in
    let told = told_there c.args.self.now c.args.i c.requires.listed c.index_mut-object.result.now c.index_mut-object.ensures.value c.positions_spell_parts.ensures c.args.budget c.args.events.now c.requires.split c.requires.right.0 c.requires.right.1 c.settle.new.self c.settle.ensures.kept (again at.After-settle) key key_at end c.in_ok-end.ensures.told in
    let finds = subst (λ (p : Vec ℕ). Finds p.items end c.finding.result) c.settle.ensures.picks c.finding.ensures in
    marked_of c.positions_spell_parts.ensures c.requires.right.0 c.args.budget h s.split key old c.requires.split is c.parts_of_prefixes.ensures.prefixes (mark_of (listed_known s.keys.keys (set s.objects.items c.args.i c.settle.new.self))) end c.finding.result (place at.In_ok-end) told finds

pub returns-clause-decided : goal.returns-clause-decided
returns-clause-decided c = λ kinds key key_at kept exact many.
    let at = goal.at.returns-clause-decided c in
    let is = there at.After-index_mut-object kinds kept key key_at in
    let decided = c.settle.ensures.decided (subst HasExact (sym is.kind) exact) many in
    finds_decided c.settle.new.self.picks.items c.in_ok-end.end c.finding.result c.finding.ensures (subst (λ r. IfOk r IsDecided) c.in_ok-end.was decided)

pub returns-clause-exact : goal.returns-clause-exact
returns-clause-exact c = λ kinds key key_at kept exact many.
    exact_there c.args.self.now c.args.i c.requires.listed c.index_mut-object.result.now c.index_mut-object.ensures.value c.positions_spell_parts.ensures c.args.budget c.args.events.now c.requires.split kinds kept key key_at c.args.meter.now.steps c.settle.new.meter.steps exact (λ is. c.settle.ensures.exact is many)
    (λ told. ap (λ (m : Meter). m.steps) (c.settle.ensures.again Alive told).2)

pub returns-in_err-end-clause-exact : goal.returns-in_err-end-clause-exact
returns-in_err-end-clause-exact c = λ kinds key key_at kept exact many.
    exact_there c.args.self.now c.args.i c.requires.listed c.index_mut-object.result.now c.index_mut-object.ensures.value c.positions_spell_parts.ensures c.args.budget c.args.events.now c.requires.split kinds kept key key_at c.args.meter.now.steps c.settle.new.meter.steps exact (λ is. c.settle.ensures.exact is many)
    (λ told. ap (λ (m : Meter). m.steps) (c.settle.ensures.again Alive told).2)

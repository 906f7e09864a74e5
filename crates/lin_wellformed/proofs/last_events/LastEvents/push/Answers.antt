use Rattle.std.proofs.Common.{◌≡◌, ◌+◌, ◌<◌, [], ◌∷◌, ◌++◌, length, set, slice_get, Some, refl, ◌∙◌, ap, subst, sym, arith}
use Rattle.std.proofs.lemmas.Option.{slice_get_read}
use Rattle.lin_wellformed.specs.declared.last_events.Change.{Change}
use Rattle.lin_wellformed.specs.Tables.{AreLast, IsLastPlace, place_in}
use Rattle.lin_wellformed.proofs.TableLemmas.{grown_last, pushed_last}
use Rattle.lin_wellformed.proofs.last_events.LastEvents.push.Goals as goal

pub invariant_of-self : goal.invariant_of-self
invariant_of-self c = grown_last c.self.inside.last.items c.grow.new.codes.items c.self.inside.changes.items c.grow.ensures.longer c.grow.ensures.kept c.self.invariant

pub invariant_of-self-in_err-reserve : goal.invariant_of-self-in_err-reserve
invariant_of-self-in_err-reserve c = subst (AreLast c.grow.new.codes.items) (sym c.reserve.ensures.items)
    (grown_last c.self.inside.last.items c.grow.new.codes.items c.self.inside.changes.items c.grow.ensures.longer c.grow.ensures.kept c.self.invariant)

pub invariant_of-self-2 : goal.invariant_of-self-2
invariant_of-self-2 c =
    let grown = grown_last c.self.inside.last.items c.grow.new.codes.items c.self.inside.changes.items c.grow.ensures.longer c.grow.ensures.kept c.self.invariant in
    let before = c.index-before.result.now in
    let codes = c.grow.new.codes.items in
    let changes = c.self.inside.changes.items in
    let change : Change = record { number = c.in-Ok.short; before = before } in
    let named : c.args.number ≡ c.in-Ok.short = sym c.in-Ok.ensures.1 in
    let code : length changes + 1 ≡ c.in_ok-code.code = omega (arith, c.len.ensures, c.in_ok-code.ensures, c.self.inside.changes.ok.0) in
    let stands = slice_get_read codes (length codes) c.args.number before refl c.in_ok-grow.ensures.room c.index-before.ensures in
    let pushed = pushed_last codes changes change (subst (λ n. n < length codes) named c.in_ok-grow.ensures.room) (subst (λ n. slice_get codes n ≡ Some before) named stands) grown in
    let items : changes ++ change ∷ [] ≡ c.push_reserved.new.self.items = sym (c.push_reserved.ensures.items ∙ ap (λ l. l ++ change ∷ []) c.reserve.ensures.items) in
    subst (λ n. AreLast (set codes n c.in_ok-code.code) c.push_reserved.new.self.items) (sym named)
    (subst (λ k. AreLast (set codes c.in-Ok.short k) c.push_reserved.new.self.items) code (subst (AreLast (set codes c.in-Ok.short (length changes + 1))) items pushed))

pub returns-clause-last : goal.returns-clause-last
returns-clause-last c =
    let grown = grown_last c.self.inside.last.items c.grow.new.codes.items c.self.inside.changes.items c.grow.ensures.longer c.grow.ensures.kept c.self.invariant in
    let before = c.index-before.result.now in
    let stands = slice_get_read c.grow.new.codes.items (length c.grow.new.codes.items) c.args.number before refl c.in_ok-grow.ensures.room c.index-before.ensures in
    subst (IsLastPlace c.args.self.now c.args.number) (sym c.place_of.ensures) (subst (λ l. IsLastPlace l c.args.number (place_in before)) c.self.view_is (grown.ends c.args.number before stands))

use Rattle.std.proofs.Common.{◌≡◌, ℕ, Option, sym, ap, subst, ◌∙◌}
use Rattle.lin_order.specs.ConfigurationLaws.{with_event}
use Rattle.lin_locks.specs.declared.latest.Running.{Running}
use Rattle.lin_locks.specs.inner.Changes.{invoked, undone}
use Rattle.lin_locks.specs.inner.Known.{Known, Part, known_of}
use Rattle.lin_locks.specs.inner.Latest.{latest_in, with_latest}
use Rattle.lin_locks.specs.inner.Turns.{IsRight}
use Rattle.lin_locks.specs.declared.changes.Change.TheVariants.{Invoked}
use Rattle.lin_locks.proofs.Invoking.{invocation_undone, right_invoked}
use Rattle.lin_locks.proofs.standings.Standing.begin.Goals as goal

-- room changes nothing
same_parts : (known : Known) (acquires releases : Part) (latest : ℕ → Option Running) → acquires ≡ known.acquires → releases ≡ known.releases → record known { acquires = acquires; releases = releases; latest = latest } ≡ record known { latest = latest }
same_parts known acquires releases latest first second = ap (λ p. record known { acquires = p; releases = releases; latest = latest }) first ∙ ap (λ p. record known { releases = p; latest = latest }) second

pub returns-clause-on : goal.returns-clause-on
returns-clause-on c change is event body of_it functions h here formed right =
    let old = known_of c.args.self.now in
    let latest = latest_in c.put.new.self in
    let run : Running = record { begin = c.args.at; call = c.args.call } in
    let now = c.open.ensures.opens ∙ ap (invoked c.args.call c.args.at) (same_parts old _ _ latest c.make_room.ensures.same c.make_room-2.ensures.same) in
    let put = λ (other : ℕ).
    c.in_ok-put.ensures.put other ∙ ap (λ p. with_latest old.latest p (record { begin = c.args.at; call = c.args.call }) other) (sym of_it) ∙ ap (λ n. with_latest old.latest event.process (record { begin = n; call = c.args.call }) other) here in
    subst (λ k. IsRight k (with_event h event)) (sym (now ∙ ap (λ n. invoked c.args.call n (record old { latest = latest })) here))
    (right_invoked c.well_formed_is_alternating.ensures functions h event c.args.call body formed old latest put right)

pub returns-clause-back : goal.returns-clause-back
returns-clause-back c =
    let old = known_of c.args.self.now in
    let latest = latest_in c.put.new.self in
    let now = c.open.ensures.opens ∙ ap (invoked c.args.call c.args.at) (same_parts old _ _ latest c.make_room.ensures.same c.make_room-2.ensures.same) in
    ap (undone (Invoked c.args.process c.args.call c.get-before.result)) now
    ∙ invocation_undone c.args.call c.args.at old latest c.args.process (record { begin = c.args.at; call = c.args.call }) c.get-before.result c.get-before.ensures c.in_ok-put.ensures.put

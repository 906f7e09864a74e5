use Rattle.std.proofs.Common.{◌≡◌, ◌∙◌, ◌+◌, length, sym, subst, refl, ap, take}
use Rattle.std.proofs.lemmas.Option.{slice_get_read}
use Rattle.lin_objects.specs.Kinds.{kind_of}
use Rattle.lin_wellformed.specs.declared.scan.Scan.{Scan}
use Rattle.lin_wellformed.specs.Scans.{IsRight, good_count, processes_of}
use Rattle.lin_wellformed.specs.Tables.{IsLastPlace}
use Rattle.lin_wellformed.proofs.ScanLemmas.{right_next, right_bad}
use Rattle.lin_wellformed.proofs.TableLemmas.{push_cancel}
use Rattle.lin_wellformed.proofs.scan.Scan.take_in.Goals as goal
use Rattle.lin_wellformed.proofs.scan.Scan.take_in.Goals.{in-Some, in_default}

pub returns-clause-right : goal.returns-clause-right
returns-clause-right c =
    let kinds = kind_of c.args.kinds.now in
    let h = c.args.events.now in
    let old = c.args.self.now in
    let event = c.index-events-self.result in
    let laws = c.bad_positions.ensures in
    let stands = slice_get_read h (length h) old.ready event refl c.requires.more c.index-events-self.is in
    let all : length old.table ≡ old.ready = c.requires.right.counted ∙ ap (λ s. good_count s old.ready) c.requires.good in
    let listed : old.table ≡ processes_of (take old.ready h) = c.requires.right.listed ∙ ap (λ n. processes_of (take n h)) all in
    let found = c.status_behind-status.ensures event.process (subst (λ l. IsLastPlace l event.process c.in_ok-last.last) listed c.in_ok-last.ensures.last) in
    elim c.match-first_cause.branch [
      | in-Some w ↦
          let back = push_cancel w.take_back.new.self old.table w.take_back.ensures.0 event.process (sym w.take_back.ensures.1 ∙ c.in_ok-last.ensures.taken) in
          subst (λ (s : Scan). IsRight (record { ready = s.ready + 1; shape = s.shape; table = s.table }) kinds h) (sym w.self-is)
          (right_bad laws.beginnings kinds h old _ event c.status_behind-status.result w.in-Some.cause c.requires.right c.requires.good stands found w.in-Some.ensures back)
      | in_default w ↦
          subst (λ (s : Scan). IsRight (record { ready = s.ready + 1; shape = s.shape; table = s.table }) kinds h) (sym w.self-is)
          (right_next laws.beginnings laws.good kinds h old _ event c.status_behind-status.result c.requires.right c.requires.good stands found w.in_default.ensures c.in_ok-last.ensures.taken)
    ]

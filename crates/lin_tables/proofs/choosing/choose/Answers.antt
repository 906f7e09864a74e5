use Rattle.std.proofs.Common.{◌∷◌, [], ◌++◌, ◌+◌, arith, subst, sym, refl}
use Rattle.lin_tables.specs.Choices.{TakesIn}
use Rattle.lin_tables.specs.WindowTables.{HasMark, listing_of}
use Rattle.lin_tables.specs.declared.marks.Chosen.{Chosen}
use Rattle.lin_tables.proofs.Choices.{IsChoiceBelow, choice_end, choice_more, choice_over, choice_same, rising_more}
use Rattle.lin_tables.proofs.Marking.{mark_alone, mark_within}
use Rattle.lin_tables.proofs.choosing.choose.Goals.{then-is_over, else-is_over}
use Rattle.lin_tables.proofs.choosing.choose.Goals as goal

pub loop-at-preserved-in_default : goal.loop-at-preserved-in_default
loop-at-preserved-in_default c =
    let h = c.args.events.now in
    let listed = listing_of c.args.listed.now in
    choice_same (λ (x : Chosen). HasMark h listed x.at x.mark) listed c.loop-at.at c.loop-at.shown.items c.loop-at.more
    (λ x same is. c.in_default.ensures x.mark (subst (λ k. HasMark h listed k x.mark) same is))
    c.loop-at.invariant

pub take_in-requires : goal.take_in-requires
take_in-requires c =
    let h = c.args.events.now in
    let listed = listing_of c.args.listed.now in
    let new : Chosen = record { at = c.loop-at.at; mark = c.in-Some.mark } in
    let old = c.loop-at.shown.items in
    rising_more (λ (x : Chosen). HasMark h listed x.at x.mark) listed c.loop-at.at new refl c.in-Some.ensures (λ x same is. mark_alone h listed new x c.in-Some.ensures same is)
    old old c.loop-at.more c.loop-at.invariant

pub loop-at-preserved : goal.loop-at-preserved
loop-at-preserved c =
    let h = c.args.events.now in
    let listed = listing_of c.args.listed.now in
    let at = c.loop-at.at in
    let new : Chosen = record { at = at; mark = c.in-Some.mark } in
    let such = λ (x : Chosen). HasMark h listed x.at x.mark in
    let old = c.loop-at.shown.items in
    let shown = c.take_in.new.shown.items in
    let takes = c.in_ok-is_over.ensures in
    elim c.if-is_over.branch [
      | then-is_over w ↦
          subst (IsChoiceBelow such listed (at + 1) shown) (sym w.more-is)
          (choice_over such listed at new refl c.in-Some.ensures (λ x same is. mark_alone h listed new x c.in-Some.ensures same is) old shown c.loop-at.more c.loop-at.invariant
          (subst (λ b. TakesIn listed (old ++ new ∷ []) b shown) w.if-is_over.true takes))
      | else-is_over w ↦
          subst (IsChoiceBelow such listed (at + 1) shown) (sym w.more-is)
          (choice_more such listed at new refl c.in-Some.ensures (λ x same is. mark_alone h listed new x c.in-Some.ensures same is) old shown c.loop-at.more c.loop-at.invariant
          (subst (λ b. TakesIn listed (old ++ new ∷ []) b shown) w.if-is_over.false takes))
    ]

pub returns : goal.returns
returns c =
    let h = c.args.events.now in
    let listed = listing_of c.args.listed.now in
    let so_far = c.loop-at.invariant in
    let ended = c.loop-at-test.false in (
      so_far.0,
      so_far.1,
      choice_end (λ (x : Chosen). HasMark h listed x.at x.mark) listed c.loop-at.at c.loop-at.shown.items so_far.0
          (λ x is. let within = mark_within h listed x.at x.mark is in omega (arith, within, ended))
          so_far.3,
    )

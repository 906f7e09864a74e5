use Rattle.std.proofs.Common.{sym, ◌∙◌}
use Rattle.lin_edn.specs.View.{view}
use Rattle.lin_edn.proofs.Rows.{none_wrapped, none_inside, one_wrapped, two_wrapped, same_value}
use Rattle.lin_edn.proofs.series.unwrapped.Goals as goal

pub returns-in_err-element : goal.returns-in_err-element
returns-in_err-element c = λ answer h. rw c.from_residual.ensures (λ w v p used t e.
    none_wrapped c.args.two (view c.in-Complete.value) v w c.in_err-element.ensures t (same_value (sym (rw c.in-Complete.is at h) ∙ e)))

pub returns-then-not-two : goal.returns-then-not-two
returns-then-not-two c = λ answer h.
    let found = c.in_ok-element.ensures in (
      view c.in-Complete.value,
      c.in-Complete.at,
      one_wrapped c.args.two (view c.in-Complete.value) (view c.in_ok-element.element) found.0 found.1 c.if-not-two.true found.2,
      rw c.in-Complete.is at h,
    )

pub returns-in_err-inner : goal.returns-in_err-inner
returns-in_err-inner c = λ answer h. rw c.from_residual-in_err-inner.ensures (λ w v p used t e.
    let found = c.in_ok-element.ensures in
    none_inside c.args.two (view c.in-Complete.value) (view c.in_ok-element.element) v w found.0 found.1 c.if-not-two.false found.2 c.in_err-inner.ensures t
    (same_value (sym (rw c.in-Complete.is at h) ∙ e)))

pub returns : goal.returns
returns c = λ answer h.
    let outer = c.in_ok-element.ensures in
    let found = c.in_ok-inner.ensures in (
      view c.in-Complete.value,
      c.in-Complete.at,
      two_wrapped c.args.two (view c.in-Complete.value) (view c.in_ok-element.element) (view c.in_ok-inner.inner) outer.0 found.0 outer.1 found.1
          c.if-not-two.false outer.2 found.2,
      rw c.in-Complete.is at h,
    )

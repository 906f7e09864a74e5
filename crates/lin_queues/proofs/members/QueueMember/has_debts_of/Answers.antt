use Rattle.std.proofs.Common.{◌≡◌, ◌≤◌, ℕ, Some, slice_get, ap, sym, subst, refl, inl, inr, arith, ◌∙◌, length, List, get_or, pos}
use Rattle.lin_events.specs.declared.items.Item.TheVariants.{Int}
use Rattle.std.proofs.lemmas.Bool.{cases_lt, not-false}
use Rattle.std.proofs.lemmas.Option.{slice_get_within, get_or_from_slice_get}
use Rattle.lin_events.specs.Sameness.{item_same}
use Rattle.lin_queues.specs.declared.members.Debt.{Debt}
use Rattle.lin_queues.proofs.members.QueueMember.has_debts_of.Goals as goal

at_same : {A : Type 0} (xs : List A) (k i : ℕ) (x d : A) → k ≡ i → slice_get xs k ≡ Some x → get_or xs i d ≡ x
at_same xs k i x d e at = ap (λ j. get_or xs j d) (sym e) ∙ get_or_from_slice_get xs k x d at

pub loop-at-preserved : goal.loop-at-preserved
loop-at-preserved c = λ k x y before at_x at_y. elim (cases_lt k c.loop-at.at) [
  | inl earlier ↦ c.loop-at.invariant k x y earlier at_x at_y
  | inr later ↦
      let here : k ≡ c.loop-at.at = omega arith in
      let own = at_same c.args.self.now.debts.items k c.loop-at.at x (record { element = 0; before = 0; item = Int (pos 0) }) here at_x in
      let value = ap (λ l. get_or l c.loop-at.at (record { element = 0; before = 0; item = Int (pos 0) })) c.deref-debt-items.ensures.value ∙ own in
      let other = c.index.ensures ∙ at_same c.args.other.now.debts.items k c.loop-at.at y c.index.result.now here at_y in (
        ap (λ (d : Debt). d.element) (sym value) ∙ c.if-debt-own.false ∙ ap (λ (d : Debt). d.element) other,
        ap (λ (d : Debt). d.item) (sym value) ∙ item_same _ _ (not-false _ (sym c.if-ne.ensures)) ∙ ap (λ (d : Debt). d.item) other,
        subst (λ (d : Debt). d.before ≤ x.before) other (subst (λ (d : Debt). c.index.result.now.before ≤ d.before) value c.if-debt-own-2.false),
      )
]

pub returns : goal.returns
returns c = (
  λ yes'. record {
    low = refl;
    gone = refl;
    early = refl;
    many = (let a = c.args.self.now.debts.ok.0 in let b = c.args.other.now.debts.ok.0 in let h = c.len.ensures in let g = c.len-2.ensures in let f = c.if-len.false in omega arith);
    debts = λ i x y at_x at_y. c.loop-at.invariant i x y
        (let l = slice_get_within c.args.self.now.debts.items i x at_x in let e = ap length c.deref-debt-items.ensures.value in let k = c.loop-at-test.false in omega arith) at_x at_y;
    emptied = omega arith;
  },
  λ least. refl,
)

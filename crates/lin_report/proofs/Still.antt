-- Questions about objects of which all is known.
use Rattle.std.proofs.Common.{◌≡◌, ◌≤◌, ◌+◌, ◌∙◌, ℕ, zero, suc, None, Some, arith, inl, inr, length, refl, subst, sym}
use Rattle.lin_events.specs.declared.items.Item.{Item}
use Rattle.lin_order.specs.Parts.{part}
use Rattle.lin_engines.specs.declared.ends.End.{End}
use Rattle.lin_chain.specs.Work.{Mark}
use Rattle.lin_answers.specs.Edits.{Present}
use Rattle.lin_answers.specs.declared.answers.Scope.TheVariants.{Object, Whole}
use Rattle.lin_session.specs.Known.{mark_of}
use Rattle.lin_session.specs.Marks.{IsAsked, IsKnown}
use Rattle.lin_session.specs.Sessions.{IsQuestion, Standing}
use Rattle.lin_session.specs.Work.{anew}
use Rattle.lin_report.specs.inner.Still.{IsAllKnown, IsStill}

-- as it is
pub still_here : (s : Standing) → s.low ≡ None → IsStill 0 s s
still_here s low = record { present = refl; low = low; scans = omega arith; marks = λ key. refl; steps = omega arith }

pub still_on : (m n : ℕ) (a b c : Standing) → IsStill m a b → IsStill n b c → IsStill (m + n) a c
still_on m n a b c first next = record {
  present = next.present ∙ first.present;
  low = next.low;
  scans = let one = first.scans in let two = next.scans in omega (arith, one, two);
  marks = λ key. next.marks key ∙ first.marks key;
  steps = let one = first.steps in let two = next.steps in omega (arith, one, two);
}

-- all is known on
pub known_on : (a b : Standing) → IsStill 0 a b → IsAllKnown a → IsAllKnown b
known_on a b still all = record {
  low = still.low;
  known = λ key asked.
      let is = all.known key (subst (λ (now : Present). IsAsked now.history Whole key) still.present asked) in
      subst (λ (now : Present). IsKnown now.history (mark_of b.marks) key) (sym still.present)
      (subst (λ (mark : Mark). (end : End) × (mark.told (length (part key a.present.history)) ≡ Some end)) (sym (still.marks key)) is);
}

-- an object is asked about
pub asked_still : (key : Item) (a b : Standing) → IsAllKnown a → IsQuestion (Object key) 0 a b → b.present ≡ a.present → IsStill 0 a b
asked_still key a b all asked present = record {
  present = present;
  low = elim asked.low [ inl same ↦ same ∙ all.low | inr none ↦ none ];
  scans = let bound = subst (λ low. b.meter.scans ≤ a.meter.scans + anew low (length a.present.history)) all.low asked.scans in omega (arith, bound);
  marks = λ k. by k (length (part k a.present.history)) refl;
  steps = let bound = asked.idle (λ k is. all.known k (tt, is.1)) in omega (arith, bound);
}
  where
    by : (k : Item) (n : ℕ) → length (part k a.present.history) ≡ n → mark_of b.marks k ≡ mark_of a.marks k
    by k zero none = asked.marks.others k (λ is. let some = is.1 in omega (arith, some, none))
    by k (suc n) some = asked.marks.known k (all.known k (tt, omega (arith, some)))

-- one more object is asked about
pub still_more : (key : Item) (a b c : Standing) → (IsAllKnown a → IsStill 0 a b) → IsQuestion (Object key) 0 b c → c.present ≡ b.present → IsAllKnown a → IsStill 0 a c
still_more key a b c so_far asked present all =
    let still = so_far all in
    still_on 0 0 a b c still (asked_still key b c (known_on a b still all) asked present)

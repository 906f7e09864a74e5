-- What a question counts, and more besides.
use Rattle.std.proofs.Common.{◌≡◌, ◌≤◌, ◌+◌, ◌*◌, ◌∷◌, ◌∙◌, [], ℕ, List, ap, arith, inr, length, refl, subst, sym}
use Rattle.std.specs.List.{sum_by}
use Rattle.std.proofs.lemmas.List.Sums.{sum_by-cons}
use Rattle.lin_events.specs.declared.events.Event.{Event}
use Rattle.lin_events.specs.declared.items.Item.{Item}
use Rattle.lin_events.specs.declared.meter.Meter.{Meter}
use Rattle.lin_order.specs.Parts.{part}
use Rattle.lin_chain.specs.Work.{Mark, for_stop}
use Rattle.lin_answers.specs.declared.answers.Answer.{Answer}
use Rattle.lin_answers.specs.declared.answers.Answer.TheVariants.{IllFormed, Yes, No, Undecided}
use Rattle.lin_answers.specs.declared.answers.Scope.{Scope}
use Rattle.lin_answers.specs.declared.answers.Scope.TheVariants.{Object, Whole}
use Rattle.lin_answers.specs.Edits.{Present}
use Rattle.lin_explain.specs.Explained.{scope_of}
use Rattle.lin_explain.specs.Work.{most_passes}
use Rattle.lin_session.specs.Known.{AreSameMarks, mark_of}
use Rattle.lin_session.specs.Sessions.{IsQuestion, Standing}
use Rattle.lin_session.specs.Work.{for_stops, keys_of}
use Rattle.lin_report.specs.Explanations.{key_of}
use Rattle.lin_report.specs.inner.Still.{IsStill, beside_passes}

-- the scope of the key of a scope is that scope
pub scope_back : (scope : Scope) → scope_of (key_of scope) ≡ scope
scope_back (Object key) = refl
scope_back Whole = refl

-- a question, and then no more than so many steps
pub question_more : (scope : Scope) (more : ℕ) (old mid : Standing) (meter : Meter) → IsQuestion scope 0 old mid → meter.steps ≤ mid.meter.steps + more → meter.scans ≡ mid.meter.scans
    → IsQuestion scope more old (record mid { meter = meter })
question_more scope more old mid meter asked few scans = record {
  low = asked.low;
  scans = let bound = asked.scans in omega (arith, bound, scans);
  marks = asked.marks;
  most = let bound = asked.most in omega (arith, bound, few);
  idle = λ nothing. let bound = asked.idle nothing in omega (arith, bound, few);
  exact = λ are many. let bound = asked.exact are many in omega (arith, bound, few);
  ill_formed = asked.ill_formed;
}

pub question_alone : (scope : Scope) (more : ℕ) (old mid : Standing) → IsQuestion scope 0 old mid → IsQuestion scope more old mid
question_alone scope more old mid asked = question_more scope more old mid mid.meter asked (omega arith) refl

-- the marks stay, so what was left stays
sums_same : (f g : Item → ℕ) (keys : List Item) → ((key : Item) → f key ≡ g key) → sum_by f keys ≡ sum_by g keys
sums_same f g [] same = refl
sums_same f g (key ∷ keys) same = let one = same key in let more = sums_same f g keys same in let a = sum_by-cons f key keys in let b = sum_by-cons g key keys in omega (arith, one, more, a, b)

stops_same : (scope : Scope) (h : List Event) (old mid new : Item → Mark) → AreSameMarks mid new → for_stops h scope old mid ≡ for_stops h scope old new
stops_same (Object key) h old mid new same = ap (λ mark. for_stop (old key) mark (length (part key h))) (sym (same key))
stops_same Whole h old mid new same =
    sums_same (λ key. for_stop (old key) (mid key) (length (part key h))) (λ key. for_stop (old key) (new key) (length (part key h))) (keys_of h)
    (λ key. ap (λ mark. for_stop (old key) mark (length (part key h))) (sym (same key)))

-- a question, and then what finds nothing anew
question_still : (scope : Scope) (more : ℕ) (old mid new : Standing) → IsQuestion scope 0 old mid → IsStill more mid new → IsQuestion scope more old new
question_still scope more old mid new asked still = record {
  low = inr still.low;
  scans = let bound = asked.scans in let few = still.scans in omega (arith, bound, few);
  marks = record {
    known = λ key is. still.marks key ∙ asked.marks.known key is;
    others = λ key is. still.marks key ∙ asked.marks.others key is;
    frontier = λ key. let least = asked.marks.frontier key in let same = ap (λ (m : Mark). m.frontier) (still.marks key) in omega (arith, least, same);
    beside = λ key. let least = asked.marks.beside key in let same = ap (λ (m : Mark). m.beside) (still.marks key) in omega (arith, least, same);
    stopped = λ key is. ap (λ (m : Mark). m.stopped) (still.marks key) ∙ asked.marks.stopped key is;
  };
  most =
      let bound = asked.most in
      let few = still.steps in
      let same = stops_same scope old.present.history (mark_of old.marks) (mark_of mid.marks) (mark_of new.marks) still.marks in
      omega (arith, bound, few, same);
  idle = λ nothing. let bound = asked.idle nothing in let few = still.steps in omega (arith, bound, few);
  exact = λ are many. let bound = asked.exact are many in let few = still.steps in omega (arith, bound, few);
  ill_formed = λ bad key. still.marks key ∙ asked.ill_formed bad key;
}

-- the passes of an answer, and those beside it
passes_few : (answer : Answer) (count before mid after : ℕ) → mid ≤ before + beside_passes answer * count → after ≤ mid + most_passes answer * count → after ≤ before + 13 * count
passes_few (IllFormed at cause) count before mid after one two = omega (arith, one, two)
passes_few (Yes order) count before mid after one two = omega (arith, one, two)
passes_few (No n) count before mid after one two = omega (arith, one, two)
passes_few (Undecided at) count before mid after one two = omega (arith, one, two)

-- what is told beside the answer takes no more than all may
beside_few : (answer : Answer) (a b : Standing) → IsStill (beside_passes answer * length a.present.history) a b → IsStill (13 * length a.present.history) a b
beside_few answer a b still = record {
  present = still.present;
  low = still.low;
  scans = still.scans;
  marks = still.marks;
  steps = passes_few answer (length a.present.history) a.meter.steps b.meter.steps b.meter.steps still.steps (omega arith);
}

-- and then an explanation of it
told_few : (answer : Answer) (a b c : Standing) → IsStill (beside_passes answer * length a.present.history) a b → c ≡ record b { meter = c.meter }
    → c.meter.steps ≤ b.meter.steps + most_passes answer * length b.present.history → c.meter.scans ≡ b.meter.scans → IsStill (13 * length a.present.history) a c
told_few answer a b c still is few scans = record {
  present = ap (λ (s : Standing). s.present) is ∙ still.present;
  low = ap (λ (s : Standing). s.low) is ∙ still.low;
  scans = let bound = still.scans in omega (arith, bound, scans);
  marks = λ key. ap (λ (s : Standing). mark_of s.marks key) is ∙ still.marks key;
  steps = passes_few answer (length a.present.history) a.meter.steps b.meter.steps c.meter.steps still.steps
      (subst (λ (now : Present). c.meter.steps ≤ b.meter.steps + most_passes answer * length now.history) still.present few);
}

-- a question, and what is told beside its answer
pub question_beside : (scope : Scope) (answer : Answer) (old mid new : Standing) → IsQuestion scope 0 old mid → mid.present ≡ old.present
    → IsStill (beside_passes answer * length mid.present.history) mid new → IsQuestion scope (13 * length old.present.history) old new
question_beside scope answer old mid new asked same still =
    subst (λ (now : Present). IsQuestion scope (13 * length now.history) old new) same (question_still scope (13 * length mid.present.history) old mid new asked (beside_few answer mid new still))

-- and an explanation of it
pub question_told : (scope : Scope) (answer : Answer) (old mid next new : Standing) → IsQuestion scope 0 old mid → mid.present ≡ old.present
    → IsStill (beside_passes answer * length mid.present.history) mid next → new ≡ record next { meter = new.meter }
    → new.meter.steps ≤ next.meter.steps + most_passes answer * length next.present.history → new.meter.scans ≡ next.meter.scans → IsQuestion scope (13 * length old.present.history) old new
question_told scope answer old mid next new asked same still is few scans =
    subst (λ (now : Present). IsQuestion scope (13 * length now.history) old new) same
    (question_still scope (13 * length mid.present.history) old mid new asked (told_few answer mid next new still is few scans))

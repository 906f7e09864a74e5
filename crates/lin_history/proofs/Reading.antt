-- A text that is read element by element.
use Rattle.std.proofs.Common.{◌≡◌, ℕ, ◌+◌, ◌-◌, ◌≤◌, Bool, List, ◌++◌, Result, Ok, Err, take, drop, length, refl, sym, ap, ◌∙◌, arith, append_assoc, add_assoc}
use Rattle.std.proofs.lemmas.List.{length-drop, take_all}
use Rattle.lin_names.specs.Names.{Begins}
use Rattle.lin_names.specs.lemmas.Begins.{agrees_before}
use Rattle.lin_history.specs.Reading.{Reading, IsReading}
use Rattle.lin_history.specs.Stream.{Gives, element}
use Rattle.lin_history.specs.Sees.{is_fault}
use Rattle.lin_history.specs.PassedMaps.{PassesOver, element as passes_element, keywords_in}
use Rattle.lin_history.specs.inner.Passing.{Gathered, passed_more}
use Rattle.lin_history.specs.inner.Reads.{behind, IsElement, IsReadTo}
use Rattle.lin_events.specs.declared.events.Event.{Event}
use Rattle.lin_history.specs.declared.follow.Read.{Read}
use Rattle.lin_history.specs.declared.follow.FollowFault.{FollowFault}
use Rattle.lin_history.specs.declared.follow.FollowFault.TheVariants as fault
use Rattle.lin_history.proofs.Streams.{gives_join, stream_join}
use Rattle.lin_history.proofs.Counting.{more_twice, over_join}

-- what is read by more names is read by those before
pub reading_before : (keyed : Bool) (old new : List (List ℕ)) (m : Reading) → Begins old new → IsReading keyed new m → IsReading keyed old m
reading_before keyed old new m begun is = (is.0, agrees_before old new m.number begun is.1)

pub behind_twice : (p q : ℕ) (o : Result (Unit {0}) FollowFault) → behind (p + q) o ≡ behind p (behind q o)
behind_twice p q (Ok u) = refl
behind_twice p q (Err (fault.Edn at c)) = ap (λ n. Err (fault.Edn n c)) (add_assoc p q at)
behind_twice p q (Err (fault.Event at c)) = ap (λ n. Err (fault.Event n c)) (add_assoc p q at)
behind_twice p q (Err (fault.Truncated at)) = ap (λ n. Err (fault.Truncated n)) (add_assoc p q at)
behind_twice p q (Err fault.OutOfMemory) = refl
behind_twice p q (Err fault.TooMuch) = refl

pub fault_behind : (p : ℕ) (o : Result (Unit {0}) FollowFault) → is_fault (behind p o) ≡ is_fault o
fault_behind p (Ok u) = refl
fault_behind p (Err (fault.Edn at c)) = refl
fault_behind p (Err (fault.Event at c)) = refl
fault_behind p (Err (fault.Truncated at)) = refl
fault_behind p (Err fault.OutOfMemory) = refl
fault_behind p (Err fault.TooMuch) = refl

-- what is read up to a place
pub record IsReadUp (k : Reading) (text : List ℕ) (at : ℕ) (old new : Gathered) : Type 0 where
  pub inside : at ≤ length text
  pub read : (es : List Event) × (new.items ≡ old.items ++ es) × Gives k text es at
  pub over : (ws : List (List ℕ)) × PassesOver text ws at × (new.passed ≡ passed_more old.passed ws)

pub put_again : (old mid new es fs : List Event) → mid ≡ old ++ es → new ≡ mid ++ fs → new ≡ old ++ (es ++ fs)
put_again old mid new es fs a b = b ∙ ap (λ l. l ++ fs) a ∙ append_assoc old es fs

pub one_more : (k : Reading) (text : List ℕ) (at used : ℕ) (old mid new : Gathered) → IsReadUp k text at old mid → IsElement k (drop at text) mid new used →
    IsReadUp k text (at + used) old new
one_more k text at used old mid new b e = record {
  inside = (let h : used ≤ length (drop at text) = e.inside in let g = length-drop at text in let i : at ≤ length text = b.inside in omega arith);
  read = (b.read.0 ++ e.events, put_again old.items mid.items new.items b.read.0 e.events b.read.1 e.put, element b.read.2 e.spelled e.told);
  over = (
    b.over.0 ++ keywords_in e.value,
    passes_element b.over.1 e.spelled,
    e.over ∙ ap (λ x. passed_more x (keywords_in e.value)) b.over.2 ∙ more_twice old.passed b.over.0 (keywords_in e.value),
  );
}

pub the_end : (k : Reading) (text : List ℕ) (p at : ℕ) (old mid new : Gathered) (r : Read) → IsReadUp k text at old mid → IsReadTo k (drop at text) (p + at) mid new r →
    IsReadTo k text p old new (record { used = at + r.used; outcome = r.outcome })
the_end k text p at old mid new r b e = record {
  events = b.read.0 ++ e.events;
  outcome = behind at e.outcome;
  put = put_again old.items mid.items new.items b.read.0 e.events b.read.1 e.put;
  inside = (let h : r.used ≤ length (drop at text) = e.inside in let g = length-drop at text in let i : at ≤ length text = b.inside in omega arith);
  is_stream = stream_join b.read.2 e.is_stream refl;
  told = e.told ∙ behind_twice p at e.outcome;
  goes_on = λ h. gives_join b.read.2 (e.goes_on (sym (fault_behind at e.outcome) ∙ h)) refl;
  over = λ h. over_join text (drop at text) old.passed mid.passed new.passed b.over.0 at r.used e.outcome b.over.1 b.over.2 (e.over (sym (fault_behind at e.outcome) ∙ h)) refl;
}

-- the text from a place on, as a slice of it
pub rest_is : (text : List ℕ) (at : ℕ) → take (length text - at) (drop at text) ≡ drop at text
rest_is text at = take_all (length text - at) (drop at text) (let e = length-drop at text in omega arith)

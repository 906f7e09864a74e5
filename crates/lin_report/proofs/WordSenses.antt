-- What is read of the words of a line, where memory may be refused.
use Rattle.std.proofs.Common.{◌≡◌, ◌≤◌, ◌⊎◌, ℕ, true, List, [], drop, length, le-ltb, Option, None, Some, Result, Ok, Err, inl, inr, ap, sym, subst, ◌∙◌}
use Rattle.std.specs.Prelude.{IsErrAnd, MatchOption, is_some, if◌then◌else◌}
use Rattle.std.proofs.lemmas.Bool.{false≢true}
use Rattle.lin_events.specs.declared.items.Item.{Item}
use Rattle.lin_history.specs.Reading.{Reading}
use Rattle.lin_names.specs.Names.{Numbering}
use Rattle.lin_texts.specs.Parts.{IsFirstWord, Part, words_from}
use Rattle.lin_texts.specs.declared.parts.Word.{Word}
use Rattle.lin_answers.specs.declared.answers.Scope.{Scope}
use Rattle.lin_answers.specs.declared.answers.Scope.TheVariants.{Object}
use Rattle.lin_report.specs.Commands.{HasKey, IsMapCommand, IsRead, IsSaid, key_in, longest_line, made_of, plain, scope_in, sense_behind, sense_of, sense_of_line, without_return}
use Rattle.lin_report.specs.MapCommands.{IsOrNoMemory, IsScope, IsSense}
use Rattle.lin_report.specs.declared.commands.Command.{Command}
use Rattle.lin_report.specs.declared.commands.CommandFault.{CommandFault}
use Rattle.lin_report.specs.declared.commands.CommandFault.TheVariants.{LineTooLong, OutOfMemory}
use Rattle.lin_report.specs.declared.senses.Sense.{Sense}
use Rattle.lin_report.specs.declared.senses.Target.{Target}
use Rattle.lin_report.specs.declared.senses.Verb.{Verb}
use Rattle.lin_report.specs.declared.senses.Sense.TheVariants as sense

abbrev read_as : (A : Type 0) → A → Result A CommandFault
read_as A x = Ok x

abbrev refused_for : (A : Type 0) → CommandFault → Result A CommandFault
refused_for A fault = Err fault

never_both : (A : Type 0) (x : A) (fault : CommandFault) → read_as A x ≡ refused_for A fault → ⊥
never_both A x fault e = cc

fault_is : (A : Type 0) (f g : CommandFault) → refused_for A f ≡ refused_for A g → f ≡ g
fault_is A f g e = cc

-- the scope of a key
pub scope_made : (wanted : Result Item CommandFault) (key : Item) → IsOrNoMemory wanted (Ok key) → IsScope (made_of Object wanted) (Ok (Object key))
scope_made wanted key (inl same) = inl (ap (made_of Object) same)
scope_made wanted key (inr none) = absurd (never_both Item key _ none.2)

pub scope_refused : (wanted : Result Item CommandFault) (fault : CommandFault) (r : Result Scope CommandFault) → IsErrAnd r (λ f. f ≡ fault)
    → IsOrNoMemory wanted (Err fault) → IsScope (made_of Object wanted) r
scope_refused wanted fault (Ok x) is read = absurd is
scope_refused wanted fault (Err f) is (inl same) = inl (ap (refused_for Scope) is ∙ ap (made_of Object) same)
scope_refused wanted fault (Err f) is (inr none) = inr (none.0, ap (made_of Object) none.1, ap (refused_for Scope) (is ∙ fault_is Item fault _ none.2))

-- a command of what was read
pub command_made : {A : Type 0} (make : A → Command) (wanted : Result A CommandFault) (x : A) → IsOrNoMemory wanted (Ok x) → IsSense (plain make wanted) (Ok (sense.Plain (make x)))
command_made make wanted x (inl same) = inl (ap (plain make) same)
command_made {A = A} make wanted x (inr none) = absurd (never_both A x _ none.2)

pub command_refused : {A : Type 0} (make : A → Command) → ((x : A) → HasKey (make x)) → (wanted : Result A CommandFault) (fault : CommandFault) (r : Result Sense CommandFault)
    → IsErrAnd r (λ f. f ≡ fault) → IsOrNoMemory wanted (Err fault) → IsSense (plain make wanted) r
command_refused make has wanted fault (Ok x) is read = absurd is
command_refused make has wanted fault (Err f) is (inl same) = inl (ap (refused_for Sense) is ∙ ap (plain make) same)
command_refused {A = A} make has wanted fault (Err f) is (inr none) =
    inr (sense.Plain (make none.0), ap (plain make) none.1, has none.0, ap (refused_for Sense) (is ∙ fault_is A fault _ none.2))

-- a question of a scope
pub question_made : (make : Scope → Command) (wanted : Result Scope CommandFault) (x : Scope) → IsScope wanted (Ok x) → IsSense (plain make wanted) (Ok (sense.Plain (make x)))
question_made make wanted x (inl same) = inl (ap (plain make) same)
question_made make wanted x (inr none) = absurd (never_both Scope x _ none.2)

pub question_refused : (make : Scope → Command) → ((key : Item) → HasKey (make (Object key))) → (wanted : Result Scope CommandFault) (fault : CommandFault) (r : Result Sense CommandFault)
    → IsErrAnd r (λ f. f ≡ fault) → IsScope wanted (Err fault) → IsSense (plain make wanted) r
question_refused make has wanted fault (Ok x) is read = absurd is
question_refused make has wanted fault (Err f) is (inl same) = inl (ap (refused_for Sense) is ∙ ap (plain make) same)
question_refused make has wanted fault (Err f) is (inr none) =
    inr (sense.Plain (make (Object none.0)), ap (plain make) none.1, has none.0, ap (refused_for Sense) (is ∙ fault_is Scope fault _ none.2))

-- a word stands behind a place, so that a question is about an object
pub scope_is : (number : Numbering) (text : List ℕ) (from : ℕ) (found : Option Word) → is_some found ≡ true
    → MatchOption found (words_from from (drop from text) ≡ []) (λ word. IsFirstWord text from (record { at = word.at; text = word.text.now }))
    → scope_in number (words_from from (drop from text)) ≡ made_of Object (key_in number (words_from from (drop from text)))
scope_is number text from None is first = absurd (false≢true is)
scope_is number text from (Some word) is first =
    ap (scope_in number) first.0 ∙ sym (ap (λ words. made_of Object (key_in number words)) first.0)

-- what the words say, by the verb that they begin with and the command that they make
pub by_verb : (number : Numbering) (end : ℕ) (words : List Part) (verb : Verb) (command : Command) (is : Verb) (made : Command) → verb ≡ is → command ≡ made
    → IsSense (sense_behind number is end words) (Ok (sense.Plain made)) → IsSense (sense_behind number verb end words) (Ok (sense.Plain command))
by_verb number end words verb command is made same alike says =
    subst (λ v. IsSense (sense_behind number v end words) (Ok (sense.Plain command))) (sym same)
    (subst (λ c. IsSense (sense_behind number is end words) (Ok (sense.Plain c))) (sym alike) says)

-- where memory wasn't refused, what was read is what is wanted
read_sense : (wanted : Result Sense CommandFault) (s : Sense) → IsSense wanted (Ok s) → wanted ≡ Ok s
read_sense wanted s (inl same) = sym same
read_sense wanted s (inr none) = absurd (never_both Sense s _ none.3)

sense_in : (number : Numbering) (line : List ℕ) → length line ≤ longest_line → sense_of_line number line ≡ sense_of number (words_from 0 (without_return line))
sense_in number line short = ap (λ b. if b then Err LineTooLong else sense_of number (words_from 0 (without_return line))) (le-ltb longest_line (length line) short)

-- what is read of a map in a line
pub map_read : (m : Reading) (line : List ℕ) (t : Target) (at : ℕ) (answer : Result (Option Command) CommandFault) → length line ≤ longest_line
    → IsSense (sense_of m.number (words_from 0 (without_return line))) (Ok (sense.Map t at))
    → IsMapCommand m t at (drop at (without_return line)) answer ⊎ (answer ≡ Err OutOfMemory) → IsRead m line answer
map_read m line t at answer short says (inl map) =
    let said = sense_in m.number line short ∙ read_sense (sense_of m.number (words_from 0 (without_return line))) (sense.Map t at) says in
    inl (subst (λ s. IsSaid m (without_return line) s answer) (sym said) map)
map_read m line t at answer short says (inr none) =
    inr (sense.Map t at, sense_in m.number line short ∙ read_sense (sense_of m.number (words_from 0 (without_return line))) (sense.Map t at) says, tt, none)

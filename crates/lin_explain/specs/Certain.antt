-- What is certain where it isn't known how events end, and the lines that say it.
use Rattle.std.specs.Prelude.{◌≡◌, ℕ, List, [], ◌++◌, Option, Some, None, codes}
use Rattle.lin_events.specs.declared.items.Item.{Item}
use Rattle.lin_events.specs.WellFormed.{IsWellFormed}
use Rattle.lin_objects.specs.declared.kinds.Kind.{Kind}
use Rattle.lin_objects.specs.Kinds.{functions_of}
use Rattle.lin_order.specs.Linearizable.{IsLinearizable}
use Rattle.lin_order.specs.Parts.{part}
use Rattle.lin_certificates.specs.Certificates.{Certifies}
use Rattle.lin_certificates.specs.declared.certificate.Certificate.{Certificate}
use Rattle.lin_tables.specs.WindowTables.{Told}
use Rattle.lin_texts.specs.Items.{item_text}
use Rattle.lin_answers.specs.Answers.{IsVerdict, kinds_in}
use Rattle.lin_answers.specs.Edits.{Present}
use Rattle.lin_answers.specs.declared.answers.Scope.TheVariants.{Object}
use Rattle.lin_answers.specs.declared.answers.Verdict.TheVariants.{No}
use Rattle.lin_explain.specs.Whys.{IsWhy}
use Rattle.lin_explain.specs.declared.parts.Why.{Why}

-- an object's no means that the whole has no legal order, whatever is found of other objects
abbrev pub NoesAreCertain : Type 0
NoesAreCertain = (now : Present) (key : Item) (n : ℕ) → IsVerdict now (Object key) (No n) → IsLinearizable (kinds_in now) now.history → ⊥

-- so a whole that is undecided has no legal order where an object is a no
abbrev pub certain_line : List (List ℕ) → Item → List ℕ
certain_line names key = codes "not linearizable all the same: object " ++ item_text names key ++ codes " has no legal order\n"

-- so does a certificate that holds of all events of an object
abbrev pub CertificatesAreCertain : Type 0
CertificatesAreCertain = (now : Present) (key : Item) (c : Certificate) → IsWellFormed (functions_of (kinds_in now)) now.history
    → Certifies (part key now.history) (kinds_in now key) c → IsLinearizable (kinds_in now) now.history → ⊥

-- of an object that is undecided: the lines of a certificate that holds of all its events, behind one that says that it has no legal order; or none
abbrev pub IsCertainText : Kind → Told → List ℕ → Option Why → Type 0
IsCertainText kind whole lines None = lines ≡ []
IsCertainText kind whole lines (Some why) = (reason : List ℕ) × (named : List ℕ) × IsWhy kind whole reason named why
    × (lines ≡ codes "not linearizable all the same:\n" ++ reason)

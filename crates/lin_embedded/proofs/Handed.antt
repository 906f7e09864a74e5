-- What is handed back is right where the text is.
use Rattle.std.proofs.Common.{ℕ, List, sym, subst}
use Rattle.lin_texts.specs.declared.status.Status.{Status}
use Rattle.lin_embedded.specs.Calls.{HandsBack, HandsExplained, IsJust, Telling}
use Rattle.lin_embedded.specs.declared.handing.CallEnd.{CallEnd}
use Rattle.lin_embedded.specs.declared.handing.CallEnd.TheVariants.{Told, BadOptions, NoKey, OutOfMemory, TooLittleRoom, Done, NoSession}

module _ (is_right : Telling) (found : List ℕ) (ends : Status) (right : is_right found ends) where
  as_found : (text : List ℕ) (status : Status) → IsJust found ends text status → is_right text status
  as_found text status just = subst (λ t. is_right t status) (sym just.0) (subst (λ s. is_right found s) (sym just.1) right)

  pub hands : (before after : List ℕ) (was needed : ℕ) (ended : CallEnd) → HandsBack (IsJust found ends) before after was needed ended → HandsBack is_right before after was needed ended
  hands before after was needed (Told status) (text, just, fits, stands, counted) = (text, as_found text status just, fits, stands, counted)
  hands before after was needed TooLittleRoom (text, status, just, long, stands, counted) = (text, status, as_found text status just, long, stands, counted)
  hands before after was needed BadOptions it = it
  hands before after was needed OutOfMemory it = it
  hands before after was needed Done it = it
  hands before after was needed NoSession it = it
  hands before after was needed NoKey it = it

  -- the same of an explanation, whatever is absent
  pub hands_explained : (is_absent : Type 0) (before after : List ℕ) (was needed : ℕ) (ended : CallEnd) → HandsBack (IsJust found ends) before after was needed ended
      → HandsExplained is_right is_absent before after was needed ended
  hands_explained is_absent before after was needed (Told status) it = hands before after was needed (Told status) it
  hands_explained is_absent before after was needed TooLittleRoom it = hands before after was needed TooLittleRoom it
  hands_explained is_absent before after was needed BadOptions it = it
  hands_explained is_absent before after was needed OutOfMemory it = it
  hands_explained is_absent before after was needed Done it = absurd it
  hands_explained is_absent before after was needed NoSession it = absurd it
  hands_explained is_absent before after was needed NoKey it = absurd it

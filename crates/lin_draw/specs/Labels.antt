-- What stands above the bar of an operation, and what is told to whoever points at it or at its dot.
use Rattle.std.specs.Prelude.{◌≡◌, ℕ, List, [], ◌∷◌, ◌++◌, Option, Some, None, codes, decimal, length, nat_le, if◌then◌else◌}
use Rattle.lin_events.specs.declared.calls.Call.{Call}
use Rattle.lin_events.specs.declared.calls.Reply.{Reply}
use Rattle.lin_events.specs.declared.calls.Reply.TheVariants.{Done, Value, Members}
use Rattle.std.specs.Global.{Vec}
use Rattle.lin_tables.specs.Operations.{call_worded, operation_worded}
use Rattle.lin_tables.specs.Values.{reply_worded}
use Rattle.lin_tables.specs.declared.spellings.Wording.TheVariants.{Whole}

-- an arrow to the right, between spaces
abbrev pub arrow : List ℕ
arrow = 32 ∷ 226 ∷ 134 ∷ 146 ∷ 32 ∷ []

-- the one begins the other, which may have more
abbrev pub IsBegunBy : List ℕ → List ℕ → Type 0
IsBegunBy begun text = (more : List ℕ) × (text ≡ begun ++ more)

module _ (names : List (List ℕ)) where
  -- of more than four members, how many they are
  abbrev pub short_reply : Reply → List ℕ
  short_reply Done = reply_worded Whole names Done
  short_reply (Value v) = reply_worded Whole names (Value v)
  short_reply (Members xs) = if nat_le (length xs) 4 then reply_worded Whole names (Members xs) else decimal (length xs) ++ codes " members"

  -- a reply that says more than that the call was done, behind an arrow
  abbrev pub reply_label : Option Reply → List ℕ
  reply_label None = []
  reply_label (Some Done) = []
  reply_label (Some (Value v)) = arrow ++ short_reply (Value v)
  reply_label (Some (Members xs)) = arrow ++ short_reply (Members xs)

  -- the call, and its reply if it has one
  abbrev pub label_text : Call → Option Reply → List ℕ
  label_text call reply = call_worded Whole names call ++ reply_label reply

  -- the operation with its reply, if it has one; no value is cut
  abbrev pub whole_text : ℕ → Call → Option Reply → List ℕ
  whole_text process call reply = operation_worded Whole names process call reply

  -- behind it stands where it was called and how it ended
  abbrev pub IsTitle : ℕ → Call → Option Reply → Vec ℕ → Type 0
  IsTitle process call reply title = IsBegunBy (whole_text process call reply) title.items

  -- the operation by its number in an order
  abbrev pub place_text : ℕ → ℕ → Call → Reply → List ℕ
  place_text number process call reply = (decimal number ++ codes ": ") ++ whole_text process call (Some reply)

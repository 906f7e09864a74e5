-- One verdict is right.
use Rattle.std.proofs.Common.{◌≡◌, ◌<◌, ◌≤◌, ℕ, Bool, List, length, Result, Ok, Err, inl, inr, refl, sym, ap, subst, ◌∙◌, arith}
use Rattle.lin_events.specs.declared.events.Event.{Event}
use Rattle.lin_history.specs.declared.follow.FollowFault.{FollowFault}
use Rattle.lin_history.specs.declared.follow.FollowFault.TheVariants as fault
use Rattle.lin_events.specs.declared.shapes.Shape.TheVariants.{Good, Bad}
use Rattle.lin_names.specs.Names.{AgreesWith, Numbering}
use Rattle.lin_history.specs.Reading.{Reading}
use Rattle.lin_history.specs.Stream.{IsStreamBy, IsStream, StreamsAreUnique}
use Rattle.lin_events.specs.WellFormedLaws.{ShapesAreUnique}
use Rattle.lin_objects.specs.declared.kinds.Kind.{Kind}
use Rattle.lin_objects.specs.Kinds.{functions_of}
use Rattle.lin_order.specs.declared.placed.Placed.{Placed}
use Rattle.lin_order.specs.Linearizable.{IsLegalOrder}
use Rattle.lin_formats.specs.Inputs.{limit, IsFaulty, AreRefused, IsTooMany, IsWhole}
use Rattle.lin_texts.specs.Orders.{order_of, order_said, order_written, IsOrderBy}
use Rattle.lin_formats.specs.Verdicts.{all_of, IsJudged, IsRightBy}
use Rattle.lin_formats.specs.declared.verdicts.Refusal.{Refusal}
use Rattle.lin_formats.specs.declared.verdicts.Refusal.TheVariants.{Edn, Event as OfEvent, Truncated, Full, BadPair, Few}
use Rattle.lin_formats.specs.declared.verdicts.OrderVerdict.{OrderVerdict}
use Rattle.lin_formats.specs.declared.verdicts.OrderVerdict.TheVariants.{Yes, No, IllFormed, Refused}
use Rattle.lin_texts.specs.declared.settings.Settings.{Settings}

-- an `Ok` is no `Err`
ok_no_err : {A B : Type 0} (a : A) (b : B) → Ok a ≡ Err b → ⊥
ok_no_err a b e = cc

one_ok : {A B : Type 0} (r : Result A B) (a b : A) → r ≡ Ok a → r ≡ Ok b → a ≡ b
one_ok r a b e f = cc

one_err : {A B : Type 0} (r : Result A B) (a b : B) → r ≡ Err a → r ≡ Err b → a ≡ b
one_err r a b e f = cc

-- how a stream ends by a fault
abbrev the_end : FollowFault → Result (Unit {0}) FollowFault
the_end fault = Err fault

module _ (streams : StreamsAreUnique) (names : List (List ℕ)) (numbers : (number : Numbering) × AgreesWith names number) (keyed : Bool) (text : List ℕ) where
  abbrev reading : Reading
  reading = record { keyed = keyed; number = numbers.0 }

  -- a stream by names is one by a numbering that agrees with them
  stream : (events : List Event) (outcome : Result (Unit {0}) FollowFault) → IsStreamBy keyed names text events outcome → IsStream reading text events outcome
  stream events outcome x = x reading (refl, numbers.1)

  -- a text ends by one fault
  one_fault : (a b : FollowFault) → IsFaulty keyed names text a → IsFaulty keyed names text b → a ≡ b
  one_fault a b x y =
      let same : the_end a ≡ the_end b = (streams reading text x.0 y.0 (Err a) (Err b) (stream x.0 (Err a) x.1) (stream y.0 (Err b) y.1)).1 in
      one_err (the_end b) a b (sym same) refl

  -- and not by one and with too many events
  not_too_many : (a : FollowFault) → IsFaulty keyed names text a → IsTooMany keyed names text → ⊥
  not_too_many a x y =
      let same = ap length (streams reading text x.0 y.0 (Err a) y.1 (stream x.0 (Err a) x.1) (stream y.0 y.1 y.2)).0 in
      let few : length x.0 ≤ limit = x.2 in
      let many : limit < length y.0 = y.3 in
      omega arith

  one_refusal : (r s : Refusal) → AreRefused keyed names text r → AreRefused keyed names text s → r ≡ s
  one_refusal (Edn at cause) (Edn place other) x y = let e = one_fault (fault.Edn at cause) (fault.Edn place other) x y in cc
  one_refusal (Edn at cause) (OfEvent place other) x y = let e = one_fault (fault.Edn at cause) (fault.Event place other) x y in cc
  one_refusal (Edn at cause) (Truncated place) x y = let e = one_fault (fault.Edn at cause) (fault.Truncated place) x y in cc
  one_refusal (Edn at cause) Full x y = absurd (not_too_many (fault.Edn at cause) x y)
  one_refusal (OfEvent at cause) (Edn place other) x y = let e = one_fault (fault.Event at cause) (fault.Edn place other) x y in cc
  one_refusal (OfEvent at cause) (OfEvent place other) x y = let e = one_fault (fault.Event at cause) (fault.Event place other) x y in cc
  one_refusal (OfEvent at cause) (Truncated place) x y = let e = one_fault (fault.Event at cause) (fault.Truncated place) x y in cc
  one_refusal (OfEvent at cause) Full x y = absurd (not_too_many (fault.Event at cause) x y)
  one_refusal (Truncated at) (Edn place other) x y = let e = one_fault (fault.Truncated at) (fault.Edn place other) x y in cc
  one_refusal (Truncated at) (OfEvent place other) x y = let e = one_fault (fault.Truncated at) (fault.Event place other) x y in cc
  one_refusal (Truncated at) (Truncated place) x y = let e = one_fault (fault.Truncated at) (fault.Truncated place) x y in cc
  one_refusal (Truncated at) Full x y = absurd (not_too_many (fault.Truncated at) x y)
  one_refusal Full (Edn place other) x y = absurd (not_too_many (fault.Edn place other) y x)
  one_refusal Full (OfEvent place other) x y = absurd (not_too_many (fault.Event place other) y x)
  one_refusal Full (Truncated place) x y = absurd (not_too_many (fault.Truncated place) y x)
  one_refusal Full Full x y = refl
  one_refusal (Edn at cause) (BadPair _) x y = elim y [ ]
  one_refusal (OfEvent at cause) (BadPair _) x y = elim y [ ]
  one_refusal (Truncated at) (BadPair _) x y = elim y [ ]
  one_refusal Full (BadPair _) x y = elim y [ ]
  one_refusal (BadPair _) s x y = elim x [ ]
  one_refusal (Edn at cause) (Few _ _) x y = elim y [ ]
  one_refusal (OfEvent at cause) (Few _ _) x y = elim y [ ]
  one_refusal (Truncated at) (Few _ _) x y = elim y [ ]
  one_refusal Full (Few _ _) x y = elim y [ ]
  one_refusal (Few _ _) s x y = elim x [ ]

  -- a whole history is not refused
  never_both : (events : List Event) (r : Refusal) → IsWhole keyed names text events → AreRefused keyed names text r → ⊥
  never_both events (Edn at cause) x y = ok_no_err tt (fault.Edn at cause) (streams reading text events y.0 (Ok tt) (Err (fault.Edn at cause)) (stream events (Ok tt) x.0) (stream y.0 (Err (fault.Edn at cause)) y.1)).1
  never_both events (OfEvent at cause) x y = ok_no_err tt (fault.Event at cause) (streams reading text events y.0 (Ok tt) (Err (fault.Event at cause)) (stream events (Ok tt) x.0) (stream y.0 (Err (fault.Event at cause)) y.1)).1
  never_both events (Truncated at) x y = ok_no_err tt (fault.Truncated at) (streams reading text events y.0 (Ok tt) (Err (fault.Truncated at)) (stream events (Ok tt) x.0) (stream y.0 (Err (fault.Truncated at)) y.1)).1
  never_both events Full x y =
      let same = ap length (streams reading text events y.0 (Ok tt) y.1 (stream events (Ok tt) x.0) (stream y.0 y.1 y.2)).0 in
      let few : length events ≤ limit = x.1 in
      let many : limit < length y.0 = y.3 in
      omega arith
  never_both events (BadPair at) x y = elim y [ ]
  never_both events (Few _ _) x y = elim y [ ]

module _ (shapes : ShapesAreUnique) (names : List (List ℕ)) (numbers : (number : Numbering) × AgreesWith names number) (kind : Kind) (events : List Event)
    (text : List ℕ) where
  one_order : (a b : List Placed) → IsOrderBy names text a → IsOrderBy names text b → a ≡ b
  one_order a b x y = one_ok (order_of numbers.0 text) a b (x numbers.0 numbers.1) (y numbers.0 numbers.1)

  -- an order isn't refused
  no_bad_pair : (a : List Placed) (at : ℕ) → IsOrderBy names text a → order_written text ≡ Err at → ⊥
  no_bad_pair a at x y = ok_no_err a at (sym (x numbers.0 numbers.1) ∙ ap (order_said numbers.0) y)

  -- one judgement is right
  one_judgement : (v w : OrderVerdict) → IsJudged names kind events text v → IsJudged names kind events text w → v ≡ w
  one_judgement Yes Yes x y = refl
  one_judgement Yes No x y = absurd (y.3 (subst (IsLegalOrder (all_of kind) events) (one_order x.0 y.0 x.1 y.1) x.3))
  one_judgement No Yes x y = absurd (x.3 (subst (IsLegalOrder (all_of kind) events) (one_order y.0 x.0 y.1 x.1) y.3))
  one_judgement No No x y = refl
  one_judgement Yes (IllFormed at cause) x y = let e = shapes (functions_of (all_of kind)) events Good (Bad at cause) x.2 y.2 in cc
  one_judgement No (IllFormed at cause) x y = let e = shapes (functions_of (all_of kind)) events Good (Bad at cause) x.2 y.2 in cc
  one_judgement (IllFormed at cause) Yes x y = let e = shapes (functions_of (all_of kind)) events Good (Bad at cause) y.2 x.2 in cc
  one_judgement (IllFormed at cause) No x y = let e = shapes (functions_of (all_of kind)) events Good (Bad at cause) y.2 x.2 in cc
  one_judgement (IllFormed at cause) (IllFormed place other) x y = let e = shapes (functions_of (all_of kind)) events (Bad at cause) (Bad place other) x.2 y.2 in cc
  one_judgement (Refused (BadPair at)) (Refused (BadPair place)) x y = let e = one_err (order_written text) at place x y in cc
  one_judgement (Refused (BadPair at)) Yes x y = absurd (no_bad_pair y.0 at y.1 x)
  one_judgement (Refused (BadPair at)) No x y = absurd (no_bad_pair y.0 at y.1 x)
  one_judgement (Refused (BadPair at)) (IllFormed place other) x y = absurd (no_bad_pair y.0 at y.1 x)
  one_judgement Yes (Refused (BadPair at)) x y = absurd (no_bad_pair x.0 at x.1 y)
  one_judgement No (Refused (BadPair at)) x y = absurd (no_bad_pair x.0 at x.1 y)
  one_judgement (IllFormed place other) (Refused (BadPair at)) x y = absurd (no_bad_pair x.0 at x.1 y)
  one_judgement Yes (Refused (Edn _ _)) x y = elim y [ ]
  one_judgement Yes (Refused (OfEvent _ _)) x y = elim y [ ]
  one_judgement Yes (Refused (Truncated _)) x y = elim y [ ]
  one_judgement Yes (Refused Full) x y = elim y [ ]
  one_judgement Yes (Refused (Few _ _)) x y = elim y [ ]
  one_judgement No (Refused (Edn _ _)) x y = elim y [ ]
  one_judgement No (Refused (OfEvent _ _)) x y = elim y [ ]
  one_judgement No (Refused (Truncated _)) x y = elim y [ ]
  one_judgement No (Refused Full) x y = elim y [ ]
  one_judgement No (Refused (Few _ _)) x y = elim y [ ]
  one_judgement (IllFormed place other) (Refused (Edn _ _)) x y = elim y [ ]
  one_judgement (IllFormed place other) (Refused (OfEvent _ _)) x y = elim y [ ]
  one_judgement (IllFormed place other) (Refused (Truncated _)) x y = elim y [ ]
  one_judgement (IllFormed place other) (Refused Full) x y = elim y [ ]
  one_judgement (IllFormed place other) (Refused (Few _ _)) x y = elim y [ ]
  one_judgement (Refused (Edn _ _)) w x y = elim x [ ]
  one_judgement (Refused (OfEvent _ _)) w x y = elim x [ ]
  one_judgement (Refused (Truncated _)) w x y = elim x [ ]
  one_judgement (Refused Full) w x y = elim x [ ]
  one_judgement (Refused (Few _ _)) w x y = elim x [ ]
  one_judgement (Refused (BadPair at)) (Refused (Edn _ _)) x y = elim y [ ]
  one_judgement (Refused (BadPair at)) (Refused (OfEvent _ _)) x y = elim y [ ]
  one_judgement (Refused (BadPair at)) (Refused (Truncated _)) x y = elim y [ ]
  one_judgement (Refused (BadPair at)) (Refused Full) x y = elim y [ ]
  one_judgement (Refused (BadPair at)) (Refused (Few _ _)) x y = elim y [ ]

-- one verdict is right
pub one_verdict : StreamsAreUnique → ShapesAreUnique → (names : List (List ℕ)) → (number : Numbering) × AgreesWith names number
    → (settings : Settings) (bytes order : List ℕ) (v w : OrderVerdict)
    → IsRightBy names settings bytes order v → IsRightBy names settings bytes order w → v ≡ w
one_verdict streams shapes names numbers settings bytes order v w (inl x) (inl y) =
    x.1 ∙ ap Refused (one_refusal streams names numbers settings.keyed bytes x.0 y.0 x.2 y.2) ∙ sym y.1
one_verdict streams shapes names numbers settings bytes order v w (inl x) (inr y) = absurd (never_both streams names numbers settings.keyed bytes y.0 x.0 y.1 x.2)
one_verdict streams shapes names numbers settings bytes order v w (inr x) (inl y) = absurd (never_both streams names numbers settings.keyed bytes x.0 y.0 x.1 y.2)
one_verdict streams shapes names numbers settings bytes order v w (inr x) (inr y) =
    let reading : Reading = record { keyed = settings.keyed; number = numbers.0 } in
    let same : y.0 ≡ x.0 = (streams reading bytes y.0 x.0 (Ok tt) (Ok tt) (y.1.0 reading (refl, numbers.1)) (x.1.0 reading (refl, numbers.1))).0 in
    one_judgement shapes names numbers settings.kind x.0 order v w x.2 (subst (λ e. IsJudged names settings.kind e order w) same y.2)

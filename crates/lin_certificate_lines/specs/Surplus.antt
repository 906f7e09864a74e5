-- How a queue is told that more items were put into than can have been taken out.
use Rattle.std.specs.Prelude.{◌≡◌, ℕ, List, [], ◌∷◌, ◌++◌, codes, decimal, if◌then◌else◌, length, nat_eq, reverse}
use Rattle.lin_events.specs.declared.items.Item.{Item}
use Rattle.lin_events.specs.declared.events.Event.{Event}
use Rattle.lin_tables.specs.Values.{items_text as listed_text, short_item_text}
use Rattle.lin_certificates.specs.Words.{MayTakeAhead}
use Rattle.lin_certificates.specs.Certificates.{CanAddBelow, PutsBefore, TookBefore}
use Rattle.lin_certificate_lines.specs.Groups.{IsListing}
use Rattle.lin_certificate_lines.specs.Series.{facts_text, firsts, times_text}
use Rattle.lin_certificate_lines.specs.Telling.{called_text, returned_text}
use Rattle.lin_certificate_lines.specs.declared.told.ObjectEvents.{ObjectEvents}
use Rattle.lin_certificate_lines.specs.declared.told.Verb.TheVariants.{Returned, Called}

-- all enqueues that are before the place, and all dequeues that may have taken something out ahead of the one, each the last called first
pub record IsSurplus (h : List Event) (place dequeue : ℕ) (puts takes : List ℕ) : Type 0 where
  pub all_puts : IsListing (PutsBefore h place) (reverse puts)
  pub all_takes : IsListing (MayTakeAhead h dequeue) (reverse takes)

-- the last of each are named
abbrev pub named_surplus : List ℕ → List ℕ → List ℕ
named_surplus puts takes = firsts puts ++ firsts takes

abbrev pub items_text : ℕ → List ℕ
items_text count = decimal count ++ (if nat_eq count 1 then codes " item was" else codes " items were")

abbrev pub surplus_why : ObjectEvents → ℕ → List ℕ → List ℕ → List ℕ
surplus_why told place puts takes = codes "why: " ++ items_text (length puts) ++ codes " put in before " ++ called_text told place
    ++ codes ", and at most " ++ decimal (length takes) ++ codes " can have been taken out before "

abbrev pub surplus_text : ObjectEvents → List ℕ → List ℕ → List ℕ
surplus_text told puts takes = facts_text told Returned puts ++ facts_text told Called takes

-- the dequeue found nothing
abbrev pub remaining_text : ObjectEvents → ℕ → List ℕ → List ℕ → List ℕ
remaining_text told dequeue puts takes = surplus_why told dequeue puts takes ++ codes "it returned\n" ++ surplus_text told puts takes

-- the dequeue found nothing, though some of these items remained
abbrev pub surplus_line : ObjectEvents → ℕ → List Item → List ℕ
surplus_line told dequeue ns = codes "why: of " ++ listed_text told.names.now ns ++ codes " more were put in before " ++ called_text told dequeue
    ++ codes " than can have been taken out before it returned\n"

-- how often the item was put in earlier, and taken out, if it was
abbrev pub earlier_line : ObjectEvents → ℕ → Item → List ℕ → List ℕ → List ℕ
earlier_line told dequeue n early outs = codes "  " ++ short_item_text told.names.now n ++ codes " was put in at most " ++ times_text (length early)
    ++ codes " before that, and taken out " ++ times_text (length outs) ++ codes " before " ++ called_text told dequeue ++ codes "\n"

abbrev pub earlier_text : ObjectEvents → ℕ → Item → List ℕ → List ℕ → List ℕ
earlier_text told dequeue n early outs = if nat_eq (length early) 0 then [] else earlier_line told dequeue n early outs

-- the dequeue took the item out
abbrev pub preceded_why : ObjectEvents → ℕ → ℕ → Item → List ℕ → List ℕ → List ℕ
preceded_why told later dequeue n puts takes = surplus_why told later puts takes ++ short_item_text told.names.now n ++ codes " was: " ++ returned_text told dequeue ++ codes "\n"

abbrev pub preceded_text : ObjectEvents → ℕ → ℕ → Item → List ℕ → List ℕ → List ℕ → List ℕ → List ℕ
preceded_text told later dequeue n puts takes early outs = preceded_why told later dequeue n puts takes ++ earlier_text told dequeue n early outs ++ surplus_text told puts takes

-- the lines tell of a dequeue that found nothing
pub record IsRemainingTold (told : ObjectEvents) (dequeue : ℕ) (lines operations : List ℕ) : Type 0 where
  pub puts : List ℕ
  pub takes : List ℕ
  pub surplus : IsSurplus told.events.now dequeue dequeue puts takes
  pub put : lines ≡ remaining_text told dequeue puts takes
  pub named : operations ≡ dequeue ∷ named_surplus puts takes

-- the lines tell of a dequeue that took an item out, ahead of which too many were put in
pub record IsPrecededTold (told : ObjectEvents) (later dequeue : ℕ) (n : Item) (lines operations : List ℕ) : Type 0 where
  pub puts : List ℕ
  pub takes : List ℕ
  pub early : List ℕ
  pub outs : List ℕ
  pub surplus : IsSurplus told.events.now later dequeue puts takes
  pub all_early : IsListing (CanAddBelow told.events.now n later) early
  pub all_outs : IsListing (TookBefore told.events.now n dequeue) outs
  pub put : lines ≡ preceded_text told later dequeue n puts takes early outs
  pub named : operations ≡ later ∷ dequeue ∷ named_surplus puts takes

-- How several operations are told: the first of them, and how many more there are.
use Rattle.std.specs.Prelude.{ℕ, List, [], ◌++◌, ◌-◌, codes, decimal, if◌then◌else◌, length, nat_eq, take}
use Rattle.std.specs.List.{flat_map, join_by}
use Rattle.lin_certificate_lines.specs.Telling.{did_text}
use Rattle.lin_certificate_lines.specs.declared.told.ObjectEvents.{ObjectEvents}
use Rattle.lin_certificate_lines.specs.declared.told.Verb.{Verb}
use Rattle.lin_certificate_lines.specs.declared.told.Verb.TheVariants.{Returned, Called, Failed}

-- three are told one by one
abbrev pub firsts : List ℕ → List ℕ
firsts list = take 3 list

abbrev pub more_text : ℕ → List ℕ
more_text more = if nat_eq more 0 then [] else codes ", and " ++ decimal more ++ codes " more"

abbrev pub times_text : ℕ → List ℕ
times_text count = decimal count ++ (if nat_eq count 1 then codes " time" else codes " times")

-- a line for one operation
abbrev pub fact_text : ObjectEvents → Verb → ℕ → List ℕ
fact_text told verb at = codes "  " ++ did_text told verb at ++ codes "\n"

-- a line for all of them, if there is one
abbrev pub facts_text : ObjectEvents → Verb → List ℕ → List ℕ
facts_text told verb list = if nat_eq (length list) 0 then []
    else codes "  " ++ join_by (did_text told verb) (codes ", ") (firsts list) ++ more_text (length list - 3) ++ codes "\n"

-- those that are known to be done, those that count on the other side, and those that failed there
abbrev pub sides_text : ObjectEvents → List ℕ → List ℕ → List ℕ → List ℕ
sides_text told done may failed = facts_text told Returned done ++ facts_text told Called may ++ facts_text told Failed failed

-- what a fail claims, for who recorded one of a call that may have taken effect
abbrev pub fail_hint : List ℕ
fail_hint = codes "  a call that may have taken effect, as one that timed out, is recorded as :info, not :fail\n"

-- what stands behind those that failed; the other text where none did
abbrev pub behind_failed : List ℕ → List ℕ → List ℕ
behind_failed none failed = if nat_eq (length failed) 0 then none else fail_hint

-- a line for each of those that failed, and what a fail claims, or that there is none
abbrev pub failures_text : ObjectEvents → List ℕ → List ℕ → List ℕ
failures_text told none failed = flat_map (fact_text told Failed) (firsts failed) ++ behind_failed none failed

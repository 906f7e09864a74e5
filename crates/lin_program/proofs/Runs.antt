-- Reports one behind the other, and devices within counters.
use Rattle.std.proofs.Common.{◌≡◌, ◌∙◌, Bool, ◌<◌, ◌≤◌, ◌+◌, ◌++◌, ◌∷◌, [], ℕ, List, Bor, Option, Some, Result, Ok, Err, ◌⊎◌, inl, inr, length, map, take, drop, get_or, suc, refl, sym, ap, subst, append-nil, arith}
use Rattle.std.specs.Result.{IsErrAnd}
use Rattle.std.proofs.Math.Seq.{split_at}
use Rattle.std.proofs.lemmas.List.{map-append, take_all, take_more}
use Rattle.std.proofs.lemmas.List.Sums.{fold_push}
use Rattle.std.proofs.lemmas.List.Elements.{All-append, All-cons, All-nil, Contains-append_right}
use Rattle.std.specs.List.{Contains}
use Rattle.lin_report.specs.Runs.{IsEditRun}
use Rattle.lin_texts.specs.declared.settings.Settings.{Settings}
use Rattle.lin_texts.specs.declared.faults.RunFault.{RunFault}
use Rattle.lin_texts.specs.declared.status.Status.{Status}
use Rattle.lin_texts.specs.declared.status.Status.TheVariants.{Yes}
use Rattle.lin_program.specs.Endings.{AreToldRefused, MayTellWhy}
use Rattle.lin_program.specs.Exit.{SystemWords, worse, worst}
use Rattle.lin_program.specs.Reporting.{AreAmong, AreReportedFrom, AreReports, Reporting, one_more}
use Rattle.lin_program.specs.declared.endings.Stop.{Stop}
use Rattle.lin_program.specs.Readings.{AreReadingsOf, AreTold, IsTold}
use Rattle.lin_program.specs.declared.readings.Reading.{Reading}

-- the texts behind references
abbrev texts : List (Bor (List ℕ)) → List (List ℕ)
texts names = map (λ n. n.now) names

-- the same run, over devices that are equal
pub edited : {R C O : Type 0} (held : R → Option (List ℕ)) (commanded : C → Option (List ℕ)) (written : O → Option (List ℕ)) (settings : Settings)
    (r r' : R) (k k' : C) (o o' : O) (left sent out : Option (List ℕ)) (result : Result Status RunFault) → r ≡ r' → k ≡ k' → o ≡ o'
    → IsEditRun settings (held r) left (commanded k) sent (written o) out result → IsEditRun settings (held r') left (commanded k') sent (written o') out result
edited held commanded written settings r r' k k' o o' left sent out result file input output ran =
    subst (λ x. IsEditRun settings (held r') left (commanded k') sent (written x) out result) output
    (subst (λ x. IsEditRun settings (held r') left (commanded x) sent (written o) out result) input
    (subst (λ x. IsEditRun settings (held x) left (commanded k) sent (written o) out result) file ran))

-- one more report behind those on the first files
pub reported_more : (reports : Reporting) (start before after : Option (List ℕ)) (names : List (Bor (List ℕ))) (i : ℕ) (d : Bor (List ℕ)) (statuses : List Status) (status : Status)
    → i < length names → AreReports reports start (texts (take i names)) before statuses → reports (get_or names i d).now before after (Ok status)
    → AreReports reports start (texts (take (i + 1) names)) after (statuses ++ status ∷ [])
reported_more reports start before after names i d statuses status inside are one =
    let split : texts (take (i + 1) names) ≡ texts (take i names) ++ (get_or names i d).now ∷ [] =
    ap texts (take_more names i d inside) ∙ map-append (λ (n : Bor (List ℕ)). n.now) (take i names) (get_or names i d ∷ []) in
    subst (λ ns. AreReports reports start ns after (statuses ++ status ∷ [])) (sym split) (one_more are (get_or names i d).now after status one)

-- the worst status of one more
pub worst_more : (statuses : List Status) (status one : Status) → one ≡ worst statuses → worse one status ≡ worst (statuses ++ status ∷ [])
worst_more statuses status one is = ap (λ s. worse s status) is ∙ sym (fold_push worse Yes statuses status)

-- all files were reported on
pub reported_all : (reports : Reporting) (start before : Option (List ℕ)) (names : List (Bor (List ℕ))) (i : ℕ) (statuses : List Status) (one : Status)
    → length names ≤ i → AreReports reports start (texts (take i names)) before statuses → one ≡ worst statuses → AreReportedFrom reports start (texts names) (Ok one)
reported_all reports start before names i statuses one past are is =
    (texts names, [], sym (append-nil (texts names)), before, statuses, subst (λ ns. AreReports reports start (texts ns) before statuses) (take_all i names past) are, ap Ok is)

-- the report on the next file ends early
pub reported_some : (reports : Reporting) (start before after : Option (List ℕ)) (names : List (Bor (List ℕ))) (i : ℕ) (d : Bor (List ℕ)) (statuses : List Status) (stop : Stop)
    → i < length names → AreReports reports start (texts (take i names)) before statuses → reports (get_or names i d).now before after (Err stop)
    → (outcome : Result Status Stop) → IsErrAnd outcome (λ e. e ≡ stop) → AreReportedFrom reports start (texts names) outcome
reported_some reports start before after names i d statuses stop inside are one (Ok status) never = absurd never
reported_some reports start before after names i d statuses stop inside are one (Err e) same =
    let split : texts names ≡ texts (take i names) ++ (get_or names i d).now ∷ texts (drop (suc i) names) =
    ap texts (split_at names i d inside) ∙ map-append (λ (n : Bor (List ℕ)). n.now) (take i names) (get_or names i d ∷ drop (suc i) names) in
    (texts (take i names), (get_or names i d).now ∷ texts (drop (suc i) names), split, before, statuses, are, (e, refl, (after, subst (λ s. reports (get_or names i d).now before after (Err s)) (sym same) one)))

-- the names that were put last are of the files, where the next one is of theirs
pub kept_among : (names some more : List (Bor (List ℕ))) (i : ℕ) (d : Bor (List ℕ)) → i < length names → AreAmong (texts names) some
    → (more ≡ some) ⊎ (more ≡ some ++ get_or names i d ∷ []) → AreAmong (texts names) more
kept_among names some more i d inside among (inl same) = subst (AreAmong (texts names)) (sym same) among
kept_among names some more i d inside among (inr put) =
    let split : texts names ≡ texts (take i names) ++ (get_or names i d).now ∷ texts (drop (suc i) names) =
    ap texts (split_at names i d inside) ∙ map-append (λ (n : Bor (List ℕ)). n.now) (take i names) (get_or names i d ∷ drop (suc i) names) in
    let here : Contains (texts names) (get_or names i d).now =
    subst (λ ns. Contains ns (get_or names i d).now) (sym split) (Contains-append_right (texts (take i names)) _ _ (0, omega arith, refl)) in
    let of_files : Bor (List ℕ) → Type 0 = λ x. Contains (texts names) x.now in
    subst (AreAmong (texts names)) (sym put) (All-append of_files some (get_or names i d ∷ []) among (All-cons of_files (get_or names i d) [] here (All-nil of_files)))

-- the readings that were put last are of the files, where the next one is of theirs
pub readings_among : (names : List (Bor (List ℕ))) (some more : List Reading) (reading : Reading) (i : ℕ) (d : Bor (List ℕ)) → i < length names → AreReadingsOf (texts names) some
    → reading.name ≡ get_or names i d → (more ≡ some) ⊎ (more ≡ some ++ reading ∷ []) → AreReadingsOf (texts names) more
readings_among names some more reading i d inside among is (inl same) = subst (AreReadingsOf (texts names)) (sym same) among
readings_among names some more reading i d inside among is (inr put) =
    let split : texts names ≡ texts (take i names) ++ (get_or names i d).now ∷ texts (drop (suc i) names) =
    ap texts (split_at names i d inside) ∙ map-append (λ (n : Bor (List ℕ)). n.now) (take i names) (get_or names i d ∷ drop (suc i) names) in
    let here : Contains (texts names) (get_or names i d).now =
    subst (λ ns. Contains ns (get_or names i d).now) (sym split) (Contains-append_right (texts (take i names)) _ _ (0, omega arith, refl)) in
    let of_files : Reading → Type 0 = λ x. Contains (texts names) x.name.now in
    let its : of_files reading = subst (λ (n : Bor (List ℕ)). Contains (texts names) n.now) (sym is) here in
    subst (AreReadingsOf (texts names)) (sym put) (All-append of_files some (reading ∷ []) among (All-cons of_files reading [] its (All-nil of_files)))

module _ {S F C O : Type 0} (system : SystemWords S F C O) (old : S) where
  -- one more of the readings is told of
  pub told_more : (readings : List Reading) (i : ℕ) (d : Reading) (now new : S) → i < length readings → AreTold system old (take i readings) now
      → IsTold system now (get_or readings i d) new → AreTold system old (take (i + 1) readings) new
  told_more readings i d now new inside so_far one = subst (λ rs. AreTold system old rs new) (sym (take_more readings i d inside)) (AreTold.one_more so_far (get_or readings i d) new one)

  -- all are
  pub told_all : (readings : List Reading) (i : ℕ) (now : S) → length readings ≤ i → AreTold system old (take i readings) now → AreTold system old readings now
  told_all readings i now past so_far = subst (λ rs. AreTold system old rs now) (take_all i readings past) so_far

module _ {S F C O : Type 0} (system : SystemWords S F C O) (held : F → Option (List ℕ)) (settings : Settings) (old : S) where
  -- of one more it may be told that it is refused
  pub refused_more : (names : List (Bor (List ℕ))) (i : ℕ) (d : Bor (List ℕ)) (now new : S) → i < length names → AreToldRefused system held settings old (take i names) now
      → MayTellWhy system held settings now (get_or names i d).now new → AreToldRefused system held settings old (take (i + 1) names) new
  refused_more names i d now new inside so_far one =
      subst (λ ns. AreToldRefused system held settings old ns new) (sym (take_more names i d inside)) (AreToldRefused.one_more so_far (get_or names i d) new one)

  pub refused_all : (names : List (Bor (List ℕ))) (i : ℕ) (now : S) → length names ≤ i → AreToldRefused system held settings old (take i names) now → AreToldRefused system held settings old names now
  refused_all names i now past so_far = subst (λ ns. AreToldRefused system held settings old ns now) (take_all i names past) so_far

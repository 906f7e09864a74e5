-- Placing each of some open operations or not: how many configurations there are at least.
use Rattle.std.proofs.Common.{◌≡◌, ◌≢◌, ◌⊎◌, ℕ, zero, suc, ◌+◌, ◌*◌, Bool, true, false, true≢false, List, [], ◌∷◌, ◌++◌, length, length-append, Contains, All, AllPairs, get_or, inl, inr, refl, sym, ap, subst, ◌∙◌, arith}
use Rattle.std.proofs.lemmas.List.Elements.{All-append, Contains-append_right, All-cons, All-head, All-tail, All-contains, All-weaker}
use Rattle.std.proofs.lemmas.List.Kept.{AllPairs-cons}
use Rattle.std.proofs.Math.Nat.{mul_assoc, mul_left_comm, suc-mul}
use Rattle.lin_events.specs.declared.items.Item.{Item}
use Rattle.lin_events.specs.declared.calls.Call.{Call}
use Rattle.lin_events.specs.declared.calls.Reply.{Reply}
use Rattle.lin_events.specs.declared.events.Event.{Event}
use Rattle.lin_events.specs.Operations.{IsOpen}
use Rattle.lin_objects.specs.Total.{AreTotal, Reaches, stays, goes, IsShown}
use Rattle.lin_order.specs.ConfigurationLaws.{PlacingIsLegal}
use Rattle.lin_order.specs.Configurations.{IsAdded, IsConfiguration}
use Rattle.lin_order.specs.lemmas.Running.{runs_reach}
use Rattle.lin_configurations.specs.inner.Branches.{power}
use Rattle.lin_frontier.specs.declared.pending.Open.{Open}
use Rattle.lin_members.specs.lemmas.Choosing.{can_add}
use Rattle.lin_frontier.specs.lemmas.Inserting.{rising_once}

pairs_first : {A : Type 0} (R : A → A → Type 0) (x : A) (xs : List A) → AllPairs R (x ∷ xs) → All (R x) xs
pairs_first R x xs all k d inside = all 0 (suc k) d (omega arith) (omega (arith, inside))

pairs_rest : {A : Type 0} (R : A → A → Type 0) (x : A) (xs : List A) → AllPairs R (x ∷ xs) → AllPairs R xs
pairs_rest R x xs all i j d below inside = all (suc i) (suc j) d (omega (arith, below)) (omega (arith, inside))

-- two lists of which no element of the one is one of the other
pairs_joined : {A : Type 0} (R : A → A → Type 0) (xs ys : List A) → AllPairs R xs → AllPairs R ys → All (λ x. All (R x) ys) xs → AllPairs R (xs ++ ys)
pairs_joined R [] ys first second between = second
pairs_joined R (x ∷ xs) ys first second between =
    AllPairs-cons R x (xs ++ ys) (All-append (R x) xs ys (pairs_first R x xs first) (All-head (λ y. All (R y) ys) x xs between))
    (pairs_joined R xs ys (pairs_rest R x xs first) second (All-tail (λ y. All (R y) ys) x xs between))

module _ {S : Type 0} (start : S) (step : S → Call → S → Reply → Type 0) (total : Call → Bool) (always : AreTotal start step total) (legal : PlacingIsLegal start step) (h : List Event)
    (tells : Type 0) (reads : Call) (read_total : tells → total reads ≡ true) (shows : Call → Reply → Bool) (has : S → Call → Bool) where
  -- the operation can be placed
  pub record Waits (c : S × List (ℕ × Reply)) (o : Open) : Type 0 where
    pub key : Item
    pub is_open : IsOpen h o.at o.process key o.call
    pub takes : total o.call ≡ true
    pub absent : (other : Reply) → Contains c.1 (o.process, other) → ⊥

  -- each read from this state on shows the call
  abbrev pub Shown : S → Call → Type 0
  Shown s e = (last end : S) (told : Reply) → Reaches step s last → step last reads end told → shows e told ≡ true

  -- no read in this state shows it
  abbrev pub Hidden : S → Call → Type 0
  Hidden s e = (end : S) (told : Reply) → step s reads end told → shows e told ≡ false

  -- an update that can be placed; where there are reads, they tell whether it was
  pub record IsAdding (c : S × List (ℕ × Reply)) (o : Open) : Type 0 where
    pub waits : Waits c o
    pub shown : tells → IsShown step (shows o.call) (λ state. has state o.call) reads o.call
    pub hidden : tells → Hidden c.0 o.call
    pub other : tells → reads ≢ o.call

  -- a read that can be placed
  pub record IsReading (c : S × List (ℕ × Reply)) (o : Open) : Type 0 where
    pub waits : Waits c o
    pub same : o.call ≡ reads
    pub tell : tells

  -- two operations of which replies tell one from the other
  pub record Differs (o p : Open) : Type 0 where
    pub processes : o.process ≢ p.process
    pub calls : tells → o.call ≢ p.call

  -- The reads are placed one after the other, and each update ahead of the first of them (`now`), later (`kept`) or not at all.
  pub record Ready (c : S × List (ℕ × Reply)) (rs now kept : List Open) : Type 0 where
    pub reading : All (IsReading c) rs
    pub adding : All (IsAdding c) now
    pub later : All (IsAdding c) kept
    pub reads_apart : AllPairs (λ o p. o.process ≢ p.process) rs
    pub now_apart : AllPairs Differs now
    pub kept_apart : AllPairs Differs kept
    pub now_kept : All (λ o. All (Differs o) kept) now
    pub reads_now : All (λ r. All (λ o. r.process ≢ o.process) now) rs
    pub reads_kept : All (λ r. All (λ o. r.process ≢ o.process) kept) rs

  flipped : (o p : Open) → Differs o p → Differs p o
  flipped o p d = record { processes = λ e. d.processes (sym e); calls = λ t e. d.calls t (sym e) }

  -- what placing an operation makes of a configuration
  record IsNext (c : S × List (ℕ × Reply)) (o : Open) (d : S × List (ℕ × Reply)) : Type 0 where
    reply : Reply
    configuration : IsConfiguration start step h d
    added : IsAdded o.process reply c.1 d.1
    steps : step c.0 o.call d.0 reply

  place : (c : S × List (ℕ × Reply)) → IsConfiguration start step h c → (o : Open) → Waits c o → (d : S × List (ℕ × Reply)) × IsNext c o d
  place c config o w =
      let t = always c.0 (runs_reach step h config.0 start c.0 config.1.runs) o.call w.takes in
      let wider = can_add o.process t.1 c.1 config.1.placed.rising w.absent in (
        (t.0, wider.0),
        record {
          reply = t.1;
          configuration = (
            config.0 ++ record { at = o.at; reply = t.1 } ∷ [],
            legal h config.0 c (t.0, wider.0) (record { at = o.at; reply = t.1 }) config.1 (record {
              process = o.process;
              key = w.key;
              call = o.call;
              is_open = w.is_open;
              steps = t.2;
              added = wider.1;
            }),
          );
          added = wider.1;
          steps = t.2;
        },
      )

  -- another operation still waits then
  waits_on : (c d : S × List (ℕ × Reply)) (o p : Open) → IsNext c o d → o.process ≢ p.process → Waits c p → Waits d p
  waits_on c d o p next differ w = record {
    key = w.key;
    is_open = w.is_open;
    takes = w.takes;
    absent = λ other there. elim (next.added.was (p.process, other) there) [
      | inl old ↦ w.absent other old
      | inr new ↦ differ (ap (λ (x : ℕ × Reply). x.0) new)
    ];
  }

  -- and what no read shows none shows then, if the call is another one
  hidden_on : (c d : S × List (ℕ × Reply)) → IsConfiguration start step h c → (o : Open) (e : Call) → IsNext c o d → total reads ≡ true → IsShown step (shows e) (λ state. has state e) reads e → o.call ≢ e → Hidden c.0 e → Hidden d.0 e
  hidden_on c d config o e next takes shown differ hidden end told reading =
      let r = always c.0 (runs_reach step h config.0 start c.0 config.1.runs) reads takes in
      shown.other c.0 r.0 d.0 end r.1 next.reply told o.call differ r.2 (hidden r.0 r.1 r.2) next.steps reading

  adding_on : (c d : S × List (ℕ × Reply)) → IsConfiguration start step h c → (o p : Open) → IsNext c o d → o.process ≢ p.process → (tells → o.call ≢ p.call) → IsAdding c p → IsAdding d p
  adding_on c d config o p next differ other a = record {
    waits = waits_on c d o p next differ a.waits;
    shown = a.shown;
    hidden = λ t. hidden_on c d config o p.call next (read_total t) (a.shown t) (other t) (a.hidden t);
    other = a.other;
  }

  reading_on : (c d : S × List (ℕ × Reply)) (o p : Open) → IsNext c o d → o.process ≢ p.process → IsReading c p → IsReading d p
  reading_on c d o p next differ r = record { waits = waits_on c d o p next differ r.waits; same = r.same; tell = r.tell }

  -- what is told of a configuration that comes of another one: without reads, only these updates were placed; else what the first read replied
  abbrev pub Told : S × List (ℕ × Reply) → List Open → List Open → S × List (ℕ × Reply) → Type 0
  Told c [] now d = (x : ℕ × Reply) → Contains d.1 x → Contains c.1 x ⊎ ((o : Open) × Contains now o × (o.process ≡ x.0))
  Told c (r ∷ rs) now d = (reply : Reply) × Contains d.1 (r.process, reply) × ((e : Call) → Shown c.0 e → shows e reply ≡ true)
      × ((e : Call) → IsShown step (shows e) (λ state. has state e) reads e → All (λ (o : Open). o.call ≢ e) now → Hidden c.0 e → shows e reply ≡ false)

  pub record Follows (c : S × List (ℕ × Reply)) (rs now : List Open) (d : S × List (ℕ × Reply)) : Type 0 where
    pub keeps : (x : ℕ × Reply) → Contains c.1 x → Contains d.1 x
    pub told : Told c rs now d

  pub record Spread (c : S × List (ℕ × Reply)) (rs now kept : List Open) : Type 0 where
    pub found : List (S × List (ℕ × Reply))
    pub many : length found ≡ power (suc (suc (length rs))) (length now) * power (suc (length rs)) (length kept)
    pub configurations : All (IsConfiguration start step h) found
    pub distinct : AllPairs (λ d e. d ≢ e) found
    pub each : All (Follows c rs now) found

  more : (x y : ℕ) → x + y ≡ y + x
  more x y = omega arith

  one_more : (b n m : ℕ) → power (suc (suc b)) n * power (suc b) m + power (suc (suc b)) n * power (suc b) (suc m) ≡ power (suc (suc b)) (suc n) * power (suc b) m
  one_more b n m =
      let x = power (suc (suc b)) n in
      let y = power (suc b) m in
      let first : x * (suc b * y) ≡ suc b * (x * y) = mul_left_comm x (suc b) y in
      let second : suc (suc b) * x * y ≡ suc (suc b) * (x * y) = mul_assoc (suc (suc b)) x y in
      let third : suc (suc b) * (x * y) ≡ suc b * (x * y) + x * y = suc-mul (suc b) (x * y) in
      ap (λ k. x * y + k) first ∙ more (x * y) (suc b * (x * y)) ∙ sym third ∙ sym second

  ones : (m : ℕ) → power 1 m ≡ 1
  ones zero = refl
  ones (suc m) = let e = ones m in let p : 1 * power 1 m ≡ power 1 m = omega arith in p ∙ e

  read_first : (b m : ℕ) → power (suc (suc b)) m * power (suc b) 0 ≡ power (suc (suc (suc b))) 0 * power (suc (suc b)) m
  read_first b m = omega arith

  -- the pairs of a configuration are by rising process, so each process has one reply
  one_reply : (d : S × List (ℕ × Reply)) → IsConfiguration start step h d → (process : ℕ) (a b : Reply) → Contains d.1 (process, a) → Contains d.1 (process, b) → a ≡ b
  one_reply d config process a b first second = rising_once d.1 process a b config.1.placed.rising first second

  -- the configuration without the update, and with it
  module _ (c d : S × List (ℕ × Reply)) (config : IsConfiguration start step h c) (rs now kept : List Open) (e : Open) (next : IsNext c e d) (ready : Ready c rs (e ∷ now) kept) where
    adds : IsAdding c e
    adds = All-head (IsAdding c) e now ready.adding

    apart : All (Differs e) now
    apart = pairs_first Differs e now ready.now_apart

    apart_kept : All (Differs e) kept
    apart_kept = All-head (λ (o : Open). All (Differs o) kept) e now ready.now_kept

    with_it : Ready d rs now kept
    with_it = record {
      reading = within rs ready.reading (All-weaker (λ (r : Open). All (λ (o : Open). r.process ≢ o.process) (e ∷ now)) (λ (r : Open). r.process ≢ e.process)
          (λ r all. All-head (λ (o : Open). r.process ≢ o.process) e now all) rs ready.reads_now);
      adding = moved now (All-tail (IsAdding c) e now ready.adding) apart;
      later = moved kept ready.later apart_kept;
      reads_apart = ready.reads_apart;
      now_apart = pairs_rest Differs e now ready.now_apart;
      kept_apart = ready.kept_apart;
      now_kept = All-tail (λ (o : Open). All (Differs o) kept) e now ready.now_kept;
      reads_now = All-weaker (λ (r : Open). All (λ (o : Open). r.process ≢ o.process) (e ∷ now)) (λ (r : Open). All (λ (o : Open). r.process ≢ o.process) now)
          (λ r all. All-tail (λ (o : Open). r.process ≢ o.process) e now all) rs ready.reads_now;
      reads_kept = ready.reads_kept;
    }
      where
        moved : (xs : List Open) → All (IsAdding c) xs → All (Differs e) xs → All (IsAdding d) xs
        moved xs all differ k x inside =
            let o = get_or xs k x in let a = differ k x inside in adding_on c d config e o next a.processes a.calls (all k x inside)

        within : (xs : List Open) → All (IsReading c) xs → All (λ (r : Open). r.process ≢ e.process) xs → All (IsReading d) xs
        within xs all differ k x inside = reading_on c d e (get_or xs k x) next (λ same. differ k x inside (sym same)) (all k x inside)

    without_it : Ready c rs now (e ∷ kept)
    without_it = record {
      reading = ready.reading;
      adding = All-tail (IsAdding c) e now ready.adding;
      later = All-cons (IsAdding c) e kept adds ready.later;
      reads_apart = ready.reads_apart;
      now_apart = pairs_rest Differs e now ready.now_apart;
      kept_apart = AllPairs-cons Differs e kept apart_kept ready.kept_apart;
      now_kept = λ k x inside. All-cons (Differs (get_or now k x)) e kept (flipped e (get_or now k x) (apart k x inside)) (ready.now_kept (suc k) x (omega (arith, inside)));
      reads_now = All-weaker (λ (r : Open). All (λ (o : Open). r.process ≢ o.process) (e ∷ now)) (λ (r : Open). All (λ (o : Open). r.process ≢ o.process) now)
          (λ r all. All-tail (λ (o : Open). r.process ≢ o.process) e now all) rs ready.reads_now;
      reads_kept = λ k x inside. All-cons (λ (o : Open). (get_or rs k x).process ≢ o.process) e kept
          (All-head (λ (o : Open). (get_or rs k x).process ≢ o.process) e now (ready.reads_now k x inside)) (ready.reads_kept k x inside);
    }

    -- what follows the configuration with it follows the one without it
    follows_with : (x : S × List (ℕ × Reply)) → Follows d rs now x → Follows c rs (e ∷ now) x
    follows_with x f = record { keeps = λ y there. f.keeps y (next.added.kept y there); told = by rs ready.reading f.told }
      where
        by : (rs : List Open) → All (IsReading c) rs → Told d rs now x → Told c rs (e ∷ now) x
        by [] all told = λ y there. elim (told y there) [
          | inl old ↦ elim (next.added.was y old) [
            | inl older ↦ inl older
            | inr new ↦ inr (e, (0, omega arith, refl), ap (λ (z : ℕ × Reply). z.0) new)
          ]
          | inr among ↦ inr (among.0, Contains-append_right (e ∷ []) now among.0 among.1, among.2)
        ]
        by (r ∷ rs) all told = (
          told.0,
          told.1,
          λ g shown. told.2 g (λ last end answer way reading. shown last end answer (goes next.steps way) reading),
          λ g is differ hidden. told.3 g is (All-tail (λ (o : Open). o.call ≢ g) e now differ)
              (hidden_on c d config e g next (read_total (All-head (IsReading c) r rs all).tell) is (All-head (λ (o : Open). o.call ≢ g) e now differ) hidden),
        )

    follows_without : (x : S × List (ℕ × Reply)) → Follows c rs now x → Follows c rs (e ∷ now) x
    follows_without x f = record { keeps = f.keeps; told = by rs f.told }
      where
        by : (rs : List Open) → Told c rs now x → Told c rs (e ∷ now) x
        by [] told = λ y there. elim (told y there) [
          | inl old ↦ inl old
          | inr among ↦ inr (among.0, Contains-append_right (e ∷ []) now among.0 among.1, among.2)
        ]
        by (r ∷ rs) told = (told.0, told.1, told.2, λ g is differ hidden. told.3 g is (All-tail (λ (o : Open). o.call ≢ g) e now differ) hidden)

    -- no configuration follows both
    apart_from : (x y : S × List (ℕ × Reply)) → IsConfiguration start step h x → Follows d rs now x → Follows c rs now y → x ≢ y
    apart_from x y is f g = by rs ready.reading f.told g.told
      where
        by : (rs : List Open) → All (IsReading c) rs → Told d rs now x → Told c rs now y → x ≢ y
        by [] all with' without same =
            let there : Contains y.1 (e.process, next.reply) = subst (λ (z : S × List (ℕ × Reply)). Contains z.1 (e.process, next.reply)) same (f.keeps (e.process, next.reply) next.added.has) in
            elim (without (e.process, next.reply) there) [
              | inl old ↦ adds.waits.absent next.reply old
              | inr among ↦ (All-contains (Differs e) now among.0 apart among.1).processes (sym among.2)
            ]
        by (r ∷ rs) all with' without same =
            let own = one_reply x is r.process with'.0 without.0 with'.1 (subst (λ (z : S × List (ℕ × Reply)). Contains z.1 (r.process, without.0)) (sym same) without.1) in
            let t = (All-head (IsReading c) r rs all).tell in
            true≢false (sym (with'.2 e.call (λ last end told way reading. (adds.shown t).taken c.0 d.0 last end next.reply told next.steps way reading)) ∙ ap (shows e.call) own
            ∙ without.3 e.call (adds.shown t) (λ k z inside same_call. (apart k z inside).calls t (sym same_call)) (adds.hidden t))

  -- the first read is placed, and what was kept may be placed ahead of the next one
  module _ (c d : S × List (ℕ × Reply)) (r : Open) (rs kept : List Open) (next : IsNext c r d) (config : IsConfiguration start step h c) (ready : Ready c (r ∷ rs) [] kept) where
    reads_first : IsReading c r
    reads_first = All-head (IsReading c) r rs ready.reading

    apart_reads : All (λ (o : Open). r.process ≢ o.process) kept
    apart_reads = All-head (λ (r : Open). All (λ (o : Open). r.process ≢ o.process) kept) r rs ready.reads_kept

    read_on : Ready d rs kept []
    read_on = record {
      reading = within rs (All-tail (IsReading c) r rs ready.reading) (pairs_first (λ (o p : Open). o.process ≢ p.process) r rs ready.reads_apart);
      adding = moved kept ready.later apart_reads;
      later = λ k x inside. absurd (omega (arith, inside));
      reads_apart = pairs_rest (λ (o p : Open). o.process ≢ p.process) r rs ready.reads_apart;
      now_apart = ready.kept_apart;
      kept_apart = λ i j x below inside. absurd (omega (arith, inside));
      now_kept = λ k x inside. λ i y none. absurd (omega (arith, none));
      reads_now = All-tail (λ (r : Open). All (λ (o : Open). r.process ≢ o.process) kept) r rs ready.reads_kept;
      reads_kept = λ k x inside. λ i y none. absurd (omega (arith, none));
    }
      where
        within : (xs : List Open) → All (IsReading c) xs → All (λ (o : Open). r.process ≢ o.process) xs → All (IsReading d) xs
        within xs all differ k x inside = reading_on c d r (get_or xs k x) next (differ k x inside) (all k x inside)

        moved : (xs : List Open) → All (IsAdding c) xs → All (λ (o : Open). r.process ≢ o.process) xs → All (IsAdding d) xs
        moved xs all differ k x inside =
            let a = all k x inside in adding_on c d config r (get_or xs k x) next (differ k x inside) (λ t same. a.other t (sym reads_first.same ∙ same)) a

    follows_read : (x : S × List (ℕ × Reply)) → Follows d rs kept x → Follows c (r ∷ rs) [] x
    follows_read x f =
        let steps : step c.0 reads d.0 next.reply = subst (λ k. step c.0 k d.0 next.reply) reads_first.same next.steps in
        record {
          keeps = λ y there. f.keeps y (next.added.kept y there);
          told = (
            next.reply,
            f.keeps (r.process, next.reply) next.added.has,
            λ e shown. shown c.0 d.0 next.reply stays steps,
            λ e is differ hidden. hidden d.0 next.reply steps,
          );
        }

  -- so there are at least so many configurations
  pub spread : (rs now kept : List Open) (c : S × List (ℕ × Reply)) → IsConfiguration start step h c → Ready c rs now kept → Spread c rs now kept
  spread [] [] kept c config ready = record {
    found = c ∷ [];
    many = let e = ones (length kept) in let p : 1 * power 1 (length kept) ≡ power 1 (length kept) = omega arith in sym (p ∙ e);
    configurations = λ k x inside. All-cons (IsConfiguration start step h) c [] config (λ i y none. absurd (omega (arith, none))) k x inside;
    distinct = λ i j x below inside. absurd (omega (arith, below, inside));
    each = All-cons (Follows c [] []) c [] (record { keeps = λ x there. there; told = λ x there. inl there }) (λ i y none. absurd (omega (arith, none)));
  }
  spread (r ∷ rs) [] kept c config ready =
      let p = place c config r (All-head (IsReading c) r rs ready.reading).waits in
      let s = spread rs kept [] p.0 p.1.configuration (read_on c p.0 r rs kept p.1 config ready) in
      record {
        found = s.found;
        many = s.many ∙ read_first (length rs) (length kept);
        configurations = s.configurations;
        distinct = s.distinct;
        each = All-weaker (Follows p.0 rs kept) (Follows c (r ∷ rs) []) (follows_read c p.0 r rs kept p.1 config ready) s.found s.each;
      }
  spread rs (e ∷ now) kept c config ready =
      let p = place c config e (All-head (IsAdding c) e now ready.adding).waits in
      let with' = spread rs now kept p.0 p.1.configuration (with_it c p.0 config rs now kept e p.1 ready) in
      let without = spread rs now (e ∷ kept) c config (without_it c p.0 config rs now kept e p.1 ready) in
      record {
        found = with'.found ++ without.found;
        many = length-append with'.found without.found ∙ ap (λ n. n + length without.found) with'.many
            ∙ ap (λ n. power (suc (suc (length rs))) (length now) * power (suc (length rs)) (length kept) + n) without.many ∙ one_more (length rs) (length now) (length kept);
        configurations = All-append (IsConfiguration start step h) with'.found without.found with'.configurations without.configurations;
        distinct = pairs_joined (λ d e. d ≢ e) with'.found without.found with'.distinct without.distinct
            (λ k x inside. λ i y within. apart_from c p.0 config rs now kept e p.1 ready (get_or with'.found k x) (get_or without.found i y)
            (with'.configurations k x inside) (with'.each k x inside) (without.each i y within));
        each = All-append (Follows c rs (e ∷ now)) with'.found without.found
            (All-weaker (Follows p.0 rs now) (Follows c rs (e ∷ now)) (follows_with c p.0 config rs now kept e p.1 ready) with'.found with'.each)
            (All-weaker (Follows c rs now) (Follows c rs (e ∷ now)) (follows_without c p.0 config rs now kept e p.1 ready) without.found without.each);
      }

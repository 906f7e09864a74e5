-- Searching the ways of members for the reply of an operation that completes.
use Rattle.std.proofs.Common.{◌≡◌, ◌⊎◌, ℕ, ◌+◌, ◌<◌, ◌≤◌, List, [], ◌∷◌, ◌++◌, length, length-append, map, ◌-◌, Contains, All, inl, inr, refl, sym, ap, subst, ◌∙◌, arith, get_or, Option, Some, None, Bool, true, false, IfSome, IfNone}
use Rattle.std.proofs.lemmas.List.{append-nil, get_or_append_left, get_or-append_right, get_or-map, length-map}
use Rattle.std.proofs.lemmas.List.Elements.{All-append, All-pop, All-weaker, All-contains, Contains-get_or, Contains-push, Contains-push_cases, Contains-append_left}
use Rattle.std.proofs.lemmas.Bool.{cases_lt}
use Rattle.lin_events.specs.declared.calls.Call.{Call}
use Rattle.lin_events.specs.declared.calls.Reply.{Reply}
use Rattle.lin_order.specs.declared.placed.Placed.{Placed}
use Rattle.lin_members.specs.declared.members.Path.{Path}
use Rattle.lin_frontier.specs.declared.pending.Open.{Open}
use Rattle.lin_members.specs.Members.{Member, IsOnOffer}
use Rattle.lin_frontier.specs.Nodes.{IsGrown}
use Rattle.lin_frontier.specs.Placing.{IsAbsent, insert_pair}
use Rattle.lin_members.specs.Searching.{is_watching, AreBehind, AreUpdates, BeginsRound, DominatesIn, DominatesOver, GivesAny, IsCompleted, IsDone, IsFinding, IsFoundFrom, IsFromBehind, IsPassed, IsSettled, IsReached, start, next, IsSearchedIn, IsSuccessor, IsVisiting}
use Rattle.lin_frontier.specs.lemmas.Closing.{any_default}
use Rattle.lin_frontier.specs.lemmas.Inserting.{kept_by, passed_by}
use Rattle.lin_members.specs.lemmas.Undominated.{above_itself}
use Rattle.lin_configurations.specs.Putting.{IsTakenInIf}
use Rattle.lin_configurations.specs.lemmas.Visiting.{grown_grown, not_grown, node_stays, begins_still}

-- one of the first list stands in both joined, and so does one of the second
pub in_front : {A B : Type 0} (f : B → A) (xs : List B) (ys : List A) (i : ℕ) (x : B) → i < length xs → x ≡ get_or xs i x → (i < length (map f xs ++ ys)) × (f x ≡ get_or (map f xs ++ ys) i (f x))
in_front f xs ys i x inside is =
    let all = length-append (map f xs) ys in
    let many = length-map xs f in (
      omega (arith, inside),
      sym (get_or_append_left (map f xs) ys (f x) i (omega (arith, inside)) ∙ get_or-map f xs i x (f x) inside ∙ ap f (sym is)),
    )

pub in_rest : {A B : Type 0} (f : B → A) (xs : List B) (ys : List A) (i k : ℕ) (y : A) → i < length ys → y ≡ get_or ys i y → k ≡ length xs + i → (k < length (map f xs ++ ys)) × (y ≡ get_or (map f xs ++ ys) k y)
in_rest f xs ys i k y inside is counted =
    let all = length-append (map f xs) ys in
    let many = length-map xs f in
    let back : k - length xs ≡ i = omega (arith, counted) in (
      omega (arith, inside, counted),
      is ∙ sym (get_or-append_right (map f xs) ys (length xs) k y many (omega (arith, counted)) ∙ ap (λ j. get_or ys j y) back),
    )

-- what stays where nothing was found, behind others
pub none_behind : {A N X : Type 0} (o : Option X) (front a b : List A) (c d : N) → IfNone o ((a ≡ b) × (c ≡ d)) → IfNone o ((front ++ a ≡ front ++ b) × (c ≡ d))
none_behind None front a b c d same = (ap (λ l. front ++ l) same.0, same.1)
none_behind (Some x) front a b c d same = same

module _ {S : Type 0} (step : S → Call → S → Reply → Type 0) (observes : Call → Bool) (pending : List Open) where
  -- offers that are behind a member
  pub from_behind : (m : Member S × Path) (n : Member S) → AreBehind step observes pending m n.offers → IsFromBehind step observes pending m n
  from_behind m n behind x there = elim (behind.sound x there) [
    | inl before ↦ inl (passed_by (λ (y : ℕ × (ℕ × Reply)). is_watching observes pending y.1.0) m.0.offers x before)
    | inr new ↦ inr new
  ]

  has_behind : (m : Member S × Path) (offers : List (ℕ × (ℕ × Reply))) → AreBehind step observes pending m offers → (x : ℕ × Reply) → is_watching observes pending x.0 ≡ true
      → IsOnOffer m.0 x ⊎ GivesAny step observes pending (m.0.state, m.0.placed) x → (k : ℕ) × Contains offers (k, x)
  has_behind m offers behind x watching had = elim had [
    | inl offered ↦ (offered.0, behind.kept (offered.0, x) (kept_by (λ (y : ℕ × (ℕ × Reply)). is_watching observes pending y.1.0) m.0.offers (offered.0, x) watching offered.1))
    | inr given ↦ behind.complete x given
  ]

  -- what dominates with all that is on offer behind the member
  pub over_behind : (m : Member S × Path) (n : Member S) (d : S × List (ℕ × Reply)) (offers : List (ℕ × (ℕ × Reply))) → AreBehind step observes pending m offers → DominatesIn observes pending n d.0 d.1 offers
      → DominatesOver step observes pending m.0 n d
  over_behind m n d offers behind above = record {
    same = above.same;
    part = above.part;
    rest = above.rest;
    offered = λ x watching absent had.
        let o = has_behind m offers behind x watching had in
        All-contains (λ (y : ℕ × (ℕ × Reply)). is_watching observes pending y.1.0 ≡ true → IsAbsent y.1.0 n.placed → IsOnOffer n y.1) offers (o.0, x) above.offered o.1 watching absent;
  }

  -- what holds with nodes holds with more
  pub successor_stays : (nodes now : List (ℕ × (Placed × Option ℕ))) (m n : Member S × Path) → IsGrown nodes now → IsSuccessor step observes pending nodes m n → IsSuccessor step observes pending now m n
  successor_stays nodes now m n grown s = record { p = s.p; places = s.places; offers = s.offers; begins = begins_still nodes now m.1 n.1 s.p grown s.begins }

  pub reached_stays : (nodes now : List (ℕ × (Placed × Option ℕ))) (starts : List (Member S × Path)) (m : Member S × Path) → IsGrown nodes now → IsReached step observes pending nodes starts m → IsReached step observes pending now starts m
  reached_stays nodes now starts m grown (start there) = start there
  reached_stays nodes now starts n grown (next {m} way s) = next (reached_stays nodes now starts m grown way) (successor_stays nodes now m n grown s)

  module _ (operation : Open) (reply : Reply) where
    pub completed_stays : (nodes now : List (ℕ × (Placed × Option ℕ))) (m n : Member S × Path) → IsGrown nodes now → IsCompleted step observes operation reply pending nodes m n → IsCompleted step observes operation reply pending now m n
    completed_stays nodes now m n grown c = elim c [
      | inl a ↦ inl (record { observer = a.observer; round = a.round; takes = a.takes; same = a.same; last = a.last; node = node_stays nodes now n.1.node m.1.node (record { at = operation.at; reply = reply }, Some a.round) grown a.node })
      | inr r ↦ inr (record { update = r.update; steps = r.steps; placed = r.placed; offers = r.offers; begins = begins_still nodes now m.1 n.1 (record { at = operation.at; reply = reply }) grown r.begins })
    ]

    -- nothing was added, and one member was
    pub finding_none : (nodes : List (ℕ × (Placed × Option ℕ))) (m : Member S × Path) (out : List (Member S × Path)) → IsFinding step observes operation reply pending nodes m out out
    finding_none nodes m out = record { kept = λ n there. there; sound = λ n there. inl there }

    pub finding_push : (nodes : List (ℕ × (Placed × Option ℕ))) (m : Member S × Path) (old out : List (Member S × Path)) (n : Member S × Path) → out ≡ old ++ n ∷ [] → IsCompleted step observes operation reply pending nodes m n
        → IsFinding step observes operation reply pending nodes m old out
    finding_push nodes m old out n pushed made = record {
      kept = λ k there. subst (λ l. Contains l k) (sym pushed) (Contains-append_left old (n ∷ []) k there);
      sound = λ k there. elim (Contains-push_cases old n k (subst (λ l. Contains l k) pushed there)) [
        | inl before ↦ inl before
        | inr same ↦ inr (subst (IsCompleted step observes operation reply pending nodes m) same made)
      ];
    }

    -- the steps of the update, of which `rest` are still to be looked at
    pub record IsReturning (m : Member S × Path) (first nodes : List (ℕ × (Placed × Option ℕ))) (old : List (Member S × Path)) (rest : List (S × Reply)) (now : List (Member S × Path)) : Type 0 where
      pub nodes_grown : IsGrown first nodes
      pub rest_of : All (λ a. step m.0.state operation.call a.0 a.1) rest
      pub finding : IsFinding step observes operation reply pending nodes m old now
      pub taken : (s : S) → step m.0.state operation.call s reply → Contains rest (s, reply) ⊎ ((n : Member S × Path) × Contains now n × DominatesOver step observes pending m.0 n.0 (s, m.0.placed))

    module _ (m : Member S × Path) (first : List (ℕ × (Placed × Option ℕ))) (old : List (Member S × Path)) where
      pub returning_start : (rest : List (S × Reply)) → All (λ a. step m.0.state operation.call a.0 a.1) rest → ((a : S × Reply) → step m.0.state operation.call a.0 a.1 → Contains rest a) → IsReturning m first first old rest old
      returning_start rest all each = record {
        nodes_grown = not_grown first;
        rest_of = all;
        finding = record { kept = λ k there. there; sound = λ k there. inl there };
        taken = λ s steps. inl (each (s, reply) steps);
      }

      -- a step that is passed over: it has another reply, or something that was found dominates what it leads to
      pub returning_skip : (more rest : List (S × Reply)) (nodes : List (ℕ × (Placed × Option ℕ))) (now : List (Member S × Path)) (a : S × Reply) → more ≡ rest ++ a ∷ []
          → (a.1 ≡ reply → (n : Member S × Path) × Contains now n × DominatesOver step observes pending m.0 n.0 (a.0, m.0.placed))
          → IsReturning m first nodes old more now → IsReturning m first nodes old rest now
      returning_skip more rest nodes now a popped other h = record {
        nodes_grown = h.nodes_grown;
        rest_of = (All-pop (λ (b : S × Reply). step m.0.state operation.call b.0 b.1) more rest (Some a) popped h.rest_of).0;
        finding = h.finding;
        taken = λ t steps. elim (h.taken t steps) [
          | inl in_more ↦ elim (Contains-push_cases rest a (t, reply) (subst (λ l. Contains l (t, reply)) popped in_more)) [
            | inl in_rest ↦ inl in_rest
            | inr same ↦ inr (let found = other (ap (λ (b : S × Reply). b.1) same) in (found.0, found.1, subst (λ s. DominatesOver step observes pending m.0 found.0.0 (s, m.0.placed)) (ap (λ (b : S × Reply). b.0) same) found.2))
          ]
          | inr found ↦ inr found
        ];
      }

      -- what a found member dominates, put together
      pub returning_found : (more rest : List (S × Reply)) (nodes : List (ℕ × (Placed × Option ℕ))) (now : List (Member S × Path)) (a : S × Reply) (n : Member S × Path) (c d : S × List (ℕ × Reply)) (offers : List (ℕ × (ℕ × Reply)))
          → more ≡ rest ++ a ∷ [] → Contains now n → DominatesIn observes pending n.0 d.0 d.1 offers → d ≡ (a.0, c.1) → c ≡ (m.0.state, m.0.placed) → AreBehind step observes pending m offers
          → IsReturning m first nodes old more now → IsReturning m first nodes old rest now
      returning_found more rest nodes now a n c d offers popped there above config same behind h =
          returning_skip more rest nodes now a popped (λ _. (
            n,
            there,
            subst (λ (e : S × List (ℕ × Reply)). DominatesOver step observes pending m.0 n.0 e) (config ∙ ap (λ (e : S × List (ℕ × Reply)). (a.0, e.1)) same) (over_behind m n.0 d offers behind above),
          )) h

      pub returning_step : (more rest : List (S × Reply)) (nodes after : List (ℕ × (Placed × Option ℕ))) (now then' : List (Member S × Path)) (a : S × Reply) (n : Member S × Path) → more ≡ rest ++ a ∷ [] → a.1 ≡ reply
          → IsGrown nodes after → BeginsRound after m.1 n.1 (record { at = operation.at; reply = reply }) → n.0.state ≡ a.0 → n.0.placed ≡ m.0.placed → AreBehind step observes pending m n.0.offers
          → observes operation.call ≡ false → then' ≡ now ++ n ∷ [] → IsReturning m first nodes old more now → IsReturning m first after old rest then'
      returning_step more rest nodes after now then' a n popped given grown begins state placed behind update pushed h = record {
        nodes_grown = grown_grown first nodes after h.nodes_grown grown;
        rest_of = parts.0;
        finding = record {
          kept = λ k there. still k (h.finding.kept k there);
          sound = λ k there. elim (Contains-push_cases now n k (subst (λ l. Contains l k) pushed there)) [
            | inl before ↦ elim (h.finding.sound k before) [
              | inl in_old ↦ inl in_old
              | inr made ↦ inr (completed_stays nodes after m k grown made)
            ]
            | inr same ↦ inr (subst (IsCompleted step observes operation reply pending after m) same (inr (record {
              update = update;
              steps = subst (λ t. step m.0.state operation.call t reply) (sym state) (subst (step m.0.state operation.call a.0) given parts.1);
              placed = placed;
              offers = from_behind m n.0 behind;
              begins = begins;
            })))
          ];
        };
        taken = λ t steps. elim (h.taken t steps) [
          | inl in_more ↦ elim (Contains-push_cases rest a (t, reply) (subst (λ l. Contains l (t, reply)) popped in_more)) [
            | inl in_rest ↦ inl in_rest
            | inr same ↦ inr (
              n,
              subst (λ l. Contains l n) (sym pushed) (Contains-push now n),
              subst (λ s. DominatesOver step observes pending m.0 n.0 (s, m.0.placed)) (state ∙ ap (λ (b : S × Reply). b.0) same)
                  (subst (λ l. DominatesOver step observes pending m.0 n.0 (n.0.state, l)) placed (over_behind m n.0 (n.0.state, n.0.placed) n.0.offers behind (above_itself observes pending n.0))),
            )
          ]
          | inr found ↦ inr (found.0, still found.0 found.1, found.2)
        ];
      }
        where
          parts : All (λ b. step m.0.state operation.call b.0 b.1) rest × step m.0.state operation.call a.0 a.1
          parts = All-pop (λ (b : S × Reply). step m.0.state operation.call b.0 b.1) more rest (Some a) popped h.rest_of

          still : (k : Member S × Path) → Contains now k → Contains then' k
          still k there = subst (λ l. Contains l k) (sym pushed) (Contains-append_left now (n ∷ []) k there)

      -- the same of a member that was put together
      pub returning_made : (more rest : List (S × Reply)) (nodes after : List (ℕ × (Placed × Option ℕ))) (now then' : List (Member S × Path)) (a : S × Reply) (n : Member S × Path) (c d : S × List (ℕ × Reply)) (offers : List (ℕ × (ℕ × Reply)))
          → more ≡ rest ++ a ∷ [] → a.1 ≡ reply → IsGrown nodes after → BeginsRound after m.1 n.1 (record { at = operation.at; reply = reply }) → n.0 ≡ record { state = d.0; placed = d.1; offers = offers } → d ≡ (a.0, c.1)
          → c ≡ (m.0.state, m.0.placed) → AreBehind step observes pending m offers → observes operation.call ≡ false → then' ≡ now ++ n ∷ [] → IsReturning m first nodes old more now → IsReturning m first after old rest then'
      returning_made more rest nodes after now then' a n c d offers popped given grown begins is config same behind update pushed h =
          returning_step more rest nodes after now then' a n popped given grown begins
          (ap (λ (k : Member S). k.state) is ∙ ap (λ (k : S × List (ℕ × Reply)). k.0) config)
          (ap (λ (k : Member S). k.placed) is ∙ ap (λ (k : S × List (ℕ × Reply)). k.1) config ∙ ap (λ (k : S × List (ℕ × Reply)). k.1) same)
          (subst (AreBehind step observes pending m) (sym (ap (λ (k : Member S). k.offers) is)) behind) update pushed h

      -- nodes were added
      pub returning_grown : (rest : List (S × Reply)) (nodes after : List (ℕ × (Placed × Option ℕ))) (now : List (Member S × Path)) → IsGrown nodes after → IsReturning m first nodes old rest now → IsReturning m first after old rest now
      returning_grown rest nodes after now grown h = record {
        nodes_grown = grown_grown first nodes after h.nodes_grown grown;
        rest_of = h.rest_of;
        finding = record {
          kept = h.finding.kept;
          sound = λ k there. elim (h.finding.sound k there) [
            | inl in_old ↦ inl in_old
            | inr made ↦ inr (completed_stays nodes after m k grown made)
          ];
        };
        taken = h.taken;
      }

      -- a step was taken in, if it has the reply
      pub returning_turn : (more rest : List (S × Reply)) (nodes after : List (ℕ × (Placed × Option ℕ))) (now then' : List (Member S × Path)) (a : S × Reply) (offers : List (ℕ × (ℕ × Reply))) → more ≡ rest ++ a ∷ [] → IsGrown nodes after
          → AreBehind step observes pending m offers → observes operation.call ≡ false → IsTakenInIf (a.1 ≡ reply) observes pending (a.0, m.0.placed) (record { at = operation.at; reply = reply }) offers m.1 after now then'
          → IsReturning m first nodes old more now → IsReturning m first after old rest then'
      returning_turn more rest nodes after now then' a offers popped grown behind update turn h = elim turn [
        | inl other ↦ subst (λ l. IsReturning m first after old rest l) (sym other.1) (returning_grown rest nodes after now grown (returning_skip more rest nodes now a popped (λ same. absurd (other.0 same)) h))
        | inr given ↦ elim given.1 [
          | inl above ↦ subst (λ l. IsReturning m first after old rest l) (sym above.3) (returning_grown rest nodes after now grown (returning_found more rest nodes now a above.0 (m.0.state, m.0.placed) (a.0, m.0.placed) offers popped above.1 above.2 refl refl behind h))
          | inr put ↦ returning_made more rest nodes after now then' a put.member (m.0.state, m.0.placed) (a.0, m.0.placed) offers popped given.0 grown put.begins put.same refl refl behind update put.pushed h
        ]
      ]

    pub done_stays : (m : Member S) (out now : List (Member S × Path)) → ((n : Member S × Path) → Contains out n → Contains now n) → IsDone observes operation pending out m → IsDone observes operation pending now m
    done_stays m out now kept d = (d.0, d.1, kept d.1 d.2, d.3)

    pub passed_stays : (m : Member S × Path) (out now : List (Member S × Path)) → ((n : Member S × Path) → Contains out n → Contains now n) → IsPassed step observes operation reply pending out m
        → IsPassed step observes operation reply pending now m
    passed_stays m out now kept p = record {
      never = p.never;
      returns = λ update s steps. let r = p.returns update s steps in (r.0, kept r.0 r.1, r.2);
    }

    pub searched_stays : (m : Member S) (visited now : List (Member S × Path)) → ((n : Member S × Path) → Contains visited n → Contains now n) → IsSearchedIn step observes pending visited m → IsSearchedIn step observes pending now m
    searched_stays m visited now kept s o p d in_pending places =
        let f = s o p d in_pending places in
        record { placed = f.placed; among = f.among; stands = f.stands; absent = f.absent; member = f.member; there = kept f.member f.there; dominates = f.dominates }

    pub settled_stays : (m : Member S × Path) (out now : List (Member S × Path)) → ((n : Member S × Path) → Contains out n → Contains now n) → IsSettled step observes operation reply pending out m
        → IsSettled step observes operation reply pending now m
    settled_stays m out now kept settled = elim settled [
      | inl done ↦ inl (done_stays m.0 out now kept done)
      | inr ahead ↦ inr (ahead.0, passed_stays m out now kept ahead.1)
    ]

    -- one of those visited is worked off
    abbrev pub IsWorkedOff : List (Member S × Path) → List (Member S × Path) → Member S × Path → Type 0
    IsWorkedOff visited out m = IsSettled step observes operation reply pending out m ⊎ (IsPassed step observes operation reply pending out m × IsSearchedIn step observes pending visited m.0)

    -- those visited below `at` are worked off
    pub record IsWorking (starts : List (Member S × Path)) (first nodes : List (ℕ × (Placed × Option ℕ))) (at : ℕ) (visited out : List (Member S × Path)) : Type 0 where
      pub nodes_grown : IsGrown first nodes
      pub begins : (m : Member S × Path) → Contains starts m → Contains visited m
      pub reached : All (IsReached step observes pending nodes starts) visited
      pub each : (k : ℕ) (d : Member S × Path) → k < at → k < length visited → IsWorkedOff visited out (get_or visited k d)
      pub sound : (n : Member S × Path) → Contains out n → (m : Member S × Path) × IsReached step observes pending nodes starts m × IsCompleted step observes operation reply pending nodes m n

    module _ (starts : List (Member S × Path)) (first : List (ℕ × (Placed × Option ℕ))) where
      pub working_start : (out : List (Member S × Path)) → out ≡ [] → IsWorking starts first first 0 starts out
      working_start out none = record {
        nodes_grown = not_grown first;
        begins = λ m there. there;
        reached = λ i d inside. start (Contains-get_or starts i d inside);
        each = λ k d below. absurd (omega arith);
        sound = λ n there. absurd (let empty = ap length none in let inside = there.1 in omega arith);
      }

      -- the same where no other one is visited yet
      pub working_alone : (visited out : List (Member S × Path)) → visited ≡ [] → out ≡ [] → IsWorking starts first first 0 (starts ++ visited) out
      working_alone visited out none no_out = subst (λ l. IsWorking starts first first 0 l out) (sym (ap (λ l. starts ++ l) none ∙ append-nil starts)) (working_start out no_out)

      module _ (nodes after : List (ℕ × (Placed × Option ℕ))) (at : ℕ) (visited out found : List (Member S × Path)) (m : Member S × Path) (inside : at < length visited) (is : m ≡ get_or visited at m)
          (grown : IsGrown nodes after) (finding : IsFinding step observes operation reply pending after m out found) (h : IsWorking starts first nodes at visited out) where
        this : Contains visited m
        this = (at, inside, sym is)

        sound_still : (n : Member S × Path) → Contains found n → (k : Member S × Path) × IsReached step observes pending after starts k × IsCompleted step observes operation reply pending after k n
        sound_still n there = elim (finding.sound n there) [
          | inl before ↦ let s = h.sound n before in (s.0, reached_stays nodes after starts s.0 grown s.1, completed_stays nodes after s.0 n grown s.2)
          | inr made ↦ (m, reached_stays nodes after starts m grown (All-contains (IsReached step observes pending nodes starts) visited m h.reached this), made)
        ]

        worked_still : (now : List (Member S × Path)) → ((n : Member S × Path) → Contains visited n → Contains now n) → (k : Member S × Path) → IsWorkedOff visited out k → IsWorkedOff now found k
        worked_still now kept k w = elim w [
          | inl settled ↦ inl (settled_stays k out found finding.kept settled)
          | inr p ↦ inr (passed_stays k out found finding.kept p.0, searched_stays k.0 visited now kept p.1)
        ]

        here_or_below : (k : ℕ) → k < at + 1 → (k < at) ⊎ (k ≡ at)
        here_or_below k below = elim (cases_lt k at) [
          | inl earlier ↦ inl earlier
          | inr past ↦ inr (omega arith)
        ]

        at_this : (d : Member S × Path) → get_or visited at d ≡ m
        at_this d = any_default visited at d m inside ∙ sym is

        -- the member is done with
        pub working_done : IsSettled step observes operation reply pending found m → IsWorking starts first after (at + 1) visited found
        working_done done = record {
          nodes_grown = grown_grown first nodes after h.nodes_grown grown;
          begins = h.begins;
          reached = All-weaker (IsReached step observes pending nodes starts) (IsReached step observes pending after starts) (λ k r. reached_stays nodes after starts k grown r) visited h.reached;
          each = λ k d below within. elim (here_or_below k below) [
            | inl earlier ↦ worked_still visited (λ n there. there) (get_or visited k d) (h.each k d earlier within)
            | inr same ↦ subst (IsWorkedOff visited found) (sym (ap (λ j. get_or visited j d) same ∙ at_this d)) (inl done)
          ];
          sound = sound_still;
        }

        -- it did not, and what updates make of it is visited
        pub working_on : (last : List (ℕ × (Placed × Option ℕ))) (now : List (Member S × Path)) (updates : List ((S × List (ℕ × Reply)) × Placed)) (offers : List (ℕ × (ℕ × Reply)))
            → IsPassed step observes operation reply pending found m → AreBehind step observes pending m offers → AreUpdates step observes pending (m.0.state, m.0.placed) updates
            → IsGrown after last → IsVisiting observes pending updates offers m.1 last visited now → IsWorking starts first last (at + 1) now found
        working_on last now updates offers passed behind tried more_nodes v = record {
          nodes_grown = grown_grown first after last (grown_grown first nodes after h.nodes_grown grown) more_nodes;
          begins = λ n there. kept n (h.begins n there);
          reached = subst (All (IsReached step observes pending last starts)) (sym v.grown) (All-append (IsReached step observes pending last starts) visited v.added
              (All-weaker (IsReached step observes pending nodes starts) (IsReached step observes pending last starts) (λ k r. reached_stays nodes last starts k both r) visited h.reached)
              (All-weaker (λ (n : Member S × Path). (p : Placed) × Contains updates ((n.0.state, n.0.placed), p) × (n.0.offers ≡ offers) × BeginsRound last m.1 n.1 p) (IsReached step observes pending last starts) reach v.added v.new));
          each = λ k d below within. elim (here_or_below k below) [
            | inl earlier ↦ subst (IsWorkedOff now found) (sym (old k d (omega (arith, inside)))) (worked_still now kept (get_or visited k d) (h.each k d earlier (omega (arith, inside))))
            | inr same ↦ subst (IsWorkedOff now found) (sym (ap (λ j. get_or now j d) same ∙ old at d inside ∙ at_this d)) (inr (passed, searched))
          ];
          sound = λ n there. let s = sound_still n there in (s.0, reached_stays after last starts s.0 more_nodes s.1, completed_stays after last s.0 n more_nodes s.2);
        }
          where
            both : IsGrown nodes last
            both = grown_grown nodes after last grown more_nodes

            kept : (n : Member S × Path) → Contains visited n → Contains now n
            kept n there = subst (λ l. Contains l n) (sym v.grown) (Contains-append_left visited v.added n there)

            old : (k : ℕ) (d : Member S × Path) → k < length visited → get_or now k d ≡ get_or visited k d
            old k d within = ap (λ l. get_or l k d) v.grown ∙ get_or_append_left visited v.added d k within

            reach : (n : Member S × Path) → ((p : Placed) × Contains updates ((n.0.state, n.0.placed), p) × (n.0.offers ≡ offers) × BeginsRound last m.1 n.1 p) → IsReached step observes pending last starts n
            reach n a = next {m = m} {n = n} (reached_stays nodes last starts m both (All-contains (IsReached step observes pending nodes starts) visited m h.reached this)) (record {
              p = a.0;
              places = tried.sound (n.0.state, n.0.placed) a.0 a.1;
              offers = from_behind m n.0 (subst (AreBehind step observes pending m) (sym a.2) behind);
              begins = a.3;
            })

            searched : IsSearchedIn step observes pending now m.0
            searched o p d in_pending u =
                let k = tried.complete o p d in_pending u in
                let f = v.taken (d.0, insert_pair k.placed.process p.reply m.0.placed) (record { at = k.placed.at; reply = p.reply }) k.has in
                record {
                  placed = k.placed;
                  among = k.among;
                  stands = k.stands;
                  absent = k.absent;
                  member = f.0;
                  there = f.1;
                  dominates = over_behind m f.0.0 (d.0, insert_pair k.placed.process p.reply m.0.placed) offers behind f.2;
                }

        -- the one or the other
        pub working_next : (updates : List ((S × List (ℕ × Reply)) × Placed)) (o : Option (List (ℕ × (ℕ × Reply)))) (path : Path) (last : List (ℕ × (Placed × Option ℕ))) (now : List (Member S × Path)) → path ≡ m.1
            → IfNone o (IsSettled step observes operation reply pending found m) → IfSome o (λ _. IsPassed step observes operation reply pending found m) → IfSome o (AreBehind step observes pending m)
            → IfSome o (λ _. AreUpdates step observes pending (m.0.state, m.0.placed) updates) → IsGrown after last
            → IfNone o ((now ≡ visited) × (last ≡ after)) → IfSome o (λ offers. IsVisiting observes pending updates offers path last visited now)
            → IsWorking starts first last (at + 1) now found
        working_next updates None path last now same done passed behind tried more_nodes still visiting =
            subst (λ l. IsWorking starts first last (at + 1) l found) (sym still.0) (subst (λ l. IsWorking starts first l (at + 1) visited found) (sym still.1) (working_done done))
        working_next updates (Some offers) path last now same done passed behind tried more_nodes still visiting =
            working_on last now updates offers passed behind tried more_nodes (subst (λ q. IsVisiting observes pending updates offers q last visited now) same visiting)

      pub working_end : (nodes : List (ℕ × (Placed × Option ℕ))) (at : ℕ) (visited out : List (Member S × Path)) → length visited ≤ at → IsWorking starts first nodes at visited out
          → IsFoundFrom step observes operation reply pending nodes starts out
      working_end nodes at visited out past h = record {
        visited = visited;
        begins = h.begins;
        reached = λ m there. All-contains (IsReached step observes pending nodes starts) visited m h.reached there;
        each = λ m there. let inside = there.1 in subst (IsWorkedOff visited out) there.2 (h.each there.0 m (omega arith) inside);
        sound = h.sound;
      }

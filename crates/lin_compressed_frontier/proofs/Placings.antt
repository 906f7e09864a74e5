-- What a completion makes of a member where the object is overwritten, put together.
use Rattle.std.proofs.Common.{◌≡◌, ◌⊎◌, ℕ, suc, ◌+◌, ◌*◌, ◌<◌, ◌≤◌, Bool, true, false, nat_lt, List, [], ◌∷◌, ◌++◌, length, length-append, cond, take, get_or, Contains, AllPairs, ◌≢◌, inl, inr, refl, sym, ap, subst, ◌∙◌, arith, Option, Some, OnOk}
use Rattle.std.proofs.lemmas.Bool.{le-ltb, lt-ltb}
use Rattle.std.proofs.lemmas.List.{append-nil}
use Rattle.std.proofs.lemmas.Nat.{mul-le}
use Rattle.std.proofs.lemmas.List.Elements.{filter_more, Contains-push, Contains-push_cases, Contains-append_left}
use Rattle.std.specs.declared.result.Result.{Result}
use Rattle.std.specs.declared.result.Result.TheVariants.{Ok, Err}
use Rattle.lin_events.specs.declared.calls.Call.{Call}
use Rattle.lin_events.specs.declared.calls.Reply.{Reply}
use Rattle.lin_events.specs.declared.meter.Meter.{Meter}
use Rattle.lin_objects.specs.Overwriting.{IsOverwriting}
use Rattle.lin_order.specs.declared.placed.Placed.{Placed}
use Rattle.lin_members.specs.declared.members.Path.{Path}
use Rattle.lin_frontier.specs.declared.pending.Open.{Open}
use Rattle.lin_members.specs.Asking.{early_of, AreAsked, AreReturned, IsAheadOf, IsAnsweredStill, IsAskedAhead, IsAskedBehind, IsAskedLikeAhead, IsAskedLikeBehind, IsCompletedWith, IsFindingWith, IsPutIn, IsReturnedAhead, IsReturnedBehind}
use Rattle.lin_members.specs.Members.{Member}
use Rattle.lin_frontier.specs.Nodes.{IsGrown}
use Rattle.lin_frontier.specs.Placing.{insert_pair}
use Rattle.lin_members.specs.Searching.{watched, AreBehind, AreUpdates, BeginsRound, CanTake, GivesAny, IsNodeOf, IsOffering, PlacesIfUpdate, PlacesUpdate}
use Rattle.lin_frontier.specs.Walks.{IsTriedAtMost}
use Rattle.lin_frontier.specs.lemmas.Counting.{tried_more, tried_none, tried_up}
use Rattle.lin_configurations.specs.lemmas.Visiting.{begins_from, begins_still, grown_grown, node_stays, not_grown}

-- of the early operations up to a place, one more
module _ (until : ℕ) (pending : List Open) (i : ℕ) (d : Open) (inside : i < length pending) (old : List Open) (is : old ≡ early_of until (take i pending)) where
  early_next : (b : Bool) → nat_lt (get_or pending i d).at until ≡ b → old ++ cond b (get_or pending i d ∷ []) [] ≡ early_of until (take (i + 1) pending)
  early_next b same =
      ap (λ l. l ++ cond b (get_or pending i d ∷ []) []) is ∙ ap (λ c. early_of until (take i pending) ++ cond c (get_or pending i d ∷ []) []) (sym same) ∙ sym (filter_more (λ (o : Open). nat_lt o.at until) pending i d inside)

  pub early_in : (now : List Open) → (get_or pending i d).at < until → now ≡ old ++ get_or pending i d ∷ [] → now ≡ early_of until (take (i + 1) pending)
  early_in now before pushed = pushed ∙ early_next true (lt-ltb (get_or pending i d).at until before)

  pub early_out : (now : List Open) → ((get_or pending i d).at < until → ⊥) → now ≡ old → now ≡ early_of until (take (i + 1) pending)
  early_out now late same = same ∙ sym (append-nil old) ∙ early_next false (le-ltb (get_or pending i d).at until (omega (arith, late)))

module _ {S : Type 0} (step : S → Call → S → Reply → Type 0) (observes : Call → Bool) (operation : Open) (reply : Reply) (pending : List Open) where
  abbrev done : Placed
  done = record { at = operation.at; reply = reply }

  -- what holds with nodes holds with more
  module _ (nodes after : List (ℕ × (Placed × Option ℕ))) (grown : IsGrown nodes after) where
    ahead_still : (path next : Path) (p : Placed) → IsAheadOf nodes path next p → IsAheadOf after path next p
    ahead_still path next p a = record { round = a.round; node = node_stays nodes after next.node path.node (p, Some (path.round + 1)) grown a.node; until = a.until }

    put_still : (path next : Path) (p : Placed) (round : ℕ) → IsPutIn nodes path next p round → IsPutIn after path next p round
    put_still path next p round a = record { last = a.last; node = node_stays nodes after next.node path.node (p, Some round) grown a.node; until = a.until }

    module _ (now : ℕ) (m : Member S × Path) where
      pub returned_behind_stays : (n : Member S × Path) → IsReturnedBehind step observes operation reply pending nodes now m n → IsReturnedBehind step observes operation reply pending after now m n
      returned_behind_stays n r = record { update = r.update; steps = r.steps; placed = r.placed; offers = r.offers; begins = begins_still nodes after m.1 n.1 done grown r.begins; until = r.until }

      pub returned_ahead_stays : (next : S) (n : Member S × Path) → IsReturnedAhead step observes operation reply pending nodes now m next n → IsReturnedAhead step observes operation reply pending after now m next n
      returned_ahead_stays next n r = record { update = r.update; early = r.early; steps = r.steps; state = r.state; placed = r.placed; offers = r.offers; ahead = ahead_still m.1 n.1 done r.ahead }

      pub answered_stays : (n : Member S × Path) → IsAnsweredStill step observes operation reply pending nodes now m n → IsAnsweredStill step observes operation reply pending after now m n
      answered_stays n s =
          let a = s.answered in
          record {
            answered = record { observer = a.observer; round = a.round; takes = a.takes; same = a.same; last = a.last; node = node_stays nodes after n.1.node m.1.node (done, Some a.round) grown a.node };
            until = s.until;
          }

      pub asked_behind_stays : (p : Placed) (n : Member S × Path) → IsAskedBehind step observes operation reply pending nodes now m p n → IsAskedBehind step observes operation reply pending after now m p n
      asked_behind_stays p n a = record {
        observer = a.observer;
        places = a.places;
        gives = a.gives;
        offers = a.offers;
        mid = a.mid;
        begins = begins_still nodes after m.1 a.mid p grown a.begins;
        begun = a.begun;
        puts = put_still a.mid n.1 done a.mid.round a.puts;
      }

      pub asked_ahead_stays : (p : Placed) (next : S) (n : Member S × Path) → IsAskedAhead step observes operation reply pending nodes now m p next n → IsAskedAhead step observes operation reply pending after now m p next n
      asked_ahead_stays p next n a = record {
        observer = a.observer;
        early = a.early;
        places = a.places;
        gives = a.gives;
        state = a.state;
        offers = a.offers;
        mid = a.mid;
        ahead = ahead_still m.1 a.mid p a.ahead;
        puts = put_still a.mid n.1 done m.1.round a.puts;
      }

      pub completed_with_stays : (n : Member S × Path) → IsCompletedWith step observes operation reply pending nodes now m n → IsCompletedWith step observes operation reply pending after now m n
      completed_with_stays n c = elim c [
        | inl r ↦ inl (returned_behind_stays n r)
        | inr c ↦ elim c [
          | inl r ↦ inr (inl (r.0, returned_ahead_stays r.0 n r.1))
          | inr c ↦ elim c [
            | inl a ↦ inr (inr (inl (answered_stays n a)))
            | inr c ↦ elim c [
              | inl a ↦ inr (inr (inr (inl (a.0, asked_behind_stays a.0 n a.1))))
              | inr a ↦ inr (inr (inr (inr (a.0, a.1, asked_ahead_stays a.0 a.1 n a.2))))
            ]
          ]
        ]
      ]

      pub asked_like_ahead_stays : (mid out : List (Member S × Path)) (o : Open) (answer : Reply) (next : S) → ((n : Member S × Path) → Contains mid n → Contains out n)
          → IsAskedLikeAhead step observes operation reply pending nodes now m mid o answer next → IsAskedLikeAhead step observes operation reply pending after now m out o answer next
      asked_like_ahead_stays mid out o answer next kept a = record {
        placed = a.placed;
        among = a.among;
        stands = a.stands;
        absent = a.absent;
        member = a.member;
        there = kept a.member a.there;
        asked = asked_ahead_stays (record { at = a.placed.at; reply = answer }) next a.member a.asked;
        has = a.has;
      }

  module _ (now : ℕ) (m : Member S × Path) where
    pub is_answered : (nodes : List (ℕ × (Placed × Option ℕ))) (n : Member S × Path) (round : ℕ) (p : Placed) → observes operation.call ≡ true → CanTake step operation reply m round
        → n.0 ≡ record { state = m.0.state; placed = m.0.placed; offers = watched observes pending m.0.offers } → n.1.round ≡ m.1.round → n.1.until ≡ m.1.until → p ≡ done → IsNodeOf nodes n.1.node m.1.node (p, Some round)
        → IsAnsweredStill step observes operation reply pending nodes now m n
    is_answered nodes n round p observer takes same last until is node = record {
      answered = record { observer = observer; round = round; takes = takes; same = same; last = last; node = subst (λ (r : Placed). IsNodeOf nodes n.1.node m.1.node (r, Some round)) is node };
      until = until;
    }

    -- members that were put together
    module _ (nodes : List (ℕ × (Placed × Option ℕ))) (c : S × List (ℕ × Reply)) (offers : List (ℕ × (ℕ × Reply))) (from next : Path) (at : from ≡ m.1) where
      pub is_returned_behind : (p : Placed) → c.1 ≡ m.0.placed → AreBehind step observes pending m offers → p ≡ done → BeginsRound nodes from next p → next.until ≡ now → observes operation.call ≡ false
          → step m.0.state operation.call c.0 reply → IsReturnedBehind step observes operation reply pending nodes now m ((record { state = c.0; placed = c.1; offers = offers }), next)
      is_returned_behind p placed behind is begins until update steps = record {
        update = update;
        steps = steps;
        placed = placed;
        offers = behind;
        begins = begins_from nodes m.1 from next done p at is begins.round begins.node;
        until = until;
      }

      pub is_returned_ahead : (p : Placed) (before : List Open) (made : S × List (ℕ × Reply)) → c.1 ≡ m.0.placed → before ≡ early_of m.1.until pending
          → IsOffering (GivesAny step observes before c) m.1.round (watched observes pending m.0.offers) offers → p ≡ done → IsAheadOf nodes from next p → made ≡ (m.0.state, m.0.placed) → observes operation.call ≡ false
          → operation.at < m.1.until → step m.0.state operation.call c.0 reply → IsReturnedAhead step observes operation reply pending nodes now m c.0 ((record { state = made.0; placed = made.1; offers = offers }), next)
      is_returned_ahead p before made placed early offering is ahead config update is_early steps = record {
        update = update;
        early = is_early;
        steps = steps;
        state = ap (λ (k : S × List (ℕ × Reply)). k.0) config;
        placed = ap (λ (k : S × List (ℕ × Reply)). k.1) config;
        offers = subst (λ l. IsOffering (GivesAny step observes (early_of m.1.until pending) (c.0, l)) m.1.round (watched observes pending m.0.offers) offers) placed
            (subst (λ l. IsOffering (GivesAny step observes l c) m.1.round (watched observes pending m.0.offers) offers) early offering);
        ahead = subst (λ (r : Placed). IsAheadOf nodes m.1 next r) is (subst (λ (k : Path). IsAheadOf nodes k next p) at ahead);
      }

      -- with the observer, which has the reply
      module _ (after : List (ℕ × (Placed × Option ℕ))) (grown : IsGrown nodes after) (p taken : Placed) (last : Path) (is : taken ≡ done) (round : last.round ≡ next.round) (until : last.until ≡ next.until) (observer : observes operation.call ≡ true)
          (gives : (to : S) × step c.0 operation.call to reply) where
        pub is_asked_behind : PlacesUpdate step observes pending (m.0.state, m.0.placed) p c → AreBehind step observes pending m offers → BeginsRound nodes from next p → next.until ≡ now
            → IsNodeOf after last.node next.node (taken, Some next.round) → IsAskedBehind step observes operation reply pending after now m p ((record { state = c.0; placed = c.1; offers = offers }), last)
        is_asked_behind places behind begins begun node = record {
          observer = observer;
          places = places;
          gives = gives;
          offers = behind;
          mid = next;
          begins = begins_still nodes after m.1 next p grown (subst (λ (k : Path). BeginsRound nodes k next p) at begins);
          begun = begun;
          puts = record { last = round; node = subst (λ (r : Placed). IsNodeOf after last.node next.node (r, Some next.round)) is node; until = until };
        }

        pub is_asked_ahead : (before : List Open) (made : S × List (ℕ × Reply)) (k : ℕ) → before ≡ early_of m.1.until pending → PlacesUpdate step observes before (m.0.state, m.0.placed) p c
            → IsOffering (GivesAny step observes before c) m.1.round (watched observes pending m.0.offers) offers → IsAheadOf nodes from next p → made ≡ (m.0.state, c.1) → operation.at < m.1.until → k ≡ m.1.round
            → IsNodeOf after last.node next.node (taken, Some k) → IsAskedAhead step observes operation reply pending after now m p c.0 ((record { state = made.0; placed = made.1; offers = offers }), last)
        is_asked_ahead before made k early places offering ahead config is_early same node = record {
          observer = observer;
          early = is_early;
          places = subst (λ l. PlacesUpdate step observes (early_of m.1.until pending) (m.0.state, m.0.placed) p (c.0, l)) (sym (ap (λ (x : S × List (ℕ × Reply)). x.1) config))
              (subst (λ l. PlacesUpdate step observes l (m.0.state, m.0.placed) p c) early places);
          gives = gives;
          state = ap (λ (x : S × List (ℕ × Reply)). x.0) config;
          offers = subst (λ l. IsOffering (GivesAny step observes (early_of m.1.until pending) (c.0, l)) m.1.round (watched observes pending m.0.offers) offers) (sym (ap (λ (x : S × List (ℕ × Reply)). x.1) config))
              (subst (λ l. IsOffering (GivesAny step observes l c) m.1.round (watched observes pending m.0.offers) offers) early offering);
          mid = next;
          ahead = ahead_still nodes after grown m.1 next p (subst (λ (q : Path). IsAheadOf nodes q next p) at ahead);
          puts = record {
            last = round;
            node = subst (λ (r : Placed). IsNodeOf after last.node next.node (r, Some m.1.round)) is (subst (λ j. IsNodeOf after last.node next.node (taken, Some j)) same node);
            until = until;
          };
        }

    -- nothing was added, one member was, and more were
    pub finding_none : (nodes : List (ℕ × (Placed × Option ℕ))) (out : List (Member S × Path)) → IsFindingWith step observes operation reply pending nodes now m out out
    finding_none nodes out = record { kept = λ n there. there; sound = λ n there. inl there }

    pub finding_push : (nodes : List (ℕ × (Placed × Option ℕ))) (old out : List (Member S × Path)) (n : Member S × Path) → out ≡ old ++ n ∷ [] → IsCompletedWith step observes operation reply pending nodes now m n
        → IsFindingWith step observes operation reply pending nodes now m old out
    finding_push nodes old out n pushed made = record {
      kept = λ k there. subst (λ l. Contains l k) (sym pushed) (Contains-append_left old (n ∷ []) k there);
      sound = λ k there. elim (Contains-push_cases old n k (subst (λ l. Contains l k) pushed there)) [
        | inl before ↦ inl before
        | inr same ↦ inr (subst (IsCompletedWith step observes operation reply pending nodes now m) same made)
      ];
    }

    pub finding_more : (nodes after : List (ℕ × (Placed × Option ℕ))) (old mid out : List (Member S × Path)) → IsGrown nodes after → IsFindingWith step observes operation reply pending nodes now m old mid
        → IsFindingWith step observes operation reply pending after now m mid out → IsFindingWith step observes operation reply pending after now m old out
    finding_more nodes after old mid out grown first last = record {
      kept = λ n there. last.kept n (first.kept n there);
      sound = λ n there. elim (last.sound n there) [
        | inl before ↦ elim (first.sound n before) [
          | inl in_old ↦ inl in_old
          | inr made ↦ inr (completed_with_stays nodes after grown now m n made)
        ]
        | inr made ↦ inr made
      ];
    }

    -- the update was put ahead, where it is early
    abbrev pub IsPutAhead : List (ℕ × (Placed × Option ℕ)) → List (Member S × Path) → List (Member S × Path) → S → Type 0
    IsPutAhead nodes old mid next = ((operation.at < m.1.until) × (n : Member S × Path) × (mid ≡ old ++ n ∷ []) × IsReturnedAhead step observes operation reply pending nodes now m next n)
        ⊎ ((operation.at < m.1.until → ⊥) × (mid ≡ old))

    -- and then behind
    module _ (nodes after : List (ℕ × (Placed × Option ℕ))) (old mid out : List (Member S × Path)) (next : S) (n : Member S × Path) (grown : IsGrown nodes after) (put : IsPutAhead nodes old mid next) (pushed : out ≡ mid ++ n ∷ [])
        (behind : IsReturnedBehind step observes operation reply pending after now m n) where
      last_found : IsFindingWith step observes operation reply pending after now m mid out
      last_found = finding_push after mid out n pushed (inl behind)

      pub returned_found : IsFindingWith step observes operation reply pending after now m old out
      returned_found = elim put [
        | inl a ↦ finding_more nodes after old mid out grown (finding_push nodes old mid a.1 a.2 (inr (inl (next, a.3)))) last_found
        | inr none ↦ subst (λ l. IsFindingWith step observes operation reply pending after now m l out) none.1 last_found
      ]

      all_returned : n.0.state ≡ next → AreReturned step observes operation reply pending after now m out next
      all_returned same = record {
        behind = (n, subst (λ l. Contains l n) (sym pushed) (Contains-push mid n), behind, same);
        ahead = λ early. elim put [
          | inl a ↦ (a.1, last_found.kept a.1 (subst (λ l. Contains l a.1) (sym a.2) (Contains-push old a.1)), returned_ahead_stays nodes after grown now m next a.1 a.3)
          | inr none ↦ absurd (none.0 early)
        ];
      }

      -- it leads to no other state
      pub returned_all : {start : S} → IsOverwriting start step observes → n.0.state ≡ next → (other : S) → step m.0.state operation.call other reply → AreReturned step observes operation reply pending after now m out other
      returned_all overwritten same other steps =
          let only = (overwritten operation.call behind.update m.0.state m.0.state n.0.state reply behind.steps).1 other reply steps in
          subst (AreReturned step observes operation reply pending after now m out) (sym (only.0 ∙ same)) (all_returned same)

    -- early updates were asked, where the observer is early
    abbrev pub AreAskedAhead : List (ℕ × (Placed × Option ℕ)) → List (Member S × Path) → Type 0
    AreAskedAhead nodes out = (o : Open) (p : Placed) (d : S × List (ℕ × Reply)) → Contains (early_of m.1.until pending) o → PlacesIfUpdate step observes o (m.0.state, m.0.placed) p d → ((last : S) × step d.0 operation.call last reply)
        → IsAskedLikeAhead step observes operation reply pending nodes now m out o p.reply d.0

    abbrev pub AreAskedBehind : List (ℕ × (Placed × Option ℕ)) → List (Member S × Path) → Type 0
    AreAskedBehind nodes out = (o : Open) (p : Placed) (d : S × List (ℕ × Reply)) → Contains pending o → PlacesIfUpdate step observes o (m.0.state, m.0.placed) p d → ((last : S) × step d.0 operation.call last reply)
        → IsAskedLikeBehind step observes operation reply pending nodes now m out o p.reply d.0

    abbrev pub IsAskedEarly : List (ℕ × (Placed × Option ℕ)) → List (Member S × Path) → List (Member S × Path) → Type 0
    IsAskedEarly nodes old mid = ((operation.at < m.1.until) × IsFindingWith step observes operation reply pending nodes now m old mid × AreAskedAhead nodes mid) ⊎ ((operation.at < m.1.until → ⊥) × (mid ≡ old))

    -- and then all
    module _ (nodes after : List (ℕ × (Placed × Option ℕ))) (old mid out : List (Member S × Path)) (grown : IsGrown nodes after) (early : IsAskedEarly nodes old mid) (finding : IsFindingWith step observes operation reply pending after now m mid out) where
      pub observed_found : IsFindingWith step observes operation reply pending after now m old out
      observed_found = elim early [
        | inl a ↦ finding_more nodes after old mid out grown a.1 finding
        | inr none ↦ subst (λ l. IsFindingWith step observes operation reply pending after now m l out) none.1 finding
      ]

      pub observed_all : ((round : ℕ) → CanTake step operation reply m round → ⊥) → AreAskedBehind after out → AreAsked step observes operation reply pending after now m out
      observed_all never behind = record {
        never = never;
        behind = behind;
        ahead = λ is_early o p d among places gives. elim early [
          | inl a ↦ asked_like_ahead_stays nodes after grown now m mid out o p.reply d.0 finding.kept (a.2 o p d among places gives)
          | inr none ↦ absurd (none.0 is_early)
        ];
      }

    -- of what updates make of the member, `rest` is still to be looked at; each that gives the observer its reply leads to a member that R tells of
    pub record IsAsking (R : List (ℕ × (Placed × Option ℕ)) → (S × List (ℕ × Reply)) × Placed → Member S × Path → Type 0) (all rest : List ((S × List (ℕ × Reply)) × Placed)) (first nodes : List (ℕ × (Placed × Option ℕ))) (old out : List (Member S × Path)) : Type 0 where
      pub nodes_grown : IsGrown first nodes
      pub from_rest : (x : (S × List (ℕ × Reply)) × Placed) → Contains rest x → Contains all x
      pub finding : IsFindingWith step observes operation reply pending nodes now m old out
      pub taken : (x : (S × List (ℕ × Reply)) × Placed) → Contains all x → ((last : S) × step x.0.0 operation.call last reply) → Contains rest x ⊎ ((n : Member S × Path) × Contains out n × R nodes x n)

    module _ (R : List (ℕ × (Placed × Option ℕ)) → (S × List (ℕ × Reply)) × Placed → Member S × Path → Type 0)
        (stays : (nodes after : List (ℕ × (Placed × Option ℕ))) (x : (S × List (ℕ × Reply)) × Placed) (n : Member S × Path) → IsGrown nodes after → R nodes x n → R after x n)
        (completes : (nodes : List (ℕ × (Placed × Option ℕ))) (x : (S × List (ℕ × Reply)) × Placed) (n : Member S × Path) → R nodes x n → IsCompletedWith step observes operation reply pending nodes now m n)
        (all : List ((S × List (ℕ × Reply)) × Placed)) (first : List (ℕ × (Placed × Option ℕ))) (old : List (Member S × Path)) where
      asking_start : IsAsking R all all first first old old
      asking_start = record { nodes_grown = not_grown first; from_rest = λ x there. there; finding = finding_none first old; taken = λ x there gives. inl there }

      module _ (more rest : List ((S × List (ℕ × Reply)) × Placed)) (nodes : List (ℕ × (Placed × Option ℕ))) (out : List (Member S × Path)) (x : (S × List (ℕ × Reply)) × Placed) (popped : more ≡ rest ++ x ∷ []) (h : IsAsking R all more first nodes old out) where
        in_more : (y : (S × List (ℕ × Reply)) × Placed) → Contains rest y → Contains more y
        in_more y there = subst (λ l. Contains l y) (sym popped) (Contains-append_left rest (x ∷ []) y there)

        asking_skip : (((last : S) × step x.0.0 operation.call last reply) → ⊥) → IsAsking R all rest first nodes old out
        asking_skip never = record {
          nodes_grown = h.nodes_grown;
          from_rest = λ y there. h.from_rest y (in_more y there);
          finding = h.finding;
          taken = λ y there gives. elim (h.taken y there gives) [
            | inl in_more' ↦ elim (Contains-push_cases rest x y (subst (λ l. Contains l y) popped in_more')) [
              | inl in_rest ↦ inl in_rest
              | inr same ↦ absurd (never (subst (λ (z : (S × List (ℕ × Reply)) × Placed). (last : S) × step z.0.0 operation.call last reply) (sym same) gives))
            ]
            | inr found ↦ inr found
          ];
        }

        asking_push : (after : List (ℕ × (Placed × Option ℕ))) (then' : List (Member S × Path)) (n : Member S × Path) → IsGrown nodes after → then' ≡ out ++ n ∷ [] → R after x n → IsAsking R all rest first after old then'
        asking_push after then' n grown pushed r = record {
          nodes_grown = grown_grown first nodes after h.nodes_grown grown;
          from_rest = λ y there. h.from_rest y (in_more y there);
          finding = finding_more nodes after old out then' grown h.finding last;
          taken = λ y there gives. elim (h.taken y there gives) [
            | inl in_more' ↦ elim (Contains-push_cases rest x y (subst (λ l. Contains l y) popped in_more')) [
              | inl in_rest ↦ inl in_rest
              | inr same ↦ inr (n, subst (λ l. Contains l n) (sym pushed) (Contains-push out n), subst (λ (z : (S × List (ℕ × Reply)) × Placed). R after z n) same r)
            ]
            | inr found ↦ inr (found.0, last.kept found.0 found.1, stays nodes after y found.0 grown found.2)
          ];
        }
          where
            last : IsFindingWith step observes operation reply pending after now m out then'
            last = finding_push after out then' n pushed (completes after x n r)

      asking_end : (nodes : List (ℕ × (Placed × Option ℕ))) (rest : List ((S × List (ℕ × Reply)) × Placed)) (out : List (Member S × Path)) → length rest ≡ 0 → IsAsking R all rest first nodes old out
          → (x : (S × List (ℕ × Reply)) × Placed) → Contains all x → ((last : S) × step x.0.0 operation.call last reply) → (n : Member S × Path) × Contains out n × R nodes x n
      asking_end nodes rest out none h x there gives = elim (h.taken x there gives) [
        | inl in_rest ↦ absurd (let inside = in_rest.1 in omega arith)
        | inr found ↦ found
      ]

    -- a member that is asked for behind, and one that is ahead
    abbrev pub AskedBehind : List (ℕ × (Placed × Option ℕ)) → (S × List (ℕ × Reply)) × Placed → Member S × Path → Type 0
    AskedBehind nodes x n = IsAskedBehind step observes operation reply pending nodes now m x.1 n × (n.0.state ≡ x.0.0) × (n.0.placed ≡ x.0.1)

    abbrev pub AskedAhead : List (ℕ × (Placed × Option ℕ)) → (S × List (ℕ × Reply)) × Placed → Member S × Path → Type 0
    AskedAhead nodes x n = IsAskedAhead step observes operation reply pending nodes now m x.1 x.0.0 n × (n.0.placed ≡ x.0.1)

    module _ (all : List ((S × List (ℕ × Reply)) × Placed)) (first : List (ℕ × (Placed × Option ℕ))) (old : List (Member S × Path)) where
      behind_stays : (nodes after : List (ℕ × (Placed × Option ℕ))) (x : (S × List (ℕ × Reply)) × Placed) (n : Member S × Path) → IsGrown nodes after → AskedBehind nodes x n → AskedBehind after x n
      behind_stays nodes after x n grown a = (asked_behind_stays nodes after grown now m x.1 n a.0, a.1, a.2)

      behind_completes : (nodes : List (ℕ × (Placed × Option ℕ))) (x : (S × List (ℕ × Reply)) × Placed) (n : Member S × Path) → AskedBehind nodes x n → IsCompletedWith step observes operation reply pending nodes now m n
      behind_completes nodes x n a = inr (inr (inr (inl (x.1, a.0))))

      ahead_stays : (nodes after : List (ℕ × (Placed × Option ℕ))) (x : (S × List (ℕ × Reply)) × Placed) (n : Member S × Path) → IsGrown nodes after → AskedAhead nodes x n → AskedAhead after x n
      ahead_stays nodes after x n grown a = (asked_ahead_stays nodes after grown now m x.1 x.0.0 n a.0, a.1)

      ahead_completes : (nodes : List (ℕ × (Placed × Option ℕ))) (x : (S × List (ℕ × Reply)) × Placed) (n : Member S × Path) → AskedAhead nodes x n → IsCompletedWith step observes operation reply pending nodes now m n
      ahead_completes nodes x n a = inr (inr (inr (inr (x.1, x.0.0, a.0))))

      pub behind_start : IsAsking AskedBehind all all first first old old
      behind_start = asking_start AskedBehind behind_stays behind_completes all first old

      pub ahead_start : IsAsking AskedAhead all all first first old old
      ahead_start = asking_start AskedAhead ahead_stays ahead_completes all first old

      module _ (more rest : List ((S × List (ℕ × Reply)) × Placed)) (nodes : List (ℕ × (Placed × Option ℕ))) (out : List (Member S × Path)) (x : (S × List (ℕ × Reply)) × Placed) (popped : more ≡ rest ++ x ∷ []) where
        pub behind_skip : (((last : S) × step x.0.0 operation.call last reply) → ⊥) → IsAsking AskedBehind all more first nodes old out → IsAsking AskedBehind all rest first nodes old out
        behind_skip never h = asking_skip AskedBehind behind_stays behind_completes all first old more rest nodes out x popped h never

        pub ahead_skip : (((last : S) × step x.0.0 operation.call last reply) → ⊥) → IsAsking AskedAhead all more first nodes old out → IsAsking AskedAhead all rest first nodes old out
        ahead_skip never h = asking_skip AskedAhead ahead_stays ahead_completes all first old more rest nodes out x popped h never

        pub behind_push : (after : List (ℕ × (Placed × Option ℕ))) (then' : List (Member S × Path)) (n : Member S × Path) → IsGrown nodes after → then' ≡ out ++ n ∷ [] → AskedBehind after x n
            → IsAsking AskedBehind all more first nodes old out → IsAsking AskedBehind all rest first after old then'
        behind_push after then' n grown pushed r h = asking_push AskedBehind behind_stays behind_completes all first old more rest nodes out x popped h after then' n grown pushed r

        pub ahead_push : (after : List (ℕ × (Placed × Option ℕ))) (then' : List (Member S × Path)) (n : Member S × Path) → IsGrown nodes after → then' ≡ out ++ n ∷ [] → AskedAhead after x n
            → IsAsking AskedAhead all more first nodes old out → IsAsking AskedAhead all rest first after old then'
        ahead_push after then' n grown pushed r h = asking_push AskedAhead ahead_stays ahead_completes all first old more rest nodes out x popped h after then' n grown pushed r

      module _ (nodes : List (ℕ × (Placed × Option ℕ))) (rest : List ((S × List (ℕ × Reply)) × Placed)) (out : List (Member S × Path)) (none : length rest ≡ 0) (o : Open) (p : Placed) (d : S × List (ℕ × Reply)) where
        pub behind_end : AreUpdates step observes pending (m.0.state, m.0.placed) all → IsAsking AskedBehind all rest first nodes old out → Contains pending o → PlacesIfUpdate step observes o (m.0.state, m.0.placed) p d
            → ((last : S) × step d.0 operation.call last reply) → IsAskedLikeBehind step observes operation reply pending nodes now m out o p.reply d.0
        behind_end updates h among places gives =
            let k = updates.complete o p d among places in
            let f = asking_end AskedBehind behind_stays behind_completes all first old nodes rest out none h ((d.0, insert_pair k.placed.process p.reply m.0.placed), (record { at = k.placed.at; reply = p.reply })) k.has gives in
            record {
              placed = k.placed;
              among = k.among;
              stands = k.stands;
              absent = k.absent;
              member = f.0;
              there = f.1;
              asked = f.2.0;
              state = f.2.1;
              has = f.2.2;
            }

        pub ahead_end : AreUpdates step observes (early_of m.1.until pending) (m.0.state, m.0.placed) all → IsAsking AskedAhead all rest first nodes old out → Contains (early_of m.1.until pending) o
            → PlacesIfUpdate step observes o (m.0.state, m.0.placed) p d → ((last : S) × step d.0 operation.call last reply) → IsAskedLikeAhead step observes operation reply pending nodes now m out o p.reply d.0
        ahead_end updates h among places gives =
            let k = updates.complete o p d among places in
            let f = asking_end AskedAhead ahead_stays ahead_completes all first old nodes rest out none h ((d.0, insert_pair k.placed.process p.reply m.0.placed), (record { at = k.placed.at; reply = p.reply })) k.has gives in
            record { placed = k.placed; among = k.among; stands = k.stands; absent = k.absent; member = f.0; there = f.1; asked = f.2.0; has = f.2.1 }

-- early operations are no more
pub early_fewer : (until : ℕ) (xs : List Open) → length (early_of until xs) ≤ length xs
early_fewer until [] = omega arith
early_fewer until (x ∷ xs) = by (nat_lt x.at until) (early_fewer until xs)
  where
    by : (b : Bool) → length (early_of until xs) ≤ length xs → length (cond b (x ∷ early_of until xs) (early_of until xs)) ≤ suc (length xs)
    by true less = omega arith
    by false less = omega arith

pub early_tried : (before : List Open) (until : ℕ) (pending : List Open) (old new : Meter) → before ≡ early_of until pending → IsTriedAtMost (length before) old new → IsTriedAtMost (length pending) old new
early_tried before until pending old new is tried = tried_up (length before) (length pending) old new (omega (arith, ap length is, early_fewer until pending)) tried

-- for each of at most so many configurations, of which some are left, it was tried whether it gives the reply, and what it leaves on offer
pub record IsCounting (most left : ℕ) (old new : Meter) : Type 0 where
  pub turns : ℕ
  pub within : turns + left ≤ most
  pub tried : IsTriedAtMost (most + turns * (most + 1)) old new

pub counting_start : (most left : ℕ) (old new : Meter) → left ≤ most → IsTriedAtMost most old new → IsCounting most left old new
counting_start most left old new within tried = record { turns = 0; within = omega (arith, within); tried = tried_more most 0 (most + 0 * (most + 1)) old new new (omega arith) tried (tried_none 0 new) }

pub counting_turn : {X : Type 0} (most : ℕ) (more rest : List X) (x : X) (tries : ℕ) (old mid new : Meter) → more ≡ rest ++ x ∷ [] → tries ≤ most + 1 → IsCounting most (length more) old mid → IsTriedAtMost tries mid new
    → IsCounting most (length rest) old new
counting_turn most more rest x tries old mid new popped few h tried =
    let w = h.within in
    record {
      turns = h.turns + 1;
      within = omega (arith, w, ap length popped, length-append rest (x ∷ []));
      tried = tried_more (most + h.turns * (most + 1)) (most + 1) (most + (h.turns + 1) * (most + 1)) old mid new (omega arith) h.tried (tried_up tries (most + 1) mid new few tried);
    }

pub counting_end : (most left : ℕ) (old new : Meter) → IsCounting most left old new → IsTriedAtMost (most * (most + 2)) old new
counting_end most left old new h =
    let w = h.within in
    let q = mul-le h.turns (most + 1) most (most + 1) (omega arith) (omega arith) in
    tried_up (most + h.turns * (most + 1)) (most * (most + 2)) old new (omega arith) h.tried

-- of a call that may be refused
pub ok_both : {X E : Type 0} (r : Result X E) (P Q R : Type 0) → (P → Q → R) → OnOk r P → OnOk r Q → OnOk r R
ok_both (Ok x) P Q R f p q = f p q
ok_both (Err e) P Q R f p q = p

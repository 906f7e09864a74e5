-- What a completion makes of all members where the object is overwritten, taken in turn.
use Rattle.std.proofs.Common.{◌≡◌, ℕ, ◌+◌, ◌<◌, ◌≤◌, Bool, List, [], ◌∷◌, ◌++◌, length, Contains, inl, inr, sym, subst, arith, get_or, take, Option}
use Rattle.std.proofs.lemmas.List.Elements.{Contains-append_left, Contains-append_right, Contains-append_cases, Contains-push, Contains-push_cases}
use Rattle.lin_events.specs.declared.calls.Call.{Call}
use Rattle.lin_events.specs.declared.calls.Reply.{Reply}
use Rattle.lin_order.specs.declared.placed.Placed.{Placed}
use Rattle.lin_members.specs.declared.members.Path.{Path}
use Rattle.lin_frontier.specs.declared.pending.Open.{Open}
use Rattle.lin_members.specs.Asking.{AreFoundWith, IsCompletedWith, IsFindingWith, IsReturnWith}
use Rattle.lin_members.specs.Members.{Member}
use Rattle.lin_frontier.specs.Nodes.{IsGrown}
use Rattle.lin_frontier.specs.Placing.{IsAbsent}
use Rattle.lin_members.specs.Searching.{rest_of, IsMade}
use Rattle.lin_compressed_frontier.proofs.Placings.{answered_stays, asked_behind_stays, asked_like_ahead_stays, completed_with_stays, returned_ahead_stays, returned_behind_stays}
use Rattle.lin_frontier.specs.lemmas.Trying.{take_all, take_next}
use Rattle.lin_configurations.specs.lemmas.Visiting.{grown_grown, not_grown}

module _ {S : Type 0} (step : S → Call → S → Reply → Type 0) (observes : Call → Bool) (operation : Open) (reply : Reply) (pending : List Open) (now : ℕ) where
  -- what was found stays found, with more nodes and more members
  module _ (nodes after : List (ℕ × (Placed × Option ℕ))) (grown : IsGrown nodes after) (m : Member S × Path) (out more : List (Member S × Path)) (kept : (n : Member S × Path) → Contains out n → Contains more n) where
    pub found_with_stays : AreFoundWith step observes operation reply pending nodes now m out → AreFoundWith step observes operation reply pending after now m more
    found_with_stays f = record {
      returns = λ update next steps. let r = f.returns update next steps in record {
        behind = (r.behind.0, kept r.behind.0 r.behind.1, returned_behind_stays step observes operation reply pending nodes after grown now m r.behind.0 r.behind.2, r.behind.3);
        ahead = λ early. let a = r.ahead early in (a.0, kept a.0 a.1, returned_ahead_stays step observes operation reply pending nodes after grown now m next a.0 a.2);
      };
      asks = λ observer. elim (f.asks observer) [
        | inl a ↦ inl (a.0, kept a.0 a.1, answered_stays step observes operation reply pending nodes after grown now m a.0 a.2)
        | inr a ↦ inr (record {
          never = a.never;
          behind = λ o p d there places gives. let l = a.behind o p d there places gives in record {
            placed = l.placed;
            among = l.among;
            stands = l.stands;
            absent = l.absent;
            member = l.member;
            there = kept l.member l.there;
            asked = asked_behind_stays step observes operation reply pending nodes after grown now m (record { at = l.placed.at; reply = p.reply }) l.member l.asked;
            state = l.state;
            has = l.has;
          };
          ahead = λ early o p d there places gives. asked_like_ahead_stays step observes operation reply pending nodes after grown now m out more o p.reply d.0 kept (a.ahead early o p d there places gives);
        })
      ];
    }

  -- of these members all is found
  pub record IsReturningAll (members : List (Member S × Path)) (first nodes : List (ℕ × (Placed × Option ℕ))) (out : List (Member S × Path)) : Type 0 where
    pub nodes_grown : IsGrown first nodes
    pub sound : (n : Member S × Path) → Contains out n → (m : Member S × Path) × Contains members m × IsAbsent operation.process m.0.placed × IsCompletedWith step observes operation reply pending nodes now m n
    pub all : (m : Member S × Path) → Contains members m → IsAbsent operation.process m.0.placed → AreFoundWith step observes operation reply pending nodes now m out

  pub returning_none : (nodes : List (ℕ × (Placed × Option ℕ))) (out : List (Member S × Path)) → out ≡ [] → IsReturningAll [] nodes nodes out
  returning_none nodes out empty = record {
    nodes_grown = not_grown nodes;
    sound = λ n there. absurd (let inside = (subst (λ l. Contains l n) empty there).1 in omega arith);
    all = λ m there absent. absurd (let inside = there.1 in omega arith);
  }

  module _ (members : List (Member S × Path)) (i : ℕ) (x : Member S × Path) (inside : i < length members) (is : x ≡ get_or members i x) (first nodes : List (ℕ × (Placed × Option ℕ))) (out : List (Member S × Path)) where
    -- the next one placed the operation
    pub returning_skip : (IsAbsent operation.process x.0.placed → ⊥) → IsReturningAll (take i members) first nodes out → IsReturningAll (take (i + 1) members) first nodes out
    returning_skip placed r = subst (λ l. IsReturningAll l first nodes out) (sym (take_next members i x inside is)) (record {
      nodes_grown = r.nodes_grown;
      sound = λ n there. let s = r.sound n there in (s.0, Contains-append_left (take i members) (x ∷ []) s.0 s.1, s.2, s.3);
      all = λ m there absent. elim (Contains-push_cases (take i members) x m there) [
        | inl before ↦ r.all m before absent
        | inr same ↦ absurd (placed (subst (λ (k : Member S × Path). IsAbsent operation.process k.0.placed) (sym same) absent))
      ];
    })

    -- all was found of it
    pub returning_next : (after : List (ℕ × (Placed × Option ℕ))) (more : List (Member S × Path)) → IsAbsent operation.process x.0.placed → IsGrown nodes after → IsFindingWith step observes operation reply pending after now x out more
        → AreFoundWith step observes operation reply pending after now x more → IsReturningAll (take i members) first nodes out → IsReturningAll (take (i + 1) members) first after more
    returning_next after more absent grown finding found r = subst (λ l. IsReturningAll l first after more) (sym (take_next members i x inside is)) (record {
      nodes_grown = grown_grown first nodes after r.nodes_grown grown;
      sound = λ n there. elim (finding.sound n there) [
        | inl before ↦
            let s = r.sound n before in
            (s.0, Contains-append_left (take i members) (x ∷ []) s.0 s.1, s.2, completed_with_stays step observes operation reply pending nodes after grown now s.0 n s.3)
        | inr made ↦ (x, Contains-push (take i members) x, absent, made)
      ];
      all = λ m there free. elim (Contains-push_cases (take i members) x m there) [
        | inl before ↦ found_with_stays nodes after grown m out more finding.kept (r.all m before free)
        | inr same ↦ subst (λ k. AreFoundWith step observes operation reply pending after now k more) same found
      ];
    })

  pub returning_all : (members : List (Member S × Path)) (i : ℕ) (first nodes : List (ℕ × (Placed × Option ℕ))) (out : List (Member S × Path)) → length members ≤ i → IsReturningAll (take i members) first nodes out
      → IsReturningAll members first nodes out
  returning_all members i first nodes out past r = subst (λ l. IsReturningAll l first nodes out) (take_all i members past) r

  -- with the members that placed the operation, without it
  pub return_with : (members found made out : List (Member S × Path)) (nodes : List (ℕ × (Placed × Option ℕ)))
      → ((n : Member S × Path) → Contains found n → (m : Member S × Path) × Contains members m × IsAbsent operation.process m.0.placed × IsCompletedWith step observes operation reply pending nodes now m n)
      → ((m : Member S × Path) → Contains members m → IsAbsent operation.process m.0.placed → AreFoundWith step observes operation reply pending nodes now m found)
      → IsMade (λ m. Contains m.0.placed (operation.process, reply)) (rest_of observes pending operation.process) members made → out ≡ found ++ made
      → IsReturnWith step observes operation reply pending nodes now members out
  return_with members found made out nodes sound all taken both = subst (IsReturnWith step observes operation reply pending nodes now members) (sym both) (record {
    taken = λ m there placed. Contains-append_right found made _ (taken.complete m there placed);
    found = λ m there absent. found_with_stays nodes nodes (not_grown nodes) m found (found ++ made) (λ n within. Contains-append_left found made n within) (all m there absent);
    sound = λ n there. elim (Contains-append_cases found made n there) [
      | inl in_found ↦ let s = sound n in_found in (s.0, s.1, inr (s.2, s.3))
      | inr in_made ↦ let s = taken.sound n in_made in (s.0, s.1, inl (s.2, s.3))
    ];
  })

-- Members taken into a list where none of it holds their configuration.
use Rattle.std.proofs.Common.{◌≡◌, ◌≢◌, ◌⊎◌, ℕ, zero, suc, Bool, List, [], ◌∷◌, ◌++◌, length, map, Contains, All, get_or, inl, inr, refl, sym, subst, ◌∙◌, arith, Option, Some, None, IfNone, IfSome}
use Rattle.std.proofs.lemmas.List.Elements.{All-pop, Contains-append_left, Contains-get_or, Contains-push, Contains-push_cases}
use Rattle.std.proofs.lemmas.List.Quantifiers.{all_pairs_push}
use Rattle.lin_events.specs.declared.calls.Call.{Call}
use Rattle.lin_events.specs.declared.calls.Reply.{Reply}
use Rattle.lin_events.specs.declared.events.Event.{Event}
use Rattle.lin_order.specs.declared.placed.Placed.{Placed}
use Rattle.lin_members.specs.declared.members.Path.{Path}
use Rattle.lin_frontier.specs.declared.pending.Open.{Open}
use Rattle.lin_members.specs.Compressed.{IsSpelled}
use Rattle.lin_members.specs.Listed.{config_of, with_offers, AreDifferent, IsHeld, IsMerged}
use Rattle.lin_members.specs.Members.{Member}
use Rattle.lin_configurations.proofs.Expanding.{holds_own, held_more}
use Rattle.lin_lists.specs.lemmas.Filters.{in_map}

pub none_maps : {X A B : Type 0} (o : Option X) → (A → B) → IfNone o A → IfNone o B
none_maps None f is = f is
none_maps (Some x) f is = is

pub some_maps : {X : Type 0} (o : Option X) (P Q R : X → Type 0) → ((x : X) → P x → Q x → R x) → IfSome o P → IfSome o Q → IfSome o R
some_maps None P Q R f p q = tt
some_maps (Some x) P Q R f p q = f x p q

-- one member is different from no other
pub alone_different : {S : Type 0} (m : Member S × Path) → AreDifferent (m ∷ [])
alone_different m i j d below inside = absurd (omega arith)

pub alone_bare : {S : Type 0} (m : Member S × Path) → All (λ (n : Member S × Path). n.0.offers ≡ []) (with_offers [] m ∷ [])
alone_bare m zero d inside = refl
alone_bare m (suc i) d inside = absurd (omega arith)

-- one member without its offers, which may be taken from it
pub alone_spelled : {S : Type 0} (start : S) (step : S → Call → S → Reply → Type 0) (observes : Call → Bool) (h : List Event) (nodes : List (ℕ × (Placed × Option ℕ))) (m : Member S × Path) (starts : List (Member S × Path))
    → starts ≡ with_offers [] m ∷ [] → IsSpelled start step observes h nodes m → All (λ k. IsSpelled start step observes h nodes (with_offers m.0.offers k)) starts
alone_spelled start step observes h nodes m starts is spelled = subst (All (λ (k : Member _ × Path). IsSpelled start step observes h nodes (with_offers m.0.offers k))) (sym is) one
  where
    one : All (λ (k : Member _ × Path). IsSpelled start step observes h nodes (with_offers m.0.offers k)) (with_offers [] m ∷ [])
    one zero d inside = spelled
    one (suc i) d inside = absurd (omega arith)

module _ {S : Type 0} (observes : Call → Bool) (pending : List Open) where
  -- of the others, `rest` are still to be taken in
  pub record IsMerging (others rest old now : List (Member S × Path)) : Type 0 where
    pub bare : All (λ m. m.0.offers ≡ []) rest
    pub rest_of : (m : Member S × Path) → Contains rest m → Contains others m
    pub kept : (m : Member S × Path) → Contains old m → Contains now m
    pub from : (m : Member S × Path) → Contains now m → Contains old m ⊎ Contains others m
    pub different : AreDifferent old → AreDifferent now
    pub held : (m : Member S × Path) → Contains others m → Contains rest m ⊎ IsHeld observes pending now (config_of m)

  module _ (others old : List (Member S × Path)) where
    pub merging_start : All (λ m. m.0.offers ≡ []) others → IsMerging others others old old
    merging_start bare = record {
      bare = bare;
      rest_of = λ m there. there;
      kept = λ m there. there;
      from = λ m there. inl there;
      different = λ all. all;
      held = λ m there. inl there;
    }

    module _ (more rest now : List (Member S × Path)) (x : Member S × Path) (popped : more ≡ rest ++ x ∷ []) (h : IsMerging others more old now) where
      parts : All (λ (m : Member S × Path). m.0.offers ≡ []) rest × (x.0.offers ≡ [])
      parts = All-pop (λ (m : Member S × Path). m.0.offers ≡ []) more rest (Some x) popped h.bare

      rest_still : (m : Member S × Path) → Contains rest m → Contains others m
      rest_still m there = h.rest_of m (subst (λ l. Contains l m) (sym popped) (Contains-append_left rest (x ∷ []) m there))

      -- the member is held by one that dominates it
      pub merging_skip : (c : S × List (ℕ × Reply)) → c ≡ config_of x → IsHeld observes pending now c → IsMerging others rest old now
      merging_skip c same held_there = record {
        bare = parts.0;
        rest_of = rest_still;
        kept = h.kept;
        from = h.from;
        different = h.different;
        held = λ m within. elim (h.held m within) [
          | inl in_more ↦ elim (Contains-push_cases rest x m (subst (λ l. Contains l m) popped in_more)) [
            | inl in_rest ↦ inl in_rest
            | inr is ↦ inr (subst (λ (k : Member S × Path). IsHeld observes pending now (config_of k)) is (subst (IsHeld observes pending now) same held_there))
          ]
          | inr held ↦ inr held
        ];
      }

      pub merging_push : (then' : List (Member S × Path)) (c : S × List (ℕ × Reply)) → c ≡ config_of x → (Contains (map config_of now) c → ⊥)
          → then' ≡ now ++ x ∷ [] → IsMerging others rest old then'
      merging_push then' c same never pushed = record {
        bare = parts.0;
        rest_of = rest_still;
        kept = λ m there. subst (λ l. Contains l m) (sym pushed) (Contains-append_left now (x ∷ []) m (h.kept m there));
        from = λ m there. elim (Contains-push_cases now x m (subst (λ l. Contains l m) pushed there)) [
          | inl before ↦ h.from m before
          | inr is ↦ inr (subst (Contains others) is (h.rest_of x (subst (λ l. Contains l x) (sym popped) (Contains-push rest x))))
        ];
        different = λ all. subst AreDifferent (sym pushed) (all_pairs_push (λ (k m : Member S × Path). config_of k ≢ config_of m) now x (h.different all)
            (λ k d inside is. never (subst (Contains (map config_of now)) (is ∙ sym same) (in_map config_of now (get_or now k d) (Contains-get_or now k d inside)))));
        held = λ m within. elim (h.held m within) [
          | inl in_more ↦ elim (Contains-push_cases rest x m (subst (λ l. Contains l m) popped in_more)) [
            | inl in_rest ↦ inl in_rest
            | inr is ↦ inr (subst (λ (k : Member S × Path). IsHeld observes pending then' (config_of k)) is (x, subst (λ l. Contains l x) (sym pushed) (Contains-push now x), holds_own observes pending x (config_of x) refl))
          ]
          | inr held ↦ inr (held_more observes pending now (x ∷ []) then' (config_of m) pushed held)
        ];
      }

    pub merging_end : (rest now : List (Member S × Path)) → length rest ≡ 0 → IsMerging others rest old now → IsMerged observes pending others old now
    merging_end rest now none h = record {
      kept = h.kept;
      from = h.from;
      different = h.different;
      held = λ m there. elim (h.held m there) [
        | inl in_rest ↦ absurd (let inside = in_rest.1 in omega arith)
        | inr held ↦ held
      ];
    }

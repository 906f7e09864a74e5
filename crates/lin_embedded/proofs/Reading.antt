-- What a recorder has read, step by step.
use Rattle.std.proofs.Common.{◌≡◌, ◌<◌, ◌≤◌, ◌+◌, ◌∷◌, ◌++◌, [], ℕ, Bool, List, Option, None, Some, length, take, inl, inr, sym, ap, subst, ◌∙◌, arith, append_assoc, append-nil, length-append, lt-ltb, le-ltb, true, false}
use Rattle.std.proofs.lemmas.Bool.{ltb-false, ltb-true}
use Rattle.std.specs.Prelude.{nat_lt}
use Rattle.std.proofs.Math.Seq.{take-append_seam}
use Rattle.std.proofs.lemmas.List.{take_all}
use Rattle.lin_events.specs.declared.events.Event.{Event}
use Rattle.lin_names.specs.Names.{AreEachOnce, Begins, IsSpelling}
use Rattle.lin_names.specs.lemmas.Begins.{agrees_before}
use Rattle.lin_history.specs.Reading.{Reading}
use Rattle.lin_history.specs.Sees.{Followed, IsAsBefore, IsTakenIn, Sees}
use Rattle.lin_answers.specs.Edits.{Present}
use Rattle.lin_session.specs.Sessions.{Standing}
use Rattle.lin_formats.specs.Inputs.{limit}
use Rattle.lin_texts.specs.declared.settings.Settings.{Settings}
use Rattle.lin_embedded.specs.Recorders.{HasRead, Saying, held, opened}
use Rattle.lin_embedded.specs.inner.Waiting.{IsBroughtIn, TakesNext}
use Rattle.lin_embedded.specs.declared.recorder.Recorder.{Recorder}

-- no spelling has two numbers where none has one
none_spelled : (w : List ℕ) (n : ℕ) → IsSpelling [] w n → ⊥
none_spelled w n is = cc

no_names : AreEachOnce []
no_names m n w first second = absurd (none_spelled w m first)

-- before the first piece
pub read_none : (settings : Settings) (session : Standing) (names : List (List ℕ)) (follow : Followed) → session.present ≡ opened settings [] → names ≡ []
    → follow.keyed ≡ settings.keyed → ((m : Reading) → m.keyed ≡ settings.keyed → Sees m follow [] [])
    → HasRead settings (record { session = session; names = names; follow = follow; in_hand = None }) []
read_none settings session names follow present none keyed sees =
    let empty : session.present.history ≡ [] = ap (λ p. p.history) present in
    record {
      present = present ∙ ap (opened settings) (sym empty);
      few = subst (λ (h : List Event). length h ≤ limit) (sym empty) (omega arith);
      keyed = keyed;
      once = subst AreEachOnce (sym none) no_names;
      sees = λ m is. subst (λ (h : List Event). Sees m follow [] (h ++ [])) (sym empty) (sees m (is.0 ∙ keyed));
    }

-- one more event goes from what waits into the history
pub one_more : (settings : Settings) (bytes : List ℕ) (s s' : Standing) (names : List (List ℕ)) (f f' : Followed) (hand hand' : Option Event) (event : Event)
    → HasRead settings (record { session = s; names = names; follow = f; in_hand = hand }) bytes → TakesNext hand hand' f f' (Some event)
    → length s.present.history < limit → s'.present ≡ record s.present { history = s.present.history ++ event ∷ [] }
    → HasRead settings (record { session = s'; names = names; follow = f'; in_hand = hand' }) bytes
one_more settings bytes s s' names f f' hand hand' event read took room put =
    let h = s.present.history in
    let longer : s'.present.history ≡ h ++ event ∷ [] = ap (λ p. p.history) put in
    let size : length s'.present.history ≡ length h + 1 = ap length longer ∙ length-append h (event ∷ []) in
    record {
      present = put ∙ ap (λ (p : Present). record p { history = h ++ event ∷ [] }) read.present ∙ ap (opened settings) (sym longer);
      few = omega (arith, size, room);
      keyed = took.1 ∙ read.keyed;
      once = read.once;
      sees = λ m is. subst (Sees m f' bytes) (sym (ap (λ x. s'.present.history ++ held x) took.0 ∙ append-nil s'.present.history ∙ longer))
          (took.2 m bytes h (read.sees m (is.0 ∙ took.1, is.1)));
    }

-- nothing waits
pub nothing_taken : (settings : Settings) (bytes : List ℕ) (s : Standing) (names : List (List ℕ)) (f f' : Followed) (hand hand' : Option Event)
    → HasRead settings (record { session = s; names = names; follow = f; in_hand = hand }) bytes → hand' ≡ hand → f' ≡ f
    → HasRead settings (record { session = s; names = names; follow = f'; in_hand = hand' }) bytes
nothing_taken settings bytes s names f f' hand hand' read same_hand same =
    subst (λ (x : Option Event). HasRead settings (record { session = s; names = names; follow = f'; in_hand = x }) bytes) (sym same_hand)
    (subst (λ (x : Followed). HasRead settings (record { session = s; names = names; follow = x; in_hand = hand }) bytes) (sym same) read)

-- the event that was taken and handed back is in hand, and the history as it was
pub put_back : (settings : Settings) (bytes : List ℕ) (s s' : Standing) (names : List (List ℕ)) (f f' : Followed) (hand hand' : Option Event) (event back : Event)
    → HasRead settings (record { session = s; names = names; follow = f; in_hand = hand }) bytes → TakesNext hand hand' f f' (Some event)
    → back ≡ event → s'.present ≡ s.present → HasRead settings (record { session = s'; names = names; follow = f'; in_hand = Some back }) bytes
put_back settings bytes s s' names f f' hand hand' event back read took handed same =
    let is_history : s'.present.history ≡ s.present.history = ap (λ p. p.history) same in
    record {
      present = same ∙ read.present ∙ ap (opened settings) (sym is_history);
      few = subst (λ (h : List Event). length h ≤ limit) (sym is_history) read.few;
      keyed = took.1 ∙ read.keyed;
      once = read.once;
      sees = λ m is. subst (λ (e : Event). Sees m f' bytes (s'.present.history ++ e ∷ [])) (sym handed)
          (subst (λ (h : List Event). Sees m f' bytes (h ++ event ∷ [])) (sym is_history) (took.2 m bytes s.present.history (read.sees m (is.0 ∙ took.1, is.1))));
    }

-- a piece was taken in
pub read_on : (settings : Settings) (bytes piece : List ℕ) (r : Recorder) (names : List (List ℕ)) (follow : Followed) (more : List Event) → HasRead settings r bytes
    → Begins r.names names → AreEachOnce names → IsTakenIn names r.follow piece follow more → HasRead settings (record r { names = names; follow = follow }) (bytes ++ piece)
read_on settings bytes piece r names follow more read begun once taken = record {
  present = read.present;
  few = read.few;
  keyed = taken.keyed ∙ read.keyed;
  once = once;
  sees = λ m is. taken.sees m is.1 bytes _ (read.sees m (is.0 ∙ taken.keyed, agrees_before r.names names m.number begun is.1));
}

-- or refused
pub read_still : (settings : Settings) (bytes : List ℕ) (r : Recorder) (names : List (List ℕ)) (follow : Followed) → HasRead settings r bytes → Begins r.names names
    → AreEachOnce names → IsAsBefore r.follow follow → HasRead settings (record r { names = names; follow = follow }) bytes
read_still settings bytes r names follow read begun once as_before = record {
  present = read.present;
  few = read.few;
  keyed = as_before.keyed ∙ read.keyed;
  once = once;
  sees = λ m is. as_before.sees m bytes _ (read.sees m (is.0 ∙ as_before.keyed, agrees_before r.names names m.number begun is.1));
}

-- what the bytes say
abbrev pub saying : (settings : Settings) (r : Recorder) (bytes : List ℕ) → HasRead settings r bytes → Saying settings.keyed r.names bytes
saying settings r bytes read = record {
  events = (r.session.present.history ++ held r.in_hand) ++ r.follow.ready;
  outcome = r.follow.outcome;
  stream = λ m is. (read.sees m (is.0 ∙ sym read.keyed, is.1)).is_stream;
}

-- the events that count are in the history, where what waits was brought in
pub all_brought : (settings : Settings) (r : Recorder) (bytes : List ℕ) (read : HasRead settings r bytes) → IsBroughtIn r
    → r.session.present ≡ opened settings (take limit (saying settings r bytes read).events)
all_brought settings r bytes read brought = read.present ∙ ap (opened settings) (history brought)
  where
    h : List Event
    h = r.session.present.history

    behind : List Event
    behind = held r.in_hand ++ r.follow.ready

    history : IsBroughtIn r → h ≡ take limit ((h ++ held r.in_hand) ++ r.follow.ready)
    history (inl none) = sym (ap (take limit) (append_assoc h (held r.in_hand) r.follow.ready ∙ ap (λ x. h ++ x) none ∙ append-nil h) ∙ take_all limit h read.few)
    history (inr full) =
        let just : limit ≡ length h = omega (arith, full, read.few) in
        sym (ap (take limit) (append_assoc h (held r.in_hand) r.follow.ready) ∙ ap (λ n. take n (h ++ behind)) just ∙ take-append_seam h behind)

-- how many events the bytes say
pub counted : (h hand ready : List Event) → length ((h ++ hand) ++ ready) ≡ length h + length hand + length ready
counted h hand ready = length-append (h ++ hand) ready ∙ ap (λ n. n + length ready) (length-append h hand)

-- whether a count is over the limit, where it is over just where another one is
pub over_too : (n m : ℕ) (b : Bool) → nat_lt limit m ≡ b → (limit < m → limit < n) → (m ≤ limit → n ≤ limit) → nat_lt limit n ≡ b
over_too n m true is up down = lt-ltb limit n (up (ltb-true limit m is))
over_too n m false is up down = le-ltb limit n (down (ltb-false limit m is))

-- where a question changed nothing that is asked about
pub read_asked : (settings : Settings) (bytes : List ℕ) (r : Recorder) (s : Standing) → HasRead settings r bytes → s.present ≡ r.session.present
    → HasRead settings (record r { session = s }) bytes
read_asked settings bytes r s read same =
    let is_history : s.present.history ≡ r.session.present.history = ap (λ p. p.history) same in
    record {
      present = same ∙ read.present ∙ ap (opened settings) (sym is_history);
      few = subst (λ (h : List Event). length h ≤ limit) (sym is_history) read.few;
      keyed = read.keyed;
      once = read.once;
      sees = λ m is. subst (λ (h : List Event). Sees m r.follow bytes (h ++ held r.in_hand)) (sym is_history) (read.sees m is);
    }

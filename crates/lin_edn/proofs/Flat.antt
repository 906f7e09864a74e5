-- The code's open maps, and its stack.
use Rattle.std.proofs.Common.{◌≡◌, ℕ, List, [], ◌∷◌, ◌++◌, refl, ap, ◌∙◌, Some, None, option_map, map as each, reverse}
use Rattle.lin_bytes.specs.Bytes.{a_map}
use Rattle.lin_edn.specs.Value.{Value, map, entries_of, entry, pairs_from, made}
use Rattle.lin_edn.specs.Grammar.{Frame, place_of, outermost}
use Rattle.lin_edn.specs.inner.Levels.{flat, frame_view, frames_of}
use Rattle.lin_edn.specs.declared.levels.Frame.{Frame as CodeFrame}
use Rattle.std.specs.List.{slice_get}
use Rattle.std.proofs.lemmas.List.{reverse-append}

pub flat_key : (es : List (Value × Value)) (v : Value) → flat es (Some v) ≡ flat es None ++ v ∷ []
flat_key [] v = refl
flat_key (e ∷ es) v = ap (λ xs. e.0 ∷ e.1 ∷ xs) (flat_key es v)

pub flat_pair : (es : List (Value × Value)) (k v : Value) → flat (es ++ (k, v) ∷ []) None ≡ flat es (Some k) ++ v ∷ []
flat_pair [] k v = refl
flat_pair (e ∷ es) k v = ap (λ xs. e.0 ∷ e.1 ∷ xs) (flat_pair es k v)

pairs_even : (es : List (Value × Value)) → pairs_from None (flat es None) ≡ Some (entries_of es)
pairs_even [] = refl
pairs_even (e ∷ es) = ap (option_map (entry e.0 e.1)) (pairs_even es)

pairs_odd : (es : List (Value × Value)) (k : Value) → pairs_from None (flat es (Some k)) ≡ None
pairs_odd [] k = refl
pairs_odd (e ∷ es) k = ap (option_map (entry e.0 e.1)) (pairs_odd es k)

pub made_even : (es : List (Value × Value)) → made a_map (flat es None) ≡ Some (map (entries_of es))
made_even es = ap (option_map map) (pairs_even es)

pub made_odd : (es : List (Value × Value)) (k : Value) → made a_map (flat es (Some k)) ≡ None
made_odd es k = ap (option_map map) (pairs_odd es k)

outermost_last : (p : ℕ) (fs : List Frame) (f : Frame) → outermost p (fs ++ f ∷ []) ≡ place_of f
outermost_last p [] f = refl
outermost_last p (g ∷ fs) f = outermost_last (place_of g) fs f

-- the bottom of the code's stack is the outermost level
pub outermost_first : (p : ℕ) (fs : List CodeFrame) (f : CodeFrame) → Some f ≡ slice_get fs 0 →
    outermost p (frames_of fs) ≡ place_of (frame_view f)
outermost_first p [] f e = absurd (cc)
outermost_first p (g ∷ fs) f e =
    let same : g ≡ f = cc in
    ap (outermost p) (reverse-append (frame_view g ∷ []) (each frame_view fs))
    ∙ outermost_last p (reverse (each frame_view fs)) (frame_view g)
    ∙ ap (λ x. place_of (frame_view x)) same

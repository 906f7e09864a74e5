use Rattle.std.proofs.Common.{◌≡◌, ℕ, List, refl, sym, ap}
use Rattle.lin_edn.specs.Grammar.{Frame}
use Rattle.lin_edn.specs.inner.Levels.{frames_of}
use Rattle.lin_edn.specs.inner.Machine.{partial, begun, at_end}
use Rattle.lin_edn.specs.inner.Turns.{mode_of}
use Rattle.lin_edn.specs.declared.reader.Mode.{Mode}
use Rattle.lin_edn.specs.declared.reader.Mode.TheVariants as mode
use Rattle.lin_edn.proofs.reader.at_end.Goals as goal

-- a run, a text or the like that is open at the end is unfinished
unfinished : (m : Mode) → (m ≡ mode.Between → ⊥) → ((p : ℕ) → m ≡ mode.Comment p → ⊥) → (s : List ℕ) (at from : ℕ) (st : List Frame) →
    from ≡ begun at st (mode_of s at m) → at_end at (mode_of s at m) st ≡ partial from
unfinished mode.Between other none s at from st e = absurd (other refl)
unfinished (mode.Run p) other none s at from st e = ap partial (sym e)
unfinished (mode.Hash p) other none s at from st e = ap partial (sym e)
unfinished (mode.Backslash p) other none s at from st e = ap partial (sym e)
unfinished (mode.Tag p) other none s at from st e = ap partial (sym e)
unfinished (mode.Text p) other none s at from st e = ap partial (sym e)
unfinished (mode.Escape p) other none s at from st e = ap partial (sym e)
unfinished (mode.Comment p) other none s at from st e = absurd (none p refl)

pub returns-in_default : goal.returns-in_default
returns-in_default c = λ s.
    unfinished c.args.mode c.in_default.not-Between c.in_default.not-Comment s c.args.at c.begun_at-begun.result (frames_of c.args.stack.now) (c.begun_at-begun.ensures s)

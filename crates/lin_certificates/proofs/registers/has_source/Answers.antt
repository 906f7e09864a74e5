use Rattle.std.proofs.Common.{◌↔◌, ℕ, IsTrue, sym, subst}
use Rattle.lin_certificates.specs.Certificates.{HasSource, OtherCanLeave}
use Rattle.lin_certificates.specs.Words.{IsOfWhich}
use Rattle.lin_certificates.proofs.registers.has_source.Goals.{in-Nil, in-Item}
use Rattle.lin_certificates.proofs.registers.has_source.Goals as goal

pub returns : goal.returns
returns c =
    let h = c.args.events.now in
    let at = c.args.operation in
    let r = c.is_any.result in
    elim c.match-value.branch [
      | in-Nil w ↦
          let found = subst (λ which. IsTrue r ↔ ((x : ℕ) × IsOfWhich h which x)) w.which-is c.is_any.ensures in
          subst (λ v. IsTrue r ↔ HasSource h at v) (sym w.in-Nil.is) found
      | in-Item w ↦
          let found = subst (λ which. IsTrue r ↔ ((x : ℕ) × IsOfWhich h which x)) w.which-is c.is_any.ensures in
          let other = subst (λ v. IsTrue r ↔ ((x : ℕ) × OtherCanLeave h v at x)) w.in-Item.is found in
          subst (λ v. IsTrue r ↔ HasSource h at v) (sym w.in-Item.is) other
    ]

use Rattle.std.proofs.Common.{false, refl, sym}
use Rattle.lin_edn.proofs.Skims.{seen_open}
use Rattle.lin_edn.proofs.skim.Skim.is_comment.Goals as goal

pub returns-in-Comment : goal.returns-in-Comment
returns-in-Comment c = λ text.
    let none = rw c.deref.ensures.0 at c.is_empty.ensures in seen_open c.args.self.now text c.is_empty.result (λ i. sym none) (λ n. absurd (n c.in-Comment.is))

pub returns-in_default : goal.returns-in_default
returns-in_default c = λ text. seen_open c.args.self.now text false (λ i. absurd (c.in_default.not-Comment i)) (λ n. refl)

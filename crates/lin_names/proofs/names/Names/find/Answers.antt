use Rattle.std.proofs.Common.{ℕ, subst, IfSome, IfNone}
use Rattle.lin_names.specs.Names.{IsSpelling}
use Rattle.lin_names.proofs.Spellings.{found_in, none_in}
use Rattle.lin_names.proofs.names.Names.find.Goals as goal

pub returns-clause-some : goal.returns-clause-some
returns-clause-some c = subst (λ names. IfSome c.get_index_of.result (IsSpelling names c.args.spelling.now)) c.self.view_is
    (found_in c.self.inside.spellings.keys c.args.spelling.now c.get_index_of.result c.get_index_of.ensures.index)

pub returns-clause-none : goal.returns-clause-none
returns-clause-none c = subst (λ names. IfNone c.get_index_of.result ((n : ℕ) → IsSpelling names c.args.spelling.now n → ⊥)) c.self.view_is
    (none_in c.self.inside.spellings.keys c.args.spelling.now c.get_index_of.result c.get_index_of.ensures.found)

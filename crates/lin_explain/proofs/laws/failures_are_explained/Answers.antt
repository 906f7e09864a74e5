use Rattle.std.specs.Prelude.{refl}
use Rattle.lin_objects.specs.declared.kinds.Kind.{Kind}
use Rattle.lin_objects.specs.declared.kinds.Kind.TheVariants.{Register, CasRegister, Fifo, Set, Mutex, Bag}
use Rattle.lin_answers.specs.Answers.{kinds_in}
use Rattle.lin_explain.specs.inner.Laws.{NoesMean}
use Rattle.lin_explain.proofs.laws.failures_are_explained.Goals as goal

pub returns : goal.returns
returns c now scope n ending answer stands = of_kind (kinds_in now ending.key) now scope n ending answer stands refl
  where
    of_kind : (kind : Kind) → NoesMean kind
    of_kind Register = c.noes_mean.ensures
    of_kind CasRegister = c.noes_mean-2.ensures
    of_kind Fifo = c.noes_mean-3.ensures
    of_kind Set = c.noes_mean-4.ensures
    of_kind Mutex = c.noes_mean-5.ensures
    of_kind Bag = c.noes_mean-6.ensures

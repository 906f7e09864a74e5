use Rattle.lin_edn.proofs.Sizes.{spelled_inside, blanks_inside, refused_inside}
use Rattle.lin_edn.proofs.places.Goals as goal

pub returns : goal.returns
returns c = record {
  spelled = λ s v at used h. spelled_inside h;
  passed = λ s t n h. blanks_inside s t n h;
  refused = λ s at cause h. refused_inside s at cause h;
}

use Rattle.std.proofs.Common.{[], refl, sym, subst, arith, ◌∙◌}
use Rattle.std.proofs.KnownBytes.{Appends-nil, Consumes-nil}
use Rattle.lin_names.specs.Names.{AreEachOnce}
use Rattle.lin_report.proofs.Pulling.{no_names}
use Rattle.lin_report.specs.Runs.{start_of}
use Rattle.lin_report.specs.Runs.AreReplies.{nothing}
use Rattle.lin_report.proofs.runs.EditRun.new.Goals as goal

pub returns : goal.returns
returns c = λ left before. record {
  lines = [];
  state = start_of c.args.settings left;
  text = [];
  rest = [];
  run = nothing;
  stands = record {
    present_is = c.open.ensures;
    names_are = c.new.ensures;
    once = subst AreEachOnce (sym c.new.ensures) no_names;
    sees = λ m is. c.new-2.ensures.sees m (is.0 ∙ c.new-2.ensures.keyed);
    keyed_is = c.new-2.ensures.keyed;
    left_is = refl;
  };
  consumed = Consumes-nil left;
  written = Appends-nil before;
  begins = λ more. refl;
  unended = λ k d none. absurd (omega arith);
  holds = c.new-3.ensures.items;
}

use Rattle.std.proofs.Common.{◌∙◌, sym, subst}
use Rattle.std.specs.Io.KnownBytes.{Consumes}
use Rattle.lin_formats.specs.Devices.{device_of, passed_of}
use Rattle.lin_formats.specs.Histories.{EndsFor, IsHistoryFor, with_least}
use Rattle.lin_formats.specs.lemmas.Reading.{limited, limited_ends}
use Rattle.lin_formats.proofs.Taking.{passed_noted}
use Rattle.lin_formats.proofs.reading.read_placed.Goals as goal

pub returns-clause-read : goal.returns-clause-read
returns-clause-read g c =
    let read = c.in_ok-history.ensures.read in
    let history = c.in_ok-history.history in
    let least = c.args.least in
    let keyed = c.args.keyed in
    let names = c.read_any.new.names in
    let same = sym c.has_given.ensures.device in
    let told = sym c.with_least-history.ensures in
    let ends = limited_ends least history _ read.3 in (
      read.0,
      subst (λ d. Consumes (g.R.Read.remaining (device_of c.args.file.now)) (g.R.Read.remaining d) read.0) same read.1,
      read.2,
      subst (λ h. EndsFor h (g.R.Read.remaining (device_of c.has_given.new.self))) told (subst (λ d. EndsFor (with_least least history) (g.R.Read.remaining d)) same ends),
      subst (IsHistoryFor least keyed names read.0) told (limited least keyed names read.0 history read.4),
      read.5,
      read.6,
      c.in_ok-hints.ensures read.0 read.7 (c.as_slice.ensures.value ∙ read.8),
      (history, read.4, c.has_given.ensures.noted, passed_noted read.0 history c.in_ok-history.passed (passed_of c.has_given.new.self) read.9 c.has_given.ensures.passed),
    )

use Rattle.std.proofs.Common.{refl, arith}
use Rattle.lin_names.specs.lemmas.Begins.{begins_itself, begins_on}
use Rattle.lin_formats.proofs.Found.{rest_is}
use Rattle.lin_formats.proofs.Marking.{put_again, put_none, reading_before}
use Rattle.lin_formats.proofs.PlacesReading.{end_fits, one_front, the_end, up_more}
use Rattle.lin_formats.proofs.mark.read_on.Goals as goal

pub elements-init : goal.elements-init
elements-init c = record {
  begun = begins_itself c.args.names.now;
  put = put_none c.args.places.now.items c.args.places.now.items refl;
  up = (omega arith, c.requires.fits);
  read = λ k is whole text read. (omega arith, read);
}

pub elements-preserved : goal.elements-preserved
elements-preserved c =
    let old = c.elements.invariant in
    let passed = rw (rest_is c.args.text.now c.elements.at) at (rw c.in-Element.is at c.in_ok-next.ensures.passed) in
    record {
      begun = begins_on c.args.names.now c.elements.names c.read_front.new.names old.begun c.in_ok-next.ensures.begun;
      put = put_again _ _ _ old.put c.in_ok-next.ensures.put;
      up = up_more c.args.text.now c.elements.at c.elements.place c.in-Element.next old.up passed;
      read = λ k is.
          let here = rw (rest_is c.args.text.now c.elements.at) at (rw c.in-Element.is at (c.in_ok-next.ensures.front k is)) in
          one_front _ _ _ _ _ _ _ _ _ (old.read k (reading_before c.args.keyed c.elements.names c.read_front.new.names k c.in_ok-next.ensures.begun is)) here;
    }

pub returns-in-End-clause-begun : goal.returns-in-End-clause-begun
returns-in-End-clause-begun c = begins_on c.args.names.now c.elements.names c.read_front.new.names c.elements.invariant.begun c.in_ok-next.ensures.begun

pub returns-in-End-clause-put : goal.returns-in-End-clause-put
returns-in-End-clause-put c = put_again _ _ _ c.elements.invariant.put c.in_ok-next.ensures.put

pub returns-in-End-clause-fits : goal.returns-in-End-clause-fits
returns-in-End-clause-fits c =
    let passed = rw (rest_is c.args.text.now c.elements.at) at (rw c.in-End.is at c.in_ok-next.ensures.passed) in
    end_fits c.args.text.now c.elements.at c.elements.place c.in-End.read.next c.elements.invariant.up passed.0

pub returns-in-End-clause-read : goal.returns-in-End-clause-read
returns-in-End-clause-read c = λ k is.
    let here = rw (rest_is c.args.text.now c.elements.at) at (rw c.in-End.is at (c.in_ok-next.ensures.front k is)) in
    the_end _ _ _ _ _ _ _ _ _ (c.elements.invariant.read k (reading_before c.args.keyed c.elements.names c.read_front.new.names k c.in_ok-next.ensures.begun is)) here

use Rattle.lin_order.specs.ConfigurationExamples.{of_registers, two_writes, each_completion}
use Rattle.lin_order.proofs.EachCompletion.{each_alternates, writes_alternate}
use Rattle.lin_order.proofs.TwoWrites.{five}
use Rattle.lin_order.proofs.configurations.configurations_of_two_writes.Goals as goal

pub returns-clause-each : goal.returns-clause-each
returns-clause-each c = (c.well_formed_is_alternating.ensures of_registers each_completion).1 each_alternates

pub returns-clause-writes : goal.returns-clause-writes
returns-clause-writes c = (c.well_formed_is_alternating.ensures of_registers two_writes).1 writes_alternate

pub returns-clause-five : goal.returns-clause-five
returns-clause-five c = five c.replies_decide.ensures

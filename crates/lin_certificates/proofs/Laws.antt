-- Each certificate excludes legal orders.
use Rattle.std.proofs.Common.{List}
use Rattle.lin_events.specs.declared.events.Event.{Event}
use Rattle.lin_objects.specs.declared.kinds.Kind.{Kind}
use Rattle.lin_objects.specs.declared.kinds.Kind.TheVariants.{Register, CasRegister, Fifo, Bag, Set, Mutex}
use Rattle.lin_order.specs.declared.placed.Placed.{Placed}
use Rattle.lin_order.specs.Linearizable.{IsLegalOrderAs}
use Rattle.lin_certificates.specs.Conflicts.{IsRegister}
use Rattle.lin_certificates.specs.Certificates.{Certifies, CertifiesBag, CertifiesFifo, CertifiesMutex, CertifiesRegister, CertifiesSet}
use Rattle.lin_certificates.specs.declared.certificate.Certificate.{Certificate}
use Rattle.lin_certificates.specs.declared.certificate.Certificate.TheVariants as Form
use Rattle.lin_certificates.proofs.LockLaws.{twice, unbalanced, within}
use Rattle.lin_certificates.proofs.QueueLaws.{bag_inside, bag_remaining, bag_surplus, bag_taken, fifo_inside, fifo_passed, fifo_remaining, fifo_surplus, fifo_taken}
use Rattle.lin_certificates.proofs.FrontLaws.{preceded}
use Rattle.lin_certificates.specs.lemmas.Overwriting.{stale}
use Rattle.lin_certificates.proofs.RegisterLaws.{crossed, no_members, overwritten, unwritten}
use Rattle.lin_certificates.proofs.SpentLaws.{spent}
use Rattle.lin_certificates.proofs.SetLaws.{late, no_value, none_added, one_lost, split}

module _ (h : List Event) (order : List Placed) where
  of_register : (kind : Kind) → IsRegister kind → IsLegalOrderAs kind h order → (c : Certificate) → CertifiesRegister h c → ⊥
  of_register kind is legal (Form.Shape at) holds = no_members kind is h order legal at holds
  of_register kind is legal (Form.Unwritten at v) holds = unwritten kind is h order legal at v holds
  of_register kind is legal (Form.Overwritten at v) holds = overwritten kind is h order legal at v holds
  of_register kind is legal (Form.Stale at v over w) holds = stale kind is h order legal at over v w holds
  of_register kind is legal (Form.Crossed v w early late back) holds = crossed kind is h order legal v w early late back holds
  of_register kind is legal (Form.Spent v) holds = spent kind is h v order legal holds
  of_register kind is legal c holds = absurd holds

  of_bag : IsLegalOrderAs Bag h order → (c : Certificate) → CertifiesBag h c → ⊥
  of_bag legal (Form.Taken n) holds = bag_taken h order legal n holds
  of_bag legal (Form.Inside enqueue dequeue n) holds = bag_inside h order legal enqueue dequeue n holds
  of_bag legal (Form.Remaining dequeue) holds = bag_remaining h order legal dequeue holds
  of_bag legal (Form.Surplus dequeue ns) holds = bag_surplus h order legal dequeue ns holds
  of_bag legal c holds = absurd holds

  of_fifo : IsLegalOrderAs Fifo h order → (c : Certificate) → CertifiesFifo h c → ⊥
  of_fifo legal (Form.Passed enqueue later dequeue n other) holds = fifo_passed h order legal enqueue later dequeue n other holds
  of_fifo legal (Form.Taken n) holds = fifo_taken h order legal n holds
  of_fifo legal (Form.Inside enqueue dequeue n) holds = fifo_inside h order legal enqueue dequeue n holds
  of_fifo legal (Form.Remaining dequeue) holds = fifo_remaining h order legal dequeue holds
  of_fifo legal (Form.Surplus dequeue ns) holds = fifo_surplus h order legal dequeue ns holds
  of_fifo legal (Form.Preceded later dequeue n) holds = preceded h order legal later dequeue n holds
  of_fifo legal c holds = absurd holds

  of_set : IsLegalOrderAs Set h order → (c : Certificate) → CertifiesSet h c → ⊥
  of_set legal (Form.Shape at) holds = no_value h order legal at holds
  of_set legal (Form.Unadded read n) holds = none_added h order legal read n holds
  of_set legal (Form.Lost earlier read n) holds = one_lost h order legal earlier read n holds
  of_set legal (Form.Split first second n m) holds = split h order legal first second n m holds
  of_set legal (Form.Late earlier add read n other) holds = late h order legal earlier add read n other holds
  of_set legal c holds = absurd holds

  of_mutex : IsLegalOrderAs Mutex h order → (c : Certificate) → CertifiesMutex h c → ⊥
  of_mutex legal (Form.Twice first second) holds = twice h order legal first second holds
  of_mutex legal Form.Counted holds = unbalanced h order legal holds
  of_mutex legal (Form.Within calls from to) holds = within h order legal calls from to holds
  of_mutex legal c holds = absurd holds

  pub excluded : (kind : Kind) (c : Certificate) → Certifies h kind c → IsLegalOrderAs kind h order → ⊥
  excluded Register c holds legal = of_register Register tt legal c holds
  excluded CasRegister c holds legal = of_register CasRegister tt legal c holds
  excluded Fifo c holds legal = of_fifo legal c holds
  excluded Bag c holds legal = of_bag legal c holds
  excluded Set c holds legal = of_set legal c holds
  excluded Mutex c holds legal = of_mutex legal c holds

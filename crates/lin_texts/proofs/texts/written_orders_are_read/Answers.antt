use Rattle.lin_texts.proofs.ReadBack.{order_read}
use Rattle.lin_texts.proofs.texts.written_orders_are_read.Goals as goal

pub returns : goal.returns
returns c = λ names number order agrees fits. order_read names number agrees order fits

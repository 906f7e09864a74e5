use Rattle.lin_texts.proofs.ReadBack.{written_item}
use Rattle.lin_texts.proofs.items.written_items_are_read.Goals as goal

pub returns : goal.returns
returns c = λ names number item agrees fits. written_item names number agrees item fits

use Rattle.lin_edn.proofs.Ahead.{found_ahead}
use Rattle.lin_edn.proofs.reader.ahead.Goals as goal

pub returns-in-Between : goal.returns-in-Between
returns-in-Between c = found_ahead _ _ _ _ _ _ _ _ c.in-Between.is c.white_end.ensures c.requires.begun c.window-end.ensures.within c.begun_at.ensures c.window-end.ensures.short

pub returns-in-Run : goal.returns-in-Run
returns-in-Run c = found_ahead _ _ _ _ _ _ _ _ c.in-Run.is c.run_end.ensures c.requires.begun c.window-end.ensures.within c.begun_at.ensures c.window-end.ensures.short

pub returns-in-Tag : goal.returns-in-Tag
returns-in-Tag c = found_ahead _ _ _ _ _ _ _ _ c.in-Tag.is c.run_end-in-Tag.ensures c.requires.begun c.window-end.ensures.within c.begun_at.ensures c.window-end.ensures.short

pub returns-in-Text : goal.returns-in-Text
returns-in-Text c = found_ahead _ _ _ _ _ _ _ _ c.in-Text.is c.plain_end.ensures c.requires.begun c.window-end.ensures.within c.begun_at.ensures c.window-end.ensures.short

pub returns-in-Comment : goal.returns-in-Comment
returns-in-Comment c = found_ahead _ _ _ _ _ _ _ _ c.in-Comment.is c.line_end.ensures c.requires.begun c.window-end.ensures.within c.begun_at.ensures c.window-end.ensures.short

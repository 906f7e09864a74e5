use Rattle.std.proofs.Common.{◌||◌, codes, false}
use Rattle.lin_explain.specs.Undecided.{end_text, help_text}
use Rattle.lin_explain.proofs.Texts.{five_put}
use Rattle.lin_explain.proofs.undecided.put_helps.Goals as goal

pub returns : goal.returns
returns c =
    let larger = c.args.larger in
    let keys = c.args.keys in
    let crashes = c.args.crashes in
    let clients = c.args.clients in
    five_put c.args.text.now.items (help_text larger false (codes "a larger --budget (up to 1000000)"))
    (help_text keys larger (codes "--keyed, if values are pairs of a key and a value"))
    (help_text crashes (larger || keys) (codes "fewer operations that crash"))
    (help_text clients ((larger || keys) || crashes) (codes "fewer clients at once"))
    (end_text (((larger || keys) || crashes) || clients))
    c.put_help.new.text.items c.put_help-2.new.text.items c.put_help-3.new.text.items c.put_help-4.new.text.items c.put_end.new.text.items
    c.in_ok-put_help.ensures c.in_ok-put_help-2.ensures c.in_ok-put_help-3.ensures c.in_ok-put_help-4.ensures c.in_ok-put_end.ensures

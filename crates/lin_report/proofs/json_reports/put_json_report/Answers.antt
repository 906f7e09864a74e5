use Rattle.std.proofs.Common.{◌≡◌, ◌++◌, ℕ, List, Result, Ok, Err, OnOk, append_assoc, codes, length, subst, sym}
use Rattle.std.specs.Prelude.{if◌then◌else◌, is_ok}
use Rattle.lin_texts.specs.lemmas.Putting.{put_last, put_next}
use Rattle.lin_json.specs.Answers.{objects_front}
use Rattle.lin_answers.specs.Answers.{kinds_in}
use Rattle.lin_report.specs.Failing.{failing_key}
use Rattle.lin_report.specs.Reports.{answer_status, answer_text, json_objects}
use Rattle.lin_report.proofs.json_reports.put_json_report.Goals as goal

if_put : {T E : Type 0} (r : Result T E) (new put old : List ℕ) → new ≡ (if is_ok r then put else old) → OnOk r (new ≡ put)
if_put (Ok x) new put old is = is
if_put (Err e) new put old is = tt

pub returns : goal.returns
returns c =
    let names = c.args.names.now in
    let now = c.args.session.now.present in
    let found = c.args.found.now in
    let front = objects_front names (failing_key found.whole found.objects.items) (answer_status found.whole) (answer_text found.whole) (length now.history) c.args.passed in
    let objects = json_objects names (kinds_in now) found.objects.items in
    let first : c.put_front.new.text.items ≡ c.args.text.now.items ++ front = rw c.len-events.ensures at c.in_ok-put_front.ensures in
    let next : c.put_each.new.text.items ≡ c.put_front.new.text.items ++ objects = rw c.deref.ensures.value at c.in_ok-put_each.ensures in
    let both = put_next c.args.text.now.items c.put_front.new.text.items c.put_each.new.text.items front objects first next in
    let all = put_last c.extend_from_slice.result c.args.text.now.items c.put_each.new.text.items c.extend_from_slice.new.self.items (front ++ objects) (codes "]}\n") both
    (if_put c.extend_from_slice.result c.extend_from_slice.new.self.items (c.put_each.new.text.items ++ codes "]}\n") c.put_each.new.text.items c.extend_from_slice.ensures.items) in
    subst (λ l. OnOk c.extend_from_slice.result (c.extend_from_slice.new.self.items ≡ c.args.text.now.items ++ l)) (sym (append_assoc (front ++ objects) (codes "]}") (codes "\n"))) all

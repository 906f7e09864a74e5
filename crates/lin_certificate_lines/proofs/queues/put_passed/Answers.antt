use Rattle.std.proofs.Common.{ℕ, [], ◌∷◌, ◌∙◌, ap, option_to_list, slice_get}
use Rattle.lin_texts.specs.lemmas.Putting.{put_next}
use Rattle.lin_certificate_lines.specs.Lines.{passed_text}
use Rattle.lin_certificate_lines.specs.Reasons.{both_of}
use Rattle.lin_certificate_lines.proofs.queues.put_passed.Goals as goal

pub returns : goal.returns
returns c =
    let told = c.args.told.now in
    let n = c.args.item in
    let other = c.args.other in
    let o = c.args.operations in
    let puts : ℕ × ℕ = (o.0, o.1) in
    let takes = c.in_ok-takes.takes.items in
    let taker = c.first_of-taker.result in
    let taker_is = c.first_of-taker.ensures ∙ ap (λ l. slice_get l 0) c.as_slice.ensures.value in
    let three = put_next _ _ _ (both_of puts) (o.2 ∷ []) c.in_ok-name_pair.ensures c.in_ok-push.ensures.items in (
      passed_text told puts o.2 n other taker,
      o.0 ∷ o.1 ∷ o.2 ∷ option_to_list taker,
      c.in_ok-put_passed_lines.ensures,
      put_next _ _ _ (o.0 ∷ o.1 ∷ o.2 ∷ []) (option_to_list taker) three c.in_ok-name_some.ensures,
      record {
        takes = takes;
        all_takes = c.in_ok-takes.ensures;
        put = ap (passed_text told puts o.2 n other) taker_is;
        named = ap (λ t. o.0 ∷ o.1 ∷ o.2 ∷ option_to_list t) taker_is;
      },
    )

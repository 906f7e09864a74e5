use Rattle.std.proofs.Common.{◌≡◌, ◌+◌, ◌*◌, ◌^◌, ◌%◌, ℕ, pos, get_or, take, length, refl, sym, ap, ◌∙◌, arith}
use Rattle.std.proofs.lemmas.List.{take_more, length-take}
use Rattle.std.proofs.lemmas.Nat.{mul-mod_first}
use Rattle.std.proofs.Math.Nat.{pow-suc}
use Rattle.lin_events.specs.declared.items.Item.TheVariants.{Int}
use Rattle.lin_events.specs.Items.{code_of, digest_of, factor}
use Rattle.lin_events.proofs.Digests.{cut, digest_push}
use Rattle.lin_events.proofs.lists.digest_of.Goals as goal

pub loop-item-init : goal.loop-item-init
loop-item-init c = record { taken = refl; weighs = refl }

pub loop-item-preserved : goal.loop-item-preserved
loop-item-preserved c =
    let xs = c.args.items.now in
    let i : ℕ = c.loop-item.item-index in
    let x = get_or xs i (Int (pos 0)) in
    let short = length-take i xs in
    let many : length (take i xs) ≡ i = omega (arith, short, c.loop-item-test.true) in
    record {
      taken = (λ k. (c.loop-item.invariant.taken k + (c.code.ensures k * c.loop-item.invariant.weighs k) % 18446744073709551616) % 18446744073709551616)
          ∙ cut (digest_of (take i xs)) (code_of x) (factor ^ i) ∙ ap (λ n. (digest_of (take i xs) + code_of x * factor ^ n) % 18446744073709551616) (sym many) ∙ sym (digest_push (take i xs) x)
          ∙ ap digest_of (sym (take_more xs i (Int (pos 0)) c.loop-item-test.true));
      weighs = ap (λ n. n * factor % 18446744073709551616) c.loop-item.invariant.weighs ∙ mul-mod_first (factor ^ i) factor 18446744073709551616 ∙ ap (λ n. n % 18446744073709551616) (sym (pow-suc factor i))
          ∙ ap (λ n. factor ^ n % 18446744073709551616) (omega arith);
    }

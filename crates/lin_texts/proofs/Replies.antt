-- The replies and pairs that were read.
use Rattle.std.proofs.Common.{◌≡◌, ◌^◌, ◌+◌, ◌-◌, ◌==◌, false, true, ℕ, List, Option, None, Some, length, take, drop, map, codes, option_map, refl, sym, ap, ◌∙◌, subst, slice_range, arith}
use Rattle.std.specs.List.{position}
use Rattle.std.proofs.lemmas.List.{length-drop, take_all}
use Rattle.std.specs.Str.{bytes_eq}
use Rattle.lin_lists.specs.Sets.{members_of}
use Rattle.lin_events.specs.declared.items.Item.{Item}
use Rattle.lin_events.specs.declared.calls.Reply.{Reply}
use Rattle.lin_events.specs.declared.calls.Reply.TheVariants.{Members}
use Rattle.lin_events.specs.Items.{item_cmp}
use Rattle.lin_names.specs.Names.{Numbering}
use Rattle.lin_names.specs.Spelled.{Spelled, numbered}
use Rattle.lin_order.specs.declared.placed.Placed.{Placed}
use Rattle.lin_texts.specs.Integers.{number_of}
use Rattle.lin_texts.specs.Orders.{SaidPair, SaidReply, is_braced, members, members_written, pair_at, pair_of, pair_written, reply_of, reply_written, said_pair}
use Rattle.lin_texts.specs.Saying.{IsAsSaid}
use Rattle.lin_texts.proofs.Members.{said_within}

-- the members that are said, put into the order inside
abbrev pub set_of : Numbering → List Spelled → List Item
set_of number xs = members_of item_cmp (map (numbered number) xs)

braced : (text : List ℕ) → bytes_eq text (codes "done") ≡ false → bytes_eq text (codes "nil") ≡ false → is_braced text ≡ true
    → reply_written text ≡ option_map members (members_written (slice_range text 1 (length text - 1)))
braced text no_done no_nil is = rw (no_done, no_nil, is)

-- members between braces were read
pub members_reply : (names : List (List ℕ)) (text inside : List ℕ) (read : Option (List Item)) → bytes_eq text (codes "done") ≡ false
    → bytes_eq text (codes "nil") ≡ false → is_braced text ≡ true → inside ≡ slice_range text 1 (length text - 1)
    → IsAsSaid set_of names (members_written inside) read → IsAsSaid reply_of names (reply_written text) (option_map Members read)
members_reply names text inside read no_done no_nil is part said =
    subst (λ o. IsAsSaid reply_of names o (option_map Members read))
    (ap (λ s. option_map members (members_written s)) part ∙ sym (braced text no_done no_nil is))
    (said_within set_of reply_of members Members (λ number s. refl) names (members_written inside) read said)

abbrev pub placed_at : ℕ → Reply → Placed
placed_at at reply = record { at = at; reply = reply }

abbrev said_at : ℕ → SaidReply → SaidPair
said_at at reply = record { at = at; reply = reply }

said_pair_at : (at : ℕ) (said : Option SaidReply) → said_pair (Some at) said ≡ option_map (said_at at) said
said_pair_at at None = refl
said_pair_at at (Some reply) = refl

-- the reply of a pair was read
pub pair_read : (names : List (List ℕ)) (word : List ℕ) (sign at : ℕ) (reply : Option Reply) → Some sign ≡ position (λ c. c == 61) word
    → Some at ≡ number_of (2 ^ 64 - 1) (take sign word) → IsAsSaid reply_of names (reply_written (slice_range word (sign + 1) (length word))) reply
    → IsAsSaid pair_of names (pair_written word) (option_map (placed_at at) reply)
pair_read names word sign at reply place number said =
    let rest : Option SaidReply = reply_written (slice_range word (sign + 1) (length word)) in
    let all = take_all (length word - (sign + 1)) (drop (sign + 1) word) (omega (arith, length-drop (sign + 1) word)) in
    subst (λ o. IsAsSaid pair_of names o (option_map (placed_at at) reply))
    (sym (said_pair_at at rest) ∙ ap (λ n. said_pair n rest) number ∙ ap (λ s. said_pair (number_of (2 ^ 64 - 1) (take sign word)) (reply_written s)) all
    ∙ ap (pair_at word) place)
    (said_within reply_of pair_of (said_at at) (placed_at at) (λ number s. refl) names rest reply said)

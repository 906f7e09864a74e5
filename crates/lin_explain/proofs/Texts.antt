-- Texts that are put one behind the other.
use Rattle.std.proofs.Common.{◌≡◌, ℕ, List, ◌++◌, ap, ◌∙◌, append_assoc}

pub two_put : (old a b one last : List ℕ) → one ≡ old ++ a → last ≡ one ++ b → last ≡ old ++ (a ++ b)
two_put old a b one last put_a put_b = put_b ∙ ap (λ l. l ++ b) put_a ∙ append_assoc old a b

pub three_put : (old a b d one two last : List ℕ) → one ≡ old ++ a → two ≡ one ++ b → last ≡ two ++ d → last ≡ old ++ ((a ++ b) ++ d)
three_put old a b d one two last put_a put_b put_d = two_put old (a ++ b) d two last (two_put old a b one two put_a put_b) put_d

pub four_put : (old a b d e one two three last : List ℕ) → one ≡ old ++ a → two ≡ one ++ b → three ≡ two ++ d → last ≡ three ++ e
    → last ≡ old ++ (((a ++ b) ++ d) ++ e)
four_put old a b d e one two three last put_a put_b put_d put_e = two_put old ((a ++ b) ++ d) e three last (three_put old a b d one two three put_a put_b put_d) put_e

pub five_put : (old a b d e f one two three four last : List ℕ) → one ≡ old ++ a → two ≡ one ++ b → three ≡ two ++ d → four ≡ three ++ e → last ≡ four ++ f
    → last ≡ old ++ ((((a ++ b) ++ d) ++ e) ++ f)
five_put old a b d e f one two three four last put_a put_b put_d put_e put_f =
    three_put old ((a ++ b) ++ d) e f three four last (three_put old a b d one two three put_a put_b put_d) put_e put_f

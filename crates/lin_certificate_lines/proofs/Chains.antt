-- Texts that are put last, one after another.
use Rattle.std.proofs.Common.{◌≡◌, ℕ, List, ◌++◌}
use Rattle.lin_texts.specs.lemmas.Putting.{put_next}

pub puts2 : (old a b one two : List ℕ) → one ≡ old ++ a → two ≡ one ++ b → two ≡ old ++ (a ++ b)
puts2 old a b one two p q = put_next old one two a b p q

pub puts3 : (old a b c one two three : List ℕ) → one ≡ old ++ a → two ≡ one ++ b → three ≡ two ++ c → three ≡ old ++ ((a ++ b) ++ c)
puts3 old a b c one two three p q r = put_next old two three (a ++ b) c (puts2 old a b one two p q) r

pub puts4 : (old a b c d one two three four : List ℕ) → one ≡ old ++ a → two ≡ one ++ b → three ≡ two ++ c → four ≡ three ++ d → four ≡ old ++ (((a ++ b) ++ c) ++ d)
puts4 old a b c d one two three four p q r s = put_next old three four ((a ++ b) ++ c) d (puts3 old a b c one two three p q r) s

pub puts5 : (old a b c d e one two three four five : List ℕ) → one ≡ old ++ a → two ≡ one ++ b → three ≡ two ++ c → four ≡ three ++ d → five ≡ four ++ e → five ≡ old ++ ((((a ++ b) ++ c) ++ d) ++ e)
puts5 old a b c d e one two three four five p q r s t = put_next old four five (((a ++ b) ++ c) ++ d) e (puts4 old a b c d one two three four p q r s) t

pub puts6 : (old a b c d e f one two three four five six : List ℕ) → one ≡ old ++ a → two ≡ one ++ b → three ≡ two ++ c → four ≡ three ++ d → five ≡ four ++ e → six ≡ five ++ f → six ≡ old ++ (((((a ++ b) ++ c) ++ d) ++ e) ++ f)
puts6 old a b c d e f one two three four five six p q r s t u = put_next old five six ((((a ++ b) ++ c) ++ d) ++ e) f (puts5 old a b c d e one two three four five p q r s t) u

pub puts7 : (old a b c d e f g one two three four five six seven : List ℕ) → one ≡ old ++ a → two ≡ one ++ b → three ≡ two ++ c → four ≡ three ++ d → five ≡ four ++ e → six ≡ five ++ f → seven ≡ six ++ g → seven ≡ old ++ ((((((a ++ b) ++ c) ++ d) ++ e) ++ f) ++ g)
puts7 old a b c d e f g one two three four five six seven p q r s t u v = put_next old six seven (((((a ++ b) ++ c) ++ d) ++ e) ++ f) g (puts6 old a b c d e f one two three four five six p q r s t u) v

pub puts8 : (old a b c d e f g h one two three four five six seven eight : List ℕ) → one ≡ old ++ a → two ≡ one ++ b → three ≡ two ++ c → four ≡ three ++ d → five ≡ four ++ e → six ≡ five ++ f → seven ≡ six ++ g → eight ≡ seven ++ h → eight ≡ old ++ (((((((a ++ b) ++ c) ++ d) ++ e) ++ f) ++ g) ++ h)
puts8 old a b c d e f g h one two three four five six seven eight p q r s t u v w = put_next old seven eight ((((((a ++ b) ++ c) ++ d) ++ e) ++ f) ++ g) h (puts7 old a b c d e f g one two three four five six seven p q r s t u v) w

pub puts9 : (old a b c d e f g h i one two three four five six seven eight nine : List ℕ) → one ≡ old ++ a → two ≡ one ++ b → three ≡ two ++ c → four ≡ three ++ d → five ≡ four ++ e → six ≡ five ++ f → seven ≡ six ++ g → eight ≡ seven ++ h → nine ≡ eight ++ i → nine ≡ old ++ ((((((((a ++ b) ++ c) ++ d) ++ e) ++ f) ++ g) ++ h) ++ i)
puts9 old a b c d e f g h i one two three four five six seven eight nine p q r s t u v w x = put_next old eight nine (((((((a ++ b) ++ c) ++ d) ++ e) ++ f) ++ g) ++ h) i (puts8 old a b c d e f g h one two three four five six seven eight p q r s t u v w) x

pub puts10 : (old a b c d e f g h i j one two three four five six seven eight nine ten : List ℕ) → one ≡ old ++ a → two ≡ one ++ b → three ≡ two ++ c → four ≡ three ++ d → five ≡ four ++ e → six ≡ five ++ f → seven ≡ six ++ g → eight ≡ seven ++ h → nine ≡ eight ++ i → ten ≡ nine ++ j → ten ≡ old ++ (((((((((a ++ b) ++ c) ++ d) ++ e) ++ f) ++ g) ++ h) ++ i) ++ j)
puts10 old a b c d e f g h i j one two three four five six seven eight nine ten p q r s t u v w x y = put_next old nine ten ((((((((a ++ b) ++ c) ++ d) ++ e) ++ f) ++ g) ++ h) ++ i) j (puts9 old a b c d e f g h i one two three four five six seven eight nine p q r s t u v w x) y

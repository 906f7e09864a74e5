-- Texts that begin so.
use Rattle.std.proofs.Common.{◌≡◌, ◌++◌, ℕ, List, Result, Ok, Err, OnOk}
use Rattle.lin_texts.specs.lemmas.Putting.{put_next}
use Rattle.lin_draw.specs.Labels.{IsBegunBy}

pub goes_on : {T E : Type 0} (r : Result T E) (old mid new a b : List ℕ) → mid ≡ old ++ a → OnOk r (new ≡ mid ++ b) → OnOk r (IsBegunBy old new)
goes_on (Ok x) old mid new a b begun more = (a ++ b, put_next old mid new a b begun more)
goes_on (Err e) old mid new a b begun more = tt

pub begun_on : (old one two three a b c : List ℕ) → one ≡ old ++ a → two ≡ one ++ b → three ≡ two ++ c → three ≡ old ++ (a ++ b ++ c)
begun_on old one two three a b c first second third = put_next old two three (a ++ b) c (put_next old one two a b first second) third

pub begun_by : (old one two three a b c : List ℕ) → one ≡ old ++ a → two ≡ one ++ b → three ≡ two ++ c → IsBegunBy old three
begun_by old one two three a b c first second third = (a ++ b ++ c, begun_on old one two three a b c first second third)

-- What is printed is read back.
use Rattle.std.proofs.Common.{◌≡◌, ℕ, ◌+◌, ◌-◌, ◌*◌, ◌/◌, ◌%◌, ◌<◌, ◌≤◌, Bool, true, false, eqb, leb, List, [], ◌∷◌, ◌++◌, length, Some, Ok, decimal, Option, refl, ap, ◌∙◌, arith, leb-false, leb-true}
use Rattle.std.specs.Option.{ok_or}
use Rattle.std.proofs.lemmas.Fmt.{decimal_digit, decimal_step}
use Rattle.std.proofs.lemmas.Bool.{le-leb}
use Rattle.std.proofs.lemmas.Bool.Decides.{nat_tests}
use Rattle.hex_pairs.specs.Hex.{Bytes, hex_digit, hex_text, digit_value, byte_of}
use Rattle.hex_pairs.proofs.ReadBack.{reads_back}
use Rattle.fields.specs.declared.FieldFault.TheVariants as fault
use Rattle.fields.specs.Fields.{number_of, digits_after, bytes_in, draw_of, word_from}

-- digits one by one
digit_next : (v d : ℕ) (rest : List ℕ) → d < 10 → digits_after v ((48 + d) ∷ rest) ≡ digits_after (10 * v + d) rest
digit_next v d rest h =
    let low : leb 48 (48 + d) ≡ true = le-leb _ _ (omega arith) in
    let high : leb (48 + d) 57 ≡ true = le-leb _ _ (omega arith) in
    let back : 48 + d - 48 ≡ d = omega arith in
    simp (low, high, back) refl

one_digit : (n : ℕ) → n < 10 → number_of ((48 + n) ∷ []) ≡ Ok n
one_digit n h =
    let read : digits_after 0 ((48 + n) ∷ []) ≡ Some n = digit_next 0 n [] h ∙ ap (λ (k : ℕ). Some k) (omega arith) in
    ap (λ (o : Option ℕ). ok_or o fault.Number) read

two_digits : (a b : ℕ) → 0 < a → a < 10 → b < 10 → number_of ((48 + a) ∷ (48 + b) ∷ []) ≡ Ok (10 * a + b)
two_digits a b some h k =
    let first : eqb (48 + a) 48 ≡ false = grind (arith, nat_tests) in
    let read : digits_after 0 ((48 + a) ∷ (48 + b) ∷ []) ≡ Some (10 * a + b) =
    digit_next 0 a ((48 + b) ∷ []) h ∙ digit_next (10 * 0 + a) b [] k ∙ ap (λ (m : ℕ). Some m) (omega arith) in
    simp (first, read) refl

three_digits : (a b c : ℕ) → 0 < a → a < 10 → b < 10 → c < 10 → number_of ((48 + a) ∷ (48 + b) ∷ (48 + c) ∷ []) ≡ Ok (100 * a + 10 * b + c)
three_digits a b c some h k l =
    let first : eqb (48 + a) 48 ≡ false = grind (arith, nat_tests) in
    let read : digits_after 0 ((48 + a) ∷ (48 + b) ∷ (48 + c) ∷ []) ≡ Some (100 * a + 10 * b + c) =
    digit_next 0 a ((48 + b) ∷ (48 + c) ∷ []) h ∙ digit_next (10 * 0 + a) b ((48 + c) ∷ []) k ∙ digit_next (10 * (10 * 0 + a) + b) c [] l ∙ ap (λ (m : ℕ). Some m) (omega arith) in
    simp (first, read) refl

pub decimal_two : (n : ℕ) → 10 ≤ n → n < 100 → decimal n ≡ (48 + n / 10) ∷ (48 + n % 10) ∷ []
decimal_two n h k =
    decimal_step n h (omega arith) ∙ ap (λ (t : List ℕ). t ++ ((48 + n % 10) ∷ [])) (decimal_digit (n / 10) (omega arith))

pub decimal_three : (n : ℕ) → 100 ≤ n → n < 1000 → decimal n ≡ (48 + n / 10 / 10) ∷ (48 + n / 10 % 10) ∷ (48 + n % 10) ∷ []
decimal_three n h k =
    decimal_step n (omega arith) (omega arith) ∙ ap (λ (t : List ℕ). t ++ ((48 + n % 10) ∷ [])) (decimal_two (n / 10) (omega arith) (omega arith))

number_at : (small middle : Bool) (n : ℕ) → leb 10 n ≡ small → leb 100 n ≡ middle → n < 1000 → number_of (decimal n) ≡ Ok n
number_at false middle n s m h =
    let below : n < 10 = omega (arith, leb-false 10 n s) in
    ap number_of (decimal_digit n below) ∙ one_digit n below
number_at true false n s m h =
    let above : 10 ≤ n = leb-true 10 n s in
    let below : n < 100 = leb-false 100 n m in
    ap number_of (decimal_two n above below) ∙ two_digits (n / 10) (n % 10) (omega arith) (omega arith) (omega arith) ∙ ap (λ (k : ℕ). Ok k) (omega arith)
number_at true true n s m h =
    let above : 100 ≤ n = leb-true 100 n m in
    ap number_of (decimal_three n above h) ∙ three_digits (n / 10 / 10) (n / 10 % 10) (n % 10) (omega arith) (omega arith) (omega arith) (omega arith) ∙ ap (λ (k : ℕ). Ok k) (omega arith)

pub number_reads_back : (n : ℕ) → n < 1000 → number_of (decimal n) ≡ Ok n
number_reads_back n h = number_at (leb 10 n) (leb 100 n) n refl refl h

length_text : (bytes : List ℕ) → length (hex_text bytes) ≡ 2 * length bytes
length_text [] = refl
length_text (b ∷ bs) = let rest = length_text bs in omega arith

pub bytes_read_back : (least most : ℕ) (bytes : List ℕ) → Bytes bytes → least ≤ length bytes → length bytes ≤ most → bytes_in least most (hex_text bytes) ≡ Ok bytes
bytes_read_back least most bytes all low high =
    let long = length_text bytes in
    let enough : leb (2 * least) (length (hex_text bytes)) ≡ true = le-leb _ _ (omega arith) in
    let fits : leb (length (hex_text bytes)) (2 * most) ≡ true = le-leb _ _ (omega arith) in
    simp (enough, fits, reads_back bytes all) refl

digit_read : (n : ℕ) → n < 16 → digit_value (hex_digit n) ≡ Some n
digit_read n h = grind (arith, nat_tests)

pair_reads : (n : ℕ) → n < 256 → byte_of (digit_value (hex_digit (n / 16))) (digit_value (hex_digit (n % 16))) ≡ Some n
pair_reads n h =
    let high = digit_read (n / 16) (omega arith) in
    let low = digit_read (n % 16) (omega arith) in
    let whole : n / 16 * 16 + n % 16 ≡ n = omega arith in
    simp (high, low, whole) refl

pub draw_reads_back : (draw : ℕ) → draw < 65536 → draw_of (hex_text (draw / 256 ∷ draw % 256 ∷ [])) ≡ Ok draw
draw_reads_back draw h =
    let high = pair_reads (draw / 256) (omega arith) in
    let low = pair_reads (draw % 256) (omega arith) in
    let whole : 256 * (draw / 256) + draw % 256 ≡ draw = omega arith in
    ap (λ (o : Option ℕ). ok_or o fault.Draw) ((λ i. word_from (high i) (low i)) ∙ ap (λ (k : ℕ). Some k) whole)

-- Hex text that is written part by part.
use Rattle.std.proofs.Common.{◌≡◌, ℕ, zero, suc, ◌+◌, ◌*◌, ◌/◌, ◌%◌, ◌<◌, ◌≤◌, List, [], ◌∷◌, ◌++◌, length, get_or, set, take, refl, ap, ◌∙◌, arith, append_assoc}
use Rattle.std.proofs.lemmas.Bool.Decides.{nat_tests}
use Rattle.std.proofs.lemmas.List.{take_more, take_more_set, take_all, length-set}
use Rattle.std.specs.Str.{IsAscii}
use Rattle.hex_pairs.specs.Hex.{hex_digit, hex_text}

pub text_append : (xs ys : List ℕ) → hex_text (xs ++ ys) ≡ hex_text xs ++ hex_text ys
text_append [] ys = refl
text_append (x ∷ xs) ys = ap (λ (t : List ℕ). hex_digit (x / 16) ∷ hex_digit (x % 16) ∷ t) (text_append xs ys)

-- the text of one byte more
text_more : (xs : List ℕ) (i : ℕ) → i < length xs → hex_text (take i xs) ++ (hex_digit (get_or xs i 0 / 16) ∷ hex_digit (get_or xs i 0 % 16) ∷ []) ≡ hex_text (take (i + 1) xs)
text_more xs i h = rw (take_more xs i 0 h, text_append (take i xs) (get_or xs i 0 ∷ [])) refl

-- two digits put after those before them
digits_more : (text : List ℕ) (o high low : ℕ) → o + 1 < length text
    → take (o + 2) (set (set text o high) (o + 1) low) ≡ take o text ++ (high ∷ low ∷ [])
digits_more text o high low fits =
    let same : length (set text o high) ≡ length text = length-set text o high in
    let two : o + 2 ≡ o + 1 + 1 = omega arith in
    let second = take_more_set (set text o high) (o + 1) low (omega (arith, same)) in
    let first = take_more_set text o high (omega arith) in
    rw (two, second, first) (append_assoc (take o text) (high ∷ []) (low ∷ []))

-- the digits of the byte at i, put after those of the bytes before it
pub part_more : (xs text : List ℕ) (i : ℕ) → i < length xs → 2 * i + 1 < length text
    → take (2 * i) text ≡ hex_text (take i xs)
    → take (2 * (i + 1)) (set (set text (2 * i) (hex_digit (get_or xs i 0 / 16))) (2 * i + 1) (hex_digit (get_or xs i 0 % 16)))
    ≡ hex_text (take (i + 1) xs)
part_more xs text i h fits so_far =
    let two : 2 * (i + 1) ≡ 2 * i + 2 = omega arith in
    rw (two, digits_more text (2 * i) _ _ fits, so_far) (text_more xs i h)

-- once all bytes are passed, their whole text stands at the start
pub all_taken : (xs text : List ℕ) (i : ℕ) → length xs ≤ i → i ≤ length xs → take (2 * i) text ≡ hex_text (take i xs)
    → take (2 * length xs) text ≡ hex_text xs
all_taken xs text i h l so_far =
    let all : i ≡ length xs = omega arith in
    rw all at (so_far ∙ ap hex_text (take_all i xs h))

digit_low : (n : ℕ) → n < 16 → hex_digit n < 128
digit_low n h = grind (arith, nat_tests)

-- the digits of bytes are ASCII
pub text_ascii : (bytes : List ℕ) → ((i : ℕ) → get_or bytes i 0 < 256) → IsAscii (hex_text bytes)
text_ascii [] small i = omega arith
text_ascii (b ∷ bs) small zero = digit_low (b / 16) (let byte : b < 256 = small 0 in omega arith)
text_ascii (b ∷ bs) small (suc zero) = digit_low (b % 16) (omega arith)
text_ascii (b ∷ bs) small (suc (suc i)) = text_ascii bs (λ j. small (suc j)) i

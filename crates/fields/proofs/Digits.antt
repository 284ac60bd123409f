-- The steps by which digits are read.
use Rattle.std.proofs.Common.{◌≡◌, ℕ, zero, suc, ◌+◌, ◌*◌, ◌/◌, ◌%◌, ◌<◌, ◌≤◌, Bool, true, false, cond, ◌&&◌, leb, List, [], ◌∷◌, ◌++◌, length, get_or, drop, Some, None, Ok, Err, Option, Result, sym, refl, ap, ◌∙◌, append_assoc, append-nil, arith, leb-true}
use Rattle.std.specs.Option.{ok_or}
use Rattle.std.specs.Simd.{first_chunks}
use Rattle.std.proofs.lemmas.List.{at_drop_more, at_drop_all}
use Rattle.typeb.specs.declared.message.Message.{Message}
use Rattle.typeb.specs.Messages.{bytes_of}
use Rattle.hex_pairs.specs.Hex.{before, byte_of, digit_value, hex_bytes}
use Rattle.fields.specs.declared.FieldFault.{FieldFault}
use Rattle.fields.specs.declared.FieldFault.TheVariants as fault
use Rattle.fields.specs.Fields.{bytes_in, result_bytes, AtMost}

-- bytes that were read, before those that a rest gives
abbrev pub followed : List ℕ → Option (List ℕ) → Option (List ℕ)
followed bytes (Some more) = Some (bytes ++ more)
followed bytes None = None

pub followed_more : (xs : List ℕ) (byte : ℕ) (rest : Option (List ℕ)) → followed (xs ++ (byte ∷ [])) rest ≡ followed xs (before (Some byte) rest)
followed_more xs byte None = refl
followed_more xs byte (Some ys) = ap (λ (zs : List ℕ). Some zs) (append_assoc xs (byte ∷ []) ys)

-- the bytes of pairs of digits
abbrev pub pairs_bytes : List (List ℕ) → Option (List ℕ)
pairs_bytes [] = Some []
pairs_bytes (pair ∷ pairs) = before (byte_of (digit_value (get_or pair 0 0)) (digit_value (get_or pair 1 0))) (pairs_bytes pairs)

pub by_pairs : (n : ℕ) (xs : List ℕ) → length xs ≡ 2 * n → hex_bytes xs ≡ pairs_bytes (first_chunks 2 n xs)
by_pairs zero [] h = refl
by_pairs zero (c ∷ xs) h = absurd (omega arith)
by_pairs (suc n) [] h = absurd (omega arith)
by_pairs (suc n) (c ∷ []) h = absurd (omega arith)
by_pairs (suc n) (c ∷ d ∷ xs) h = ap (before (byte_of (digit_value c) (digit_value d))) (by_pairs n xs (omega arith))

pub of_pairs : (xs : List ℕ) (pairs : List (List ℕ)) → pairs ≡ first_chunks 2 (length xs / 2) xs → length xs % 2 ≡ 0 → pairs_bytes pairs ≡ hex_bytes xs
of_pairs xs pairs e even = ap pairs_bytes e ∙ sym (by_pairs (length xs / 2) xs (omega arith))

-- all pairs are read, or one of them gives no byte
pub pairs_read : (pairs : List (List ℕ)) (i : ℕ) (bytes : List ℕ) → length pairs ≤ i → followed bytes (pairs_bytes (drop i pairs)) ≡ pairs_bytes pairs → Some bytes ≡ pairs_bytes pairs
pairs_read pairs i bytes h e = ap (λ (x : List ℕ). Some x) (sym (append-nil bytes)) ∙ ap (followed bytes) (sym (at_drop_all pairs_bytes pairs i h)) ∙ e

pub pair_missing : (pairs : List (List ℕ)) (i : ℕ) (d bytes : List ℕ) → i < length pairs → None ≡ byte_of (digit_value (get_or (get_or pairs i d) 0 0)) (digit_value (get_or (get_or pairs i d) 1 0))
    → followed bytes (pairs_bytes (drop i pairs)) ≡ pairs_bytes pairs → None ≡ pairs_bytes pairs
pair_missing pairs i d bytes h none e = ap (followed bytes) (ap (λ (o : Option ℕ). before o (pairs_bytes (drop (i + 1) pairs))) none ∙ sym (at_drop_more pairs_bytes pairs i d h)) ∙ e

before_none : (o : Option ℕ) → before o None ≡ None
before_none None = refl
before_none (Some byte) = refl

-- a digit is left over
pub odd_digits : (xs : List ℕ) → length xs % 2 ≡ 1 → hex_bytes xs ≡ None
odd_digits [] h = absurd (omega arith)
odd_digits (c ∷ []) h = refl
odd_digits (c ∷ d ∷ xs) h = ap (before (byte_of (digit_value c) (digit_value d))) (odd_digits xs (omega arith)) ∙ before_none (byte_of (digit_value c) (digit_value d))

-- two digits for each byte
longer : (o : Option ℕ) (r : Option (List ℕ)) (digits : ℕ) (bytes : List ℕ) → ((some : List ℕ) → r ≡ Some some → 2 * length some ≡ digits) → before o r ≡ Some bytes → 2 * length bytes ≡ digits + 2
longer (Some byte) (Some some) digits bytes h e = let whole : byte ∷ some ≡ bytes = cc in omega (arith, h some refl, ap length whole)
longer (Some byte) None digits bytes h e = cc
longer None r digits bytes h e = cc

pub length_hex : (digits bytes : List ℕ) → hex_bytes digits ≡ Some bytes → 2 * length bytes ≡ length digits
length_hex [] bytes e = let none : ◌≡◌ {A = List ℕ} [] bytes = cc in omega (arith, ap length none)
length_hex (c ∷ []) bytes e = cc
length_hex (c ∷ d ∷ rest) bytes e = omega (arith, longer (byte_of (digit_value c) (digit_value d)) (hex_bytes rest) (length rest) bytes (length_hex rest) e)

-- how many bytes a field gives
pub record Within (least most n : ℕ) : Type 0 where
  pub low : least ≤ n
  pub high : n ≤ most

within_at : (b b' : Bool) (least most : ℕ) (digits bytes : List ℕ) (o : Option (List ℕ)) → leb (2 * least) (length digits) ≡ b → leb (length digits) (2 * most) ≡ b' → (o ≡ Some bytes → 2 * length bytes ≡ length digits)
    → Ok bytes ≡ cond (b && b') (ok_or o fault.Bytes) (Err fault.Bytes) → Within least most (length bytes)
within_at true true least most digits bytes (Some some) low high long e =
    let same : some ≡ bytes = cc in
    let size = long (ap (λ (x : List ℕ). Some x) same) in
    let enough : 2 * least ≤ length digits = leb-true _ _ low in
    let fits : length digits ≤ 2 * most = leb-true _ _ high in
    record { low = omega arith; high = omega arith }
within_at true true least most digits bytes None low high long e = cc
within_at true false least most digits bytes o low high long e = cc
within_at false b' least most digits bytes o low high long e = cc

pub bytes_within : (least most : ℕ) (field bytes : List ℕ) → Ok bytes ≡ bytes_in least most field → Within least most (length bytes)
bytes_within least most field bytes e = within_at _ _ least most field bytes (hex_bytes field) refl refl (length_hex field bytes) e

pub at_most : (least most : ℕ) (field : List ℕ) (r : Result Message FieldFault) → result_bytes r ≡ bytes_in least most field → AtMost most r
at_most least most field (Ok m) e = (bytes_within least most field (bytes_of m) e).high
at_most least most field (Err why) e = tt

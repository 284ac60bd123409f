-- A frame is sound exactly when the register ends at 0xF0B8, and a sealed body is sound.
-- Two bytes enter the register as sixteen zero bits would after an exclusive or with the two bytes.
-- Zero bits can be taken back, so sixteen of them lead to 0xF0B8 from 0xFFFF alone.
-- So the register ends at 0xF0B8 exactly when the last two bytes are the complement of the register before them.
use Rattle.std.proofs.Common.{◌≡◌, ℕ, zero, suc, ◌+◌, ◌-◌, ◌*◌, ◌/◌, ◌%◌, ◌^◌, ◌<◌, ◌≤◌, Bool, true, false, cond, ◌&&◌, eqb, leb, ltb, List, [], ◌∷◌, ◌++◌, length, fold, sym, refl, ap, ◌∙◌, ap₂, div-one, add-one, one-add, arith, lit<, shr-shr}
use native.Mathlib.Nat.{div-eq_of_lt}
use lib.Bits.{bit_xor, xor_shr, xor_mod, xor_assoc, xor_comm, xor_self, xor_zero_r, xor_lt, xor_add_and, and_mask}
use lib.Pow.{field, mod-mod-pow}
use Rattle.std.specs.Str.{bytes_eq}
use Rattle.std.proofs.lemmas.Bool.{cond_both, cond-true, cond-false, eq-eqb, eqb-true, eqb-false, lt-ltb, le-ltb, le-leb, leb-true}
use Rattle.std.proofs.lemmas.List.{length-append, take-append-drop, take_at, drop_at}
use Rattle.std.proofs.lemmas.Slice.Eq.{bytes_eq-Decides}
use Rattle.std.proofs.lemmas.Bool.Decides.{same_from_decides}
use Rattle.std.proofs.lemmas.List.Sums.{fold-append}
use Rattle.typeb.proofs.Parts.{drop_two}
use Rattle.typeb.specs.CheckBytes.{fold_bit, fold_bits, fold_byte, register, check_bytes, sealed, body_of, tail_of, sound, Bytes}

-- Exclusive or with the same number twice changes nothing, and the order does not matter.
xor_cancel : (a b : ℕ) → bit_xor a (bit_xor a b) ≡ b
xor_cancel a b = sym (xor_assoc a a b) ∙ ap (λ x. bit_xor x b) (xor_self a)

xor_swap : (a b c : ℕ) → bit_xor (bit_xor a b) c ≡ bit_xor (bit_xor a c) b
xor_swap a b c = xor_assoc a b c ∙ ap (bit_xor a) (xor_comm b c) ∙ sym (xor_assoc a c b)

-- Two bits are equal exactly when their exclusive or is 0.
bits_same : (x y : ℕ) → x < 2 → y < 2 → eqb (bit_xor x y) 0 ≡ eqb x y
bits_same zero zero hx hy = refl
bits_same zero (suc zero) hx hy = refl
bits_same zero (suc (suc y)) hx hy = absurd (omega arith)
bits_same (suc zero) zero hx hy = refl
bits_same (suc zero) (suc zero) hx hy = refl
bits_same (suc zero) (suc (suc y)) hx hy = absurd (omega arith)
bits_same (suc (suc x)) y hx hy = absurd (omega arith)

-- The lowest bit of c enters as a zero bit does after an exclusive or with c; the other bits of c stay in the register.
cond_xor : (b : Bool) (h k : ℕ) → cond b (bit_xor h k) (bit_xor (bit_xor h k) 0x8408) ≡ bit_xor (cond b h (bit_xor h 0x8408)) k
cond_xor true h k = refl
cond_xor false h k = xor_swap h k 0x8408

fold_bit_xor : (r c : ℕ) → fold_bit (bit_xor r c) 0 ≡ bit_xor (fold_bit r (c % 2)) (c / 2)
unfolding fold_bit
fold_bit_xor r c =
    rw (xor_mod r c 1, xor_shr r c 1, bits_same (r % 2) (c % 2) (omega arith) (omega arith)) (cond_xor (eqb (r % 2) (c % 2)) (r / 2) (c / 2))

-- The same for the n lowest bits of c.
fold_bits_xor : (n r c : ℕ) → fold_bits n (bit_xor r c) 0 ≡ bit_xor (fold_bits n r c) (c / 2 ^ n)
unfolding fold_bits
fold_bits_xor zero r c = ap (bit_xor r) (sym (div-one c))
fold_bits_xor (suc n) r c =
    ap (λ s. fold_bits n s 0) (fold_bit_xor r c)
    ∙ fold_bits_xor n (fold_bit r (c % 2)) (c / 2)
    ∙ ap (bit_xor (fold_bits n (fold_bit r (c % 2)) (c / 2))) (shr-shr c 1 n ∙ ap (λ k. c / 2 ^ k) (one-add n))

-- No bit above the n lowest is read.
fold_bits_low : (n r c : ℕ) → fold_bits n r c ≡ fold_bits n r (c % 2 ^ n)
unfolding fold_bits
fold_bits_low zero r c = refl
fold_bits_low (suc n) r c =
    rw (← add-one n, mod-mod-pow c n 1, field c n 1) (fold_bits_low n (fold_bit r (c % 2)) (c / 2))

-- The register stays below 65536.
fold_bit_below : (r b : ℕ) → r < 65536 → fold_bit r b < 65536
unfolding fold_bit
fold_bit_below r b h =
    let half : r / 2 < 65536 = omega arith in
    cond_both (eqb (r % 2) b) (r / 2) (bit_xor (r / 2) 0x8408) (λ x. x < 65536) (λ _. half) (λ _. xor_lt 16 (r / 2) 0x8408 half (lit< tt))

fold_bits_below : (n r c : ℕ) → r < 65536 → fold_bits n r c < 65536
unfolding fold_bits
fold_bits_below zero r c h = h
fold_bits_below (suc n) r c h = fold_bits_below n (fold_bit r (c % 2)) (c / 2) (fold_bit_below r (c % 2) h)

folded_below : (r : ℕ) (bytes : List ℕ) → r < 65536 → fold fold_byte r bytes < 65536
unfolding fold_byte
folded_below r [] h = h
folded_below r (x ∷ xs) h = folded_below (fold_byte r x) xs (fold_bits_below 8 r x h)

-- A zero bit can be taken back: the top bit of the register tells whether 0x8408 was added.
back : ℕ → ℕ
back s = cond (ltb s 0x8000) (s * 2) (bit_xor s 0x8408 * 2 + 1)

back_even : (h : ℕ) → h < 0x8000 → back h ≡ h * 2
unfolding back
back_even h l = cond-true (ltb h 0x8000) (h * 2) (bit_xor h 0x8408 * 2 + 1) (lt-ltb h 0x8000 l)

back_odd : (h : ℕ) → h < 0x8000 → back (bit_xor h 0x8408) ≡ h * 2 + 1
unfolding back
back_odd h l =
    let top : 0x8000 ≤ bit_xor h 0x8408 = omega (arith, xor_shr h 0x8408 15, ap (λ x. bit_xor x 1) (div-eq_of_lt l)) in
    cond-false (ltb (bit_xor h 0x8408) 0x8000) (bit_xor h 0x8408 * 2) (bit_xor (bit_xor h 0x8408) 0x8408 * 2 + 1) (le-ltb (bit_xor h 0x8408) 0x8000 top)
    ∙ ap (λ x. x * 2 + 1) (xor_comm (bit_xor h 0x8408) 0x8408 ∙ ap (bit_xor 0x8408) (xor_comm h 0x8408) ∙ xor_cancel 0x8408 h)

back_fold_bit : (r : ℕ) → r < 65536 → back (fold_bit r 0) ≡ r
unfolding fold_bit
back_fold_bit r l = cond_both (eqb (r % 2) 0) (r / 2) (bit_xor (r / 2) 0x8408) (λ x. back x ≡ r)
    (λ e. omega (arith, back_even (r / 2) (omega arith), eqb-true (r % 2) 0 e))
    (λ e. omega (arith, back_odd (r / 2) (omega arith), eqb-false (r % 2) 0 e))

backs : ℕ → ℕ → ℕ
backs zero s = s
backs (suc n) s = back (backs n s)

backs_fold_bits : (n r : ℕ) → r < 65536 → backs n (fold_bits n r 0) ≡ r
unfolding backs fold_bits
backs_fold_bits zero r l = refl
backs_fold_bits (suc n) r l = ap back (backs_fold_bits n (fold_bit r 0) (fold_bit_below r 0 l)) ∙ back_fold_bit r l

-- Sixteen zero bits lead to 0xF0B8 from 0xFFFF, and from no other register below 65536.
from_ones : fold_bits 16 0xFFFF 0 ≡ 0xF0B8
unfolding fold_bits fold_bit
from_ones = refl

to_ones : (r : ℕ) → r < 65536 → fold_bits 16 r 0 ≡ 0xF0B8 → r ≡ 0xFFFF
unfolding backs back
to_ones r l e = sym (backs_fold_bits 16 r l) ∙ ap (backs 16) e

-- A byte, and then two bytes, enter as zero bits do after an exclusive or.
byte_xor : (r b : ℕ) → b < 256 → fold_bits 8 r b ≡ fold_bits 8 (bit_xor r b) 0
byte_xor r b h =
    let none : b / 256 ≡ 0 = omega arith in
    sym (fold_bits_xor 8 r b ∙ ap (bit_xor (fold_bits 8 r b)) none ∙ xor_zero_r (fold_bits 8 r b))

fold_byte_bits : (r b : ℕ) → fold_byte r b ≡ fold_bits 8 r b
unfolding fold_byte
fold_byte_bits r b = refl

-- The register's low byte and the byte choose what eight zero bits add to the register's high byte.
pub byte_by_row : (r b : ℕ) → b < 256 → bit_xor (fold_byte (bit_xor b (r % 256)) 0) (r / 256) ≡ fold_byte r b
byte_by_row r b h =
    let low : r % 256 < 256 = omega arith in
    ap (λ x. bit_xor x (r / 256)) (fold_byte_bits (bit_xor b (r % 256)) 0 ∙ sym (byte_xor b (r % 256) low) ∙ sym (fold_bits_low 8 b r))
    ∙ sym (fold_bits_xor 8 b r)
    ∙ ap (λ x. fold_bits 8 x 0) (xor_comm b r)
    ∙ sym (byte_xor r b h)
    ∙ sym (fold_byte_bits r b)

eight_and_eight : (r : ℕ) → fold_bits 8 (fold_bits 8 r 0) 0 ≡ fold_bits 16 r 0
unfolding fold_bits
eight_and_eight r = refl

two_bytes_xor : (r low high : ℕ) → low < 256 → high < 256 → fold_byte (fold_byte r low) high ≡ fold_bits 16 (bit_xor r (low + 256 * high)) 0
two_bytes_xor r low high hl hh =
    let c : ℕ = low + 256 * high in
    let below : c % 256 ≡ low = omega arith in
    let above : c / 256 ≡ high = omega arith in
    let first : fold_bits 8 (bit_xor r c) 0 ≡ bit_xor (fold_bits 8 r low) high =
    fold_bits_xor 8 r c ∙ ap₂ bit_xor (fold_bits_low 8 r c ∙ ap (fold_bits 8 r) below) above in
    fold_byte_bits (fold_byte r low) high ∙ ap (λ s. fold_bits 8 s high) (fold_byte_bits r low)
    ∙ byte_xor (fold_bits 8 r low) high hh ∙ ap (λ s. fold_bits 8 s 0) (sym first) ∙ eight_and_eight (bit_xor r c)

-- 0xFFFF less a register is the register with each bit turned over.
complement : (r : ℕ) → r < 65536 → bit_xor r 0xFFFF ≡ 0xFFFF - r
complement r l = omega (arith, xor_add_and r 0xFFFF, and_mask r 16)

-- Two bytes lead a register to 0xF0B8 exactly when they are the bytes of its complement.
to_residue : (r low high : ℕ) → r < 65536 → low < 256 → high < 256 → low + 256 * high ≡ 0xFFFF - r → fold_byte (fold_byte r low) high ≡ 0xF0B8
to_residue r low high l hl hh e =
    two_bytes_xor r low high hl hh
    ∙ ap (λ x. fold_bits 16 x 0) (ap (bit_xor r) (e ∙ sym (complement r l)) ∙ xor_cancel r 0xFFFF)
    ∙ from_ones

from_residue : (r low high : ℕ) → r < 65536 → low < 256 → high < 256 → fold_byte (fold_byte r low) high ≡ 0xF0B8 → low + 256 * high ≡ 0xFFFF - r
from_residue r low high l hl hh e =
    let c : ℕ = low + 256 * high in
    let small : bit_xor r c < 65536 = xor_lt 16 r c l (omega arith) in
    sym (xor_cancel r c) ∙ ap (bit_xor r) (to_ones (bit_xor r c) small (sym (two_bytes_xor r low high hl hh) ∙ e)) ∙ complement r l

-- Two bytes behind a body are its check bytes exactly when the register ends at 0xF0B8.
same_check : (body : List ℕ) (low high : ℕ) → low < 256 → high < 256 → bytes_eq (low ∷ high ∷ []) (check_bytes body) ≡ eqb (register (body ++ low ∷ high ∷ [])) 0xF0B8
unfolding check_bytes
same_check body low high hl hh =
    let r : ℕ = register body in
    let l : r < 65536 = folded_below 0xFFFF body (lit< tt) in
    let end : register (body ++ low ∷ high ∷ []) ≡ fold_byte (fold_byte r low) high = fold-append fold_byte 0xFFFF body (low ∷ high ∷ []) in
    same_from_decides _ _ (bytes_eq-Decides (low ∷ high ∷ []) (check_bytes body)) (
      (λ e.
          let c = from_residue r low high l hl hh (sym end ∙ eqb-true _ _ e) in
          let first : low ≡ (0xFFFF - r) % 256 = omega arith in
          let second : high ≡ (0xFFFF - r) / 256 = omega arith in
          ap₂ (λ x y. x ∷ y ∷ []) first second),
      (λ e.
          let first : low ≡ (0xFFFF - r) % 256 = cc in
          let second : high ≡ (0xFFFF - r) / 256 = cc in
          eq-eqb _ _ (end ∙ to_residue r low high l hl hh (omega arith))),
    )

-- Of a frame of three bytes or more, only its last two bytes are in question.
sound_by_tail : (frame : List ℕ) → 3 ≤ length frame → sound frame ≡ bytes_eq (tail_of frame) (check_bytes (body_of frame))
unfolding sound
sound_by_tail frame long = rw (le-leb 3 (length frame) long)

-- Two answers to a question that is asked second need to agree only where the first is answered by yes.
by_length : (b x y : Bool) → (b ≡ true → x ≡ y) → (b && x) ≡ (b && y)
by_length true x y same = same refl
by_length false x y same = refl

-- A frame of three bytes or more is sound exactly when the register ends at 0xF0B8.
residue : (frame : List ℕ) → Bytes frame → 3 ≤ length frame → sound frame ≡ eqb (register frame) 0xF0B8
residue frame bytes long =
    let last = drop_two frame (omega arith) in
    sound_by_tail frame long
    ∙ ap (λ t. bytes_eq t (check_bytes (body_of frame))) last
    ∙ same_check (body_of frame) _ _ (bytes (length frame - 2) (omega arith)) (bytes (length frame - 1) (omega arith))
    ∙ ap (λ f. eqb (register f) 0xF0B8) (ap (λ t. body_of frame ++ t) (sym last) ∙ take-append-drop (length frame - 2) frame)

-- A frame of any length is sound exactly when it has three bytes or more and the register ends at 0xF0B8.
pub residue_of_all : (frame : List ℕ) → Bytes frame → sound frame ≡ (leb 3 (length frame) && eqb (register frame) 0xF0B8)
unfolding sound
residue_of_all frame bytes = by_length (leb 3 (length frame)) _ _ (λ e. sym (sound_by_tail frame (leb-true 3 (length frame) e)) ∙ residue frame bytes (leb-true 3 (length frame) e))

-- A body that is not empty, with its check bytes behind it, is a sound frame.
pub sealed_sound : (body : List ℕ) → 1 ≤ length body → sound (sealed body) ≡ true
unfolding check_bytes
sealed_sound body some =
    let long : length (sealed body) ≡ length body + 2 = length-append body (check_bytes body) in
    let n : length body ≡ length (sealed body) - 2 = omega arith in
    let tail : tail_of (sealed body) ≡ check_bytes body = drop_at body (check_bytes body) (length (sealed body) - 2) n in
    let rest : body_of (sealed body) ≡ body = take_at body (check_bytes body) (length (sealed body) - 2) n in
    sound_by_tail (sealed body) (omega arith)
    ∙ (bytes_eq-Decides (tail_of (sealed body)) (check_bytes (body_of (sealed body)))).1 (tail ∙ ap check_bytes (sym rest))

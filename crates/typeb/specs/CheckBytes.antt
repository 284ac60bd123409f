-- The check bytes of a frame, CRC_B of ISO/IEC 14443-3: what they are, and when a frame is sound.
use Rattle.std.specs.Prelude.{◌≡◌, ℕ, zero, suc, ◌+◌, ◌-◌, ◌/◌, ◌%◌, ◌<◌, ◌≤◌, Bool, true, cond, ◌&&◌, List, [], ◌∷◌, ◌++◌, length, take, drop, Some, None, fold, Option, ◌==◌, bit_xor, nat_le, slice_index}
use Rattle.std.specs.Str.{bytes_eq}

-- One data bit enters the register: the register is halved, which drops its low bit;
-- where that low bit differed from the data bit, 0x8408 is added bit by bit without carry.
unfoldable pub fold_bit : ℕ → ℕ → ℕ
fold_bit reg bit = cond (reg % 2 == bit) (reg / 2) (bit_xor (reg / 2) 0x8408)

-- The n lowest bits of a number enter, lowest first.
unfoldable pub fold_bits : ℕ → ℕ → ℕ → ℕ
fold_bits zero reg number = reg
fold_bits (suc n) reg number = fold_bits n (fold_bit reg (number % 2)) (number / 2)

-- A byte is eight bits.
unfoldable pub fold_byte : ℕ → ℕ → ℕ
unfolding fold_bits
fold_byte reg byte = fold_bits 8 reg byte

-- The register after a run of bytes, from its start value 0xFFFF.
abbrev pub register : List ℕ → ℕ
register bytes = fold fold_byte 0xFFFF bytes

-- The two check bytes of a body: the register complemented, low byte first.
unfoldable pub check_bytes : List ℕ → List ℕ
check_bytes body = ((0xFFFF - register body) % 256) ∷ ((0xFFFF - register body) / 256) ∷ []

-- A body with its check bytes behind it.
abbrev pub sealed : List ℕ → List ℕ
sealed body = body ++ check_bytes body

-- A body sealed at the front of a lent buffer: every other byte stays as it was, and the frame's length is answered.
-- A buffer that is too short stays as it was.
pub record SealedInto (body lent given : List ℕ) (len : Option ℕ) : Type 0 where
  pub size : len ≡ cond (nat_le (length body + 2) (length lent)) (Some (length body + 2)) None
  pub buffer : given ≡ cond (nat_le (length body + 2) (length lent)) (sealed body ++ drop (length body + 2) lent) lent

-- A frame without its last two bytes, and those two.
abbrev pub body_of : List ℕ → List ℕ
body_of frame = take (length frame - 2) frame

abbrev pub tail_of : List ℕ → List ℕ
tail_of frame = drop (length frame - 2) frame

-- A frame is sound when it has three bytes or more and its last two are the check bytes of the rest.
unfoldable pub sound : List ℕ → Bool
sound frame = nat_le 3 (length frame) && bytes_eq (tail_of frame) (check_bytes (body_of frame))

-- Every element of a list is a byte.
abbrev pub Bytes : List ℕ → Type 0
Bytes xs = (i : ℕ) → i < length xs → slice_index xs i < 256

-- The receiver's rule: of three bytes or more, it lets the register run over the whole frame, check bytes included, and
-- looks for 0xF0B8.
abbrev pub EndsAtResidue : List ℕ → Bool → Type 0
EndsAtResidue frame answer = answer ≡ (nat_le 3 (length frame) && register frame == 0xF0B8)

-- Sealing makes a sound frame of every body that is not empty.
abbrev pub SealedIsSound : List ℕ → Type 0
SealedIsSound body = 1 ≤ length body → sound (sealed body) ≡ true

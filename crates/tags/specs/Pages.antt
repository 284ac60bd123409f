-- Pages of eight bytes, read and written whole.
use Rattle.std.specs.Prelude.{◌≡◌, ℕ, ◌+◌, ◌*◌, ◌/◌, ◌%◌, ◌^◌, Bool, cond, List, [], ◌∷◌, ◌++◌, length, take, drop, Some, None, Option, ◌==◌, nat_le, bit_or, slice_index}

abbrev pub page_at : ℕ → List ℕ → List ℕ
page_at n memory = take 8 (drop (8 * n) memory)

abbrev pub put_page : ℕ → List ℕ → List ℕ → List ℕ
put_page n page memory = take (8 * n) memory ++ (page ++ drop (8 * n + 8) memory)

-- A page is set where the memory has it; else the memory stays as it was, and nothing is answered.
pub record PageSet (n : ℕ) (page before after : List ℕ) (answer : Option Unit) : Type 0 where
  pub memory : after ≡ cond (nat_le (8 * n + 8) (length before)) (put_page n page before) before
  pub done : answer ≡ cond (nat_le (8 * n + 8) (length before)) (Some tt) None

-- Page 0 begins with the serial number, page 1 with the application data.
abbrev pub serial_in : List ℕ → List ℕ
serial_in memory = take 4 memory

abbrev pub application_in : List ℕ → List ℕ
application_in memory = take 4 (drop 8 memory)

-- Bytes 4 to 7 of page 0 are 32 lock bits, low byte first; bit i names page i.
abbrev pub lock_bit : ℕ → List ℕ → ℕ
lock_bit i page = slice_index page (4 + i / 8) / 2 ^ (i % 8) % 2

abbrev pub unlocked : ℕ → List ℕ → Bool
unlocked i page = lock_bit i page == 0

-- LOCK: data bytes 4 to 7 are ORed into the lock bits, without bit 0.
abbrev pub locked_by : List ℕ → List ℕ → List ℕ
locked_by bytes page =
    take 4 page ++ (bit_or (slice_index page 4) (slice_index bytes 4 / 2 * 2) ∷ bit_or (slice_index page 5) (slice_index bytes 5) ∷ bit_or (slice_index page 6) (slice_index bytes 6) ∷ bit_or (slice_index page 7) (slice_index bytes 7) ∷ [])

-- Page 2 ends with the counter, low byte first.
abbrev pub counter_in : List ℕ → ℕ
counter_in page = slice_index page 6 + 256 * slice_index page 7

-- COUNT: the first six data bytes become the signature, and the counter rises by one.
abbrev pub counted_by : List ℕ → List ℕ → List ℕ
counted_by bytes page = take 6 bytes ++ ((counter_in page + 1) % 256 ∷ (counter_in page + 1) / 256 ∷ [])

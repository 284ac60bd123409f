-- Page 0 after a LOCK, and page 2 after a COUNT.
use Rattle.std.proofs.Common.{◌≡◌, ℕ, zero, suc, ◌+◌, ◌*◌, ◌/◌, ◌%◌, ◌^◌, ◌<◌, List, length, get_or, take, refl, ap, ◌∙◌, arith}
use lib.Bits.{bit_or, or_shr, or_mod, or_zero_r}
use Rattle.std.proofs.lemmas.List.{length-take, length-append, take_at, get_or-append_right}
use Rattle.tags.specs.Pages.{lock_bit, locked_by, counter_in, counted_by}

-- a page 0 that has every lock of another one, the same bit 0 and the same serial number
pub record Firmer (old new : List ℕ) : Type 0 where
  pub locks : (i : ℕ) → i < 32 → lock_bit i old ≡ 1 → lock_bit i new ≡ 1
  pub first : lock_bit 0 new ≡ lock_bit 0 old
  pub serial : take 4 new ≡ take 4 old

pub firmer_same : (p q : List ℕ) → q ≡ p → Firmer p q
firmer_same p q same =
    record {
      locks = λ i below set. ap (lock_bit i) same ∙ set;
      first = ap (lock_bit 0) same;
      serial = ap (take 4) same;
    }

pub firmer_trans : (p q r : List ℕ) → Firmer p q → Firmer q r → Firmer p r
firmer_trans p q r a b =
    record {
      locks = λ i below set. b.locks i below (a.locks i below set);
      first = b.first ∙ a.first;
      serial = b.serial ∙ a.serial;
    }

-- a bit that is set stays set, whatever is ORed to it
one_or : (y : ℕ) → y < 2 → bit_or 1 y ≡ 1
one_or zero h = refl
one_or (suc zero) h = refl
one_or (suc (suc y)) h = absurd (omega arith)

or_bit : (a b k : ℕ) → a / 2 ^ k % 2 ≡ 1 → bit_or a b / 2 ^ k % 2 ≡ 1
or_bit a b k set =
    ap (λ (x : ℕ). x % 2) (or_shr a b k)
    ∙ or_mod (a / 2 ^ k) (b / 2 ^ k) 1
    ∙ ap (λ (x : ℕ). bit_or x (b / 2 ^ k % 2)) set
    ∙ one_or (b / 2 ^ k % 2) (omega arith)

-- an even number leaves bit 0 as it is
or_even : (a b : ℕ) → bit_or a (b / 2 * 2) / 1 % 2 ≡ a / 1 % 2
or_even a b =
    let even : b / 2 * 2 % 2 ≡ 0 = omega arith in
    let same : bit_or a (b / 2 * 2) % 2 ≡ a % 2 = or_mod a (b / 2 * 2) 1 ∙ ap (bit_or (a % 2)) even ∙ or_zero_r (a % 2) in
    omega arith

-- LOCK
module _ (bytes page : List ℕ) (eight : length page ≡ 8) where
  four : length (take 4 page) ≡ 4
  four = length-take 4 page ∙ omega arith

  locked_byte : (q k : ℕ) → q < 4 → get_or page (4 + q) 0 / 2 ^ k % 2 ≡ 1 → get_or (locked_by bytes page) (4 + q) 0 / 2 ^ k % 2 ≡ 1
  locked_byte zero k h set = rw (get_or-append_right (take 4 page) _ 4 4 0 four (omega arith)) (or_bit _ _ k set)
  locked_byte (suc zero) k h set = rw (get_or-append_right (take 4 page) _ 4 5 0 four (omega arith)) (or_bit _ _ k set)
  locked_byte (suc (suc zero)) k h set = rw (get_or-append_right (take 4 page) _ 4 6 0 four (omega arith)) (or_bit _ _ k set)
  locked_byte (suc (suc (suc zero))) k h set = rw (get_or-append_right (take 4 page) _ 4 7 0 four (omega arith)) (or_bit _ _ k set)
  locked_byte (suc (suc (suc (suc q)))) k h set = absurd (omega arith)

  pub firmer_locked : Firmer page (locked_by bytes page)
  firmer_locked =
      record {
        locks = λ i below set. locked_byte (i / 8) (i % 8) (omega arith) set;
        first = rw (get_or-append_right (take 4 page) _ 4 4 0 four (omega arith)) (or_even (get_or page 4 0) (get_or bytes 4 0));
        serial = take_at (take 4 page) _ 4 four;
      }

  pub locked_long : length (locked_by bytes page) ≡ 8
  locked_long = length-append (take 4 page) _ ∙ ap (λ (n : ℕ). n + 4) four

-- COUNT
module _ (bytes page : List ℕ) (eight : length bytes ≡ 8) where
  six : length (take 6 bytes) ≡ 6
  six = length-take 6 bytes ∙ omega arith

  pub counted_long : length (counted_by bytes page) ≡ 8
  counted_long = length-append (take 6 bytes) _ ∙ ap (λ (n : ℕ). n + 2) six

  pub counted_one : counter_in (counted_by bytes page) ≡ counter_in page + 1
  counted_one =
      let count : ℕ = counter_in page + 1 in
      let low : get_or (counted_by bytes page) 6 0 ≡ count % 256 = get_or-append_right (take 6 bytes) _ 6 6 0 six (omega arith) in
      let high : get_or (counted_by bytes page) 7 0 ≡ count / 256 = get_or-append_right (take 6 bytes) _ 6 7 0 six (omega arith) in
      omega arith

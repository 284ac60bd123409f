-- The 32 lock bits as one number.
use Rattle.std.proofs.Common.{◌≡◌, ℕ, zero, suc, ◌+◌, ◌-◌, ◌*◌, ◌/◌, ◌%◌, ◌^◌, ◌<◌, ◌≤◌, max, Bool, not, ◌&&◌, ◌||◌, eqb, List, [], ◌∷◌, length, get_or, take, sym, refl, ap, ◌∙◌, subst, ⊎_elim, arith, lit<}
use Rattle.std.specs.Int.{bit_at}
use lib.Bits.{bit_or, or_block}
use Rattle.std.proofs.lemmas.Bool.{cases_lt, ne_eqb}
use Rattle.std.proofs.lemmas.Nat.{or_of_8}
use Rattle.std.proofs.lemmas.Nat.Bits.{bit_at_or, bit_at-suc, bit_at-lt, bit_at_cat_low, bit_at_cat_high}
use Rattle.std.proofs.lemmas.List.{length-take, get_or-take, get_or_append_left, get_or-append_right}
use Rattle.tags.specs.DataLaws.{IsBytes, locks_in, locks_page}
use Rattle.tags.specs.Pages.{lock_bit, locked_by, unlocked}

-- bytes laid end to end, the first lowest
abbrev four : ℕ → ℕ → ℕ → ℕ → ℕ
four a b c d = ((d * 2 ^ 8 + c) * 2 ^ 8 + b) * 2 ^ 8 + a

locks_four : (list : List ℕ) → locks_in list ≡ four (get_or list 4 0) (get_or list 5 0) (get_or list 6 0) (get_or list 7 0)
locks_four list = omega arith

-- the lock bit of a page is a bit of one byte
module _ (list : List ℕ) (i : ℕ) where
  bit_in : (q : ℕ) → i / 8 ≡ q → lock_bit i list ≡ bit_at (get_or list (4 + q) 0) (i - 8 * q)
  bit_in q is =
      let rest : i % 8 ≡ i - 8 * q = omega arith in
      ap (λ (k : ℕ). bit_at (get_or list (4 + k) 0) (i % 8)) is ∙ ap (bit_at (get_or list (4 + q) 0)) rest

  module _ (each : IsBytes list) where
    pub lock_bit_is : i < 32 → lock_bit i list ≡ bit_at (locks_in list) i
    lock_bit_is below =
        let a : ℕ = get_or list 4 0 in
        let b : ℕ = get_or list 5 0 in
        let c : ℕ = get_or list 6 0 in
        let d : ℕ = get_or list 7 0 in
        let whole : bit_at (locks_in list) i ≡ bit_at (four a b c d) i = ap (λ (n : ℕ). bit_at n i) (locks_four list) in
        let past_a : 8 ≤ i → bit_at (four a b c d) i ≡ bit_at ((d * 2 ^ 8 + c) * 2 ^ 8 + b) (i - 8) =
        λ (g : 8 ≤ i). bit_at_cat_high ((d * 2 ^ 8 + c) * 2 ^ 8 + b) 8 a i (each 4) g in
        let past_b : 16 ≤ i → bit_at ((d * 2 ^ 8 + c) * 2 ^ 8 + b) (i - 8) ≡ bit_at (d * 2 ^ 8 + c) (i - 8 - 8) =
        λ (g : 16 ≤ i). bit_at_cat_high (d * 2 ^ 8 + c) 8 b (i - 8) (each 5) (omega arith) in
        let past_c : 24 ≤ i → bit_at (d * 2 ^ 8 + c) (i - 8 - 8) ≡ bit_at d (i - 8 - 8 - 8) =
        λ (g : 24 ≤ i). bit_at_cat_high d 8 c (i - 8 - 8) (each 6) (omega arith) in
        ⊎_elim
        (λ (l : i < 8).
        bit_in 0 (omega arith) ∙ ap (bit_at a) (omega arith)
        ∙ sym (whole ∙ bit_at_cat_low ((d * 2 ^ 8 + c) * 2 ^ 8 + b) 8 a i l))
        (λ (g : 8 ≤ i).
        ⊎_elim
        (λ (l : i < 16).
        bit_in 1 (omega arith)
        ∙ sym (whole ∙ past_a g ∙ bit_at_cat_low (d * 2 ^ 8 + c) 8 b (i - 8) (omega arith)))
        (λ (h : 16 ≤ i).
        ⊎_elim
        (λ (l : i < 24).
        bit_in 2 (omega arith) ∙ ap (bit_at c) (omega arith)
        ∙ sym (whole ∙ past_a g ∙ past_b h ∙ bit_at_cat_low d 8 c (i - 8 - 8) (omega arith)))
        (λ (k : 24 ≤ i).
        bit_in 3 (omega arith) ∙ ap (bit_at d) (omega arith)
        ∙ sym (whole ∙ past_a g ∙ past_b h ∙ past_c k))
        (cases_lt i 24))
        (cases_lt i 16))
        (cases_lt i 8)

-- a bit is clear where it is not set
clear_bit : (x : ℕ) → x < 2 → eqb x 0 ≡ not (eqb x 1)
clear_bit zero h = refl
clear_bit (suc zero) h = refl
clear_bit (suc (suc x)) h = absurd (omega arith)

pub unlocked_is : (list : List ℕ) → IsBytes list → (i : ℕ) → i < 32 → unlocked i list ≡ not (locks_page i list)
unlocked_is list each i below =
    ap (λ (x : ℕ). eqb x 0) (lock_bit_is list i each below) ∙ clear_bit (bit_at (locks_in list) i) (bit_at-lt (locks_in list) i)

-- of two bits one is set
one_set : (x y : ℕ) → x < 2 → y < 2 → eqb (max x y) 1 ≡ (eqb x 1 || eqb y 1)
one_set zero zero h k = refl
one_set zero (suc zero) h k = refl
one_set zero (suc (suc y)) h k = absurd (omega arith)
one_set (suc zero) zero h k = refl
one_set (suc zero) (suc zero) h k = refl
one_set (suc zero) (suc (suc y)) h k = absurd (omega arith)
one_set (suc (suc x)) y h k = absurd (omega arith)

-- a number without its bit 0
without_first : (n i : ℕ) → eqb (bit_at (n / 2 * 2) i) 1 ≡ (not (eqb i 0) && eqb (bit_at n i) 1)
without_first n zero =
    let even : bit_at (n / 2 * 2) 0 ≡ 0 = omega arith in
    ap (λ (x : ℕ). eqb x 1) even
without_first n (suc i) =
    let half : n / 2 * 2 / 2 ≡ n / 2 = omega arith in
    ap (λ (x : ℕ). eqb x 1) (bit_at-suc (n / 2 * 2) i ∙ ap (λ (k : ℕ). bit_at k i) half ∙ sym (bit_at-suc n i))
    ∙ ap (λ (t : Bool). not t && eqb (bit_at n (suc i)) 1) (sym (ne_eqb (suc i) 0 (λ (e : suc i ≡ 0). omega arith)))

-- the locks that LOCK leaves, as a number
module _ (bytes page : List ℕ) (eight : length page ≡ 8) (named : IsBytes bytes) (held : IsBytes page) where
  lead : length (take 4 page) ≡ 4
  lead = length-take 4 page ∙ omega arith

  first_named : get_or bytes 4 0 / 2 * 2 < 256
  first_named = let h = named 4 in omega arith

  locks_or : locks_in (locked_by bytes page) ≡ bit_or (locks_in page) (locks_in bytes / 2 * 2)
  locks_or =
      let p : ℕ = get_or page 4 0 in
      let q : ℕ = get_or page 5 0 in
      let r : ℕ = get_or page 6 0 in
      let s : ℕ = get_or page 7 0 in
      let a : ℕ = get_or bytes 4 0 / 2 * 2 in
      let b : ℕ = get_or bytes 5 0 in
      let c : ℕ = get_or bytes 6 0 in
      let d : ℕ = get_or bytes 7 0 in
      let e4 : get_or (locked_by bytes page) 4 0 ≡ bit_or p a = get_or-append_right (take 4 page) _ 4 4 0 lead (omega arith) in
      let e5 : get_or (locked_by bytes page) 5 0 ≡ bit_or q b = get_or-append_right (take 4 page) _ 4 5 0 lead (omega arith) in
      let e6 : get_or (locked_by bytes page) 6 0 ≡ bit_or r c = get_or-append_right (take 4 page) _ 4 6 0 lead (omega arith) in
      let e7 : get_or (locked_by bytes page) 7 0 ≡ bit_or s d = get_or-append_right (take 4 page) _ 4 7 0 lead (omega arith) in
      let joined : locks_in (locked_by bytes page) ≡ four (bit_or p a) (bit_or q b) (bit_or r c) (bit_or s d) = omega arith in
      let whole : bit_or (four p q r s) (four a b c d) ≡ four (bit_or p a) (bit_or q b) (bit_or r c) (bit_or s d) =
      or_block 8 ((s * 2 ^ 8 + r) * 2 ^ 8 + q) ((d * 2 ^ 8 + c) * 2 ^ 8 + b) p a (held 4) first_named
      ∙ ap (λ (n : ℕ). n * 2 ^ 8 + bit_or p a)
      (or_block 8 (s * 2 ^ 8 + r) (d * 2 ^ 8 + c) q b (held 5) (named 5)
      ∙ ap (λ (n : ℕ). n * 2 ^ 8 + bit_or q b) (or_block 8 s d r c (held 6) (named 6))) in
      let even : four a b c d ≡ locks_in bytes / 2 * 2 = omega arith in
      joined ∙ sym whole ∙ ap (λ (n : ℕ). bit_or n (four a b c d)) (sym (locks_four page)) ∙ ap (bit_or (locks_in page)) even

  pub locks_after : (i : ℕ) → locks_page i (locked_by bytes page) ≡ (locks_page i page || (not (eqb i 0) && locks_page i bytes))
  locks_after i =
      let old : ℕ = locks_in page in
      let new : ℕ = locks_in bytes / 2 * 2 in
      ap (λ (n : ℕ). eqb (bit_at n i) 1) locks_or
      ∙ ap (λ (x : ℕ). eqb x 1) (bit_at_or old new i)
      ∙ one_set (bit_at old i) (bit_at new i) (bit_at-lt old i) (bit_at-lt new i)
      ∙ ap (λ (t : Bool). eqb (bit_at old i) 1 || t) (without_first (locks_in bytes) i)

  -- its bytes are bytes
  ored : List ℕ
  ored = bit_or (get_or page 4 0) (get_or bytes 4 0 / 2 * 2) ∷ bit_or (get_or page 5 0) (get_or bytes 5 0) ∷ bit_or (get_or page 6 0) (get_or bytes 6 0) ∷ bit_or (get_or page 7 0) (get_or bytes 7 0) ∷ []

  ored_bytes : IsBytes ored
  unfolding ored
  ored_bytes zero = or_of_8 _ _ (held 4) first_named
  ored_bytes (suc zero) = or_of_8 _ _ (held 5) (named 5)
  ored_bytes (suc (suc zero)) = or_of_8 _ _ (held 6) (named 6)
  ored_bytes (suc (suc (suc zero))) = or_of_8 _ _ (held 7) (named 7)
  ored_bytes (suc (suc (suc (suc i)))) = lit< tt

  pub locked_bytes : IsBytes (locked_by bytes page)
  unfolding ored
  locked_bytes i =
      ⊎_elim
      (λ (l : i < 4).
      subst (λ (b : ℕ). b < 256) (sym (get_or_append_left (take 4 page) ored 0 i (omega (arith, lead)) ∙ get_or-take 4 page i 0 l)) (held i))
      (λ (g : 4 ≤ i).
      subst (λ (b : ℕ). b < 256) (sym (get_or-append_right (take 4 page) ored 4 i 0 lead g)) (ored_bytes (i - 4)))
      (cases_lt i 4)

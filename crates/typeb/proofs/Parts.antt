-- Parts of a list, as slice patterns take them.
use Rattle.std.proofs.Common.{◌≡◌, ℕ, ◌+◌, ◌-◌, ◌≤◌, List, [], ◌∷◌, map, length, get_or, take, drop, refl, ap, ◌∙◌, arith}
use Rattle.std.specs.List.{range_with_len}
use Rattle.std.proofs.lemmas.List.{drop_more, drop_all}
use Rattle.std.proofs.lemmas.List.FromFn.{fill_by_all}

-- a list of n elements is the list of its n elements
pub listed : (xs : List ℕ) (n : ℕ) → length xs ≡ n → xs ≡ map (λ k. get_or xs k 0) (range_with_len 0 n)
listed xs n e = fill_by_all (λ k. get_or xs k 0) xs n 0 e (λ k h. refl)

-- four elements in the middle
pub take_four : (k : ℕ) (xs : List ℕ) → k + 4 ≤ length xs → take 4 (drop k xs) ≡ get_or xs k 0 ∷ get_or xs (k + 1) 0 ∷ get_or xs (k + 1 + 1) 0 ∷ get_or xs (k + 1 + 1 + 1) 0 ∷ []
take_four k xs h =
    let a : drop k xs ≡ get_or xs k 0 ∷ drop (k + 1) xs = drop_more xs k 0 (omega arith) in
    let b : drop (k + 1) xs ≡ get_or xs (k + 1) 0 ∷ drop (k + 1 + 1) xs = drop_more xs (k + 1) 0 (omega arith) in
    let d : drop (k + 1 + 1) xs ≡ get_or xs (k + 1 + 1) 0 ∷ drop (k + 1 + 1 + 1) xs = drop_more xs (k + 1 + 1) 0 (omega arith) in
    let e : drop (k + 1 + 1 + 1) xs ≡ get_or xs (k + 1 + 1 + 1) 0 ∷ drop (k + 1 + 1 + 1 + 1) xs = drop_more xs (k + 1 + 1 + 1) 0 (omega arith) in
    rw (a, b, d, e) refl

-- the last two elements
pub drop_two : (xs : List ℕ) → 2 ≤ length xs → drop (length xs - 2) xs ≡ get_or xs (length xs - 2) 0 ∷ get_or xs (length xs - 1) 0 ∷ []
drop_two xs h =
    let n : ℕ = length xs - 2 in
    let one : length xs - 1 ≡ n + 1 = omega arith in
    let a : drop n xs ≡ get_or xs n 0 ∷ drop (n + 1) xs = drop_more xs n 0 (omega arith) in
    let b : drop (n + 1) xs ≡ get_or xs (n + 1) 0 ∷ drop (n + 1 + 1) xs = drop_more xs (n + 1) 0 (omega arith) in
    let e : drop (n + 1 + 1) xs ≡ [] = drop_all (n + 1 + 1) xs (omega arith) in
    a ∙ ap (λ (r : List ℕ). get_or xs n 0 ∷ r) (b ∙ cc)

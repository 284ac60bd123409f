-- Lines that are taken in one after another, each with its number.
use Rattle.std.proofs.Common.{◌≡◌, ℕ, ◌+◌, ◌<◌, List, [], ◌∷◌, ◌++◌, length, get_or, drop, Some, None, Option, sym, ap, ◌∙◌, append_assoc, append-nil, zero-add, arith}
use Rattle.std.specs.List.{enumerate_from}
use Rattle.std.specs.Iterator.{Yields}
use Rattle.std.proofs.lemmas.Iterator.{YieldsList}
use Rattle.std.proofs.lemmas.Iterator.Consumers.{YieldsList-turn, YieldsList-end}
use Rattle.std.proofs.lemmas.List.{at_drop_more, at_drop_all}
use Rattle.std.proofs.lemmas.List.FromFn.{get_or-enumerate_from, length-enumerate_from}

-- `YieldsList-turn` and `YieldsList-end` with the chain last, where the steps are known from what was yielded
pub turn : {S A B : Type 0} {steps : S → Option A → S → Type 0} {v : A → B} {s : S} {all : List B} (xs : List A) (t : S) (y : Yields steps s xs t) (r : Option A) (u : S) (x : A)
    → r ≡ Some x → steps t r u → YieldsList steps v s all → (length xs < length all) × (v x ≡ get_or all (length xs) (v x))
turn xs t y r u x some step e = YieldsList-turn e xs t y r u x some step

pub end : {S A B : Type 0} {steps : S → Option A → S → Type 0} {v : A → B} {s : S} {all : List B} (xs : List A) (t : S) (y : Yields steps s xs t) (r : Option A) (u : S)
    → r ≡ None → steps t r u → YieldsList steps v s all → length xs ≡ length all
end xs t y r u none step e = (YieldsList-end e xs t y r u none step).1

-- the next line, and the number of those before it
pub next_line : (lines : List (List ℕ)) (n i : ℕ) (line : List ℕ) → (n < length (enumerate_from 0 lines)) × ((i, line) ≡ get_or (enumerate_from 0 lines) n (i, line))
    → (i ≡ n) × (drop n lines ≡ line ∷ drop (n + 1) lines)
next_line lines n i line h =
    let within : n < length lines = omega (arith, h.0, length-enumerate_from 0 lines) in
    let same = h.1 ∙ get_or-enumerate_from 0 lines n (i, line) within in (
      ap (λ (x : ℕ × List ℕ). x.0) same ∙ zero-add n,
      at_drop_more (λ (xs : List (List ℕ)). xs) lines n line within ∙ ap (λ (x : ℕ × List ℕ). x.1 ∷ drop (n + 1) lines) (sym same),
    )

-- what F makes of lines, the first of which has a number: one line more
pub one_more : (F : ℕ → List (List ℕ) → List ℕ) (lines : List (List ℕ)) (n m : ℕ) (line here old new : List ℕ) → m ≡ n + 1 → drop n lines ≡ line ∷ drop (n + 1) lines
    → F n (line ∷ drop (n + 1) lines) ≡ here ++ F (n + 1) (drop (n + 1) lines) → new ≡ old ++ here → new ++ F m (drop m lines) ≡ old ++ F n (drop n lines)
one_more F lines n m line here old new count next gives more =
    ap (λ (k : ℕ). new ++ F k (drop k lines)) count
    ∙ ap (λ (text : List ℕ). text ++ F (n + 1) (drop (n + 1) lines)) more
    ∙ append_assoc old here (F (n + 1) (drop (n + 1) lines))
    ∙ ap (λ (text : List ℕ). old ++ text) (sym gives)
    ∙ ap (λ (rest : List (List ℕ)). old ++ F n rest) (sym next)

-- and no line more
pub no_more : (F : ℕ → List (List ℕ) → List ℕ) (lines : List (List ℕ)) (n : ℕ) (text : List ℕ) → n ≡ length (enumerate_from 0 lines) → F n [] ≡ [] → text ≡ text ++ F n (drop n lines)
no_more F lines n text all none =
    sym (append-nil text) ∙ ap (λ (rest : List ℕ). text ++ rest) (sym (at_drop_all (F n) lines n (omega (arith, length-enumerate_from 0 lines)) ∙ none))

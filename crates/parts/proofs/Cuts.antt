-- What a cut is, and the first of the parts as an iterator gives them.
use Rattle.std.proofs.Common.{◌≡◌, ℕ, ◌<◌, Bool, true, false, cond, List, [], ◌∷◌, ◌++◌, ◌==◌, length, get_or, take, Some, None, Option, Bor, unwrap_or, sym, refl, ap, ◌∙◌, subst, arith}
use denote.Param.Members.{Mut}
use Rattle.std.specs.Bool.{MatchBool}
use Rattle.std.specs.Fn.{ComputesKey}
use Rattle.std.specs.List.{All, slice_split, IsFirstMatchOrLen}
use Rattle.std.specs.Slice.Iter.{split_steps, split_rest, split_done, split_callee}
use Rattle.std.specs.declared.slice.Split.{Split}
use Rattle.std.proofs.lemmas.Grind.{common_steps}
use Rattle.std.proofs.lemmas.List.Splits.{length-slice_split, join_with_byte-slice_split, slice_split_at, slice_split_none}
use Rattle.parts.specs.Parts.{parted, given, Cut}

pub parts_some : (m : ℕ) (xs : List ℕ) → 0 < length (parted m xs)
parts_some m xs = omega (arith, length-slice_split (λ (c : ℕ). c == m) xs)

pub cut : (m : ℕ) (xs : List ℕ) → Cut m xs
cut m xs = record { joined = join_with_byte-slice_split m xs; marks = length-slice_split (λ (c : ℕ). c == m) xs }

-- a part that ends at a mark or with the text
part_at : (p : ℕ → Bool) (xs x rest : List ℕ) (done : Bool) → MatchBool done (xs ≡ x) ((y : ℕ) × (xs ≡ x ++ (y ∷ rest))) → IsFirstMatchOrLen p xs (length x)
    → slice_split p xs ≡ x ∷ cond done [] (slice_split p rest)
part_at p xs x rest true e first = ap (slice_split p) e ∙ slice_split_none p x (λ k d l. subst (λ (ys : List ℕ). p (get_or ys k d) ≡ false) e (first.0 k d (omega arith) l))
part_at p xs x rest false e first =
    let front : All (λ z. p z ≡ false) x = λ k d l. let a = first.0 k d (omega arith) l in let b = e.1 in grind (arith, common_steps) in
    let hit : p e.0 ≡ true = let b = e.1 in let a = first.1 (grind (arith, common_steps)) e.0 in grind (arith, common_steps) in
    ap (slice_split p) e.1 ∙ slice_split_at p x e.0 rest front hit

module _ {F : Type 0} (p : ℕ → Bool) where
  -- the parts that are left
  abbrev pub left : Split ℕ F → List (List ℕ)
  left s = cond (split_done s) [] (slice_split p (split_rest s))

  -- a call of `next` takes the first of them off, if there is one
  abbrev pub Came : Split ℕ F → Option (Bor (List ℕ)) → Split ℕ F → Type 0
  Came s None t = left s ≡ []
  Came s (Some part) t = left s ≡ part.now ∷ left t

  pub came : (g : Mut F (Bor ℕ × Unit {0}) Bool) (s : Split ℕ F) (r : Option (Bor (List ℕ))) (t : Split ℕ F) → split_steps g s r t → ComputesKey g p (split_callee s) → Came s r t
  came g s None t step key = ap (λ b. cond b [] (slice_split p (split_rest s))) step.0
  came g s (Some x) t step key =
      ap (λ b. cond b [] (slice_split p (split_rest s))) step.0 ∙ part_at p (split_rest s) x.now (split_rest t) (split_done t) step.1 (step.2 p key).1

  -- calls one after another, and what they gave
  abbrev pub Asked : Split ℕ F → List (Option (Bor (List ℕ))) → Type 0
  Asked s [] = Unit {0}
  Asked s (r ∷ rs) = (t : Split ℕ F) × (Came s r t × Asked t rs)

  -- up to the first that is not there they are the first of the parts
  pub first_given : (s : Split ℕ F) (rs : List (Option (Bor (List ℕ)))) → Asked s rs → given rs ≡ take (length rs) (left s)
  first_given s [] asked = refl
  first_given s (None ∷ rs) asked = ap (take (length {A = Option (Bor (List ℕ))} (None ∷ rs))) (sym asked.1.0)
  first_given s (Some x ∷ rs) asked = ap (λ ps. x.now ∷ ps) (first_given asked.0 rs asked.1.1) ∙ ap (take (length (Some x ∷ rs))) (sym asked.1.0)

-- the first is there
pub front_given : (r : Option (Bor (List ℕ))) (first empty : Bor (List ℕ)) (rs : List (Option (Bor (List ℕ)))) (parts : List (List ℕ)) → first ≡ unwrap_or r empty → 0 < length parts → given (r ∷ rs) ≡ take 5 parts
    → first.now ∷ given rs ≡ take 5 parts
front_given r first empty rs [] is some e = absurd (omega arith)
front_given None first empty rs (part ∷ parts) is some e = cc
front_given (Some x) first empty rs (part ∷ parts) is some e = ap (λ (f : Bor (List ℕ)). f.now ∷ given rs) is ∙ e

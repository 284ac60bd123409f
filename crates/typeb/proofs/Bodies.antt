-- Bodies of frames, taken apart and put together.
use Rattle.std.proofs.Common.{◌≡◌, ℕ, ◌+◌, ◌-◌, ◌/◌, ◌%◌, ◌≤◌, true, false, eqb, leb, List, [], ◌∷◌, ◌++◌, length, take, drop, replicate, Some, None, sym, refl, ap, ◌∙◌, ap₂, arith, length-drop, length-take}
use borrow.Rule.Slice.PartMut.{put_mid}
use Rattle.std.proofs.lemmas.List.{take_all, take_rest}
use Rattle.std.proofs.lemmas.Slice.{take-put_mid}
use Rattle.std.proofs.lemmas.Bool.{eq-eqb, ne_eqb, le-leb}
use Rattle.typeb.specs.declared.frames.Op.{Op}
use Rattle.typeb.specs.Hears.{Attrib, Command, in_body, op_of, at}
use Rattle.typeb.specs.Carries.{format}
use Rattle.typeb.proofs.Parts.{listed, take_four}

-- The two longest readings of a body, from what a slice pattern has tested.
pub attrib_heard : (b : List ℕ) → 9 ≤ length b → length (take (length b - 9) (drop 9 b)) ≤ 5 → at 0 b ≡ 0x1D
    → Some (Attrib (at 1 b ∷ at 2 b ∷ at 3 b ∷ at 4 b ∷ []) (at 5 b ∷ at 6 b ∷ at 7 b ∷ at 8 b ∷ []) (take (length b - 9) (drop 9 b))) ≡ in_body b
attrib_heard b low short first =
    let rest = length-take (length b - 9) (drop 9 b) in
    let skipped = length-drop 9 b in
    let t3 : eqb (length b) 3 ≡ false = ne_eqb _ _ (λ e. omega arith) in
    let t1 : eqb (length b) 1 ≡ false = ne_eqb _ _ (λ e. omega arith) in
    let t9 : leb 9 (length b) ≡ true = le-leb _ _ low in
    let t14 : leb (length b) 14 ≡ true = le-leb _ _ (omega arith) in
    let head : eqb (at 0 b) 0x1D ≡ true = eq-eqb _ _ first in
    simp (t3, t1, t9, t14, head, take_four 1 b (omega arith), take_four 5 b (omega arith), take_rest b 9) refl

pub command_heard : (b bytes : List ℕ) (op : Op) → 2 ≤ length b → length (take (length b - 2) (drop 2 b)) ≡ 8
    → bytes ≡ take 8 (take (length b - 2) (drop 2 b)) → Some op ≡ op_of (at 0 b / 16)
    → Some (Command op (at 0 b % 16) (at 1 b) bytes) ≡ in_body b
command_heard b bytes op two eight same known =
    let rest = length-take (length b - 2) (drop 2 b) in
    let skipped = length-drop 2 b in
    let long : length b ≡ 10 = omega arith in
    let whole : bytes ≡ drop 2 b = same ∙ take_all 8 (take (length b - 2) (drop 2 b)) (omega arith) ∙ take_rest b 2 in
    let not_attrib : at 0 b ≡ 0x1D → ⊥ = λ e. (let no : Some op ≡ None = known ∙ ap (λ (h : ℕ). op_of (h / 16)) e in let z : ◌≡◌ {A = ℕ} 0 1 = cc in omega arith) in
    let t3 : eqb (length b) 3 ≡ false = ne_eqb _ _ (λ e. omega arith) in
    let t1 : eqb (length b) 1 ≡ false = ne_eqb _ _ (λ e. omega arith) in
    let t5 : eqb (length b) 5 ≡ false = ne_eqb _ _ (λ e. omega arith) in
    let t10 : eqb (length b) 10 ≡ true = eq-eqb _ _ long in
    let t9 : leb 9 (length b) ≡ true = le-leb _ _ (omega arith) in
    let t14 : leb (length b) 14 ≡ true = le-leb _ _ (omega arith) in
    let head : eqb (at 0 b) 0x1D ≡ false = ne_eqb _ _ not_attrib in
    simp (t3, t1, t5, t10, t9, t14, head, ← known, whole) refl

-- The body of ATTRIB: INF copied into an array of 14 bytes, of which as many are taken as the frame has.
pub attrib_cut : (s p inf copy : List ℕ) → length s ≡ 4 → length p ≡ 4 → copy ≡ inf
    → take (9 + length inf) (put_mid 9 (9 + length inf - 9) (0x1D ∷ at 0 s ∷ at 1 s ∷ at 2 s ∷ at 3 s ∷ at 0 p ∷ at 1 p ∷ at 2 p ∷ at 3 p ∷ replicate 5 0) copy)
    ≡ format 0 (Attrib s p inf)
attrib_cut s p inf copy four_s four_p same =
    let whole : List ℕ = 0x1D ∷ at 0 s ∷ at 1 s ∷ at 2 s ∷ at 3 s ∷ at 0 p ∷ at 1 p ∷ at 2 p ∷ at 3 p ∷ replicate 5 0 in
    let front : take 9 whole ++ inf ≡ format 0 (Attrib s p inf) =
    ap₂ (λ x y. format 0 (Attrib x y inf)) (sym (listed s 4 four_s)) (sym (listed p 4 four_p)) in
    rw same (take-put_mid 9 (9 + length inf - 9) whole inf (9 + length inf) (omega arith) (omega arith) ∙ front)

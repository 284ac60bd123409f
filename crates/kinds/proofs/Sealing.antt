-- A sealed body in a buffer of 16 bytes or more.
use Rattle.std.proofs.Common.{◌≡◌, ℕ, ◌+◌, ◌≤◌, true, leb, List, length, Some, Option, sym, refl, ◌∙◌, arith}
use Rattle.std.proofs.lemmas.Bool.{le-leb}
use Rattle.typeb.specs.CheckBytes.{sealed, SealedInto}
use Rattle.typeb.proofs.Buffers.{length_sealed}
use Rattle.kinds.specs.Kinds.{Placed}

pub placed_by : (body lent given : List ℕ) (o : Option ℕ) {n : ℕ} → SealedInto body lent given o → o ≡ Some n → 16 ≤ length lent → length body ≤ 14
    → Placed (sealed body) lent given n
placed_by body lent given o {n = n} into is room short =
    let fits : leb (length body + 2) (length lent) ≡ true = le-leb _ _ (omega arith) in
    let long = length_sealed body in
    let some : Some (length body + 2) ≡ Some n = sym (into.size ∙ simp fits refl) ∙ is in
    let count : n ≡ length body + 2 = cc in
    record {
      buffer = into.buffer ∙ simp (fits, long) refl;
      size = count ∙ sym long;
      fits = omega arith;
    }

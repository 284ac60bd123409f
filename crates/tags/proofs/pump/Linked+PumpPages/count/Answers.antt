use Rattle.std.proofs.Common.{◌≡◌, ℕ, ◌+◌, ◌/◌, ◌%◌, [], ◌∷◌, ap, ◌∙◌, arith}
use Rattle.std.proofs.lemmas.Grind.{common_steps}
use Rattle.tags.proofs.pump.Linked+PumpPages.count.Goals as goal

pub returns : goal.returns
returns c =
    let n : ℕ = c.counter-counter.result + 1 in
    let high : n / 256 % 256 ≡ n / 256 = omega arith in
    let e : c.to_le_bytes.result ≡ n % 256 ∷ n / 256 ∷ [] = c.to_le_bytes.ensures ∙ ap (λ (h : ℕ). n % 256 ∷ h ∷ []) high in
    grind (arith, common_steps)

use Rattle.std.proofs.Common.{◌≡◌, ℕ, ◌-◌, true, leb, List, length, sym, ◌∙◌, ap₂, arith, rules, length-take, ltb-false, ltb-true}
use Rattle.std.proofs.lemmas.Bool.Decides.{nat_tests}
use Rattle.std.specs.Str.{bytes_eq}
use Rattle.typeb.specs.CheckBytes.{sound}
use Rattle.typeb.proofs.Parts.{drop_two}
use Rattle.typeb.proofs.Residue.{residue_of_all}
use Rattle.typeb.proofs.crc.is_sound.Goals as goal

pub returns-in-len2-up-clause-result : goal.returns-in-len2-up-clause-result
unfolding sound
returns-in-len2-up-clause-result c =
    let xs : List ℕ = c.args.frame.now in
    let long = length-take (length xs - 2) xs in
    let three : leb 3 (length xs) ≡ true = grind (arith, nat_tests) in
    let tail = drop_two xs (omega (arith, ltb-true, ltb-false)) in
    simp three (c.eq.ensures ∙ ap₂ bytes_eq (sym tail) c.check_bytes.ensures)

pub returns-in-len2-up-clause-residue : goal.returns-in-len2-up-clause-residue
returns-in-len2-up-clause-residue c = returns-in-len2-up-clause-result c ∙ residue_of_all c.args.frame.now (λ i h. search rules)

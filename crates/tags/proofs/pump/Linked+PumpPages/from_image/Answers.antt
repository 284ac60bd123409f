use Rattle.std.proofs.Common.{◌≡◌, true, false, leb, Ok, sym, refl, ◌∙◌, arith, rules}
use Rattle.std.proofs.lemmas.Bool.Decides.{nat_tests}
use Rattle.tags.specs.Making.{pump_made}
use Rattle.tags.specs.Pump.{pump_means}
use Rattle.tags.proofs.Shown.{made_of}
use Rattle.tags.proofs.pump.Linked+PumpPages.from_image.Goals as goal

pub returns-then-counter-gt-LAST_COUNT-clause-result : goal.returns-then-counter-gt-LAST_COUNT-clause-result
returns-then-counter-gt-LAST_COUNT-clause-result c =
    let made = made_of c.args.image.now _ c.args.draw _ (search rules) (search rules) c.made-tag.ensures c.is_unlocked.ensures c.counter.ensures in
    let much : leb c.counter.result 0x8000 ≡ false = grind (arith, nat_tests) in
    sym (made ∙ simp (c.if-not-is_unlocked.false, much) refl)

pub returns : goal.returns
returns c =
    let made = made_of c.args.image.now _ c.args.draw _ (search rules) (search rules) c.made-tag.ensures c.is_unlocked.ensures c.counter.ensures in
    let room : leb c.counter.result 0x8000 ≡ true = grind (arith, nat_tests) in
    let is : pump_made c.args.image.now c.args.draw ≡ Ok (pump_means c.made-tag.result) = made ∙ simp (c.if-not-is_unlocked.false, room) refl in
    record { result = sym is; made = record { image = c.args.image.now; draw = c.args.draw; from = is } }

use Rattle.std.proofs.Common.{◌≡◌, Some, None, Option, Bor, refl, rules, tests, ◌∙◌}
use Rattle.std.specs.Bool.{◌==◌}
use Rattle.std.specs.Option.{option_copied, option_map}
use Rattle.std.proofs.lemmas.Iterator.{YieldsList-from_slice}
use Rattle.std.proofs.lemmas.Iterator.Search.{find_from_yields_List}
use Rattle.typeb.specs.declared.frames.Slots.{Slots}
use Rattle.typeb.specs.Hears.{slot_count, all_slots}
use Rattle.typeb.proofs.frames.Slots.from_count.Goals as goal

copied : (o : Option (Bor Slots)) → option_copied o ≡ option_map (λ s. s.now) o
copied (Some s) = refl
copied None = refl

pub returns : goal.returns
returns c =
    c.copied.ensures ∙ copied c.find.result
    ∙ find_from_yields_List (λ s. slot_count s == c.args.n) _ _ _ c.find.ensures.ran (YieldsList-from_slice all_slots cc) (λ x b q k. search (rules, tests))

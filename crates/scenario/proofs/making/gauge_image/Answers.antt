use Rattle.std.proofs.Common.{refl, rules}
use Rattle.typeb.proofs.Parts.{listed}
use Rattle.scenario.proofs.making.gauge_image.Goals as goal

pub returns : goal.returns
returns c =
    rw (c.set_page-2.ensures.memory, c.set_page.ensures.memory, c.page_of.ensures, c.page_of-2.ensures, listed c.args.serial 4 (search rules)) refl

use Rattle.std.proofs.Common.{map, ap, ◌∙◌}
use Rattle.tags.specs.Gauge.{gauge_means}
use Rattle.tags.specs.Pump.{pump_means}
use Rattle.tray_core.specs.Trays.{loaded_with}
use Rattle.sheet.specs.Drafts.{pump_draft, gauge_draft}
use Rattle.sheet.specs.Sheets.{tags_of}
use Rattle.sheet.proofs.Drafted.{tags_mean}
use Rattle.sheet.proofs.naming.Named.load.Goals as goal

pub returns : goal.returns
returns c =
    let front = ap (map pump_means) c.in_ok-front.ensures ∙ tags_mean pump_means _ ∙ ap (λ drafts. tags_of (map pump_draft drafts)) c.as_slice.ensures.value in
    let back = ap (map gauge_means) c.in_ok-back.ensures ∙ tags_mean gauge_means _ ∙ ap (λ drafts. tags_of (map gauge_draft drafts)) c.as_slice-2.ensures.value in
    c.load.ensures.result ∙ ap (λ tags. loaded_with tags (map gauge_means c.in_ok-back.back.items)) front ∙ ap (loaded_with _) back

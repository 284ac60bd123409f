-- What a sheet names is a loaded tray: every pump tag was just made.
use Rattle.std.proofs.Common.{◌≡◌, ℕ, zero, suc, ◌-◌, Bool, true, false, cond, ltb, All, List, [], ◌∷◌, ◌++◌, map, Ok, Err, Result, refl, subst, arith}
use Rattle.std.proofs.lemmas.List.Elements.{All-map}
use Rattle.kinds.specs.Kinds.{Meaning}
use Rattle.tags.specs.Gauge.{GaugeMeaning}
use Rattle.tags.specs.Making.{JustMade, pump_made, gauge_made}
use Rattle.tags.specs.Pages.{put_page}
use Rattle.tags.specs.Pump.{PumpMeaning}
use Rattle.tray_core.specs.Rows.{Post}
use Rattle.tray_core.specs.Trays.{present}
use Rattle.handling.specs.Laws.{Loaded, front_row}
use Rattle.sheet.specs.declared.words.TagKind.TheVariants.{Pump, Gauge}
use Rattle.sheet.specs.Drafts.{Draft, blank_pump, blank_gauge, remade, repaged, in_front, behind, changed_at, front_paged, back_paged}
use Rattle.sheet.specs.Sheets.{Stage, Naming, Calling, Went, with_front, with_back, tags_of, tray_in}
use Rattle.sheet.specs.Played.{Names, NewTag, SetPage, does_name, Leads}
use Rattle.sheet.specs.TagLines.{IsMade}

-- tags of a row, each made of its image and its draw number
module _ {M : Type 0} (made : List ℕ → ℕ → Result M ℕ) where
  abbrev AllMade : List (Draft M) → Type 0
  AllMade [] = Unit {0}
  AllMade (draft ∷ drafts) = IsMade made draft × AllMade drafts

  appended : (drafts : List (Draft M)) (draft : Draft M) → AllMade drafts → IsMade made draft → AllMade (drafts ++ (draft ∷ []))
  appended [] draft all new = (new, tt)
  appended (d ∷ drafts) draft all new = (all.0, appended drafts draft all.1 new)

  -- a page that is set makes its tag anew
  first_made : (m : Result M ℕ) (image : List ℕ) (draw : ℕ) (drafts after : List (Draft M)) → made image draw ≡ m → in_front (remade m image draw) drafts ≡ Ok after → AllMade drafts → AllMade after
  first_made (Ok tag) image draw drafts after from e all =
      let same : ◌≡◌ {A = List (Draft M)} (record { image = image; draw = draw; tag = tag } ∷ drafts) after = cc in
      subst AllMade same (from, all)
  first_made (Err why) image draw drafts after from e all = cc

  behind_made : (q : Result (List (Draft M)) ℕ) (draft : Draft M) (after : List (Draft M)) → behind draft q ≡ Ok after → IsMade made draft
      → ((rest : List (Draft M)) → q ≡ Ok rest → AllMade rest) → AllMade after
  behind_made (Ok rest) draft after e first all =
      let same : ◌≡◌ {A = List (Draft M)} (draft ∷ rest) after = cc in
      subst AllMade same (first, all rest refl)
  behind_made (Err why) draft after e first all = cc

  changed_made : (n page : ℕ) (bytes : List ℕ) (drafts after : List (Draft M)) → changed_at n (repaged made page bytes) drafts ≡ Ok after → AllMade drafts → AllMade after
  changed_made n page bytes [] after e all = cc
  changed_made zero page bytes (d ∷ drafts) after e all = first_made _ (put_page page bytes d.image) d.draw drafts after refl e all.1
  changed_made (suc n) page bytes (d ∷ drafts) after e all =
      behind_made (changed_at n (repaged made page bytes) drafts) d after e all.0 (λ rest is. changed_made n page bytes drafts rest is all.1)

  row_made : (there : Bool) (n page : ℕ) (bytes : List ℕ) (drafts after : List (Draft M)) → cond there (changed_at n (repaged made page bytes) drafts) (Err 18) ≡ Ok after → AllMade drafts → AllMade after
  row_made true n page bytes drafts after e all = changed_made n page bytes drafts after e all
  row_made false n page bytes drafts after e all = cc

  at_each : (drafts : List (Draft M)) → AllMade drafts → All (IsMade made) drafts
  at_each [] all k d below = absurd (omega arith)
  at_each (draft ∷ drafts) all zero d below = all.0
  at_each (draft ∷ drafts) all (suc k) d below = at_each drafts all.1 k d (omega arith)

abbrev MadeAt : Stage → Type 0
MadeAt (Naming front back) = AllMade pump_made front × AllMade gauge_made back
MadeAt (Calling tray) = ⊥

page_made : (in_row : Bool) (front : List (Draft PumpMeaning)) (back : List (Draft GaugeMeaning)) (r : Result (List (Draft PumpMeaning)) ℕ) (s : Result (List (Draft GaugeMeaning)) ℕ) (next : Stage)
    → cond in_row (with_front r back) (with_back front s) ≡ Went [] next → ((after : List (Draft PumpMeaning)) → r ≡ Ok after → AllMade pump_made after)
    → ((after : List (Draft GaugeMeaning)) → s ≡ Ok after → AllMade gauge_made after) → MadeAt (Naming front back) → MadeAt next
page_made true front back (Ok row) s next e changed other all =
    let same : Naming row back ≡ next = cc in
    subst MadeAt same (changed row refl, all.1)
page_made true front back (Err why) s next e changed other all = cc
page_made false front back r (Ok row) next e changed other all =
    let same : Naming front row ≡ next = cc in
    subst MadeAt same (all.0, other row refl)
page_made false front back r (Err why) next e changed other all = cc

-- a line that names a tag or sets a page
line_made : (line : Names) (stage next : Stage) → does_name line stage ≡ Went [] next → MadeAt stage → MadeAt next
line_made line (Calling tray) next e all = absurd all
line_made (NewTag Pump draw) (Naming front back) next e all =
    let same : Naming (front ++ (blank_pump draw ∷ [])) back ≡ next = cc in
    subst MadeAt same (appended pump_made front (blank_pump draw) all.0 refl, all.1)
line_made (NewTag Gauge draw) (Naming front back) next e all =
    let same : Naming front (back ++ (blank_gauge draw ∷ [])) ≡ next = cc in
    subst MadeAt same (all.0, appended gauge_made back (blank_gauge draw) all.1 refl)
line_made (SetPage tag page bytes) (Naming front back) next e all =
    page_made (ltb tag 32) front back (front_paged tag page bytes front) (back_paged (tag - 32) page bytes back) next e
    (λ after is. row_made pump_made (ltb page 32) tag page bytes front after is all.0)
    (λ after is. row_made gauge_made (ltb page 2) (tag - 32) page bytes back after is all.1) all

leads_made : (lines : List Names) (stage last : Stage) → Leads stage lines last → MadeAt stage → MadeAt last
leads_made [] stage last leads all = subst MadeAt leads all
leads_made (line ∷ lines) stage last leads all = leads_made lines leads.0 last leads.1.1 (line_made line stage leads.0 leads.1.0 all)

pub stage_made : (lines : List Names) (front : List (Draft PumpMeaning)) (back : List (Draft GaugeMeaning)) → Leads (Naming [] []) lines (Naming front back)
    → All (IsMade pump_made) front × All (IsMade gauge_made) back
stage_made lines front back leads =
    let all : MadeAt (Naming front back) = leads_made lines (Naming [] []) (Naming front back) leads (tt, tt) in
    (at_each pump_made front all.0, at_each gauge_made back all.1)

all_here : {S H : Type 0} (tags : List (Meaning S H)) → All (λ (p : Post S H). p.here ≡ true) (map present tags)
all_here tags = All-map (λ p. p.here ≡ true) present tags (λ k d below. refl)

just_made : (drafts : List (Draft PumpMeaning)) → AllMade pump_made drafts → All (λ p. JustMade p.tag) (map present (tags_of drafts))
just_made [] all k d below = absurd (omega arith)
just_made (draft ∷ drafts) all zero d below = record { image = draft.image; draw = draft.draw; from = all.0 }
just_made (draft ∷ drafts) all (suc k) d below = just_made drafts all.1 k d (omega arith)

stage_loaded : (stage : Stage) → MadeAt stage → Loaded front_row (tray_in stage)
stage_loaded (Naming front back) all = record { dark = refl; front = all_here (tags_of front); back = all_here (tags_of back); made = just_made front all.0 }
stage_loaded (Calling tray) all = absurd all

-- what lines name, from no tag on
pub names_load : (lines : List Names) (last : Stage) → Leads (Naming [] []) lines last → Loaded front_row (tray_in last)
names_load lines last leads = stage_loaded last (leads_made lines (Naming [] []) last leads (tt, tt))

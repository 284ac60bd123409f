-- Tags as a sheet names them, and their pages set.
use Rattle.std.specs.Prelude.{ℕ, zero, suc, cond, List, [], ◌∷◌, replicate, Ok, Err, Result, nat_lt}
use Rattle.tags.specs.Gauge.{GaugeMeaning, gauge_means}
use Rattle.tags.specs.Making.{new_pump, pump_made, new_gauge, gauge_made}
use Rattle.tags.specs.Pages.{put_page}
use Rattle.tags.specs.Pump.{PumpMeaning, pump_means}
use Rattle.tags.specs.declared.gauge.GaugePages.{GaugePages}
use Rattle.tags.specs.declared.linked.Linked.{Linked}
use Rattle.tags.specs.declared.pump.PumpPages.{PumpPages}
use Rattle.sheet.specs.declared.drafts.Draft as coded
use Rattle.sheet.specs.declared.faults.LineFault.{LineFault}
use Rattle.sheet.specs.Faults.{fault_number}

-- A tag as it was named: its image so far, its draw, and the tag made of both.
pub record Draft (M : Type 0) : Type 0 where
  pub image : List ℕ
  pub draw : ℕ
  pub tag : M

module _ {M : Type 0} where
  -- A tag of an image of zeros, with its draw.
  abbrev pub zeroed : ℕ → (List ℕ → ℕ → M) → ℕ → Draft M
  zeroed size new draw =
      record { image = replicate size 0; draw = draw; tag = new (replicate size 0) draw }

  -- The tag is made anew from an image; what forbids it is the refusal.
  abbrev pub remade : Result M ℕ → List ℕ → ℕ → Result (Draft M) ℕ
  remade (Ok tag) image draw = Ok (record { image = image; draw = draw; tag = tag })
  remade (Err why) image draw = Err why

  -- A page of a tag is set: the page replaced in the image, the tag made anew.
  abbrev pub repaged : (List ℕ → ℕ → Result M ℕ) → ℕ → List ℕ → Draft M → Result (Draft M) ℕ
  repaged made page bytes d =
      remade (made (put_page page bytes d.image) d.draw) (put_page page bytes d.image) d.draw

  -- A row with its first draft changed, or with the rest of it changed, unless that is refused.
  abbrev pub in_front : Result (Draft M) ℕ → List (Draft M) → Result (List (Draft M)) ℕ
  in_front (Ok draft) drafts = Ok (draft ∷ drafts)
  in_front (Err why) drafts = Err why

  abbrev pub behind : Draft M → Result (List (Draft M)) ℕ → Result (List (Draft M)) ℕ
  behind draft (Ok drafts) = Ok (draft ∷ drafts)
  behind draft (Err why) = Err why

  -- The draft with a number goes through a change that may be refused; 18 where there is no such draft.
  abbrev pub changed_at : ℕ → (Draft M → Result (Draft M) ℕ) → List (Draft M) → Result (List (Draft M)) ℕ
  changed_at n change [] = Err 18
  changed_at zero change (draft ∷ drafts) = in_front (change draft) drafts
  changed_at (suc n) change (draft ∷ drafts) = behind draft (changed_at n change drafts)

  -- Is the tag named, and has its kind such a page?
  abbrev pub row_paged : (List ℕ → ℕ → Result M ℕ) → ℕ → ℕ → ℕ → List ℕ → List (Draft M) → Result (List (Draft M)) ℕ
  row_paged made pages n page bytes drafts = cond (nat_lt page pages) (changed_at n (repaged made page bytes) drafts) (Err 18)

-- A tag of zero pages.
abbrev pub blank_pump : ℕ → Draft PumpMeaning
blank_pump draw = zeroed 256 new_pump draw

abbrev pub blank_gauge : ℕ → Draft GaugeMeaning
blank_gauge draw = zeroed 16 new_gauge draw

-- Pages 0 to 31 of a pump tag, 0 to 1 of a gauge.
abbrev pub front_paged : ℕ → ℕ → List ℕ → List (Draft PumpMeaning) → Result (List (Draft PumpMeaning)) ℕ
front_paged n page bytes drafts = row_paged pump_made 32 n page bytes drafts

abbrev pub back_paged : ℕ → ℕ → List ℕ → List (Draft GaugeMeaning) → Result (List (Draft GaugeMeaning)) ℕ
back_paged n page bytes drafts = row_paged gauge_made 2 n page bytes drafts

-- What the values of the code stand for, by what a tag of the kind means.
module _ {T M : Type 0} {N : ℕ} (means : T → M) where
  abbrev pub draft_of : coded.Draft T N → Draft M
  draft_of d = record { image = d.image; draw = d.draw; tag = means d.tag }

  abbrev pub drafted : Result (coded.Draft T N) LineFault → Result (Draft M) ℕ
  drafted (Ok d) = Ok (draft_of d)
  drafted (Err why) = Err (fault_number why)

abbrev pub tag_of : {T : Type 0} {N : ℕ} → coded.Draft T N → T
tag_of d = d.tag

abbrev pub pump_draft : coded.Draft (Linked PumpPages) 256 → Draft PumpMeaning
pump_draft d = draft_of pump_means d

abbrev pub gauge_draft : coded.Draft (Linked GaugePages) 16 → Draft GaugeMeaning
gauge_draft d = draft_of gauge_means d

-- What a change of a row answered and left.
abbrev pub left_by : {M : Type 0} → Result (Unit {0}) LineFault → List (Draft M) → Result (List (Draft M)) ℕ
left_by (Ok u) drafts = Ok drafts
left_by (Err fault) drafts = Err (fault_number fault)

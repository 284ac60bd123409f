-- What tag lines and page lines change, byte by byte, and that they change nothing else.
use Rattle.std.specs.Prelude.{◌≡◌, ◌≢◌, ℕ, ◌+◌, ◌*◌, ◌<◌, ◌≤◌, ◌⊎◌, true, false, List, [], ◌∷◌, ◌++◌, All, length, Some, Ok, MatchResult, Result, slice_get, slice_index}
use Rattle.std.specs.Option.{option_map}
use Rattle.tags.specs.Gauge.{GaugeMeaning}
use Rattle.tags.specs.Making.{pump_made, gauge_made}
use Rattle.tags.specs.Pump.{PumpMeaning}
use Rattle.sheet.specs.declared.words.TagKind.{TagKind}
use Rattle.sheet.specs.declared.words.TagKind.TheVariants.{Pump, Gauge}
use Rattle.sheet.specs.Drafts.{Draft}
use Rattle.sheet.specs.Played.{Names, Leads}
use Rattle.sheet.specs.Sheets.{SheetTray, Stage, Naming, Calling, Came, Went, Stopped, named, paged, tray_in}

-- The eight bytes of a page stand in an image, and every other byte is as it was.
pub record PageWritten (page : ℕ) (bytes before after : List ℕ) : Type 0 where
  pub size : length after ≡ length before
  pub written : (j : ℕ) → j < 8 → slice_index after (8 * page + j) ≡ slice_index bytes j
  pub kept : (i : ℕ) → (i < 8 * page) ⊎ (8 * page + 8 ≤ i)
      → slice_index after i ≡ slice_index before i

-- A row of tags as they were named, of a kind that is made of an image and a draw number.
module _ {M : Type 0} (made : List ℕ → ℕ → Result M ℕ) where
  -- A tag is the one that is made of its image and its draw number.
  abbrev pub IsMade : Draft M → Type 0
  IsMade d = made d.image d.draw ≡ Ok d.tag

  -- A tag just named: an image of so many bytes, all zero, and this draw number.
  pub record Blank (size draw : ℕ) (d : Draft M) : Type 0 where
    pub long : length d.image ≡ size
    pub zeros : All (λ byte. byte ≡ 0) d.image
    pub drawn : d.draw ≡ draw
    pub is_made : IsMade d

  -- This tag stands at a place of the row, and at every other place stands what stood there.
  pub record Replaced (n : ℕ) (d : Draft M) (before after : List (Draft M)) : Type 0 where
    pub this : slice_get after n ≡ Some d
    pub others : (k : ℕ) → k ≢ n → slice_get after k ≡ slice_get before k

  -- What comes of a page line for place n of the row: 18 where there is no such tag or no such
  -- page; else the page is written into the tag's image, the draw number stays, and the tag is made
  -- of both, or the run stops with the refusal of making it. `left` is where the run stands with
  -- the row so changed.
  pub record PageLine (pages : ℕ) (row : List (Draft M)) (n page : ℕ) (bytes : List ℕ)
      (left : List (Draft M) → Stage) (came : Came) : Type 0 where
    pub no_tag : length row ≤ n → came ≡ Stopped 18
    pub no_page : pages ≤ page → came ≡ Stopped 18
    pub set : (d : Draft M) → slice_get row n ≡ Some d → IsMade d → page < pages
        → (image : List ℕ) × (PageWritten page bytes d.image image × MatchResult (made image d.draw)
        (λ tag. (after : List (Draft M)) × ((came ≡ Went [] (left after))
        × Replaced n (record { image = image; draw = d.draw; tag = tag }) row after))
        (λ why. came ≡ Stopped why))

-- At every stage before the first call. Pump tags are in front, numbered from 0, and have pages 0
-- to 31; gauges are behind, numbered from 32, and have pages 0 and 1.
pub record TagLines : Type 0 where
  -- A tag line puts a blank tag at the end of its row, and changes nothing else.
  pub pump : (draw : ℕ) (front : List (Draft PumpMeaning)) (back : List (Draft GaugeMeaning))
      → (d : Draft PumpMeaning) × (Blank pump_made 256 draw d
      × (named Pump draw (Naming front back) ≡ Went [] (Naming (front ++ (d ∷ [])) back)))
  pub gauge : (draw : ℕ) (front : List (Draft PumpMeaning)) (back : List (Draft GaugeMeaning))
      → (d : Draft GaugeMeaning) × (Blank gauge_made 16 draw d
      × (named Gauge draw (Naming front back) ≡ Went [] (Naming front (back ++ (d ∷ [])))))
  -- A page line, of eight bytes, changes one tag of one row.
  pub front : (tag page : ℕ) (bytes : List ℕ) (front : List (Draft PumpMeaning))
      (back : List (Draft GaugeMeaning)) → tag < 32 → length bytes ≡ 8
      → PageLine pump_made 32 front tag page bytes (λ row. Naming row back)
      (paged tag page bytes (Naming front back))
  pub back : (n page : ℕ) (bytes : List ℕ) (front : List (Draft PumpMeaning))
      (back : List (Draft GaugeMeaning)) → length bytes ≡ 8
      → PageLine gauge_made 2 back n page bytes (λ row. Naming front row)
      (paged (32 + n) page bytes (Naming front back))
  -- After the first call both are refused.
  pub late_tag : (kind : TagKind) (draw : ℕ) (tray : SheetTray)
      → named kind draw (Calling tray) ≡ Stopped 17
  pub late_page : (tag page : ℕ) (bytes : List ℕ) (tray : SheetTray)
      → paged tag page bytes (Calling tray) ≡ Stopped 17
  -- Whatever lines lead to, every tag is the one made of its image and its draw number.
  pub all_made : (lines : List Names) (front : List (Draft PumpMeaning))
      (back : List (Draft GaugeMeaning)) → Leads (Naming [] []) lines (Naming front back)
      → All (IsMade pump_made) front × All (IsMade gauge_made) back
  -- The first call finds the tags in the order of the sheet, all on the tray, and the field off.
  pub dark : (front : List (Draft PumpMeaning)) (back : List (Draft GaugeMeaning))
      → (tray_in (Naming front back)).field ≡ false
  pub front_loaded : (front : List (Draft PumpMeaning)) (back : List (Draft GaugeMeaning)) (n : ℕ)
      → slice_get (tray_in (Naming front back)).front n
      ≡ option_map (λ d. record { here = true; tag = d.tag }) (slice_get front n)
  pub back_loaded : (front : List (Draft PumpMeaning)) (back : List (Draft GaugeMeaning)) (n : ℕ)
      → slice_get (tray_in (Naming front back)).back n
      ≡ option_map (λ d. record { here = true; tag = d.tag }) (slice_get back n)

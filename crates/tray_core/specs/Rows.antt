-- A row of tags of one kind.
use Rattle.std.specs.Prelude.{ℕ, zero, suc, Bool, true, false, cond, List, [], ◌∷◌, map}
use Rattle.kinds.specs.Kinds.{Meaning, Behaviour}
use Rattle.tray_core.specs.Sounds.{Sounds, Silence, voice, meet}

-- A place in a row: whether its tag is on the tray, and the tag.
pub record Post (S H : Type 0) : Type 0 where
  pub here : Bool
  pub tag : Meaning S H

module _ {S H : Type 0} where
  -- The tag of a place goes through a change while it is on the tray.
  abbrev pub if_here : (Meaning S H → Meaning S H) → Post S H → Post S H
  if_here change p = record { here = p.here; tag = cond p.here (change p.tag) p.tag }

  -- A place of a row, by its number, goes through a change.
  abbrev pub change_at : ℕ → (Post S H → Post S H) → List (Post S H) → List (Post S H)
  change_at n change [] = []
  change_at zero change (p ∷ row) = change p ∷ row
  change_at (suc n) change (p ∷ row) = p ∷ change_at n change row

  module _ (b : Behaviour S H) where
    -- All tags on the tray gain power, or lose it.
    abbrev pub row_gains : List (Post S H) → List (Post S H)
    row_gains row = map (if_here b.gains) row

    abbrev pub row_loses : List (Post S H) → List (Post S H)
    row_loses row = map (if_here b.loses) row

    -- Power comes or goes, for a tag and for a row.
    abbrev pub powers : Bool → Meaning S H → Meaning S H
    powers true m = b.gains m
    powers false m = b.loses m

    abbrev pub row_powers : Bool → List (Post S H) → List (Post S H)
    row_powers true row = row_gains row
    row_powers false row = row_loses row

    -- A tag that is put on the tray gains power where the field is on, and one that is lifted loses it.
    -- A tag that is there already, or gone already, stays as it is.
    abbrev pub placed : Bool → Post S H → Post S H
    placed field p = cond p.here p (record { here = true; tag = cond field (b.gains p.tag) p.tag })

    abbrev pub lifted : Bool → Post S H → Post S H
    lifted field p = cond p.here (record { here = false; tag = cond field (b.loses p.tag) p.tag }) p

    -- A tag is put on the tray or lifted off it.
    abbrev pub moved : Bool → Bool → Post S H → Post S H
    moved true field p = placed field p
    moved false field p = lifted field p

    -- A frame reaches all tags on the tray.
    abbrev pub hearing : List ℕ → Meaning S H → Meaning S H
    hearing frame m = (b.hears frame m).after

    abbrev pub row_hears : List ℕ → List (Post S H) → List (Post S H)
    row_hears frame row = map (if_here (hearing frame)) row

    abbrev pub voice_at : List ℕ → Post S H → Sounds
    voice_at frame p = cond p.here (voice (b.hears frame p.tag).reply) Silence

    abbrev pub row_sounds : List ℕ → List (Post S H) → Sounds
    row_sounds frame [] = Silence
    row_sounds frame (p ∷ row) = meet (voice_at frame p) (row_sounds frame row)

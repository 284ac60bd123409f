-- A tray: a front row, a back row and the field. A tag has power when it is on the tray and the field is on.
use Rattle.std.specs.Prelude.{ℕ, ◌-◌, Bool, true, false, cond, ◌&&◌, ◌||◌, List, map, length, nat_le, nat_lt}
use Rattle.kinds.specs.Kinds.{Meaning, Behaviour}
use Rattle.tray_core.specs.Rows.{Post, change_at, row_gains, row_loses, placed, lifted, row_hears, row_sounds}
use Rattle.tray_core.specs.Sounds.{Sounds, Silence, meet}

pub record Model (SF HF SB HB : Type 0) : Type 0 where
  pub field : Bool
  pub front : List (Post SF HF)
  pub back : List (Post SB HB)

module _ {SF HF SB HB : Type 0} where
  -- Rows of 32 or fewer?
  abbrev pub rows_fit : Model SF HF SB HB → Bool
  rows_fit t = nat_le (length t.front) 32 && nat_le (length t.back) 32

  -- Front tags are numbered from 0, back tags from 32.
  abbrev pub in_front : ℕ → Model SF HF SB HB → Bool
  in_front n t = nat_lt n (length t.front)

  abbrev pub in_back : ℕ → Model SF HF SB HB → Bool
  in_back n t = nat_le 32 n && nat_lt (n - 32) (length t.back)

  abbrev pub names : ℕ → Model SF HF SB HB → Bool
  names n t = in_front n t || in_back n t

  module _ (F : Behaviour SF HF) (B : Behaviour SB HB) where
    -- The field on and off: the tags on the tray gain and lose power. A repeated call is harmless.
    abbrev pub turned_on : Model SF HF SB HB → Model SF HF SB HB
    turned_on t = cond t.field t (record { field = true; front = row_gains F t.front; back = row_gains B t.back })

    abbrev pub turned_off : Model SF HF SB HB → Model SF HF SB HB
    turned_off t = cond t.field (record { field = false; front = row_loses F t.front; back = row_loses B t.back }) t

    -- A tag put on the tray, and lifted off it.
    abbrev pub with_placed : ℕ → Model SF HF SB HB → Model SF HF SB HB
    with_placed n t =
        cond (in_front n t)
        (record { field = t.field; front = change_at n (placed F t.field) t.front; back = t.back })
        (record { field = t.field; front = t.front; back = change_at (n - 32) (placed B t.field) t.back })

    abbrev pub with_lifted : ℕ → Model SF HF SB HB → Model SF HF SB HB
    with_lifted n t =
        cond (in_front n t)
        (record { field = t.field; front = change_at n (lifted F t.field) t.front; back = t.back })
        (record { field = t.field; front = t.front; back = change_at (n - 32) (lifted B t.field) t.back })

    -- A frame on the air: the tray after it, and what the reader hears.
    abbrev pub after_frame : List ℕ → Model SF HF SB HB → Model SF HF SB HB
    after_frame frame t =
        cond t.field (record { field = t.field; front = row_hears F frame t.front; back = row_hears B frame t.back }) t

    abbrev pub sounds_of : List ℕ → Model SF HF SB HB → Sounds
    sounds_of frame t = cond t.field (meet (row_sounds F frame t.front) (row_sounds B frame t.back)) Silence

-- A loaded tray: tags just made, all on the tray, the field off.
module _ {S H : Type 0} where
  abbrev pub present : Meaning S H → Post S H
  present m = record { here = true; tag = m }

module _ {SF HF SB HB : Type 0} where
  abbrev pub loaded_with : List (Meaning SF HF) → List (Meaning SB HB) → Model SF HF SB HB
  loaded_with front back = record { field = false; front = map present front; back = map present back }

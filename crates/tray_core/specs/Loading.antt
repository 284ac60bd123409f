-- Loading: a tag of each list in the place of its number.
use Rattle.std.specs.Prelude.{◌≡◌, ℕ, true, false, List, slice_get}
use Rattle.std.specs.Option.{option_map}
use Rattle.kinds.specs.Kinds.{Meaning}
use Rattle.tray_core.specs.Trays.{loaded_with}

-- A tray just loaded: the field is off, and a row has a place n exactly where its list has an n-th
-- tag: that tag, on the tray.
module _ {SF HF SB HB : Type 0} (fs : List (Meaning SF HF)) (bs : List (Meaning SB HB)) where
  pub record Loads : Type 0 where
    pub dark : (loaded_with fs bs).field ≡ false
    pub front : (n : ℕ)
        → slice_get (loaded_with fs bs).front n
        ≡ option_map (λ m. record { here = true; tag = m }) (slice_get fs n)
    pub back : (n : ℕ)
        → slice_get (loaded_with fs bs).back n
        ≡ option_map (λ m. record { here = true; tag = m }) (slice_get bs n)

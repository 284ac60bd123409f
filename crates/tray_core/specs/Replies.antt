-- The replies to a frame: what the tags that have power answer.
use Rattle.std.specs.Prelude.{ℕ, if◌then◌else◌, List, [], ◌∷◌, ◌++◌, length, nat_lt}
use Rattle.std.specs.List.{filter}
use Rattle.kinds.specs.Kinds.{Behaviour}
use Rattle.tray_core.specs.Rows.{Post}
use Rattle.tray_core.specs.Trays.{Model}

-- The replies of a row's tags that are on the tray.
module _ {S H : Type 0} (b : Behaviour S H) where
  abbrev pub replies_in : List ℕ → List (Post S H) → List (List ℕ)
  replies_in frame [] = []
  replies_in frame (p ∷ row) =
      if p.here then (b.hears frame p.tag).reply ∷ replies_in frame row else replies_in frame row

-- The replies of the tags that have power, front row first. A reply of no byte is none; one of any
-- other length counts.
module _ {SF HF SB HB : Type 0} (F : Behaviour SF HF) (B : Behaviour SB HB) where
  abbrev pub replies : Model SF HF SB HB → List ℕ → List (List ℕ)
  replies t frame =
      if t.field
      then filter (λ reply. nat_lt 0 (length reply))
      (replies_in F frame t.front ++ replies_in B frame t.back)
      else []

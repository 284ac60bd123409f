-- A row by its flags and tags: its length, and a row just made.
use Rattle.std.proofs.Common.{◌≡◌, ℕ, zero, suc, Bool, true, List, [], ◌∷◌, map, length, replicate, vec_items, vec_len, sym, refl, ap, ◌∙◌}
use Rattle.std.proofs.lemmas.List.{length-map}
use Rattle.kinds.specs.Kinds.{Meaning}
use Rattle.tray_core.specs.declared.row.Row.{Row}
use Rattle.tray_core.specs.Trays.{present}
use Rattle.tray_core.specs.Views.{posts, row_of}

length_posts : {S H : Type 0} (flags : List Bool) (ms : List (Meaning S H)) → length (posts flags ms) ≡ length ms
length_posts [] [] = refl
length_posts (b ∷ flags) [] = refl
length_posts [] (m ∷ ms) = ap suc (length_posts [] ms)
length_posts (b ∷ flags) (m ∷ ms) = ap suc (length_posts flags ms)

pub long_row : {K S H : Type 0} (means : K → Meaning S H) (row : Row K) → length (row_of means row) ≡ vec_len row.tags
long_row means row = length_posts row.present (map means (vec_items row.tags)) ∙ length-map (vec_items row.tags) means ∙ sym row.tags.ok.0

-- a row just made: every tag is on the tray
pub all_present : {S H : Type 0} (n : ℕ) (ms : List (Meaning S H)) → posts (replicate n true) ms ≡ map present ms
all_present zero [] = refl
all_present (suc n) [] = refl
all_present zero (m ∷ ms) = ap (λ row. present m ∷ row) (all_present zero ms)
all_present (suc n) (m ∷ ms) = ap (λ row. present m ∷ row) (all_present n ms)

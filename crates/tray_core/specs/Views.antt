-- What the values of the code stand for.
use Rattle.std.specs.Prelude.{◌≡◌, ℕ, ◌+◌, ◌*◌, ◌≤◌, Bool, true, List, [], ◌∷◌, map, take, drop, Ok, Err, Result, vec_items}
use Rattle.typeb.specs.Messages.{bytes_of}
use Rattle.kinds.specs.Kinds.{Meaning}
use Rattle.tray_core.specs.declared.row.Row.{Row}
use Rattle.tray_core.specs.declared.row.TooLong.{TooLong}
use Rattle.tray_core.specs.declared.sounds.Sounds.{Sounds}
use Rattle.tray_core.specs.declared.sounds.Sounds.TheVariants as heard
use Rattle.tray_core.specs.declared.progress.Progress.{Progress}
use Rattle.tray_core.specs.declared.tray.Rows.{Rows}
use Rattle.tray_core.specs.declared.tray.Tray.{Tray}
use Rattle.tray_core.specs.Rows.{Post}
use Rattle.tray_core.specs.Stock.{Tally, joins}
use Rattle.tray_core.specs.Trays.{Model, loaded_with}
use Rattle.tray_core.specs.Sounds as sounds

abbrev pub sounds_in : Sounds → sounds.Sounds
sounds_in heard.Silence = sounds.Silence
sounds_in (heard.Reply m) = sounds.Reply (bytes_of m)
sounds_in (heard.Clash n) = sounds.Clash n

-- How many answered.
abbrev pub how_many : Sounds → ℕ
how_many heard.Silence = 0
how_many (heard.Reply m) = 1
how_many (heard.Clash n) = n

-- A row, from its flags and its tags. Tags past the flags are on the tray.
module _ {S H : Type 0} where
  abbrev pub posts : List Bool → List (Meaning S H) → List (Post S H)
  posts [] [] = []
  posts (b ∷ flags) [] = []
  posts [] (m ∷ tags) = record { here = true; tag = m } ∷ posts [] tags
  posts (b ∷ flags) (m ∷ tags) = record { here = b; tag = m } ∷ posts flags tags

abbrev pub row_of : {K S H : Type 0} → (K → Meaning S H) → Row K → List (Post S H)
row_of means row = posts row.present (map means (vec_items row.tags))

-- A tray, by its tags' meanings, which of them are on it, and the field.
abbrev pub rows_of : {KF SF HF KB SB HB : Type 0} → (KF → Meaning SF HF) → (KB → Meaning SB HB) → Rows KF KB → Model SF HF SB HB
rows_of f b rows = record { field = rows.field; front = row_of f rows.front; back = row_of b rows.back }

-- A tray with a row that is too long refuses every call, so it stays as it was loaded.
abbrev pub rows_in : {KF SF HF KB SB HB : Type 0} → (KF → Meaning SF HF) → (KB → Meaning SB HB) → Result (Rows KF KB) (TooLong KF KB) → Model SF HF SB HB
rows_in f b (Ok rows) = rows_of f b rows
rows_in f b (Err tags) = loaded_with (map f (vec_items tags.front)) (map b (vec_items tags.back))

abbrev pub model_of : {KF SF HF KB SB HB : Type 0} → (KF → Meaning SF HF) → (KB → Meaning SB HB) → Tray KF KB → Model SF HF SB HB
model_of f b tray = rows_in f b tray.rows

-- A stock under way, with the list that it fills.
abbrev pub tally_of : Progress → List (List ℕ) → Tally
tally_of p list =
    record { frames = p.frames; rounds = p.rounds; clashes = p.clashes; silent = p.silent; serials = take p.listed list }

-- A serial number noted in the list of a stock: the filled places hold what they should, the others stay as they were.
pub record NotedIn (serial : List ℕ) (listed : ℕ) (before after : List (List ℕ)) (n : ℕ) : Type 0 where
  pub serials : take n after ≡ joins serial (take listed before)
  pub rest : drop n after ≡ drop n before
  pub more : listed ≤ n
  pub most : n ≤ listed + 1

-- A stock goes on by at most k slots: what it counts stays small, it fills at most k places and leaves the others.
pub record GoesOn (k : ℕ) (before : Progress) (list : List (List ℕ)) (after : Progress) (filled : List (List ℕ)) : Type 0 where
  pub frames : after.frames ≤ before.frames + 2 * k
  pub clashes : after.clashes ≤ before.clashes + k
  pub rounds : after.rounds ≡ before.rounds
  pub more : before.listed ≤ after.listed
  pub most : after.listed ≤ before.listed + k
  pub rest : drop after.listed filled ≡ drop after.listed list

-- A round begins.
abbrev pub begun : Progress → Progress
begun p = record { frames = p.frames; rounds = p.rounds + 1; clashes = 0; silent = true; listed = p.listed }

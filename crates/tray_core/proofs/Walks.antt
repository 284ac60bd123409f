-- A walk over a row, tag by tag: what is left, done from here on, gives the whole.
use Rattle.std.proofs.Common.{◌≡◌, ℕ, zero, suc, ◌+◌, ◌<◌, ◌≤◌, Bool, true, false, cond, not, ◌&&◌, List, [], ◌∷◌, map, length, get_or, drop, set, sym, refl, ap, ◌∙◌, add-one, arith}
use mathlib.Core.Bool.{beq}
use Rattle.std.proofs.lemmas.List.{get_or-map, length-map, map-set}
use Rattle.kinds.specs.Kinds.{Meaning, Behaviour}
use Rattle.tray_core.specs.Rows.{Post, if_here, change_at, powers, row_powers, moved, row_sounds, hearing}
use Rattle.tray_core.specs.Sounds.{Sounds, Silence, meet, voice}
use Rattle.tray_core.specs.Views.{posts}

module _ {S H : Type 0} (change : Meaning S H → Meaning S H) where
  -- the posts of a row from the n-th on go through a change
  abbrev pub changed_from : ℕ → List (Post S H) → List (Post S H)
  changed_from zero row = map (if_here change) row
  changed_from (suc n) [] = []
  changed_from (suc n) (p ∷ row) = p ∷ changed_from n row

  here_suc : (i : ℕ) (flags : List Bool) (ms : List (Meaning S H)) (m : Meaning S H) → i < length ms → i < length flags → m ≡ get_or ms i m → get_or flags i false ≡ true
      → changed_from (suc i) (posts flags (set ms i (change m))) ≡ changed_from i (posts flags ms)
  here_suc i flags [] m l k is on = absurd (omega arith)
  here_suc i [] (x ∷ ms) m l k is on = absurd (omega arith)
  here_suc zero (b ∷ flags) (x ∷ ms) m l k is on =
      ap (λ (p : Post S H). p ∷ map (if_here change) (posts flags ms))
      (ap (λ (c : Bool). record { here = c; tag = change m }) on
      ∙ ap (λ (t : Meaning S H). record { here = true; tag = change t }) is
      ∙ sym (ap (λ (c : Bool). record { here = c; tag = cond c (change x) x }) on))
  here_suc (suc i) (b ∷ flags) (x ∷ ms) m l k is on =
      ap (λ (row : List (Post S H)). record { here = b; tag = x } ∷ row) (here_suc i flags ms m (omega arith) (omega arith) is on)

  gone_suc : (i : ℕ) (flags : List Bool) (ms : List (Meaning S H)) → i < length ms → i < length flags → get_or flags i false ≡ false
      → changed_from (suc i) (posts flags ms) ≡ changed_from i (posts flags ms)
  gone_suc i flags [] l k off = absurd (omega arith)
  gone_suc i [] (x ∷ ms) l k off = absurd (omega arith)
  gone_suc zero (b ∷ flags) (x ∷ ms) l k off =
      ap (λ (p : Post S H). p ∷ map (if_here change) (posts flags ms))
      (ap (λ (c : Bool). record { here = c; tag = x }) off ∙ sym (ap (λ (c : Bool). record { here = c; tag = cond c (change x) x }) off))
  gone_suc (suc i) (b ∷ flags) (x ∷ ms) l k off =
      ap (λ (row : List (Post S H)). record { here = b; tag = x } ∷ row) (gone_suc i flags ms (omega arith) (omega arith) off)

  -- one step of the walk, at a tag that is on the tray, and at one that is not; and the end
  pub walk_here : (i : ℕ) (flags : List Bool) (ms : List (Meaning S H)) (m : Meaning S H) → i < length ms → i < length flags → m ≡ get_or ms i m → get_or flags i false ≡ true
      → changed_from (i + 1) (posts flags (set ms i (change m))) ≡ changed_from i (posts flags ms)
  walk_here i flags ms m l k is on = rw add-one (here_suc i flags ms m l k is on)

  pub walk_gone : (i : ℕ) (flags : List Bool) (ms : List (Meaning S H)) → i < length ms → i < length flags → get_or flags i false ≡ false
      → changed_from (i + 1) (posts flags ms) ≡ changed_from i (posts flags ms)
  walk_gone i flags ms l k off = rw add-one (gone_suc i flags ms l k off)

  pub walk_end : (i : ℕ) (flags : List Bool) (ms : List (Meaning S H)) → length ms ≤ i → changed_from i (posts flags ms) ≡ posts flags ms
  walk_end zero [] [] l = refl
  walk_end zero (b ∷ flags) [] l = refl
  walk_end zero flags (x ∷ ms) l = absurd (omega arith)
  walk_end (suc i) [] [] l = refl
  walk_end (suc i) (b ∷ flags) [] l = refl
  walk_end (suc i) [] (x ∷ ms) l = ap (λ (row : List (Post S H)). record { here = true; tag = x } ∷ row) (walk_end i [] ms (omega arith))
  walk_end (suc i) (b ∷ flags) (x ∷ ms) l =
      ap (λ (row : List (Post S H)). record { here = b; tag = x } ∷ row) (walk_end i flags ms (omega arith))

-- what is heard from the n-th post on
module _ {S H : Type 0} (b : Behaviour S H) (frame : List ℕ) where
  abbrev pub sounds_from : ℕ → List Bool → List (Meaning S H) → Sounds
  sounds_from n flags ms = row_sounds b frame (drop n (posts flags ms))

  here_sounds : (i : ℕ) (flags : List Bool) (ms : List (Meaning S H)) (m x : Meaning S H) → i < length ms → i < length flags → m ≡ get_or ms i m → get_or flags i false ≡ true
      → sounds_from i flags ms ≡ meet (voice (b.hears frame m).reply) (sounds_from (suc i) flags (set ms i x))
  here_sounds i flags [] m x l k is on = absurd (omega arith)
  here_sounds i [] (y ∷ ms) m x l k is on = absurd (omega arith)
  here_sounds zero (c ∷ flags) (y ∷ ms) m x l k is on =
      ap (λ (s : Sounds). meet s (row_sounds b frame (posts flags ms)))
      (ap (λ (o : Bool). cond o (voice (b.hears frame y).reply) Silence) on ∙ sym (ap (λ (t : Meaning S H). voice (b.hears frame t).reply) is))
  here_sounds (suc i) (c ∷ flags) (y ∷ ms) m x l k is on = here_sounds i flags ms m x (omega arith) (omega arith) is on

  gone_sounds : (i : ℕ) (flags : List Bool) (ms : List (Meaning S H)) → i < length ms → i < length flags → get_or flags i false ≡ false
      → sounds_from i flags ms ≡ sounds_from (suc i) flags ms
  gone_sounds i flags [] l k off = absurd (omega arith)
  gone_sounds i [] (y ∷ ms) l k off = absurd (omega arith)
  gone_sounds zero (c ∷ flags) (y ∷ ms) l k off =
      ap (λ (o : Bool). meet (cond o (voice (b.hears frame y).reply) Silence) (row_sounds b frame (posts flags ms))) off
  gone_sounds (suc i) (c ∷ flags) (y ∷ ms) l k off = gone_sounds i flags ms (omega arith) (omega arith) off

  pub sounds_here : (i : ℕ) (flags : List Bool) (ms : List (Meaning S H)) (m x : Meaning S H) → i < length ms → i < length flags → m ≡ get_or ms i m → get_or flags i false ≡ true
      → sounds_from i flags ms ≡ meet (voice (b.hears frame m).reply) (sounds_from (i + 1) flags (set ms i x))
  sounds_here i flags ms m x l k is on = rw add-one (here_sounds i flags ms m x l k is on)

  pub sounds_gone : (i : ℕ) (flags : List Bool) (ms : List (Meaning S H)) → i < length ms → i < length flags → get_or flags i false ≡ false
      → sounds_from i flags ms ≡ sounds_from (i + 1) flags ms
  sounds_gone i flags ms l k off = rw add-one (gone_sounds i flags ms l k off)

  pub sounds_end : (i : ℕ) (flags : List Bool) (ms : List (Meaning S H)) → length ms ≤ i → sounds_from i flags ms ≡ Silence
  sounds_end zero [] [] l = refl
  sounds_end zero (c ∷ flags) [] l = refl
  sounds_end zero flags (y ∷ ms) l = absurd (omega arith)
  sounds_end (suc i) [] [] l = refl
  sounds_end (suc i) (c ∷ flags) [] l = refl
  sounds_end (suc i) [] (y ∷ ms) l = sounds_end i [] ms (omega arith)
  sounds_end (suc i) (c ∷ flags) (y ∷ ms) l = sounds_end i flags ms (omega arith)

-- the same of tags in hand: `next` is what the row holds after the step
module _ {K S H : Type 0} (means : K → Meaning S H) (i : ℕ) (flags : List Bool) (tags next : List K) (inside : i < length tags) (flagged : i < length flags) where
  read_at : (x : K) → x ≡ get_or tags i x → means x ≡ get_or (map means tags) i (means x)
  read_at x is = ap means is ∙ sym (get_or-map means tags i x (means x) inside)

  within : i < length (map means tags)
  within = simp length-map inside

  stored : (x y : K) (change : Meaning S H → Meaning S H) → next ≡ set tags i y → means y ≡ change (means x) → map means next ≡ set (map means tags) i (change (means x))
  stored x y change is does = ap (map means) is ∙ map-set means tags i y ∙ ap (set (map means tags) i) does

  pub told_here : (x y : K) (change : Meaning S H → Meaning S H) → next ≡ set tags i y → means y ≡ change (means x) → x ≡ get_or tags i x → get_or flags i false ≡ true
      → changed_from change (i + 1) (posts flags (map means next)) ≡ changed_from change i (posts flags (map means tags))
  told_here x y change is does read on =
      ap (λ (ms : List (Meaning S H)). changed_from change (i + 1) (posts flags ms)) (stored x y change is does)
      ∙ walk_here change i flags (map means tags) (means x) within flagged (read_at x read) on

  pub told_gone : (change : Meaning S H → Meaning S H) → next ≡ tags → get_or flags i false ≡ false
      → changed_from change (i + 1) (posts flags (map means next)) ≡ changed_from change i (posts flags (map means tags))
  told_gone change is off =
      ap (λ (ts : List K). changed_from change (i + 1) (posts flags (map means ts))) is
      ∙ walk_gone change i flags (map means tags) within flagged off

  pub heard_here : (b : Behaviour S H) (frame : List ℕ) (x y : K) → next ≡ set tags i y → means y ≡ hearing b frame (means x) → x ≡ get_or tags i x → get_or flags i false ≡ true
      → sounds_from b frame i flags (map means tags) ≡ meet (voice (b.hears frame (means x)).reply) (sounds_from b frame (i + 1) flags (map means next))
  heard_here b frame x y is does read on =
      sounds_here b frame i flags (map means tags) (means x) (hearing b frame (means x)) within flagged (read_at x read) on
      ∙ ap (λ (ms : List (Meaning S H)). meet (voice (b.hears frame (means x)).reply) (sounds_from b frame (i + 1) flags ms)) (sym (stored x y (hearing b frame) is does))

  pub heard_gone : (b : Behaviour S H) (frame : List ℕ) → next ≡ tags → get_or flags i false ≡ false
      → sounds_from b frame i flags (map means tags) ≡ sounds_from b frame (i + 1) flags (map means next)
  heard_gone b frame is off =
      sounds_gone b frame i flags (map means tags) within flagged off
      ∙ ap (λ (ts : List K). sounds_from b frame (i + 1) flags (map means ts)) (sym is)

-- the end of a walk
module _ {K S H : Type 0} (means : K → Meaning S H) (i : ℕ) (flags : List Bool) (tags : List K) (past : length tags ≤ i) where
  pub told_all : (change : Meaning S H → Meaning S H) → posts flags (map means tags) ≡ changed_from change i (posts flags (map means tags))
  told_all change = sym (walk_end change i flags (map means tags) (simp length-map past))

  pub heard_all : (b : Behaviour S H) (frame : List ℕ) → sounds_from b frame i flags (map means tags) ≡ Silence
  heard_all b frame = sounds_end b frame i flags (map means tags) (simp length-map past)

-- one post of a row is replaced: flag and tag are stored at its number
module _ {S H : Type 0} (change : Post S H → Post S H) where
  changed_at_lem : (n : ℕ) (flags : List Bool) (ms : List (Meaning S H)) (m next : Meaning S H) (flag : Bool) → n < length ms → n < length flags → m ≡ get_or ms n m
      → change (record { here = get_or flags n false; tag = m }) ≡ record { here = flag; tag = next }
      → posts (set flags n flag) (set ms n next) ≡ change_at n change (posts flags ms)
  changed_at_lem n flags [] m next flag l k is does = absurd (omega arith)
  changed_at_lem n [] (x ∷ ms) m next flag l k is does = absurd (omega arith)
  changed_at_lem zero (b ∷ flags) (x ∷ ms) m next flag l k is does =
      ap (λ (p : Post S H). p ∷ posts flags ms) (sym does ∙ ap (λ (t : Meaning S H). change (record { here = b; tag = t })) is)
  changed_at_lem (suc n) (b ∷ flags) (x ∷ ms) m next flag l k is does =
      ap (λ (row : List (Post S H)). record { here = b; tag = x } ∷ row) (changed_at_lem n flags ms m next flag (omega arith) (omega arith) is does)

  pub stored_at : {K : Type 0} (means : K → Meaning S H) (n : ℕ) (flags : List Bool) (tags : List K) (x y : K) (flag : Bool) → n < length tags → n < length flags → x ≡ get_or tags n x
      → change (record { here = get_or flags n false; tag = means x }) ≡ record { here = flag; tag = means y }
      → posts (set flags n flag) (map means (set tags n y)) ≡ change_at n change (posts flags (map means tags))
  stored_at means n flags tags x y flag l k is does =
      ap (posts (set flags n flag)) (map-set means tags n y)
      ∙ changed_at_lem n flags (map means tags) (means x) (means y) flag (simp length-map l) k (ap means is ∙ sym (get_or-map means tags n x (means x) l)) does

-- power that comes to a row, or goes from it
module _ {S H : Type 0} (b : Behaviour S H) where
  pub row_powers_lem : (on : Bool) (row : List (Post S H)) → map (if_here (powers b on)) row ≡ row_powers b on row
  row_powers_lem true row = refl
  row_powers_lem false row = refl

  -- a tag put on the tray or lifted off it, by the three flags
  pub moved_is : (here field was : Bool) (m next : Meaning S H) → next ≡ cond (field && not (beq was here)) (powers b here m) m
      → moved b here field (record { here = was; tag = m }) ≡ record { here = here; tag = next }
  moved_is true true true m next is = ap (λ (t : Meaning S H). record { here = true; tag = t }) (sym is)
  moved_is true true false m next is = ap (λ (t : Meaning S H). record { here = true; tag = t }) (sym is)
  moved_is true false true m next is = ap (λ (t : Meaning S H). record { here = true; tag = t }) (sym is)
  moved_is true false false m next is = ap (λ (t : Meaning S H). record { here = true; tag = t }) (sym is)
  moved_is false true true m next is = ap (λ (t : Meaning S H). record { here = false; tag = t }) (sym is)
  moved_is false true false m next is = ap (λ (t : Meaning S H). record { here = false; tag = t }) (sym is)
  moved_is false false true m next is = ap (λ (t : Meaning S H). record { here = false; tag = t }) (sym is)
  moved_is false false false m next is = ap (λ (t : Meaning S H). record { here = false; tag = t }) (sym is)

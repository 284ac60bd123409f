-- The 256 bytes of a pump tag's memory, by its pages.
use Rattle.std.proofs.Common.{◌≡◌, ℕ, ◌+◌, ◌-◌, ◌*◌, ◌/◌, ◌%◌, ◌<◌, ◌≤◌, true, false, ltb, List, length, get_or, drop, sym, ap, ◌∙◌, subst, ◌⊎◌, inl, inr, ⊎_elim, arith, lit<}
use Rattle.std.proofs.lemmas.Bool.{lt-ltb, le-ltb, cases_lt}
use Rattle.std.proofs.lemmas.List.{length-append, get_or-take, get_or-drop, get_or_past, ext_get_or}
use Rattle.std.proofs.lemmas.List.FromFn.{get_or-map-range_with_len}
use Rattle.tags.specs.DataLaws.{memory_of, eight_from, IsBytes, IsWhole, IsPage, ChangesOnly, locks_in, counter_of}
use Rattle.tags.specs.Pages.{page_at, counter_in}
use Rattle.tags.specs.Pump.{PumpMeaning, PumpSized, page_of, with_page}
use Rattle.tags.proofs.Memory.{page_front, page_back}
use Rattle.tags.proofs.Replaced.{page_long, replaced_sized, replaced_here, replaced_elsewhere}

-- eight bytes that are those of a list from one place on
pub eight_is : (first : ℕ) (list page : List ℕ) → length page ≡ 8 → ((j : ℕ) → j < 8 → get_or page j 0 ≡ get_or list (first + j) 0)
    → page ≡ eight_from first list
eight_is first list page eight each =
    ext_get_or 0 page (eight_from first list) eight
    (λ j under.
    let below : j < 8 = omega arith in
    each j below ∙ sym (get_or-map-range_with_len (λ (i : ℕ). get_or list (first + i) 0) 0 8 j j 0 below (omega arith)))

-- a page of a list is eight of its bytes
pub eight_page : (n : ℕ) (list : List ℕ) → length (page_at n list) ≡ 8 → page_at n list ≡ eight_from (8 * n) list
eight_page n list eight =
    eight_is (8 * n) list (page_at n list) eight
    (λ j below. get_or-take 8 (drop (8 * n) list) j 0 below ∙ get_or-drop (8 * n) list j 0)

-- a page of the tag is that page of its memory
pub page_whole : (m : PumpMeaning) → PumpSized m → (n : ℕ) → n < 32 → page_of n m ≡ page_at n (memory_of m)
page_whole m sized n below =
    let shown = sized.shown in
    ⊎_elim
    (λ (l : n < 3). let t : ltb n 3 ≡ true = lt-ltb n 3 l in simp t (sym (page_front n m.shown.pages m.hidden (omega arith))))
    (λ (g : 3 ≤ n). let t : ltb n 3 ≡ false = le-ltb n 3 g in simp t (sym (page_back n m.shown.pages m.hidden (n - 3) (omega arith))))
    (cases_lt n 3)

pub eight_whole : (m : PumpMeaning) → PumpSized m → (n : ℕ) → n < 32 → page_of n m ≡ eight_from (8 * n) (memory_of m)
eight_whole m sized n below =
    let same : page_of n m ≡ page_at n (memory_of m) = page_whole m sized n below in
    same ∙ eight_page n (memory_of m) (ap length (sym same) ∙ page_long m sized n below)

pub byte_whole : (m : PumpMeaning) → PumpSized m → (n : ℕ) → n < 32 → (j : ℕ) → j < 8
    → get_or (page_of n m) j 0 ≡ get_or (memory_of m) (8 * n + j) 0
byte_whole m sized n below j under =
    ap (λ (p : List ℕ). get_or p j 0) (page_whole m sized n below)
    ∙ get_or-take 8 (drop (8 * n) (memory_of m)) j 0 under
    ∙ get_or-drop (8 * n) (memory_of m) j 0

-- the bytes of a whole tag's page
pub page_bytes : (m : PumpMeaning) → IsWhole m → (n : ℕ) → n < 32 → IsBytes (page_of n m)
page_bytes m whole n below j =
    ⊎_elim
    (λ (l : j < 8). subst (λ (b : ℕ). b < 256) (sym (byte_whole m whole.sized n below j l)) (whole.bytes (8 * n + j)))
    (λ (g : 8 ≤ j).
    let long : length (page_of n m) ≡ 8 = page_long m whole.sized n below in
    subst (λ (b : ℕ). b < 256) (sym (get_or_past (page_of n m) j 0 (omega arith))) (lit< tt))
    (cases_lt j 8)

-- a page of a whole tag is replaced by eight bytes
module _ (m : PumpMeaning) (whole : IsWhole m) (n : ℕ) (below : n < 32) (page : List ℕ) (given : IsPage page) where
  after_sized : PumpSized (with_page n page m)
  after_sized = replaced_sized m whole.sized n below page given.long

  pub byte_put : (j : ℕ) → j < 8 → get_or (memory_of (with_page n page m)) (8 * n + j) 0 ≡ get_or page j 0
  byte_put j under =
      sym (byte_whole (with_page n page m) after_sized n below j under)
      ∙ ap (λ (p : List ℕ). get_or p j 0) (replaced_here m whole.sized n below page given.long)

  byte_kept : (i : ℕ) → i < 256 → (i < 8 * n) ⊎ (8 * n + 8 ≤ i)
      → get_or (memory_of (with_page n page m)) i 0 ≡ get_or (memory_of m) i 0
  byte_kept i under out =
      let place : 8 * (i / 8) + i % 8 ≡ i = omega arith in
      let apart : i / 8 ≡ n → ⊥ = λ (e : i / 8 ≡ n).
      ⊎_elim (λ (l : i < 8 * n). omega arith) (λ (g : 8 * n + 8 ≤ i). omega arith) out in
      ap (λ (k : ℕ). get_or (memory_of (with_page n page m)) k 0) (sym place)
      ∙ sym (byte_whole (with_page n page m) after_sized (i / 8) (omega arith) (i % 8) (omega arith))
      ∙ ap (λ (p : List ℕ). get_or p (i % 8) 0) (replaced_elsewhere m whole.sized n below page given.long (i / 8) (omega arith) apart)
      ∙ byte_whole m whole.sized (i / 8) (omega arith) (i % 8) (omega arith)
      ∙ ap (λ (k : ℕ). get_or (memory_of m) k 0) place

  after_bytes : IsBytes (memory_of (with_page n page m))
  after_bytes i =
      let shown : length (with_page n page m).shown.pages ≡ 24 = after_sized.shown in
      let hidden : length (with_page n page m).hidden ≡ 232 = after_sized.hidden in
      let long : length (memory_of (with_page n page m)) ≡ 256 = length-append (with_page n page m).shown.pages (with_page n page m).hidden ∙ omega arith in
      let out : (i < 8 * n) ⊎ (8 * n + 8 ≤ i) → i < 256 → get_or (memory_of (with_page n page m)) i 0 < 256 =
      λ apart under. subst (λ (b : ℕ). b < 256) (sym (byte_kept i under apart)) (whole.bytes i) in
      ⊎_elim
      (λ (l : i < 256).
      ⊎_elim
      (λ (a : i < 8 * n). out (inl a) l)
      (λ (b : 8 * n ≤ i).
      ⊎_elim
      (λ (c : i < 8 * n + 8).
      let here : get_or (memory_of (with_page n page m)) i 0 ≡ get_or page (i - 8 * n) 0 =
      ap (λ (k : ℕ). get_or (memory_of (with_page n page m)) k 0) (omega arith) ∙ byte_put (i - 8 * n) (omega arith) in
      subst (λ (b : ℕ). b < 256) (sym here) (given.each (i - 8 * n)))
      (λ (d : 8 * n + 8 ≤ i). out (inr d) l)
      (cases_lt i (8 * n + 8)))
      (cases_lt i (8 * n)))
      (λ (g : 256 ≤ i). subst (λ (b : ℕ). b < 256) (sym (get_or_past (memory_of (with_page n page m)) i 0 (omega arith))) (lit< tt))
      (cases_lt i 256)

  pub after_whole : IsWhole (with_page n page m)
  after_whole = record { sized = after_sized; bytes = after_bytes }

  pub changes_only : ChangesOnly (8 * n) (8 * n + 8) m (with_page n page m)
  changes_only = record { whole = after_whole; others = byte_kept }

-- locks and counter of the memory are those of pages 0 and 2
pub locks_whole : (m : PumpMeaning) → PumpSized m → locks_in (page_of 0 m) ≡ locks_in (memory_of m)
locks_whole m sized =
    let a = byte_whole m sized 0 (lit< tt) 4 (lit< tt) in
    let b = byte_whole m sized 0 (lit< tt) 5 (lit< tt) in
    let c = byte_whole m sized 0 (lit< tt) 6 (lit< tt) in
    let d = byte_whole m sized 0 (lit< tt) 7 (lit< tt) in
    omega arith

pub counter_whole : (m : PumpMeaning) → PumpSized m → counter_in (page_of 2 m) ≡ counter_of m
counter_whole m sized =
    let low = byte_whole m sized 2 (lit< tt) 6 (lit< tt) in
    let high = byte_whole m sized 2 (lit< tt) 7 (lit< tt) in
    omega arith

-- Edge cases, in one table: what the definitions give, and what the data sheet and the standard want.
use Rattle.std.specs.Prelude.{◌≡◌, ℕ, Bool, true, false, List, [], ◌∷◌, ◌++◌, map, replicate}
use Rattle.typeb.specs.CheckBytes.{check_bytes, sealed}
use Rattle.tags.specs.declared.link.State.{State}
use Rattle.tags.specs.declared.link.State.TheVariants.{Idle, Declared, Active}
use Rattle.tags.specs.Links.{drawn}
use Rattle.tags.specs.Pump.{PumpMeaning, pump_acts}

pub record Edge : Type 0 where
  pub found : List ℕ
  pub wanted : List ℕ

-- A pump tag in a state, with card number 0 and draw number 0: its shown pages 0 to 2, its hidden pages 3 to 31.
abbrev pub tag_in : State → Bool → List ℕ → List ℕ → PumpMeaning
tag_in state opened pages hidden =
    record {
      shown = record { link = record { state = state; cid = 0; draw = 0 }; pages = pages };
      hidden = hidden;
      opened = opened;
    }

-- What a tag answers to a body with its check bytes, and the pages that it shows then.
abbrev pub reply_to : PumpMeaning → List ℕ → List ℕ
reply_to m body = (pump_acts.hears (sealed body) m).reply

abbrev pub pages_after : PumpMeaning → List ℕ → List ℕ
pages_after m body = (pump_acts.hears (sealed body) m).after.shown.pages

-- All 32 pages of the tag then.
abbrev pub memory_after : PumpMeaning → List ℕ → List ℕ
memory_after m body = pages_after m body ++ (pump_acts.hears (sealed body) m).after.hidden

-- An open tag whose counter stands at these two bytes, low byte first; all else zero.
abbrev pub counting_tag : ℕ → ℕ → PumpMeaning
counting_tag low high = tag_in Active true (replicate 22 0 ++ (low ∷ high ∷ [])) (replicate 232 0)

abbrev pub counting_pages : ℕ → ℕ → List ℕ
counting_pages low high = replicate 16 0 ++ (1 ∷ 2 ∷ 3 ∷ 4 ∷ 5 ∷ 6 ∷ low ∷ high ∷ [])

-- A tag whose password is all ones, and one whose last page is a1 to a8.
abbrev pub ones_tag : PumpMeaning
ones_tag = tag_in Active false (replicate 24 0) (replicate 8 0xFF ++ replicate 224 0)

abbrev pub last_page : List ℕ
last_page = 0xA1 ∷ 0xA2 ∷ 0xA3 ∷ 0xA4 ∷ 0xA5 ∷ 0xA6 ∷ 0xA7 ∷ 0xA8 ∷ []

abbrev pub full_tag : PumpMeaning
full_tag = tag_in Active true (replicate 24 0) (replicate 224 0 ++ last_page)

-- An open tag whose lock bits 1, 9, 18 and 31 are set, whose counter is 7, and whose last page is a1 to a8; LOCK that names page 0.
abbrev pub locked_pages : List ℕ
locked_pages = 0x11 ∷ 0x22 ∷ 0x33 ∷ 0x44 ∷ 0x02 ∷ 0x02 ∷ 0x04 ∷ 0x80 ∷ replicate 14 0 ++ (7 ∷ 0 ∷ [])

abbrev pub locked_tag : PumpMeaning
locked_tag = tag_in Active true locked_pages (replicate 224 0 ++ last_page)

abbrev pub lock_body : List ℕ
lock_body = 0x20 ∷ 0 ∷ 9 ∷ 9 ∷ 9 ∷ 9 ∷ 1 ∷ 0 ∷ 0 ∷ 0 ∷ []

-- COUNT with signature 01 to 06, and a tag that ATTRIB can select, of serial number 0.
abbrev pub count_body : List ℕ
count_body = 0xE0 ∷ 0 ∷ 1 ∷ 2 ∷ 3 ∷ 4 ∷ 5 ∷ 6 ∷ 7 ∷ 8 ∷ []

abbrev pub declared_tag : PumpMeaning
declared_tag = tag_in Declared false (replicate 24 0) (replicate 232 0)

abbrev pub edges : List Edge
edges =
    -- check bytes
    record { found = check_bytes (0x00 ∷ []); wanted = 0x78 ∷ 0xF0 ∷ [] }
    ∷ record { found = check_bytes (0x05 ∷ 0x00 ∷ 0x00 ∷ []); wanted = 0x71 ∷ 0xFF ∷ [] }
    ∷ record { found = check_bytes (0x05 ∷ 0x00 ∷ 0x08 ∷ []); wanted = 0x39 ∷ 0x73 ∷ [] }
    -- a request with slot code 5 meets silence
    ∷ record { found = reply_to (tag_in Idle false (replicate 24 0) (replicate 232 0)) (0x05 ∷ 0x00 ∷ 0x05 ∷ []); wanted = [] }
    -- COUNT at 0x7FFF is acknowledged and leaves 0x8000
    ∷ record {
      found = reply_to (counting_tag 0xFF 0x7F) count_body ++ pages_after (counting_tag 0xFF 0x7F) count_body;
      wanted = (0xE0 ∷ 0x00 ∷ 0xDE ∷ 0xE6 ∷ []) ++ counting_pages 0x00 0x80;
    }
    -- COUNT at 0x8000 is refused
    ∷ record { found = reply_to (counting_tag 0x00 0x80) count_body; wanted = 0xE0 ∷ 0x21 ∷ 0x55 ∷ 0xD6 ∷ [] }
    -- LOCK naming page 0 only is acknowledged and leaves the memory, lock bits that were set included, as it was
    ∷ record {
      found = reply_to locked_tag lock_body ++ memory_after locked_tag lock_body;
      wanted = (0x20 ∷ 0x00 ∷ 0x74 ∷ 0x2C ∷ []) ++ (locked_pages ++ (replicate 224 0 ++ last_page));
    }
    -- a password of all ones, checked with all ones, is refused
    ∷ record { found = reply_to ones_tag (0x60 ∷ 0 ∷ replicate 8 0xFF); wanted = 0x60 ∷ 0x41 ∷ 0x9F ∷ 0x39 ∷ [] }
    -- READ at address 0xFF while open gives page 31
    ∷ record { found = reply_to full_tag (0x40 ∷ 0xFF ∷ replicate 8 0); wanted = (0x40 ∷ 31 ∷ last_page) ++ (0x8D ∷ 0xE0 ∷ []) }
    -- READ of page 3 while open is refused
    ∷ record { found = reply_to full_tag (0x40 ∷ 3 ∷ replicate 8 0); wanted = 0x40 ∷ 0x21 ∷ 0xAA ∷ 0x79 ∷ [] }
    -- draw number 0xF000 of 16 slots gives slot 16 and next 0xE619
    ∷ record { found = (drawn 0xF000 16).0 ∷ (drawn 0xF000 16).1 ∷ []; wanted = 16 ∷ 0xE619 ∷ [] }
    -- ATTRIB of 16 bytes is heard, of 10 not, of 17 not
    ∷ record { found = reply_to declared_tag (0x1D ∷ replicate 13 0); wanted = 0x00 ∷ 0x78 ∷ 0xF0 ∷ [] }
    ∷ record { found = reply_to declared_tag (0x1D ∷ replicate 7 0); wanted = [] }
    ∷ record { found = reply_to declared_tag (0x1D ∷ replicate 14 0); wanted = [] }
    ∷ []

-- Every row agrees.
abbrev pub EdgesHold : Type 0
EdgesHold = map (λ (e : Edge). e.found) edges ≡ map (λ (e : Edge). e.wanted) edges

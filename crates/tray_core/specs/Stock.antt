-- Taking stock: which tags are there, by requests of sixteen slots.
use Rattle.std.specs.Prelude.{◌≡◌, ℕ, zero, suc, ◌+◌, ◌*◌, ◌≤◌, Bool, true, false, cond, ◌||◌, List, [], ◌∷◌, ◌++◌, map, length, Some, None, Ok, Err, Option, Result}
use Rattle.std.specs.List.{range_with_len}
use Rattle.std.specs.Str.{bytes_eq}
use Rattle.kinds.specs.Says.{Says, Answer, Card, Page, Acknowledged, Refused}
use Rattle.reader.specs.Commands.{Request, SlotMarker, Halt, frame_for}
use Rattle.reader.specs.Judged.{judged}
use Rattle.tray_core.specs.Scripts.{Script, done, send}
use Rattle.tray_core.specs.Sounds.{Sounds, Silence, Reply, Clash}

-- The count so far: frames sent, rounds begun, clashed slots of this round,
-- whether all slots of this round were silent, and the serial numbers listed.
pub record Tally : Type 0 where
  pub frames : ℕ
  pub rounds : ℕ
  pub clashes : ℕ
  pub silent : Bool
  pub serials : List (List ℕ)

abbrev pub nothing : Tally
nothing = record { frames = 0; rounds = 0; clashes = 0; silent = true; serials = [] }

abbrev pub sent : Tally → Tally
sent c = record { frames = c.frames + 1; rounds = c.rounds; clashes = c.clashes; silent = c.silent; serials = c.serials }

abbrev pub next_round : Tally → Tally
next_round c = record { frames = c.frames; rounds = c.rounds + 1; clashes = 0; silent = true; serials = c.serials }

abbrev pub clashed : Tally → Tally
clashed c = record { frames = c.frames; rounds = c.rounds; clashes = c.clashes + 1; silent = false; serials = c.serials }

abbrev pub loud : Tally → Tally
loud c = record { frames = c.frames; rounds = c.rounds; clashes = c.clashes; silent = false; serials = c.serials }

-- A serial number joins the list if it is new there.
abbrev pub lists : List ℕ → List (List ℕ) → Bool
lists serial [] = false
lists serial (x ∷ xs) = bytes_eq serial x || lists serial xs

abbrev pub joins : List ℕ → List (List ℕ) → List (List ℕ)
joins serial serials = cond (lists serial serials) serials (serials ++ (serial ∷ []))

abbrev pub noted : List ℕ → Tally → Tally
noted serial c =
    record { frames = c.frames; rounds = c.rounds; clashes = c.clashes; silent = c.silent; serials = joins serial c.serials }

-- The serial number in a sound answer to a request.
abbrev pub serial_of : Result Says ℕ → Option (List ℕ)
serial_of (Ok (Answer serial application protocol)) = Some serial
serial_of (Ok (Card cid)) = None
serial_of (Ok (Page bytes)) = None
serial_of (Ok Acknowledged) = None
serial_of (Ok (Refused code)) = None
serial_of (Err why) = None

abbrev pub answering : List ℕ → Option (List ℕ)
answering bytes = serial_of (judged (Request false 0x00 16) bytes)

-- A slot heard alone with a sound answer is followed by HLTB for its serial number.
abbrev pub halting : Option (List ℕ) → (Tally → Script Tally) → Tally → Script Tally
halting (Some serial) next c = send (frame_for (Halt serial)) (λ _. next (noted serial (sent c)))
halting None next c = next c

abbrev pub in_slot : Sounds → (Tally → Script Tally) → Tally → Script Tally
in_slot Silence next c = next c
in_slot (Reply bytes) next c = halting (answering bytes) next (loud c)
in_slot (Clash n) next c = next (clashed c)

abbrev pub slot : List ℕ → (Tally → Script Tally) → Tally → Script Tally
slot frame next c = send frame (λ s. in_slot s next (sent c))

abbrev pub slots : List (List ℕ) → (Tally → Script Tally) → Tally → Script Tally
slots [] next c = next c
slots (frame ∷ frames) next c = slot frame (slots frames next) c

-- A round: a request with family code 0x00 for sixteen slots, WUPB in the first round, then the markers 2 to 16.
abbrev pub round_frames : Bool → List (List ℕ)
round_frames wake_up = frame_for (Request wake_up 0x00 16) ∷ map (λ n. frame_for (SlotMarker n)) (range_with_len 2 15)

-- Up to n rounds; a round of sixteen silent slots is the last.
unfoldable pub rounds : ℕ → Bool → Tally → Script Tally
rounds zero wake_up c = done c
rounds (suc n) wake_up c = slots (round_frames wake_up) (λ d. cond d.silent (done d) (rounds n false d)) (next_round c)

unfoldable pub stocktaking : Script Tally
unfolding rounds
stocktaking = rounds 8 true nothing

-- Every serial number stands once in a list.
abbrev pub Once : List (List ℕ) → Type 0
Once [] = Unit {0}
Once (x ∷ xs) = (lists x xs ≡ false) × Once xs

-- What holds of the count of every stock, whatever the reader heard: one to eight rounds, sixteen frames in each and at
-- most one HLTB for each slot, at most sixteen clashed slots, and every serial number listed once, 128 at most.
pub record Fair (c : Tally) : Type 0 where
  pub some_round : 1 ≤ c.rounds
  pub most_rounds : c.rounds ≤ 8
  pub least_frames : 16 * c.rounds ≤ c.frames
  pub most_frames : c.frames ≤ 32 * c.rounds
  pub most_clashes : c.clashes ≤ 16
  pub once : Once c.serials
  pub few : length c.serials ≤ 16 * c.rounds

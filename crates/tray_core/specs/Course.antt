-- What a stock is: the course that it takes, slot by slot, and what comes of it, for every tray of
-- any kinds.
use Rattle.std.specs.Prelude.{◌≡◌, ℕ, suc, ◌+◌, ◌≤◌, ◌⊎◌, Bool, true, false, if◌then◌else◌, List, [], ◌∷◌, ◌++◌, All, map, length, drop, Ok}
use Rattle.typeb.specs.CheckBytes.{sealed}
use Rattle.kinds.specs.Kinds.{Behaviour}
use Rattle.tray_core.specs.declared.calls.Answer.TheVariants as answer
use Rattle.tray_core.specs.Replies.{replies}
use Rattle.tray_core.specs.Runs.{run}
use Rattle.tray_core.specs.Step.{Frame, Outcome}
use Rattle.tray_core.specs.Trays.{Model, after_frame}

-- A slot, by what was heard in it: no reply; two or more; one that is no sound answer to a request;
-- one that is, with its serial number.
pub data Slot : Type 0 where
  Silent : Slot
  Clashed : Slot
  Unsound : Slot
  Answered : List ℕ → Slot

-- A sound answer to a request: 0x50, serial number, application data, protocol info, and the right
-- check bytes.
pub record SoundAnswer (bytes serial : List ℕ) : Type 0 where
  pub application : List ℕ
  pub protocol : List ℕ
  pub is : bytes ≡ sealed (0x50 ∷ serial ++ application ++ protocol)
  pub long : (length serial ≡ 4) × (length application ≡ 4) × (length protocol ≡ 3)

-- The frames of a round, one for each slot: the request for family 0x00 and sixteen slots, WUPB
-- where it wakes and REQB else; then the markers of slots 2 to 16.
abbrev pub slot_frames : Bool → List (List ℕ)
slot_frames wakes =
    map sealed
    ((0x05 ∷ 0x00 ∷ (if wakes then 0x0C else 0x04) ∷ [])
    ∷ map (λ marker. marker ∷ [])
    (0x15 ∷ 0x25 ∷ 0x35 ∷ 0x45 ∷ 0x55 ∷ 0x65 ∷ 0x75 ∷ 0x85 ∷ 0x95 ∷ 0xA5 ∷ 0xB5 ∷ 0xC5 ∷ 0xD5 ∷ 0xE5
    ∷ 0xF5 ∷ []))

-- HLTB for a serial number.
abbrev pub hltb : List ℕ → List ℕ
hltb serial = sealed (0x50 ∷ serial)

abbrev pub AllSilent : List Slot → Type 0
AllSilent round = All (λ slot. slot ≡ Silent) round

module _ {SF HF SB HB : Type 0} (F : Behaviour SF HF) (B : Behaviour SB HB) where
  -- A slot before a tray: its frame is sent; where one reply is heard and it is a sound answer,
  -- HLTB follows for the serial number in it.
  pub data TakesSlot (frame : List ℕ) (t : Model SF HF SB HB)
      : Slot → Model SF HF SB HB → Type 0 where
    silent : replies F B t frame ≡ [] → TakesSlot frame t Silent (after_frame F B frame t)
    clashed : {a b : List ℕ} {more : List (List ℕ)}
        → replies F B t frame ≡ a ∷ (b ∷ more)
        → TakesSlot frame t Clashed (after_frame F B frame t)
    unsound : {a : List ℕ} → replies F B t frame ≡ a ∷ []
        → ((serial : List ℕ) → SoundAnswer a serial → ⊥)
        → TakesSlot frame t Unsound (after_frame F B frame t)
    heard : {a serial : List ℕ} → replies F B t frame ≡ a ∷ [] → SoundAnswer a serial
        → TakesSlot frame t (Answered serial)
        (after_frame F B (hltb serial) (after_frame F B frame t))

  -- Slots one after another, each with its frame.
  pub data TakesSlots
      : List (List ℕ) → Model SF HF SB HB → List Slot → Model SF HF SB HB → Type 0 where
    no_slot : {t : Model SF HF SB HB} → TakesSlots [] t [] t
    slot : {frame : List ℕ} {frames : List (List ℕ)} {t u v : Model SF HF SB HB}
        {one : Slot} {others : List Slot}
        → TakesSlot frame t one u → TakesSlots frames u others v
        → TakesSlots (frame ∷ frames) t (one ∷ others) v

  -- At most so many rounds, of which the first wakes or does not, and no later one does: a round
  -- whose slots are all silent is the last, and so is one after which none is left.
  pub data TakesRounds
      : Bool → ℕ → Model SF HF SB HB → List (List Slot) → Model SF HF SB HB → Type 0 where
    quiet_round : {wakes : Bool} {left : ℕ} {t u : Model SF HF SB HB} {round : List Slot}
        → TakesSlots (slot_frames wakes) t round u → AllSilent round
        → TakesRounds wakes (suc left) t (round ∷ []) u
    last_round : {wakes : Bool} {t u : Model SF HF SB HB} {round : List Slot}
        → TakesSlots (slot_frames wakes) t round u → (AllSilent round → ⊥)
        → TakesRounds wakes 1 t (round ∷ []) u
    round : {wakes : Bool} {left : ℕ} {t u v : Model SF HF SB HB}
        {one : List Slot} {others : List (List Slot)}
        → TakesSlots (slot_frames wakes) t one u → (AllSilent one → ⊥)
        → TakesRounds false (suc left) u others v
        → TakesRounds wakes (suc (suc left)) t (one ∷ others) v

  -- A stock: one to eight rounds, of which the first wakes halted tags.
  abbrev pub TakesStock : Model SF HF SB HB → List (List Slot) → Model SF HF SB HB → Type 0
  TakesStock t rounds u = TakesRounds true 8 t rounds u

-- All frames that were sent, in order.
abbrev pub sent_in : List (List ℕ) → List Slot → List (List ℕ)
sent_in (frame ∷ frames) (Answered serial ∷ slots) = frame ∷ (hltb serial ∷ sent_in frames slots)
sent_in (frame ∷ frames) (Silent ∷ slots) = frame ∷ sent_in frames slots
sent_in (frame ∷ frames) (Clashed ∷ slots) = frame ∷ sent_in frames slots
sent_in (frame ∷ frames) (Unsound ∷ slots) = frame ∷ sent_in frames slots
sent_in [] slots = []
sent_in frames [] = []

abbrev pub sent_from : Bool → List (List Slot) → List (List ℕ)
sent_from wakes [] = []
sent_from wakes (one ∷ rounds) = sent_in (slot_frames wakes) one ++ sent_from false rounds

-- The slots of a round with two replies or more.
abbrev pub clashes_in : List Slot → ℕ
clashes_in [] = 0
clashes_in (Silent ∷ slots) = clashes_in slots
clashes_in (Clashed ∷ slots) = clashes_in slots + 1
clashes_in (Unsound ∷ slots) = clashes_in slots
clashes_in (Answered serial ∷ slots) = clashes_in slots

abbrev pub last_clashes : List (List Slot) → ℕ
last_clashes [] = 0
last_clashes (one ∷ []) = clashes_in one
last_clashes (one ∷ (next ∷ rounds)) = last_clashes (next ∷ rounds)

-- The serial numbers that were heard, in order, each as often as it was heard.
abbrev pub serials_in : List Slot → List (List ℕ)
serials_in [] = []
serials_in (Silent ∷ slots) = serials_in slots
serials_in (Clashed ∷ slots) = serials_in slots
serials_in (Unsound ∷ slots) = serials_in slots
serials_in (Answered serial ∷ slots) = serial ∷ serials_in slots

abbrev pub all_serials : List (List Slot) → List (List ℕ)
all_serials [] = []
all_serials (one ∷ rounds) = serials_in one ++ all_serials rounds

-- A value among those of a list.
abbrev pub Among : List ℕ → List (List ℕ) → Type 0
Among x [] = ⊥
Among x (y ∷ ys) = (x ≡ y) ⊎ Among x ys

-- What is listed of the serial numbers heard: each that was heard and no other, once, in the order
-- of first hearing, that is, behind exactly those that were heard before it was first heard.
pub record Lists (heard entries : List (List ℕ)) : Type 0 where
  pub all : (x : List ℕ) → Among x heard → Among x entries
  pub only : (x : List ℕ) → Among x entries → Among x heard
  pub once : (first second : List (List ℕ)) (x : List ℕ) → entries ≡ first ++ (x ∷ second)
      → (Among x first → ⊥) × (Among x second → ⊥)
  pub order : (first second before after : List (List ℕ)) (x y : List ℕ)
      → entries ≡ first ++ (x ∷ second) → heard ≡ before ++ (x ∷ after) → (Among x before → ⊥)
      → (Among y first → Among y before) × (Among y before → Among y first)

-- What comes of a stock of a tray whose rows fit, with a list of 128 places or more.
module _ {SF HF SB HB : Type 0} (F : Behaviour SF HF) (B : Behaviour SB HB) where
  pub record Stocktakes (t : Model SF HF SB HB) (list : List (List ℕ))
      (o : Outcome (Model SF HF SB HB)) : Type 0 where
    -- The course that it takes, to the tray after it; and no stock of this tray takes another.
    pub rounds : List (List Slot)
    pub takes : TakesStock F B t rounds o.tray
    pub determined : (others : List (List Slot)) (u : Model SF HF SB HB)
        → TakesStock F B t others u → (others ≡ rounds) × (u ≡ o.tray)
    -- The tray after it is the tray after the frames that were sent, put on the air one after
    -- another as calls of Frame.
    pub as_frames : (buffer : List ℕ) (spare : List (List ℕ)) → 16 ≤ length buffer
        → run F B t
        (map (λ frame. record { call = Frame frame; buffer = buffer; list = spare })
        (sent_from true rounds))
        ≡ o.tray
    -- The field is as it was, and so is what is on the tray.
    pub field : o.tray.field ≡ t.field
    pub in_front : map (λ p. p.here) o.tray.front ≡ map (λ p. p.here) t.front
    pub behind : map (λ p. p.here) o.tray.back ≡ map (λ p. p.here) t.back
    -- Serial numbers listed, in front of the list, the one list of what was heard; its other places
    -- are as they were.
    pub entries : List (List ℕ)
    pub lists : Lists (all_serials rounds) entries
    pub only_entries : (es : List (List ℕ)) → Lists (all_serials rounds) es → es ≡ entries
    pub listed : o.list ≡ entries ++ drop (length entries) list
    -- The answer: frames sent, rounds, clashed slots of the last round, places filled.
    pub answers : o.answer
        ≡ Ok
        (answer.Stock (length (sent_from true rounds)) (length rounds) (last_clashes rounds)
        (length entries))

-- One call in the subject's words: laws of `step` for every kind and every tray, in any state, reached or not.
use Rattle.std.specs.Prelude.{◌≡◌, ℕ, ◌+◌, ◌<◌, ◌≤◌, ◌⊎◌, Bool, true, false, cond, not, ◌&&◌, ◌||◌, List, [], ◌∷◌, ◌++◌, length, drop, Ok, Err, ◌==◌, ◌≢◌, slice_get}
use Rattle.std.specs.Option.{option_map}
use Rattle.kinds.specs.Kinds.{Behaviour}
use Rattle.tray_core.specs.declared.calls.Answer.{Answer}
use Rattle.tray_core.specs.declared.calls.Answer.TheVariants as answer
use Rattle.tray_core.specs.Course.{Stocktakes}
use Rattle.tray_core.specs.Replies.{replies}
use Rattle.tray_core.specs.Rows.{Post}
use Rattle.tray_core.specs.Step.{Asks, On, Off, Place, Lift, Frame, Stock, Outcome, step}
use Rattle.tray_core.specs.Trays.{Model}

module _ {S H : Type 0} (b : Behaviour S H) where
  -- What a call makes of one tag, by the tag's number and the field before. A tag that is lifted, or before a field that is off,
  -- hears nothing; one that is there already, or gone already, stays as it is. (Stock is a matter of its frames.)
  abbrev pub befalls : Asks → Bool → ℕ → Post S H → Post S H
  befalls On field n p = record { here = p.here; tag = cond (p.here && not field) (b.gains p.tag) p.tag }
  befalls Off field n p = record { here = p.here; tag = cond (p.here && field) (b.loses p.tag) p.tag }
  befalls (Place m) field n p = record { here = p.here || m == n; tag = cond (m == n && (field && not p.here)) (b.gains p.tag) p.tag }
  befalls (Lift m) field n p = record { here = p.here && not (m == n); tag = cond (m == n && (field && p.here)) (b.loses p.tag) p.tag }
  befalls (Frame frame) field n p = record { here = p.here; tag = cond (p.here && field) (b.hears frame p.tag).after p.tag }
  befalls Stock field n p = p

-- The field after a call.
abbrev pub lit_by : Asks → Bool → Bool
lit_by On field = true
lit_by Off field = false
lit_by (Place n) field = field
lit_by (Lift n) field = field
lit_by (Frame frame) field = field
lit_by Stock field = field

module _ {SF HF SB HB : Type 0} (F : Behaviour SF HF) (B : Behaviour SB HB) (t : Model SF HF SB HB) (buffer : List ℕ) (list : List (List ℕ)) where
  abbrev pub comes : Asks → Outcome (Model SF HF SB HB)
  comes c = step F B c t buffer list

  -- Rows of 32 or fewer. Front tags are numbered from 0, back tags from 32.
  abbrev pub Fit : Type 0
  Fit = (length t.front ≤ 32) × (length t.back ≤ 32)

  abbrev pub Named : ℕ → Type 0
  Named n = (n < length t.front) ⊎ ((32 ≤ n) × (n < 32 + length t.back))

  pub record Steps : Type 0 where
    -- A refused call changes nothing.
    pub refused : (c : Asks) (why : ℕ) → (comes c).answer ≡ Err why → comes c ≡ record { answer = Err why; tray = t; buffer = buffer; list = list }
    -- The questions in their order: rows that do not fit refuse every call;
    pub rows : (c : Asks) → (Fit → ⊥) → (comes c).answer ≡ Err 4
    -- where they fit, Place and Lift are refused by a number that names no tag, and done by any other, as On and Off are;
    -- Frame is refused by a buffer of fewer than 16 bytes, Stock by a list of fewer than 128 places.
    pub unnamed : Fit → (n : ℕ) → (Named n → ⊥) → ((comes (Place n)).answer ≡ Err 5) × ((comes (Lift n)).answer ≡ Err 5)
    pub named : Fit → (n : ℕ) → Named n → ((comes (Place n)).answer ≡ Ok answer.Done) × ((comes (Lift n)).answer ≡ Ok answer.Done)
    pub lit : Fit → ((comes On).answer ≡ Ok answer.Done) × ((comes Off).answer ≡ Ok answer.Done)
    pub short_buffer : Fit → (frame : List ℕ) → length buffer < 16 → (comes (Frame frame)).answer ≡ Err 6
    pub short_list : Fit → length list < 128 → (comes Stock).answer ≡ Err 7
    -- Frame: silence, one reply in front of the buffer, or a clash, by the replies of the tags that have power.
    pub silence : Fit → 16 ≤ length buffer → (frame : List ℕ) → replies F B t frame ≡ [] → ((comes (Frame frame)).answer ≡ Ok answer.Silent) × ((comes (Frame frame)).buffer ≡ buffer)
    pub reply : Fit → 16 ≤ length buffer → (frame a : List ℕ) → replies F B t frame ≡ a ∷ [] → ((comes (Frame frame)).answer ≡ Ok (answer.Reply (length a))) × ((comes (Frame frame)).buffer ≡ a ++ drop (length a) buffer)
    pub clash : Fit → 16 ≤ length buffer → (frame a b : List ℕ) (more : List (List ℕ)) → replies F B t frame ≡ a ∷ (b ∷ more) → ((comes (Frame frame)).answer ≡ Ok (answer.Clash (length more + 2))) × ((comes (Frame frame)).buffer ≡ buffer)
    -- What a call makes of the field and of every tag.
    pub field : (c : Asks) (a : Answer) → (c ≢ Stock) → (comes c).answer ≡ Ok a → (comes c).tray.field ≡ lit_by c t.field
    pub front : (c : Asks) (a : Answer) → (c ≢ Stock) → (comes c).answer ≡ Ok a → (n : ℕ) → slice_get (comes c).tray.front n ≡ option_map (befalls F c t.field n) (slice_get t.front n)
    pub back : (c : Asks) (a : Answer) → (c ≢ Stock) → (comes c).answer ≡ Ok a → (n : ℕ) → slice_get (comes c).tray.back n ≡ option_map (befalls B c t.field (32 + n)) (slice_get t.back n)
    -- Only Frame writes into the buffer, and only Stock into the list.
    pub buffer_kept : (c : Asks) → ((frame : List ℕ) → c ≢ Frame frame) → (comes c).buffer ≡ buffer
    pub list_kept : (c : Asks) → (c ≢ Stock) → (comes c).list ≡ list
    -- What a stock sends, answers, lists and leaves.
    pub stock : Fit → 128 ≤ length list → Stocktakes F B t list (comes Stock)

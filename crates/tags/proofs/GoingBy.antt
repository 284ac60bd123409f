-- What a tag goes by: two frames that agree on it are one to every kind.
use Rattle.std.proofs.Common.{◌≡◌, ℕ, ◌+◌, ◌*◌, ◌%◌, Bool, true, false, cond, ◌&&◌, ltb, List, [], ◌∷◌, Some, None, Option, sym, refl, ap, ◌∙◌, arith}
use Rattle.std.specs.Str.{bytes_eq}
use Rattle.std.proofs.lemmas.Bool.{le-leb, lt-leb}
use Rattle.typeb.specs.declared.frames.Op.{Op}
use Rattle.typeb.specs.declared.frames.Op.TheVariants.{Read, Write, Lock, CheckPassword, Deselect, Count}
use Rattle.typeb.specs.declared.frames.Slots.{Slots}
use Rattle.typeb.specs.CheckBytes.{sealed}
use Rattle.typeb.specs.Hears.{Heard, Request, Attrib, Command, slot_count, head_of}
use Rattle.kinds.specs.Kinds.{Meaning, Hears}
use Rattle.kinds.specs.Says.{Says, Card, Acknowledged, Refused, reply_bytes, said_body}
use Rattle.kinds.specs.Reacts.{Reaction, unmoved, replies, answered}
use Rattle.tags.specs.declared.link.Link.{Link}
use Rattle.tags.specs.declared.link.State.TheVariants.{Active}
use Rattle.tags.specs.Common.{Shown, by_link, with_opened, reacts_by}
use Rattle.tags.specs.Links.{LinkHears, is_declared, listens, requested, moved, dismissed, answers_to}
use Rattle.tags.specs.Links as links
use Rattle.tags.specs.Pages.{serial_in, unlocked, counter_in}
use Rattle.tags.specs.Gauge.{gauge_obeys}
use Rattle.tags.specs.Pump.{PumpMeaning, pump_obeys, page_of, asks, passes}
use Rattle.tags.specs.GoesBy.{GoesBy, Agree, SameRequest, OtherRequest, SameMarker, SameAttrib, SameHalt, SameRead, SameWrite, SameLock, SameCheck, SameDeselect, SameCount}
use Rattle.tags.proofs.LinkLawful.{answer}

-- what is said is no page, so its bytes do not name one
abbrev Unpaged : Option Says → Type 0
Unpaged says =
    (op : Op) (cid j k : ℕ) (bytes others : List ℕ)
    → reply_bytes (Command op cid j bytes) says ≡ reply_bytes (Command op cid k others) says

-- a page is named by its address modulo 32
same_page : (op : Op) (cid j k : ℕ) (bytes others : List ℕ) (says : Option Says) → j % 32 ≡ k % 32
    → reply_bytes (Command op cid j bytes) says ≡ reply_bytes (Command op cid k others) says
same_page op cid j k bytes others (Some says) same = ap (λ (page : ℕ). sealed (said_body (head_of op cid ∷ []) page says)) same
same_page op cid j k bytes others None same = refl

-- the bytes of what the link says
requests_reply : (family other : ℕ) (wake_up awake : Bool) (slots more : Slots) (says : Option Says)
    → reply_bytes (Request family wake_up slots) says ≡ reply_bytes (Request other awake more) says
requests_reply family other wake_up awake slots more (Some says) = refl
requests_reply family other wake_up awake slots more None = refl

attribs_reply : (serial params others inf more : List ℕ) (says : Option Says)
    → reply_bytes (Attrib serial params inf) says ≡ reply_bytes (Attrib serial others more) says
attribs_reply serial params others inf more (Some says) = refl
attribs_reply serial params others inf more None = refl

-- equal reactions to frames that bring the same bytes
module _ {H : Type 0} where
  abbrev heard_as : Heard → Reaction (Meaning Shown H) → Hears Shown H
  heard_as frame r = record { after = r.after; reply = reply_bytes frame r.says; accepted = r.accepted }

  alike : (a b : Heard) (r q : Reaction (Meaning Shown H)) → r ≡ q → reply_bytes a r.says ≡ reply_bytes b r.says → heard_as a r ≡ heard_as b q
  alike a b r q same bytes =
      ap (λ (reply : List ℕ). let h : Hears Shown H = record { after = r.after; reply = reply; accepted = r.accepted } in h) bytes
      ∙ ap (heard_as b) same

  -- what a kind does not go by in the data commands
  pub record Obeying (obeys : Op → ℕ → List ℕ → Meaning Shown H → Reaction (Meaning Shown H)) : Type 0 where
    pub read : (page : ℕ) (bytes others : List ℕ) (m : Meaning Shown H) → obeys Read page bytes m ≡ obeys Read page others m
    pub lock : (j k a b c d e f g h : ℕ) (locks : List ℕ) (m : Meaning Shown H)
        → obeys Lock j (a ∷ b ∷ c ∷ d ∷ locks) m ≡ obeys Lock k (e ∷ f ∷ g ∷ h ∷ locks) m
    pub check : (j k : ℕ) (bytes : List ℕ) (m : Meaning Shown H) → obeys CheckPassword j bytes m ≡ obeys CheckPassword k bytes m
    pub deselect : (j k : ℕ) (bytes others : List ℕ) (m : Meaning Shown H) → obeys Deselect j bytes m ≡ obeys Deselect k others m
    pub count : (j k a b c d e f : ℕ) (rest others : List ℕ) (m : Meaning Shown H)
        → obeys Count j (a ∷ b ∷ c ∷ d ∷ e ∷ f ∷ rest) m ≡ obeys Count k (a ∷ b ∷ c ∷ d ∷ e ∷ f ∷ others) m
    pub lock_says : (page : ℕ) (bytes : List ℕ) (m : Meaning Shown H) → Unpaged (obeys Lock page bytes m).says
    pub check_says : (page : ℕ) (bytes : List ℕ) (m : Meaning Shown H) → Unpaged (obeys CheckPassword page bytes m).says
    pub deselect_says : (page : ℕ) (bytes : List ℕ) (m : Meaning Shown H) → Unpaged (obeys Deselect page bytes m).says
    pub count_says : (page : ℕ) (bytes : List ℕ) (m : Meaning Shown H) → Unpaged (obeys Count page bytes m).says

  if_mine : (mine : Bool) (m : Meaning Shown H) (r : Reaction (Meaning Shown H)) → Unpaged r.says → Unpaged (cond mine r (unmoved m)).says
  if_mine true m r unpaged = unpaged
  if_mine false m r unpaged = λ op cid j k bytes others. refl

  module _ (obeys : Op → ℕ → List ℕ → Meaning Shown H → Reaction (Meaning Shown H)) (by : Obeying obeys) (m : Meaning Shown H) where
    -- a request, by whether its family is 0 or 1
    abbrev asked : Bool → Bool → Slots → Reaction (Meaning Shown H)
    asked own wake_up slots =
        let link : Link = m.shown.link in
        by_link (cond (listens link.state wake_up) (cond own (requested (answer m) (slot_count slots) link) (moved link (dismissed link.state) None)) (links.unmoved link)) m

    -- a data command: obeyed alike, and answered in the same bytes
    mine : (cid : ℕ) (r q : Reaction (Meaning Shown H)) → r ≡ q → cond (answers_to cid m.shown.link) r (unmoved m) ≡ cond (answers_to cid m.shown.link) q (unmoved m)
    mine cid r q same = ap (λ (o : Reaction (Meaning Shown H)). cond (answers_to cid m.shown.link) o (unmoved m)) same

    unpaged : (op : Op) (cid j k : ℕ) (bytes others : List ℕ) → Unpaged (obeys op (j % 32) bytes m).says → obeys op (j % 32) bytes m ≡ obeys op (k % 32) others m
        → answered (reacts_by obeys) m (Some (Command op cid j bytes)) ≡ answered (reacts_by obeys) m (Some (Command op cid k others))
    unpaged op cid j k bytes others says same =
        alike (Command op cid j bytes) (Command op cid k others) _ _ (mine cid _ _ same)
        (if_mine (answers_to cid m.shown.link) m _ says op cid j k bytes others)

    paged : (op : Op) (cid j k : ℕ) (bytes others : List ℕ) → j % 32 ≡ k % 32 → obeys op (j % 32) bytes m ≡ obeys op (k % 32) others m
        → answered (reacts_by obeys) m (Some (Command op cid j bytes)) ≡ answered (reacts_by obeys) m (Some (Command op cid k others))
    paged op cid j k bytes others page same =
        alike (Command op cid j bytes) (Command op cid k others) _ _ (mine cid _ _ same) (same_page op cid j k bytes others _ page)

    agreed : {a b : Heard} → Agree a b → answered (reacts_by obeys) m (Some a) ≡ answered (reacts_by obeys) m (Some b)
    agreed (SameRequest family other wake_up slots below under) =
        alike (Request family wake_up slots) (Request other wake_up slots) _ _
        (ap (λ (own : Bool). asked own wake_up slots) (le-leb family 1 (omega arith) ∙ sym (le-leb other 1 (omega arith))))
        (requests_reply family other wake_up wake_up slots slots _)
    agreed (OtherRequest family other wake_up slots more above over) =
        alike (Request family wake_up slots) (Request other wake_up more) _ _
        (ap (λ (own : Bool). asked own wake_up slots) (lt-leb family 1 (omega arith))
        ∙ sym (ap (λ (own : Bool). asked own wake_up more) (lt-leb other 1 (omega arith))))
        (requests_reply family other wake_up wake_up slots more _)
    agreed (SameMarker slot) = refl
    agreed (SameAttrib serial p q r s t u high higher card inf others small) =
        let low : (16 * high + card) % 16 ≡ (16 * higher + card) % 16 = omega arith in
        let selects : ℕ → Reaction (Meaning Shown H) =
        λ (c : ℕ). by_link (cond (is_declared m.shown.link.state && bytes_eq serial (serial_in m.shown.pages)) (record { after = record { state = Active; cid = c; draw = m.shown.link.draw }; says = Some (Card c) }) (links.unmoved m.shown.link)) m in
        let first : List ℕ = p ∷ q ∷ r ∷ (16 * high + card) ∷ [] in
        let second : List ℕ = s ∷ t ∷ u ∷ (16 * higher + card) ∷ [] in
        alike (Attrib serial first inf) (Attrib serial second others) _ _ (ap selects low) (attribs_reply serial first second inf others _)
    agreed (SameHalt serial) = refl
    agreed (SameRead cid j k page bytes others below) =
        let here : (32 * j + page) % 32 ≡ (32 * k + page) % 32 = omega arith in
        paged Read cid _ _ bytes others here (ap (λ (n : ℕ). obeys Read n bytes m) here ∙ by.read _ bytes others m)
    agreed (SameWrite cid j k page bytes below) =
        let here : (32 * j + page) % 32 ≡ (32 * k + page) % 32 = omega arith in
        paged Write cid _ _ bytes bytes here (ap (λ (n : ℕ). obeys Write n bytes m) here)
    agreed (SameLock cid j k a b c d e f g h locks) =
        unpaged Lock cid j k _ _ (by.lock_says _ _ m) (by.lock _ _ a b c d e f g h locks m)
    agreed (SameCheck cid j k bytes) = unpaged CheckPassword cid j k bytes bytes (by.check_says _ _ m) (by.check _ _ bytes m)
    agreed (SameDeselect cid j k bytes others) = unpaged Deselect cid j k bytes others (by.deselect_says _ _ m) (by.deselect _ _ bytes others m)
    agreed (SameCount cid j k a b c d e f rest others) =
        unpaged Count cid j k _ _ (by.count_says _ _ m) (by.count _ _ a b c d e f rest others m)

  goes_by : (obeys : Op → ℕ → List ℕ → Meaning Shown H → Reaction (Meaning Shown H)) → Obeying obeys → GoesBy obeys
  goes_by obeys by f g a b m first second agree =
      ap (answered (reacts_by obeys) m) first ∙ agreed obeys by m agree ∙ sym (ap (answered (reacts_by obeys) m) second)

-- a pump tag
asks_unpaged : (test : Bool) (code : ℕ) (m : PumpMeaning) (go : Reaction PumpMeaning) → Unpaged go.says → Unpaged (asks test code m go).says
asks_unpaged true code m go unpaged = unpaged
asks_unpaged false code m go unpaged = λ op cid j k bytes others. refl

check_unpaged : (test : Bool) (m : PumpMeaning)
    → Unpaged (cond test (record { after = with_opened true m; says = Some Acknowledged; accepted = true }) (replies (with_opened false m) (Refused 0x41))).says
check_unpaged true m = λ op cid j k bytes others. refl
check_unpaged false m = λ op cid j k bytes others. refl

pub pump_goes_by : GoesBy pump_obeys
pump_goes_by =
    goes_by pump_obeys
    (record {
      read = λ page bytes others m. refl;
      lock = λ j k a b c d e f g h locks m. refl;
      check = λ j k bytes m. refl;
      deselect = λ j k bytes others m. refl;
      count = λ j k a b c d e f rest others m. refl;
      lock_says = λ page given m. asks_unpaged m.opened 0x41 m _ (λ op cid j k bytes others. refl);
      check_says = λ page bytes m. check_unpaged (passes bytes m) m;
      deselect_says = λ page given m op cid j k bytes others. refl;
      count_says = λ page given m. asks_unpaged m.opened 0x41 m _
          (asks_unpaged (unlocked 2 (page_of 0 m)) 0x11 m _
          (asks_unpaged (ltb (counter_in (page_of 2 m)) 0x8000) 0x21 m _ (λ op cid j k bytes others. refl)));
    })

-- a gauge
pub gauge_goes_by : GoesBy gauge_obeys
gauge_goes_by =
    goes_by gauge_obeys
    (record {
      read = λ page bytes others m. refl;
      lock = λ j k a b c d e f g h locks m. refl;
      check = λ j k bytes m. refl;
      deselect = λ j k bytes others m. refl;
      count = λ j k a b c d e f rest others m. refl;
      lock_says = λ page given m op cid j k bytes others. refl;
      check_says = λ page given m op cid j k bytes others. refl;
      deselect_says = λ page given m op cid j k bytes others. refl;
      count_says = λ page given m op cid j k bytes others. refl;
    })

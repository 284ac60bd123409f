-- Every kind keeps the laws of the link, however it obeys data commands.
use Rattle.std.proofs.Common.{◌≡◌, ℕ, ◌+◌, ◌*◌, ◌/◌, ◌%◌, ◌<◌, ◌≤◌, Bool, true, false, cond, not, ◌&&◌, eqb, leb, List, [], ◌∷◌, ◌++◌, length, take, drop, Some, None, sym, refl, ap, ◌∙◌, ⊎_elim, append_assoc, arith}
use Rattle.std.specs.Str.{bytes_eq}
use Rattle.std.proofs.Math.Bool.{and-false}
use Rattle.std.proofs.lemmas.List.{take_at, drop_at, length-append}
use Rattle.std.proofs.lemmas.Bool.{cond-true, cond-false, cases_Bool, ne_eqb, eq-eqb, le-leb, lt-leb}
use Rattle.std.proofs.lemmas.Slice.Eq.{bytes_eq-Decides}
use Rattle.typeb.specs.declared.frames.Op.{Op}
use Rattle.typeb.specs.declared.frames.Slots.{Slots}
use Rattle.typeb.specs.declared.frames.Slots.TheVariants.{One, Two, Four, Eight, Sixteen}
use Rattle.typeb.specs.Hears.{Request, SlotMarker, Attrib, Halt, Command, slot_count}
use Rattle.tags.specs.declared.link.Link.{Link}
use Rattle.tags.specs.declared.link.State.{State}
use Rattle.tags.specs.declared.link.State.TheVariants.{Idle, Requested, Declared, Halted, Active}
use Rattle.kinds.specs.Kinds.{Meaning}
use Rattle.kinds.specs.Says.{Says, Answer, Card, Acknowledged, protocol_info}
use Rattle.kinds.specs.Reacts.{Reaction, unmoved, replies, answered}
use Rattle.tags.specs.Common.{Shown, by_link, reacts_by, acts_by}
use Rattle.tags.specs.Links.{LinkHears, drawn, hears_marker, requested, moved, dismissed, listens, powered, is_declared, is_active, answers_to}
use Rattle.tags.specs.Links as links
use Rattle.tags.specs.Pages.{serial_in, application_in}
use Rattle.tags.proofs.Aired.{said_bytes}
use Rattle.tags.proofs.LinkStates.{listens_is, declared_is, active_is, other_waits, not_its_slot, dismissed_idle, stays_on}
use Rattle.tags.specs.LinkLaws.{LinkLaws, Deafness, Requests, Markers, Selection, Power, DrawsSlot, Draws, OwnBytes, atqb_of, passes_by, not_declared, in_state, selected, silently, drawn_to}

-- what a tag names itself by stands at the front of its pages
serial_is : (pages : List ℕ) (own : OwnBytes pages) → serial_in pages ≡ own.serial
serial_is pages own = ap (take 4) own.in_order ∙ take_at own.serial _ 4 own.serial_four

application_is : (pages : List ℕ) (own : OwnBytes pages) → application_in pages ≡ own.application
application_is pages own =
    let front : length (own.serial ++ own.locks) ≡ 8 = simp length-append (omega arith) in
    let whole : pages ≡ (own.serial ++ own.locks) ++ (own.application ++ own.rest) =
    own.in_order ∙ sym (append_assoc own.serial own.locks (own.application ++ own.rest)) in
    ap (λ (p : List ℕ). take 4 (drop 8 p)) whole
    ∙ ap (take 4) (drop_at (own.serial ++ own.locks) (own.application ++ own.rest) 8 front)
    ∙ take_at own.application own.rest 4 own.application_four

answer_is : (pages : List ℕ) (own : OwnBytes pages) → Answer (serial_in pages) (application_in pages) protocol_info ≡ atqb_of own
answer_is pages own =
    ap (λ (s : List ℕ). Answer s (application_in pages) protocol_info) (serial_is pages own)
    ∙ ap (λ (a : List ℕ). Answer own.serial a protocol_info) (application_is pages own)

-- two lists that differ are not equal byte by byte
differ : (xs ys : List ℕ) → (xs ≡ ys → ⊥) → bytes_eq xs ys ≡ false
differ xs ys apart =
    ⊎_elim
    (λ (t : bytes_eq xs ys ≡ true). absurd (apart ((bytes_eq-Decides xs ys).0 t)))
    (λ (t : bytes_eq xs ys ≡ false). t)
    (cases_Bool (bytes_eq xs ys))

-- the slot and the next draw number that are drawn
draws : (n draw : ℕ) → 0 < n → Draws n draw (drawn draw n).0 (drawn draw n).1
draws n draw some =
    record {
      top = draw / 4096;
      low = draw % 4096;
      twelve_bits = omega arith;
      parts = omega arith;
      rounds = draw / 4096 / n;
      from_one = omega arith;
      to_last = omega arith;
      counted = omega arith;
      carry = (draw * 25173 + 13849) / 65536;
      sixteen_bits = omega arith;
      follows = omega arith;
    }

pub draws_of : (slots : Slots) (draw : ℕ) → Draws (slot_count slots) draw (drawn draw (slot_count slots)).0 (drawn draw (slot_count slots)).1
draws_of One draw = draws 1 draw (omega arith)
draws_of Two draw = draws 2 draw (omega arith)
draws_of Four draw = draws 4 draw (omega arith)
draws_of Eight draw = draws 8 draw (omega arith)
draws_of Sixteen draw = draws 16 draw (omega arith)

same_twice : {A : Type 0} (b : Bool) (x : A) → cond b x x ≡ x
same_twice true x = refl
same_twice false x = refl

module _ {H : Type 0} (m : Meaning Shown H) where
  abbrev link : Link
  link = m.shown.link

  abbrev pub answer : Says
  answer = Answer (serial_in m.shown.pages) (application_in m.shown.pages) protocol_info

  linked : (h g : LinkHears) → h ≡ g → by_link h m ≡ by_link g m
  linked h g same = ap (λ (l : LinkHears). by_link l m) same

  own_answer : (n : Meaning Shown H) (own : OwnBytes m.shown.pages) → replies n answer ≡ replies n (atqb_of own)
  own_answer n own = ap (replies n) (answer_is m.shown.pages own)

  -- a slot of several is drawn by an idle tag
  draws_slot : (n : ℕ) → 0 < n → eqb n 1 ≡ false
      → DrawsSlot n m (by_link (requested answer n (in_state Idle m).shown.link) (in_state Idle m))
  draws_slot n some several =
      let slot : ℕ = (drawn link.draw n).0 in
      let next : ℕ = (drawn link.draw n).1 in
      let by : Bool → LinkHears =
      λ (b : Bool). record { after = record { state = cond b Declared (Requested slot); cid = link.cid; draw = next }; says = cond b (Some answer) None } in
      let is : by_link (requested answer n (in_state Idle m).shown.link) (in_state Idle m) ≡ by_link (by (eqb slot 1)) m =
      ap (λ (l : LinkHears). by_link l m) (cond-false (eqb n 1) _ _ several) in
      record {
        slot = slot;
        next = next;
        draws = draws n link.draw some;
        first = λ e own. is ∙ ap (λ (b : Bool). by_link (by b) m) (eq-eqb slot 1 e) ∙ own_answer (drawn_to Declared next m) own;
        waits = λ e. is ∙ ap (λ (b : Bool). by_link (by b) m) (ne_eqb slot 1 e);
      }

module _ {H : Type 0} (obeys : Op → ℕ → List ℕ → Meaning Shown H → Reaction (Meaning Shown H)) where
  -- ATTRIB and HLTB, of whatever serial number, where the tag is not declared
  undeclared : (named : List ℕ) (m : Meaning Shown H) → not_declared m.shown.link.state ≡ true
      → (is_declared m.shown.link.state && bytes_eq named (serial_in m.shown.pages)) ≡ false
  undeclared named m h =
      ap (λ (b : Bool). b && bytes_eq named (serial_in m.shown.pages)) (declared_is m.shown.link.state ∙ ap not h)

  deafness : Deafness obeys
  deafness (Request family wake_up slots) m h =
      linked m _ (links.unmoved m.shown.link)
      (cond-false (listens m.shown.link.state wake_up) _ _ (listens_is family wake_up slots m.shown.link.state ∙ ap not h))
  deafness (SlotMarker slot) m h =
      linked m _ (links.unmoved m.shown.link)
      (not_its_slot (answer m) slot m.shown.link m.shown.link.state (other_waits slot m.shown.link.state h))
  deafness (Attrib serial params inf) m h = linked m _ (links.unmoved m.shown.link) (cond-false _ _ _ (undeclared serial m h))
  deafness (Halt serial) m h = linked m _ (links.unmoved m.shown.link) (cond-false _ _ _ (undeclared serial m h))
  deafness (Command op cid address bytes) m h =
      cond-false (answers_to cid m.shown.link) _ _
      (ap (λ (b : Bool). b && eqb cid m.shown.link.cid) (active_is op cid address bytes m.shown.link.state ∙ ap not h))

  -- a request that is heard, of this family and of another
  heard_request : (family : ℕ) (wake_up : Bool) (slots : Slots) (m : Meaning Shown H)
      → passes_by (Request family wake_up slots) m.shown.link.state ≡ false
      → reacts_by obeys (Request family wake_up slots) m
      ≡ by_link (cond (leb family 1) (requested (answer m) (slot_count slots) m.shown.link) (moved m.shown.link (dismissed m.shown.link.state) None)) m
  heard_request family wake_up slots m h =
      linked m _ _ (cond-true (listens m.shown.link.state wake_up) _ _ (listens_is family wake_up slots m.shown.link.state ∙ ap not h))

  as_in_idle : (family : ℕ) (wake_up : Bool) (slots : Slots) (m : Meaning Shown H)
      → family < 2 → passes_by (Request family wake_up slots) m.shown.link.state ≡ false
      → reacts_by obeys (Request family wake_up slots) m ≡ reacts_by obeys (Request 0 false slots) (in_state Idle m)
  as_in_idle family wake_up slots m below h =
      heard_request family wake_up slots m h
      ∙ linked m _ (requested (answer m) (slot_count slots) m.shown.link) (cond-true (leb family 1) _ _ (le-leb family 1 (omega arith)))

  more_slots : (slots : Slots) (m : Meaning Shown H) → (slots ≡ One → ⊥)
      → DrawsSlot (slot_count slots) m (reacts_by obeys (Request 0 false slots) (in_state Idle m))
  more_slots One m h = absurd (h refl)
  more_slots Two m h = draws_slot m 2 (omega arith) refl
  more_slots Four m h = draws_slot m 4 (omega arith) refl
  more_slots Eight m h = draws_slot m 8 (omega arith) refl
  more_slots Sixteen m h = draws_slot m 16 (omega arith) refl

  other_family : (family : ℕ) (wake_up : Bool) (slots : Slots) (m : Meaning Shown H)
      → 2 ≤ family → passes_by (Request family wake_up slots) m.shown.link.state ≡ false → (m.shown.link.state ≡ Halted → ⊥)
      → reacts_by obeys (Request family wake_up slots) m ≡ silently (in_state Idle m)
  other_family family wake_up slots m above h apart =
      heard_request family wake_up slots m h
      ∙ linked m _ _ (cond-false (leb family 1) _ _ (lt-leb family 1 (omega arith)))
      ∙ ap (λ (s : State). silently (in_state s m)) (dismissed_idle m.shown.link.state apart)

  other_family_halted : (family : ℕ) (wake_up : Bool) (slots : Slots) (m : Meaning Shown H)
      → 2 ≤ family → m.shown.link.state ≡ Halted → reacts_by obeys (Request family wake_up slots) m ≡ unmoved m
  other_family_halted family wake_up slots m above halted =
      let link : Link = m.shown.link in
      let kept : dismissed link.state ≡ link.state = ap dismissed halted ∙ sym halted in
      let inner : cond (leb family 1) (requested (answer m) (slot_count slots) link) (moved link (dismissed link.state) None) ≡ links.unmoved link =
      cond-false (leb family 1) _ _ (lt-leb family 1 (omega arith)) ∙ ap (λ (s : State). moved link s None) kept in
      linked m _ _ (ap (λ (i : LinkHears). cond (listens link.state wake_up) i (links.unmoved link)) inner ∙ same_twice (listens link.state wake_up) (links.unmoved link))

  requests : Requests obeys
  requests =
      record {
        as_in_idle = as_in_idle;
        one_slot = λ m own. own_answer m (in_state Declared m) own;
        more_slots = more_slots;
        other_family = other_family;
        other_family_halted = other_family_halted;
      }

  own_slot : (slot : ℕ) (m : Meaning Shown H) (own : OwnBytes m.shown.pages) → m.shown.link.state ≡ Requested slot
      → reacts_by obeys (SlotMarker slot) m ≡ replies (in_state Declared m) (atqb_of own)
  own_slot slot m own waits =
      linked m _ _ (ap (hears_marker (answer m) slot m.shown.link) waits ∙ cond-true (eqb slot slot) _ _ (eq-eqb slot slot refl))
      ∙ own_answer m (in_state Declared m) own

  markers : Markers obeys
  markers =
      record {
        own_slot = own_slot;
        other_slot = λ slot m other. linked m _ (links.unmoved m.shown.link) (not_its_slot (answer m) slot m.shown.link m.shown.link.state other);
      }

  -- ATTRIB and HLTB are for a declared tag with the serial number that they name
  is_for : (m : Meaning Shown H) (own : OwnBytes m.shown.pages) → m.shown.link.state ≡ Declared
      → (is_declared m.shown.link.state && bytes_eq own.serial (serial_in m.shown.pages)) ≡ true
  is_for m own declared =
      ap (λ (s : State). is_declared s && bytes_eq own.serial (serial_in m.shown.pages)) declared
      ∙ (bytes_eq-Decides own.serial (serial_in m.shown.pages)).1 (sym (serial_is m.shown.pages own))

  not_for : (named : List ℕ) (m : Meaning Shown H) (own : OwnBytes m.shown.pages) → (named ≡ own.serial → ⊥)
      → (is_declared m.shown.link.state && bytes_eq named (serial_in m.shown.pages)) ≡ false
  not_for named m own apart =
      ap (λ (b : Bool). is_declared m.shown.link.state && b) (differ named (serial_in m.shown.pages) (λ e. apart (e ∙ serial_is m.shown.pages own)))
      ∙ and-false (is_declared m.shown.link.state)

  selects : (p q r high card : ℕ) (inf : List ℕ) (m : Meaning Shown H) (own : OwnBytes m.shown.pages)
      → m.shown.link.state ≡ Declared → card < 16
      → reacts_by obeys (Attrib own.serial (p ∷ q ∷ r ∷ (16 * high + card) ∷ []) inf) m ≡ replies (selected card m) (Card card)
  selects p q r high card inf m own declared small =
      let low : (16 * high + card) % 16 ≡ card = omega arith in
      linked m _ _ (cond-true _ _ _ (is_for m own declared))
      ∙ ap (λ (c : ℕ). replies (selected c m) (Card c)) low

  selection : Selection obeys
  selection =
      record {
        attrib = selects;
        hltb = λ m own declared. linked m _ (moved m.shown.link Halted (Some Acknowledged)) (cond-true _ _ _ (is_for m own declared));
        other_attrib = λ named params inf m own apart. linked m _ (links.unmoved m.shown.link) (cond-false _ _ _ (not_for named m own apart));
        other_hltb = λ named m own apart. linked m _ (links.unmoved m.shown.link) (cond-false _ _ _ (not_for named m own apart));
      }

  own_card : (op : Op) (turns page : ℕ) (bytes : List ℕ) (m : Meaning Shown H) → m.shown.link.state ≡ Active → page < 32
      → reacts_by obeys (Command op m.shown.link.cid (32 * turns + page) bytes) m ≡ obeys op page bytes m
  own_card op turns page bytes m active below =
      let cid : ℕ = m.shown.link.cid in
      let is : answers_to cid m.shown.link ≡ true = ap (λ (s : State). is_active s && eqb cid cid) active ∙ eq-eqb cid cid refl in
      let named : (32 * turns + page) % 32 ≡ page = omega arith in
      cond-true (answers_to cid m.shown.link) _ _ is ∙ ap (λ (n : ℕ). obeys op n bytes m) named

  other_card : (op : Op) (cid address : ℕ) (bytes : List ℕ) (m : Meaning Shown H) → (cid ≡ m.shown.link.cid → ⊥)
      → reacts_by obeys (Command op cid address bytes) m ≡ unmoved m
  other_card op cid address bytes m apart =
      cond-false (answers_to cid m.shown.link) _ _
      (ap (λ (b : Bool). is_active m.shown.link.state && b) (ne_eqb cid m.shown.link.cid apart) ∙ and-false (is_active m.shown.link.state))

  power : (m : Meaning Shown H) → Power (acts_by obeys) m
  power m =
      record {
        off = refl;
        closed = refl;
        stays_off = record { pages = refl; hidden = refl; card = refl; draw = refl };
        idle = λ e. ap powered e;
        opens_none = refl;
        stays_on = record { pages = refl; hidden = refl; card = refl; draw = refl };
        has_it = λ on. ap (λ (s : State). in_state s m) (stays_on m.shown.link.state on);
      }

  pub link_laws : LinkLaws obeys
  link_laws =
      record {
        on_air =
            record {
              told = λ f frame m e. ap (answered (reacts_by obeys) m) e;
              said = said_bytes;
              unheard = λ f m e. ap (answered (reacts_by obeys) m) e;
            };
        deafness = deafness;
        requests = requests;
        markers = markers;
        selection = selection;
        addressing = record { own_card = own_card; other_card = other_card };
        power = power;
      }

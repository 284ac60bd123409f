-- A body of a frame's format reads as the frame, and so does the body when it is sealed.
use Rattle.std.proofs.Common.{◌≡◌, ℕ, ◌+◌, ◌-◌, ◌*◌, ◌/◌, ◌%◌, ◌≤◌, Bool, true, false, cond, ◌&&◌, eqb, ltb, leb, List, [], ◌∷◌, length, take, Some, sym, refl, ap, ◌∙◌, arith}
use Rattle.std.proofs.lemmas.List.{take_all, take_at, take_rest}
use Rattle.std.proofs.lemmas.Bool.{and_parts, cond-true, eqb-true, eq-eqb, ne_eqb, leb-true, lt-ltb}
use Rattle.typeb.specs.CheckBytes.{check_bytes, sealed, body_of, sound}
use Rattle.typeb.specs.declared.frames.Slots.{Slots}
use Rattle.typeb.specs.declared.frames.Slots.TheVariants.{One, Two, Four, Eight, Sixteen}
use Rattle.typeb.specs.declared.frames.Op.{Op}
use Rattle.typeb.specs.Hears.{Heard, Request, SlotMarker, Attrib, Halt, Command, slot_code, slots_of, heard, in_body, request_of, head_of, op_code, op_of}
use Rattle.typeb.specs.Carries.{format, has_places, WrittenIsHeard}
use Rattle.typeb.proofs.Bodies.{attrib_heard, command_heard}
use Rattle.typeb.proofs.Distinct.{slots_back, op_back}
use Rattle.typeb.proofs.Buffers.{length_sealed}
use Rattle.typeb.proofs.Parts.{listed}
use Rattle.typeb.proofs.Residue.{sealed_sound}

-- a request, whatever its free bits
wakes : (free code : ℕ) (wake_up : Bool) → code ≤ 4 → eqb ((free * 16 + cond wake_up 8 0 + code) / 8 % 2) 1 ≡ wake_up
wakes free code true low = eq-eqb _ _ (omega arith)
wakes free code false low = ne_eqb _ _ (λ e. omega arith)

lowest : (free code : ℕ) (wake_up : Bool) → code ≤ 4 → (free * 16 + cond wake_up 8 0 + code) % 8 ≡ code
lowest free code true low = omega arith
lowest free code false low = omega arith

code_low : (slots : Slots) → slot_code slots ≤ 4
code_low One = omega arith
code_low Two = omega arith
code_low Four = omega arith
code_low Eight = omega arith
code_low Sixteen = omega arith

request_in_body : (free family : ℕ) (wake_up : Bool) (slots : Slots) → in_body (format free (Request family wake_up slots)) ≡ Some (Request family wake_up slots)
request_in_body free family wake_up slots =
    let low = code_low slots in
    let param : ℕ = free * 16 + cond wake_up 8 0 + slot_code slots in
    ap (λ o. request_of family param o) (ap slots_of (lowest free (slot_code slots) wake_up low) ∙ slots_back slots)
    ∙ ap (λ w. Some (Request family w slots)) (wakes free (slot_code slots) wake_up low)

-- a slot marker
marker_in_body : (slot : ℕ) → 2 ≤ slot → in_body (((slot - 1) * 16 + 5) ∷ []) ≡ Some (SlotMarker slot)
marker_in_body slot low =
    let five : eqb (((slot - 1) * 16 + 5) % 16) 5 ≡ true = eq-eqb _ _ (omega arith) in
    let high : ltb 0 (((slot - 1) * 16 + 5) / 16) ≡ true = lt-ltb _ _ (omega arith) in
    let back : ((slot - 1) * 16 + 5) / 16 + 1 ≡ slot = omega arith in
    simp (five, high, back) refl

-- ATTRIB by its serial number, its parameters and INF
attrib_in_body : (a b c d p q r s : ℕ) (inf : List ℕ) → length inf ≤ 5
    → in_body (0x1D ∷ a ∷ b ∷ c ∷ d ∷ p ∷ q ∷ r ∷ s ∷ inf) ≡ Some (Attrib (a ∷ b ∷ c ∷ d ∷ []) (p ∷ q ∷ r ∷ s ∷ []) inf)
attrib_in_body a b c d p q r s inf short =
    let body : List ℕ = 0x1D ∷ a ∷ b ∷ c ∷ d ∷ p ∷ q ∷ r ∷ s ∷ inf in
    let rest : take (length body - 9) inf ≡ inf = take_rest body 9 in
    let fits : length (take (length body - 9) inf) ≤ 5 = rw rest short in
    sym (attrib_heard body (omega arith) fits refl) ∙ ap (λ l. Some (Attrib (a ∷ b ∷ c ∷ d ∷ []) (p ∷ q ∷ r ∷ s ∷ []) l)) rest

-- a data command
command_in_body : (op : Op) (cid address : ℕ) (bytes : List ℕ) → cid ≤ 15 → length bytes ≡ 8
    → in_body (head_of op cid ∷ address ∷ bytes) ≡ Some (Command op cid address bytes)
command_in_body op cid address bytes low eight =
    let body : List ℕ = head_of op cid ∷ address ∷ bytes in
    let rest : take (length body - 2) bytes ≡ bytes = take_rest body 2 in
    let high : head_of op cid / 16 ≡ op_code op = omega arith in
    let own : head_of op cid % 16 ≡ cid = omega arith in
    let same : bytes ≡ take 8 (take (length body - 2) bytes) = sym (ap (take 8) rest ∙ take_all 8 bytes (omega arith)) in
    sym (command_heard body bytes op (omega arith) (ap length rest ∙ eight) same (sym (ap op_of high ∙ op_back op)))
    ∙ ap (λ (k : ℕ). Some (Command op k address bytes)) own

-- every frame whose values have their places
pub format_in_body : (free : ℕ) (h : Heard) → has_places h ≡ true → in_body (format free h) ≡ Some h
format_in_body free (Request family wake_up slots) ok = request_in_body free family wake_up slots
format_in_body free (SlotMarker slot) ok = marker_in_body slot (leb-true 2 slot (and_parts _ _ ok).0)
format_in_body free (Attrib serial params inf) ok =
    let four = and_parts (eqb (length serial) 4) (eqb (length params) 4 && leb (length inf) 5) ok in
    let rest = and_parts (eqb (length params) 4) (leb (length inf) 5) four.1 in
    rw (listed serial 4 (eqb-true _ _ four.0), listed params 4 (eqb-true _ _ rest.0)) (attrib_in_body _ _ _ _ _ _ _ _ inf (leb-true _ 5 rest.1))
format_in_body free (Halt serial) ok = rw (listed serial 4 (eqb-true _ _ ok)) refl
format_in_body free (Command op cid address bytes) ok =
    let parts = and_parts (leb cid 15) (eqb (length bytes) 8) ok in
    command_in_body op cid address bytes (leb-true cid 15 parts.0) (eqb-true _ _ parts.1)

-- without its check bytes a sealed body is the body
pub body_of_sealed : (body : List ℕ) → body_of (sealed body) ≡ body
body_of_sealed body = let long = length_sealed body in take_at body (check_bytes body) (length (sealed body) - 2) (omega arith)

-- a body in which something is heard is not empty
not_empty : (body : List ℕ) (h : Heard) → in_body body ≡ Some h → 1 ≤ length body
not_empty [] h reads = let z : ◌≡◌ {A = ℕ} 0 1 = cc in absurd (omega arith)
not_empty (x ∷ xs) h reads = omega arith

sealed_heard : (body : List ℕ) (h : Heard) → in_body body ≡ Some h → heard (sealed body) ≡ Some h
unfolding heard
sealed_heard body h reads =
    cond-true (sound (sealed body)) _ _ (sealed_sound body (not_empty body h reads)) ∙ ap in_body (body_of_sealed body) ∙ reads

pub written_heard : (h : Heard) → WrittenIsHeard h
written_heard h ok = sealed_heard (format 0 h) h (format_in_body 0 h ok)

-- What is heard in a frame is what it carries.
use Rattle.std.proofs.Common.{◌≡◌, ℕ, ◌+◌, ◌-◌, ◌*◌, ◌/◌, ◌%◌, ◌<◌, ◌≤◌, Bool, true, false, cond, ◌&&◌, eqb, leb, ltb, List, [], ◌∷◌, ◌++◌, length, take, drop, Some, None, Option, sym, refl, ap, ◌∙◌, ap₂, subst, arith, length-drop, length-take}
use Rattle.std.specs.List.{find}
use Rattle.std.specs.Option.{option_map}
use Rattle.std.proofs.lemmas.Bool.{and_parts, cond_both, cond-true, eqb-true, eq-eqb, leb-true}
use Rattle.std.proofs.lemmas.Bool.Decides.{nat_tests}
use Rattle.std.proofs.lemmas.List.{drop_more, get_or-take, take-append-drop, drop-drop}
use Rattle.typeb.specs.CheckBytes.{Bytes, sound, body_of}
use Rattle.typeb.specs.Hears.{SlotTable, Heard, Request, SlotMarker, Attrib, Halt, Command, slot_code, slots_of, all_slots, op_code, op_of, all_ops, request_of, command_of, at, in_body, heard}
use Rattle.typeb.specs.Carries.{Carries, HearsExactly}
use Rattle.typeb.proofs.Parts.{listed}
use Rattle.typeb.proofs.Sealed.{format_in_body}

-- What may be heard in a body: nothing, or what it carries.
abbrev Fits : List ℕ → Option Heard → Type 0
Fits body None = Unit {0}
Fits body (Some h) = Carries h body

-- an element that is found passes the test
found_at : {X : Type 0} (test : X → Bool) (y x : X) (b : Bool) (rest : Option X) → test y ≡ b → (rest ≡ Some x → test x ≡ true) → cond b (Some y) rest ≡ Some x → test x ≡ true
found_at test y x true rest is next e = let same : y ≡ x = cc in ap test (sym same) ∙ is
found_at test y x false rest is next e = next e

found : {X : Type 0} (test : X → Bool) (xs : List X) (x : X) → find test xs ≡ Some x → test x ≡ true
found test [] x e = absurd cc
found test (y ∷ ys) x e = found_at test y x (test y) (find test ys) refl (found test ys x) e

-- what a code names is heard, if it is carried
named : {X : Type 0} (o : Option X) (f : X → Heard) (body : List ℕ) → ((x : X) → o ≡ Some x → Carries (f x) body) → Fits body (option_map f o)
named None f body carried = tt
named (Some x) f body carried = carried x refl

request_fits : (body : List ℕ) (family param : ℕ) → param < 256 → body ≡ 0x05 ∷ family ∷ param ∷ [] → Fits body (request_of family param (slots_of (param % 8)))
request_fits body family param small e =
    named (slots_of (param % 8)) (Request family (eqb (param / 8 % 2) 1)) body
    (λ slots known.
    let code : param % 8 ≡ slot_code slots = eqb-true _ _ (found (λ s. eqb (param % 8) (slot_code s)) all_slots slots known) in
    let parts : param ≡ param / 16 * 16 + cond (eqb (param / 8 % 2) 1) 8 0 + slot_code slots =
    cond_both (eqb (param / 8 % 2) 1) 8 0 (λ k. param ≡ param / 16 * 16 + k + slot_code slots) (λ y. omega (arith, eqb-true _ _ y)) (λ n. grind (arith, nat_tests)) in
    record { places = refl; free = param / 16; four_bits = omega arith; same = e ∙ ap (λ (k : ℕ). 0x05 ∷ family ∷ k ∷ []) parts })

command_fits : (body : List ℕ) (head address : ℕ) (bytes : List ℕ) → body ≡ head ∷ address ∷ bytes → length bytes ≡ 8 → Fits body (command_of (head % 16) address bytes (op_of (head / 16)))
command_fits body head address bytes e eight =
    named (op_of (head / 16)) (λ op. Command op (head % 16) address bytes) body
    (λ op known.
    let code : head / 16 ≡ op_code op = eqb-true _ _ (found (λ o. eqb (head / 16) (op_code o)) all_ops op known) in
    let first : head ≡ op_code op * 16 + head % 16 % 16 = omega arith in
    record { places = grind (arith, nat_tests); free = 0; four_bits = omega arith; same = e ∙ ap (λ (k : ℕ). k ∷ address ∷ bytes) first })

marker_fits : (body : List ℕ) → Bytes body → (eqb (length body) 1 && (eqb (at 0 body % 16) 5 && ltb 0 (at 0 body / 16))) ≡ true → Carries (SlotMarker (at 0 body / 16 + 1)) body
marker_fits body bytes e =
    let is = and_parts (eqb (length body) 1) (eqb (at 0 body % 16) 5 && ltb 0 (at 0 body / 16)) e in
    let nibbles = and_parts (eqb (at 0 body % 16) 5) (ltb 0 (at 0 body / 16)) is.1 in
    let one : length body ≡ 1 = eqb-true _ _ is.0 in
    let byte : at 0 body < 256 = bytes 0 (omega arith) in
    let five : at 0 body % 16 ≡ 5 = eqb-true (at 0 body % 16) 5 nibbles.0 in
    let high : 1 ≤ at 0 body / 16 = leb-true 1 _ nibbles.1 in
    let marker : at 0 body ≡ (at 0 body / 16 + 1 - 1) * 16 + 5 = omega arith in
    record { places = grind (arith, nat_tests); free = 0; four_bits = omega arith; same = listed body 1 one ∙ ap (λ (k : ℕ). k ∷ []) marker }

attrib_fits : (body : List ℕ) → (leb 9 (length body) && (leb (length body) 14 && eqb (at 0 body) 0x1D)) ≡ true
    → Carries (Attrib (take 4 (drop 1 body)) (take 4 (drop 5 body)) (drop 9 body)) body
attrib_fits body e =
    let low = and_parts (leb 9 (length body)) (leb (length body) 14 && eqb (at 0 body) 0x1D) e in
    let split = and_parts (leb (length body) 14) (eqb (at 0 body) 0x1D) low.1 in
    let nine : 9 ≤ length body = leb-true 9 (length body) low.0 in
    let short : length body ≤ 14 = leb-true (length body) 14 split.0 in
    let d1 = length-drop 1 body in
    let d5 = length-drop 5 body in
    let d9 = length-drop 9 body in
    let l1 = length-take 4 (drop 1 body) in
    let l5 = length-take 4 (drop 5 body) in
    let inner : take 4 (drop 5 body) ++ drop 9 body ≡ drop 5 body = ap (λ t. take 4 (drop 5 body) ++ t) (sym (drop-drop 4 5 body)) ∙ take-append-drop 4 (drop 5 body) in
    let outer : take 4 (drop 1 body) ++ drop 5 body ≡ drop 1 body = ap (λ t. take 4 (drop 1 body) ++ t) (sym (drop-drop 4 1 body)) ∙ take-append-drop 4 (drop 1 body) in
    let whole : body ≡ 0x1D ∷ (take 4 (drop 1 body) ++ (take 4 (drop 5 body) ++ drop 9 body)) =
    drop_more body 0 0 (omega arith) ∙ ap₂ (λ (k : ℕ) t. k ∷ t) (eqb-true _ _ split.1) (sym (ap (λ t. take 4 (drop 1 body) ++ t) inner ∙ outer)) in
    record { places = grind (arith, nat_tests); free = 0; four_bits = omega arith; same = whole }

halt_fits : (body : List ℕ) → (eqb (length body) 5 && eqb (at 0 body) 0x50) ≡ true → Carries (Halt (drop 1 body)) body
halt_fits body e =
    let is = and_parts (eqb (length body) 5) (eqb (at 0 body) 0x50) e in
    let five : length body ≡ 5 = eqb-true (length body) 5 is.0 in
    let rest = length-drop 1 body in
    record {
      places = eq-eqb _ _ (omega arith);
      free = 0;
      four_bits = omega arith;
      same = drop_more body 0 0 (omega arith) ∙ ap (λ (k : ℕ). k ∷ drop 1 body) (eqb-true _ _ is.1);
    }

body_fits : (body : List ℕ) → Bytes body → Fits body (in_body body)
body_fits body bytes =
    cond_both (eqb (length body) 3 && eqb (at 0 body) 0x05) _ _ (Fits body)
    (λ e.
    let is = and_parts (eqb (length body) 3) (eqb (at 0 body) 0x05) e in
    let three : length body ≡ 3 = eqb-true (length body) 3 is.0 in
    request_fits body (at 1 body) (at 2 body) (bytes 2 (omega arith)) (listed body 3 three ∙ ap (λ (k : ℕ). k ∷ at 1 body ∷ at 2 body ∷ []) (eqb-true _ _ is.1)))
    (λ _. cond_both (eqb (length body) 1 && (eqb (at 0 body % 16) 5 && ltb 0 (at 0 body / 16))) _ _ (Fits body) (marker_fits body bytes)
    (λ _. cond_both (leb 9 (length body) && (leb (length body) 14 && eqb (at 0 body) 0x1D)) _ _ (Fits body) (attrib_fits body)
    (λ _. cond_both (eqb (length body) 5 && eqb (at 0 body) 0x50) _ _ (Fits body) (halt_fits body)
    (λ _. cond_both (eqb (length body) 10) _ _ (Fits body)
    (λ e.
    let ten : length body ≡ 10 = eqb-true (length body) 10 e in
    let rest = length-drop 2 body in
    let front : body ≡ at 0 body ∷ at 1 body ∷ drop 2 body = drop_more body 0 0 (omega arith) ∙ ap (λ t. at 0 body ∷ t) (drop_more body 1 0 (omega arith)) in
    command_fits body (at 0 body) (at 1 body) (drop 2 body) front (omega arith))
    (λ _. tt)))))

-- the body of a frame of bytes is of bytes
body_bytes : (frame : List ℕ) → Bytes frame → Bytes (body_of frame)
body_bytes frame bytes i low =
    let long = length-take (length frame - 2) frame in
    rw (get_or-take (length frame - 2) frame i 0 (omega arith)) (bytes i (omega arith))

-- nothing is heard in an unsound frame
when_sound : (b : Bool) (o : Option Heard) (body : List ℕ) (h : Heard) → Fits body o → cond b o None ≡ Some h → (b ≡ true) × Carries h body
when_sound true o body h fits e = (refl, subst (Fits body) e fits)
when_sound false o body h fits e = absurd cc

pub hears_exactly : (frame : List ℕ) → Bytes frame → HearsExactly frame
unfolding heard
hears_exactly frame bytes =
    record {
      only = λ h e. when_sound (sound frame) (in_body (body_of frame)) (body_of frame) h (body_fits (body_of frame) (body_bytes frame bytes)) e;
      all = λ h s c. cond-true (sound frame) _ _ s ∙ ap in_body c.same ∙ format_in_body c.free h c.places;
    }

-- the table of slots
pub slot_table : SlotTable
slot_table = record { numbers = refl; codes = refl }

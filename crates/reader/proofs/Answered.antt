-- What can be said in answer to a command is judged back from its bytes.
use Rattle.std.proofs.Common.{◌≡◌, ℕ, ◌+◌, ◌%◌, ◌≤◌, Bool, true, false, ◌&&◌, eqb, List, [], ◌∷◌, ◌++◌, length, Some, Ok, Result, refl, ap, ◌∙◌, arith}
use Rattle.std.proofs.lemmas.List.{length-append}
use Rattle.std.proofs.lemmas.Bool.{and_right, eq-eqb, ne_eqb}
use Rattle.typeb.specs.CheckBytes.{sealed}
use Rattle.typeb.specs.declared.frames.Op.TheVariants as op
use Rattle.typeb.specs.Hears.{head_of}
use Rattle.typeb.proofs.Buffers.{length_sealed}
use Rattle.typeb.proofs.Residue.{sealed_sound}
use Rattle.typeb.proofs.Sealed.{body_of_sealed}
use Rattle.kinds.specs.Says.{Says, Answer, Page, Acknowledged, Refused, echo, page_named, said_body, reply_bytes}
use Rattle.typeb.proofs.Parts.{listed}
use Rattle.reader.specs.Commands.{Asked, in_range, heard_as}
use Rattle.reader.specs.Judged.{judged, judged_answer, judged_byte, judged_data, judged_page, fits, reads, sound_body, ◌>>=◌}
use Rattle.reader.specs.Laws.{Answers, to_request, to_marker, to_attrib, to_halt, to_read, read_refused, to_write, write_refused}
use Rattle.reader.specs.Laws.{to_lock, lock_refused, to_check, check_refused, to_deselect, to_count, count_refused}
use Rattle.reader.proofs.Ranges.{own_page}

-- the body of the reply of a tag that says it
abbrev pub said : Asked → Says → List ℕ
said a s = said_body (echo (heard_as a)) (page_named (heard_as a)) s

-- a sealed body of a length that fits is judged as the body reads
judged_by : (fit : Bool) (body : List ℕ) (next : List ℕ → Result Says ℕ) → 1 ≤ length body → fit ≡ true → (sound_body fit (sealed body) >>= next) ≡ next body
judged_by fit body next some right = simp (right, sealed_sound body some, body_of_sealed body) refl

pub judged_sealed : (a : Asked) (body : List ℕ) → 1 ≤ length body → fits a (length body + 2) ≡ true → judged a (sealed body) ≡ reads a body
judged_sealed a body some fit =
    judged_by (fits a (length (sealed body))) body (reads a) some (ap (fits a) (length_sealed body) ∙ fit)

-- the length of everything said is asked for
answer_fits : (serial application protocol : List ℕ) → length serial ≡ 4 → length application ≡ 4 → length protocol ≡ 3
    → (1 ≤ length (0x50 ∷ serial ++ application ++ protocol)) × (eqb (length (0x50 ∷ serial ++ application ++ protocol) + 2) 14 ≡ true)
answer_fits serial application protocol x y z = (omega arith, eq-eqb _ _ (simp length-append (omega arith)))

pub fit_said : {a : Asked} {s : Says} → Answers a s → (1 ≤ length (said a s)) × (fits a (length (said a s) + 2) ≡ true)
fit_said (to_request x y z) = answer_fits _ _ _ x y z
fit_said (to_marker x y z) = answer_fits _ _ _ x y z
fit_said to_attrib = (omega arith, refl)
fit_said to_halt = (omega arith, refl)
fit_said (to_read {bytes = bytes} eight) = rw (listed bytes 8 eight) (omega arith, refl)
fit_said (read_refused one) = (omega arith, refl)
fit_said to_write = (omega arith, refl)
fit_said (write_refused one) = (omega arith, refl)
fit_said to_lock = (omega arith, refl)
fit_said (lock_refused one) = (omega arith, refl)
fit_said to_check = (omega arith, refl)
fit_said (check_refused one) = (omega arith, refl)
fit_said to_deselect = (omega arith, refl)
fit_said to_count = (omega arith, refl)
fit_said (count_refused one) = (omega arith, refl)

-- and its body reads as what was said
answer_reads : (serial application protocol : List ℕ) → length serial ≡ 4 → length application ≡ 4 → length protocol ≡ 3
    → judged_answer (0x50 ∷ serial ++ application ++ protocol) ≡ Ok (Answer serial application protocol)
answer_reads serial application protocol a b c = rw (listed serial 4 a, listed application 4 b, listed protocol 3 c) refl

byte_reads : (byte : ℕ) (says : Says) → judged_byte byte says (byte ∷ []) ≡ Ok says
byte_reads byte says = simp (eq-eqb byte byte refl) refl

pub done_reads : (head status : ℕ) (may_nack : Bool) → status % 16 ≡ 0 → judged_data head true may_nack (head ∷ status ∷ []) ≡ Ok Acknowledged
done_reads head status may_nack zero = simp (eq-eqb head head refl, eq-eqb _ _ zero) refl

refusal_reads : (head code : ℕ) (may_ack : Bool) → code % 16 ≡ 1 → judged_data head may_ack true (head ∷ code ∷ []) ≡ Ok (Refused code)
refusal_reads head code may_ack one =
    let not_done : (may_ack && eqb (code % 16) 0) ≡ false = and_right may_ack _ (ne_eqb _ _ (λ e. omega arith)) in
    simp (eq-eqb head head refl, not_done, eq-eqb _ _ one) refl

page_reads : (head page : ℕ) (bytes : List ℕ) → page % 32 ≡ page → length bytes ≡ 8 → judged_page head page (head ∷ page % 32 ∷ bytes) ≡ Ok (Page bytes)
page_reads head page bytes own eight = rw (listed bytes 8 eight) (simp (eq-eqb head head refl, eq-eqb _ _ own) refl)

said_reads : {a : Asked} {s : Says} → Answers a s → in_range a ≡ true → reads a (said a s) ≡ Ok s
said_reads (to_request a b c) ok = answer_reads _ _ _ a b c
said_reads (to_marker a b c) ok = answer_reads _ _ _ a b c
said_reads to_attrib ok = byte_reads _ _
said_reads to_halt ok = byte_reads 0x00 Acknowledged
said_reads (to_read {cid = cid} {page = page} {bytes = bytes} eight) ok = page_reads (head_of op.Read cid) page bytes (own_page cid page ok) eight
said_reads (read_refused one) ok = refusal_reads _ _ false one
said_reads to_write ok = done_reads _ 0 true refl
said_reads (write_refused one) ok = refusal_reads _ _ true one
said_reads to_lock ok = done_reads _ 0 true refl
said_reads (lock_refused one) ok = refusal_reads _ _ true one
said_reads to_check ok = done_reads _ 0 true refl
said_reads (check_refused one) ok = refusal_reads _ _ true one
said_reads to_deselect ok = done_reads _ 0 false refl
said_reads to_count ok = done_reads _ 0 true refl
said_reads (count_refused one) ok = refusal_reads _ _ true one

-- every reply that can be, by its command
pub judged_back : {a : Asked} {s : Says} → Answers a s → in_range a ≡ true → judged a (reply_bytes (heard_as a) (Some s)) ≡ Ok s
judged_back {a = a} {s = s} answers ok = let fit = fit_said answers in judged_sealed a (said a s) fit.0 fit.1 ∙ said_reads answers ok

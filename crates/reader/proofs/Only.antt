-- Judging reads nothing that the command cannot bring.
use Rattle.std.proofs.Common.{◌≡◌, ℕ, ◌+◌, ◌-◌, ◌%◌, Bool, true, false, cond, ◌&&◌, ◌||◌, eqb, leb, List, [], ◌∷◌, ◌++◌, length, get_or, take, drop, replicate, Some, Ok, Err, Result, sym, refl, ap, ◌∙◌, subst, ⊎_elim, arith}
use Rattle.std.proofs.lemmas.List.{length-drop, length-take, take-append-drop}
use Rattle.std.proofs.lemmas.Bool.{and_parts, cond-false, cond-true, eqb-true, eq-eqb, ne_eqb, or_cases, false≢true}
use Rattle.std.specs.Str.{bytes_eq}
use Rattle.std.proofs.lemmas.Slice.Eq.{bytes_eq-Decides}
use Rattle.std.proofs.lemmas.Bool.Decides.{nat_tests}
use Rattle.refusals.specs.Numbers.{asked}
use Rattle.typeb.specs.CheckBytes.{sealed, sound, body_of, tail_of, check_bytes}
use Rattle.typeb.specs.declared.frames.Op.TheVariants as op
use Rattle.typeb.specs.Hears as hears
use Rattle.typeb.specs.Hears.{Heard, head_of}
use Rattle.typeb.proofs.Buffers.{length_sealed}
use Rattle.kinds.specs.Says.{Says, Answer, Card, Page, Acknowledged, Refused, echo, reply_bytes}
use Rattle.typeb.proofs.Parts.{listed}
use Rattle.reader.specs.Commands.{Asked, Request, SlotMarker, Attrib, Halt, Read, Write, Lock, CheckPassword, Deselect, Count}
use Rattle.reader.specs.Commands.{in_range, heard_as}
use Rattle.reader.specs.Judged.{judged, judged_answer, judged_byte, judged_data, judged_page, judged_status, fits, reads, sound_body, ◌>>=◌}
use Rattle.reader.specs.Laws.{JudgesOnly, Brings, Answers, to_request, to_marker, to_attrib, to_halt, to_read, read_refused, to_write, write_refused}
use Rattle.reader.specs.Laws.{to_lock, lock_refused, to_check, check_refused, to_deselect, to_count, count_refused}
use Rattle.reader.proofs.Ranges.{own_page}
use Rattle.reader.proofs.Answered.{said, fit_said, judged_sealed, done_reads}

-- a question that was passed
passed : {A : Type 0} (t : Bool) (why : ℕ) (go : Result A ℕ) (x : A) → asked t why go ≡ Ok x → (t ≡ true) × (go ≡ Ok x)
passed true why go x e = (refl, e)
passed false why go x e = absurd cc

both_passed : (f s : Bool) (body : List ℕ) (next : List ℕ → Result Says ℕ) (x : Says) → (asked f 9 (asked s 10 (Ok body)) >>= next) ≡ Ok x
    → (f ≡ true) × (s ≡ true) × (next body ≡ Ok x)
both_passed true true body next x e = (refl, refl, e)
both_passed true false body next x e = absurd cc
both_passed false s body next x e = absurd cc

-- every length that is asked for is that of something said
abbrev Said : Asked → ℕ → Type 0
Said a n = (s : Says) × Answers a s × (n ≡ length (said a s) + 2)

some_said : (a : Asked) (n : ℕ) → fits a n ≡ true → Said a n
some_said (Request wake_up family slots) n t = (Answer (replicate 4 0) (replicate 4 0) (replicate 3 0), to_request refl refl refl, eqb-true n 14 t)
some_said (SlotMarker slot) n t = (Answer (replicate 4 0) (replicate 4 0) (replicate 3 0), to_marker refl refl refl, eqb-true n 14 t)
some_said (Attrib serial cid inf) n t = (Card cid, to_attrib, eqb-true n 3 t)
some_said (Halt serial) n t = (Acknowledged, to_halt, eqb-true n 3 t)
some_said (Read cid page) n t =
    ⊎_elim
    (λ e. (Page (replicate 8 0), to_read refl, eqb-true n 12 e))
    (λ e. (Refused 1, read_refused refl, eqb-true n 4 e))
    (or_cases (eqb n 12) (eqb n 4) t)
some_said (Write cid page bytes) n t = (Acknowledged, to_write, eqb-true n 4 t)
some_said (Lock cid locks) n t = (Acknowledged, to_lock, eqb-true n 4 t)
some_said (CheckPassword cid password) n t = (Acknowledged, to_check, eqb-true n 4 t)
some_said (Deselect cid) n t = (Acknowledged, to_deselect, eqb-true n 4 t)
some_said (Count cid signature) n t = (Acknowledged, to_count, eqb-true n 4 t)

misfit : (f : Bool) (bytes : List ℕ) (next : List ℕ → Result Says ℕ) → (f ≡ true → ⊥) → (sound_body f bytes >>= next) ≡ Err 9
misfit true bytes next not = absurd (not refl)
misfit false bytes next not = refl

wrong_length : (a : Asked) (bytes : List ℕ) → ((s : Says) → Answers a s → length bytes ≡ length (reply_bytes (heard_as a) (Some s)) → ⊥) → judged a bytes ≡ Err 9
wrong_length a bytes none =
    misfit (fits a (length bytes)) bytes (reads a)
    (λ t. let s = some_said a (length bytes) t in none s.0 s.1 (s.2 ∙ sym (length_sealed (said a s.0))))

-- at the length of something said only the check bytes count, and then the body
at_length : (a : Asked) (bytes : List ℕ) (s : Says) (ok : Bool) → Answers a s → length bytes ≡ length (reply_bytes (heard_as a) (Some s)) → sound bytes ≡ ok
    → judged a bytes ≡ (asked ok 10 (Ok (body_of bytes)) >>= reads a)
at_length a bytes s ok answers long is =
    let fit : fits a (length bytes) ≡ true = ap (fits a) (long ∙ length_sealed (said a s)) ∙ (fit_said answers).1 in
    ap (λ f. sound_body f bytes >>= reads a) fit ∙ ap (λ t. asked t 10 (Ok (body_of bytes)) >>= reads a) is

-- what is sound, of a length that fits, and not read, is refused by 11
not_data : (head : ℕ) (may_ack may_nack : Bool) (body : List ℕ) (why : ℕ) → judged_data head may_ack may_nack body ≡ Err why → why ≡ 11
not_data head may_ack may_nack body why e = grind (arith, nat_tests)

not_read : (a : Asked) (body : List ℕ) (why : ℕ) → reads a body ≡ Err why → why ≡ 11
not_read (Request wake_up family slots) body why e = grind (arith, nat_tests)
not_read (SlotMarker slot) body why e = grind (arith, nat_tests)
not_read (Attrib serial cid inf) body why e = grind (arith, nat_tests)
not_read (Halt serial) body why e = grind (arith, nat_tests)
not_read (Read cid page) body why e = grind (arith, nat_tests)
not_read (Write cid page bytes) body why e = not_data (head_of op.Write cid) true true body why e
not_read (Lock cid locks) body why e = not_data (head_of op.Lock cid) true true body why e
not_read (CheckPassword cid password) body why e = not_data (head_of op.CheckPassword cid) true true body why e
not_read (Deselect cid) body why e = not_data (head_of op.Deselect cid) true false body why e
not_read (Count cid signature) body why e = not_data (head_of op.Count cid) true true body why e

-- a body that is read to something
record Bodied (a : Asked) (body : List ℕ) (s : Says) : Type 0 where
  answers : Answers a s
  long : length body ≡ length (said a s)
  first : get_or (sealed body) 0 0 ≡ get_or (sealed (said a s)) 0 0
  done : s ≡ Acknowledged → get_or (sealed body) (length body - 1) 0 % 16 ≡ 0
  whole : in_range a ≡ true → (s ≡ Acknowledged → ⊥) → body ≡ said a s

ends_in_zero : (h : Heard) → get_or (sealed (echo h ++ (0 ∷ []))) (length (echo h ++ (0 ∷ [])) - 1) 0 % 16 ≡ 0
ends_in_zero (hears.Request family wake_up slots) = refl
ends_in_zero (hears.SlotMarker slot) = refl
ends_in_zero (hears.Attrib serial params inf) = refl
ends_in_zero (hears.Halt serial) = refl
ends_in_zero (hears.Command op cid address bytes) = refl

the_same : (a : Asked) (body : List ℕ) (s : Says) → Answers a s → body ≡ said a s → Bodied a body s
the_same a body s answers e =
    record {
      answers = answers;
      long = ap length e;
      first = ap (λ b. get_or (sealed b) 0 0) e;
      done = λ is. ap (λ b. get_or (sealed b) (length b - 1) 0 % 16) (e ∙ ap (said a) is) ∙ ends_in_zero (heard_as a);
      whole = λ ok other. e;
    }

module _ (a : Asked) (body : List ℕ) (s : Says) where
  answer_bodied : ((x y z : List ℕ) → length x ≡ 4 → length y ≡ 4 → length z ≡ 3 → Answers a (Answer x y z)) → length body ≡ 12 → judged_answer body ≡ Ok s → Bodied a body s
  answer_bodied can long e =
      let r = passed (eqb (get_or body 0 0) 0x50) 11 (Ok (Answer (take 4 (drop 1 body)) (take 4 (drop 5 body)) (drop 9 body))) s e in
      let first : get_or body 0 0 ≡ 0x50 = eqb-true (get_or body 0 0) 0x50 r.0 in
      let is : Answer (take 4 (drop 1 body)) (take 4 (drop 5 body)) (drop 9 body) ≡ s = cc in
      let x : length (take 4 (drop 1 body)) ≡ 4 = simp (length-take, length-drop) (omega arith) in
      let y : length (take 4 (drop 5 body)) ≡ 4 = simp (length-take, length-drop) (omega arith) in
      let z : length (drop 9 body) ≡ 3 = simp length-drop (omega arith) in
      let parts : body ≡ get_or body 0 0 ∷ take 4 (drop 1 body) ++ take 4 (drop 5 body) ++ drop 9 body = rw (listed body 12 long) refl in
      subst (Bodied a body) is (the_same a body (Answer (take 4 (drop 1 body)) (take 4 (drop 5 body)) (drop 9 body))
      (can (take 4 (drop 1 body)) (take 4 (drop 5 body)) (drop 9 body) x y z)
      (parts ∙ ap (λ b. b ∷ take 4 (drop 1 body) ++ take 4 (drop 5 body) ++ drop 9 body) first))

  byte_bodied : (byte : ℕ) (says : Says) → Answers a says → said a says ≡ byte ∷ [] → length body ≡ 1 → judged_byte byte says body ≡ Ok s → Bodied a body s
  byte_bodied byte says can own long e =
      let r = passed (eqb (get_or body 0 0) byte) 11 (Ok says) s e in
      let is : says ≡ s = cc in
      subst (Bodied a body) is (the_same a body says can (listed body 1 long ∙ ap (λ b. b ∷ []) (eqb-true (get_or body 0 0) byte r.0) ∙ sym own))

  status_bodied : (done refused : Bool) (code : ℕ) → (done ≡ true → Bodied a body Acknowledged) → (refused ≡ true → Bodied a body (Refused code))
      → cond {A = Result Says ℕ} done (Ok Acknowledged) (cond refused (Ok (Refused code)) (Err 11)) ≡ Ok s → Bodied a body s
  status_bodied true refused code p q e = let is : Acknowledged ≡ s = cc in subst (Bodied a body) is (p refl)
  status_bodied false true code p q e = let is : Refused code ≡ s = cc in subst (Bodied a body) is (q refl)
  status_bodied false false code p q e = absurd cc

  data_bodied : (head : ℕ) (may_ack may_nack : Bool) → (may_ack ≡ true → Answers a Acknowledged) → (may_nack ≡ true → (code : ℕ) → code % 16 ≡ 1 → Answers a (Refused code))
      → echo (heard_as a) ≡ head ∷ [] → length body ≡ 2 → judged_data head may_ack may_nack body ≡ Ok s → Bodied a body s
  data_bodied head may_ack may_nack done refused own long e =
      let code : ℕ = get_or body 1 0 in
      let r = passed (eqb (get_or body 0 0) head) 11 (judged_status may_ack may_nack code) s e in
      let parts : body ≡ head ∷ code ∷ [] = listed body 2 long ∙ ap (λ b. b ∷ code ∷ []) (eqb-true (get_or body 0 0) head r.0) in
      let acks : said a Acknowledged ≡ head ∷ 0 ∷ [] = ap (λ l. l ++ (0 ∷ [])) own in
      let nacks : said a (Refused code) ≡ head ∷ code ∷ [] = ap (λ l. l ++ (code ∷ [])) own in
      status_bodied (may_ack && eqb (code % 16) 0) (may_nack && eqb (code % 16) 1) code
      (λ t. record {
        answers = done (and_parts may_ack (eqb (code % 16) 0) t).0;
        long = long ∙ sym (ap length acks);
        first = ap (λ b. get_or (sealed b) 0 0) parts ∙ sym (ap (λ b. get_or (sealed b) 0 0) acks);
        done = λ is. ap (λ b. get_or (sealed b) (length b - 1) 0 % 16) parts ∙ eqb-true (code % 16) 0 (and_parts may_ack (eqb (code % 16) 0) t).1;
        whole = λ ok other. absurd (other refl);
      })
      (λ t.
      let both = and_parts may_nack (eqb (code % 16) 1) t in
      the_same a body (Refused code) (refused both.0 code (eqb-true (code % 16) 1 both.1)) (parts ∙ sym nacks))
      r.1

page_bodied : (cid page : ℕ) (body : List ℕ) (s : Says) → length body ≡ 10
    → asked (eqb (get_or body 0 0) (head_of op.Read cid) && eqb (get_or body 1 0) page) 11 (Ok (Page (drop 2 body))) ≡ Ok s → Bodied (Read cid page) body s
page_bodied cid page body s long e =
    let r = passed (eqb (get_or body 0 0) (head_of op.Read cid) && eqb (get_or body 1 0) page) 11 (Ok (Page (drop 2 body))) s e in
    let both = and_parts (eqb (get_or body 0 0) (head_of op.Read cid)) (eqb (get_or body 1 0) page) r.0 in
    let is : Page (drop 2 body) ≡ s = cc in
    let eight : length (drop 2 body) ≡ 8 = simp length-drop (omega arith) in
    let parts : body ≡ get_or body 0 0 ∷ get_or body 1 0 ∷ drop 2 body = rw (listed body 10 long) refl in
    let front : body ≡ head_of op.Read cid ∷ page ∷ drop 2 body =
    parts
    ∙ ap (λ b. b ∷ get_or body 1 0 ∷ drop 2 body) (eqb-true (get_or body 0 0) (head_of op.Read cid) both.0)
    ∙ ap (λ b. head_of op.Read cid ∷ b ∷ drop 2 body) (eqb-true (get_or body 1 0) page both.1) in
    subst (Bodied (Read cid page) body) is (record {
      answers = to_read eight;
      long = ap length front;
      first = ap (λ b. get_or (sealed b) 0 0) front;
      done = λ is. absurd (cc is);
      whole = λ ok other. front ∙ ap (λ p. head_of op.Read cid ∷ p ∷ drop 2 body) (sym (own_page cid page ok));
    })

read_bodied : (cid page : ℕ) (body : List ℕ) (s : Says) → (eqb (length body + 2) 12 || eqb (length body + 2) 4) ≡ true
    → judged_page (head_of op.Read cid) page body ≡ Ok s → Bodied (Read cid page) body s
read_bodied cid page body s t e =
    ⊎_elim
    (λ (f : eqb (length body + 2) 12 ≡ true).
    let k = eqb-true (length body + 2) 12 f in
    let ten : length body ≡ 10 = omega arith in
    page_bodied cid page body s ten (sym (cond-true (eqb (length body) 10) _ _ (eq-eqb (length body) 10 ten)) ∙ e))
    (λ (f : eqb (length body + 2) 4 ≡ true).
    let k = eqb-true (length body + 2) 4 f in
    data_bodied (Read cid page) body s (head_of op.Read cid) false true (λ x. absurd (false≢true x)) (λ x code one. read_refused one) refl (omega arith)
    (sym (cond-false (eqb (length body) 10) _ _ (ne_eqb (length body) 10 (λ x. omega arith))) ∙ e))
    (or_cases (eqb (length body + 2) 12) (eqb (length body + 2) 4) t)

less_two : (body : List ℕ) (n : ℕ) → eqb (length body + 2) (n + 2) ≡ true → length body ≡ n
less_two body n t = let k = eqb-true (length body + 2) (n + 2) t in omega arith

bodied : (a : Asked) (body : List ℕ) (s : Says) → fits a (length body + 2) ≡ true → reads a body ≡ Ok s → Bodied a body s
bodied (Request wake_up family slots) body s t e =
    answer_bodied (Request wake_up family slots) body s (λ x y z. to_request) (less_two body 12 t) e
bodied (SlotMarker slot) body s t e = answer_bodied (SlotMarker slot) body s (λ x y z. to_marker) (less_two body 12 t) e
bodied (Attrib serial cid inf) body s t e = byte_bodied (Attrib serial cid inf) body s cid (Card cid) to_attrib refl (less_two body 1 t) e
bodied (Halt serial) body s t e = byte_bodied (Halt serial) body s 0x00 Acknowledged to_halt refl (less_two body 1 t) e
bodied (Read cid page) body s t e = read_bodied cid page body s t e
bodied (Write cid page bytes) body s t e =
    data_bodied (Write cid page bytes) body s (head_of op.Write cid) true true (λ x. to_write) (λ x code one. write_refused one) refl (less_two body 2 t) e
bodied (Lock cid locks) body s t e =
    data_bodied (Lock cid locks) body s (head_of op.Lock cid) true true (λ x. to_lock) (λ x code one. lock_refused one) refl (less_two body 2 t) e
bodied (CheckPassword cid password) body s t e =
    data_bodied (CheckPassword cid password) body s (head_of op.CheckPassword cid) true true (λ x. to_check) (λ x code one. check_refused one) refl (less_two body 2 t) e
bodied (Deselect cid) body s t e =
    data_bodied (Deselect cid) body s (head_of op.Deselect cid) true false (λ x. to_deselect) (λ x code one. absurd (false≢true x)) refl (less_two body 2 t) e
bodied (Count cid signature) body s t e =
    data_bodied (Count cid signature) body s (head_of op.Count cid) true true (λ x. to_count) (λ x code one. count_refused one) refl (less_two body 2 t) e

-- a sound frame is its body, sealed
sound_sealed : (frame : List ℕ) → sound frame ≡ true → frame ≡ sealed (body_of frame)
unfolding sound
sound_sealed frame ok =
    let tail : tail_of frame ≡ check_bytes (body_of frame) =
    (bytes_eq-Decides (tail_of frame) (check_bytes (body_of frame))).0 (and_parts (leb 3 (length frame)) (bytes_eq (tail_of frame) (check_bytes (body_of frame))) ok).1 in
    sym (take-append-drop (length frame - 2) frame) ∙ ap (λ t. body_of frame ++ t) tail

module _ (a : Asked) (bytes : List ℕ) (s : Says) (e : judged a bytes ≡ Ok s) where
  checked : sound bytes ≡ true
  checked = (both_passed (fits a (length bytes)) (sound bytes) (body_of bytes) (reads a) s (e)).1

  body_long : length bytes ≡ length (body_of bytes) + 2
  body_long = ap length (sound_sealed bytes checked) ∙ length_sealed (body_of bytes)

  body_read : Bodied a (body_of bytes) s
  body_read =
      let r = both_passed (fits a (length bytes)) (sound bytes) (body_of bytes) (reads a) s (e) in
      bodied a (body_of bytes) s (ap (fits a) (sym body_long) ∙ r.0) r.2

  brought : Brings a bytes s
  brought =
      record {
        answers = body_read.answers;
        checked = checked;
        long = body_long ∙ ap (λ n. n + 2) body_read.long ∙ sym (length_sealed (said a s));
        first = ap (λ b. get_or b 0 0) (sound_sealed bytes checked) ∙ body_read.first;
      }

  done : s ≡ Acknowledged → get_or bytes (length bytes - 3) 0 % 16 ≡ 0
  done is =
      let last : length bytes - 3 ≡ length (body_of bytes) - 1 = omega (arith, body_long) in
      ap (λ n. get_or bytes n 0 % 16) last
      ∙ ap (λ b. get_or b (length (body_of bytes) - 1) 0 % 16) (sound_sealed bytes checked)
      ∙ body_read.done is

-- an acknowledgement with any high nibble
own_reads : (own head status : ℕ) (may_nack : Bool) → ◌≡◌ {A = List ℕ} (own ∷ []) (head ∷ []) → status % 16 ≡ 0 → judged_data own true may_nack (head ∷ status ∷ []) ≡ Ok Acknowledged
own_reads own head status may_nack same zero = let is : head ≡ own = cc in rw is (done_reads own status may_nack zero)

high_reads : {a : Asked} → Answers a Acknowledged → (head status : ℕ) → echo (heard_as a) ≡ head ∷ [] → status % 16 ≡ 0 → (fits a 4 ≡ true) × (reads a (head ∷ status ∷ []) ≡ Ok Acknowledged)
high_reads to_halt head status own zero = absurd cc
high_reads to_write head status own zero = (refl, own_reads _ head status true own zero)
high_reads to_lock head status own zero = (refl, own_reads _ head status true own zero)
high_reads to_check head status own zero = (refl, own_reads _ head status true own zero)
high_reads to_deselect head status own zero = (refl, own_reads _ head status false own zero)
high_reads to_count head status own zero = (refl, own_reads _ head status true own zero)

pub judges_only : JudgesOnly
judges_only =
    record {
      brought = brought;
      whole = λ a bytes s ok other e. sound_sealed bytes (checked a bytes s e) ∙ ap sealed ((body_read a bytes s e).whole ok other);
      low_nibble = λ a bytes e. done a bytes Acknowledged e refl;
      high_nibble = λ a head status answers own zero.
          let high = high_reads answers head status own zero in
          judged_sealed a (head ∷ status ∷ []) (omega arith) high.0 ∙ high.1;
      wrong_length = wrong_length;
      unsound = λ a bytes s answers long wrong. at_length a bytes s false answers long wrong;
      unexpected = λ a bytes s why answers long right e. not_read a (body_of bytes) why (sym (at_length a bytes s true answers long right) ∙ e);
    }

-- Which text of a line is which call.
use Rattle.std.proofs.Common.{◌≡◌, ◌≢◌, ℕ, ◌+◌, ◌/◌, ◌%◌, ◌<◌, ◌≤◌, Bool, true, false, not, ◌&&◌, eqb, List, [], ◌∷◌, All, drop, length, None, Ok, Err, Option, Result, codes, decimal, subst, refl, ap, ◌∙◌, arith}
use Rattle.std.specs.List.{join_with_byte, list_all}
use Rattle.std.specs.Str.{bytes_eq}
use Rattle.std.proofs.lemmas.Bool.{cond-false, eq-eqb, false_from_ne_true}
use Rattle.std.proofs.lemmas.Bool.Decides.{nat_tests}
use Rattle.std.proofs.lemmas.Fmt.{decimal_by_steps}
use Rattle.std.proofs.lemmas.List.Elements.{All-cons, All-nil, All-append}
use Rattle.std.proofs.lemmas.Slice.Eq.{bytes_eq-Decides}
use Rattle.hex_pairs.specs.Hex.{Bytes, hex_digit, hex_text}
use Rattle.parts.specs.Parts.{parted, joined, Lacks}
use Rattle.parts.proofs.Parting.{parting}
use Rattle.typeb.specs.CheckBytes.{sealed}
use Rattle.tray_core.specs.declared.calls.Call.TheVariants as call
use Rattle.tray_core.specs.Step as calls
use Rattle.fields.specs.declared.FieldFault.{FieldFault}
use Rattle.fields.specs.Fields.{number_of, bytes_in, draw_of}
use Rattle.fields.proofs.ReadBack.{number_reads_back, bytes_read_back, draw_reads_back}
use Rattle.sheet.specs.declared.faults.LineFault.{LineFault}
use Rattle.sheet.specs.declared.faults.LineFault.TheVariants as fault
use Rattle.sheet.specs.declared.lines.Line.{Line}
use Rattle.sheet.specs.declared.lines.Line.TheVariants as line
use Rattle.sheet.specs.declared.words.TagKind.{TagKind}
use Rattle.sheet.specs.declared.words.TagKind.TheVariants.{Pump, Gauge}
use Rattle.sheet.specs.declared.words.Word.{Word}
use Rattle.sheet.specs.declared.words.Word.TheVariants as word
use Rattle.sheet.specs.Lines.{Says, Tag, Page, Calls, word_of, kind_of, word_says, behind_say, fields_say, line_says, said_in, ◌>>=◌}
use Rattle.sheet.specs.CallWords.{words, draw_text, IsRead, IsSaid, CallWords}

-- the value of the code, by what it says
reads : (r : Result Line LineFault) → IsRead r (said_in r)
reads (Ok (line.Tag kind draw)) = refl
reads (Ok (line.Page tag page bytes)) = refl
reads (Ok (line.Calls call.On)) = refl
reads (Ok (line.Calls call.Off)) = refl
reads (Ok (line.Calls (call.Place n))) = refl
reads (Ok (line.Calls (call.Lift n))) = refl
reads (Ok (line.Calls (call.Frame message))) = record { message = message; holds = refl; reads = refl }
reads (Ok (line.Calls call.Stock)) = refl
reads (Err why) = refl

-- texts without a comma
lacks_cons : (b t : Bool) (c : ℕ) (cs : List ℕ) → eqb c 44 ≡ b → (not b && t) ≡ true → (t ≡ true → Lacks 44 cs) → Lacks 44 (c ∷ cs)
lacks_cons true t c cs e pass rest = absurd cc
lacks_cons false t c cs e pass rest = All-cons (λ x. x ≢ 44) c cs (λ same. let is = eq-eqb c 44 same in cc) (rest pass)

pub lacks : (text : List ℕ) → list_all (λ c. not (eqb c 44)) text ≡ true → Lacks 44 text
lacks [] pass = All-nil (λ x. x ≢ 44)
lacks (c ∷ cs) pass = lacks_cons (eqb c 44) (list_all (λ x. not (eqb x 44)) cs) c cs refl pass (lacks cs)

pub decimal_lacks : (n : ℕ) → n < 1000 → Lacks 44 (decimal n)
decimal_lacks n h =
    decimal_by_steps (λ k ds. Lacks 44 ds) (λ k small. All-cons (λ x. x ≢ 44) (48 + k) [] (λ e. absurd (omega arith)) (All-nil (λ x. x ≢ 44)))
    (λ k ds big front. All-append (λ x. x ≢ 44) ds ((48 + k % 10) ∷ []) front (All-cons (λ x. x ≢ 44) (48 + k % 10) [] (λ e. absurd (omega arith)) (All-nil (λ x. x ≢ 44))))
    n (omega arith)

digit_lacks : (v : ℕ) → hex_digit v ≢ 44
digit_lacks v e = absurd (grind (arith, nat_tests))

hex_lacks : (bytes : List ℕ) → Lacks 44 (hex_text bytes)
hex_lacks [] = All-nil (λ x. x ≢ 44)
hex_lacks (b ∷ bs) =
    All-cons (λ x. x ≢ 44) (hex_digit (b / 16)) (hex_digit (b % 16) ∷ hex_text bs) (digit_lacks (b / 16))
    (All-cons (λ x. x ≢ 44) (hex_digit (b % 16)) (hex_text bs) (digit_lacks (b % 16)) (hex_lacks bs))

pub one : (field : List ℕ) → Lacks 44 field → All (Lacks 44) (field ∷ [])
one field lack = All-cons (Lacks 44) field [] lack (All-nil (Lacks 44))

-- the fields of a line, and what they say
parts_are : (text first : List ℕ) (more : List (List ℕ)) → Lacks 44 first → All (Lacks 44) more → text ≡ joined (first ∷ more) → parted 44 text ≡ first ∷ more
parts_are text first more front rest e =
    ap (parted 44) e ∙ (parting 44).fields (first ∷ more) (λ none. cc) (All-cons (Lacks 44) first more front rest)

pub says : (text first : List ℕ) (more : List (List ℕ)) → Lacks 44 first → All (Lacks 44) more → text ≡ joined (first ∷ more) → line_says text ≡ behind_say (word_of first) more
says text first more front rest e = ap fields_say (parts_are text first more front rest e)

-- a first field that is no word
pub differs : (a b : List ℕ) → a ≢ b → bytes_eq a b ≡ false
differs a b other = false_from_ne_true (bytes_eq a b) (λ e. other ((bytes_eq-Decides a b).0 e))

no_word : (first : List ℕ) → All (λ w. first ≢ w.0) words → word_of first ≡ None
no_word first other =
    cond-false _ _ _ (differs first (codes "tag") (other 0 (codes "tag", 2) (omega arith)))
    ∙ cond-false _ _ _ (differs first (codes "page") (other 1 (codes "tag", 2) (omega arith)))
    ∙ cond-false _ _ _ (differs first (codes "on") (other 2 (codes "tag", 2) (omega arith)))
    ∙ cond-false _ _ _ (differs first (codes "off") (other 3 (codes "tag", 2) (omega arith)))
    ∙ cond-false _ _ _ (differs first (codes "place") (other 4 (codes "tag", 2) (omega arith)))
    ∙ cond-false _ _ _ (differs first (codes "lift") (other 5 (codes "tag", 2) (omega arith)))
    ∙ cond-false _ _ _ (differs first (codes "stock") (other 6 (codes "tag", 2) (omega arith)))
    ∙ cond-false _ _ _ (differs first (codes "send") (other 7 (codes "tag", 2) (omega arith)))
    ∙ cond-false _ _ _ (differs first (codes "raw") (other 8 (codes "tag", 2) (omega arith)))

first_unknown : (text first : List ℕ) (more : List (List ℕ)) → Lacks 44 first → All (λ w. first ≢ w.0) words → text ≡ joined (first ∷ more) → line_says text ≡ Err fault.UnknownWord
first_unknown text first [] front other e =
    says text first [] front (All-nil (Lacks 44)) e ∙ ap (λ (o : Option Word). behind_say o []) (no_word first other)
first_unknown text first (next ∷ more) front other e =
    ap line_says e
    ∙ ap fields_say ((parting 44).first first (join_with_byte 44 (next ∷ more)) front)
    ∙ ap (λ (o : Option Word). behind_say o (parted 44 (join_with_byte 44 (next ∷ more)))) (no_word first other)

-- a word with another number of fields
none_behind : (w : Word) → ((a : List ℕ) (more : List (List ℕ)) → word_says w (a ∷ more) ≡ Err fault.FieldCount) → (more : List (List ℕ)) → length more ≢ 0 → word_says w more ≡ Err fault.FieldCount
none_behind w many [] h = absurd (h refl)
none_behind w many (a ∷ more) h = many a more

one_behind : (w : Word) → word_says w [] ≡ Err fault.FieldCount → ((a b : List ℕ) (more : List (List ℕ)) → word_says w (a ∷ b ∷ more) ≡ Err fault.FieldCount) → (more : List (List ℕ)) → length more ≢ 1 → word_says w more ≡ Err fault.FieldCount
one_behind w none many [] h = none
one_behind w none many (a ∷ []) h = absurd (h refl)
one_behind w none many (a ∷ b ∷ more) h = many a b more

tag_count : (more : List (List ℕ)) → length more ≢ 2 → word_says word.Tag more ≡ Err fault.FieldCount
tag_count [] h = refl
tag_count (a ∷ []) h = refl
tag_count (a ∷ b ∷ []) h = absurd (h refl)
tag_count (a ∷ b ∷ c ∷ more) h = refl

page_count : (more : List (List ℕ)) → length more ≢ 3 → word_says word.Page more ≡ Err fault.FieldCount
page_count [] h = refl
page_count (a ∷ []) h = refl
page_count (a ∷ b ∷ []) h = refl
page_count (a ∷ b ∷ c ∷ []) h = absurd (h refl)
page_count (a ∷ b ∷ c ∷ d ∷ more) h = refl

pub by_value : (text : List ℕ) (r : Result Line LineFault) → said_in r ≡ line_says text → (s : Result Says LineFault) → line_says text ≡ s → IsRead r s
by_value text r is s e = subst (IsRead r) (is ∙ e) (reads r)

module _ (text : List ℕ) (Gives : Result Says LineFault → Type 0) (by : (s : Result Says LineFault) → line_says text ≡ s → Gives s) where
  abbrev Miscounted : List ℕ × ℕ → Type 0
  Miscounted w = (more : List (List ℕ)) → length more ≢ w.1 → All (Lacks 44) more → text ≡ joined (w.0 ∷ more) → Gives (Err fault.FieldCount)

  miscounted : (first : List ℕ) (n : ℕ) → Lacks 44 first → ((more : List (List ℕ)) → length more ≢ n → behind_say (word_of first) more ≡ Err fault.FieldCount) → Miscounted (first, n)
  miscounted first n front count more h lack e = by (Err fault.FieldCount) (says text first more front lack e ∙ count more h)

  place_says : (n : ℕ) → n < 1000 → text ≡ joined (codes "place" ∷ decimal n ∷ []) → line_says text ≡ Ok (Calls (calls.Place n))
  place_says n h e =
      says text (codes "place") (decimal n ∷ []) (lacks (codes "place") refl) (one (decimal n) (decimal_lacks n h)) e
      ∙ ap (λ (f : Result ℕ FieldFault). f >>= (λ t. Ok (Calls (calls.Place t)))) (number_reads_back n h)

  lift_says : (n : ℕ) → n < 1000 → text ≡ joined (codes "lift" ∷ decimal n ∷ []) → line_says text ≡ Ok (Calls (calls.Lift n))
  lift_says n h e =
      says text (codes "lift") (decimal n ∷ []) (lacks (codes "lift") refl) (one (decimal n) (decimal_lacks n h)) e
      ∙ ap (λ (f : Result ℕ FieldFault). f >>= (λ t. Ok (Calls (calls.Lift t)))) (number_reads_back n h)

  send_says : (body : List ℕ) → Bytes body → 1 ≤ length body → length body ≤ 14 → text ≡ joined (codes "send" ∷ hex_text body ∷ []) → line_says text ≡ Ok (Calls (calls.Frame (sealed body)))
  send_says body all low high e =
      says text (codes "send") (hex_text body ∷ []) (lacks (codes "send") refl) (one (hex_text body) (hex_lacks body)) e
      ∙ ap (λ (f : Result (List ℕ) FieldFault). f >>= (λ b. Ok (Calls (calls.Frame (sealed b))))) (bytes_read_back 1 14 body all low high)

  raw_says : (bytes : List ℕ) → Bytes bytes → 1 ≤ length bytes → length bytes ≤ 16 → text ≡ joined (codes "raw" ∷ hex_text bytes ∷ []) → line_says text ≡ Ok (Calls (calls.Frame bytes))
  raw_says bytes all low high e =
      says text (codes "raw") (hex_text bytes ∷ []) (lacks (codes "raw") refl) (one (hex_text bytes) (hex_lacks bytes)) e
      ∙ ap (λ (f : Result (List ℕ) FieldFault). f >>= (λ b. Ok (Calls (calls.Frame b)))) (bytes_read_back 1 16 bytes all low high)

  tag_says : (name : List ℕ) (kind : TagKind) → Lacks 44 name → kind_of name ≡ Ok kind → (draw : ℕ) → draw < 65536 → text ≡ joined (codes "tag" ∷ name ∷ draw_text draw ∷ []) → line_says text ≡ Ok (Tag kind draw)
  tag_says name kind front is_kind draw h e =
      says text (codes "tag") (name ∷ draw_text draw ∷ []) (lacks (codes "tag") refl) (All-cons (Lacks 44) name (draw_text draw ∷ []) front (one (draw_text draw) (hex_lacks (draw / 256 ∷ draw % 256 ∷ [])))) e
      ∙ ap (λ (f : Result TagKind FieldFault). f >>= (λ k. draw_of (draw_text draw) >>= (λ d. Ok (Tag k d)))) is_kind
      ∙ ap (λ (f : Result ℕ FieldFault). f >>= (λ d. Ok (Tag kind d))) (draw_reads_back draw h)

  page_says : (tag page : ℕ) (bytes : List ℕ) → tag < 1000 → page < 1000 → Bytes bytes → length bytes ≡ 8
      → text ≡ joined (codes "page" ∷ decimal tag ∷ decimal page ∷ hex_text bytes ∷ []) → line_says text ≡ Ok (Page tag page bytes)
  page_says tag page bytes h k all eight e =
      says text (codes "page") (decimal tag ∷ decimal page ∷ hex_text bytes ∷ []) (lacks (codes "page") refl) (All-cons (Lacks 44) (decimal tag) (decimal page ∷ hex_text bytes ∷ []) (decimal_lacks tag h) (All-cons (Lacks 44) (decimal page) (hex_text bytes ∷ []) (decimal_lacks page k) (one (hex_text bytes) (hex_lacks bytes)))) e
      ∙ ap (λ (f : Result ℕ FieldFault). f >>= (λ t. number_of (decimal page) >>= (λ p. bytes_in 8 8 (hex_text bytes) >>= (λ b. Ok (Page t p b))))) (number_reads_back tag h)
      ∙ ap (λ (f : Result ℕ FieldFault). f >>= (λ p. bytes_in 8 8 (hex_text bytes) >>= (λ b. Ok (Page tag p b)))) (number_reads_back page k)
      ∙ ap (λ (f : Result (List ℕ) FieldFault). f >>= (λ b. Ok (Page tag page b))) (bytes_read_back 8 8 bytes all (omega arith) (omega arith))

  pub call_words : CallWords text Gives
  call_words =
      record {
        on = λ e. by (Ok (Calls calls.On)) (ap line_says e);
        off = λ e. by (Ok (Calls calls.Off)) (ap line_says e);
        stock = λ e. by (Ok (Calls calls.Stock)) (ap line_says e);
        place = λ n h e. by (Ok (Calls (calls.Place n))) (place_says n h e);
        lift = λ n h e. by (Ok (Calls (calls.Lift n))) (lift_says n h e);
        send = λ body all low high e. by (Ok (Calls (calls.Frame (sealed body)))) (send_says body all low high e);
        raw = λ bytes all low high e. by (Ok (Calls (calls.Frame bytes))) (raw_says bytes all low high e);
        pump = λ draw h e. by (Ok (Tag Pump draw)) (tag_says (codes "pump") Pump (lacks (codes "pump") refl) refl draw h e);
        gauge = λ draw h e. by (Ok (Tag Gauge draw)) (tag_says (codes "gauge") Gauge (lacks (codes "gauge") refl) refl draw h e);
        page = λ tag page bytes h k all eight e. by (Ok (Page tag page bytes)) (page_says tag page bytes h k all eight e);
        unknown = λ first more front other e. by (Err fault.UnknownWord) (first_unknown text first more front other e);
        miscounted =
            All-cons Miscounted (codes "tag", 2) (drop 1 words) (miscounted (codes "tag") 2 (lacks (codes "tag") refl) tag_count)
            (All-cons Miscounted (codes "page", 3) (drop 2 words) (miscounted (codes "page") 3 (lacks (codes "page") refl) page_count)
            (All-cons Miscounted (codes "on", 0) (drop 3 words) (miscounted (codes "on") 0 (lacks (codes "on") refl) (none_behind word.On (λ a more. refl)))
            (All-cons Miscounted (codes "off", 0) (drop 4 words) (miscounted (codes "off") 0 (lacks (codes "off") refl) (none_behind word.Off (λ a more. refl)))
            (All-cons Miscounted (codes "place", 1) (drop 5 words) (miscounted (codes "place") 1 (lacks (codes "place") refl) (one_behind word.Place refl (λ a b more. refl)))
            (All-cons Miscounted (codes "lift", 1) (drop 6 words) (miscounted (codes "lift") 1 (lacks (codes "lift") refl) (one_behind word.Lift refl (λ a b more. refl)))
            (All-cons Miscounted (codes "stock", 0) (drop 7 words) (miscounted (codes "stock") 0 (lacks (codes "stock") refl) (none_behind word.Stock (λ a more. refl)))
            (All-cons Miscounted (codes "send", 1) (drop 8 words) (miscounted (codes "send") 1 (lacks (codes "send") refl) (one_behind word.Send refl (λ a b more. refl)))
            (All-cons Miscounted (codes "raw", 1) [] (miscounted (codes "raw") 1 (lacks (codes "raw") refl) (one_behind word.Raw refl (λ a b more. refl))) (All-nil Miscounted)))))))));
      }

pub said_words : (text : List ℕ) → CallWords text (IsSaid text)
said_words text = call_words text (IsSaid text) (λ s e. e)

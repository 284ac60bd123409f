-- The fault of the first field that is not in its form.
use Rattle.std.proofs.Common.{◌≡◌, ◌≢◌, ℕ, zero, suc, ◌<◌, ◌⊎◌, inl, inr, Bool, true, false, cond, List, [], ◌∷◌, All, length, Some, None, Ok, Err, Option, Result, codes, decimal, subst, refl, ap, ◌∙◌, arith}
use Rattle.std.specs.Option.{ok_or}
use Rattle.std.proofs.lemmas.Bool.{cond-false}
use Rattle.std.proofs.lemmas.List.Elements.{All-cons}
use Rattle.hex_pairs.specs.Hex.{Bytes, hex_bytes, digit_value, byte_of, before}
use Rattle.parts.specs.Parts.{joined, Lacks}
use Rattle.typeb.specs.CheckBytes.{sealed}
use Rattle.tray_core.specs.Step as calls
use Rattle.fields.specs.declared.FieldFault.{FieldFault}
use Rattle.fields.specs.declared.FieldFault.TheVariants as form
use Rattle.fields.specs.Fields.{number_of, bytes_in, draw_of}
use Rattle.fields.proofs.OnlyRead.{number_only_read, bytes_only_read, draw_only_read, digit_below, byte_below, bytes_case}
use Rattle.fields.proofs.ReadBack.{number_reads_back}
use Rattle.sheet.specs.declared.faults.LineFault.{LineFault}
use Rattle.sheet.specs.declared.faults.LineFault.TheVariants as fault
use Rattle.sheet.specs.declared.words.TagKind.{TagKind}
use Rattle.sheet.specs.declared.words.TagKind.TheVariants.{Pump, Gauge}
use Rattle.sheet.specs.Lines.{Says, Tag, Page, Calls, kind_of, line_says, ◌>>=◌}
use Rattle.sheet.specs.CallWords.{IsSaid}
use Rattle.sheet.specs.FieldForms.{NoNumber, NoBytes, NoDraw, FieldForms}
use Rattle.sheet.proofs.CallWords.{says, differs, lacks, one, decimal_lacks}

-- bytes that hex text gives are bytes
both : (b : ℕ) (bs : List ℕ) → b < 256 → Bytes bs → Bytes (b ∷ bs)
both b bs small rest zero h = small
both b bs small rest (suc i) h = rest i (omega arith)

pair_bytes : (o : Option ℕ) (r : Option (List ℕ)) (bytes : List ℕ) → ((v : ℕ) → o ≡ Some v → v < 256) → ((bs : List ℕ) → r ≡ Some bs → Bytes bs) → before o r ≡ Some bytes → Bytes bytes
pair_bytes (Some b) (Some bs) bytes small rest e =
    let same : b ∷ bs ≡ bytes = cc in
    subst Bytes same (both b bs (small b refl) (rest bs refl))
pair_bytes (Some b) None bytes small rest e = absurd cc
pair_bytes None r bytes small rest e = absurd cc

all_bytes : (text bytes : List ℕ) → hex_bytes text ≡ Some bytes → Bytes bytes
all_bytes [] bytes e = let none : ◌≡◌ {A = List ℕ} [] bytes = cc in λ i h. absurd (omega (arith, ap length none))
all_bytes (c ∷ []) bytes e = absurd cc
all_bytes (c ∷ d ∷ rest) bytes e =
    pair_bytes (byte_of (digit_value c) (digit_value d)) (hex_bytes rest) bytes
    (λ v s. byte_below (digit_value c) (digit_value d) v (λ k g. digit_below c k g) (λ k g. digit_below d k g) s) (all_bytes rest) e

-- a field that gives no value has its fault
fails : {A : Type 0} (b : Bool) (o : Option A) (f : FieldFault) → ((x : A) → cond b (ok_or o f) (Err f) ≡ Ok x → ⊥) → cond b (ok_or o f) (Err f) ≡ Err f
fails true (Some x) f other = absurd (other x refl)
fails true None f other = refl
fails false o f other = refl

no_number : (text : List ℕ) → NoNumber text → number_of text ≡ Err form.Number
no_number text other = fails _ _ form.Number (λ n e. other n (number_only_read.below text n e) (number_only_read.text text n e))

no_bytes : (least most : ℕ) (text : List ℕ) → NoBytes least most text → bytes_in least most text ≡ Err form.Bytes
no_bytes least most text other =
    fails _ _ form.Bytes
    (λ bytes e. other bytes (all_bytes text bytes (bytes_case _ text bytes e)) (bytes_only_read.enough least most text bytes e) (bytes_only_read.fits least most text bytes e) (bytes_only_read.text least most text bytes e))

no_draw : (text : List ℕ) → NoDraw text → draw_of text ≡ Err form.Draw
no_draw text other = fails _ _ form.Draw (λ draw e. other draw (draw_only_read.below text draw e) (draw_only_read.text text draw e))

no_kind : (text : List ℕ) → text ≢ codes "pump" → text ≢ codes "gauge" → kind_of text ≡ Err form.Kind
no_kind text p g = cond-false _ _ _ (differs text (codes "pump") p) ∙ cond-false _ _ _ (differs text (codes "gauge") g)

-- a line by its fields
two : (a b : List ℕ) → Lacks 44 a → Lacks 44 b → All (Lacks 44) (a ∷ b ∷ [])
two a b p q = All-cons (Lacks 44) a (b ∷ []) p (one b q)

three : (a b c : List ℕ) → Lacks 44 a → Lacks 44 b → Lacks 44 c → All (Lacks 44) (a ∷ b ∷ c ∷ [])
three a b c p q r = All-cons (Lacks 44) a (b ∷ c ∷ []) p (two b c q r)

module _ (text : List ℕ) (Gives : Result Says LineFault → Type 0) (by : (s : Result Says LineFault) → line_says text ≡ s → Gives s) where
  abbrev Faulty : FieldFault → Type 0
  Faulty f = Gives (Err (fault.Field f))

  faulty : (f : FieldFault) → line_says text ≡ Err (fault.Field f) → Faulty f
  faulty f e = by (Err (fault.Field f)) e

  -- a field of its own, with what follows from its value
  stops : {A : Type 0} (o : Result A FieldFault) (next : A → Result Says LineFault) (f : FieldFault) → line_says text ≡ o >>= next → o ≡ Err f → Faulty f
  stops {A} o next f e none = faulty f (e ∙ ap (λ (x : Result A FieldFault). x >>= next) none)

  draw_fails : (name draw : List ℕ) (kind : TagKind) → Lacks 44 name → kind_of name ≡ Ok kind → Lacks 44 draw → NoDraw draw → text ≡ joined (codes "tag" ∷ name ∷ draw ∷ []) → Faulty form.Draw
  draw_fails name draw kind front is_kind lack other e =
      stops (draw_of draw) (λ d. Ok (Tag kind d)) form.Draw
      (says text (codes "tag") (name ∷ draw ∷ []) (lacks (codes "tag") refl) (two name draw front lack) e
      ∙ ap (λ (x : Result TagKind FieldFault). x >>= (λ k. draw_of draw >>= (λ d. Ok (Tag k d)))) is_kind)
      (no_draw draw other)

  draw_case : (name draw : List ℕ) → (name ≡ codes "pump") ⊎ (name ≡ codes "gauge") → Lacks 44 draw → NoDraw draw → text ≡ joined (codes "tag" ∷ name ∷ draw ∷ []) → Faulty form.Draw
  draw_case name draw (inl p) lack other e =
      draw_fails (codes "pump") draw Pump (lacks (codes "pump") refl) refl lack other (e ∙ ap (λ (n : List ℕ). joined (codes "tag" ∷ n ∷ draw ∷ [])) p)
  draw_case name draw (inr g) lack other e =
      draw_fails (codes "gauge") draw Gauge (lacks (codes "gauge") refl) refl lack other (e ∙ ap (λ (n : List ℕ). joined (codes "tag" ∷ n ∷ draw ∷ [])) g)

  page_by : (tag page bytes : List ℕ) → Lacks 44 tag → Lacks 44 page → Lacks 44 bytes → text ≡ joined (codes "page" ∷ tag ∷ page ∷ bytes ∷ [])
      → line_says text ≡ number_of tag >>= (λ t. number_of page >>= (λ p. bytes_in 8 8 bytes >>= (λ b. Ok (Page t p b))))
  page_by tag page bytes p q s e = says text (codes "page") (tag ∷ page ∷ bytes ∷ []) (lacks (codes "page") refl) (three tag page bytes p q s) e

  page_of : (tag : ℕ) (page bytes : List ℕ) → tag < 1000 → Lacks 44 page → Lacks 44 bytes → text ≡ joined (codes "page" ∷ decimal tag ∷ page ∷ bytes ∷ [])
      → line_says text ≡ number_of page >>= (λ p. bytes_in 8 8 bytes >>= (λ b. Ok (Page tag p b)))
  page_of tag page bytes h q s e =
      page_by (decimal tag) page bytes (decimal_lacks tag h) q s e
      ∙ ap (λ (x : Result ℕ FieldFault). x >>= (λ t. number_of page >>= (λ p. bytes_in 8 8 bytes >>= (λ b. Ok (Page t p b))))) (number_reads_back tag h)

  pub field_forms : FieldForms text Gives
  field_forms =
      record {
        place = λ tag lack other e.
            stops (number_of tag) (λ t. Ok (Calls (calls.Place t))) form.Number (says text (codes "place") (tag ∷ []) (lacks (codes "place") refl) (one tag lack) e) (no_number tag other);
        lift = λ tag lack other e.
            stops (number_of tag) (λ t. Ok (Calls (calls.Lift t))) form.Number (says text (codes "lift") (tag ∷ []) (lacks (codes "lift") refl) (one tag lack) e) (no_number tag other);
        send = λ body lack other e.
            stops (bytes_in 1 14 body) (λ b. Ok (Calls (calls.Frame (sealed b)))) form.Bytes (says text (codes "send") (body ∷ []) (lacks (codes "send") refl) (one body lack) e) (no_bytes 1 14 body other);
        raw = λ bytes lack other e.
            stops (bytes_in 1 16 bytes) (λ b. Ok (Calls (calls.Frame b))) form.Bytes (says text (codes "raw") (bytes ∷ []) (lacks (codes "raw") refl) (one bytes lack) e) (no_bytes 1 16 bytes other);
        kind = λ kind draw front lack p g e.
            stops (kind_of kind) (λ k. draw_of draw >>= (λ d. Ok (Tag k d))) form.Kind (says text (codes "tag") (kind ∷ draw ∷ []) (lacks (codes "tag") refl) (two kind draw front lack) e) (no_kind kind p g);
        draw = λ kind draw is_kind lack other e. draw_case kind draw is_kind lack other e;
        page_tag = λ tag page bytes p q s other e.
            stops (number_of tag) (λ t. number_of page >>= (λ p. bytes_in 8 8 bytes >>= (λ b. Ok (Page t p b)))) form.Number (page_by tag page bytes p q s e) (no_number tag other);
        page_page = λ tag page bytes h q s other e.
            stops (number_of page) (λ p. bytes_in 8 8 bytes >>= (λ b. Ok (Page tag p b))) form.Number (page_of tag page bytes h q s e) (no_number page other);
        page_bytes = λ tag page bytes h k s other e.
            stops (bytes_in 8 8 bytes) (λ b. Ok (Page tag page b)) form.Bytes
            (page_of tag (decimal page) bytes h (decimal_lacks page k) s e
            ∙ ap (λ (x : Result ℕ FieldFault). x >>= (λ p. bytes_in 8 8 bytes >>= (λ b. Ok (Page tag p b)))) (number_reads_back page k))
            (no_bytes 8 8 bytes other);
      }

pub said_forms : (text : List ℕ) → FieldForms text (IsSaid text)
said_forms text = field_forms text (IsSaid text) (λ s e. e)

-- What tag lines and page lines change.
use Rattle.std.proofs.Common.{◌≡◌, ◌≢◌, ℕ, zero, suc, ◌+◌, ◌-◌, ◌*◌, ◌<◌, ◌≤◌, ◌⊎◌, inl, inr, Bool, true, false, cond, ltb, List, [], ◌∷◌, ◌++◌, map, All, length, get_or, take, drop, replicate, Some, Ok, Err, Result, MatchResult, slice_get, sym, subst, refl, ap, ◌∙◌, arith, length-append}
use Rattle.std.proofs.lemmas.Bool.{cond-true, cond-false, eqb-true, lt-ltb, le-ltb}
use Rattle.std.proofs.lemmas.List.{length-take-le, length-drop, get_or-append_right, get_or_append_left, get_or-take, get_or-drop}
use Rattle.std.proofs.lemmas.List.Elements.{All-replicate}
use Rattle.std.specs.Option.{option_map}
use Rattle.kinds.specs.Kinds.{Meaning}
use Rattle.refusals.specs.Numbers.{asked}
use Rattle.tags.specs.Gauge.{GaugeMeaning}
use Rattle.tags.specs.Making.{pump_made, gauge_made}
use Rattle.tags.specs.Pages.{put_page}
use Rattle.tags.specs.Pump.{PumpMeaning}
use Rattle.tray_core.specs.Trays.{present}
use Rattle.sheet.specs.Drafts.{Draft, blank_pump, blank_gauge, remade, repaged, in_front, behind, changed_at, row_paged, back_paged}
use Rattle.sheet.specs.Sheets.{Stage, Naming, Came, Went, Stopped, with_front, with_back, tags_of, paged}
use Rattle.sheet.specs.TagLines.{PageWritten, Replaced, PageLine, TagLines}
use Rattle.sheet.proofs.Loading.{stage_made}

-- the bytes beside the page
kept : (page : ℕ) (bytes image : List ℕ) → length bytes ≡ 8 → 8 * page + 8 ≤ length image → length (take (8 * page) image) ≡ 8 * page
    → (i : ℕ) → (i < 8 * page) ⊎ (8 * page + 8 ≤ i) → get_or (put_page page bytes image) i 0 ≡ get_or image i 0
kept page bytes image eight room long i (inl h) =
    get_or_append_left (take (8 * page) image) (bytes ++ drop (8 * page + 8) image) 0 i (omega arith) ∙ get_or-take (8 * page) image i 0 h
kept page bytes image eight room long i (inr h) =
    get_or-append_right (take (8 * page) image) (bytes ++ drop (8 * page + 8) image) (8 * page) i 0 long (omega arith)
    ∙ get_or-append_right bytes (drop (8 * page + 8) image) 8 (i - 8 * page) 0 eight (omega arith)
    ∙ get_or-drop (8 * page + 8) image (i - 8 * page - 8) 0
    ∙ ap (λ (k : ℕ). get_or image k 0) (omega arith)

-- a page put into an image that has it
written : (page : ℕ) (bytes image : List ℕ) → length bytes ≡ 8 → 8 * page + 8 ≤ length image → PageWritten page bytes image (put_page page bytes image)
written page bytes image eight room =
    let front : List ℕ = take (8 * page) image in
    let rest : List ℕ = drop (8 * page + 8) image in
    let long : length front ≡ 8 * page = length-take-le (8 * page) image (omega arith) in
    let left : length rest ≡ length image - (8 * page + 8) = length-drop (8 * page + 8) image in
    let both : length (bytes ++ rest) ≡ length bytes + length rest = length-append bytes rest in
    let whole : length (front ++ (bytes ++ rest)) ≡ length front + length (bytes ++ rest) = length-append front (bytes ++ rest) in
    record {
      size = omega arith;
      written = λ j h.
          get_or-append_right front (bytes ++ rest) (8 * page) (8 * page + j) 0 long (omega arith)
          ∙ ap (λ (k : ℕ). get_or (bytes ++ rest) k 0) (omega arith)
          ∙ get_or_append_left bytes rest 0 j (omega arith);
      kept = λ i where_it_is. kept page bytes image eight room long i where_it_is;
    }

module _ {M : Type 0} (made : List ℕ → ℕ → Result M ℕ) where
  module _ (f : Draft M → Result (Draft M) ℕ) where
    past : (n : ℕ) (row : List (Draft M)) → length row ≤ n → changed_at n f row ≡ Err 18
    past n [] h = refl
    past zero (d ∷ row) h = absurd (omega arith)
    past (suc n) (d ∷ row) h = ap (behind d) (past n row (omega arith))

    -- the row by what became of one draft
    abbrev Changed : ℕ → List (Draft M) → Result (Draft M) ℕ → Result (List (Draft M)) ℕ → Type 0
    Changed n row (Ok d) q = (after : List (Draft M)) × ((q ≡ Ok after) × Replaced made n d row after)
    Changed n row (Err why) q = q ≡ Err why

    first_others : (d : Draft M) (e : Draft M) (row : List (Draft M)) (k : ℕ) → k ≢ 0 → slice_get (d ∷ row) k ≡ slice_get (e ∷ row) k
    first_others d e row zero other = absurd (other refl)
    first_others d e row (suc k) other = refl

    rest_others : (n : ℕ) (d : Draft M) (row after : List (Draft M)) → ((k : ℕ) → k ≢ n → slice_get after k ≡ slice_get row k) → (k : ℕ) → k ≢ suc n → slice_get (d ∷ after) k ≡ slice_get (d ∷ row) k
    rest_others n d row after same zero other = refl
    rest_others n d row after same (suc k) other = same k (λ e. other (ap suc e))

    in_rest : (n : ℕ) (d : Draft M) (row : List (Draft M)) (r : Result (Draft M) ℕ) (q : Result (List (Draft M)) ℕ) → Changed n row r q → Changed (suc n) (d ∷ row) r (behind d q)
    in_rest n d row (Ok e) q c =
        (d ∷ c.0, (ap (behind d) c.1.0, record { this = c.1.1.this; others = rest_others n d row c.0 c.1.1.others }))
    in_rest n d row (Err why) q c = ap (behind d) c

    in_first : (d : Draft M) (row : List (Draft M)) (r : Result (Draft M) ℕ) → Changed 0 (d ∷ row) r (in_front r row)
    in_first d row (Ok e) = (e ∷ row, (refl, record { this = refl; others = first_others e d row }))
    in_first d row (Err why) = refl

    found : (n : ℕ) (row : List (Draft M)) (d : Draft M) → slice_get row n ≡ Some d → Changed n row (f d) (changed_at n f row)
    found n [] d e = absurd cc
    found zero (first ∷ row) d e =
        let same : first ≡ d = cc in
        subst (λ (x : Draft M). Changed 0 (first ∷ row) (f x) (in_front (f first) row)) same (in_first first row (f first))
    found (suc n) (first ∷ row) d e = in_rest n first row (f d) (changed_at n f row) (found n row d e)

  -- a page line by the row that it changes
  module _ (pages : ℕ) (sized : (image : List ℕ) (draw : ℕ) (tag : M) → made image draw ≡ Ok tag → length image ≡ 8 * pages)
      (left : List (Draft M) → Stage) (wrap : Result (List (Draft M)) ℕ → Came)
      (on : (after : List (Draft M)) → wrap (Ok after) ≡ Went [] (left after)) (off : (why : ℕ) → wrap (Err why) ≡ Stopped why)
      (row : List (Draft M)) (n page : ℕ) (bytes : List ℕ) (eight : length bytes ≡ 8) where
    set_by : (d : Draft M) (image : List ℕ) (m : Result M ℕ) (q : Result (List (Draft M)) ℕ) → Changed (repaged made page bytes) n row (remade m image d.draw) q
        → MatchResult m (λ tag. (after : List (Draft M)) × ((wrap q ≡ Went [] (left after)) × Replaced made n (record { image = image; draw = d.draw; tag = tag }) row after)) (λ why. wrap q ≡ Stopped why)
    set_by d image (Ok tag) q c = (c.0, (ap wrap c.1.0 ∙ on c.0, c.1.1))
    set_by d image (Err why) q c = ap wrap c ∙ off why

    no_tag : (b : Bool) → length row ≤ n → cond b (changed_at n (repaged made page bytes) row) (Err 18) ≡ Err 18
    no_tag true h = past (repaged made page bytes) n row h
    no_tag false h = refl

    pub page_line : PageLine made pages row n page bytes left (wrap (row_paged made pages n page bytes row))
    page_line =
        record {
          no_tag = λ h. ap wrap (no_tag (ltb page pages) h) ∙ off 18;
          no_page = λ h. ap wrap (cond-false (ltb page pages) _ _ (le-ltb page pages h)) ∙ off 18;
          set = λ d there is_made below. (
            put_page page bytes d.image,
            (
              written page bytes d.image eight (let long = sized d.image d.draw d.tag is_made in omega arith),
              set_by d (put_page page bytes d.image) (made (put_page page bytes d.image) d.draw) _
                  (subst (λ (q : Result (List (Draft M)) ℕ). Changed (repaged made page bytes) n row (repaged made page bytes d) q)
                  (sym (cond-true (ltb page pages) _ _ (lt-ltb page pages below))) (found (repaged made page bytes) n row d there)),
            ),
          );
        }

-- an image of which a tag is made has the kind's length
asked_first : {A : Type 0} (b : Bool) (why : ℕ) (go : Result A ℕ) (x : A) → asked b why go ≡ Ok x → b ≡ true
asked_first true why go x e = refl
asked_first false why go x e = absurd cc

pump_sized : (image : List ℕ) (draw : ℕ) (tag : PumpMeaning) → pump_made image draw ≡ Ok tag → length image ≡ 256
pump_sized image draw tag e = eqb-true _ _ (asked_first _ _ _ tag e)

gauge_sized : (image : List ℕ) (draw : ℕ) (tag : GaugeMeaning) → gauge_made image draw ≡ Ok tag → length image ≡ 16
gauge_sized image draw tag e = eqb-true _ _ (asked_first _ _ _ tag e)

zeros : (n : ℕ) → All (λ (byte : ℕ). byte ≡ 0) (replicate n 0)
zeros n = All-replicate (λ (byte : ℕ). byte ≡ 0) n 0 refl

behind_from_32 : (n page : ℕ) (bytes : List ℕ) (front : List (Draft PumpMeaning)) (back : List (Draft GaugeMeaning)) → paged (32 + n) page bytes (Naming front back) ≡ with_back front (back_paged n page bytes back)
behind_from_32 n page bytes front back =
    cond-false (ltb (32 + n) 32) _ _ (le-ltb (32 + n) 32 (omega arith))
    ∙ ap (λ (k : ℕ). with_back front (back_paged k page bytes back)) (omega arith)

-- the tray of drafts, place by place
module _ {S H : Type 0} where
  row_loaded : (drafts : List (Draft (Meaning S H))) (n : ℕ)
      → slice_get (map present (tags_of drafts)) n ≡ option_map (λ d. record { here = true; tag = d.tag }) (slice_get drafts n)
  row_loaded [] n = refl
  row_loaded (d ∷ drafts) zero = refl
  row_loaded (d ∷ drafts) (suc n) = row_loaded drafts n

pub tag_lines : TagLines
tag_lines =
    record {
      pump = λ draw front back. (blank_pump draw, (record { long = refl; zeros = zeros 256; drawn = refl; is_made = refl }, refl));
      gauge = λ draw front back. (blank_gauge draw, (record { long = refl; zeros = zeros 16; drawn = refl; is_made = refl }, refl));
      front = λ tag page bytes front back below eight.
          subst (λ (came : Came). PageLine pump_made 32 front tag page bytes (λ row. Naming row back) came)
          (sym (cond-true (ltb tag 32) _ _ (lt-ltb tag 32 below)))
          (page_line pump_made 32 pump_sized (λ row. Naming row back) (λ q. with_front q back) (λ after. refl) (λ why. refl) front tag page bytes eight);
      back = λ n page bytes front back eight.
          subst (λ (came : Came). PageLine gauge_made 2 back n page bytes (λ row. Naming front row) came)
          (sym (behind_from_32 n page bytes front back))
          (page_line gauge_made 2 gauge_sized (λ row. Naming front row) (λ q. with_back front q) (λ after. refl) (λ why. refl) back n page bytes eight);
      late_tag = λ kind draw tray. refl;
      late_page = λ tag page bytes tray. refl;
      all_made = λ lines front back leads. stage_made lines front back leads;
      dark = λ front back. refl;
      front_loaded = λ front back n. row_loaded front n;
      back_loaded = λ front back n. row_loaded back n;
    }

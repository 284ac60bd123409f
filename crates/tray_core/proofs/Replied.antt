-- What is heard after a frame, by the replies of the tags that have power.
use Rattle.std.proofs.Common.{◌≡◌, ℕ, Bool, true, false, cond, List, [], ◌∷◌, ◌++◌, nat_lt, length, sym, refl, ap, ◌∙◌}
use Rattle.std.proofs.lemmas.List.Elements.{filter-append}
use Rattle.kinds.specs.Kinds.{Behaviour}
use Rattle.tray_core.specs.Replies.{replies_in, replies}
use Rattle.tray_core.specs.Rows.{Post, row_sounds}
use Rattle.tray_core.specs.Sounds.{Sounds, Silence, Reply, meet, voice, count_replies}
use Rattle.tray_core.specs.Trays.{Model, sounds_of}
use Rattle.tray_core.proofs.Meets.{grouping, one_more, audible, has_byte}

-- the replies of a row, by their number
module _ {S H : Type 0} (b : Behaviour S H) where
  spoken : (here : Bool) (reply : List ℕ) (s : Sounds) (more : List (List ℕ)) → s ≡ count_replies (audible more)
      → meet (cond here (voice reply) Silence) s ≡ count_replies (audible (cond here (reply ∷ more) more))
  spoken false reply s more rest = rest
  spoken true [] s more rest = rest
  spoken true (x ∷ bytes) s more rest =
      ap (meet (Reply (x ∷ bytes))) rest ∙ one_more (x ∷ bytes) (audible more)
      ∙ ap count_replies (sym (has_byte x bytes more))

  row_speaks : (frame : List ℕ) (row : List (Post S H)) → row_sounds b frame row ≡ count_replies (audible (replies_in b frame row))
  row_speaks frame [] = refl
  row_speaks frame (p ∷ row) = spoken p.here (b.hears frame p.tag).reply (row_sounds b frame row) (replies_in b frame row) (row_speaks frame row)

both_rows : (xs ys : List (List ℕ)) → meet (count_replies xs) (count_replies ys) ≡ count_replies (xs ++ ys)
both_rows [] ys = refl
both_rows (a ∷ xs) ys =
    ap (λ (s : Sounds). meet s (count_replies ys)) (sym (one_more a xs)) ∙ grouping (Reply a) (count_replies xs) (count_replies ys)
    ∙ ap (meet (Reply a)) (both_rows xs ys) ∙ one_more a (xs ++ ys)

module _ {SF HF SB HB : Type 0} (F : Behaviour SF HF) (B : Behaviour SB HB) (t : Model SF HF SB HB) (frame : List ℕ) where
  heard_so : (field : Bool)
      → cond field (meet (row_sounds F frame t.front) (row_sounds B frame t.back)) Silence
      ≡ count_replies (cond field (audible (replies_in F frame t.front ++ replies_in B frame t.back)) [])
  heard_so true =
      ap (λ (s : Sounds). meet s (row_sounds B frame t.back)) (row_speaks F frame t.front)
      ∙ ap (meet (count_replies (audible (replies_in F frame t.front)))) (row_speaks B frame t.back)
      ∙ both_rows (audible (replies_in F frame t.front)) (audible (replies_in B frame t.back))
      ∙ ap count_replies (sym (filter-append (λ (a : List ℕ). nat_lt 0 (length a)) (replies_in F frame t.front) (replies_in B frame t.back)))
  heard_so false = refl

  pub sounds_are : (all : List (List ℕ)) → replies F B t frame ≡ all → sounds_of F B frame t ≡ count_replies all
  sounds_are all are = heard_so t.field ∙ ap count_replies are

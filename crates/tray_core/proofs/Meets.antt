-- Replies meet in any grouping and order, silence adds nothing, and they are heard by their number.
use Rattle.std.proofs.Common.{◌≡◌, ℕ, List, [], ◌∷◌, sym, refl, ap, ◌∙◌, add_comm, nat_lt, length, arith}
use Rattle.std.proofs.lemmas.Bool.{cond-true, le-leb}
use Rattle.std.specs.List.{filter}
use Rattle.tray_core.specs.Sounds.{Sounds, Silence, Reply, Clash, Meeting, meet, together, voices, count_replies}

pub grouping : (x y z : Sounds) → meet (meet x y) z ≡ meet x (meet y z)
grouping Silence y z = refl
grouping (Reply a) Silence z = refl
grouping (Reply a) (Reply b) Silence = refl
grouping (Reply a) (Reply b) (Reply c) = refl
grouping (Reply a) (Reply b) (Clash n) = ap Clash (omega arith)
grouping (Reply a) (Clash m) Silence = refl
grouping (Reply a) (Clash m) (Reply c) = refl
grouping (Reply a) (Clash m) (Clash n) = ap Clash (omega arith)
grouping (Clash l) Silence z = refl
grouping (Clash l) (Reply b) Silence = refl
grouping (Clash l) (Reply b) (Reply c) = ap Clash (omega arith)
grouping (Clash l) (Reply b) (Clash n) = ap Clash (omega arith)
grouping (Clash l) (Clash m) Silence = refl
grouping (Clash l) (Clash m) (Reply c) = ap Clash (omega arith)
grouping (Clash l) (Clash m) (Clash n) = ap Clash (omega arith)

pub silence : (x : Sounds) → meet x Silence ≡ x
silence Silence = refl
silence (Reply a) = refl
silence (Clash n) = refl

order : (x y : Sounds) → meet x y ≡ meet y x
order Silence y = sym (silence y)
order (Reply a) Silence = refl
order (Reply a) (Reply b) = refl
order (Reply a) (Clash n) = refl
order (Clash m) Silence = refl
order (Clash m) (Reply b) = refl
order (Clash m) (Clash n) = ap Clash (add_comm m n)

pub one_more : (a : List ℕ) (replies : List (List ℕ)) → meet (Reply a) (count_replies replies) ≡ count_replies (a ∷ replies)
one_more a [] = refl
one_more a (b ∷ []) = refl
one_more a (b ∷ (c ∷ more)) = ap Clash (omega arith)

-- the replies that have a byte
abbrev pub audible : List (List ℕ) → List (List ℕ)
audible replies = filter (λ reply. nat_lt 0 (length reply)) replies

pub has_byte : (b : ℕ) (bytes : List ℕ) (more : List (List ℕ)) → audible ((b ∷ bytes) ∷ more) ≡ (b ∷ bytes) ∷ audible more
has_byte b bytes more = cond-true (nat_lt 0 (length (b ∷ bytes))) _ _ (le-leb 1 (length (b ∷ bytes)) (omega arith))

by_number : (replies : List (List ℕ)) → together (voices replies) ≡ count_replies (audible replies)
by_number [] = refl
by_number ([] ∷ more) = by_number more
by_number ((b ∷ bytes) ∷ more) =
    ap (meet (Reply (b ∷ bytes))) (by_number more) ∙ one_more (b ∷ bytes) (audible more)
    ∙ ap count_replies (sym (has_byte b bytes more))

pub meeting : Meeting
meeting = record { grouping = grouping; order = order; silence = silence; by_number = by_number }

-- one more voice joins what was heard, or none does, and the rest meets it
pub joins_on : (heard own next from to : Sounds) → next ≡ meet heard own → from ≡ meet own to → meet next to ≡ meet heard from
joins_on heard own next from to is rest =
    ap (λ (s : Sounds). meet s to) is ∙ grouping heard own to ∙ ap (meet heard) (sym rest)

pub stays_on : (heard next from to : Sounds) → next ≡ heard → from ≡ to → meet next to ≡ meet heard from
stays_on heard next from to is rest = ap (λ (s : Sounds). meet s to) is ∙ ap (meet heard) (sym rest)

-- What a reader hears after a frame, and how replies meet on the air.
use Rattle.std.specs.Prelude.{◌≡◌, ℕ, ◌+◌, List, [], ◌∷◌, length, nat_lt}
use Rattle.std.specs.List.{filter}

-- Nothing, one reply, or a clash of so many.
pub data Sounds : Type 0 where
  Silence : Sounds
  Reply : List ℕ → Sounds
  Clash : ℕ → Sounds

-- A tag that answers no bytes is silent.
abbrev pub voice : List ℕ → Sounds
voice [] = Silence
voice (b ∷ bytes) = Reply (b ∷ bytes)

-- Two things heard at once.
abbrev pub meet : Sounds → Sounds → Sounds
meet Silence y = y
meet (Reply a) Silence = Reply a
meet (Reply a) (Reply b) = Clash 2
meet (Reply a) (Clash n) = Clash (n + 1)
meet (Clash m) Silence = Clash m
meet (Clash m) (Reply b) = Clash (m + 1)
meet (Clash m) (Clash n) = Clash (m + n)

-- Many things heard at once.
abbrev pub together : List Sounds → Sounds
together [] = Silence
together (x ∷ xs) = meet x (together xs)

-- The replies in hand, each of one byte or more: none is silence, one is heard, more clash.
abbrev pub count_replies : List (List ℕ) → Sounds
count_replies [] = Silence
count_replies (a ∷ []) = Reply a
count_replies (a ∷ (b ∷ more)) = Clash (length more + 2)

abbrev pub voices : List (List ℕ) → List Sounds
voices [] = []
voices (a ∷ more) = voice a ∷ voices more

-- Grouping and order do not change what is heard, silence adds nothing,
-- and replies that meet are heard by the number of those that have a byte.
pub record Meeting : Type 0 where
  pub grouping : (x y z : Sounds) → meet (meet x y) z ≡ meet x (meet y z)
  pub order : (x y : Sounds) → meet x y ≡ meet y x
  pub silence : (x : Sounds) → meet x Silence ≡ x
  pub by_number : (replies : List (List ℕ))
      → together (voices replies) ≡ count_replies (filter (λ reply. nat_lt 0 (length reply)) replies)

-- The pages of the story's tags.
use Rattle.std.specs.Prelude.{ℕ, List, [], ◌∷◌, ◌++◌, replicate, codes}
use Rattle.tags.specs.Pages.{put_page}

abbrev pub password : List ℕ
password = 0xC0 ∷ 0xFF ∷ 0xEE ∷ 1 ∷ 2 ∷ 3 ∷ 4 ∷ 5 ∷ []

-- Serial number, application data, the password on page 3 and user data on page 4; all else zero.
abbrev pub pump_image : List ℕ → List ℕ
pump_image serial =
    put_page 4 (codes "dose 5ml")
    (put_page 3 password
    (put_page 1 (codes "PUMP" ++ replicate 4 0)
    (put_page 0 (serial ++ replicate 4 0)
    (replicate 256 0))))

-- Serial number and application data.
abbrev pub gauge_image : List ℕ → List ℕ
gauge_image serial = serial ++ (replicate 4 0 ++ (codes "GAUG" ++ replicate 4 0))

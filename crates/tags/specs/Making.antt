-- Making a tag from an image: the questions in their order, each with its refusal's number, and the tag just made.
use Rattle.std.specs.Prelude.{◌≡◌, ℕ, false, List, length, take, drop, replicate, Ok, Result, ◌==◌, nat_le}
use Rattle.std.specs.Str.{bytes_eq}
use Rattle.refusals.specs.Numbers.{asked}
use Rattle.tags.specs.Links.{new_link}
use Rattle.tags.specs.Gauge.{GaugeMeaning}
use Rattle.tags.specs.Pages.{page_at, unlocked, counter_in}
use Rattle.tags.specs.Pump.{PumpMeaning}

-- A tag just made is off and closed, its card number is 0.
abbrev pub new_pump : List ℕ → ℕ → PumpMeaning
new_pump image draw =
    record { shown = record { link = new_link draw; pages = take 24 image }; hidden = drop 24 image; opened = false }

-- 256 bytes? Lock bit 0 clear? Counter at most 0x8000?
abbrev pub pump_made : List ℕ → ℕ → Result PumpMeaning ℕ
pump_made image draw =
    asked (length image == 256) 1
    (asked (unlocked 0 (page_at 0 image)) 2
    (asked (nat_le (counter_in (page_at 2 image)) 0x8000) 3
    (Ok (new_pump image draw))))

-- A pump tag just made, from some image and draw number.
pub record JustMade (m : PumpMeaning) : Type 0 where
  pub image : List ℕ
  pub draw : ℕ
  pub from : pump_made image draw ≡ Ok m

-- A gauge: 16 bytes? Bytes 4 to 7 zero?
abbrev pub new_gauge : List ℕ → ℕ → GaugeMeaning
new_gauge image draw = record { shown = record { link = new_link draw; pages = image }; hidden = tt; opened = false }

abbrev pub gauge_made : List ℕ → ℕ → Result GaugeMeaning ℕ
gauge_made image draw =
    asked (length image == 16) 1
    (asked (bytes_eq (take 4 (drop 4 image)) (replicate 4 0)) 2
    (Ok (new_gauge image draw)))

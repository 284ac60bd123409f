-- What is made of an image, over all images: by the bytes that the questions ask for.
use Rattle.std.specs.Prelude.{◌≡◌, ◌≢◌, ℕ, ◌+◌, ◌*◌, ◌%◌, ◌<◌, ◌≤◌, false, List, length, Err, IsOkAnd, slice_index}
use Rattle.kinds.specs.Kinds.{Meaning}
use Rattle.tags.specs.declared.link.State.TheVariants.{Off}
use Rattle.tags.specs.Common.{Shown}
use Rattle.tags.specs.DataLaws.{memory_of}
use Rattle.tags.specs.Gauge.{GaugeMeaning}
use Rattle.tags.specs.Making.{pump_made, gauge_made}
use Rattle.tags.specs.Pump.{PumpMeaning, PumpSized}

-- A tag just made: off and closed, with card number 0 and its draw number.
pub record IsNew {H : Type 0} (draw : ℕ) (m : Meaning Shown H) : Type 0 where
  pub state : m.shown.link.state ≡ Off
  pub card : m.shown.link.cid ≡ 0
  pub drawn : m.shown.link.draw ≡ draw
  pub opened : m.opened ≡ false

-- It holds the image, of which a pump tag shows the first 24 bytes.
pub record PumpHolds (image : List ℕ) (draw : ℕ) (m : PumpMeaning) : Type 0 where
  pub new : IsNew draw m
  pub sized : PumpSized m
  pub bytes : (i : ℕ) → i < 256 → slice_index (memory_of m) i ≡ slice_index image i

-- Bytes 22 and 23 of an image are the counter, low byte first.
abbrev pub image_counter : List ℕ → ℕ
image_counter image = slice_index image 22 + 256 * slice_index image 23

-- A pump tag: 256 bytes? Byte 4 even, so that page 0 is not locked? Counter at most 0x8000?
pub record PumpMaking (image : List ℕ) (draw : ℕ) : Type 0 where
  pub made : length image ≡ 256 → slice_index image 4 % 2 ≡ 0 → image_counter image ≤ 0x8000
      → IsOkAnd (pump_made image draw) (PumpHolds image draw)
  pub size : (length image ≢ 256) → pump_made image draw ≡ Err 1
  pub locked : length image ≡ 256 → slice_index image 4 % 2 ≡ 1 → pump_made image draw ≡ Err 2
  pub counted : length image ≡ 256 → slice_index image 4 % 2 ≡ 0 → 0x8000 < image_counter image
      → pump_made image draw ≡ Err 3

pub record GaugeHolds (image : List ℕ) (draw : ℕ) (m : GaugeMeaning) : Type 0 where
  pub new : IsNew draw m
  pub bytes : m.shown.pages ≡ image

-- A gauge: 16 bytes? Bytes 4 to 7 zero?
pub record GaugeMaking (image : List ℕ) (draw : ℕ) : Type 0 where
  pub made : length image ≡ 16 → ((i : ℕ) → 4 ≤ i → i < 8 → slice_index image i ≡ 0)
      → IsOkAnd (gauge_made image draw) (GaugeHolds image draw)
  pub size : (length image ≢ 16) → gauge_made image draw ≡ Err 1
  pub locked : length image ≡ 16 → (i : ℕ) → 4 ≤ i → i < 8 → (slice_index image i ≢ 0)
      → gauge_made image draw ≡ Err 2

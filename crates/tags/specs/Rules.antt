-- Who may read and write each page of a pump tag.
use Rattle.std.specs.Prelude.{ℕ, Bool, true, false, cond, ◌==◌, nat_lt}
use Rattle.tags.specs.declared.rights.Reading.{Reading}
use Rattle.tags.specs.declared.rights.Reading.TheVariants as reading
use Rattle.tags.specs.declared.rights.Writing.{Writing}
use Rattle.tags.specs.declared.rights.Writing.TheVariants as writing
use Rattle.tags.specs.declared.rights.Rights.{Rights}

-- Reading: always for pages 0 to 2, never for page 3, the rest while the tag is open.
abbrev pub reading_of : ℕ → Reading
reading_of page = cond (nat_lt page 3) reading.Always (cond (page == 3) reading.Never reading.WhenOpen)

-- Writing: never for page 0, page 2 by COUNT, the rest while the tag is open.
abbrev pub writing_of : ℕ → Writing
writing_of page = cond (page == 0) writing.Never (cond (page == 2) writing.ByCount writing.WhenOpen)

abbrev pub rights_of : ℕ → Rights
rights_of page = record { read = reading_of page; write = writing_of page }

-- Tests on rights.
abbrev pub ever_read : Reading → Bool
ever_read reading.Always = true
ever_read reading.WhenOpen = true
ever_read reading.Never = false

abbrev pub read_now : Reading → Bool → Bool
read_now reading.Always opened = true
read_now reading.WhenOpen opened = opened
read_now reading.Never opened = false

abbrev pub by_write : Writing → Bool
by_write writing.WhenOpen = true
by_write writing.ByCount = false
by_write writing.Never = false

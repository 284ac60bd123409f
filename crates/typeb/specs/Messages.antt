-- The bytes that a message holds.
use Rattle.std.specs.Prelude.{ℕ, List, take}
use Rattle.typeb.specs.declared.message.Message.{Message}

abbrev pub bytes_of : Message → List ℕ
bytes_of m = take m.len m.bytes

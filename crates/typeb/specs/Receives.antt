-- A frame that was read once stands for the bytes that came.
use Rattle.std.specs.Prelude.{ℕ, List}
use Rattle.typeb.specs.declared.received.Received.{Received}

abbrev pub on_air : Received → List ℕ
on_air r = r.bytes.now

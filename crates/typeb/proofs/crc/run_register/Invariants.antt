-- The register has taken the bytes so far.
use Rattle.std.proofs.Common.{◌≡◌, take}
use Rattle.typeb.specs.CheckBytes.{register}
use Rattle.typeb.proofs.crc.run_register.Given as goal

abbrev pub invariant-loop-byte : goal.invariant-loop-byte
invariant-loop-byte l = l.reg ≡ register (take l.byte-index l.bytes)

-- The value so far, and the digits of the rest, make the value of the field.
use Rattle.std.proofs.Common.{◌≡◌, ◌^◌, ◌<◌, drop}
use Rattle.fields.specs.Fields.{digits_after}
use Rattle.fields.proofs.digits_value.Given as goal

abbrev pub invariant-loop-c : goal.invariant-loop-c
invariant-loop-c l = (digits_after l.value (drop l.c-index l.field) ≡ digits_after 0 l.field) × (l.value < 10 ^ l.c-index)

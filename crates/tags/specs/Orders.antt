-- What the code answers of a frame that a link heard.
use Rattle.std.specs.Prelude.{Some, None, Option}
use Rattle.kinds.specs.declared.said.Said.{Said}
use Rattle.tags.specs.declared.link.Next.{Next}
use Rattle.tags.specs.declared.link.Next.TheVariants.{Silence, Say, Obey}
use Rattle.tags.specs.Links.{Order}

abbrev pub said_next : Next → Option Said
said_next Silence = None
said_next (Say said) = Some said
said_next (Obey op address bytes) = None

abbrev pub order_next : Next → Option Order
order_next Silence = None
order_next (Say said) = None
order_next (Obey op address bytes) = Some (record { op = op; address = address; bytes = bytes.now })

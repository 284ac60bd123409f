-- What a value of the code stands for, by what its body holds.
use Rattle.kinds.specs.Kinds.{Meaning}
use Rattle.tags.specs.Common.{Shown, Contents, tag_by}
use Rattle.tags.specs.declared.linked.Linked.{Linked}

abbrev pub tag_of : {B H : Type 0} → (B → Contents H) → Linked B → Meaning Shown H
tag_of holds tag = tag_by tag.link (holds tag.body)

use Rattle.std.proofs.Common.{◌%◌, arith}
use Rattle.std.proofs.lemmas.List.FromFn.{get_or-map-range_with_len}
use Rattle.tags.specs.Rules.{rights_of}
use Rattle.tags.proofs.rights.rights_of.Goals as goal

pub returns : goal.returns
returns c = get_or-map-range_with_len rights_of 0 32 (c.args.page % 32) (c.args.page % 32) _ (omega arith) (omega arith)

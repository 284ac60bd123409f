use Rattle.std.proofs.Common.{List, ℕ, ◌++◌, ap, sym, ◌∙◌, rules, append_assoc}
use Rattle.std.proofs.Output.{has_written_append}
use Rattle.std.specs.Slice.Iter.{chunks_rest}
use Rattle.hex_pairs.specs.Hex.{hex_text}
use Rattle.hex_pairs.proofs.Texts.{text_append}
use Rattle.hex_pairs.proofs.HexDisplay.fmt.Goals as goal

pub loop-part-preserved : goal.loop-part-preserved
loop-part-preserved g c =
    let part = c.in-Some.part.now in
    let left = chunks_rest c.next.new.self in
    let steps = c.in-Some.ensures.steps in (
      search rules,
      tt,
      steps.0 ∙ c.loop-part.invariant.2,
      λ plain.
          let so_far = c.loop-part.invariant.3 plain in (
            so_far.0 ++ hex_text part,
            has_written_append _ _ _ _ _ _ so_far.1 (search rules),
            append_assoc so_far.0 _ _ ∙ ap (λ (t : List ℕ). so_far.0 ++ t) (sym (text_append part left) ∙ ap hex_text (sym steps.1.0))
                ∙ so_far.2,
          ),
    )

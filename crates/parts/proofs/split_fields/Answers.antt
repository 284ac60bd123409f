use Rattle.std.proofs.Common.{◌≡◌, ℕ, ◌==◌, Bool, cond, [], ◌∷◌, take, ap, ◌∙◌, rules}
use borrow.Author.Tests.{tests}
use Rattle.std.proofs.lemmas.List.Sorted.{answers_always}
use Rattle.std.specs.List.{slice_split}
use Rattle.std.specs.Slice.Iter.{split_rest}
use Rattle.parts.specs.Parts.{parted}
use Rattle.parts.proofs.Cuts.{cut, parts_some, left, came, first_given, front_given}
use Rattle.parts.proofs.split_fields.Goals as goal

pub returns-clause-result : goal.returns-clause-result
returns-clause-result c =
    let comma : ℕ → Bool = λ x. x == 44 in
    let all : left comma c.split-fields.result ≡ parted 44 c.args.line.now =
    ap (λ b. cond b [] (slice_split comma (split_rest c.split-fields.result))) c.split-fields.ensures.done ∙ ap (slice_split comma) c.split-fields.ensures.rest in
    let first = came comma _ _ _ _ c.next.ensures.steps (answers_always _ _ _ (λ f a r g h. search (rules, tests))) in
    let second = came comma _ _ _ _ c.next-2.ensures.steps (answers_always _ _ _ (λ f a r g h. search (rules, tests))) in
    let third = came comma _ _ _ _ c.next-3.ensures.steps (answers_always _ _ _ (λ f a r g h. search (rules, tests))) in
    let fourth = came comma _ _ _ _ c.next-4.ensures.steps (answers_always _ _ _ (λ f a r g h. search (rules, tests))) in
    let fifth = came comma _ _ _ _ c.next-5.ensures.steps (answers_always _ _ _ (λ f a r g h. search (rules, tests))) in
    front_given c.next.result c.unwrap_or-first.result _ _ (parted 44 c.args.line.now) c.unwrap_or-first.ensures (parts_some 44 c.args.line.now)
    (first_given comma c.split-fields.result (c.next.result ∷ c.next-2.result ∷ c.next-3.result ∷ c.next-4.result ∷ c.next-5.result ∷ []) (_, (first, (_, (second, (_, (third, (_, (fourth, (_, (fifth, tt)))))))))) ∙ ap (take 5) all)

pub returns-clause-cut : goal.returns-clause-cut
returns-clause-cut c = cut 44 c.args.line.now

use Rattle.std.proofs.Common.{◌≡◌, ℕ, Bool, true, false, cond, List, [], ◌∷◌, Some, None, Option, Bor, sym, refl, ap, ◌∙◌, arith}
use Rattle.std.proofs.lemmas.Bool.Decides.{nat_tests}
use Rattle.std.specs.List.{find}
use Rattle.std.specs.Option.{option_map}
use Rattle.std.specs.Str.{bytes_eq}
use Rattle.console.specs.Words.{word_of, names_of}
use Rattle.console.specs.declared.words.Word.{Word}
use Rattle.console.specs.declared.words.Word.TheVariants.{Known}
use Rattle.console.proofs.words.word_of.Goals as goal
use Rattle.console.proofs.words.word_of.Goals.{then-ne+else-is_dashed, else-ne}

-- the option that was found, or what the word means without options
abbrev meant : {T : Type 0} → Option T → Word T → Word T
meant (Some option) other = Known option
meant None other = other

meant_at : {T : Type 0} (b : Bool) (x : Bor (List ℕ) × T) (found : Option (Bor (List ℕ) × T)) (after other : Word T)
    → after ≡ meant (option_map (λ o. o.1) found) other → cond b (Known x.1) after ≡ meant (option_map (λ o. o.1) (cond b (Some x) found)) other
meant_at true x found after other h = refl
meant_at false x found after other h = h

means : {T : Type 0} (word : List ℕ) (options : List (Bor (List ℕ) × T))
    → word_of (names_of options) word ≡ meant (option_map (λ o. o.1) (find (λ o. bytes_eq word o.0.now) options)) (word_of [] word)
means word [] = refl
means word (x ∷ options) = meant_at (bytes_eq word x.0.now) x _ _ _ (means word options)

pub returns-in-Some : goal.returns-in-Some
returns-in-Some g c =
    sym (means c.args.word.now c.args.options.now ∙ ap (λ o. meant o (word_of [] c.args.word.now)) (sym c.option_of.ensures ∙ c.in-Some.is))

pub returns-in-None : goal.returns-in-None
returns-in-None g c =
    let input = means c.args.word.now c.args.options.now ∙ ap (λ o. meant o (word_of [] c.args.word.now)) (sym c.option_of.ensures ∙ c.in-None.is) in
    grind (arith, nat_tests, input)

pub returns-in-None-2 : goal.returns-in-None-2
returns-in-None-2 g c =
    let input = means c.args.word.now c.args.options.now ∙ ap (λ o. meant o (word_of [] c.args.word.now)) (sym c.option_of.ensures ∙ c.in-None-2.is) in
    elim c.if-ne.branch [ then-ne+else-is_dashed w ↦ grind (arith, nat_tests, input) | else-ne w ↦ grind (arith, nat_tests, input) ]

-- The words of the command line.
use Rattle.std.specs.Prelude.{ℕ, cond, List, codes}
use Rattle.std.specs.Str.{bytes_eq}
use Rattle.console.specs.Words.{dashed}
use Rattle.console.specs.declared.words.Word.{Word}
use Rattle.console.specs.declared.words.Word.TheVariants.{Known, Unknown, Input}
use Rattle.tray.specs.declared.options.Flag.{Flag}
use Rattle.tray.specs.declared.options.Flag.TheVariants.{Help}

-- What a word means: an option, or the name of the input. A dash alone is such a name.
abbrev pub word_of : List ℕ → Word Flag
word_of word =
    cond (bytes_eq word (codes "--help")) (Known Help)
    (cond (bytes_eq word (codes "-")) Input
    (cond (dashed word) Unknown Input))

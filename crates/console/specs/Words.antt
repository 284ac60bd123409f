-- Words of a command line.
use Rattle.std.specs.Prelude.{◌≡◌, ℕ, Bool, true, false, cond, ◌&&◌, List, [], ◌∷◌, length, map, codes, ◌==◌, nat_lt, slice_index}
use Rattle.std.specs.Borrow.{Bor}
use Rattle.std.specs.Str.{bytes_eq}
use Rattle.console.specs.declared.words.Word.{Word}
use Rattle.console.specs.declared.words.Word.TheVariants.{Known, Unknown, Input}

-- A word that begins with a dash.
abbrev pub dashed : List ℕ → Bool
dashed word = nat_lt 0 (length word) && slice_index word 0 == 45

-- Words that begin with a dash, and words that do not.
abbrev pub Worked : Type 0
Worked =
    map dashed (codes "-" ∷ codes "-x" ∷ codes "--help" ∷ codes "a-b" ∷ codes "+x" ∷ [] ∷ [])
    ≡ true ∷ true ∷ true ∷ false ∷ false ∷ false ∷ []

-- What a word means where options have these names: an option, or the name of the input. A dash alone is such a name.
abbrev pub word_of : {T : Type 0} → List (List ℕ × T) → List ℕ → Word T
word_of [] word = cond (bytes_eq word (codes "-")) Input (cond (dashed word) Unknown Input)
word_of (option ∷ options) word = cond (bytes_eq word option.0) (Known option.1) (word_of options word)

-- The options of a table, each with its name.
abbrev pub names_of : {T : Type 0} → List (Bor (List ℕ) × T) → List (List ℕ × T)
names_of options = map (λ option. (option.0.now, option.1)) options

-- By this table each word means what it should.
abbrev pub MeansAs : {T : Type 0} → (List ℕ → Word T) → List (Bor (List ℕ) × T) → Type 0
MeansAs means options = (word : List ℕ) → word_of (names_of options) word ≡ means word

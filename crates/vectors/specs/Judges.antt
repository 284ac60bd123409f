-- How the check bytes of a worked example are judged.
use Rattle.std.specs.Prelude.{ℕ, cond, List, ◌++◌, codes, bit_xor, slice_index, slice_set}
use Rattle.std.specs.Str.{bytes_eq}
use Rattle.hex_pairs.specs.Hex.{hex_text}
use Rattle.typeb.specs.CheckBytes.{check_bytes, sealed, sound}
use Rattle.vectors.specs.declared.judging.Verdict.{Verdict}
use Rattle.vectors.specs.declared.judging.Verdict.TheVariants.{Agrees, Differs, Unsound, Blind}

-- A frame with the lowest bit of its first byte flipped.
abbrev pub flipped : List ℕ → List ℕ
flipped frame = slice_set frame 0 (bit_xor (slice_index frame 0) 1)

-- The check bytes are those of the body, the sealed body is sound, and with a flipped bit it is not.
abbrev pub verdict_of : List ℕ → List ℕ → Verdict
verdict_of body check =
    cond (bytes_eq (check_bytes body) check)
    (cond (sound (sealed body)) (cond (sound (flipped (sealed body))) Blind Agrees) Unsound)
    (Differs (check_bytes body))

-- The check bytes that were found in place of those given.
abbrev pub other_words : List ℕ → List ℕ
other_words got = codes "wrong: got " ++ hex_text got

-- A verdict in words.
abbrev pub verdict_words : Verdict → List ℕ
verdict_words Agrees = codes "ok"
verdict_words (Differs got) = other_words got
verdict_words Unsound = codes "wrong: sealed, it is not sound"
verdict_words Blind = codes "wrong: a flipped bit goes unseen"

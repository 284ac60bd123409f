-- Sheets worked out by hand: what each prints, to the last byte.
use Rattle.std.specs.Prelude.{◌≡◌, ℕ, List, [], ◌∷◌, ◌++◌, map, replicate, codes}
use Rattle.parts.specs.Parts.{lined}
use Rattle.sheet.specs.Sheets.{printed_of}

-- One pump tag, its field on: a request for one slot is answered, ATTRIB for card 0 too; READ of page 4 is refused while the tag
-- is closed, the password of all zeros is acknowledged.
abbrev pub one_tag : List (List ℕ)
one_tag =
    codes "tag,pump,0000"
    ∷ codes "page,0,0,1122334400000000"
    ∷ codes "on"
    ∷ codes "send,050000"
    ∷ codes "send,1d1122334400000000"
    ∷ codes "send,40040000000000000000"
    ∷ codes "send,60000000000000000000"
    ∷ codes "off"
    ∷ []

abbrev pub one_tag_prints : List (List ℕ)
one_tag_prints =
    codes "3,ok"
    ∷ codes "4,reply,501122334400000000000041410c"
    ∷ codes "5,reply,0078f0"
    ∷ codes "6,reply,4041ac1a"
    ∷ codes "7,reply,6000126a"
    ∷ codes "8,ok"
    ∷ []

-- Two pump tags in front and a gauge behind, number 32; the second pump tag is left as it was named. All three answer a request
-- for one slot; the gauge alone once the others are lifted. A stock finds all three by their draw numbers, in slots 6, 8 and
-- 10 of 16: a round of 16 frames and three HLTBs, and a silent round.
abbrev pub three_tags : List (List ℕ)
three_tags =
    codes "tag,pump,5678"
    ∷ codes "tag,gauge,7def"
    ∷ codes "tag,pump,9abc"
    ∷ codes "page,0,0,1122334400000000"
    ∷ codes "page,32,0,99aabbcc00000000"
    ∷ codes "page,32,1,4741554700000000"
    ∷ codes "on"
    ∷ codes "send,050000"
    ∷ codes "lift,0"
    ∷ codes "lift,1"
    ∷ codes "raw,05000071ff"
    ∷ codes "place,0"
    ∷ codes "place,1"
    ∷ codes "stock"
    ∷ codes "raw,050000"
    ∷ codes "off"
    ∷ codes "place,33"
    ∷ codes "on"
    ∷ []

abbrev pub three_tags_print : List (List ℕ)
three_tags_print =
    codes "7,ok"
    ∷ codes "8,clash,3"
    ∷ codes "9,ok"
    ∷ codes "10,ok"
    ∷ codes "11,reply,5099aabbcc4741554700004128a0"
    ∷ codes "12,ok"
    ∷ codes "13,ok"
    ∷ codes "14,stock,35,2,0"
    ∷ codes "14,serial,11223344"
    ∷ codes "14,serial,99aabbcc"
    ∷ codes "14,serial,00000000"
    ∷ codes "15,none"
    ∷ codes "16,ok"
    ∷ codes "17,refused,5"
    ∷ []

-- A sheet that is refused, and what it prints.
pub record Sheet : Type 0 where
  pub text : List ℕ
  pub prints : List ℕ

-- Each has the fault that it is refused for, and most one more that is asked later.
abbrev pub refused_sheets : List Sheet
refused_sheets =
    -- no LF; unknown word; number of fields, before their form; form, before a call that came before
    record { text = codes "on"; prints = codes "1,refused,13\n" }
    ∷ record { text = codes "\n"; prints = codes "1,refused,14\n" }
    ∷ record { text = codes "tag,valve\n"; prints = codes "1,refused,15\n" }
    ∷ record { text = codes "on\ntag,valve,x\n"; prints = codes "1,ok\n2,refused,16\n" }
    -- a page line after a call, before its page is sought; a tag line after a call
    ∷ record { text = codes "on\npage,9,99,0011223344556677\n"; prints = codes "1,ok\n2,refused,17\n" }
    ∷ record { text = codes "off\ntag,pump,0000\n"; prints = codes "1,ok\n2,refused,17\n" }
    -- no such page, before what making the tag asks; lock bits of a pump tag
    ∷ record { text = codes "tag,pump,0000\npage,0,32,1122334401000000\n"; prints = codes "2,refused,18\n" }
    ∷ record { text = codes "tag,pump,0000\npage,0,0,1122334401000000\n"; prints = codes "2,refused,2\n" }
    -- 33 tags in a row, before a tag that is not named; such a tag
    ∷ record { text = lined (replicate 33 (codes "tag,pump,0000")) ++ codes "place,99\n"; prints = codes "34,refused,4\n" }
    ∷ record { text = lined (replicate 33 (codes "tag,gauge,0000")) ++ codes "on\n"; prints = codes "34,refused,4\n" }
    ∷ record { text = codes "tag,gauge,0000\nlift,0\n"; prints = codes "2,refused,5\n" }
    ∷ []

-- Every row agrees.
abbrev pub RefusalsWorked : Type 0
RefusalsWorked = map (λ (s : Sheet). printed_of s.text) refused_sheets ≡ map (λ (s : Sheet). s.prints) refused_sheets

pub record WorkedSheets : Type 0 where
  pub one : printed_of (lined one_tag) ≡ lined one_tag_prints
  pub three : printed_of (lined three_tags) ≡ lined three_tags_print
  pub refused : RefusalsWorked

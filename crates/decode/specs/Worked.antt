-- Texts worked out by hand: their reports, and the messages for lines that are no hex.
use Rattle.std.specs.Prelude.{◌≡◌, ℕ, true, false, List, [], ◌∷◌, ◌++◌, replicate, codes}
use Rattle.parts.specs.Parts.{lined}
use Rattle.decode.specs.Report.{reports_of, faults_of}

-- Every kind of frame, and frames that are not heard.
abbrev pub frames : List (List ℕ)
frames =
    codes "05000071ff"
    ∷ codes "05200c2e16"
    ∷ codes "1554b7"
    ∷ codes "1d1122334400000000c1ea"
    ∷ codes "1d11223344000801f70102030405e064"
    ∷ codes "5011223344664b"
    ∷ codes "4fff0000000000000000ee23"
    ∷ codes "30040102030405060708ddcc"
    ∷ codes "2a00f0f1f2f3f4f5f6f78ce4"
    ∷ codes "60010102030405060708ec3d"
    ∷ codes "a00000000000000000003b6d"
    ∷ codes "e0000102030405060708e7d2"
    ∷ codes "000000ccc6"
    ∷ codes "50112233444b66"
    ∷ []

abbrev pub frame_reports : List (List ℕ)
frame_reports =
    codes "05000071ff sound: REQB, family 00, 1 slot"
    ∷ codes "05200c2e16 sound: WUPB, family 20, 16 slots"
    ∷ codes "1554b7 sound: SlotMARKER, slot 2"
    ∷ codes "1d1122334400000000c1ea sound: ATTRIB, serial 11223344, parameters 00000000, card 0, no INF"
    ∷ codes "1d11223344000801f70102030405e064 sound: ATTRIB, serial 11223344, parameters 000801f7, card 7, INF 0102030405"
    ∷ codes "5011223344664b sound: HLTB, serial 11223344"
    ∷ codes "4fff0000000000000000ee23 sound: READ, card 15, page 31"
    ∷ codes "30040102030405060708ddcc sound: WRITE, card 0, page 4, data 0102030405060708"
    ∷ codes "2a00f0f1f2f3f4f5f6f78ce4 sound: LOCK, card 10, lock bits f4f5f6f7"
    ∷ codes "60010102030405060708ec3d sound: CHECK PASSWORD, card 0, password 0102030405060708"
    ∷ codes "a00000000000000000003b6d sound: DESELECT, card 0"
    ∷ codes "e0000102030405060708e7d2 sound: COUNT, card 0, signature 010203040506"
    ∷ codes "000000ccc6 sound: not heard"
    ∷ codes "50112233444b66 unsound: not heard"
    ∷ []

-- Blanks, upper case, and lines that are no hex: a digit left over, a blank inside a pair, another character, a byte that is
-- not printed, and one of 41 characters, of which 40 are quoted.
abbrev pub mixed : List (List ℕ)
mixed = codes " 05\t00 00\r" ∷ [] ∷ codes "0500 0" ∷ codes "0 5" ∷ codes "05g0" ∷ (0 ∷ 255 ∷ 126 ∷ 127 ∷ []) ∷ replicate 40 120 ∷ replicate 41 120 ∷ codes "0A123456" ∷ []

abbrev pub mixed_reports : List (List ℕ)
mixed_reports = codes "05000071ff sound: REQB, family 00, 1 slot" ∷ codes "0a1234562cf6 sound: not heard" ∷ []

abbrev pub mixed_faults : List (List ℕ)
mixed_faults =
    codes "line 3: not hex byte pairs, such as 05 00 00: 0500 0"
    ∷ codes "line 4: not hex byte pairs, such as 05 00 00: 0 5"
    ∷ codes "line 5: not hex byte pairs, such as 05 00 00: 05g0"
    ∷ codes "line 6: not hex byte pairs, such as 05 00 00: \\x00\\xff~\\x7f"
    ∷ (codes "line 7: not hex byte pairs, such as 05 00 00: " ++ replicate 40 120)
    ∷ (codes "line 8: not hex byte pairs, such as 05 00 00: " ++ (replicate 40 120 ++ codes " .."))
    ∷ []

pub record WorkedTexts : Type 0 where
  pub frames_reported : reports_of false (lined frames) ≡ lined frame_reports
  pub sealed_reported : reports_of true (lined mixed) ≡ lined mixed_reports
  pub faults_told : faults_of (lined mixed) ≡ lined mixed_faults

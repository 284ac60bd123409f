-- Nothing is read but what is printed.
use Rattle.std.proofs.Common.{◌≡◌, ℕ, ◌+◌, ◌-◌, ◌*◌, ◌/◌, ◌%◌, ◌<◌, ◌≤◌, Bool, true, false, cond, not, ◌&&◌, eqb, leb, List, [], ◌∷◌, length, Some, None, Ok, Err, decimal, Option, Result, sym, refl, ap, ◌∙◌, ap₂, arith, leb-true}
use Rattle.std.specs.Option.{ok_or}
use Rattle.std.proofs.lemmas.Fmt.{decimal_digit}
use Rattle.std.proofs.lemmas.Bool.{cond-false, lt-leb, ne_eqb}
use Rattle.std.proofs.lemmas.Bool.Decides.{nat_tests}
use Rattle.hex_pairs.specs.Hex.{hex_text, digit_value, byte_of, hex_bytes, before}
use Rattle.hex_pairs.proofs.ReadBack.{only_written}
use Rattle.fields.specs.declared.FieldFault.{FieldFault}
use Rattle.fields.specs.declared.FieldFault.TheVariants as fault
use Rattle.fields.specs.Fields.{number_of, digits_after, draw_of, word_from}
use Rattle.fields.specs.Laws.{NumberOnlyRead, BytesOnlyRead, DrawOnlyRead}
use Rattle.fields.proofs.Digits.{bytes_within}
use Rattle.fields.proofs.ReadBack.{decimal_two, decimal_three}

record NumberText (field : List ℕ) (n : ℕ) : Type 0 where
  below : n < 1000
  text : field ≡ decimal n

record DrawText (field : List ℕ) (draw : ℕ) : Type 0 where
  below : draw < 65536
  text : field ≡ hex_text (draw / 256 ∷ draw % 256 ∷ [])

some_of : {A : Type 0} (o : Option A) (f : FieldFault) (x : A) → ok_or o f ≡ Ok x → o ≡ Some x
some_of (Some y) f x e = cc
some_of None f x e = absurd cc

-- a field does not give a value and a fault
not_both : {A : Type 0} (r : Result A FieldFault) (why : FieldFault) (x : A) → r ≡ Err why → r ≡ Ok x → ◌≡◌ {A = ℕ} 0 1
not_both r why x p q = cc

-- the first of some digits, and what the rest gives
pub record First (value c : ℕ) (rest : List ℕ) (n : ℕ) : Type 0 where
  pub digit : ℕ
  pub small : digit < 10
  pub same : c ≡ 48 + digit
  pub after : digits_after (10 * value + digit) rest ≡ Some n

first_case : (b b' : Bool) (v c : ℕ) (rest : List ℕ) (n : ℕ) → leb 48 c ≡ b → leb c 57 ≡ b' → cond (b && b') (digits_after (10 * v + (c - 48)) rest) None ≡ Some n → First v c rest n
first_case true true v c rest n l h e =
    let low : 48 ≤ c = leb-true 48 c l in
    let high : c ≤ 57 = leb-true c 57 h in
    record { digit = c - 48; small = omega arith; same = omega arith; after = e }
first_case true false v c rest n l h e = absurd cc
first_case false b' v c rest n l h e = absurd cc

first : (v c : ℕ) (rest : List ℕ) (n : ℕ) → digits_after v (c ∷ rest) ≡ Some n → First v c rest n
first v c rest n e = first_case _ _ v c rest n refl refl e

none_left : (v n : ℕ) → digits_after v [] ≡ Some n → v ≡ n
none_left v n e = cc

one_read : (a n : ℕ) → digits_after 0 (a ∷ []) ≡ Some n → NumberText (a ∷ []) n
one_read a n e =
    let f = first 0 a [] n e in
    let value : 10 * 0 + f.digit ≡ n = none_left _ n f.after in
    let small = f.small in
    let same : a ≡ 48 + n = omega (arith, f.same) in
    record { below = omega arith; text = ap (λ (k : ℕ). k ∷ []) same ∙ sym (decimal_digit n (omega arith)) }

two_read : (front : Bool) (a b n : ℕ) → eqb a 48 ≡ front → cond (not front) (ok_or (digits_after 0 (a ∷ b ∷ [])) fault.Number) (Err fault.Number) ≡ Ok n → NumberText (a ∷ b ∷ []) n
two_read true a b n q e = absurd cc
two_read false a b n q e =
    let f = first 0 a (b ∷ []) n (some_of _ _ n e) in
    let g = first _ b [] n f.after in
    let value : 10 * (10 * 0 + f.digit) + g.digit ≡ n = none_left _ n g.after in
    let some : 0 < f.digit = grind (arith, nat_tests, f.same) in
    let small = f.small in
    let tiny = g.small in
    let high : a ≡ 48 + n / 10 = omega (arith, f.same) in
    let low : b ≡ 48 + n % 10 = omega (arith, g.same) in
    record { below = omega arith; text = ap₂ (λ (j k : ℕ). j ∷ k ∷ []) high low ∙ sym (decimal_two n (omega arith) (omega arith)) }

three_read : (front : Bool) (a b c n : ℕ) → eqb a 48 ≡ front → cond (not front) (ok_or (digits_after 0 (a ∷ b ∷ c ∷ [])) fault.Number) (Err fault.Number) ≡ Ok n → NumberText (a ∷ b ∷ c ∷ []) n
three_read true a b c n q e = absurd cc
three_read false a b c n q e =
    let f = first 0 a (b ∷ c ∷ []) n (some_of _ _ n e) in
    let g = first _ b (c ∷ []) n f.after in
    let h = first _ c [] n g.after in
    let value : 10 * (10 * (10 * 0 + f.digit) + g.digit) + h.digit ≡ n = none_left _ n h.after in
    let some : 0 < f.digit = grind (arith, nat_tests, f.same) in
    let small = f.small in
    let tiny = g.small in
    let last = h.small in
    let high : a ≡ 48 + n / 10 / 10 = omega (arith, f.same) in
    let middle : b ≡ 48 + n / 10 % 10 = omega (arith, g.same) in
    let low : c ≡ 48 + n % 10 = omega (arith, h.same) in
    record { below = omega arith; text = ap₂ (λ (j : ℕ) (k : List ℕ). j ∷ k) high (ap₂ (λ (j k : ℕ). j ∷ k ∷ []) middle low) ∙ sym (decimal_three n (omega arith) (omega arith)) }

second_fails : (b b' b'' : Bool) → b' ≡ false → ((b && b') && b'') ≡ false
second_fails true true b'' e = cc
second_fails true false b'' e = refl
second_fails false b' b'' e = refl

number_text : (field : List ℕ) (n : ℕ) → number_of field ≡ Ok n → NumberText field n
number_text [] n e = absurd cc
number_text (a ∷ []) n e = one_read a n (some_of _ _ n e)
number_text (a ∷ b ∷ []) n e = two_read _ a b n refl e
number_text (a ∷ b ∷ c ∷ []) n e = three_read _ a b c n refl e
number_text (a ∷ b ∷ c ∷ d ∷ rest) n e =
    let long : leb (length (a ∷ b ∷ c ∷ d ∷ rest)) 3 ≡ false = lt-leb _ _ (omega arith) in
    let refused : number_of (a ∷ b ∷ c ∷ d ∷ rest) ≡ Err fault.Number = cond-false _ _ _ (second_fails _ _ _ long) in
    let z = not_both _ _ n refused e in
    absurd (omega arith)

pub number_only_read : NumberOnlyRead
number_only_read = record { below = λ field n e. (number_text field n e).below; text = λ field n e. (number_text field n e).text }

pub bytes_case : (b : Bool) (field bytes : List ℕ) → cond b (ok_or (hex_bytes field) fault.Bytes) (Err fault.Bytes) ≡ Ok bytes → hex_bytes field ≡ Some bytes
bytes_case true field bytes e = some_of _ _ bytes e
bytes_case false field bytes e = absurd cc

pub bytes_only_read : BytesOnlyRead
bytes_only_read =
    record {
      enough = λ least most field bytes e. (bytes_within least most field bytes (sym e)).low;
      fits = λ least most field bytes e. (bytes_within least most field bytes (sym e)).high;
      text = λ least most field bytes e. sym (only_written field bytes (bytes_case _ field bytes e));
    }

-- the digits of a draw are those of its two bytes
word_bytes : (h l : Option ℕ) (field : List ℕ) (draw : ℕ) → hex_bytes field ≡ before h (before l (Some [])) → ((v : ℕ) → h ≡ Some v → v < 256) → ((v : ℕ) → l ≡ Some v → v < 256)
    → word_from h l ≡ Some draw → DrawText field draw
word_bytes (Some x) (Some y) field draw e p q w =
    let value : 256 * x + y ≡ draw = cc in
    let small : x < 256 = p x refl in
    let tiny : y < 256 = q y refl in
    let high : x ≡ draw / 256 = omega arith in
    let low : y ≡ draw % 256 = omega arith in
    record { below = omega arith; text = sym (only_written field (x ∷ y ∷ []) e) ∙ ap₂ (λ (j k : ℕ). hex_text (j ∷ k ∷ [])) high low }
word_bytes (Some x) None field draw e p q w = absurd cc
word_bytes None l field draw e p q w = absurd cc

pub digit_below : (c v : ℕ) → digit_value c ≡ Some v → v < 16
digit_below c v e = grind (arith, nat_tests)

pub byte_below : (x y : Option ℕ) (v : ℕ) → ((k : ℕ) → x ≡ Some k → k < 16) → ((k : ℕ) → y ≡ Some k → k < 16) → byte_of x y ≡ Some v → v < 256
byte_below (Some a) (Some b) v p q e =
    let value : a * 16 + b ≡ v = cc in
    let small : a < 16 = p a refl in
    let tiny : b < 16 = q b refl in
    omega arith
byte_below (Some a) None v p q e = absurd cc
byte_below None y v p q e = absurd cc

draw_text : (field : List ℕ) (draw : ℕ) → draw_of field ≡ Ok draw → DrawText field draw
draw_text [] draw e = absurd cc
draw_text (a ∷ []) draw e = absurd cc
draw_text (a ∷ b ∷ []) draw e = absurd cc
draw_text (a ∷ b ∷ c ∷ []) draw e = absurd cc
draw_text (a ∷ b ∷ c ∷ d ∷ []) draw e =
    word_bytes (byte_of (digit_value a) (digit_value b)) (byte_of (digit_value c) (digit_value d)) (a ∷ b ∷ c ∷ d ∷ []) draw refl
    (λ v s. byte_below _ _ v (λ k g. digit_below a k g) (λ k g. digit_below b k g) s)
    (λ v s. byte_below _ _ v (λ k g. digit_below c k g) (λ k g. digit_below d k g) s)
    (some_of _ _ draw e)
draw_text (a ∷ b ∷ c ∷ d ∷ f ∷ rest) draw e =
    let long : eqb (length (a ∷ b ∷ c ∷ d ∷ f ∷ rest)) 4 ≡ false = ne_eqb _ _ (λ (z : length (a ∷ b ∷ c ∷ d ∷ f ∷ rest) ≡ 4). omega arith) in
    let refused : draw_of (a ∷ b ∷ c ∷ d ∷ f ∷ rest) ≡ Err fault.Draw = cond-false _ _ _ long in
    let z = not_both _ _ draw refused e in
    absurd (omega arith)

pub draw_only_read : DrawOnlyRead
draw_only_read = record { below = λ field draw e. (draw_text field draw e).below; text = λ field draw e. (draw_text field draw e).text }

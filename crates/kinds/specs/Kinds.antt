-- What a kind of tag is: what a tag means, how it acts, and the four duties that every kind keeps.
use Rattle.std.specs.Prelude.{◌≡◌, ℕ, ◌≤◌, Bool, true, false, List, [], ◌++◌, length, drop}

-- A tag's meaning: what it shows to everyone, what it hides while it is closed, and whether it is open.
pub record Meaning (S H : Type 0) : Type 0 where
  pub shown : S
  pub hidden : H
  pub opened : Bool

-- What comes of a frame: the tag after it, the bytes that it answers, and whether it accepted a check.
pub record Hears (S H : Type 0) : Type 0 where
  pub after : Meaning S H
  pub reply : List ℕ
  pub accepted : Bool

-- How a kind acts: gaining power, losing power, hearing a frame. Meaning and frame alone decide.
pub record Behaviour (S H : Type 0) : Type 0 where
  pub gains : Meaning S H → Meaning S H
  pub loses : Meaning S H → Meaning S H
  pub hears : List ℕ → Meaning S H → Hears S H

module _ {S H : Type 0} where
  -- Two tags are alike when their shown parts are equal.
  abbrev pub Alike : Meaning S H → Meaning S H → Type 0
  Alike m n = m.shown ≡ n.shown

  abbrev pub Closed : Meaning S H → Type 0
  Closed m = m.opened ≡ false

  -- Alike and both closed: nothing that anyone may see tells them apart.
  pub record Twins (m n : Meaning S H) : Type 0 where
    pub alike : Alike m n
    pub left : Closed m
    pub right : Closed n

-- The duties of a kind.
pub record Duties {S H : Type 0} (off : S → Bool) (acts : Behaviour S H) : Type 0 where
  -- Losing power leaves alike tags alike and closed.
  pub losing : (m n : Meaning S H) → Alike m n → Twins (acts.loses m) (acts.loses n)
  -- Gaining power leaves alike closed tags so.
  pub gaining : (m n : Meaning S H) → Twins m n → Twins (acts.gains m) (acts.gains n)
  -- Two closed alike tags that hear one frame, neither accepting a check, answer equal bytes and end closed and alike.
  pub hearing : (frame : List ℕ) (m n : Meaning S H) → Twins m n → (acts.hears frame m).accepted ≡ false → (acts.hears frame n).accepted ≡ false → ((acts.hears frame m).reply ≡ (acts.hears frame n).reply) × Twins (acts.hears frame m).after (acts.hears frame n).after
  -- An off tag answers nothing and does not change.
  pub silent : (frame : List ℕ) (m : Meaning S H) → off m.shown ≡ true → ((acts.hears frame m).reply ≡ []) × ((acts.hears frame m).after ≡ m)

-- Bytes placed at the front of a lent buffer of 16: every other byte stays as it was, and the length is answered.
pub record Placed (bytes lent given : List ℕ) (len : ℕ) : Type 0 where
  pub buffer : given ≡ bytes ++ drop (length bytes) lent
  pub size : len ≡ length bytes
  pub fits : len ≤ 16

-- What hearing leaves and answers in code: the tag as it should be, the reply placed, and whether a check was accepted.
pub record Told {S H : Type 0} (h : Hears S H) (tag : Meaning S H) (lent given : List ℕ) (len : ℕ) (accepted : Bool) : Type 0 where
  pub tag_after : tag ≡ h.after
  pub placed : Placed h.reply lent given len
  pub check : accepted ≡ h.accepted

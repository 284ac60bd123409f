-- What holds of the count of every stock, whatever the reader hears.
use Rattle.std.proofs.Common.{◌≡◌, ℕ, zero, suc, ◌+◌, ◌*◌, ◌≤◌, Bool, true, false, cond, List, [], ◌∷◌, ◌++◌, length, Some, None, Option, refl, ◌∙◌, arith, lit≤}
use Rattle.std.specs.Str.{bytes_eq}
use Rattle.std.proofs.lemmas.Cmp.{nat_list_eq_equiv}
use Rattle.std.proofs.lemmas.List.{length_push}
use Rattle.std.proofs.lemmas.Bool.{or_parts, or_from}
use Rattle.kinds.specs.Kinds.{Behaviour}
use Rattle.tray_core.specs.Scripts.{Script, done, send, played}
use Rattle.tray_core.specs.Sounds.{Sounds, Silence, Reply, Clash}
use Rattle.tray_core.specs.Stock.{Tally, Fair, Once, lists, nothing, sent, next_round, clashed, loud, noted, answering, halting, in_slot, slots, rounds, round_frames, stocktaking}
use Rattle.tray_core.specs.Trays.{Model, sounds_of, after_frame}

-- a serial number that is not in a list joins it at its end
lists_push : (x s : List ℕ) (xs : List (List ℕ)) → lists x xs ≡ false → bytes_eq s x ≡ false → lists x (xs ++ (s ∷ [])) ≡ false
lists_push x s [] gone other = or_from (bytes_eq x s) false (nat_list_eq_equiv.symm x s ∙ other) refl
lists_push x s (y ∷ ys) gone other =
    let parts = or_parts (bytes_eq x y) (lists x ys) gone in or_from (bytes_eq x y) _ parts.0 (lists_push x s ys parts.1 other)

once_push : (s : List ℕ) (xs : List (List ℕ)) → Once xs → lists s xs ≡ false → Once (xs ++ (s ∷ []))
once_push s [] o new = (refl, tt)
once_push s (x ∷ xs) o new =
    let parts = or_parts (bytes_eq s x) (lists s xs) new in (lists_push x s xs o.0 parts.0, once_push s xs o.1 parts.1)

once_joins : (b : Bool) (s : List ℕ) (xs : List (List ℕ)) → lists s xs ≡ b → Once xs → Once (cond b xs (xs ++ (s ∷ [])))
once_joins true s xs is o = o
once_joins false s xs is o = once_push s xs o is

few_joins : (b : Bool) (s : List ℕ) (xs : List (List ℕ)) → length (cond b xs (xs ++ (s ∷ []))) ≤ length xs + 1
few_joins true s xs = omega arith
few_joins false s xs = let e = length_push xs s in omega arith

-- after k slots of a round and the rounds before it
record After (r k : ℕ) (c : Tally) : Type 0 where
  rounds : c.rounds ≡ r
  least : 16 * c.rounds + k ≤ c.frames + 16
  most : c.frames + 32 ≤ 32 * c.rounds + 2 * k
  clashes : c.clashes ≤ k
  once : Once c.serials
  few : length c.serials + 16 ≤ 16 * c.rounds + k

-- between two rounds, with n to come
record Between (n : ℕ) (c : Tally) : Type 0 where
  rounds : c.rounds + n ≡ 8
  least : 16 * c.rounds ≤ c.frames
  most : c.frames ≤ 32 * c.rounds
  clashes : c.clashes ≤ 16
  once : Once c.serials
  few : length c.serials ≤ 16 * c.rounds

-- every end of a script, whatever was heard on the way
abbrev Ends : (Tally → Type 0) → Script Tally → Type 0
Ends P (done c) = P c
Ends P (send frame next) = (s : Sounds) → Ends P (next s)

played_ends : {SF HF SB HB : Type 0} (F : Behaviour SF HF) (B : Behaviour SB HB) (P : Tally → Type 0) (s : Script Tally) → Ends P s → (t : Model SF HF SB HB) → P (played F B s t)
played_ends F B P (done c) e t = e
played_ends F B P (send frame next) e t = played_ends F B P (next (sounds_of F B frame t)) (e (sounds_of F B frame t)) (after_frame F B frame t)

module _ (P : Tally → Type 0) (r : ℕ) where
  -- one slot, by what is heard in it
  halting_ends : (k : ℕ) (next : Tally → Script Tally) → ((d : Tally) → After r (k + 1) d → Ends P (next d)) → (o : Option (List ℕ)) (c : Tally) → After r k c → Ends P (halting o next (loud (sent c)))
  halting_ends k next after (Some serial) c a =
      λ heard.
      let joined = few_joins (lists serial c.serials) serial c.serials in
      after (noted serial (sent (loud (sent c))))
      (record {
        rounds = a.rounds;
        least = omega arith;
        most = omega arith;
        clashes = omega arith;
        once = once_joins (lists serial c.serials) serial c.serials refl a.once;
        few = omega arith;
      })
  halting_ends k next after None c a =
      after (loud (sent c)) (record { rounds = a.rounds; least = omega arith; most = omega arith; clashes = omega arith; once = a.once; few = omega arith })

  slot_ends : (k : ℕ) (next : Tally → Script Tally) → ((d : Tally) → After r (k + 1) d → Ends P (next d)) → (c : Tally) → After r k c → (s : Sounds) → Ends P (in_slot s next (sent c))
  slot_ends k next after c a Silence =
      after (sent c) (record { rounds = a.rounds; least = omega arith; most = omega arith; clashes = omega arith; once = a.once; few = omega arith })
  slot_ends k next after c a (Reply bytes) = halting_ends k next after (answering bytes) c a
  slot_ends k next after c a (Clash n) =
      after (clashed (sent c)) (record { rounds = a.rounds; least = omega arith; most = omega arith; clashes = omega arith; once = a.once; few = omega arith })

  slots_ends : (frames : List (List ℕ)) (k n : ℕ) → k + length frames ≡ n → (next : Tally → Script Tally) → ((d : Tally) → After r n d → Ends P (next d)) → (c : Tally) → After r k c → Ends P (slots frames next c)
  slots_ends [] k n is next after c a =
      after c (record { rounds = a.rounds; least = omega arith; most = omega arith; clashes = omega arith; once = a.once; few = omega arith })
  slots_ends (frame ∷ frames) k n is next after c a =
      slot_ends k (slots frames next) (λ d b. slots_ends frames (k + 1) n (omega arith) next after d b) c a

-- a round ends the stock, or another follows
last_or_not : (silent : Bool) (d : Tally) (s : Script Tally) → Fair d → Ends Fair s → Ends Fair (cond silent (done d) s)
last_or_not true d s fair more = fair
last_or_not false d s fair more = more

rounds_ends : (n : ℕ) (wake_up : Bool) (c : Tally) → Between n c → Ends Fair (rounds n wake_up c)
unfolding rounds
rounds_ends zero wake_up c b =
    record { some_round = omega arith; most_rounds = omega arith; least_frames = b.least; most_frames = b.most; most_clashes = b.clashes; once = b.once; few = b.few }
rounds_ends (suc n) wake_up c b =
    slots_ends Fair (c.rounds + 1) (round_frames wake_up) 0 16 refl (λ d. cond d.silent (done d) (rounds n false d))
    (λ d a.
    last_or_not d.silent d (rounds n false d)
    (record { some_round = omega arith; most_rounds = omega arith; least_frames = omega arith; most_frames = omega arith; most_clashes = a.clashes; once = a.once; few = omega arith })
    (rounds_ends n false d (record { rounds = omega arith; least = omega arith; most = omega arith; clashes = a.clashes; once = a.once; few = omega arith })))
    (next_round c)
    (record { rounds = refl; least = omega arith; most = omega arith; clashes = omega arith; once = b.once; few = omega arith })

pub fair_stock : {SF HF SB HB : Type 0} (F : Behaviour SF HF) (B : Behaviour SB HB) (t : Model SF HF SB HB) → Fair (played F B stocktaking t)
unfolding stocktaking
fair_stock F B = played_ends F B Fair stocktaking (rounds_ends 8 true nothing (record { rounds = refl; least = lit≤ tt; most = lit≤ tt; clashes = lit≤ tt; once = tt; few = lit≤ tt }))

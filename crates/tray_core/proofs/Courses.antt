-- A stock takes its course: its script before a tray, slot by slot and round by round.
use Rattle.std.proofs.Common.{◌≡◌, ℕ, zero, suc, ◌+◌, Bool, true, false, cond, List, [], ◌∷◌, length, Some, None, Option, sym, refl, ap, ◌∙◌, arith}
use Rattle.kinds.specs.Kinds.{Behaviour}
use Rattle.tray_core.specs.Course.{Slot, Silent, Clashed, Unsound, Answered, TakesSlot, silent, clashed, unsound, heard, TakesSlots, no_slot, slot, TakesRounds, quiet_round, last_round, round, slot_frames, hltb, sent_from, last_clashes, serials_in, sent_in, all_serials}
use Rattle.tray_core.specs.Replies.{replies}
use Rattle.tray_core.specs.Scripts.{Script, done, played, after_play, SameEnd}
use Rattle.tray_core.specs.Sounds.{Sounds, Silence, Reply, Clash}
use Rattle.tray_core.specs.Stock as stock
use Rattle.tray_core.specs.Stock.{Tally, sent, loud, noted, next_round, answering, halting, in_slot, slots, round_frames, rounds}
use Rattle.tray_core.specs.Trays.{Model, after_frame, sounds_of}
use Rattle.tray_core.proofs.Answering.{serial_taken, sound_answer}
use Rattle.tray_core.proofs.Counting.{after_slot, after_slots, Counts, no_slots, one_more_slot, both_sent, both_noted, later_clashes}
use Rattle.tray_core.proofs.Listing.{noted_all}
use Rattle.tray_core.proofs.Replied.{sounds_are}
use Rattle.tray_core.proofs.Rounds.{same_end, from_path}

-- the frames of a round
round_is : (wakes : Bool) → round_frames wakes ≡ slot_frames wakes
round_is true = refl
round_is false = refl

module _ {SF HF SB HB : Type 0} (F : Behaviour SF HF) (B : Behaviour SB HB) where
  abbrev M : Type 0
  M = Model SF HF SB HB

  -- one slot
  module _ (frame : List ℕ) (next : Tally → Script Tally) (c : Tally) (t : M) where
    record Slotted : Type 0 where
      one : Slot
      after : M
      takes : TakesSlot F B frame t one after
      ends : SameEnd F B (stock.slot frame next c) t (next (after_slot one c)) after

    sounded : (s : Sounds) → sounds_of F B frame t ≡ s → SameEnd F B (stock.slot frame next c) t (in_slot s next (sent c)) (after_frame F B frame t)
    sounded s is =
        record {
          result = ap (λ (x : Sounds). played F B (in_slot x next (sent c)) (after_frame F B frame t)) is;
          tray = ap (λ (x : Sounds). after_play F B (in_slot x next (sent c)) (after_frame F B frame t)) is;
        }

    module _ (a : List ℕ) (one : replies F B t frame ≡ a ∷ []) where
      judged_so : (o : Option (List ℕ)) → answering a ≡ o → SameEnd F B (stock.slot frame next c) t (halting o next (loud (sent c))) (after_frame F B frame t)
      judged_so o is =
          same_end F B (sounded (Reply a) (sounds_are F B t frame (a ∷ []) one))
          (from_path F B (after_frame F B frame t) (ap (λ (x : Option (List ℕ)). halting x next (loud (sent c))) is))

      answered : (o : Option (List ℕ)) → answering a ≡ o → Slotted
      answered (Some serial) is =
          let halted : SameEnd F B (halting (Some serial) next (loud (sent c))) (after_frame F B frame t) (next (after_slot (Answered serial) c)) (after_frame F B (hltb serial) (after_frame F B frame t)) =
          record { result = refl; tray = refl } in
          record {
            one = Answered serial;
            after = after_frame F B (hltb serial) (after_frame F B frame t);
            takes = heard one (sound_answer a serial is);
            ends = same_end F B (judged_so (Some serial) is) halted;
          }
      answered None is =
          record {
            one = Unsound;
            after = after_frame F B frame t;
            takes = unsound one (λ serial sound. let taken = serial_taken a serial sound in cc);
            ends = judged_so None is;
          }

    slotted : (all : List (List ℕ)) → replies F B t frame ≡ all → Slotted
    slotted [] none =
        record {
          one = Silent;
          after = after_frame F B frame t;
          takes = silent none;
          ends = sounded Silence (sounds_are F B t frame [] none);
        }
    slotted (a ∷ []) one = answered a one (answering a) refl
    slotted (a ∷ (b ∷ more)) two =
        record {
          one = Clashed;
          after = after_frame F B frame t;
          takes = clashed two;
          ends = sounded (Clash (length more + 2)) (sounds_are F B t frame (a ∷ (b ∷ more)) two);
        }

  -- slots one after another
  record Coursed (frames : List (List ℕ)) (next : Tally → Script Tally) (c : Tally) (t : M) : Type 0 where
    taken : List Slot
    after : M
    takes : TakesSlots F B frames t taken after
    ends : SameEnd F B (slots frames next c) t (next (after_slots taken c)) after
    counts : Counts frames taken c (after_slots taken c)

  coursed : (frames : List (List ℕ)) (next : Tally → Script Tally) (c : Tally) (t : M) → Coursed frames next c t
  coursed [] next c t = record { taken = []; after = t; takes = no_slot; ends = record { result = refl; tray = refl }; counts = no_slots [] c refl }
  coursed (frame ∷ frames) next c t =
      let first = slotted frame (slots frames next) c t (replies F B t frame) refl in
      let others = coursed frames next (after_slot first.one c) first.after in
      record {
        taken = first.one ∷ others.taken;
        after = others.after;
        takes = slot first.takes others.takes;
        ends = same_end F B first.ends others.ends;
        counts = one_more_slot frame frames first.one others.taken c _ others.counts;
      }

  -- rounds one after another
  pub record Stocked (left : ℕ) (wakes : Bool) (c : Tally) (t : M) : Type 0 where
    pub course : List (List Slot)
    pub after : M
    pub tally : Tally
    pub takes : TakesRounds F B wakes left t course after
    pub ends : SameEnd F B (rounds left wakes c) t (done tally) after
    pub sent_all : tally.frames ≡ c.frames + length (sent_from wakes course)
    pub rounds_all : tally.rounds ≡ c.rounds + length course
    pub clashes_last : tally.clashes ≡ last_clashes course
    pub noted_each : tally.serials ≡ noted_all (all_serials course) c.serials

  abbrev goes_on : ℕ → Tally → Script Tally
  goes_on n d = cond d.silent (done d) (rounds n false d)

  module _ (n : ℕ) (wakes : Bool) (c : Tally) (t : M) (k : Coursed (slot_frames wakes) (goes_on n) (next_round c) t) where
    abbrev d : Tally
    d = after_slots k.taken (next_round c)

    begins : SameEnd F B (rounds (suc n) wakes c) t (goes_on n d) k.after
    unfolding rounds
    begins = same_end F B (from_path F B t (ap (λ (fs : List (List ℕ)). slots fs (goes_on n) (next_round c)) (round_is wakes))) k.ends

    decided : (b : Bool) → d.silent ≡ b → SameEnd F B (rounds (suc n) wakes c) t (cond b (done d) (rounds n false d)) k.after
    decided b is = same_end F B begins (from_path F B k.after (ap (λ (x : Bool). cond x (done d) (rounds n false d)) is))

    only_round : TakesRounds F B wakes (suc n) t (k.taken ∷ []) k.after → SameEnd F B (rounds (suc n) wakes c) t (done d) k.after → Stocked (suc n) wakes c t
    only_round takes ends =
        record {
          course = k.taken ∷ [];
          after = k.after;
          tally = d;
          takes = takes;
          ends = ends;
          sent_all = both_sent (sent_in (slot_frames wakes) k.taken) [] c.frames d.frames d.frames k.counts.sent_more (omega arith);
          rounds_all = omega (arith, k.counts.same_rounds);
          clashes_last = omega (arith, k.counts.clashed_more);
          noted_each = k.counts.noted_more ∙ sym (both_noted (serials_in k.taken) [] c.serials);
        }

    quietly : d.silent ≡ true → Stocked (suc n) wakes c t
    quietly on = only_round (quiet_round k.takes (k.counts.quiet on)) (decided true on)

  -- a silent round is the last, and so is one after which none is left; else others follow
  by_silence : {A : Type 0} (b : Bool) → (b ≡ true → A) → (b ≡ false → A) → A
  by_silence true on off = on refl
  by_silence false on off = off refl

  lastly : (wakes : Bool) (c : Tally) (t : M) (k : Coursed (slot_frames wakes) (goes_on 0) (next_round c) t) → Stocked 1 wakes c t
  unfolding rounds
  lastly wakes c t k =
      by_silence (after_slots k.taken (next_round c)).silent (quietly 0 wakes c t k)
      (λ off. only_round 0 wakes c t k (last_round k.takes (k.counts.noisy refl off)) (decided 0 wakes c t k false off))

  and_more : (n : ℕ) (wakes : Bool) (c : Tally) (t : M) (k : Coursed (slot_frames wakes) (goes_on (suc n)) (next_round c) t)
      → (after_slots k.taken (next_round c)).silent ≡ false → Stocked (suc n) false (after_slots k.taken (next_round c)) k.after → Stocked (suc (suc n)) wakes c t
  and_more n wakes c t k off rest =
      record {
        course = k.taken ∷ rest.course;
        after = rest.after;
        tally = rest.tally;
        takes = round k.takes (k.counts.noisy refl off) rest.takes;
        ends = same_end F B (decided (suc n) wakes c t k false off) rest.ends;
        sent_all = both_sent (sent_in (slot_frames wakes) k.taken) (sent_from false rest.course) c.frames _ rest.tally.frames k.counts.sent_more rest.sent_all;
        rounds_all = omega (arith, k.counts.same_rounds, rest.rounds_all);
        clashes_last = rest.clashes_last ∙ sym (later_clashes k.taken rest.takes);
        noted_each =
            rest.noted_each ∙ ap (noted_all (all_serials rest.course)) k.counts.noted_more
            ∙ sym (both_noted (serials_in k.taken) (all_serials rest.course) c.serials);
      }

  onward : (n : ℕ) (wakes : Bool) (c : Tally) (t : M) (k : Coursed (slot_frames wakes) (goes_on (suc n)) (next_round c) t)
      → ((d : Tally) (u : M) → Stocked (suc n) false d u) → Stocked (suc (suc n)) wakes c t
  onward n wakes c t k others =
      by_silence (after_slots k.taken (next_round c)).silent (quietly (suc n) wakes c t k)
      (λ off. and_more n wakes c t k off (others (after_slots k.taken (next_round c)) k.after))

  pub rounded : (n : ℕ) (wakes : Bool) (c : Tally) (t : M) → Stocked (suc n) wakes c t
  rounded zero wakes c t = lastly wakes c t (coursed (slot_frames wakes) (goes_on 0) (next_round c) t)
  rounded (suc n) wakes c t = onward n wakes c t (coursed (slot_frames wakes) (goes_on (suc n)) (next_round c) t) (λ d u. rounded n false d u)

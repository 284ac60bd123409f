-- Both kinds keep the duties of a kind.
use Rattle.std.specs.Prelude.{◌≡◌, ℕ, Bool, true, false, cond, ltb, List, ◌==◌, nat_eq, nat_lt, refl}
use Rattle.std.proofs.Common.{⊎_elim, sym, ◌∙◌}
use Rattle.std.proofs.lemmas.Bool.{cases_Bool, false≢true}
use Rattle.typeb.specs.declared.frames.Op.{Op}
use Rattle.typeb.specs.declared.frames.Op.TheVariants.{Read, Write, Lock, CheckPassword, Deselect, Count}
use Rattle.kinds.specs.Kinds.{Duties}
use Rattle.tags.specs.Common.{is_off_tag}
use Rattle.kinds.specs.Reacts.{Reaction}
use Rattle.tags.specs.Pump.{PumpMeaning, pump_acts, pump_obeys, pump_reads, pump_checks, passes}
use Rattle.tags.specs.Gauge.{gauge_acts, gauge_obeys, gauge_reads}
use Rattle.kinds.specs.Unwinding.{closed, twins}
use Rattle.tags.specs.Alike.{Blind, duties_by}

-- a test that chooses between accepting and not accepting has failed where nothing was accepted
not_accepted : (t : Bool) (r q : Reaction PumpMeaning) → r.accepted ≡ true → (cond t r q).accepted ≡ false → t ≡ false
not_accepted true r q accepts h = absurd (false≢true (sym h ∙ accepts))
not_accepted false r q accepts h = refl

-- a page is read while closed only where it is shown
reads : (page : ℕ) → Blind (pump_reads page)
reads page s h k a b =
    ⊎_elim
    (λ (t : ltb page 3 ≡ true). simp t (record { says = refl; after = twins s h k }))
    (λ (t : ltb page 3 ≡ false).
    ⊎_elim
    (λ (e : nat_eq page 3 ≡ true). simp (t, e) (record { says = refl; after = twins s h k }))
    (λ (e : nat_eq page 3 ≡ false). simp (t, e) (record { says = refl; after = twins s h k }))
    (cases_Bool (page == 3)))
    (cases_Bool (nat_lt page 3))

-- a check that is not accepted is refused and leaves the tag closed
checks : (bytes : List ℕ) → Blind (pump_checks bytes)
checks bytes s h k a b =
    let p : passes bytes (closed s h) ≡ false = not_accepted (passes bytes (closed s h)) _ _ refl a in
    let q : passes bytes (closed s k) ≡ false = not_accepted (passes bytes (closed s k)) _ _ refl b in
    simp (p, q) (record { says = refl; after = twins s h k })

obeys : (op : Op) (page : ℕ) (bytes : List ℕ) → Blind (pump_obeys op page bytes)
obeys Read page bytes s h k a b = reads page s h k a b
obeys Write page bytes s h k a b = record { says = refl; after = twins s h k }
obeys Lock page bytes s h k a b = record { says = refl; after = twins s h k }
obeys CheckPassword page bytes s h k a b = checks bytes s h k a b
obeys Deselect page bytes s h k a b = record { says = refl; after = twins _ h k }
obeys Count page bytes s h k a b = record { says = refl; after = twins s h k }

pub pump_duties : Duties is_off_tag pump_acts
pump_duties = duties_by pump_obeys obeys

-- a gauge hides nothing, so only READ has two ways
gauge_reads_lem : (page : ℕ) → Blind (gauge_reads page)
gauge_reads_lem page s h k a b =
    ⊎_elim
    (λ (t : ltb page 2 ≡ true). simp t (record { says = refl; after = twins s h k }))
    (λ (t : ltb page 2 ≡ false). simp t (record { says = refl; after = twins s h k }))
    (cases_Bool (nat_lt page 2))

gauge_obeys_lem : (op : Op) (page : ℕ) (bytes : List ℕ) → Blind (gauge_obeys op page bytes)
gauge_obeys_lem Read page bytes s h k a b = gauge_reads_lem page s h k a b
gauge_obeys_lem Write page bytes s h k a b = record { says = refl; after = twins s h k }
gauge_obeys_lem Lock page bytes s h k a b = record { says = refl; after = twins s h k }
gauge_obeys_lem CheckPassword page bytes s h k a b = record { says = refl; after = twins s h k }
gauge_obeys_lem Deselect page bytes s h k a b = record { says = refl; after = twins _ h k }
gauge_obeys_lem Count page bytes s h k a b = record { says = refl; after = twins s h k }

pub gauge_duties : Duties is_off_tag gauge_acts
gauge_duties = duties_by gauge_obeys gauge_obeys_lem

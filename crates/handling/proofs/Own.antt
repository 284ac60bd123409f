-- What came of a call by what it asks came of the call of its name.
use Rattle.std.proofs.Common.{◌≡◌, ℕ, List, Bor, subst}
use Rattle.tray_core.specs.declared.calls.Call.{Call}
use Rattle.tray_core.specs.Step.{Asks, asks_of}
use Rattle.handling.specs.OwnCalls.{OwnCalls}

pub own_calls : (c : Call (Bor (List ℕ))) (Comes : Asks → Type 0) → Comes (asks_of c) → OwnCalls c Comes
own_calls c Comes came =
    let by : (d : Call (Bor (List ℕ))) → c ≡ d → Comes (asks_of d) = λ d e. subst (λ (x : Call (Bor (List ℕ))). Comes (asks_of x)) e came in
    record { on = λ e. by _ e; off = λ e. by _ e; place = λ n e. by _ e; lift = λ n e. by _ e; frame = λ bytes e. by _ e; stock = λ e. by _ e }

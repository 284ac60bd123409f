-- Each call of the code is the tray's own call of that name.
use Rattle.std.specs.Borrow.{Bor}
use Rattle.std.specs.Prelude.{◌≡◌, ℕ, List}
use Rattle.tray_core.specs.declared.calls.Call.{Call}
use Rattle.tray_core.specs.declared.calls.Call.TheVariants as call
use Rattle.tray_core.specs.Step.{Asks, On, Off, Place, Lift, Frame, Stock}

-- Where the code is handed one of the six, what came of it is what comes of that call: of the
-- field's On and Off, of Place and Lift with the number, of Frame with the bytes, of Stock.
pub record OwnCalls (c : Call (Bor (List ℕ))) (Comes : Asks → Type 0) : Type 0 where
  pub on : c ≡ call.On → Comes On
  pub off : c ≡ call.Off → Comes Off
  pub place : (n : ℕ) → c ≡ call.Place n → Comes (Place n)
  pub lift : (n : ℕ) → c ≡ call.Lift n → Comes (Lift n)
  pub frame : (bytes : Bor (List ℕ)) → c ≡ call.Frame bytes → Comes (Frame bytes.now)
  pub stock : c ≡ call.Stock → Comes Stock

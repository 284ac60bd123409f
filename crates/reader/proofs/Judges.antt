-- What can be said in answer to a command is judged to exactly that.
use Rattle.std.proofs.Common.{◌≡◌, Some, ap}
use Rattle.kinds.specs.Says.{reply_bytes}
use Rattle.reader.specs.Commands.{heard_as}
use Rattle.reader.specs.Judged.{judged}
use Rattle.reader.specs.Laws.{JudgesExactly}
use Rattle.reader.proofs.Answered.{judged_back}

pub judges_exactly : JudgesExactly
judges_exactly =
    record {
      every = λ a s ok answers. judged_back answers ok;
      apart = λ a sized ok s t first second same.
          let one = judged_back first ok in
          let two = judged_back second ok in
          let bytes : judged a (reply_bytes (heard_as a) (Some s)) ≡ judged a (reply_bytes (heard_as a) (Some t)) = ap (judged a) same in
          cc;
    }

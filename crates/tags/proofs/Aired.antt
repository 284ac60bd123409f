-- What is said goes out in bytes of the frame that is answered.
use Rattle.std.proofs.Common.{◌≡◌, ℕ, ◌-◌, ◌%◌, List, [], ◌∷◌, ◌++◌, length, get_or, take, Some, sym, refl, ap, ◌∙◌, subst, arith}
use Rattle.std.proofs.lemmas.List.{take-append-drop}
use Rattle.typeb.specs.CheckBytes.{Bytes, sealed, tail_of}
use Rattle.typeb.specs.declared.frames.Op.{Op}
use Rattle.typeb.specs.Hears.{Heard, Command, head_of, heard}
use Rattle.typeb.proofs.Exact.{hears_exactly}
use Rattle.kinds.specs.Says.{Acknowledged, reply_bytes}
use Rattle.tags.specs.OnAir.{CommandBytes, SaidBytes}

-- a frame that carries a data command begins with the byte of command and card number, and the address
begins : (f : List ℕ) (op : Op) (cid address : ℕ) (given : List ℕ) → Bytes f → heard f ≡ Some (Command op cid address given)
    → f ≡ head_of op cid ∷ address ∷ (given ++ tail_of f)
begins f op cid address given bytes e =
    let carried = ((hears_exactly f bytes).only (Command op cid address given) e).1 in
    sym (take-append-drop (length f - 2) f) ∙ ap (λ (b : List ℕ). b ++ tail_of f) carried.same

command_bytes : (f : List ℕ) (op : Op) (cid address : ℕ) (given : List ℕ) → f ≡ head_of op cid ∷ address ∷ (given ++ tail_of f)
    → CommandBytes f (Command op cid address given)
command_bytes f op cid address given is =
    let first : head_of op cid ∷ [] ≡ take 1 f = sym (ap (take 1) is) in
    let second : get_or f 1 0 ≡ address = ap (λ (l : List ℕ). get_or l 1 0) is in
    record {
      acknowledged = ap (λ (l : List ℕ). sealed (l ++ (0x00 ∷ []))) first;
      refused = λ code. ap (λ (l : List ℕ). sealed (l ++ (code ∷ []))) first;
      page = λ turns page read names below.
          let named : address % 32 ≡ page = omega (arith, second, names) in
          ap (λ (l : List ℕ). sealed (l ++ (address % 32 ∷ read))) first
          ∙ ap (λ (n : ℕ). sealed (take 1 f ++ (n ∷ read))) named;
    }

pub said_bytes : (f : List ℕ) (frame : Heard) → Bytes f → heard f ≡ Some frame → SaidBytes f frame
said_bytes f frame bytes e =
    record {
      nothing = refl;
      atqb = λ serial application protocol. refl;
      card = λ cid. refl;
      hltb = λ serial is. ap (λ (h : Heard). reply_bytes h (Some Acknowledged)) is;
      command = λ op cid address given is.
          subst (λ (h : Heard). CommandBytes f h) (sym is)
          (command_bytes f op cid address given (begins f op cid address given bytes (e ∙ ap (λ (h : Heard). Some h) is)));
    }

-- A serial number noted in the list of a stock.
use Rattle.std.proofs.Common.{◌≡◌, ℕ, ◌+◌, ◌<◌, Bool, true, false, ◌||◌, List, [], ◌∷◌, length, take, set, sym, refl, ◌∙◌, ap₂, arith}
use Rattle.std.specs.List.{list_any}
use Rattle.std.specs.Str.{bytes_eq}
use Rattle.std.proofs.lemmas.Cmp.{nat_list_eq_equiv}
use Rattle.std.proofs.lemmas.List.{take_more_set, drop-set-lt}
use Rattle.std.proofs.lemmas.Bool.{cond-true, cond-false}
use Rattle.tray_core.specs.Stock.{lists}
use Rattle.tray_core.specs.Views.{NotedIn}

-- whether a serial number is listed, in std's words
pub listed_is : (serial : List ℕ) (xs : List (List ℕ)) → list_any (λ x. bytes_eq x serial) xs ≡ lists serial xs
listed_is serial [] = refl
listed_is serial (x ∷ xs) = ap₂ (λ (a b : Bool). a || b) (nat_list_eq_equiv.symm x serial) (listed_is serial xs)

module _ (serial : List ℕ) (listed : ℕ) (list : List (List ℕ)) (room : listed < length list) where
  pub noted_new : lists serial (take listed list) ≡ false → NotedIn serial listed list (set list listed serial) (listed + 1)
  noted_new new =
      record {
        serials = take_more_set list listed serial room ∙ sym (cond-false (lists serial (take listed list)) _ _ new);
        rest = drop-set-lt (listed + 1) list listed serial (omega arith);
        more = omega arith;
        most = omega arith;
      }

  pub noted_known : lists serial (take listed list) ≡ true → NotedIn serial listed list list listed
  noted_known known =
      record {
        serials = sym (cond-true (lists serial (take listed list)) _ _ known);
        rest = refl;
        more = omega arith;
        most = omega arith;
      }

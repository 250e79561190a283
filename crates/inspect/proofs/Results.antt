-- Clauses on results.
use Rattle.std.proofs.Common.{◌≡◌, Result, Ok, Err, IfErr, IsErrAnd, sym, subst}

-- what `?` hands on
pub passed_up : {A E : Type 0} (r : Result A E) (fault : E) (P : E → Type 0) → IsErrAnd r (λ e. e ≡ fault) → P fault → IfErr r P
passed_up (Ok x) fault P is p = tt
passed_up (Err e) fault P is p = subst P (sym is) p

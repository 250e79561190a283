-- Clauses on results.
use Rattle.std.proofs.Common.{◌≡◌, List, Result, Ok, Err, IfErr, IsErrAnd, sym, subst}
use Rattle.disk_model.specs.Disk.{Cell}
use Rattle.mount.specs.declared.fault.MountFault.{MountFault}
use Rattle.mount.specs.Left.{IsHandedBack}

-- what `?` hands on
pub passed_up : {A E : Type 0} (r : Result A E) (fault : E) (P : E → Type 0) → IsErrAnd r (λ e. e ≡ fault) → P fault → IfErr r P
passed_up (Ok x) fault P is p = tt
passed_up (Err e) fault P is p = subst P (sym is) p

pub passed_back : {A : Type 0} (r : Result A MountFault) (fault : MountFault) (old new : List Cell) → IsErrAnd r (λ e. e ≡ fault) → IsHandedBack {T = A} (Err fault) old new
    → IsHandedBack r old new
passed_back (Ok x) fault old new is p = absurd is
passed_back {A} (Err e) fault old new is p = subst (λ (f : MountFault). IsHandedBack {T = A} (Err f) old new) (sym is) p

pub same_fault : {A E : Type 0} (x y : E) (r : Result A E) → r ≡ Err y → IfErr r (λ e. x ≡ e) → x ≡ y
same_fault {A} {E} x y r is has = subst (λ (s : Result A E). IfErr s (λ e. x ≡ e)) is has

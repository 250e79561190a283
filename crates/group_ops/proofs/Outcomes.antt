-- Clauses on results.
use Rattle.std.proofs.Common.{OnOk, ◌≡◌, Result, Ok, Err, IfOk, IfErr, IsErrAnd, sym, subst}

-- what a value says may be said by more
pub IfOk-weaker : {A E : Type 0} {P Q : A → Type 0} (r : Result A E) → IfOk r P → ((x : A) → P x → Q x) → IfOk r Q
IfOk-weaker (Ok x) p f = f x p
IfOk-weaker (Err e) p f = p

-- what `?` hands on, which is what the call answered
pub passed_up : {A E : Type 0} (r : Result A E) (fault : E) (P : E → Type 0) → IsErrAnd r (λ e. e ≡ fault) → P fault → IfErr r P
passed_up (Ok x) fault P is p = tt
passed_up (Err e) fault P is p = subst P (sym is) p

-- what holds after success makes more hold
pub OnOk-more : {A E : Type 0} {P Q : Type 0} (r : Result A E) → OnOk r P → (P → Q) → OnOk r Q
OnOk-more (Ok x) p f = f p
OnOk-more (Err e) p f = p

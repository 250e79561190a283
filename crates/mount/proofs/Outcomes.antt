-- Clauses on what a load answers.
use Rattle.std.proofs.Common.{ℕ, Result, Ok, Err, IfOk, IfErr}
use Rattle.group_ops.specs.Loading.{IsLoadCause}
use Rattle.group_ops.specs.declared.fault.LoadFault.{LoadFault}
use Rattle.mount.proofs.Loads.{no_fault}

pub IfOk-two : {A E : Type 0} {P Q R : A → Type 0} (r : Result A E) → IfOk r P → IfOk r Q → ((x : A) → P x → Q x → R x) → IfOk r R
IfOk-two (Ok x) p q f = f x p q
IfOk-two (Err e) p q f = p

pub IfOk-more : {A E : Type 0} {P Q : A → Type 0} (r : Result A E) → IfOk r P → ((x : A) → P x → Q x) → IfOk r Q
IfOk-more (Ok x) p f = f x p
IfOk-more (Err e) p f = p

-- what is loaded from memory meets no fault of the disk
pub no_fault_of : {A : Type 0} (r : Result A LoadFault) (before now : ℕ) → IfErr r (IsLoadCause 0 0) → IfErr r (IsLoadCause before now)
no_fault_of (Ok x) before now cause = cause
no_fault_of (Err fault) before now cause = no_fault fault before now cause

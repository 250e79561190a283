-- The last entry of a record, and what holds after either of two steps.
use Rattle.std.proofs.Common.{◌≡◌, ◌-◌, List, [], ◌∷◌, ◌++◌, Some, length, refl, ap, ◌∙◌, arith}
use Rattle.std.specs.Prelude.{Err, Ok, OnOk, Result, slice_get}
use Rattle.std.proofs.lemmas.List.{length-append}
use Rattle.life_ports.specs.declared.errors.NoMemory.{NoMemory}
use Rattle.life_table.specs.declared.types.Entry.{Entry}

pub slice_last : (entries : List Entry) (entry : Entry) → slice_get (entries ++ entry ∷ []) (length entries) ≡ Some entry
slice_last [] entry = refl
slice_last (x ∷ entries) entry = slice_last entries entry

-- the last entry is the one that was pushed
pub last_pushed : (all entries : List Entry) (one entry : Entry) → Some one ≡ slice_get all (length all - 1) → all ≡ entries ++ entry ∷ [] → one ≡ entry
last_pushed all entries one entry at is =
    let size : length all - 1 ≡ length entries = omega (arith, ap length is, length-append entries (entry ∷ [])) in
    let here : Some one ≡ Some entry = at ∙ ap (slice_get all) size ∙ ap (λ (l : List Entry). slice_get l (length entries)) is ∙ slice_last entries entry in
    cc

pub on_both : (P Q : Type 0) (r : Result (Unit {0}) NoMemory) → P → OnOk r Q → OnOk r (P × Q)
on_both P Q (Ok value) p q = (p, q)
on_both P Q (Err fault) p q = tt

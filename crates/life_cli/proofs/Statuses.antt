-- When each status comes.
use Rattle.std.proofs.Common.{◌≡◌, ◌≤◌, ◌<◌, inl, inr, ℕ, List, Option, None, Some, length, refl, sym, ◌∙◌, subst, arith}
use Rattle.script.specs.declared.status.Status.{Status}
use Rattle.script.specs.declared.status.Status.TheVariants as status
use Rattle.life_limits.specs.declared.TheConstants.{MAX_SCRIPT_BYTES}
use Rattle.life_cli.specs.Outcome.{Yields, YieldsRead, EndsAs, WhereKnown, IsReadable, IsFaultAt, CompletesAs, FaultsExactly, IsTooLongExactly}
use Rattle.life_cli.proofs.Scripts.{ScriptLaws, not_readable, one_fault}

-- the status that was due comes, unless something failed
widened : (result ended expected : Status) → Yields result ended → ended ≡ expected → YieldsRead result expected
widened result ended expected (inl e) same = inr (inl (e ∙ same))
widened result ended expected (inr other) same = inr (inr other)

by_source : (result expected : Status) → Yields result status.SourceFault → YieldsRead result expected
by_source result expected (inl e) = inl e
by_source result expected (inr other) = inr (inr other)

by_memory : (result expected : Status) → Yields result status.NoMemory → YieldsRead result expected
by_memory result expected (inl e) = inr (inr (inr e))
by_memory result expected (inr other) = inr (inr other)

due_fault : ScriptLaws → (bytes : List ℕ) (a b c d : ℕ) (ended result : Status) → EndsAs (Some bytes) a b c d ended → Yields result ended
    → (line rule : ℕ) → IsFaultAt bytes line rule → YieldsRead result (status.ScriptFault line rule)
due_fault law bytes a b c d status.Good result ends yields line rule fault = absurd (not_readable law bytes line rule ends fault)
due_fault law bytes a b c d status.Usage result ends yields line rule fault = absurd ends
due_fault law bytes a b c d (status.ScriptFault other named) result ends yields line rule fault =
    let one = one_fault law bytes other line named rule ends fault in
    let lines : other ≡ line = one.0 in
    let rules : named ≡ rule = one.1 in
    let same : status.ScriptFault other named ≡ status.ScriptFault line rule = cc in
    widened result (status.ScriptFault other named) (status.ScriptFault line rule) yields same
due_fault law bytes a b c d status.ScriptTooLong result ends yields line rule fault =
    let short : length bytes ≤ MAX_SCRIPT_BYTES = fault.short in
    let long : MAX_SCRIPT_BYTES < length bytes = ends in
    absurd (omega arith)
due_fault law bytes a b c d status.OpenFault result ends yields line rule fault = absurd (not_readable law bytes line rule ends.1 fault)
due_fault law bytes a b c d status.SourceFault result ends yields line rule fault = by_source result (status.ScriptFault line rule) yields
due_fault law bytes a b c d status.SinkFault result ends yields line rule fault = absurd ends
due_fault law bytes a b c d (status.Damaged broken sector) result ends yields line rule fault = absurd ends
due_fault law bytes a b c d status.ReadFault result ends yields line rule fault = absurd ends
due_fault law bytes a b c d status.WriteFault result ends yields line rule fault = absurd ends
due_fault law bytes a b c d status.FlushFault result ends yields line rule fault = absurd ends
due_fault law bytes a b c d status.PositionEnd result ends yields line rule fault = absurd ends
due_fault law bytes a b c d status.NoMemory result ends yields line rule fault = by_memory result (status.ScriptFault line rule) yields
due_fault law bytes a b c d (status.Down count) result ends yields line rule fault = absurd ends

named_fault : (bytes : List ℕ) (a b c d : ℕ) (ended result : Status) → EndsAs (Some bytes) a b c d ended → Yields result ended
    → (line rule : ℕ) → result ≡ status.ScriptFault line rule → IsFaultAt bytes line rule
named_fault bytes a b c d ended result ends (inl e) line rule is = subst (λ (s : Status). EndsAs (Some bytes) a b c d s) (sym e ∙ is) ends
named_fault bytes a b c d ended result ends (inr (inl e)) line rule is =
    let bad : status.SinkFault ≡ status.ScriptFault line rule = sym e ∙ is in
    absurd cc
named_fault bytes a b c d ended result ends (inr (inr e)) line rule is =
    let bad : status.NoMemory ≡ status.ScriptFault line rule = sym e ∙ is in
    absurd cc

-- a script fault comes exactly where it is due
pub FaultsExactly-from : ScriptLaws → (script : Option (List ℕ)) (a b c d : ℕ) (ended result : Status) → EndsAs script a b c d ended → Yields result ended
    → WhereKnown script (λ bytes. FaultsExactly bytes result)
FaultsExactly-from law None a b c d ended result ends yields = tt
FaultsExactly-from law (Some bytes) a b c d ended result ends yields = record {
  named = named_fault bytes a b c d ended result ends yields;
  exact = due_fault law bytes a b c d ended result ends yields;
}

due_long : (bytes : List ℕ) (a b c d : ℕ) (ended result : Status) → EndsAs (Some bytes) a b c d ended → Yields result ended
    → MAX_SCRIPT_BYTES < length bytes → YieldsRead result status.ScriptTooLong
due_long bytes a b c d status.Good result ends yields long =
    let short : length bytes ≤ MAX_SCRIPT_BYTES = ends.short in
    absurd (omega arith)
due_long bytes a b c d status.Usage result ends yields long = absurd ends
due_long bytes a b c d (status.ScriptFault other rule) result ends yields long =
    let short : length bytes ≤ MAX_SCRIPT_BYTES = ends.short in
    absurd (omega arith)
due_long bytes a b c d status.ScriptTooLong result ends yields long = widened result status.ScriptTooLong status.ScriptTooLong yields refl
due_long bytes a b c d status.OpenFault result ends yields long =
    let short : length bytes ≤ MAX_SCRIPT_BYTES = ends.1.short in
    absurd (omega arith)
due_long bytes a b c d status.SourceFault result ends yields long = by_source result status.ScriptTooLong yields
due_long bytes a b c d status.SinkFault result ends yields long = absurd ends
due_long bytes a b c d (status.Damaged rule sector) result ends yields long = absurd ends
due_long bytes a b c d status.ReadFault result ends yields long = absurd ends
due_long bytes a b c d status.WriteFault result ends yields long = absurd ends
due_long bytes a b c d status.FlushFault result ends yields long = absurd ends
due_long bytes a b c d status.PositionEnd result ends yields long = absurd ends
due_long bytes a b c d status.NoMemory result ends yields long = by_memory result status.ScriptTooLong yields
due_long bytes a b c d (status.Down count) result ends yields long = absurd ends

named_long : (bytes : List ℕ) (a b c d : ℕ) (ended result : Status) → EndsAs (Some bytes) a b c d ended → Yields result ended
    → result ≡ status.ScriptTooLong → MAX_SCRIPT_BYTES < length bytes
named_long bytes a b c d ended result ends (inl e) is = subst (λ (s : Status). EndsAs (Some bytes) a b c d s) (sym e ∙ is) ends
named_long bytes a b c d ended result ends (inr (inl e)) is =
    let bad : status.SinkFault ≡ status.ScriptTooLong = sym e ∙ is in
    absurd cc
named_long bytes a b c d ended result ends (inr (inr e)) is =
    let bad : status.NoMemory ≡ status.ScriptTooLong = sym e ∙ is in
    absurd cc

-- a script is too long exactly where that is due
pub IsTooLongExactly-from : (script : Option (List ℕ)) (a b c d : ℕ) (ended result : Status) → EndsAs script a b c d ended → Yields result ended
    → WhereKnown script (λ bytes. IsTooLongExactly bytes result)
IsTooLongExactly-from None a b c d ended result ends yields = tt
IsTooLongExactly-from (Some bytes) a b c d ended result ends yields = record {
  named = named_long bytes a b c d ended result ends yields;
  exact = due_long bytes a b c d ended result ends yields;
}

complete : ScriptLaws → (bytes : List ℕ) (a b c d : ℕ) (ended result : Status) → EndsAs (Some bytes) a b c d ended → Yields result ended → IsReadable bytes → CompletesAs result
complete law bytes a b c d status.Good result ends yields readable = inr (inr yields)
complete law bytes a b c d status.Usage result ends yields readable = absurd ends
complete law bytes a b c d (status.ScriptFault line rule) result ends yields readable = absurd (not_readable law bytes line rule readable ends)
complete law bytes a b c d status.ScriptTooLong result ends yields readable =
    let short : length bytes ≤ MAX_SCRIPT_BYTES = readable.short in
    let long : MAX_SCRIPT_BYTES < length bytes = ends in
    absurd (omega arith)
complete law bytes a b c d status.OpenFault result ends (inl e) readable = inl e
complete law bytes a b c d status.OpenFault result ends (inr other) readable = inr (inr (inr other))
complete law bytes a b c d status.SourceFault result ends yields readable = inr (by_source result status.Good yields)
complete law bytes a b c d status.SinkFault result ends yields readable = absurd ends
complete law bytes a b c d (status.Damaged rule sector) result ends yields readable = absurd ends
complete law bytes a b c d status.ReadFault result ends yields readable = absurd ends
complete law bytes a b c d status.WriteFault result ends yields readable = absurd ends
complete law bytes a b c d status.FlushFault result ends yields readable = absurd ends
complete law bytes a b c d status.PositionEnd result ends yields readable = absurd ends
complete law bytes a b c d status.NoMemory result ends yields readable = inr (by_memory result status.Good yields)
complete law bytes a b c d (status.Down count) result ends yields readable = absurd ends

-- a readable script ends well, unless something failed
pub CompletesAs-from : ScriptLaws → (script : Option (List ℕ)) (a b c d : ℕ) (ended result : Status) → EndsAs script a b c d ended → Yields result ended
    → WhereKnown script (λ bytes. IsReadable bytes → CompletesAs result)
CompletesAs-from law None a b c d ended result ends yields = tt
CompletesAs-from law (Some bytes) a b c d ended result ends yields = complete law bytes a b c d ended result ends yields

-- a run that was out of memory names no line, and may have been due to
pub FaultsExactly-memory : (script : Option (List ℕ)) → WhereKnown script (λ bytes. FaultsExactly bytes status.NoMemory)
FaultsExactly-memory None = tt
FaultsExactly-memory (Some bytes) = record {
  named = λ (line rule : ℕ) (is : status.NoMemory ≡ status.ScriptFault line rule). absurd cc;
  exact = λ line rule fault. inr (inr (inr refl));
}

pub CompletesAs-memory : (script : Option (List ℕ)) → WhereKnown script (λ bytes. IsReadable bytes → CompletesAs status.NoMemory)
CompletesAs-memory None = tt
CompletesAs-memory (Some bytes) = λ readable. inr (inr (inr (inr refl)))

-- A run that was out of memory before its words were read.
use Rattle.std.proofs.Common.{◌≡◌, inl, inr, [], ℕ, List, Option, IsNone, None, Some, refl, arith}
use Rattle.std.specs.Option.{MatchOption}
use Rattle.geometry.specs.declared.shape.Geometry.{Geometry}
use Rattle.script.specs.declared.status.Status.{Status}
use Rattle.script.specs.declared.status.Status.TheVariants as status
use Rattle.life_table.specs.declared.types.MountRecord.{MountRecord}
use Rattle.script.specs.Texts.{output}
use Rattle.script.specs.declared.answers.GroupStory.{GroupStory}
use Rattle.script.specs.declared.answers.Said.{Said}
use Rattle.life_cli.specs.Input.{TakesAtMost}
use Rattle.life_cli.specs.Making.{RunsMake}
use Rattle.life_cli.specs.Outcome.{IsWritten, RunsNothing, Yields}
use Rattle.life_cli.specs.Outside.{ImagesSeen}

-- it ended with no other status than these two
pub no_other : (ended : Status) → Yields ended status.NoMemory → (ended ≡ status.NoMemory → ⊥) → (ended ≡ status.SinkFault → ⊥) → ⊥
no_other ended (inl e) memory sink = memory e
no_other ended (inr (inl e)) memory sink = sink e
no_other ended (inr (inr e)) memory sink = memory e

-- its output is that of any run that was out of memory
pub written_of : (before after : Option (List ℕ)) (mounts : List MountRecord) (groups : List GroupStory) (said : List Said) (told : Status → List ℕ) (own ended : Status) → mounts ≡ [] → groups ≡ [] → said ≡ []
    → Yields ended status.NoMemory → IsWritten before after (output said mounts groups) status.NoMemory ended → IsWritten before after told own ended
written_of before after mounts groups said told own ended unmade ungrouped unsaid yields written = at ended yields (rw (unmade, ungrouped, unsaid) at written)
  where
    at : (ended : Status) → Yields ended status.NoMemory → IsWritten before after (output [] [] []) status.NoMemory ended → IsWritten before after told own ended
    at status.SinkFault yields (inl e) = inr e
    at status.SinkFault yields (inr e) = inr e
    at status.NoMemory yields (inl e) = inr e
    at status.NoMemory yields (inr e) = inr e
    at status.Good yields written = absurd (no_other status.Good yields (λ e. cc) (λ e. cc))
    at status.Usage yields written = absurd (no_other status.Usage yields (λ e. cc) (λ e. cc))
    at (status.ScriptFault line rule) yields written = absurd (no_other (status.ScriptFault line rule) yields (λ e. cc) (λ e. cc))
    at status.ScriptTooLong yields written = absurd (no_other status.ScriptTooLong yields (λ e. cc) (λ e. cc))
    at status.OpenFault yields written = absurd (no_other status.OpenFault yields (λ e. cc) (λ e. cc))
    at status.SourceFault yields written = absurd (no_other status.SourceFault yields (λ e. cc) (λ e. cc))
    at (status.Damaged rule sector) yields written = absurd (no_other (status.Damaged rule sector) yields (λ e. cc) (λ e. cc))
    at status.ReadFault yields written = absurd (no_other status.ReadFault yields (λ e. cc) (λ e. cc))
    at status.WriteFault yields written = absurd (no_other status.WriteFault yields (λ e. cc) (λ e. cc))
    at status.FlushFault yields written = absurd (no_other status.FlushFault yields (λ e. cc) (λ e. cc))
    at status.PositionEnd yields written = absurd (no_other status.PositionEnd yields (λ e. cc) (λ e. cc))
    at (status.Down count) yields written = absurd (no_other (status.Down count) yields (λ e. cc) (λ e. cc))

-- so it is a run of words in no form too
pub short_yields : (ended own : Status) → Yields ended status.NoMemory → Yields ended own
short_yields ended own (inl e) = inr (inr e)
short_yields ended own (inr (inl e)) = inr (inl e)
short_yields ended own (inr (inr e)) = inr (inr e)

-- no image was made
pub RunsMake-short : {I D : Type 0} (seen : ImagesSeen I D) (path : List ℕ) (g : Geometry) (images : I) (disk : Option D) (mounts : List MountRecord) (groups : List GroupStory) (said : List Said)
    → IsNone disk → mounts ≡ [] → groups ≡ [] → said ≡ [] → RunsMake seen path g images images status.NoMemory disk mounts groups said
RunsMake-short seen path g images None mounts groups said none unmade ungrouped unsaid = record {
  ends = tt;
  open_fault = λ (e : status.NoMemory ≡ status.OpenFault). absurd cc;
  makes = (refl, inr (inr refl));
  early = record { no_mount = unmade; no_group = ungrouped; no_answer = unsaid };
}
RunsMake-short seen path g images (Some d) mounts groups said none unmade ungrouped unsaid = absurd cc

-- nothing was done
pub RunsNothing-short : {I D : Type 0} (images : I) (disk : Option D) (mounts : List MountRecord) (groups : List GroupStory) (said : List Said) → IsNone disk → mounts ≡ [] → groups ≡ [] → said ≡ []
    → RunsNothing images images status.Usage disk mounts groups said
RunsNothing-short images disk mounts groups said none unmade ungrouped unsaid = record {
  usage = refl;
  untouched = refl;
  no_disk = none;
  early = record { no_mount = unmade; no_group = ungrouped; no_answer = unsaid };
}

-- nothing was taken of the script
pub takes_nothing : (most : ℕ) (bytes : Option (List ℕ)) → TakesAtMost most bytes bytes
takes_nothing most None = ([], omega arith, tt)
takes_nothing most (Some bytes) = ([], omega arith, refl)

-- no disk is handed back
pub given_back : {D : Type 0} (P : Type 0) (Q : D → Type 0) (disk : Option D) → IsNone disk → P → MatchOption disk P Q
given_back P Q None none holds = holds
given_back P Q (Some d) none holds = absurd cc

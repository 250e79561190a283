-- What is written of a run of a script.
use Rattle.std.specs.Prelude.{◌⊎◌, ◌≤◌, ℕ, List, [], Option, length, take}
use Rattle.std.specs.Io.KnownBytes.{Appends}
use Rattle.life_table.specs.declared.types.MountRecord.{MountRecord}
use Rattle.script.specs.declared.answers.Said.{Said}
use Rattle.script.specs.declared.status.Status.{Status}
use Rattle.script.specs.declared.status.Status.TheVariants as status
use Rattle.script.specs.Texts.{line_of, output, status_text}

-- a prefix of these bytes was written
abbrev pub PartOf : Option (List ℕ) → Option (List ℕ) → List ℕ → Type 0
PartOf before after bytes = (count : ℕ) × (count ≤ length bytes) × Appends before after (take count bytes)

-- the line that tells of running out of memory
abbrev pub memory_line : List ℕ
memory_line = line_of (status_text status.NoMemory)

-- By how the run ended: the whole output was written; a part of it from its begin on, where the sink failed; and of running out of memory maybe the last line alone.
abbrev pub Writes : Option (List ℕ) → Option (List ℕ) → List Said → List MountRecord → Status → Status → Type 0
Writes before after said mounts own status.SinkFault = PartOf before after (output said mounts [] own) ⊎ PartOf before after memory_line
Writes before after said mounts own status.NoMemory = Appends before after (output said mounts [] status.NoMemory) ⊎ Appends before after memory_line
Writes before after said mounts own ended = Appends before after (output said mounts [] ended)

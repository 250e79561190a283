-- What a whole run comes to.
use Rattle.std.specs.Prelude.{◌≡◌, ◌<◌, ◌≤◌, ◌⊎◌, ◌++◌, ◌∷◌, ⊤, ℕ, List, [], Option, None, Some, IsNone, String, length, map, slice_get, string_bytes}
use Rattle.std.specs.Io.KnownBytes.{Appends}
use Rattle.std.specs.declared.alloc.Global.{Global}
use Rattle.life_limits.specs.declared.TheConstants.{MAX_SCRIPT_BYTES}
use Rattle.life_ports.specs.Faults.{Rose}
use Rattle.script_runs.specs.Lines.{AreSteadyLines, IsSteadyLine}
use Rattle.life_cli.specs.Output.{AppendsPrefix}
use Rattle.disk_model.specs.Images.{Given, attached, created}
use Rattle.run_history.specs.Output.{memory_line}
use Rattle.script.specs.Scripts.{asking_lines, AreReadAs, IsFirstFault, IsInGrammar}
use Rattle.script.specs.declared.types.Line.{Line}
use Rattle.life_table.specs.declared.types.MountRecord.{MountRecord}
use Rattle.script.specs.declared.answers.GroupStory.{GroupStory}
use Rattle.script.specs.declared.answers.Said.{Said}
use Rattle.script.specs.declared.status.Status.{Status}
use Rattle.script.specs.declared.status.Status.TheVariants as status

-- the status is this one, unless the sink failed or memory lacked
abbrev pub Yields : Status → Status → Type 0
Yields ended expected = (ended ≡ expected) ⊎ ((ended ≡ status.SinkFault) ⊎ (ended ≡ status.NoMemory))

-- what a script holds, where the source tells its bytes
abbrev pub WhereKnown : Option (List ℕ) → (List ℕ → Type 0) → Type 0
WhereKnown None P = ⊤
WhereKnown (Some bytes) P = P bytes

-- the script was read as these lines, where the source tells its bytes
abbrev pub IsScript : Option (List ℕ) → List Line → Type 0
IsScript script lines = WhereKnown script (λ bytes. AreReadAs (asking_lines bytes) lines)

-- what was written of a run with a status of its own, by what is told of each: the whole output, or a prefix of it where the sink failed; for running out of memory maybe the last line
-- alone
abbrev pub IsWritten : Option (List ℕ) → Option (List ℕ) → (Status → List ℕ) → Status → Status → Type 0
IsWritten before after told own status.SinkFault = AppendsPrefix before after (told own) ⊎ AppendsPrefix before after memory_line
IsWritten before after told own status.NoMemory = Appends before after (told status.NoMemory) ⊎ Appends before after memory_line
IsWritten before after told own status.Good = Appends before after (told status.Good)
IsWritten before after told own status.Usage = Appends before after (told status.Usage)
IsWritten before after told own (status.ScriptFault line rule) = Appends before after (told (status.ScriptFault line rule))
IsWritten before after told own status.ScriptTooLong = Appends before after (told status.ScriptTooLong)
IsWritten before after told own status.OpenFault = Appends before after (told status.OpenFault)
IsWritten before after told own status.SourceFault = Appends before after (told status.SourceFault)
IsWritten before after told own (status.Damaged rule sector) = Appends before after (told (status.Damaged rule sector))
IsWritten before after told own status.ReadFault = Appends before after (told status.ReadFault)
IsWritten before after told own status.WriteFault = Appends before after (told status.WriteFault)
IsWritten before after told own status.FlushFault = Appends before after (told status.FlushFault)
IsWritten before after told own status.PositionEnd = Appends before after (told status.PositionEnd)
IsWritten before after told own (status.Down fault) = Appends before after (told (status.Down fault))

-- this is the number of the first of these lines that is not run yet
pub record IsFirstNotRun (lines : List Line) (number : ℕ) : Type 0 where
  pub at : ℕ
  pub line : Line
  pub is : slice_get lines at ≡ Some line
  pub number_is : number ≡ line.number
  pub not_run : IsSteadyLine line.command → ⊥
  pub before : (i : ℕ) (earlier : Line) → i < at → slice_get lines i ≡ Some earlier → IsSteadyLine earlier.command

-- a script within the grammar whose first line that is not run yet is this one
abbrev pub IsNotRunAt : List ℕ → ℕ → Type 0
IsNotRunAt bytes number = (lines : List Line) × AreReadAs (asking_lines bytes) lines × IsFirstNotRun lines number

-- a script that is not too long, is within the grammar, and of which each line is run
pub record IsReadable (bytes : List ℕ) : Type 0 where
  pub short : length bytes ≤ MAX_SCRIPT_BYTES
  pub inside : IsInGrammar bytes
  pub lines : List Line
  pub read : AreReadAs (asking_lines bytes) lines
  pub steady : AreSteadyLines lines

-- The script is refused for this line, by this rule: it is the first outside the grammar, and this the least rule that it breaks; or, by rule 0, the script is in the grammar, and it is
-- the first that is not run yet.
pub record IsFaultAt (bytes : List ℕ) (line rule : ℕ) : Type 0 where
  pub short : length bytes ≤ MAX_SCRIPT_BYTES
  pub grammar : 1 ≤ rule → IsFirstFault (asking_lines bytes) line rule
  pub not_run : rule ≡ 0 → IsNotRunAt bytes line

-- why the bytes of a script are not run
abbrev pub RefusesBytes : List ℕ → Status → Type 0
RefusesBytes bytes status.Good = ⊥
RefusesBytes bytes status.Usage = ⊥
RefusesBytes bytes (status.ScriptFault line rule) = IsFaultAt bytes line rule
RefusesBytes bytes status.ScriptTooLong = ⊥
RefusesBytes bytes status.OpenFault = ⊥
RefusesBytes bytes status.SourceFault = ⊥
RefusesBytes bytes status.SinkFault = ⊥
RefusesBytes bytes (status.Damaged rule sector) = ⊥
RefusesBytes bytes status.ReadFault = ⊥
RefusesBytes bytes status.WriteFault = ⊥
RefusesBytes bytes status.FlushFault = ⊥
RefusesBytes bytes status.PositionEnd = ⊥
RefusesBytes bytes status.NoMemory = ⊤
RefusesBytes bytes (status.Down fault) = ⊥

-- why a script was refused, by the source's count of faults before and after
abbrev pub RefusesScript : Option (List ℕ) → ℕ → ℕ → Status → Type 0
RefusesScript script before after status.Good = ⊥
RefusesScript script before after status.Usage = ⊥
RefusesScript script before after (status.ScriptFault line rule) = WhereKnown script (λ bytes. IsFaultAt bytes line rule)
RefusesScript script before after status.ScriptTooLong = WhereKnown script (λ bytes. MAX_SCRIPT_BYTES < length bytes)
RefusesScript script before after status.OpenFault = ⊥
RefusesScript script before after status.SourceFault = Rose before after
RefusesScript script before after status.SinkFault = ⊥
RefusesScript script before after (status.Damaged rule sector) = ⊥
RefusesScript script before after status.ReadFault = ⊥
RefusesScript script before after status.WriteFault = ⊥
RefusesScript script before after status.FlushFault = ⊥
RefusesScript script before after status.PositionEnd = ⊥
RefusesScript script before after status.NoMemory = ⊤
RefusesScript script before after (status.Down fault) = ⊥

-- when each status comes of a run over a path, by the counts of the source and of the images before and after
abbrev pub EndsAs : Option (List ℕ) → ℕ → ℕ → ℕ → ℕ → Status → Type 0
EndsAs script source_before source_after images_before images_after status.Good = WhereKnown script IsReadable
EndsAs script source_before source_after images_before images_after status.Usage = ⊥
EndsAs script source_before source_after images_before images_after (status.ScriptFault line rule) = WhereKnown script (λ bytes. IsFaultAt bytes line rule)
EndsAs script source_before source_after images_before images_after status.ScriptTooLong = WhereKnown script (λ bytes. MAX_SCRIPT_BYTES < length bytes)
EndsAs script source_before source_after images_before images_after status.OpenFault = Rose images_before images_after × WhereKnown script IsReadable
EndsAs script source_before source_after images_before images_after status.SourceFault = Rose source_before source_after
EndsAs script source_before source_after images_before images_after status.SinkFault = ⊥
EndsAs script source_before source_after images_before images_after (status.Damaged rule sector) = ⊥
EndsAs script source_before source_after images_before images_after status.ReadFault = ⊥
EndsAs script source_before source_after images_before images_after status.WriteFault = ⊥
EndsAs script source_before source_after images_before images_after status.FlushFault = ⊥
EndsAs script source_before source_after images_before images_after status.PositionEnd = ⊥
EndsAs script source_before source_after images_before images_after status.NoMemory = ⊤
EndsAs script source_before source_after images_before images_after (status.Down fault) = ⊥

-- what a run leaves that read no script, or was given no disk
pub record IsEarly (mounts : List MountRecord) (groups : List GroupStory) (said : List Said) : Type 0 where
  pub no_mount : mounts ≡ []
  pub no_group : groups ≡ []
  pub no_answer : said ≡ []

-- A run had a status of its own, with what it promises. It ended so unless the sink failed or memory lacked, and what was written tells that status.
pub record EndsWith (promise : Status → Type 0) (told : Status → List ℕ) (before after : Option (List ℕ)) (ended : Status) : Type 0 where
  pub own : Status
  pub promised : promise own
  pub yields : Yields ended own
  pub written : IsWritten before after told own ended

-- what a run promises whose words are in no form
pub record RunsNothing {I D : Type 0} (images images_after : I) (own : Status) (disk : Option D) (mounts : List MountRecord) (groups : List GroupStory) (said : List Said) : Type 0 where
  pub usage : own ≡ status.Usage
  pub untouched : images_after ≡ images
  pub no_disk : IsNone disk
  pub early : IsEarly mounts groups said

-- the script itself is why there was no run
abbrev pub IsScriptRefusal : Status → Type 0
IsScriptRefusal status.Good = ⊥
IsScriptRefusal status.Usage = ⊥
IsScriptRefusal (status.ScriptFault line rule) = ⊤
IsScriptRefusal status.ScriptTooLong = ⊤
IsScriptRefusal status.OpenFault = ⊥
IsScriptRefusal status.SourceFault = ⊤
IsScriptRefusal status.SinkFault = ⊥
IsScriptRefusal (status.Damaged rule sector) = ⊥
IsScriptRefusal status.ReadFault = ⊥
IsScriptRefusal status.WriteFault = ⊥
IsScriptRefusal status.FlushFault = ⊥
IsScriptRefusal status.PositionEnd = ⊥
IsScriptRefusal status.NoMemory = ⊥
IsScriptRefusal (status.Down fault) = ⊥

-- where a disk was given, it was one, at the path that the words name
abbrev pub IsGiven : List (String Global) → List Given → List Given → Type 0
IsGiven words old new =
    (path : List ℕ) × (slice_get (map string_bytes words) 1 ≡ Some path)
    × ((count : ℕ) × ((new ≡ old ++ attached path count ∷ []) ⊎ (new ≡ old ++ created path count ∷ [])))

-- the status is this one, unless the source or the sink failed or memory lacked
abbrev pub YieldsRead : Status → Status → Type 0
YieldsRead ended expected = (ended ≡ status.SourceFault) ⊎ Yields ended expected

-- a script fault comes exactly where a script that is not too long has a line outside the grammar or one that is not run yet, unless the source or the sink failed or memory lacked;
-- and it names which line and which rule
pub record FaultsExactly (bytes : List ℕ) (ended : Status) : Type 0 where
  pub named : (line rule : ℕ) → ended ≡ status.ScriptFault line rule → IsFaultAt bytes line rule
  pub exact : (line rule : ℕ) → IsFaultAt bytes line rule → YieldsRead ended (status.ScriptFault line rule)

-- a script is too long exactly where it has more bytes than a script may have, unless the source or the sink failed or memory lacked
pub record IsTooLongExactly (bytes : List ℕ) (ended : Status) : Type 0 where
  pub named : ended ≡ status.ScriptTooLong → MAX_SCRIPT_BYTES < length bytes
  pub exact : MAX_SCRIPT_BYTES < length bytes → YieldsRead ended status.ScriptTooLong

-- how a run over a script may end each line of which is run
abbrev pub CompletesAs : Status → Type 0
CompletesAs ended = (ended ≡ status.OpenFault) ⊎ YieldsRead ended status.Good

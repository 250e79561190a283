-- What a run of `steps` promises.
use Rattle.std.specs.Prelude.{◌≡◌, ◌≤◌, ◌+◌, ◌++◌, ◌⊎◌, ◌∷◌, [], ℕ, List, Option, length}
use Rattle.std.specs.Option.{IfSome, MatchOption}
use Rattle.std.specs.Io.KnownBytes.{IsAtEnd}
use Rattle.life_limits.specs.declared.TheConstants.{MAX_SCRIPT_BYTES}
use Rattle.life_bytes.specs.declared.sector.Sector.{Sector}
use Rattle.disk_model.specs.Disk.{Cell}
use Rattle.disk_model.specs.Images.{Given, attached}
use Rattle.life_table.specs.declared.types.MountRecord.{MountRecord}
use Rattle.whole_image.specs.Damage.{IsSound}
use Rattle.script.specs.declared.answers.GroupStory.{GroupStory}
use Rattle.script.specs.declared.answers.Said.{Said}
use Rattle.script.specs.declared.status.Status.{Status}
use Rattle.script.specs.declared.status.Status.TheVariants as status
use Rattle.script.specs.declared.types.Line.{Line}
use Rattle.run_history.specs.FirstImage.{FitsFirstImage}
use Rattle.run_history.specs.Headline.{Headline}
use Rattle.run_faults.specs.Log.{KeepToLog, no_mount}
use Rattle.script_runs.specs.Lines.{AreSteadyLines}
use Rattle.life_cli.specs.Input.{Takes, TakesAtMost}
use Rattle.life_cli.specs.Outcome.{CompletesAs, EndsAs, FaultsExactly, IsEarly, IsReadable, IsScript, IsScriptRefusal, IsTooLongExactly, WhereKnown}
use Rattle.life_cli.specs.Outside.{ImagesSeen, ScriptSeen, image_before}

-- The lines of the script were run over a disk, which has these cells now: the image before them where that is known, the run's own status, its answers and what is recorded of its mounts.
pub record RunsLines (image : Option (List Sector)) (script : Option (List ℕ)) (lines : List Line) (own : Status) (mounts : List MountRecord) (said : List Said)
    (cells : List Cell) : Type 0 where
  -- the lines are those of the script, and each is run
  pub read : IsScript script lines
  pub steady : AreSteadyLines lines
  -- of a sound image: the headline
  pub headline : IfSome image (λ before. IsSound before → Headline before lines own said mounts cells)
  -- whether it is sound or not: whether a mount may come up, and what is said of damage
  pub first_image : IfSome image (λ before. FitsFirstImage before lines said mounts cells)
  -- what the answers tell of the log: a log is down only behind a fault that was told, and behind a failed flush each sync, home and unmount of the mount finds it down
  pub log : KeepToLog mounts no_mount said
  -- the run ended well, and each line has its answer; or memory lacked
  pub ended : (own ≡ status.Good) ⊎ (own ≡ status.NoMemory)
  pub all : own ≡ status.Good → length said ≡ length lines
  pub most : length said ≤ length lines

-- What a run of a script leaves. Where no disk was given, no line was run, and it did not end well. Else the disk at the path was attached, and the lines were run over it.
abbrev pub RunsOver : {D : Type 0} → (D → List Cell) → List ℕ → Option (List Sector) → Option (List ℕ) → List Given → List Given → Status → Option D
    → List MountRecord → List GroupStory → List Said → Type 0
RunsOver cells path image script old new own disk mounts groups said =
    MatchOption disk ((new ≡ old) × IsEarly mounts groups said × (own ≡ status.Good → ⊥))
    (λ d. (count : ℕ) × (new ≡ old ++ attached path count ∷ []) × (groups ≡ [])
    × ((lines : List Line) × RunsLines image script lines own mounts said (cells d)))

-- A run of the script over the disk at a path: the images and the script before and after it, the run's own status, the disk that is handed back, and what it
-- tells. A mount that is up at the end is left as by a stop.
pub record RunsSteps {I D S : Type 0} (seen : ImagesSeen I D) (source : ScriptSeen S) (path : List ℕ) (images images_after : I) (script script_after : S)
    (own : Status) (disk : Option D) (mounts : List MountRecord) (groups : List GroupStory) (said : List Said) : Type 0 where
  -- when each status comes
  pub ends : EndsAs (source.bytes_left script) (source.faults script) (source.faults script_after) (seen.faults images) (seen.faults images_after) own
  pub script_fault : WhereKnown (source.bytes_left script) (λ bytes. FaultsExactly bytes own)
  pub script_too_long : WhereKnown (source.bytes_left script) (λ bytes. IsTooLongExactly bytes own)
  pub complete : WhereKnown (source.bytes_left script) (λ bytes. IsReadable bytes → CompletesAs own)
  -- where the script was refused, nothing was asked of the images
  pub refused : IsScriptRefusal own → images_after ≡ images
  -- the lines of the script, run over the disk at the path, or no disk
  pub lines : RunsOver seen.cells path (image_before seen images path) (source.bytes_left script) (seen.given images) (seen.given images_after) own disk mounts groups said
  -- Where it ended well, the script was all that the source had. No more is taken than a script may have and one byte more, and that only of a longer one.
  pub end : own ≡ status.Good → IsAtEnd (source.bytes_left script_after)
  pub taken : TakesAtMost (MAX_SCRIPT_BYTES + 1) (source.bytes_left script) (source.bytes_left script_after)
  pub one_more : own ≡ status.ScriptTooLong → Takes (MAX_SCRIPT_BYTES + 1) (source.bytes_left script) (source.bytes_left script_after)

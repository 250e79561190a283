-- What a run of a script comes to, and what is written of it.
use Rattle.std.proofs.Common.{◌≡◌, ◌≤◌, ◌+◌, ◌++◌, ◌⊎◌, ◌∷◌, [], inl, inr, ℕ, Bool, true, false, List, Option, None, Some, String, Global, IsNone, IsSome, IsTrue, length, slice_get, true≢false, refl, sym, ap, subst}
use Rattle.std.specs.Option.{IfSome, MatchOption}
use Rattle.std.specs.Io.KnownBytes.{IsAtEnd}
use Rattle.life_limits.specs.declared.TheConstants.{MAX_SCRIPT_BYTES}
use Rattle.life_bytes.specs.declared.sector.Sector.{Sector}
use Rattle.disk_model.specs.Disk.{Cell, settled_as}
use Rattle.disk_model.specs.Images.{attached}
use Rattle.life_table.specs.declared.types.MountRecord.{MountRecord}
use Rattle.whole_image.specs.Damage.{IsSound}
use Rattle.script.specs.declared.answers.GroupStory.{GroupStory}
use Rattle.script.specs.declared.answers.Said.{Said}
use Rattle.script.specs.declared.status.Status.{Status}
use Rattle.script.specs.declared.status.Status.TheVariants as status
use Rattle.script.specs.declared.types.Line.{Line}
use Rattle.run_history.specs.FirstImage.{FitsFirstImage}
use Rattle.run_history.specs.Headline.{Headline}
use Rattle.run_faults.specs.Log.{KeepToLog, no_mount}
use Rattle.script_runs.specs.Lines.{AreSteadyLines}
use Rattle.life_cli.specs.Form.{IsSteps}
use Rattle.life_cli.specs.Input.{Takes, TakesAtMost}
use Rattle.life_cli.specs.Outcome.{CompletesAs, EndsAs, FaultsExactly, IsEarly, IsGiven, IsReadable, IsScript, IsScriptRefusal, RefusesScript, WhereKnown, Yields}
use Rattle.life_cli.specs.Outside.{ImagesSeen, ScriptSeen, image_known}
use Rattle.life_cli.specs.Steps.{RunsSteps}
use Rattle.life_cli.proofs.Makings.{own_status}
use Rattle.life_cli.proofs.Scripts.{ScriptLaws}
use Rattle.life_cli.proofs.Statuses.{CompletesAs-from, FaultsExactly-from, IsTooLongExactly-from}

-- a script that was refused did not end well
pub RefusesScript-ill : (script : Option (List ℕ)) (before after : ℕ) (ended : Status) → RefusesScript script before after ended → ended ≡ status.Good → ⊥
RefusesScript-ill script before after ended refused good = subst (λ (s : Status). RefusesScript script before after s) good refused

early : {I D S : Type 0} (seen : ImagesSeen I D) (source : ScriptSeen S) (path : List ℕ) (images images_after : I) (script script_after : S) (own : Status)
    → (own ≡ status.Good → ⊥)
    → EndsAs (source.bytes_left script) (source.faults script) (source.faults script_after) (seen.faults images) (seen.faults images_after) own
    → WhereKnown (source.bytes_left script) (λ bytes. FaultsExactly bytes own) → WhereKnown (source.bytes_left script) (λ bytes. IsReadable bytes → CompletesAs own)
    → (IsScriptRefusal own → images_after ≡ images) → seen.given images_after ≡ seen.given images
    → TakesAtMost (MAX_SCRIPT_BYTES + 1) (source.bytes_left script) (source.bytes_left script_after)
    → (own ≡ status.ScriptTooLong → Takes (MAX_SCRIPT_BYTES + 1) (source.bytes_left script) (source.bytes_left script_after))
    → RunsSteps {D = D} seen source path images images_after script script_after own None [] [] []
early seen source path images images_after script script_after own ill ends fault complete refused given taken one_more = record {
  ends = ends;
  script_fault = fault;
  script_too_long = IsTooLongExactly-from (source.bytes_left script) (source.faults script) (source.faults script_after) (seen.faults images)
      (seen.faults images_after) own own ends (inl refl);
  complete = complete;
  refused = refused;
  lines = (given, record { no_mount = refl; no_group = refl; no_answer = refl }, ill);
  end = λ good. absurd (ill good);
  taken = taken;
  one_more = one_more;
}

none_of : {X : Type 0} (o : Option X) → IsNone o → o ≡ None
none_of None is = refl
none_of (Some x) is = absurd (true≢false is)

-- the same of what is told in another way
pub RunsSteps-told : {I D S : Type 0} (seen : ImagesSeen I D) (source : ScriptSeen S) (path : List ℕ) (images images_after : I) (script script_after : S)
    (own own' : Status) (disk disk' : Option D) (mounts mounts' : List MountRecord) (groups groups' : List GroupStory) (said said' : List Said) → own' ≡ own → disk' ≡ disk → mounts' ≡ mounts → groups' ≡ groups → said' ≡ said
    → RunsSteps seen source path images images_after script script_after own disk mounts groups said
    → RunsSteps seen source path images images_after script script_after own' disk' mounts' groups' said'
RunsSteps-told seen source path images images_after script script_after own own' disk disk' mounts mounts' groups groups' said said' e d m g' s runs =
    subst (λ (o : Status). RunsSteps seen source path images images_after script script_after o disk' mounts' groups' said') (sym e)
    (subst (λ (o : Option _). RunsSteps seen source path images images_after script script_after own o mounts' groups' said') (sym d)
    (subst (λ (l : List MountRecord). RunsSteps seen source path images images_after script script_after own disk l groups' said') (sym m)
    (subst (λ (l : List GroupStory). RunsSteps seen source path images images_after script script_after own disk mounts l said') (sym g')
    (subst (λ (l : List Said). RunsSteps seen source path images images_after script script_after own disk mounts groups l) (sym s) runs))))

-- a run that was given no disk
pub RunsSteps-early : {I D S : Type 0} (seen : ImagesSeen I D) (source : ScriptSeen S) (path : List ℕ) (images images_after : I) (script script_after : S)
    (own own' : Status) (disk : Option D) (mounts : List MountRecord) (groups : List GroupStory) (said : List Said) → own' ≡ own → IsNone disk → mounts ≡ [] → groups ≡ [] → said ≡ []
    → (own ≡ status.Good → ⊥)
    → EndsAs (source.bytes_left script) (source.faults script) (source.faults script_after) (seen.faults images) (seen.faults images_after) own
    → WhereKnown (source.bytes_left script) (λ bytes. FaultsExactly bytes own) → WhereKnown (source.bytes_left script) (λ bytes. IsReadable bytes → CompletesAs own)
    → (IsScriptRefusal own → images_after ≡ images) → seen.given images_after ≡ seen.given images
    → TakesAtMost (MAX_SCRIPT_BYTES + 1) (source.bytes_left script) (source.bytes_left script_after)
    → (own ≡ status.ScriptTooLong → Takes (MAX_SCRIPT_BYTES + 1) (source.bytes_left script) (source.bytes_left script_after))
    → RunsSteps seen source path images images_after script script_after own' disk mounts groups said
RunsSteps-early seen source path images images_after script script_after own own' disk mounts groups said e none unmade ungrouped unsaid ill ends fault complete refused given taken one_more =
    RunsSteps-told seen source path images images_after script script_after own own' None disk [] mounts [] groups [] said e (none_of disk none) unmade ungrouped unsaid
    (early seen source path images images_after script script_after own ill ends fault complete refused given taken one_more)

-- the same of one whose status decides when it comes
pub RunsSteps-unrun : {I D S : Type 0} → ScriptLaws → (seen : ImagesSeen I D) (source : ScriptSeen S) (path : List ℕ) (images images_after : I) (script script_after : S)
    (own own' : Status) (disk : Option D) (mounts : List MountRecord) (groups : List GroupStory) (said : List Said) → own' ≡ own → IsNone disk → mounts ≡ [] → groups ≡ [] → said ≡ []
    → (own ≡ status.Good → ⊥)
    → EndsAs (source.bytes_left script) (source.faults script) (source.faults script_after) (seen.faults images) (seen.faults images_after) own
    → (IsScriptRefusal own → images_after ≡ images) → seen.given images_after ≡ seen.given images
    → TakesAtMost (MAX_SCRIPT_BYTES + 1) (source.bytes_left script) (source.bytes_left script_after)
    → (own ≡ status.ScriptTooLong → Takes (MAX_SCRIPT_BYTES + 1) (source.bytes_left script) (source.bytes_left script_after))
    → RunsSteps seen source path images images_after script script_after own' disk mounts groups said
RunsSteps-unrun law seen source path images images_after script script_after own own' disk mounts groups said e none unmade ungrouped unsaid ill ends refused given taken one_more =
    RunsSteps-early seen source path images images_after script script_after own own' disk mounts groups said e none unmade ungrouped unsaid ill ends
    (FaultsExactly-from law (source.bytes_left script) (source.faults script) (source.faults script_after) (seen.faults images) (seen.faults images_after) own own ends (inl refl))
    (CompletesAs-from law (source.bytes_left script) (source.faults script) (source.faults script_after) (seen.faults images) (seen.faults images_after) own own ends (inl refl))
    refused given taken one_more

-- why a script was refused is when its status comes
pub EndsAs-refused : (script : Option (List ℕ)) (a b c d : ℕ) (own : Status) → RefusesScript script a b own → EndsAs script a b c d own
EndsAs-refused script a b c d status.Good refused = absurd refused
EndsAs-refused script a b c d status.Usage refused = absurd refused
EndsAs-refused script a b c d (status.ScriptFault line rule) refused = refused
EndsAs-refused script a b c d status.ScriptTooLong refused = refused
EndsAs-refused script a b c d status.OpenFault refused = absurd refused
EndsAs-refused script a b c d status.SourceFault refused = refused
EndsAs-refused script a b c d status.SinkFault refused = absurd refused
EndsAs-refused script a b c d (status.Damaged rule sector) refused = absurd refused
EndsAs-refused script a b c d status.ReadFault refused = absurd refused
EndsAs-refused script a b c d status.WriteFault refused = absurd refused
EndsAs-refused script a b c d status.FlushFault refused = absurd refused
EndsAs-refused script a b c d status.PositionEnd refused = absurd refused
EndsAs-refused script a b c d status.NoMemory refused = tt
EndsAs-refused script a b c d (status.Down count) refused = absurd refused

-- the words name its path, and a disk that was given is handed back
pub steps_back : {I D S : Type 0} (seen : ImagesSeen I D) (source : ScriptSeen S) (words : List (String Global)) (path : List ℕ) (images images_after : I)
    (script script_after : S) (own : Status) (disk : Option D) (mounts : List MountRecord) (groups : List GroupStory) (said : List Said) → IsSteps words path
    → RunsSteps seen source path images images_after script script_after own disk mounts groups said
    → MatchOption disk ((seen.given images_after ≡ seen.given images) × IsEarly mounts groups said) (λ _. IsGiven words (seen.given images) (seen.given images_after))
steps_back seen source words path images images_after script script_after own None mounts groups said is runs = (runs.lines.0, runs.lines.1)
steps_back seen source words path images images_after script script_after own (Some d) mounts groups said is runs =
    (path, ap (λ (l : List (List ℕ)). slice_get l 1) is.0, (runs.lines.0, inl runs.lines.1))

-- one was given where it ended well
pub steps_disk : {I D S : Type 0} (seen : ImagesSeen I D) (source : ScriptSeen S) (path : List ℕ) (images images_after : I) (script script_after : S)
    (own ended : Status) (disk : Option D) (mounts : List MountRecord) (groups : List GroupStory) (said : List Said)
    → RunsSteps seen source path images images_after script script_after own disk mounts groups said → Yields ended own → ended ≡ status.Good → IsSome disk
steps_disk seen source path images images_after script script_after own ended None mounts groups said runs yields good =
    absurd (runs.lines.2 (own_status ended own status.Good yields (λ e. cc) (λ e. cc) good))
steps_disk seen source path images images_after script script_after own ended (Some d) mounts groups said runs yields good = refl

-- it does not end as words in no form do
pub steps_usage : {P : Type 0} (script : Option (List ℕ)) (a b c d : ℕ) (own ended : Status) → EndsAs script a b c d own → Yields ended own
    → ended ≡ status.Usage → P
steps_usage script a b c d own ended ends yields usage =
    absurd (subst (λ (s : Status). EndsAs script a b c d s) (own_status ended own status.Usage yields (λ e. cc) (λ e. cc) usage) ends)

ran_ends : (script : Option (List ℕ)) (a b c d : ℕ) (own : Status) → (own ≡ status.Good) ⊎ (own ≡ status.NoMemory) → WhereKnown script IsReadable → EndsAs script a b c d own
ran_ends script a b c d own (inl good) readable = subst (λ (s : Status). EndsAs script a b c d s) (sym good) readable
ran_ends script a b c d own (inr memory) readable = subst (λ (s : Status). EndsAs script a b c d s) (sym memory) tt

ran_unrefused : {P : Type 0} (own : Status) → (own ≡ status.Good) ⊎ (own ≡ status.NoMemory) → IsScriptRefusal own → P
ran_unrefused own (inl good) refusal = absurd (subst (λ (s : Status). IsScriptRefusal s) good refusal)
ran_unrefused own (inr memory) refusal = absurd (subst (λ (s : Status). IsScriptRefusal s) memory refusal)

-- what holds of each image that a disk had which was given holds of the image at its path
at_image : (P : List Sector → Type 0) (known : Bool) (cells : List Cell) (at : Option (List Sector)) → (IsTrue known → IfSome at (λ image. cells ≡ settled_as image))
    → (IsTrue known → (before : List Sector) → cells ≡ settled_as before → P before) → IfSome (image_known known at) P
at_image P false cells at given holds = tt
at_image P true cells None given holds = tt
at_image P true cells (Some image) given holds = holds refl image (given refl)

-- a run over the disk that was attached
pub RunsSteps-run : {I D S : Type 0} → ScriptLaws → (seen : ImagesSeen I D) (source : ScriptSeen S) (path : List ℕ) (images images_after : I) (script script_after : S)
    (own : Status) (disk : Option D) (mounts : List MountRecord) (groups : List GroupStory) (said : List Said) (given : D) (lines : List Line) → IsSome disk
    → (own ≡ status.Good) ⊎ (own ≡ status.NoMemory)
    → IsScript (source.bytes_left script) lines → AreSteadyLines lines → WhereKnown (source.bytes_left script) IsReadable → IsAtEnd (source.bytes_left script_after)
    → TakesAtMost (MAX_SCRIPT_BYTES + 1) (source.bytes_left script) (source.bytes_left script_after)
    → seen.given images_after ≡ seen.given images ++ attached path (seen.disk_faults given) ∷ []
    → (IsTrue seen.known → IfSome (seen.image_at images path) (λ image. seen.cells given ≡ settled_as image))
    → (IsTrue seen.known → (before : List Sector) → seen.cells given ≡ settled_as before → IsSound before
    → IfSome disk (λ d. Headline before lines own said mounts (seen.cells d)))
    → (IsTrue seen.known → (before : List Sector) → seen.cells given ≡ settled_as before → IfSome disk (λ d. FitsFirstImage before lines said mounts (seen.cells d)))
    → KeepToLog mounts no_mount said → (own ≡ status.Good → length said ≡ length lines) → length said ≤ length lines → groups ≡ []
    → RunsSteps seen source path images images_after script script_after own disk mounts groups said
RunsSteps-run law seen source path images images_after script script_after own None mounts groups said given lines some ran read steady readable end taken attached image headline
    first_image log all most ungrouped = absurd (true≢false (sym some))
RunsSteps-run law seen source path images images_after script script_after own (Some d) mounts groups said given lines some ran read steady readable end taken attached image headline
    first_image log all most ungrouped =
    let ends = ran_ends (source.bytes_left script) (source.faults script) (source.faults script_after) (seen.faults images) (seen.faults images_after) own ran readable in
    record {
      ends = ends;
      script_fault = FaultsExactly-from law (source.bytes_left script) (source.faults script) (source.faults script_after) (seen.faults images) (seen.faults images_after)
          own own ends (inl refl);
      script_too_long = IsTooLongExactly-from (source.bytes_left script) (source.faults script) (source.faults script_after) (seen.faults images)
          (seen.faults images_after) own own ends (inl refl);
      complete = CompletesAs-from law (source.bytes_left script) (source.faults script) (source.faults script_after) (seen.faults images) (seen.faults images_after)
          own own ends (inl refl);
      refused = λ refusal. ran_unrefused own ran refusal;
      lines = (
        seen.disk_faults given,
        attached,
        ungrouped,
        (
          lines,
          record {
            read = read;
            steady = steady;
            headline = at_image (λ before. IsSound before → Headline before lines own said mounts (seen.cells d)) seen.known (seen.cells given) (seen.image_at images path)
                image headline;
            first_image = at_image (λ before. FitsFirstImage before lines said mounts (seen.cells d)) seen.known (seen.cells given) (seen.image_at images path)
                image first_image;
            log = log;
            ended = ran;
            all = all;
            most = most;
          },
        ),
      );
      end = λ good. end;
      taken = taken;
      one_more = λ long. ran_unrefused own ran (subst (λ (s : Status). IsScriptRefusal s) (sym long) tt);
    }

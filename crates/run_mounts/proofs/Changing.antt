-- How a run stands when its last mount made a call more, ended, or is cut off.
use Rattle.std.proofs.Common.{◌≡◌, ◌≤◌, ℕ, List, [], ◌∷◌, length, refl, ◌∙◌, arith}
use Rattle.std.proofs.lemmas.List.{take-append-le}
use Rattle.life_bytes.specs.declared.sector.Sector.{Sector}
use Rattle.disk_model.specs.Disk.{Cell, IsImage}
use Rattle.life_table.specs.declared.types.Call.{Call}
use Rattle.life_table.specs.declared.types.MountRecord.{MountRecord}
use Rattle.life_table.specs.declared.types.Reply.{Reply}
use Rattle.life_table.specs.declared.types.Reply.TheVariants as reply
use Rattle.life_table.specs.declared.table.Table.{Table}
use Rattle.mounted_calls.specs.Calls.{entry_of, with_call}
use Rattle.mounted_calls.specs.Running.{IsLeftBehind, IsRecordOf}
use Rattle.run_history.specs.Answers.{IsFresh}
use Rattle.run_history.specs.CrashSafe.{IsPrefixLeft}
use Rattle.run_history.specs.Linear.{IsLegalMount, unfinished_of}
use Rattle.run_history.specs.Mounts.{MountStory, changes_made, left, never_up, unmounted}
use Rattle.run_history.specs.States.{PastCall}
use Rattle.run_mounts.specs.Calls.{IsWholeCall}
use Rattle.run_mounts.specs.Ends.{all_acknowledged}
use Rattle.run_mounts.specs.Safe.{StandsBehind, story_as}
use Rattle.run_mounts.proofs.CutOff.{covered-few-all, freed-few, fresh-frees}
use Rattle.run_mounts.proofs.OneCall.{FreesNone, Grows, IsOfWhole, frees-none, licensed-more, own-interval, right-more}
use Rattle.run_mounts.proofs.Standing.{LeavesPrefixes, durable-of, leaves-of, legal-of, recovers-of, safe-last}

-- ---- one call more

abbrev next-of : MountRecord → ℕ → Call → Reply → MountRecord
next-of story actor made answer = with_call story actor made answer

grows-of : (start t u : Table) (actor : ℕ) (made : Call) (answer : Reply) (story : MountRecord) → IsWholeCall made → IsRecordOf start t story → IsRecordOf start u (next-of story actor made answer)
    → Grows start t story.entries story.froms (entry_of actor made answer)
unfolding IsOfWhole
grows-of start t u actor made answer story whole told next = record {
  whole = whole;
  leads = told.legal.leads;
  awaits = told.awaits;
  places = told.places;
  next = next.places;
}

no-frees : (first : Table) (number : ℕ) (past : List MountStory) (start t : Table) (story : MountRecord) (cells : List Cell) → IsRecordOf start t story
    → StandsBehind first number past left start story cells → FreesNone story.entries
no-frees first number past start t story cells told safe =
    let alone = legal-of first number past (story_as left start story) cells safe [] in
    frees-none start story.entries story.froms told.places alone.1.licensed

legal-next : (start t u : Table) (actor : ℕ) (made : Call) (answer : Reply) (story : MountRecord) → IsWholeCall made → IsRecordOf start t story → IsRecordOf start u (next-of story actor made answer)
    → FreesNone story.entries → (calls : List PastCall) (k : ℕ) → IsLegalMount calls k (story_as left start story)
    → IsLegalMount calls k (story_as left start (next-of story actor made answer))
legal-next start t u actor made answer story whole told next none calls k legal = record {
  last = u;
  legal = next.legal;
  intervals = own-interval (next-of story actor made answer).entries (next-of story actor made answer).froms next.places;
  licensed = licensed-more start t story.entries story.froms (entry_of actor made answer) (unfinished_of k calls)
      (grows-of start t u actor made answer story whole told next) none legal.licensed;
}

pub call-stands : (first : Table) (number : ℕ) (past : List MountStory) (start t u : Table) (actor : ℕ) (made : Call) (answer : Reply) (story : MountRecord) (old new : List Cell)
    → IsWholeCall made → IsRecordOf start t story → IsRecordOf start u (with_call story actor made answer)
    → ((count : ℕ) → answer ≡ reply.Covered count → count ≡ changes_made story)
    → ((image : List Sector) → IsImage new image → IsLeftBehind start (with_call story actor made answer) image)
    → StandsBehind first number past left start story old → StandsBehind first number past left start (with_call story actor made answer) new
unfolding LeavesPrefixes
call-stands first number past start t u actor made answer story old new whole told next covers leaves safe =
    let none = no-frees first number past start t story old told safe in
    safe-last first number past (story_as left start story) (story_as left start (next-of story actor made answer)) old new safe
    (record {
      alike = record { start = refl; kept = refl; base = refl };
      legal = legal-next start t u actor made answer story whole told next none;
      recovers = λ r. (r.0, r.1, take-append-le story.freed story.entries (entry_of actor made answer ∷ []) told.begun ∙ r.2);
      durable = λ right. right-more story (next-of story actor made answer) actor made answer right told.places refl refl next.places covers;
    })
    leaves

-- ---- an end

pub ended-stands : (first : Table) (number : ℕ) (past : List MountStory) (start : Table) (story : MountRecord) (old new : List Cell) → StandsBehind first number past left start story old
    → ((image : List Sector) → IsImage new image → IsPrefixLeft (story_as left start story) image (changes_made story))
    → StandsBehind first number past unmounted start (all_acknowledged story) new
unfolding LeavesPrefixes
ended-stands first number past start story old new safe all =
    safe-last first number past (story_as left start story) (story_as unmounted start (all_acknowledged story)) old new safe
    (record {
      alike = record { start = refl; kept = refl; base = refl };
      legal = λ calls k legal. record { last = legal.last; legal = legal.legal; intervals = legal.intervals; licensed = legal.licensed };
      recovers = λ r. (r.0, r.1, r.2);
      durable = λ right. record { least = right.least; most = right.most };
    })
    (λ image is. let l = all image is in (changes_made story, record { acknowledged = omega arith; made = omega arith; represents = l.represents }))

-- ---- cut off

pub cut-ended : (first : Table) (number : ℕ) (past : List MountStory) (start : Table) (story : MountRecord) (acknowledged : ℕ) (cells : List Cell)
    → story.freed ≤ length story.entries → StandsBehind first number past unmounted start story cells
    → StandsBehind first number past left start (record story { acknowledged = acknowledged }) cells
unfolding LeavesPrefixes
cut-ended first number past start story acknowledged cells within safe =
    let m = story_as unmounted start story in
    let r = recovers-of first number past m cells safe in
    let few = freed-few story r.0 within r.2 in
    let covered = covered-few-all story (durable-of first number past m cells safe) in
    let leaves = leaves-of first number past m cells safe in
    safe-last first number past m (story_as left start (record story { acknowledged = acknowledged })) cells cells safe
    (record {
      alike = record { start = refl; kept = refl; base = refl };
      legal = λ calls k legal. record { last = legal.last; legal = legal.legal; intervals = legal.intervals; licensed = legal.licensed };
      recovers = λ r. (r.0, r.1, r.2);
      durable = λ right. record { least = right.least; most = right.most };
    })
    (λ image is. let l = leaves image is in let a = l.1.acknowledged in (l.0, record { acknowledged = omega (arith, a, few, covered); made = l.1.made; represents = l.1.represents }))

pub cut-left : (first : Table) (number : ℕ) (past : List MountStory) (start : Table) (story : MountRecord) (acknowledged : ℕ) (cells : List Cell)
    → StandsBehind first number past left start story cells
    → StandsBehind first number past left start (record story { acknowledged = acknowledged }) cells
unfolding LeavesPrefixes
cut-left first number past start story acknowledged cells safe =
    let m = story_as left start story in
    let leaves = leaves-of first number past m cells safe in
    safe-last first number past m (story_as left start (record story { acknowledged = acknowledged })) cells cells safe
    (record {
      alike = record { start = refl; kept = refl; base = refl };
      legal = λ calls k legal. record { last = legal.last; legal = legal.legal; intervals = legal.intervals; licensed = legal.licensed };
      recovers = λ r. (r.0, r.1, r.2);
      durable = λ right. record { least = right.least; most = right.most };
    })
    (λ image is. let l = leaves image is in (l.0, record { acknowledged = l.1.acknowledged; made = l.1.made; represents = l.1.represents }))

pub cut-fresh : (first : Table) (number : ℕ) (past : List MountStory) (start : Table) (story : MountRecord) (acknowledged : ℕ) (cells : List Cell) → IsFresh story
    → StandsBehind first number past left start story cells
    → StandsBehind first number past never_up start (record story { acknowledged = acknowledged }) cells
unfolding LeavesPrefixes
cut-fresh first number past start story acknowledged cells fresh safe =
    let m = story_as left start story in
    let leaves = leaves-of first number past m cells safe in
    safe-last first number past m (story_as never_up start (record story { acknowledged = acknowledged })) cells cells safe
    (record {
      alike = record { start = refl; kept = refl; base = refl };
      legal = λ calls k legal. record { last = legal.last; legal = legal.legal; intervals = legal.intervals; licensed = legal.licensed };
      recovers = λ r. (r.0, r.1, fresh-frees story r.0 fresh r.2);
      durable = λ right. record { least = right.least; most = right.most };
    })
    (λ image is. let l = leaves image is in (l.0, record { acknowledged = omega arith; made = l.1.made; represents = l.1.represents }))

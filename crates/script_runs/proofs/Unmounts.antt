-- What an unmount line comes to.
use Rattle.std.proofs.Common.{Vec, Global, ◌≡◌, ◌∙◌, ◌<◌, ◌≤◌, ◌+◌, ℕ, Bool, true, false, List, [], ◌∷◌, ◌++◌, Option, None, Some, length, max, refl, sym, ap, subst, inl, arith}
use Rattle.std.specs.Prelude.{Contains, IsSomeAnd, IsTrue, MatchOption, ◌↔◌, is_some, vec_len, vec_capacity}
use Rattle.std.specs.List.{flat_map, range_with_len}
use Rattle.std.proofs.lemmas.List.{append-nil}
use Rattle.disk_model.specs.Disk.{Arming, Cell, Stopping}
use Rattle.life_table.specs.declared.key.Key.{Key}
use Rattle.life_table.specs.declared.types.Row.{Row}
use Rattle.life_table.specs.declared.types.Entry.{Entry}
use Rattle.life_table.specs.declared.types.MountRecord.{MountRecord}
use Rattle.life_table.specs.declared.table.Table.{Table}
use Rattle.life_table.specs.Table.{group_number, row_of}
use Rattle.life_table.specs.Legal.{Awaits}
use Rattle.life_table.specs.History.{LegalHistory, closed}
use Rattle.life_table.specs.WellFormed.{IsTable}
use Rattle.actor_world.specs.Moves.{awaiting_of}
use Rattle.mount.specs.declared.mounted.StillMounted.{StillMounted}
use Rattle.script.specs.declared.types.Command.TheVariants as command
use Rattle.script.specs.declared.answers.LineReply.{LineReply}
use Rattle.script.specs.declared.answers.LineReply.TheVariants as line
use Rattle.script.specs.declared.answers.Said.{Said}
use Rattle.run_history.specs.Answers.{AnswersEnd, AnswersLine, AnswersUnmount, OnlySays, all_awaiting, holds_in, line_said, with_frees}
use Rattle.run_history.specs.Mounts.{Ending, MountStory, acknowledged_by, left, most_covered, unmounted}
use Rattle.run_history.specs.States.{LineCall, RunState, UpMount, disarmed, down_now, ends_as, least_actor, mounts_of, next_line, table_now, up_now, with_up}
use Rattle.mounted_calls.specs.Running.{NoneAwaits}
use Rattle.script_names.specs.Bindings.{AreNames}
use Rattle.actor_holds.specs.Holds.{AreHolds}
use Rattle.run_mounts.specs.Ends.{all_acknowledged}
use Rattle.run_mounts.specs.Safe.{StandsBehind, StandsSafe, story_as}
use Rattle.run_mounts.specs.declared.ending.EndedMount.{EndedMount}
use Rattle.script_runs.specs.Running.{ComesTo, HasRoom, IsAnswer, IsArmedAs, IsBroken, IsDeviceAs, IsRun, IsUpAs, StandsWhereKnown, disk_of_run, records_of, run_of}
use Rattle.script_runs.specs.Stopping.{ComesToStop, IsLeftIn}
use Rattle.script_runs.specs.Unmounting.{HasEnded, HasNotEnded}
use Rattle.script_runs.specs.declared.running.Comes.{Comes}
use Rattle.script_runs.specs.declared.running.Comes.TheVariants.{Answered, Unanswered}
use Rattle.script_runs.specs.declared.running.Device.{Device}
use Rattle.script_runs.specs.declared.running.Device.TheVariants as device
use Rattle.script_runs.specs.declared.running.Run.{Run}
use Rattle.script_runs.specs.declared.running.Up.{Up}
use Rattle.script_runs.proofs.ComeUp.{records_more}
use Rattle.script_runs.proofs.Made.{left_as, next_run, tells_up}

-- ---- nothing is freed

-- a list that has no element
nothing_in : {A : Type 0} (xs : List A) → ((x : A) → Contains xs x → ⊥) → xs ≡ []
nothing_in [] none = refl
nothing_in (x ∷ xs) none = absurd (none x (0, omega arith, refl))

none_of_any : {A B : Type 0} (f : A → List B) (xs : List A) → ((x : A) → f x ≡ []) → flat_map f xs ≡ []
none_of_any f [] none = refl
none_of_any f (x ∷ xs) none = ap (λ l. l ++ flat_map f xs) (none x) ∙ none_of_any f xs none

none_there : (o : Option Row) → ((row : Row) → o ≡ Some row → Awaits row → ⊥) → IsSomeAnd o Awaits → ⊥
none_there None none there = absurd there
none_there (Some row) none there = none row refl there

-- what the law of the model says of the rows that await being freed
abbrev pub ShortageLaw : Type 0
ShortageLaw = (t : Table) (g : ℕ) (key : Key) → IsTable t → Contains (awaiting_of t g) key ↔ (group_number key ≡ g) × IsSomeAnd (row_of t key) Awaits

pub frees_nothing : ShortageLaw → (t : Table) → IsTable t → NoneAwaits t → all_awaiting t ≡ []
frees_nothing law t table none =
    none_of_any (awaiting_of t) (range_with_len 0 (length t.groups))
    (λ g. nothing_in (awaiting_of t g) (λ key is. none_there (row_of t key) (none key) ((law t g key table).0 is).1))

-- a mount of which nothing is freed
same_story : (story : MountRecord) → story.acknowledged ≡ acknowledged_by left story
    → record story { entries = story.entries ++ []; froms = story.froms ++ []; acknowledged = max story.freed (most_covered (story.entries ++ [])) } ≡ story
same_story story told =
    ap (λ (entries : List Entry). record story { entries = entries; froms = story.froms ++ []; acknowledged = max story.freed (most_covered entries) }) (append-nil story.entries)
    ∙ ap (λ (froms : List ℕ). record story { froms = froms; acknowledged = max story.freed (most_covered story.entries) }) (append-nil story.froms)
    ∙ ap (λ (n : ℕ). record story { acknowledged = n }) (sym told)

same_mount : (m : UpMount) (keys : List Key) → keys ≡ [] → m.story.acknowledged ≡ acknowledged_by left m.story → with_frees keys m ≡ m
same_mount m keys none told = ap (λ (k : List Key). with_frees k m) none ∙ ap (λ (story : MountRecord). record m { story = story }) (same_story m.story told)

-- ---- what is known of the mount

abbrev pub FreesLaw : Type 0
FreesLaw = (start t : Table) (entries : List Entry) → IsTable start → LegalHistory start entries t → NoneAwaits t → all_awaiting t ≡ []

abbrev pub HoldsLaw : Type 0
HoldsLaw = (start t : Table) (entries : List Entry) (held : List (ℕ × ℕ × ℕ)) → IsTable start → closed start ≡ start → LegalHistory start entries t → AreHolds entries held → length held ≡ holds_in t

-- its set of holds has those of its table
pub held_now : {D : Type 0} → HoldsLaw → (known : Bool) (cells : D → List Cell) (sector_count : D → ℕ) (lines : ℕ) (m : UpMount) (up : Up D) → IsUpAs known cells sector_count lines m up
    → length up.holds ≡ holds_in (table_now m)
held_now law known cells sector_count lines m up stand =
    let told = stand.running.parts.told in
    law m.start (table_now m) m.story.entries up.holds told.table stand.unheld
    (subst (λ (story : MountRecord). LegalHistory m.start story.entries (table_now m)) (sym stand.story) told.legal) stand.holds

-- an unmount frees nothing of it
pub same_freed : {D : Type 0} → FreesLaw → (known : Bool) (cells : D → List Cell) (sector_count : D → ℕ) (lines : ℕ) (m : UpMount) (up : Up D) → IsUpAs known cells sector_count lines m up
    → with_frees (all_awaiting (table_now m)) m ≡ m
same_freed law known cells sector_count lines m up stand =
    let told = stand.running.parts.told in
    same_mount m (all_awaiting (table_now m)) (law m.start (table_now m) up.mounted.story.entries told.table told.legal told.awaits)
    (subst (λ (story : MountRecord). story.acknowledged ≡ acknowledged_by left story) (sym stand.story) told.acknowledged)

-- nobody holds an inode of it
pub none_held : {D : Type 0} → HoldsLaw → (known : Bool) (cells : D → List Cell) (sector_count : D → ℕ) (lines : ℕ) (m : UpMount) (up : Up D) (opens : ℕ) → IsUpAs known cells sector_count lines m up
    → opens ≡ length up.holds → opens ≤ 0 → holds_in (table_now m) ≡ 0
none_held law known cells sector_count lines m up opens stand many none =
    sym (held_now law known cells sector_count lines m up stand) ∙ sym many ∙ omega arith

-- ---- the answer of the line

pub answers_end : (first : Table) (s : RunState) (m : UpMount) (said : Said) (next : RunState) → s.up ≡ Some m → m.going ≡ [] → with_frees (all_awaiting (table_now m)) m ≡ m
    → AnswersEnd s m said next → AnswersLine first s command.Unmount said next
answers_end first s m said next is_up going same answers =
    let freed : AnswersEnd s (with_frees (all_awaiting (table_now m)) m) said next = subst (λ (u : UpMount). AnswersEnd s u said next) (sym same) answers in
    let waits : AnswersUnmount s m said next =
    subst (λ (calls : List LineCall). MatchOption (least_actor calls) (AnswersEnd s (with_frees (all_awaiting (table_now m)) m) said next) (λ actor. OnlySays (line.Mid actor) s said next)) (sym going) freed in
    subst (λ (o : Option UpMount). MatchOption o (OnlySays line.NotMounted s said next) (λ up. AnswersUnmount s up said next)) (sym is_up) waits

-- no mount is up
pub unmounted_idle : {D : Type 0} (known sure : Bool) (cells : D → List Cell) (sector_count : D → ℕ) (arming : D → Arming) (first : Table) (number : ℕ) (s : RunState) (run : Run D)
    → IsRun known cells sector_count arming s run → s.up ≡ None → (IsTrue sure → StandsSafe first number (mounts_of s) (cells (disk_of_run run)))
    → IsAnswer known sure cells sector_count arming first number s command.Unmount (line_said line.NotMounted) run
unmounted_idle known sure cells sector_count arming first number s run is down stands = record {
  next = next_line s;
  run_is = next_run known cells sector_count arming s run is;
  lines = refl;
  answers = λ here. subst (λ (o : Option UpMount). MatchOption o (OnlySays line.NotMounted s (line_said line.NotMounted) (next_line s)) (λ up. AnswersUnmount s up (line_said line.NotMounted) (next_line s)))
      (sym down) (refl, refl);
  safe = stands;
}

-- somebody holds an inode
pub busy : {D : Type 0} → HoldsLaw → FreesLaw → (known sure : Bool) (cells : D → List Cell) (sector_count : D → ℕ) (arming : D → Arming) (first : Table) (number : ℕ) (s : RunState) (m : UpMount)
    (names : List (List ℕ × Key)) (past : Vec MountRecord Global) (up : Up D) (opens : ℕ) → IsRun known cells sector_count arming s (record { names = names; past = past; device = device.Mounted up })
    → s.up ≡ Some m → IsUpAs known cells sector_count s.lines m up → StandsWhereKnown sure first number s (cells up.mounted.store.disk) → opens ≡ length up.holds → 0 < opens
    → IsAnswer known sure cells sector_count arming first number s command.Unmount (line_said (line.Busy opens)) (record { names = names; past = past; device = device.Mounted up })
busy {D = D} holds_law frees_law known sure cells sector_count arming first number s m names past up opens is is_up stand stands many some =
    let run : Run D = record { names = names; past = past; device = device.Mounted up } in
    let same : next_line s ≡ up_now m s = ap (λ (o : Option UpMount). record (next_line s) { up = o }) is_up in
    record {
      next = up_now m s;
      run_is = subst (λ (x : RunState). IsRun known cells sector_count arming x run) same (next_run known cells sector_count arming s run is);
      lines = refl;
      answers = λ here. answers_end first s m (line_said (line.Busy opens)) (up_now m s) is_up stand.going (same_freed frees_law known cells sector_count s.lines m up stand)
          (many ∙ held_now holds_law known cells sector_count s.lines m up stand, some, refl);
      safe = λ here. subst (λ (x : RunState). StandsSafe first number (mounts_of x) (cells up.mounted.store.disk)) same (stands here);
    }

-- ---- the mount is over

-- the run behind it
over : {D : Type 0} (known sure : Bool) (cells : D → List Cell) (sector_count : D → ℕ) (arming : D → Arming) (first : Table) (number : ℕ) (s at : RunState) (m : UpMount)
    (names : List (List ℕ × Key)) (old : List MountRecord) (past : Vec MountRecord Global) (disk : D) (ending : Ending) (story : MountRecord) (reply : LineReply)
    → AreNames at.names names → old ≡ records_of at.past → at.lines ≡ s.lines → past.items ≡ old ++ story ∷ [] → ends_as ending m ≡ story_as ending m.start story → IsArmedAs at.armed (arming disk)
    → (IsTrue sure → AnswersLine first s command.Unmount (line_said reply) (down_now ending m at)) → (IsTrue sure → StandsBehind first number at.past ending m.start story (cells disk))
    → IsAnswer known sure cells sector_count arming first number s command.Unmount (line_said reply) (record { names = names; past = past; device = device.Idle disk })
over known sure cells sector_count arming first number s at m names old past disk ending story reply bound records lines items ends armed answers safe = record {
  next = down_now ending m at;
  run_is = record {
    names = bound;
    past = items ∙ ap (λ (x : MountStory). old ++ x.story ∷ []) (sym ends) ∙ records_more at.past (ends_as ending m) old records;
    device = tt;
    room = tt;
    armed = armed;
  };
  lines = ap (λ (n : ℕ). n + 1) lines;
  answers = answers;
  safe = λ here. subst (λ (x : MountStory). StandsSafe first number (at.past ++ x ∷ []) (cells disk)) (sym ends) (safe here);
}

-- it has ended, and all of its changes are acknowledged
pub ended_over : {D : Type 0} → FreesLaw → (known sure : Bool) (cells : D → List Cell) (sector_count : D → ℕ) (arming : D → Arming) (first : Table) (number : ℕ) (s : RunState)
    (names : List (List ℕ × Key)) (old : List MountRecord) (past : Vec MountRecord Global) (up : Up D) (ended : EndedMount D) (answer : Bool)
    → HasEnded known sure cells sector_count arming first number s names old up ended → past.items ≡ old ++ ended.story ∷ [] → answer ≡ (arming ended.disk).stopped → answer ≡ false
    → IsAnswer known sure cells sector_count arming first number s command.Unmount (line_said line.Unmounted) (record { names = names; past = past; device = device.Idle ended.disk })
ended_over law known sure cells sector_count arming first number s names old past up ended answer is items asked goes_on =
    let l = is.leaving in
    let m : UpMount = l.before in
    let ends : ends_as unmounted m ≡ story_as unmounted m.start ended.story =
    ap (λ (x : MountRecord). story_as unmounted m.start (all_acknowledged x)) l.stand.story ∙ ap (λ (x : MountRecord). story_as unmounted m.start x) (sym is.story) in
    over known sure cells sector_count arming first number s s m names old past ended.disk unmounted ended.story line.Unmounted l.bound l.records refl items ends
    (record { goes_on = sym asked ∙ goes_on; told = is.behind_writes.told })
    (λ here. answers_end first s m (line_said line.Unmounted) (down_now unmounted m s) l.is_up l.stand.going (same_freed law known cells sector_count s.lines m up l.stand) (l.none_held, refl))
    is.safe

-- a mount that has ended, cut off
abbrev pub EndedLaw : Type 0
EndedLaw = (first : Table) (number : ℕ) (past : List MountStory) (start : Table) (story : MountRecord) (acknowledged : ℕ) (cells : List Cell)
    → story.freed ≤ length story.entries → StandsBehind first number past unmounted start story cells
    → StandsBehind first number past left start (record story { acknowledged = acknowledged }) cells

pub ended_stopped : {D : Type 0} → EndedLaw → FreesLaw → (known sure : Bool) (cells : D → List Cell) (sector_count : D → ℕ) (arming : D → Arming) (first : Table) (number : ℕ) (s : RunState)
    (names : List (List ℕ × Key)) (old : List MountRecord) (past : Vec MountRecord Global) (up : Up D) (ended : EndedMount D) (pushed : MountRecord) (disk : D) (acknowledged : ℕ) (answer : Bool)
    → HasEnded known sure cells sector_count arming first number s names old up ended → acknowledged ≡ up.mounted.story.acknowledged
    → pushed ≡ record ended.story { acknowledged = acknowledged } → past.items ≡ old ++ pushed ∷ [] → answer ≡ (arming ended.disk).stopped → answer ≡ true
    → cells disk ≡ cells ended.disk → (arming disk).stopped ≡ false → (arming disk).armed ≡ None
    → IsAnswer known sure cells sector_count arming first number s command.Unmount (line_said line.Stopped) (record { names = names; past = past; device = device.Idle disk })
ended_stopped law frees_law known sure cells sector_count arming first number s names old past up ended pushed disk acknowledged answer is same_number is_pushed items asked stopped same goes_on unarmed =
    let l = is.leaving in
    let m : UpMount = l.before in
    let told = l.stand.running.parts.told in
    let pushed_is : pushed ≡ up.mounted.story =
    is_pushed ∙ ap (λ (n : ℕ). record ended.story { acknowledged = n }) same_number ∙ ap (λ (x : MountRecord). record x { acknowledged = up.mounted.story.acknowledged }) is.story in
    let ends : ends_as left m ≡ story_as left m.start pushed =
    left_as m (table_now m) up.mounted.story l.stand.story told ∙ ap (λ (x : MountRecord). story_as left m.start x) (sym pushed_is) in
    let begun : ended.story.freed ≤ length ended.story.entries = subst (λ (x : MountRecord). x.freed ≤ length x.entries) (sym is.story) told.begun in
    over known sure cells sector_count arming first number s (disarmed s) m names old past disk left pushed line.Stopped l.bound l.records refl items ends
    (record { goes_on = goes_on; told = ap (λ (o : Option Stopping). is_some o) unarmed })
    (λ here. answers_end first s m (line_said line.Stopped) (down_now left m (disarmed s)) l.is_up l.stand.going (same_freed frees_law known cells sector_count s.lines m up l.stand)
    (is.behind_writes.stopped (sym asked ∙ stopped), l.none_held, refl))
    (λ here. subst (λ (x : MountRecord). StandsBehind first number s.past left m.start x (cells disk)) (sym is_pushed)
    (subst (λ (held : List Cell). StandsBehind first number s.past left m.start (record ended.story { acknowledged = acknowledged }) held) (sym same)
    (law first number s.past m.start ended.story acknowledged (cells ended.disk) begun (is.safe here))))

-- ---- it has not ended

-- what is recorded of it
still_ends : {D : Type 0} (known sure : Bool) (cells : D → List Cell) (sector_count : D → ℕ) (arming : D → Arming) (first : Table) (number : ℕ) (s : RunState)
    (names : List (List ℕ × Key)) (old : List MountRecord) (holds : List (ℕ × ℕ × ℕ)) (up : Up D) (still : StillMounted D) (is : HasNotEnded known sure cells sector_count arming first number s names old holds up still)
    → ends_as left is.leaving.before ≡ story_as left is.leaving.before.start still.mounted.story
still_ends known sure cells sector_count arming first number s names old holds up still is =
    let l = is.leaving in
    let m : UpMount = l.before in
    left_as m (table_now m) still.mounted.story (l.stand.story ∙ sym is.story) (is.running m.start (table_now m) l.stand.running).parts.told

-- its log is down: it is left
pub left_down : {D : Type 0} → FreesLaw → (known sure : Bool) (cells : D → List Cell) (sector_count : D → ℕ) (arming : D → Arming) (first : Table) (number : ℕ) (s : RunState)
    (names : List (List ℕ × Key)) (old : List MountRecord) (past : Vec MountRecord Global) (holds : List (ℕ × ℕ × ℕ)) (up : Up D) (still : StillMounted D) (story : MountRecord) (disk : D) (fault : ℕ)
    → HasNotEnded known sure cells sector_count arming first number s names old holds up still → story ≡ still.mounted.story → disk ≡ still.mounted.store.disk → past.items ≡ old ++ story ∷ []
    → (arming still.mounted.store.disk).stopped ≡ false
    → IsAnswer known sure cells sector_count arming first number s command.Unmount (line_said (line.Down fault)) (record { names = names; past = past; device = device.Idle disk })
left_down law known sure cells sector_count arming first number s names old past holds up still story disk fault is story_is disk_is items goes_on =
    let l = is.leaving in
    let m : UpMount = l.before in
    let ends = still_ends known sure cells sector_count arming first number s names old holds up still is in
    over known sure cells sector_count arming first number s s m names old past disk left story (line.Down fault) l.bound l.records refl items
    (ends ∙ ap (λ (x : MountRecord). story_as left m.start x) (sym story_is))
    (record { goes_on = ap (λ (x : _). (arming x).stopped) disk_is ∙ goes_on; told = ap (λ (x : _). is_some (arming x).armed) disk_is ∙ is.behind_writes.told })
    (λ here. answers_end first s m (line_said (line.Down fault)) (down_now left m s) l.is_up l.stand.going (same_freed law known cells sector_count s.lines m up l.stand) (l.none_held, refl))
    (λ here. subst (λ (x : MountRecord). StandsBehind first number s.past left m.start x (cells disk)) (sym story_is)
    (subst (λ (held : List Cell). StandsBehind first number s.past left m.start still.mounted.story held) (sym (ap cells disk_is)) (is.safe here)))

-- the mount as it is then
still_as : {D : Type 0} (known sure : Bool) (cells : D → List Cell) (sector_count : D → ℕ) (arming : D → Arming) (first : Table) (number : ℕ) (s : RunState)
    (names : List (List ℕ × Key)) (old : List MountRecord) (holds : List (ℕ × ℕ × ℕ)) (up : Up D) (still : StillMounted D) (is : HasNotEnded known sure cells sector_count arming first number s names old holds up still)
    → IsUpAs known cells sector_count (s.lines + 1) is.leaving.before (record { mounted = still.mounted; holds = holds })
still_as known sure cells sector_count arming first number s names old holds up still is =
    let l = is.leaving in
    let m : UpMount = l.before in
    record {
      story = l.stand.story ∙ sym is.story;
      going = l.stand.going;
      unheld = l.stand.unheld;
      running = is.running m.start (table_now m) l.stand.running;
      holds = subst (AreHolds m.story.entries) (sym is.holds_are) l.stand.holds;
      steady = l.stand.steady;
      number = l.stand.number;
      few = let f = l.stand.few in omega (arith, f);
    }

-- a fault of the disk leaves it up
abbrev pub IsUpReply : LineReply → Type 0
IsUpReply line.WriteFault = Unit {0}
IsUpReply line.FlushFault = Unit {0}
IsUpReply line.PositionEnd = Unit {0}
IsUpReply reply = ⊥

answers_up : (s : RunState) (m : UpMount) (reply : LineReply) → IsUpReply reply → holds_in (table_now m) ≡ 0 → AnswersEnd s m (line_said reply) (up_now m s)
answers_up s m line.WriteFault up none = (none, refl)
answers_up s m line.FlushFault up none = (none, refl)
answers_up s m line.PositionEnd up none = (none, refl)
answers_up s m _ up none = absurd up

pub still_up : {D : Type 0} → FreesLaw → (known sure : Bool) (cells : D → List Cell) (sector_count : D → ℕ) (arming : D → Arming) (first : Table) (number : ℕ) (s : RunState)
    (names : List (List ℕ × Key)) (past : Vec MountRecord Global) (holds : List (ℕ × ℕ × ℕ)) (up : Up D) (still : StillMounted D) (reply : LineReply)
    → HasNotEnded known sure cells sector_count arming first number s names past.items holds up still → IsUpReply reply → (arming still.mounted.store.disk).stopped ≡ false → vec_len past < vec_capacity past
    → IsAnswer known sure cells sector_count arming first number s command.Unmount (line_said reply)
    (record { names = names; past = past; device = device.Mounted (record { mounted = still.mounted; holds = holds }) })
still_up law known sure cells sector_count arming first number s names past holds up still reply is up_reply goes_on room =
    let l = is.leaving in
    let m : UpMount = l.before in
    record {
      next = up_now m s;
      run_is = record {
        names = l.bound;
        past = l.records;
        device = still_as known sure cells sector_count arming first number s names past.items holds up still is;
        room = room;
        armed = record { goes_on = goes_on; told = is.behind_writes.told };
      };
      lines = refl;
      answers = λ here. answers_end first s m (line_said reply) (up_now m s) l.is_up l.stand.going (same_freed law known cells sector_count s.lines m up l.stand) (answers_up s m reply up_reply l.none_held);
      safe = λ here. subst (λ (x : MountStory). StandsSafe first number (s.past ++ x ∷ []) (cells still.mounted.store.disk))
          (sym (still_ends known sure cells sector_count arming first number s names past.items holds up still is)) (is.safe here);
    }

-- such a reply tells of no damage
pub says_fault : (reply : LineReply) → IsUpReply reply → (rule sector : ℕ) → line_said reply ≡ line_said (line.Damaged rule sector) → ⊥
says_fault reply up rule sector same = let e : reply ≡ line.Damaged rule sector = cc in subst IsUpReply e up

-- the disk is the same, and so is its count
pub same_count : {D : Type 0} (fault_count : D → ℕ) (disk : D) (comes : Comes D) → disk ≡ disk_of_run (run_of comes) → fault_count disk ≤ fault_count (disk_of_run (run_of comes))
same_count fault_count disk comes same = let e : fault_count disk ≡ fault_count (disk_of_run (run_of comes)) = ap fault_count same in omega (arith, e)

pub same_count_run : {D : Type 0} (fault_count : D → ℕ) (disk : D) (run : Run D) → disk ≡ disk_of_run run → fault_count disk ≤ fault_count (disk_of_run run)
same_count_run fault_count disk run same = let e : fault_count disk ≡ fault_count (disk_of_run run) = ap fault_count same in omega (arith, e)

-- there was no memory
pub broken_end : {D : Type 0} (known sure : Bool) (cells : D → List Cell) (sector_count : D → ℕ) (arming : D → Arming) (first : Table) (number : ℕ) (s : RunState)
    (names : List (List ℕ × Key)) (past : Vec MountRecord Global) (holds : List (ℕ × ℕ × ℕ)) (up : Up D) (still : StillMounted D)
    → HasNotEnded known sure cells sector_count arming first number s names past.items holds up still → vec_len past < vec_capacity past
    → IsBroken sure cells first number s command.Unmount (record { names = names; past = past; device = device.Mounted (record { mounted = still.mounted; holds = holds }) })
broken_end known sure cells sector_count arming first number s names past holds up still is room =
    let l = is.leaving in
    let m : UpMount = l.before in
    record {
      last = s;
      tells = record {
        records = tells_up known cells sector_count (s.lines + 1) s m past.items (record { mounted = still.mounted; holds = holds }) still.mounted.story l.is_up l.records
            (still_as known sure cells sector_count arming first number s names past.items holds up still is) refl;
        room = room;
      };
      breaks = λ here. inl refl;
      safe = λ here. subst (λ (o : Option UpMount). StandsSafe first number (with_up s.past o) (cells still.mounted.store.disk)) (sym l.is_up)
          (subst (λ (x : MountStory). StandsSafe first number (s.past ++ x ∷ []) (cells still.mounted.store.disk))
          (sym (still_ends known sure cells sector_count arming first number s names past.items holds up still is)) (is.safe here));
    }

-- the device has stopped
still_stopped : {D : Type 0} → FreesLaw → (known sure : Bool) (cells : D → List Cell) (sector_count : D → ℕ) (arming : D → Arming) (fault_count : D → ℕ) (first : Table) (number : ℕ) (s : RunState)
    (names : List (List ℕ × Key)) (old : List MountRecord) (holds : List (ℕ × ℕ × ℕ)) (up : Up D) (still : StillMounted D) (run : Run D) (said : Said)
    → HasNotEnded known sure cells sector_count arming first number s names old holds up still → (arming still.mounted.store.disk).stopped ≡ true
    → IsLeftIn cells arming fault_count names old still.mounted run said → IsAnswer known sure cells sector_count arming first number s command.Unmount said run
still_stopped {D = D} law known sure cells sector_count arming fault_count first number s names old holds up still run said is stopped gone =
    let l = is.leaving in
    let m : UpMount = l.before in
    let ends = still_ends known sure cells sector_count arming first number s names old holds up still is in
    record {
      next = down_now left m (disarmed s);
      run_is = record {
        names = subst (AreNames s.names) (sym gone.names_are) l.bound;
        past = gone.records ∙ ap (λ (x : MountStory). old ++ x.story ∷ []) (sym ends) ∙ records_more s.past (ends_as left m) old l.records;
        device = subst (λ (d : Device D). IsDeviceAs known cells sector_count (s.lines + 1) None d) (sym gone.idle) tt;
        room = subst (λ (d : Device D). HasRoom run d) (sym gone.idle) tt;
        armed = record { goes_on = gone.goes_on; told = ap (λ (o : Option Stopping). is_some o) gone.unarmed };
      };
      lines = refl;
      answers = λ here. subst (λ (one : Said). AnswersLine first s command.Unmount one (down_now left m (disarmed s))) (sym gone.said_is)
          (answers_end first s m (line_said line.Stopped) (down_now left m (disarmed s)) l.is_up l.stand.going (same_freed law known cells sector_count s.lines m up l.stand)
          (is.behind_writes.stopped stopped, l.none_held, refl));
      safe = λ here. subst (StandsSafe first number (s.past ++ ends_as left m ∷ [])) (sym gone.cells_are)
          (subst (λ (x : MountStory). StandsSafe first number (s.past ++ x ∷ []) (cells still.mounted.store.disk)) (sym ends) (is.safe here));
    }

pub comes_stopped : {D : Type 0} → FreesLaw → (known sure : Bool) (cells : D → List Cell) (sector_count : D → ℕ) (arming : D → Arming) (fault_count : D → ℕ) (first : Table) (number : ℕ) (s : RunState)
    (names : List (List ℕ × Key)) (old : List MountRecord) (holds : List (ℕ × ℕ × ℕ)) (up : Up D) (still : StillMounted D) (comes : Comes D)
    → HasNotEnded known sure cells sector_count arming first number s names old holds up still → (arming still.mounted.store.disk).stopped ≡ true
    → ComesToStop cells arming fault_count names old still.mounted comes → ComesTo known sure cells sector_count arming first number s command.Unmount comes
comes_stopped law known sure cells sector_count arming fault_count first number s names old holds up still (Answered run said) is stopped gone =
    still_stopped law known sure cells sector_count arming fault_count first number s names old holds up still run said is stopped gone
comes_stopped law known sure cells sector_count arming fault_count first number s names old holds up still (Unanswered run) is stopped gone = absurd gone

-- Each entry of a run's mounts stands at or behind the begin of its call, line by line.
use Rattle.std.proofs.Common.{◌≡◌, ◌≤◌, inl, inr, ℕ, List, [], ◌∷◌, ◌++◌, Option, None, Some, length, refl, ap, sym, subst, ◌∙◌}
use Rattle.std.specs.Prelude.{replicate, take}
use Rattle.std.proofs.lemmas.List.{length-map}
use Rattle.life_limits.specs.declared.TheConstants.{MAX_ACTORS}
use Rattle.life_table.specs.declared.key.Key.{Key}
use Rattle.life_table.specs.declared.types.Event.TheVariants.{Freed}
use Rattle.life_table.specs.declared.types.Entry.{Entry}
use Rattle.life_table.specs.declared.types.MountRecord.{MountRecord}
use Rattle.life_table.specs.declared.table.Table.{Table}
use Rattle.life_table.specs.History.{frees_of}
use Rattle.actor_world.specs.Licence.{Interval}
use Rattle.script.specs.declared.types.Command.{Command}
use Rattle.script.specs.declared.types.Command.TheVariants as command
use Rattle.script.specs.declared.types.Line.{Line as ScriptLine}
use Rattle.script.specs.declared.types.Spoken.{Spoken}
use Rattle.script.specs.declared.answers.LineReply.{LineReply}
use Rattle.script.specs.declared.answers.LineReply.TheVariants as line
use Rattle.script.specs.declared.answers.Said.{Said}
use Rattle.script.specs.declared.answers.Said.TheVariants.{Of, Line}
use Rattle.script.specs.declared.status.Status.{Status}
use Rattle.script.specs.declared.status.Status.TheVariants as status
use Rattle.run_history.specs.Mounts.{Ending, MountStory, left, never_up, start_behind, unmounted}
use Rattle.run_history.specs.States.{LineCall, RunState, UpMount, begun, disarmed, down_now, ends_as, going_of, least_actor, mounts_of, run_begins, table_now, went_on, with_up}
use Rattle.run_history.specs.Answers.{Answers, AnswersEnd, AnswersLine, AnswersMount, AnswersUnmount, BreaksOff, EndsCall, FailsToMount, IsFresh, OnlySays, RunsCall, StepsCall, StopsIn, WithCall, WithGoing, WithMount, Works, all_awaiting, stopped_now, with_frees}
use Rattle.run_history.specs.Headline.{EndsRun, Replies}
use Rattle.run_history.proofs.Members.{Mem, mem-append, mem-going, mem-one, no_member}
use Rattle.run_history.proofs.Between.{Right, at_work}
use Rattle.run_history.proofs.Walks.{AtWork, RightState, begins_at_work, begins_right, by_option, by_result, is_new, line_right, right_with, worked}
use Rattle.run_history.proofs.Intervals.{Kept, kept_fresh, kept_frees, kept_interval, kept_more}

abbrev pub KeptStory : MountRecord → Type 0
KeptStory story = Kept story.entries story.froms

abbrev pub KeptUp : Option UpMount → Type 0
KeptUp None = Unit {0}
KeptUp (Some up) = KeptStory up.story

pub record KeptState (past : List MountStory) (up : Option UpMount) : Type 0 where
  pub each : (m : MountStory) → Mem m past → KeptStory m.story
  pub now : KeptUp up

pub StateKept : RunState → Type 0
StateKept s = KeptState s.past s.up

-- a mount goes over
kept_past : (past : List MountStory) (ending : Ending) (up : UpMount) → ((m : MountStory) → Mem m past → KeptStory m.story) → KeptStory up.story
    → (m : MountStory) → Mem m (past ++ ends_as ending up ∷ []) → KeptStory m.story
kept_past past ending up each now m at = elim (mem-append m past (ends_as ending up ∷ []) at) [
  | inl old ↦ each m old
  | inr new ↦ subst (λ (x : MountStory). KeptStory x.story) (sym (mem-one m (ends_as ending up) new)) now
]

down_kept : (ending : Ending) (up : UpMount) (s : RunState) → ((m : MountStory) → Mem m s.past → KeptStory m.story) → KeptStory up.story → StateKept (down_now ending up s)
unfolding StateKept
down_kept ending up s each now = record { each = kept_past s.past ending up each now; now = tt }

fresh_kept : (story : MountRecord) → IsFresh story → KeptStory story
fresh_kept story fresh = kept_fresh story.entries story.froms fresh.keys
    (ap length fresh.entries ∙ length-map fresh.keys (λ (key : Key). record { actor = MAX_ACTORS; event = Freed key })) fresh.froms

only_says : (reply : LineReply) (s : RunState) (said : Said) (next : RunState) → StateKept s → OnlySays reply s said next → StateKept next
unfolding StateKept
only_says reply s said next kept a = subst StateKept (sym a.1) kept

failing : (first : Table) (s next : RunState) → StateKept s → FailsToMount first s next → StateKept next
unfolding StateKept
failing first s next kept (inl e) = subst StateKept (sym e) kept
failing first s next kept (inr (story, fresh, e)) =
    subst StateKept (sym e) (down_kept never_up (record { start = start_behind first s.past story.kept; story = story; going = [] }) s kept.each (fresh_kept story fresh))

mounting : (first : Table) (s : RunState) (said : Said) (next : RunState) → StateKept s → AnswersMount first s said next → StateKept next
unfolding StateKept
mounting first s (Line None (line.Mounted kept freed)) next k (story, fresh, a, b, d, e) = subst StateKept (sym e) (record { each = k.each; now = fresh_kept story fresh })
mounting first s (Line None (line.Damaged rule sector)) next k a = subst StateKept (sym a) k
mounting first s (Line None line.ReadFault) next k a = failing first s next k a
mounting first s (Line None line.WriteFault) next k a = failing first s next k a
mounting first s (Line None line.FlushFault) next k a = failing first s next k a
mounting first s (Line None line.PositionEnd) next k a = failing first s next k a
mounting first s (Line None line.Stopped) next k a = failing first (disarmed s) next k a.1
mounting first s said next k a = absurd a

-- the story of the mount that is up, with those that are over
abbrev Past : RunState → Type 0
Past s = (m : MountStory) → Mem m s.past → KeptStory m.story

ending_kept : (s : RunState) (up : UpMount) (said : Said) (next : RunState) → Past s → KeptStory up.story → AnswersEnd s up said next → StateKept next
unfolding StateKept
ending_kept s up (Line None (line.Busy opens)) next each now a = subst StateKept (sym a.2) (record { each = each; now = now })
ending_kept s up (Line None line.Unmounted) next each now a = subst StateKept (sym a.1) (down_kept unmounted up s each now)
ending_kept s up (Line None (line.Down fault)) next each now a = subst StateKept (sym a.1) (down_kept left up s each now)
ending_kept s up (Line None line.WriteFault) next each now a = subst StateKept (sym a.1) (record { each = each; now = now })
ending_kept s up (Line None line.FlushFault) next each now a = subst StateKept (sym a.1) (record { each = each; now = now })
ending_kept s up (Line None line.PositionEnd) next each now a = subst StateKept (sym a.1) (record { each = each; now = now })
ending_kept s up (Line None line.Stopped) next each now a = subst StateKept (sym a.2) (down_kept left up (disarmed s) each now)
ending_kept s up said next each now a = absurd a

freed_kept : (up : UpMount) (keys : List Key) → KeptStory up.story → KeptStory (with_frees keys up).story
freed_kept up keys now = kept_frees up.story.entries up.story.froms (frees_of MAX_ACTORS keys) keys
    (length-map keys (λ (key : Key). record { actor = MAX_ACTORS; event = Freed key })) now

unmounting : (s : RunState) (up : UpMount) (said : Said) (next : RunState) → StateKept s → KeptStory up.story → AnswersUnmount s up said next → StateKept next
unfolding StateKept
unmounting s up said next kept now a = by_option (least_actor up.going) _ _ (StateKept next)
    (λ none b. ending_kept s (with_frees (all_awaiting (table_now up)) up) said next kept.each (freed_kept up (all_awaiting (table_now up)) now) b)
    (λ actor is b. only_says (line.Mid actor) s said next kept b) a

-- ---- lines that work on a call

went_kept : (s : RunState) (up : UpMount) (made after : LineCall) (added : List Entry) → AtWork s up made → KeptStory up.story → Works up made added after
    → Kept (up.story.entries ++ added) (up.story.froms ++ replicate (length added) after.begin)
went_kept s up made after added at now w =
    let begin = (worked up made added after w).begin in
    kept_more up.story.entries added up.story.froms after.begin now (subst (λ (n : ℕ). n ≤ length up.story.entries) (sym begin) at.begin)

ends_kept : (s : RunState) (up : UpMount) (made : LineCall) (mount place : ℕ) (next : RunState) → Past s → AtWork s up made → KeptStory up.story
    → EndsCall s up made mount place next → StateKept next
unfolding StateKept
ends_kept s up made mount place next each at now (added, after, w, here, entry, e) =
    subst StateKept (sym e) (record { each = each; now = went_kept s up made after added at now w })

stops_kept : (s : RunState) (up : UpMount) (made : LineCall) (next : RunState) → Past s → AtWork s up made → KeptStory up.story → StopsIn s up made next → StateKept next
stops_kept s up made next each at now (added, after, w, e) =
    subst StateKept (sym e) (down_kept left (went_on after added up) s each (went_kept s up made after added at now w))

runs_kept : (s : RunState) (up : UpMount) (made : LineCall) (said : Said) (next : RunState) → Past s → AtWork s up made → KeptStory up.story
    → RunsCall s up made said next → StateKept next
unfolding StateKept
runs_kept s up made (Of mount place) next each at now a = ends_kept s up made mount place next each at now a
runs_kept s up made (Line None (line.Waits holder)) next each at now (added, after, w, other, e) =
    subst StateKept (sym e) (record { each = each; now = went_kept s up made after added at now w })
runs_kept s up made (Line None line.Stopped) next each at now a = stops_kept (disarmed s) up made next each at now a.1
runs_kept s up made said next each at now a = absurd a

steps_kept : (s : RunState) (up : UpMount) (made : LineCall) (said : Said) (next : RunState) → StateKept s → AtWork s up made → KeptStory up.story
    → StepsCall s up made said next → StateKept next
unfolding StateKept
steps_kept s up made (Of mount place) next kept at now a = ends_kept s up made mount place next kept.each at now a
steps_kept s up made (Line None line.Went) next kept at now (added, after, w, e) =
    subst StateKept (sym e) (record { each = kept.each; now = went_kept s up made after added at now w })
steps_kept s up made (Line None (line.Waits holder)) next kept at now a = subst StateKept (sym a.1) kept
steps_kept s up made (Line None line.Stopped) next kept at now a = stops_kept (disarmed s) up made next kept.each at now a.1
steps_kept s up made said next kept at now a = absurd a

-- ---- lines

kept_with : (s : RunState) (o : Option UpMount) → StateKept s → s.up ≡ o → KeptUp o
unfolding StateKept
kept_with s o kept e = subst KeptUp e kept.now

with_mount : (s : RunState) (said : Said) (next : RunState) (answers : UpMount → Type 0) → RightState s → StateKept s
    → ((up : UpMount) → Right s.lines (length s.past) s.over (Some up) → KeptStory up.story → answers up → StateKept next) → WithMount s said next answers → StateKept next
with_mount s said next answers right kept go a = by_option s.up _ answers (StateKept next)
    (λ none b. only_says line.NotMounted s said next kept b) (λ up is b. go up (right_with s (Some up) right is) (kept_with s (Some up) kept is) b) a

with_call : (s : RunState) (actor : ℕ) (words : Spoken) (said : Said) (next : RunState) (answers : UpMount → LineCall → Type 0) → RightState s → StateKept s
    → ((up : UpMount) (made : LineCall) → AtWork s up made → KeptStory up.story → answers up made → StateKept next)
    → WithCall s actor words said next answers → StateKept next
with_call s actor words said next answers right kept go a = with_mount s said next _ right kept (λ up now k b.
    by_result (begun s up actor words (going_of actor up.going)) (answers up) _ (StateKept next)
    (λ made is d. go up made (begins_at_work s up made now (is_new s up actor words (going_of actor up.going) made is)) k d)
    (λ refusal d. only_says refusal s said next kept d) b) a

with_going : (s : RunState) (actor : ℕ) (said : Said) (next : RunState) (answers : UpMount → LineCall → Type 0) → RightState s → StateKept s
    → ((up : UpMount) (made : LineCall) → AtWork s up made → KeptStory up.story → answers up made → StateKept next)
    → WithGoing s actor said next answers → StateKept next
with_going s actor said next answers right kept go a = with_mount s said next _ right kept (λ up now k b.
    by_option (going_of actor up.going) _ (answers up) (StateKept next)
    (λ none d. only_says line.Idle s said next kept d)
    (λ made is d. go up made (at_work s.lines (length s.past) s.over (length up.story.entries) up.going made now.now (mem-going actor made up.going is)) k d) b) a

stopping : (o : Option UpMount) (s : RunState) → StateKept s → s.up ≡ o → StateKept (stopped_now o s)
unfolding StateKept
stopping None s kept e = kept
stopping (Some up) s kept e = down_kept left up s kept.each (kept_with s (Some up) kept e)

line_kept : (first : Table) (s : RunState) (asked : Command) (said : Said) (next : RunState) → RightState s → StateKept s → AnswersLine first s asked said next → StateKept next
unfolding StateKept
line_kept first s command.Mount said next right kept a = by_option s.up _ _ (StateKept next)
    (λ none b. mounting first s said next kept b) (λ up is b. only_says line.AlreadyMounted s said next kept b) a
line_kept first s command.Unmount said next right kept a = with_mount s said next _ right kept (λ up now k b. unmounting s up said next kept k b) a
line_kept first s command.Stop said next right kept a = subst StateKept (sym a.1) (stopping s.up (disarmed s) kept refl)
line_kept first s (command.Arm count sectors) said next right kept a = subst StateKept (sym a.1) kept
line_kept first s (command.Bind name key) said next right kept a = subst StateKept (sym a.1) kept
line_kept first s (command.Begin actor words) said next right kept a = with_call s actor words said next _ right kept
    (λ up made at k b. subst StateKept (sym b.1) (record { each = kept.each; now = went_kept s up made made [] at k refl })) a
line_kept first s (command.Step actor) said next right kept a = with_going s actor said next _ right kept (λ up made at k b. steps_kept s up made said next kept at k b) a
line_kept first s (command.Finish actor) said next right kept a = with_going s actor said next _ right kept (λ up made at k b. runs_kept s up made said next kept.each at k b) a
line_kept first s (command.Whole actor words) said next right kept a = with_call s actor words said next _ right kept (λ up made at k b. runs_kept s up made said next kept.each at k b) a

all_kept : (first : Table) (s : RunState) (lines : List ScriptLine) (said : List Said) (last : RunState) → RightState s → StateKept s → Answers first s lines said last
    → RightState last × StateKept last
all_kept first s [] [] last right kept a = (subst RightState (sym a) right, subst StateKept (sym a) kept)
all_kept first s [] (one ∷ said) last right kept a = absurd a
all_kept first s (asked ∷ lines) [] last right kept a = absurd a
all_kept first s (asked ∷ lines) (one ∷ said) last right kept a =
    all_kept first a.0 lines said last (line_right first s asked.command one a.0 right a.1) (line_kept first s asked.command one a.0 right kept a.1) a.2

breaks_kept : (first : Table) (s : RunState) (o : Option UpMount) (asked : Command) (last : RunState) → RightState s → StateKept s → s.up ≡ o → BreaksOff first s o asked last → StateKept last
unfolding StateKept
breaks_kept first s None command.Mount last right kept e a = failing first s last kept a
breaks_kept first s (Some up) command.Unmount last right kept e (n, is) =
    subst StateKept (sym is) (down_kept left (with_frees (take n (all_awaiting (table_now up))) up) s kept.each (freed_kept up (take n (all_awaiting (table_now up))) (kept_with s (Some up) kept e)))
breaks_kept first s (Some up) (command.Step actor) last right kept e a =
    let now = right_with s (Some up) right e in
    by_option (going_of actor up.going) ⊥ (λ made. StopsIn s up made last) (StateKept last) (λ none b. absurd b)
    (λ made is b. stops_kept s up made last kept.each (at_work s.lines (length s.past) s.over (length up.story.entries) up.going made now.now (mem-going actor made up.going is))
    (kept_with s (Some up) kept e) b) a
breaks_kept first s (Some up) (command.Finish actor) last right kept e a =
    let now = right_with s (Some up) right e in
    by_option (going_of actor up.going) ⊥ (λ made. StopsIn s up made last) (StateKept last) (λ none b. absurd b)
    (λ made is b. stops_kept s up made last kept.each (at_work s.lines (length s.past) s.over (length up.story.entries) up.going made now.now (mem-going actor made up.going is))
    (kept_with s (Some up) kept e) b) a
breaks_kept first s (Some up) (command.Whole actor words) last right kept e a =
    let now = right_with s (Some up) right e in
    by_result (begun s up actor words (going_of actor up.going)) (λ made. StopsIn s up made last) (λ refusal. ⊥) (StateKept last)
    (λ made is b. stops_kept s up made last kept.each (begins_at_work s up made now (is_new s up actor words (going_of actor up.going) made is)) (kept_with s (Some up) kept e) b)
    (λ refusal b. absurd b) a
breaks_kept first s o asked last right kept e a = absurd a

ends_kept_run : (first : Table) (lines : List ScriptLine) (said : List Said) (s : RunState) (ended : Status) (last : RunState) → RightState s → StateKept s
    → EndsRun first lines said s ended last → StateKept last
ends_kept_run first lines said s status.Good last right kept a = subst StateKept (sym a.1) kept
ends_kept_run first lines said s status.NoMemory last right kept (few, inl same) = subst StateKept (sym same) kept
ends_kept_run first lines said s status.NoMemory last right kept (few, inr (asked, is, off)) = breaks_kept first s s.up asked.command last right kept refl off
ends_kept_run first lines said s ended last right kept a = absurd a

begins_kept : StateKept run_begins
unfolding StateKept
begins_kept = record { each = λ m at. absurd (no_member m at); now = tt }

of_all : (past : List MountStory) (up : Option UpMount) → KeptState past up → (m : MountStory) → Mem m (with_up past up) → KeptStory m.story
of_all past None kept m at = kept.each m at
of_all past (Some up) kept m at = kept_past past left up kept.each kept.now m at

pub intervals : (first : Table) (lines : List ScriptLine) (ended : Status) (said : List Said) (mounts : List MountRecord) (last : RunState) → Replies first lines ended said mounts last
    → (m : MountStory) → Mem m (mounts_of last) → Interval m.story.entries m.story.froms
unfolding StateKept
intervals first lines ended said mounts last replies m at =
    let both = all_kept first run_begins (take (length said) lines) said replies.answered begins_right begins_kept replies.answers in
    let kept : StateKept last = ends_kept_run first lines said replies.answered ended last both.0 both.1 replies.ends in
    kept_interval m.story.entries m.story.froms (of_all last.past last.up kept m at)

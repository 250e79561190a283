-- The calls of a run have their entries in between, line by line.
use Rattle.std.proofs.Common.{◌≡◌, ◌≤◌, ◌<◌, ◌+◌, ◌⊎◌, inl, inr, ℕ, Bool, true, false, List, [], ◌∷◌, ◌++◌, Option, None, Some, length, refl, ap, sym, subst, ◌∙◌, arith, length-append}
use Rattle.std.specs.Prelude.{MatchOption, MatchResult, Ok, Err, Result, if◌then◌else◌, take}
use Rattle.life_limits.specs.declared.TheConstants.{MAX_ACTORS}
use Rattle.life_table.specs.declared.key.Key.{Key}
use Rattle.life_table.specs.declared.types.Call.{Call}
use Rattle.life_table.specs.declared.types.Event.{Event}
use Rattle.life_table.specs.declared.types.Event.TheVariants.{Called, Freed}
use Rattle.life_table.specs.declared.types.Entry.{Entry}
use Rattle.life_table.specs.declared.types.MountRecord.{MountRecord}
use Rattle.life_table.specs.declared.table.Table.{Table}
use Rattle.life_table.specs.History.{frees_of, key_of}
use Rattle.script.specs.declared.types.Command.{Command}
use Rattle.script.specs.declared.types.Command.TheVariants as command
use Rattle.script.specs.declared.types.Line.{Line as ScriptLine}
use Rattle.script.specs.declared.types.Spoken.{Spoken}
use Rattle.script.specs.declared.answers.LineReply.{LineReply}
use Rattle.script.specs.declared.answers.LineReply.TheVariants as line
use Rattle.script.specs.declared.answers.Said.{Said}
use Rattle.script.specs.declared.answers.Said.TheVariants.{Of, Line}
use Rattle.script.specs.declared.status.Status.{Status}
use Rattle.script.specs.declared.status.Status.TheVariants as status
use Rattle.run_history.specs.Mounts.{Ending, left, never_up, start_behind, unmounted}
use Rattle.run_history.specs.States.{LineCall, PastCall, RunState, UpMount, beginning, begun, begun_if_held, calls_of, calls_with_up, disarmed, down_now, dropped, ends_as, going_of, holds_key, lacks_group, least_actor, run_begins, table_now, went_on, went_to_end}
use Rattle.run_history.specs.Answers.{AddsEntries, AddsEvent, Answers, AnswersEnd, AnswersLine, AnswersMount, AnswersUnmount, BreaksOff, EndsCall, FailsToMount, OnlySays, RunsCall, StepsCall, StopsIn, WithCall, WithGoing, WithMount, Works, all_awaiting, stopped_now, with_frees}
use Rattle.run_history.specs.Linear.{AreBetween}
use Rattle.run_history.specs.Headline.{EndsRun, Replies}
use Rattle.run_history.proofs.Members.{Mem, mem-contains, mem-going, no_member}
use Rattle.run_history.proofs.Between.{Before, IsAtWork, Right, RightOver, RightUp, Worked, at_work, begins, comes_up, ends, fails, goes, grows, stays, works}

pub RightState : RunState → Type 0
RightState s = Right s.lines (length s.past) s.over s.up

-- ---- cases

pub by_option : {X : Type 0} (o : Option X) (A : Type 0) (B : X → Type 0) (P : Type 0) → (o ≡ None → A → P) → ((x : X) → o ≡ Some x → B x → P) → MatchOption o A B → P
by_option None A B P f g m = f refl m
by_option (Some x) A B P f g m = g x refl m

pub by_result : {X Y : Type 0} (r : Result X Y) (A : X → Type 0) (B : Y → Type 0) (P : Type 0) → ((x : X) → r ≡ Ok x → A x → P) → ((y : Y) → B y → P) → MatchResult r A B → P
by_result (Ok x) A B P f g m = f x refl m
by_result (Err y) A B P f g m = g y m

longer : {X : Type 0} (xs ys : List X) → length xs ≤ length (xs ++ ys)
longer xs ys = omega (arith, length-append xs ys)

one_more : {X : Type 0} (xs : List X) (x : X) → length (xs ++ x ∷ []) ≡ length xs + 1
one_more xs x = length-append xs (x ∷ [])

-- ---- lines that only say something

only_says : (reply : LineReply) (s : RunState) (said : Said) (next : RunState) → RightState s → OnlySays reply s said next → RightState next
unfolding RightState
only_says reply s said next right a = subst RightState (sym a.1) (stays s.lines (length s.past) s.over s.up right)

-- ---- a mount that goes

goes_down : (ending : Ending) (up : UpMount) (s : RunState) → RightOver (s.lines + 1) (length s.past) s.over
    → RightUp (s.lines + 1) (length s.past) s.over (length up.story.entries) up.going → RightState (down_now ending up s)
unfolding RightState
goes_down ending up s calls now =
    let r = goes (s.lines + 1) (length s.past) s.over (length up.story.entries) up.going calls now in
    subst (λ (p : ℕ). Right (s.lines + 1) p (s.over ++ dropped (length s.past) up.going) None) (sym (one_more s.past (ends_as ending up))) (record { calls = r.0; now = r.1 })

fails_down : (ending : Ending) (up : UpMount) (s : RunState) → up.going ≡ [] → Right s.lines (length s.past) s.over None → RightState (down_now ending up s)
unfolding RightState
fails_down ending up s none right =
    let r = fails s.lines (length s.past) s.over right in
    subst (λ (p : ℕ). Right (s.lines + 1) p (s.over ++ dropped (length s.past) up.going) None) (sym (one_more s.past (ends_as ending up)))
    (subst (λ (g : List LineCall). Right (s.lines + 1) (length s.past + 1) (s.over ++ dropped (length s.past) g) None) (sym none) (record { calls = r.0; now = r.1 }))

-- ---- mounts

pub failing : (first : Table) (s next : RunState) → RightState s → Right s.lines (length s.past) s.over None → FailsToMount first s next → RightState next
unfolding RightState
failing first s next whole right (inl e) = subst RightState (sym e) (stays s.lines (length s.past) s.over s.up whole)
failing first s next whole right (inr (story, fresh, e)) = subst RightState (sym e) (fails_down never_up (record { start = start_behind first s.past story.kept; story = story; going = [] }) s refl right)

mounting : (first : Table) (s : RunState) (said : Said) (next : RunState) → RightState s → Right s.lines (length s.past) s.over None → AnswersMount first s said next → RightState next
unfolding RightState
mounting first s (Line None (line.Mounted kept freed)) next whole right a = subst RightState (sym a.5) (comes_up s.lines (length s.past) s.over _ refl right)
mounting first s (Line None (line.Damaged rule sector)) next whole right a = subst RightState (sym a) (stays s.lines (length s.past) s.over s.up whole)
mounting first s (Line None line.ReadFault) next whole right a = failing first s next whole right a
mounting first s (Line None line.WriteFault) next whole right a = failing first s next whole right a
mounting first s (Line None line.FlushFault) next whole right a = failing first s next whole right a
mounting first s (Line None line.PositionEnd) next whole right a = failing first s next whole right a
mounting first s (Line None line.Stopped) next whole right a = failing first (disarmed s) next whole right a.1
mounting first s said next whole right a = absurd a

-- ---- unmounts

ending_right : (s : RunState) (up : UpMount) (said : Said) (next : RunState) → Right (s.lines + 1) (length s.past) s.over (Some up) → AnswersEnd s up said next → RightState next
unfolding RightState
ending_right s up (Line None (line.Busy opens)) next right a = subst RightState (sym a.2) right
ending_right s up (Line None line.Unmounted) next right a = subst RightState (sym a.1) (goes_down unmounted up s right.calls right.now)
ending_right s up (Line None (line.Down fault)) next right a = subst RightState (sym a.1) (goes_down left up s right.calls right.now)
ending_right s up (Line None line.WriteFault) next right a = subst RightState (sym a.1) right
ending_right s up (Line None line.FlushFault) next right a = subst RightState (sym a.1) right
ending_right s up (Line None line.PositionEnd) next right a = subst RightState (sym a.1) right
ending_right s up (Line None line.Stopped) next right a = subst RightState (sym a.2) (goes_down left up (disarmed s) right.calls right.now)
ending_right s up said next right a = absurd a

pub freed_right : (s : RunState) (up : UpMount) (keys : List Key) → Right s.lines (length s.past) s.over (Some up) → Right (s.lines + 1) (length s.past) s.over (Some (with_frees keys up))
freed_right s up keys right = grows s.lines (length s.past) s.over up (with_frees keys up) (longer up.story.entries (frees_of MAX_ACTORS keys)) refl right

unmounting : (s : RunState) (up : UpMount) (said : Said) (next : RunState) → RightState s → Right s.lines (length s.past) s.over (Some up) → AnswersUnmount s up said next → RightState next
unmounting s up said next whole right a = by_option (least_actor up.going) _ _ (RightState next)
    (λ none b. ending_right s (with_frees (all_awaiting (table_now up)) up) said next (freed_right s up (all_awaiting (table_now up)) right) b)
    (λ actor is b. only_says (line.Mid actor) s said next whole b) a

-- ---- what a call's steps add

pub record Adds (place more : ℕ) (made after : LineCall) : Type 0 where
  first : after.first ≡ made.first
  begin : after.begin ≡ made.begin
  entry : (e : ℕ) → after.entry ≡ Some e → (made.entry ≡ Some e) ⊎ ((place ≤ e) × (e < more))

same_number : (a b : ℕ) → Some a ≡ Some b → a ≡ b
same_number a b e = cc

adds_by : (made next : LineCall) (place : ℕ) (event : Event) → AddsEvent made place event next → Adds place (place + 1) made next
adds_by made next place (Freed key) e = record {
  first = ap (λ (c : LineCall). c.first) e;
  begin = ap (λ (c : LineCall). c.begin) e;
  entry = λ n s. inl (sym (ap (λ (c : LineCall). c.entry) e) ∙ s);
}
adds_by made next place (Called called answer) a = record {
  first = ap (λ (c : LineCall). c.first) a.2;
  begin = ap (λ (c : LineCall). c.begin) a.2;
  entry = λ n s. let e = same_number place n (sym (ap (λ (c : LineCall). c.entry) a.2) ∙ s) in inr (omega (arith, e), omega (arith, e));
}

pub adds : (made : LineCall) (place : ℕ) (entries : List Entry) (after : LineCall) → AddsEntries made place entries after → Adds place (place + length entries) made after
adds made place [] after e = record {
  first = ap (λ (c : LineCall). c.first) e;
  begin = ap (λ (c : LineCall). c.begin) e;
  entry = λ n s. inl (sym (ap (λ (c : LineCall). c.entry) e) ∙ s);
}
adds made place (entry ∷ entries) after (actor, (next, event, rest)) =
    let one = adds_by made next place entry.event event in
    let more = adds next (place + 1) entries after rest in
    record {
      first = more.first ∙ one.first;
      begin = more.begin ∙ one.begin;
      entry = λ n s. elim (more.entry n s) [
        | inl old ↦ elim (one.entry n old) [ inl older ↦ inl older | inr here ↦ inr (here.0, omega (arith, here.1)) ]
        | inr new ↦ inr (omega (arith, new.0), omega (arith, new.1))
      ];
    }

pub worked : (up : UpMount) (made : LineCall) (added : List Entry) (after : LineCall) → Works up made added after
    → Worked (length up.story.entries) (length (up.story.entries ++ added)) made after
worked up made added after w =
    let a = adds made (length up.story.entries) added after w in
    let more : length (up.story.entries ++ added) ≡ length up.story.entries + length added = length-append up.story.entries added in
    record {
      longer = omega (arith, more);
      first = a.first;
      begin = a.begin;
      entry = λ e s. elim (a.entry e s) [ inl old ↦ inl old | inr new ↦ inr (new.0, omega (arith, new.1, more)) ];
    }

-- ---- lines that work on a call

abbrev pub AtWork : RunState → UpMount → LineCall → Type 0
AtWork s up made = IsAtWork s.lines (length s.past) s.over (length up.story.entries) made

calls_on : (lines p : ℕ) (over : List PastCall) (up : Option UpMount) → Right lines p over up → RightOver (lines + 1) p over
calls_on lines p over up right = (stays lines p over up right).calls

went_on_right : (s : RunState) (up : UpMount) (made after : LineCall) (added : List Entry) → Right s.lines (length s.past) s.over (Some up) → AtWork s up made
    → Works up made added after → Right (s.lines + 1) (length s.past) s.over (Some (went_on after added up))
went_on_right s up made after added right at w = record {
  calls = calls_on s.lines (length s.past) s.over (Some up) right;
  now = works s.lines (length s.past) s.over (length up.story.entries) (length (up.story.entries ++ added)) up.going after.actor made after right.now at (worked up made added after w);
}

ends_right : (s : RunState) (up : UpMount) (made : LineCall) (mount place : ℕ) (next : RunState) → Right s.lines (length s.past) s.over (Some up) → AtWork s up made
    → EndsCall s up made mount place next → RightState next
unfolding RightState
ends_right s up made mount place next right at (added, after, w, here, entry, e) =
    let r = ends s.lines (length s.past) s.over (length up.story.entries) (length (up.story.entries ++ added)) up.going after.actor made after right.calls right.now at
    (worked up made added after w) place entry in
    let all : Right (s.lines + 1) (length s.past) (s.over ++ record { mount = length s.past; made = after; last = Some s.lines } ∷ []) (Some (went_to_end after added up)) =
    record { calls = r.0; now = r.1 } in
    subst RightState (sym e)
    (subst (λ (m : ℕ). Right (s.lines + 1) (length s.past) (s.over ++ record { mount = m; made = after; last = Some s.lines } ∷ []) (Some (went_to_end after added up))) (sym here) all)

stops_right : (s : RunState) (up : UpMount) (made : LineCall) (next : RunState) → Right s.lines (length s.past) s.over (Some up) → AtWork s up made → StopsIn s up made next
    → RightState next
unfolding RightState
stops_right s up made next right at (added, after, w, e) =
    let r = went_on_right s up made after added right at w in
    subst RightState (sym e) (goes_down left (went_on after added up) s r.calls r.now)

runs_right : (s : RunState) (up : UpMount) (made : LineCall) (said : Said) (next : RunState) → Right s.lines (length s.past) s.over (Some up) → AtWork s up made
    → RunsCall s up made said next → RightState next
unfolding RightState
runs_right s up made (Of mount place) next right at a = ends_right s up made mount place next right at a
runs_right s up made (Line None (line.Waits holder)) next right at (added, after, w, other, e) = subst RightState (sym e) (went_on_right s up made after added right at w)
runs_right s up made (Line None line.Stopped) next right at a = stops_right (disarmed s) up made next right at a.1
runs_right s up made said next right at a = absurd a

steps_right : (s : RunState) (up : UpMount) (made : LineCall) (said : Said) (next : RunState) → RightState s → Right s.lines (length s.past) s.over (Some up) → AtWork s up made
    → StepsCall s up made said next → RightState next
unfolding RightState
steps_right s up made (Of mount place) next whole right at a = ends_right s up made mount place next right at a
steps_right s up made (Line None line.Went) next whole right at (added, after, w, e) = subst RightState (sym e) (went_on_right s up made after added right at w)
steps_right s up made (Line None (line.Waits holder)) next whole right at a = subst RightState (sym a.1) (stays s.lines (length s.past) s.over s.up whole)
steps_right s up made (Line None line.Stopped) next whole right at a = stops_right (disarmed s) up made next right at a.1
steps_right s up made said next whole right at a = absurd a

-- ---- which call

pub record IsNew (s : RunState) (up : UpMount) (g : LineCall) : Type 0 where
  first : g.first ≡ s.lines
  begin : g.begin ≡ length up.story.entries
  entry : g.entry ≡ None

pub err-ok : {X Y : Type 0} (x : X) (y : Y) → Err y ≡ Ok x → ⊥
err-ok x y e = cc

new_by : (b : Bool) (s : RunState) (up : UpMount) (actor : ℕ) (words : Spoken) (made : Call) (g : LineCall)
    → (if b then Ok (beginning s up actor words made) else Err line.Unbound) ≡ Ok g → IsNew s up g
new_by true s up actor words made g e = let same : beginning s up actor words made ≡ g = cc in record {
  first = sym (ap (λ (c : LineCall). c.first) same);
  begin = sym (ap (λ (c : LineCall). c.begin) same);
  entry = sym (ap (λ (c : LineCall). c.entry) same);
}
new_by false s up actor words made g e = absurd (err-ok g line.Unbound e)

new_if_held : (s : RunState) (up : UpMount) (actor : ℕ) (words : Spoken) (o : Option Call) (g : LineCall) → begun_if_held s up actor words o ≡ Ok g → IsNew s up g
new_if_held s up actor words None g e = absurd (err-ok g line.Unbound e)
new_if_held s up actor words (Some made) g e = new_by (holds_key up.story.entries actor (key_of made)) s up actor words made g e

new_in_group : (b : Bool) (r : Result LineCall LineReply) (s : RunState) (up : UpMount) (g : LineCall) → (r ≡ Ok g → IsNew s up g)
    → (if b then Err line.NoGroup else r) ≡ Ok g → IsNew s up g
new_in_group true r s up g held e = absurd (err-ok g line.NoGroup e)
new_in_group false r s up g held e = held e

pub is_new : (s : RunState) (up : UpMount) (actor : ℕ) (words : Spoken) (o : Option LineCall) (g : LineCall) → begun s up actor words o ≡ Ok g → IsNew s up g
is_new s up actor words (Some going) g e = absurd (err-ok g (line.Mid actor) e)
is_new s up actor words None g e = new_in_group (lacks_group up.start words) _ s up g (new_if_held s up actor words _ g) e

pub begins_at_work : (s : RunState) (up : UpMount) (g : LineCall) → Right s.lines (length s.past) s.over (Some up) → IsNew s up g → AtWork s up g
begins_at_work s up g right new = begins s.lines (length s.past) s.over (length up.story.entries) up.going g right.now new.first new.begin new.entry

-- ---- lines

pub right_with : (s : RunState) (o : Option UpMount) → RightState s → s.up ≡ o → Right s.lines (length s.past) s.over o
unfolding RightState
right_with s o right e = subst (Right s.lines (length s.past) s.over) e right

with_mount : (s : RunState) (said : Said) (next : RunState) (answers : UpMount → Type 0) → RightState s
    → ((up : UpMount) → Right s.lines (length s.past) s.over (Some up) → answers up → RightState next) → WithMount s said next answers → RightState next
with_mount s said next answers right go a = by_option s.up _ answers (RightState next)
    (λ none b. only_says line.NotMounted s said next right b) (λ up is b. go up (right_with s (Some up) right is) b) a

with_call_right : (s : RunState) (actor : ℕ) (words : Spoken) (said : Said) (next : RunState) (answers : UpMount → LineCall → Type 0) → RightState s
    → ((up : UpMount) (made : LineCall) → Right s.lines (length s.past) s.over (Some up) → AtWork s up made → answers up made → RightState next)
    → WithCall s actor words said next answers → RightState next
with_call_right s actor words said next answers right go a = with_mount s said next _ right (λ up now b.
    by_result (begun s up actor words (going_of actor up.going)) (answers up) _ (RightState next)
    (λ made is d. go up made now (begins_at_work s up made now (is_new s up actor words (going_of actor up.going) made is)) d)
    (λ refusal d. only_says refusal s said next right d) b) a

with_going_right : (s : RunState) (actor : ℕ) (said : Said) (next : RunState) (answers : UpMount → LineCall → Type 0) → RightState s
    → ((up : UpMount) (made : LineCall) → Right s.lines (length s.past) s.over (Some up) → AtWork s up made → answers up made → RightState next)
    → WithGoing s actor said next answers → RightState next
with_going_right s actor said next answers right go a = with_mount s said next _ right (λ up now b.
    by_option (going_of actor up.going) _ (answers up) (RightState next)
    (λ none d. only_says line.Idle s said next right d)
    (λ made is d. go up made now (at_work s.lines (length s.past) s.over (length up.story.entries) up.going made now.now (mem-going actor made up.going is)) d) b) a

pub stopping : (o : Option UpMount) (s : RunState) → RightState s → s.up ≡ o → RightState (stopped_now o s)
unfolding RightState
stopping None s right e = stays s.lines (length s.past) s.over s.up right
stopping (Some up) s right e =
    let r = stays s.lines (length s.past) s.over (Some up) (right_with s (Some up) right e) in goes_down left up s r.calls r.now

pub line_right : (first : Table) (s : RunState) (asked : Command) (said : Said) (next : RunState) → RightState s → AnswersLine first s asked said next → RightState next
unfolding RightState
line_right first s command.Mount said next right a = by_option s.up _ _ (RightState next)
    (λ none b. mounting first s said next right (right_with s None right none) b) (λ up is b. only_says line.AlreadyMounted s said next right b) a
line_right first s command.Unmount said next right a = with_mount s said next _ right (λ up now b. unmounting s up said next right now b) a
line_right first s command.Stop said next right a = subst RightState (sym a.1) (stopping s.up (disarmed s) right refl)
line_right first s (command.Arm count sectors) said next right a = subst RightState (sym a.1) (stays s.lines (length s.past) s.over s.up right)
line_right first s (command.Bind name key) said next right a = subst RightState (sym a.1) (stays s.lines (length s.past) s.over s.up right)
line_right first s (command.Begin actor words) said next right a = with_call_right s actor words said next _ right
    (λ up made now at b. subst RightState (sym b.1) (went_on_right s up made made [] now at refl)) a
line_right first s (command.Step actor) said next right a = with_going_right s actor said next _ right (λ up made now at b. steps_right s up made said next right now at b) a
line_right first s (command.Finish actor) said next right a = with_going_right s actor said next _ right (λ up made now at b. runs_right s up made said next now at b) a
line_right first s (command.Whole actor words) said next right a = with_call_right s actor words said next _ right (λ up made now at b. runs_right s up made said next now at b) a

pub all_right : (first : Table) (s : RunState) (lines : List ScriptLine) (said : List Said) (last : RunState) → RightState s → Answers first s lines said last → RightState last
all_right first s [] [] last right a = subst RightState (sym a) right
all_right first s [] (one ∷ said) last right a = absurd a
all_right first s (asked ∷ lines) [] last right a = absurd a
all_right first s (asked ∷ lines) (one ∷ said) last right a = all_right first a.0 lines said last (line_right first s asked.command one a.0 right a.1) a.2

-- ---- a line in which memory ran out

breaks_right : (first : Table) (s : RunState) (o : Option UpMount) (asked : Command) (last : RunState) → RightState s → s.up ≡ o → BreaksOff first s o asked last → RightState last
unfolding RightState
breaks_right first s None command.Mount last right e a = failing first s last right (right_with s None right e) a
breaks_right first s (Some up) command.Unmount last right e (n, is) =
    let r = freed_right s up (take n (all_awaiting (table_now up))) (right_with s (Some up) right e) in
    subst RightState (sym is) (goes_down left (with_frees (take n (all_awaiting (table_now up))) up) s r.calls r.now)
breaks_right first s (Some up) (command.Step actor) last right e a =
    let now = right_with s (Some up) right e in
    by_option (going_of actor up.going) ⊥ (λ made. StopsIn s up made last) (RightState last) (λ none b. absurd b)
    (λ made is b. stops_right s up made last now (at_work s.lines (length s.past) s.over (length up.story.entries) up.going made now.now (mem-going actor made up.going is)) b) a
breaks_right first s (Some up) (command.Finish actor) last right e a =
    let now = right_with s (Some up) right e in
    by_option (going_of actor up.going) ⊥ (λ made. StopsIn s up made last) (RightState last) (λ none b. absurd b)
    (λ made is b. stops_right s up made last now (at_work s.lines (length s.past) s.over (length up.story.entries) up.going made now.now (mem-going actor made up.going is)) b) a
breaks_right first s (Some up) (command.Whole actor words) last right e a =
    let now = right_with s (Some up) right e in
    by_result (begun s up actor words (going_of actor up.going)) (λ made. StopsIn s up made last) (λ refusal. ⊥) (RightState last)
    (λ made is b. stops_right s up made last now (begins_at_work s up made now (is_new s up actor words (going_of actor up.going) made is)) b) (λ refusal b. absurd b) a
breaks_right first s o asked last right e a = absurd a

pub ends_run : (first : Table) (lines : List ScriptLine) (said : List Said) (s : RunState) (ended : Status) (last : RunState) → RightState s → EndsRun first lines said s ended last → RightState last
unfolding RightState
ends_run first lines said s status.Good last right a = subst RightState (sym a.1) right
ends_run first lines said s status.NoMemory last right (few, inl same) = subst RightState (sym same) right
ends_run first lines said s status.NoMemory last right (few, inr (asked, is, off)) = breaks_right first s s.up asked.command last right refl off
ends_run first lines said s ended last right a = absurd a

pub begins_right : RightState run_begins
unfolding RightState
begins_right = record {
  calls = record { each = λ x m. absurd (no_member x m); pairs = λ x y m k. absurd (no_member x m) };
  now = λ x m. absurd (no_member x m);
}

pairs_of : (lines p : ℕ) (over : List PastCall) (up : Option UpMount) → Right lines p over up → (x y : PastCall) → Mem x (calls_with_up p over up) → Mem y (calls_with_up p over up) → Before x y
pairs_of lines p over None right x y m k = right.calls.pairs x y m k
pairs_of lines p over (Some up) right x y m k = (goes lines p over (length up.story.entries) up.going right.calls right.now).0.pairs x y m k

pub between : (first : Table) (lines : List ScriptLine) (ended : Status) (said : List Said) (mounts : List MountRecord) (last : RunState) → Replies first lines ended said mounts last
    → AreBetween (calls_of last)
unfolding RightState
between first lines ended said mounts last replies =
    let right : RightState last = ends_run first lines said replies.answered ended last
    (all_right first run_begins (take (length said) lines) said replies.answered begins_right replies.answers) replies.ends in
    record { between = λ x y end e f has also. pairs_of last.lines (length last.past) last.over last.up right x y (mem-contains x _ has) (mem-contains y _ also) end e f }

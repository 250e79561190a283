-- The worked run with wrong answers.
use Rattle.std.proofs.Common.{◌≡◌, ◌≤◌, ℕ, Bool, false, List, [], ◌∷◌, Option, None, Some, refl, ap, sym, subst, ◌∙◌, arith}
use Rattle.std.specs.Prelude.{codes, map}
use Rattle.life_table.specs.declared.key.Key.{Key}
use Rattle.life_table.specs.declared.types.Entry.{Entry}
use Rattle.life_table.specs.declared.types.MountRecord.{MountRecord}
use Rattle.life_table.specs.declared.table.Table.{Table}
use Rattle.life_table.specs.Table.{inode_in, inode_of, set_inode, with_inode}
use Rattle.life_table.specs.Space.{begins_run, chunk_blocks, chunk_place, free_blocks, free_keys, inode_blocks, insert_chunk, is_free_block, keys_from, new_chunk, prepared, times, used}
use Rattle.life_table.specs.History.{Leads}
use Rattle.script.specs.declared.types.Command.TheVariants as command
use Rattle.script.specs.declared.types.Spoken.TheVariants as spoken
use Rattle.script.specs.declared.answers.LineReply.TheVariants as line
use Rattle.script.specs.declared.answers.Said.TheVariants.{Of}
use Rattle.script.specs.declared.status.Status.TheVariants as status
use Rattle.run_history.specs.Mounts.{Ending, MountStory, acknowledged_by, left}
use Rattle.run_history.specs.States.{Binding, PastCall, RunState, UpMount, ends_as, mounts_of, run_begins}
use Rattle.run_history.specs.Answers.{Answers, AnswersLine, line_said}
use Rattle.run_history.specs.Linear.{AreLegalFrom}
use Rattle.run_history.specs.NextMount.{Follow}
use Rattle.run_history.specs.Headline.{IsOneHistory}
use Rattle.run_history.specs.Rows.{key_a, key_b, row_first, row_lines, row_records, row_said, row_table}

-- ---- another key

number_of : Option Key → ℕ
number_of None = 0
number_of (Some key) = key.number

keys_apart : Some key_a ≡ Some key_b → ⊥
unfolding number_of
keys_apart same = let number : ◌≡◌ {A = ℕ} 192 193 = ap number_of same in omega (arith, number)

no_other_key : (last : Table) → Leads row_table (row_first key_b).entries last → ⊥
unfolding inode_in inode_of set_inode with_inode begins_run chunk_blocks chunk_place free_blocks free_keys inode_blocks insert_chunk is_free_block keys_from new_chunk prepared times used
no_other_key last leads = keys_apart leads.1.0.1

of_key : (calls : List PastCall) (mounts : List MountStory) → row_records key_b 1 ≡ map (λ (m : MountStory). m.story) mounts → AreLegalFrom calls 0 mounts
    → Follow row_table 1 mounts → ⊥
of_key calls [] records legal follow = cc
of_key calls (m ∷ later) records legal follow =
    let story : m.story ≡ row_first key_b = cc in
    let entries : m.story.entries ≡ (row_first key_b).entries = ap (λ (r : MountRecord). r.entries) story in
    no_other_key legal.0.last (subst (λ (t : Table). Leads t (row_first key_b).entries legal.0.last) follow.0.start
    (subst (λ (es : List Entry). Leads m.start es legal.0.last) entries legal.0.legal.leads))

pub other_key : (last : RunState) → IsOneHistory row_table 1 row_lines status.Good (row_said 1) (row_records key_b 1) last → ⊥
other_key last history = of_key _ (mounts_of last) history.replies.records history.legal history.next_mount.follow

-- ---- what was acknowledged is lost

-- a run in its first mount, which has no call in progress
abbrev at : ℕ → List Binding → MountRecord → List PastCall → Bool → RunState
at lines names story over armed = record {
  lines = lines;
  names = names;
  past = [];
  up = Some (record { start = row_table; story = story; going = [] });
  over = over;
  armed = armed;
}

record Goes (next : RunState) : Type 0 where
  lines : ℕ
  names : List Binding
  story : MountRecord
  over : List PastCall
  armed : Bool
  is : next ≡ at lines names story over armed

creates : (lines : ℕ) (names : List Binding) (story : MountRecord) (over : List PastCall) (armed : Bool) (name : List ℕ) (place : ℕ) (next : RunState)
    → AnswersLine row_table (at lines names story over armed) (command.Whole 0 (spoken.Create 0 name)) (Of 0 place) next → Goes next
creates lines names story over armed name place next a = record { lines = _; names = _; story = _; over = _; armed = armed; is = a.5 }

syncs : (lines : ℕ) (names : List Binding) (story : MountRecord) (over : List PastCall) (armed : Bool) (place : ℕ) (next : RunState)
    → AnswersLine row_table (at lines names story over armed) (command.Whole 0 spoken.Sync) (Of 0 place) next → Goes next
syncs lines names story over armed place next a = record { lines = _; names = _; story = _; over = _; armed = armed; is = a.5 }

-- two mounts, of which the first was left and the second keeps nothing
record Loses (last : RunState) : Type 0 where
  m : MountStory
  next : MountStory
  mounts : mounts_of last ≡ m ∷ next ∷ []
  ending : m.ending ≡ left
  kept : next.story.kept ≡ 0

-- a mount line, behind the crash
abbrev behind : ℕ → List Binding → UpMount → List PastCall → RunState
behind lines names up over = record { lines = lines; names = names; past = ends_as left up ∷ []; up = None; over = over; armed = false }

ends_so : (lines : ℕ) (names : List Binding) (up : UpMount) (over : List PastCall) (next last : RunState)
    → AnswersLine row_table (behind lines names up over) command.Mount (line_said (line.Mounted 0 0)) next
    → AnswersLine row_table next command.Unmount (line_said line.Unmounted) last → Loses last
ends_so lines names up over next last a b =
    let c = subst (λ (s : RunState). AnswersLine row_table s command.Unmount (line_said line.Unmounted) last) a.5 b in
    record { m = ends_as left up; next = _; mounts = ap mounts_of c.1; ending = refl; kept = a.2 }

stops : (lines : ℕ) (names : List Binding) (story : MountRecord) (over : List PastCall) (armed : Bool) (next after last : RunState)
    → AnswersLine row_table (at lines names story over armed) command.Stop (line_said line.Stopped) next
    → AnswersLine row_table next command.Mount (line_said (line.Mounted 0 0)) after
    → AnswersLine row_table after command.Unmount (line_said line.Unmounted) last → Loses last
stops lines names story over armed next after last a b d =
    ends_so _ _ (record { start = row_table; story = story; going = [] }) _ after last (subst (λ (s : RunState). AnswersLine row_table s command.Mount (line_said (line.Mounted 0 0)) after) a.1 b) d

walked : (last : RunState) → Answers row_table run_begins row_lines (row_said 0) last → Loses last
walked last (s1, a1, (s2, a2, (s3, a3, (s4, a4, (s5, a5, (s6, a6, (s7, a7, e))))))) =
    let g1 : Goes s1 = record { lines = 1; names = []; story = a1.0; over = []; armed = false; is = a1.5 } in
    let g2 = creates g1.lines g1.names g1.story g1.over g1.armed (codes "a") 0 s2 (subst (λ (s : RunState). AnswersLine row_table s (command.Whole 0 (spoken.Create 0 (codes "a"))) (Of 0 0) s2) g1.is a2) in
    let g3 = syncs g2.lines g2.names g2.story g2.over g2.armed 1 s3 (subst (λ (s : RunState). AnswersLine row_table s (command.Whole 0 spoken.Sync) (Of 0 1) s3) g2.is a3) in
    let g4 = creates g3.lines g3.names g3.story g3.over g3.armed (codes "b") 2 s4 (subst (λ (s : RunState). AnswersLine row_table s (command.Whole 0 (spoken.Create 0 (codes "b"))) (Of 0 2) s4) g3.is a4) in
    let l = stops g4.lines g4.names g4.story g4.over g4.armed s5 s6 s7 (subst (λ (s : RunState). AnswersLine row_table s command.Stop (line_said line.Stopped) s5) g4.is a5) a6 a7 in
    subst Loses (sym e) l

pub lost : (last : RunState) → IsOneHistory row_table 1 row_lines status.Good (row_said 0) (row_records key_a 0) last → ⊥
lost last history =
    let l = walked last (subst (λ (s : RunState). Answers row_table run_begins row_lines (row_said 0) s) (sym history.replies.ends.1) history.replies.answers) in
    let records : row_records key_a 0 ≡ map (λ (m : MountStory). m.story) (l.m ∷ l.next ∷ []) =
    history.replies.records ∙ ap (map (λ (m : MountStory). m.story)) l.mounts in
    let story : l.m.story ≡ row_first key_a = cc in
    let follow = subst (Follow row_table 1) l.mounts history.next_mount.follow in
    let least : acknowledged_by l.m.ending l.m.story ≤ l.next.story.kept = follow.1.0.acknowledged in
    let one : acknowledged_by left (row_first key_a) ≤ l.next.story.kept =
    subst (λ (r : MountRecord). acknowledged_by left r ≤ l.next.story.kept) story
    (subst (λ (e : Ending). acknowledged_by e l.m.story ≤ l.next.story.kept) l.ending least) in
    let kept : l.next.story.kept ≡ 0 = l.kept in
    omega (arith, one, kept)

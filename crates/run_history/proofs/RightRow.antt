-- The worked run, line by line.
use Rattle.std.proofs.Common.{◌≡◌, ◌≤◌, ◌+◌, ℕ, zero, suc, [], ◌∷◌, ◌++◌, Option, None, Some, length, refl, ap, subst, arith}
use Rattle.std.specs.Prelude.{slice_get, codes, take}
use Rattle.std.specs.List.{AllByRecursion}
use Rattle.std.proofs.lemmas.List.Elements.{All-contains, All-from_recursion}
use Rattle.life_table.specs.declared.types.Call.{Call}
use Rattle.life_table.specs.declared.types.Call.TheVariants as call
use Rattle.life_table.specs.declared.types.Reply.TheVariants as reply
use Rattle.life_table.specs.declared.key.Key.{Key}
use Rattle.life_table.specs.declared.types.Event.{Event}
use Rattle.life_table.specs.declared.types.Event.TheVariants.{Called}
use Rattle.life_table.specs.declared.types.Entry.{Entry}
use Rattle.life_table.specs.declared.types.MountRecord.{MountRecord}
use Rattle.life_table.specs.declared.table.Table.{Table}
use Rattle.life_table.specs.Table.{inode_in, inode_of, set_inode, with_inode}
use Rattle.life_table.specs.Space.{begins_run, chunk_blocks, chunk_place, free_blocks, free_keys, inode_blocks, insert_chunk, is_free_block, keys_from, new_chunk, prepared, times, used}
use Rattle.life_table.specs.Legal.{after_call}
use Rattle.life_table.specs.History.{changes}
use Rattle.actor_world.specs.Moves.{awaiting_from, awaiting_of}
use Rattle.script.specs.declared.types.Spoken.TheVariants as spoken
use Rattle.script.specs.declared.status.Status.TheVariants as status
use Rattle.run_history.specs.Mounts.{MountStory, left, unmounted, table_after}
use Rattle.run_history.specs.States.{LineCall, PastCall, RunState, UpMount, beginning, calls_of, down_now, disarmed, mounts_of, run_begins, up_now, went_to_end}
use Rattle.run_history.specs.Answers.{Answers, with_frees}
use Rattle.run_history.specs.Linear.{AreBetween, IsLegalMount}
use Rattle.run_history.specs.Headline.{IsOneHistory}
use Rattle.run_history.specs.NextMount.{NextMount}
use Rattle.run_history.specs.Rows.{by_first_actor, key_a, key_b, row_first, row_lines, row_records, row_said, row_second, row_table}
use Rattle.run_history.proofs.Licences.{plain_licensed}

abbrev fresh_story : ℕ → ℕ → MountRecord
fresh_story base kept = record { base = base; kept = kept; freed = 0; entries = []; froms = []; acknowledged = 0 }

abbrev e0 : Entry
e0 = by_first_actor (Called (call.Create 0) (reply.Made key_a))

abbrev e1 : Entry
e1 = by_first_actor (Called call.Sync (reply.Covered 1))

abbrev e2 : Entry
e2 = by_first_actor (Called (call.Create 0) (reply.Made key_b))

abbrev u0 : UpMount
u0 = record { start = row_table; story = fresh_story 1 0; going = [] }

abbrev s1 : RunState
s1 = up_now u0 run_begins

abbrev made : LineCall → ℕ → LineCall
made g place = record g { entry = Some place }

abbrev c0 : LineCall
c0 = beginning s1 u0 0 (spoken.Create 0 (codes "a")) (call.Create 0)

abbrev u1 : UpMount
u1 = went_to_end (made c0 0) (e0 ∷ []) u0

abbrev s2 : RunState
s2 = record (up_now u1 s1) { names = record { name = codes "a"; key = key_a } ∷ []; over = record { mount = 0; made = made c0 0; last = Some 1 } ∷ [] }

abbrev c1 : LineCall
c1 = beginning s2 u1 0 spoken.Sync call.Sync

abbrev u2 : UpMount
u2 = went_to_end (made c1 1) (e1 ∷ []) u1

abbrev s3 : RunState
s3 = record (up_now u2 s2) { names = s2.names; over = s2.over ++ record { mount = 0; made = made c1 1; last = Some 2 } ∷ [] }

abbrev c2 : LineCall
c2 = beginning s3 u2 0 (spoken.Create 0 (codes "b")) (call.Create 0)

abbrev u3 : UpMount
u3 = went_to_end (made c2 2) (e2 ∷ []) u2

abbrev s4 : RunState
s4 = record (up_now u3 s3) { names = record { name = codes "b"; key = key_b } ∷ s3.names; over = s3.over ++ record { mount = 0; made = made c2 2; last = Some 3 } ∷ [] }

abbrev s5 : RunState
s5 = down_now left u3 (disarmed s4)

-- the table after the one change that is kept
abbrev t1 : Table
t1 = after_call row_table (call.Create 0) (reply.Made key_a)

abbrev m0 : MountStory
m0 = record { start = row_table; story = row_first key_a; ending = left }

abbrev u4 : UpMount
u4 = record { start = table_after m0 1; story = fresh_story 2 1; going = [] }

abbrev s6 : RunState
s6 = up_now u4 s5

abbrev s7 : RunState
s7 = down_now unmounted (with_frees [] u4) s6

pub right_answers : Answers row_table run_begins row_lines (row_said 1) s7
unfolding inode_in inode_of set_inode with_inode begins_run chunk_blocks chunk_place free_blocks free_keys inode_blocks insert_chunk is_free_block keys_from new_chunk prepared times used awaiting_from awaiting_of
right_answers = (
  s1,
  (fresh_story 1 0, record { keys = []; entries = refl; froms = refl; freed = refl }, refl, refl, refl, refl),
  (
    s2,
    (e0 ∷ [], made c0 0, (refl, (made c0 0, (refl, refl, refl), refl)), refl, refl, refl),
    (
      s3,
      (e1 ∷ [], made c1 1, (refl, (made c1 1, (refl, refl, refl), refl)), refl, refl, refl),
      (
        s4,
        (e2 ∷ [], made c2 2, (refl, (made c2 2, (refl, refl, refl), refl)), refl, refl, refl),
        (
          s5,
          (refl, refl),
          (
            s6,
            (fresh_story 2 1, record { keys = []; entries = refl; froms = refl; freed = refl }, refl, refl, refl, refl),
            (s7, (refl, refl), refl),
          ),
        ),
      ),
    ),
  ),
)

-- the table at the crash
abbrev t3 : Table
t3 = after_call t1 (call.Create 0) (reply.Made key_b)

in_order : (i begin : ℕ) → slice_get (0 ∷ 1 ∷ 2 ∷ []) i ≡ Some begin → begin ≤ i
in_order zero begin is = let e : 0 ≡ begin = cc in omega (arith, e)
in_order (suc zero) begin is = let e : 1 ≡ begin = cc in omega (arith, e)
in_order (suc (suc zero)) begin is = let e : 2 ≡ begin = cc in omega (arith, e)
in_order (suc (suc (suc i))) begin is = absurd cc

none_in_order : (i begin : ℕ) → slice_get [] i ≡ Some begin → begin ≤ i
none_in_order i begin is = absurd cc

first_legal : IsLegalMount (calls_of s7) 0 m0
unfolding inode_in inode_of set_inode with_inode begins_run chunk_blocks chunk_place free_blocks free_keys inode_blocks insert_chunk is_free_block keys_from new_chunk prepared times used
first_legal = record {
  last = t3;
  legal = record {
    leads = (t1, ((omega arith, refl), refl), (t1, (tt, refl), (t3, ((omega arith, refl), refl), refl)));
    held = (tt, (tt, (tt, tt)));
  };
  intervals = record { length_is = refl; between = in_order };
  licensed = plain_licensed row_table (row_first key_a).entries (row_first key_a).froms [] (tt, (tt, (tt, tt)));
}

abbrev m1 : MountStory
m1 = record { start = table_after m0 1; story = row_second 1; ending = unmounted }

second_legal : IsLegalMount (calls_of s7) 1 m1
second_legal = record {
  last = table_after m0 1;
  legal = record { leads = refl; held = tt };
  intervals = record { length_is = refl; between = none_in_order };
  licensed = plain_licensed (table_after m0 1) [] [] [] tt;
}

-- each call has one line, and is the only one of it
InRow : PastCall → Type 0
InRow past = (e : ℕ) × (past.made.entry ≡ Some e) × (past.made.first ≡ e + 1) × (past.last ≡ Some (e + 1))

all_in_row : AllByRecursion InRow (calls_of s7)
unfolding InRow
all_in_row = ((0, refl, refl, refl), ((1, refl, refl, refl), ((2, refl, refl, refl), tt)))

calls_between : AreBetween (calls_of s7)
unfolding InRow
calls_between = record {
  between = λ earlier later end e f has also mount last before entry other.
      let x : InRow earlier = All-contains InRow (calls_of s7) earlier (All-from_recursion InRow (calls_of s7) all_in_row) has in
      let y : InRow later = All-contains InRow (calls_of s7) later (All-from_recursion InRow (calls_of s7) all_in_row) also in
      let a : e ≡ x.0 = cc (entry, x.1) in
      let b : f ≡ y.0 = cc (other, y.1) in
      let d : end ≡ x.0 + 1 = cc (last, x.3) in
      let g : later.made.first ≡ y.0 + 1 = y.2 in
      omega (arith, a, b, d, g, before);
}

event_at : Option Entry → Event
event_at None = Called call.Gc reply.Done
event_at (Some entry) = entry.event

apart : (a b : Call) (key : Key) (durable : ℕ) → Called a (reply.Made key) ≡ Called b (reply.Covered durable) → ⊥
apart a b key durable e = cc

same_count : (a b : Call) (n m : ℕ) → Called a (reply.Covered n) ≡ Called b (reply.Covered m) → n ≡ m
same_count a b n m e = cc

least_first : (i begin actor durable : ℕ) (made : Call) → slice_get (row_first key_a).entries i ≡ Some (record { actor = actor; event = Called made (reply.Covered durable) })
    → slice_get (row_first key_a).froms i ≡ Some begin → length (changes (take begin (row_first key_a).entries)) ≤ durable
unfolding event_at
least_first zero begin actor durable called is at = let e = ap event_at is in absurd (apart _ _ _ _ e)
least_first (suc zero) begin actor durable called is at =
    let d : 1 ≡ durable = same_count _ _ 1 durable (ap event_at is) in let b : 1 ≡ begin = cc in
    subst (λ (n : ℕ). length (changes (take n (row_first key_a).entries)) ≤ durable) b (omega (arith, d))
least_first (suc (suc zero)) begin actor durable called is at = let e = ap event_at is in absurd (apart _ _ _ _ e)
least_first (suc (suc (suc i))) begin actor durable called is at = absurd cc

most_first : (i actor durable : ℕ) (made : Call) → slice_get (row_first key_a).entries i ≡ Some (record { actor = actor; event = Called made (reply.Covered durable) })
    → durable ≤ length (changes (take i (row_first key_a).entries))
unfolding event_at
most_first zero actor durable called is = let e = ap event_at is in absurd (apart _ _ _ _ e)
most_first (suc zero) actor durable called is = let d : 1 ≡ durable = same_count _ _ 1 durable (ap event_at is) in omega (arith, d)
most_first (suc (suc zero)) actor durable called is = let e = ap event_at is in absurd (apart _ _ _ _ e)
most_first (suc (suc (suc i))) actor durable called is = absurd cc

mounts_follow : NextMount row_table 1 (mounts_of s7)
unfolding inode_in inode_of set_inode with_inode begins_run chunk_blocks chunk_place free_blocks free_keys inode_blocks insert_chunk is_free_block keys_from new_chunk prepared times used
mounts_follow = record {
  follow = (record { start = refl; kept = refl; base = refl }, (record { start = refl; acknowledged = omega arith; made = omega arith; base = refl }, tt));
  recover = (([], record { leads = refl; order = tt }, refl), (([], record { leads = refl; order = tt }, refl), tt));
  durable = (record { least = least_first; most = most_first }, (record { least = λ i begin actor durable called is. absurd cc; most = λ i actor durable called is. absurd cc }, tt));
}

pub right_history : (last : RunState) × IsOneHistory row_table 1 row_lines status.Good (row_said 1) (row_records key_a 1) last
right_history = (
  s7,
  record {
    replies = record { answered = s7; answers = right_answers; ends = (refl, refl); records = refl };
    legal = (first_legal, (second_legal, tt));
    between = calls_between;
    next_mount = mounts_follow;
  },
)

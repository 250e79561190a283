-- The run of two actors, line by line.
use Rattle.std.proofs.Common.{◌≡◌, ℕ, zero, suc, [], ◌∷◌, ◌++◌, Option, None, Some, refl, ap, arith}
use Rattle.std.specs.Prelude.{codes, slice_get}
use Rattle.life_table.specs.declared.key.Key.{Key}
use Rattle.life_table.specs.declared.types.Call.{Call}
use Rattle.life_table.specs.declared.types.Call.TheVariants as call
use Rattle.life_table.specs.declared.types.Reply.{Reply}
use Rattle.life_table.specs.declared.types.Reply.TheVariants as reply
use Rattle.life_table.specs.declared.types.Event.{Event}
use Rattle.life_table.specs.declared.types.Event.TheVariants.{Called}
use Rattle.life_table.specs.declared.types.Entry.{Entry}
use Rattle.life_table.specs.declared.table.Table.{Table}
use Rattle.life_table.specs.Table.{inode_in, inode_of, set_inode, with_inode}
use Rattle.life_table.specs.Space.{begins_run, chunk_blocks, chunk_place, free_blocks, free_keys, inode_blocks, insert_chunk, is_free_block, keys_from, new_chunk, prepared, times, used}
use Rattle.life_table.specs.Legal.{after_call}
use Rattle.script.specs.declared.types.Spoken.TheVariants as spoken
use Rattle.script.specs.declared.status.Status.TheVariants as status
use Rattle.run_history.specs.Mounts.{MountStory, left}
use Rattle.run_history.specs.States.{LineCall, RunState, UpMount, beginning, calls_of, mounts_of, run_begins, up_now, went_on, went_to_end}
use Rattle.run_history.specs.Answers.{Answers, with_call}
use Rattle.run_history.specs.Linear.{IsLegalMount}
use Rattle.run_history.specs.Headline.{IsOneHistory, Replies}
use Rattle.run_history.specs.NextMount.{NextMount}
use Rattle.run_history.specs.Rows.{beside_lines, beside_record, beside_said, by_first_actor, key_a, row_table}
use Rattle.run_history.proofs.Licences.{plain_licensed}
use Rattle.run_history.proofs.Members.{Mem, mem-head}
use Rattle.run_history.proofs.Walks.{between}
use Rattle.run_history.proofs.KeptWalks.{intervals}

abbrev made : LineCall → ℕ → LineCall
made g place = record g { entry = Some place }

abbrev e0 : Entry
e0 = by_first_actor (Called (call.Create 0) (reply.Made key_a))

abbrev e1 : Entry
e1 = by_first_actor (Called (call.Unlink key_a) reply.Done)

abbrev e2 : Entry
e2 = record { actor = 1; event = Called (call.OpenKey key_a) reply.Done }

abbrev e3 : Entry
e3 = record { actor = 1; event = Called (call.Stat key_a) (reply.Shown key_a 0 0 []) }

abbrev u0 : UpMount
u0 = record { start = row_table; story = record { base = 1; kept = 0; freed = 0; entries = []; froms = []; acknowledged = 0 }; going = [] }

abbrev s1 : RunState
s1 = up_now u0 run_begins

abbrev c0 : LineCall
c0 = beginning s1 u0 0 (spoken.Create 0 (codes "a")) (call.Create 0)

abbrev u1 : UpMount
u1 = went_to_end (made c0 0) (e0 ∷ []) u0

abbrev s2 : RunState
s2 = record (up_now u1 s1) { names = record { name = codes "a"; key = key_a } ∷ []; over = record { mount = 0; made = made c0 0; last = Some 1 } ∷ [] }

abbrev c1 : LineCall
c1 = beginning s2 u1 0 (spoken.Unlink (codes "a")) (call.Unlink key_a)

abbrev u2 : UpMount
u2 = with_call c1 u1

abbrev s3 : RunState
s3 = up_now u2 s2

abbrev u3 : UpMount
u3 = went_on c1 [] u2

abbrev s4 : RunState
s4 = up_now u3 s3

abbrev u4 : UpMount
u4 = went_on (made c1 1) (e1 ∷ []) u3

abbrev s5 : RunState
s5 = up_now u4 s4

abbrev c2 : LineCall
c2 = beginning s5 u4 1 (spoken.Open (codes "a")) (call.OpenKey key_a)

abbrev u5 : UpMount
u5 = went_to_end (made c2 2) (e2 ∷ []) u4

abbrev s6 : RunState
s6 = record (up_now u5 s5) { names = s5.names; over = s5.over ++ record { mount = 0; made = made c2 2; last = Some 5 } ∷ [] }

abbrev c3 : LineCall
c3 = beginning s6 u5 1 (spoken.Stat (codes "a")) (call.Stat key_a)

abbrev u6 : UpMount
u6 = went_on c3 [] u5

abbrev s7 : RunState
s7 = up_now u6 s6

abbrev u7 : UpMount
u7 = went_to_end (made c1 1) [] u6

abbrev s8 : RunState
s8 = record (up_now u7 s7) { names = s7.names; over = s7.over ++ record { mount = 0; made = made c1 1; last = Some 7 } ∷ [] }

abbrev u8 : UpMount
u8 = went_to_end (made c3 3) (e3 ∷ []) u7

abbrev s9 : RunState
s9 = record (up_now u8 s8) { names = s8.names; over = s8.over ++ record { mount = 0; made = made c3 3; last = Some 8 } ∷ [] }

right_answers : Answers row_table run_begins beside_lines beside_said s9
right_answers = (
  s1,
  (u0.story, record { keys = []; entries = refl; froms = refl; freed = refl }, refl, refl, refl, refl),
  (
    s2,
    (e0 ∷ [], made c0 0, (refl, (made c0 0, (refl, refl, refl), refl)), refl, refl, refl),
    (
      s3,
      (refl, refl),
      (
        s4,
        ([], c1, refl, refl),
        (
          s5,
          (e1 ∷ [], made c1 1, (refl, (made c1 1, (refl, refl, refl), refl)), refl),
          (
            s6,
            (e2 ∷ [], made c2 2, (refl, (made c2 2, (refl, refl, refl), refl)), refl, refl, refl),
            (
              s7,
              ([], c3, refl, refl, refl),
              (
                s8,
                ([], made c1 1, refl, refl, refl, refl),
                (s9, (e3 ∷ [], made c3 3, (refl, (made c3 3, (refl, refl, refl), refl)), refl, refl, refl), refl),
              ),
            ),
          ),
        ),
      ),
    ),
  ),
)

replies : Replies row_table beside_lines status.Good beside_said (beside_record ∷ []) s9
replies = record { answered = s9; answers = right_answers; ends = (refl, refl); records = refl }

abbrev t1 : Table
t1 = after_call row_table (call.Create 0) (reply.Made key_a)

abbrev t2 : Table
t2 = after_call t1 (call.Unlink key_a) reply.Done

abbrev t3 : Table
t3 = after_call t2 (call.OpenKey key_a) reply.Done

abbrev m0 : MountStory
m0 = record { start = row_table; story = beside_record; ending = left }

in_it : Mem m0 (mounts_of s9)
in_it = mem-head m0 []

legal : IsLegalMount (calls_of s9) 0 m0
unfolding inode_in inode_of set_inode with_inode begins_run chunk_blocks chunk_place free_blocks free_keys inode_blocks insert_chunk is_free_block keys_from new_chunk prepared times used
legal = record {
  last = t3;
  legal = record {
    leads = (
      t1,
      ((omega arith, refl), refl),
      (
        t2,
        (λ e. absurd (omega (arith, e)), refl),
        (
          t3,
          ((λ a. let b = a.1 in absurd (omega (arith, b)), λ e. absurd (omega (arith, e))), refl),
          (t3, ((refl, refl, refl, refl), refl), refl),
        ),
      ),
    );
    held = (tt, (omega arith, (tt, (omega arith, tt))));
  };
  intervals = intervals row_table beside_lines status.Good beside_said (beside_record ∷ []) s9 replies m0 in_it;
  licensed = plain_licensed row_table beside_record.entries beside_record.froms [] (tt, (tt, (tt, (tt, tt))));
}

-- none of the entries is a sync's
answer_of : Event → Reply
answer_of (Called called answer) = answer
answer_of event = reply.Done

answer_at : Option Entry → Reply
answer_at None = reply.Done
answer_at (Some entry) = answer_of entry.event

done_covered : (n : ℕ) → reply.Done ≡ reply.Covered n → ⊥
done_covered n e = cc

made_covered : (key : Key) (n : ℕ) → reply.Made key ≡ reply.Covered n → ⊥
made_covered key n e = cc

no_cover_at : (i n : ℕ) → answer_at (slice_get beside_record.entries i) ≡ reply.Covered n → ⊥
unfolding answer_at answer_of
no_cover_at zero n e = made_covered key_a n e
no_cover_at (suc zero) n e = done_covered n e
no_cover_at (suc (suc zero)) n e = done_covered n e
no_cover_at (suc (suc (suc zero))) n e = cc
no_cover_at (suc (suc (suc (suc i)))) n e = done_covered n e

no_cover : (i actor durable : ℕ) (called : Call) → slice_get beside_record.entries i ≡ Some (record { actor = actor; event = Called called (reply.Covered durable) }) → ⊥
unfolding answer_at answer_of
no_cover i actor durable called is = no_cover_at i durable (ap answer_at is)

follows : NextMount row_table 1 (mounts_of s9)
follows = record {
  follow = (record { start = refl; kept = refl; base = refl }, tt);
  recover = (([], record { leads = refl; order = tt }, refl), tt);
  durable = (
    record {
      least = λ i begin actor durable called is at. absurd (no_cover i actor durable called is);
      most = λ i actor durable called is. absurd (no_cover i actor durable called is);
    },
    tt,
  );
}

pub beside_history : (last : RunState) × IsOneHistory row_table 1 beside_lines status.Good beside_said (beside_record ∷ []) last
beside_history = (
  s9,
  record {
    replies = replies;
    legal = (legal, tt);
    between = between row_table beside_lines status.Good beside_said (beside_record ∷ []) s9 replies;
    next_mount = follows;
  },
)

-- What the action of a step says of the store before it, and what it makes of the store's places and its job.
use Rattle.std.proofs.Common.{Bool, true, false, ◌≡◌, ◌≢◌, ◌+◌, ◌-◌, ◌^◌, ◌<◌, ◌≤◌, ◌⊎◌, ℕ, cond, List, [], ◌∷◌, length, refl, sym, ap, ◌∙◌, subst, inl, inr, arith}
use Rattle.std.specs.Prelude.{nat_le, nat_lt}
use Rattle.std.proofs.lemmas.Bool.Decides.{nat_tests}
use Rattle.log_record.specs.declared.image.Image.{Image}
use Rattle.log_record.specs.declared.image.Commit.{Commit}
use Rattle.log_record.specs.Encoding.{sector_count}
use Rattle.log_store.specs.declared.store.Job.{Job}
use Rattle.log_store.specs.declared.store.Job.TheVariants.{Clear, Force, Home, Idle, Nothing, WriteBack}
use Rattle.log_store.specs.declared.store.Stage.{Stage}
use Rattle.log_store.specs.declared.store.Stage.TheVariants.{Cover, Down, Free, Half, Record}
use Rattle.log_store.specs.Calls.{has_room}
use Rattle.log_store.specs.Actions
use Rattle.log_store.specs.Actions.{Action, action_at, force_action, home_action, room_action, step_action, step_job, turned_force, within_positions}
use Rattle.log_store.specs.Outcome.{CoverEndsPast, EndsPast, EndsPastAt, IsDone, covers_of, goal_of}
use Rattle.log_store.specs.State.{State}
use Rattle.log_store.specs.Steps.{Covering}

-- ---- where each action comes from

-- what an action says of the stage, the job that was going, and the state
abbrev pub Comes : Action → Stage → Job → State → Type 0
Comes Actions.end_job stage was s = (stage ≡ Free) × IsDone was s × (Covering was → ⊥)
Comes (Actions.stay_down fault) stage was s = stage ≡ Down fault
Comes Actions.end_positions stage was s = (stage ≡ Free) × EndsPast was s (length s.batch)
Comes Actions.write_record stage was s = (stage ≡ Free) × (was ≢ WriteBack)
Comes Actions.write_rest stage was s = stage ≡ Half
Comes Actions.flush_record stage was s = stage ≡ Record
Comes (Actions.write_home image rest) stage was s = (stage ≡ Free) × (s.dirty ≡ image ∷ rest)
Comes Actions.flush_home stage was s = (stage ≡ Free) × (s.dirty ≡ [])
Comes Actions.write_cover stage was s = (stage ≡ Free) × (was ≢ WriteBack)
Comes Actions.flush_cover stage was s = stage ≡ Cover

-- The job that makes a step has the goal of the one that was going. Where a step comes to the positions' end, that job
-- does, and nowhere else.
pub record From (action : Action) (stage : Stage) (was job : Job) (s : State) : Type 0 where
  pub comes : Comes action stage was s
  pub ends : action ≢ Actions.end_positions → EndsPastAt stage was s (length s.batch) → ⊥
  pub goal : goal_of job ≡ goal_of was
  pub covers : covers_of job ≡ covers_of was
  pub same : (job ≡ was) ⊎ ((was ≡ Force) × (job ≡ Clear))

lt_is_true : (a b : ℕ) → nat_lt a b ≡ true → a < b
lt_is_true a b h = grind (arith, nat_tests)

lt_is_false : (a b : ℕ) → nat_lt a b ≡ false → b ≤ a
lt_is_false a b h = grind (arith, nat_tests)

le_is_true : (a b : ℕ) → nat_le a b ≡ true → a ≤ b
le_is_true a b h = grind (arith, nat_tests)

le_is_false : (a b : ℕ) → nat_le a b ≡ false → b < a
le_is_false a b h = grind (arith, nat_tests)

some_none : (image : Image) (rest : List Image) → image ∷ rest ≡ [] → ⊥
some_none image rest is = cc

true_false : true ≡ false → ⊥
true_false is = cc

some_left : (commit : Commit) (list : List Commit) → commit ∷ list ≡ [] → ⊥
some_left commit list is = cc

force_back : Force ≡ WriteBack → ⊥
force_back is = cc

clear_back : Clear ≡ WriteBack → ⊥
clear_back is = cc

home_back : Home ≡ WriteBack → ⊥
home_back is = cc

-- ---- making room

-- a job that makes room, by what is dirty, by what is not flushed, and by whether a cover ends past the last position
covers_from : (was job : Job) (s : State) (past : Bool) → was ≢ WriteBack → goal_of job ≡ goal_of was → covers_of job ≡ covers_of was
    → (job ≡ was) ⊎ ((was ≡ Force) × (job ≡ Clear)) → s.dirty ≡ [] → s.unflushed ≡ false → nat_lt (2 ^ 63) (s.head + 1) ≡ past
    → (EndsPast was s (length s.batch) → CoverEndsPast s) → (CoverEndsPast s → EndsPast was s (length s.batch))
    → From (cond past Actions.end_positions Actions.write_cover) Free was job s
covers_from was job s true other goal covers same none flushed test to from = record {
  comes = (refl, from (none, flushed, lt_is_true _ _ test));
  ends = λ no ends. no refl;
  goal = goal;
  covers = covers;
  same = same;
}
covers_from was job s false other goal covers same none flushed test to from = record {
  comes = (refl, other);
  ends = λ no ends. omega (arith, (to ends).2, lt_is_false _ _ test);
  goal = goal;
  covers = covers;
  same = same;
}

room_from : (was job : Job) (s : State) (dirty : List Image) (unflushed : Bool) → was ≢ WriteBack → goal_of job ≡ goal_of was → covers_of job ≡ covers_of was
    → (job ≡ was) ⊎ ((was ≡ Force) × (job ≡ Clear)) → s.dirty ≡ dirty → s.unflushed ≡ unflushed
    → (EndsPast was s (length s.batch) → CoverEndsPast s) → (CoverEndsPast s → EndsPast was s (length s.batch))
    → From (home_action dirty unflushed (within_positions (s.head + 1) Actions.write_cover)) Free was job s
room_from was job s (image ∷ rest) unflushed other goal covers same dirty_is flushed_is to from = record {
  comes = (refl, dirty_is);
  ends = λ no ends. some_none image rest (sym dirty_is ∙ (to ends).0);
  goal = goal;
  covers = covers;
  same = same;
}
room_from was job s [] true other goal covers same dirty_is flushed_is to from = record {
  comes = (refl, dirty_is);
  ends = λ no ends. true_false (sym flushed_is ∙ (to ends).1);
  goal = goal;
  covers = covers;
  same = same;
}
room_from was job s [] false other goal covers same dirty_is flushed_is to from =
    covers_from was job s (nat_lt (2 ^ 63) (s.head + 1)) other goal covers same dirty_is flushed_is refl to from

-- ---- writing back

back_from : (s : State) (dirty : List Image) (unflushed : Bool) → s.dirty ≡ dirty → s.unflushed ≡ unflushed
    → From (home_action dirty unflushed Actions.end_job) Free WriteBack WriteBack s
back_from s (image ∷ rest) unflushed dirty_is flushed_is =
    record { comes = (refl, dirty_is); ends = λ no ends. ends; goal = refl; covers = refl; same = inl refl }
back_from s [] true dirty_is flushed_is =
    record { comes = (refl, dirty_is); ends = λ no ends. ends; goal = refl; covers = refl; same = inl refl }
back_from s [] false dirty_is flushed_is =
    record { comes = (refl, (dirty_is, flushed_is), λ covers. covers); ends = λ no ends. ends; goal = refl; covers = refl; same = inl refl }

-- ---- a force

record_from : (s : State) (past : Bool) → s.list ≢ [] → (s.head - s.tail) + sector_count (length s.batch) + 1 ≤ s.ring
    → nat_lt (2 ^ 63) (s.head + sector_count (length s.batch)) ≡ past
    → From (cond past Actions.end_positions Actions.write_record) Free Force Force s
record_from s true some room test = record {
  comes = (refl, (some, inl (room, lt_is_true _ _ test)));
  ends = λ no ends. no refl;
  goal = refl;
  covers = refl;
  same = inl refl;
}
record_from s false some room test = record {
  comes = (refl, force_back);
  ends = λ no ends. elim (ends.1) [ inl whole ↦ omega (arith, whole.1, lt_is_false _ _ test) | inr short ↦ omega (arith, short.0, room) ];
  goal = refl;
  covers = refl;
  same = inl refl;
}

force_from : (list : List Commit) (s : State) (room : Bool) → s.list ≡ list → has_room s (length s.batch) ≡ room
    → From (action_at Free (turned_force list s) s) Free Force (turned_force list s) s
force_from [] s room list_is room_is =
    subst (λ (l : List Commit). From (force_action l s) Free Force Force s) (sym list_is)
    (record { comes = (refl, list_is, λ covers. covers); ends = λ no ends. ends.0 list_is; goal = refl; covers = refl; same = inl refl })
force_from (commit ∷ list) s true list_is room_is =
    let job : turned_force (commit ∷ list) s ≡ Force = ap (λ (b : Bool). cond b Force Clear) room_is in
    subst (λ (j : Job). From (action_at Free j s) Free Force j s) (sym job)
    (subst (λ (l : List Commit). From (force_action l s) Free Force Force s) (sym list_is)
    (record_from s (nat_lt (2 ^ 63) (s.head + sector_count (length s.batch))) (λ none. some_left commit list (sym list_is ∙ none)) (le_is_true _ _ room_is) refl))
force_from (commit ∷ list) s false list_is room_is =
    let job : turned_force (commit ∷ list) s ≡ Clear = ap (λ (b : Bool). cond b Force Clear) room_is in
    let short : s.ring < (s.head - s.tail) + sector_count (length s.batch) + 1 = le_is_false _ _ room_is in
    subst (λ (j : Job). From (action_at Free j s) Free Force j s) (sym job)
    (room_from Force Clear s s.dirty s.unflushed force_back refl refl (inr (refl, refl)) refl refl
    (λ ends. elim (ends.1) [ inl whole ↦ absurd (omega (arith, whole.0, short)) | inr cover ↦ cover.1 ])
    (λ cover. (λ none. some_left commit list (sym list_is ∙ none), inr (short, cover))))

-- ---- each job, and each stage

rest_from : (was : Job) (s : State) → From (step_action Free was s) Free was (step_job Free was s) s
rest_from Force s = force_from s.list s (has_room s (length s.batch)) refl refl
rest_from Clear s = room_from Clear Clear s s.dirty s.unflushed clear_back refl refl (inl refl) refl refl (λ ends. ends) (λ ends. ends)
rest_from Home s = room_from Home Home s s.dirty s.unflushed home_back refl refl (inl refl) refl refl (λ ends. ends) (λ ends. ends)
rest_from WriteBack s = back_from s s.dirty s.unflushed refl refl
rest_from Nothing s = record { comes = (refl, tt, λ covers. covers); ends = λ no ends. ends; goal = refl; covers = refl; same = inl refl }
rest_from Idle s = record { comes = (refl, tt, λ covers. covers); ends = λ no ends. ends; goal = refl; covers = refl; same = inl refl }

pub comes_from : (stage : Stage) (was : Job) (s : State) → From (step_action stage was s) stage was (step_job stage was s) s
comes_from Free was s = rest_from was s
comes_from Half was s = record { comes = refl; ends = λ no ends. ends; goal = refl; covers = refl; same = inl refl }
comes_from Record was s = record { comes = refl; ends = λ no ends. ends; goal = refl; covers = refl; same = inl refl }
comes_from Cover was s = record { comes = refl; ends = λ no ends. ends; goal = refl; covers = refl; same = inl refl }
comes_from (Down fault) was s = record { comes = refl; ends = λ no ends. ends; goal = refl; covers = refl; same = inl refl }

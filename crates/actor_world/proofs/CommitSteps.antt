-- After a step the commits that wait tell the changes that are not durable, one each, in order.
use Rattle.std.proofs.Common.{◌≡◌, ◌≤◌, ◌+◌, ◌-◌, ℕ, Bool, true, false, List, [], ◌∷◌, ◌++◌, append-nil, append_assoc, length-append, Option, None, Some, take, length, refl, sym, ap, subst, ◌∙◌, arith}
use Rattle.std.proofs.lemmas.List.{take-append-drop, length-take-le}
use Rattle.log_record.specs.declared.image.Commit.{Commit}
use Rattle.log_store.specs.declared.store.Store.{Store}
use Rattle.log_store.specs.State.{State, state_of}
use Rattle.life_table.specs.declared.types.Call.{Call}
use Rattle.life_table.specs.declared.types.Call.TheVariants as call
use Rattle.life_table.specs.declared.types.Reply.{Reply}
use Rattle.life_table.specs.declared.types.Event.{Event}
use Rattle.life_table.specs.declared.types.Event.TheVariants.{Called, Freed}
use Rattle.life_table.specs.declared.types.Entry.{Entry}
use Rattle.life_table.specs.declared.table.Table.{Table}
use Rattle.life_table.specs.History.{Happens, Leads, after_entries, after_event, is_change}
use Rattle.actor_world.specs.declared.memory.Place.{Place}
use Rattle.actor_world.specs.declared.memory.Place.TheVariants as place
use Rattle.actor_world.specs.declared.memory.Doing.{Doing}
use Rattle.actor_world.specs.Caches.{actor_at}
use Rattle.actor_world.specs.Moves.{lies_in_log}
use Rattle.actor_world.specs.World.{History, World, told, told_if}
use Rattle.actor_world.specs.Steps.{DiskFace, HomeStep, IsAdvanced, IsGroupStep, Pushes, Step, StepOf, SyncStep, Telling, answered, makes_change}
use Rattle.actor_world.specs.Invariant.{CommitOf, CommitsAreRight, CommitsOf, Invariant, JobAt, JobOfDoing, JobOfHolder, TakenFits, beginning_of}
use Rattle.actor_world.proofs.LogLock.{has_lock}
use Rattle.actor_world.proofs.StoreMoves.{Kept, Landed, Moves, step_moves}

-- ---- the history as its entries tell it

replay : History → List Entry → List ℕ → History
replay h [] froms = h
replay h (entry ∷ entries) [] = h
replay h (entry ∷ entries) (begin ∷ froms) = replay (told entry.actor begin entry.event h) entries froms

pub after_one : (t u : Table) (event : Event) → Happens t event u → u ≡ after_event t event
after_one t u (Called made answer) happens = happens.1
after_one t u (Freed key) happens = happens.1

pub leads_after : (t u : Table) (entries : List Entry) → Leads t entries u → u ≡ after_entries t entries
leads_after t u [] leads = leads
leads_after t u (entry ∷ entries) (next, one, rest) = leads_after next u entries rest ∙ ap (λ v. after_entries v entries) (after_one t next entry.event one)

replayed : (h : History) (entries : List Entry) (froms : List ℕ) → length froms ≡ length entries
    → replay h entries froms ≡ record { table = after_entries h.table entries; entries = h.entries ++ entries; froms = h.froms ++ froms }
unfolding replay
replayed h [] [] same = λ i. record { table = h.table; entries = sym (append-nil h.entries) i; froms = sym (append-nil h.froms) i }
replayed h [] (begin ∷ froms) same = absurd (omega arith)
replayed h (entry ∷ entries) [] same = absurd (omega arith)
replayed h (entry ∷ entries) (begin ∷ froms) same =
    replayed (told entry.actor begin entry.event h) entries froms (omega arith)
    ∙ (λ i. record {
      table = after_entries (after_event h.table entry.event) entries;
      entries = append_assoc h.entries (record { actor = entry.actor; event = entry.event } ∷ []) entries i;
      froms = append_assoc h.froms (begin ∷ []) froms i;
    })

-- ---- one entry more

-- the commits of one entry more
abbrev pub TailIs : Telling → History → History → Bool → List Commit → Type 0
TailIs tells old new true more = (commit : Commit) × tells old new commit × (more ≡ commit ∷ [])
TailIs tells old new false more = more ≡ []

tail_commit : (tells : Telling) (old new : History) (b : Bool) (more : List Commit) → TailIs tells old new b more → CommitOf tells old new b (λ cs. cs ≡ []) more
tail_commit tells old new true more tail = subst (λ cs. CommitOf tells old new true (λ rest. rest ≡ []) cs) (sym tail.2) (tail.1, refl)
tail_commit tells old new false more tail = tail

commit_more : (tells : Telling) (old new : History) (b : Bool) (Rest After : List Commit → Type 0) (commits more : List Commit) → ((cs : List Commit) → Rest cs → After (cs ++ more))
    → CommitOf tells old new b Rest commits → CommitOf tells old new b After (commits ++ more)
commit_more tells old new true Rest After [] more f is = absurd is
commit_more tells old new true Rest After (commit ∷ commits) more f is = (is.0, f commits is.1)
commit_more tells old new false Rest After commits more f is = f commits is

commits_push : (tells : Telling) (h : History) (entries : List Entry) (froms : List ℕ) (commits : List Commit) (entry : Entry) (begin : ℕ) (more : List Commit)
    → length froms ≡ length entries → CommitsOf tells h entries froms commits
    → TailIs tells (replay h entries froms) (told entry.actor begin entry.event (replay h entries froms)) (is_change entry.event) more
    → CommitsOf tells h (entries ++ entry ∷ []) (froms ++ begin ∷ []) (commits ++ more)
unfolding replay
commits_push tells h [] [] commits entry begin more same is tail =
    subst (λ cs. CommitOf tells h (told entry.actor begin entry.event h) (is_change entry.event) (λ rest. rest ≡ []) (cs ++ more)) (sym is)
    (tail_commit tells h (told entry.actor begin entry.event h) (is_change entry.event) more tail)
commits_push tells h [] (other ∷ froms) commits entry begin more same is tail = absurd (omega arith)
commits_push tells h (first ∷ entries) [] commits entry begin more same is tail = absurd is
commits_push tells h (first ∷ entries) (other ∷ froms) commits entry begin more same is tail =
    commit_more tells h (told first.actor other first.event h) (is_change first.event) _ _ commits more
    (λ cs rest. commits_push tells (told first.actor other first.event h) entries froms cs entry begin more (omega arith) rest tail) is

-- ---- what a step adds

-- the commits that a step adds
abbrev pub Adds : Telling → History → History → Option Event → List Commit → Type 0
Adds tells old new None more = more ≡ []
Adds tells old new (Some event) more = TailIs tells old new (is_change event) more

pushes_add : (tells : Telling) (b : Bool) (old new : History) (before after : List Commit) → Pushes tells b old new before after → (more : List Commit) × TailIs tells old new b more × (after ≡ before ++ more)
pushes_add tells true old new before after pushes = (pushes.0 ∷ [], (pushes.0, pushes.1, refl), pushes.2)
pushes_add tells false old new before after pushes = ([], refl, pushes ∙ sym (append-nil before))

-- no answer of the log is a change
no_change : (tells : Telling) (old new : History) (made : Call) (answer : Option Reply) → ((r : Reply) → is_change (Called made r) ≡ false) → Adds tells old new (answered made answer) []
no_change tells old new made None none = refl
no_change tells old new made (Some answer) none = subst (λ b. TailIs tells old new b []) (sym (none answer)) refl

module _ {D : Type 0} (tells : Telling) (start : Table) (old new : World D) (right : CommitsAreRight tells start old) (leads : Leads start old.history.entries old.history.table)
    (long : length old.history.froms ≡ length old.history.entries) (a begin : ℕ) (event : Option Event) (is : new.history ≡ told_if a begin event old.history) where
  now : replay (beginning_of start) old.history.entries old.history.froms ≡ old.history
  now =
      replayed (beginning_of start) old.history.entries old.history.froms long
      ∙ (λ i. record { table = sym (leads_after start old.history.table old.history.entries leads) i; entries = old.history.entries; froms = old.history.froms })

  whole : List Commit
  whole = (right.durable ++ (state_of old.store).list) ++ old.queue

  -- the commits of the history after
  told_more : (o : Option Event) (more : List Commit) → Adds tells old.history (told_if a begin o old.history) o more
      → CommitsOf tells (beginning_of start) (told_if a begin o old.history).entries (told_if a begin o old.history).froms (whole ++ more)
  unfolding whole
  told_more None more adds =
      subst (λ cs. CommitsOf tells (beginning_of start) old.history.entries old.history.froms cs) (sym (append-nil whole) ∙ ap (λ cs. whole ++ cs) (sym adds)) right.tell
  told_more (Some event) more adds =
      commits_push tells (beginning_of start) old.history.entries old.history.froms whole (record { actor = a; event = event }) begin more long right.tell
      (subst (λ (h : History). TailIs tells h (told a begin event h) (is_change event) more) (sym now) adds)

  -- with so many first commits of the store's list durable
  pub kept_with : (more : List Commit) → Adds tells old.history (told_if a begin event old.history) event more → (landed : List Commit)
      → new.first_commit ≡ old.first_commit → (state_of new.store).durable ≡ (state_of old.store).durable + length landed
      → landed ++ ((state_of new.store).list ++ new.queue) ≡ ((state_of old.store).list ++ old.queue) ++ more → CommitsAreRight tells start new
  unfolding whole
  kept_with more adds landed first durable waits =
      let low : old.first_commit ≤ (state_of old.store).durable + 1 = right.first in
      let before : length right.durable ≡ ((state_of old.store).durable + 1) - old.first_commit = right.count in
      let both : length (right.durable ++ landed) ≡ length right.durable + length landed = length-append right.durable landed in
      record {
        durable = right.durable ++ landed;
        first = omega (arith, low, first, durable);
        count = omega (arith, low, first, durable, before, both);
        tell = subst (λ (h : History). CommitsOf tells (beginning_of start) h.entries h.froms (((right.durable ++ landed) ++ (state_of new.store).list) ++ new.queue)) (sym is)
            (subst (λ cs. CommitsOf tells (beginning_of start) (told_if a begin event old.history).entries (told_if a begin event old.history).froms cs)
            (ap (λ cs. cs ++ more) (append_assoc right.durable (state_of old.store).list old.queue)
            ∙ append_assoc right.durable ((state_of old.store).list ++ old.queue) more ∙ ap (λ cs. right.durable ++ cs) (sym waits) ∙ sym (append_assoc right.durable landed ((state_of new.store).list ++ new.queue))
            ∙ sym (append_assoc (right.durable ++ landed) (state_of new.store).list new.queue))
            (told_more event more adds));
      }

-- ---- steps

group_commits : {D : Type 0} (tells : Telling) (start : Table) (a : ℕ) (d : Doing) (old new : World D) → Invariant tells start old → IsGroupStep tells a d old new → CommitsAreRight tells start new
group_commits tells start a d old new inv step =
    let adds = adds_of step.move.event (subst (λ (h : History). Pushes tells (makes_change step.move.event) old.history h old.queue new.queue) step.history step.queue) in
    kept_with tells start old new inv.commits inv.legal.leads inv.intervals.length_is a d.«from» step.move.event step.history adds.0 adds.1 [] step.first_commit
    (let same = ap (λ (s : Store _). (state_of s).durable) step.store in omega (arith, same))
    (ap (λ (s : Store _). (state_of s).list ++ new.queue) step.store ∙ ap (λ cs. (state_of old.store).list ++ cs) adds.2 ∙ sym (append_assoc (state_of old.store).list old.queue adds.0))
  where
    adds_of : (event : Option Event) → Pushes tells (makes_change event) old.history (told_if a d.«from» event old.history) old.queue new.queue
        → (more : List Commit) × Adds tells old.history (told_if a d.«from» event old.history) event more × (new.queue ≡ old.queue ++ more)
    adds_of None pushes = ([], refl, pushes ∙ sym (append-nil old.queue))
    adds_of (Some event) pushes = pushes_add tells (is_change event) old.history (told a d.«from» event old.history) old.queue new.queue pushes

landed_of : (list : List Commit) (durable : ℕ) (after : List Commit) (later : ℕ) → Moves list durable after later
    → (landed : List Commit) × (later ≡ durable + length landed) × (landed ++ after ≡ list)
landed_of list durable after later (Kept same still) = ([], omega (arith, still), same)
landed_of list durable after later (Landed n low rest more) =
    let long : length (take n list) ≡ n = length-take-le n list low in
    (take n list, omega (arith, more, long), ap (λ cs. take n list ++ cs) rest ∙ take-append-drop n list)

advanced_commits : {D : Type 0} (face : DiskFace D) (tells : Telling) (start : Table) (a : ℕ) (d : Doing) (made : Call) (old new : World D) → Invariant tells start old
    → ((r : Reply) → is_change (Called made r) ≡ false) → TakenFits old.store.stage (state_of old.store) → IsAdvanced face a d made old new → CommitsAreRight tells start new
advanced_commits face tells start a d made old new inv none fits step =
    let landed = landed_of _ _ _ _ (step_moves face step.result old.store new.store step.step fits) in
    kept_with tells start old new inv.commits inv.legal.leads inv.intervals.length_is a d.«from» _ step.turn.history [] (no_change tells old.history _ made _ none) landed.0
    step.turn.first_commit landed.1
    (sym (append_assoc landed.0 (state_of new.store).list new.queue) ∙ ap (λ cs. cs ++ new.queue) landed.2 ∙ ap (λ cs. (state_of old.store).list ++ cs) step.queue
    ∙ sym (append-nil ((state_of old.store).list ++ old.queue)))

-- the record in flight of a job that goes on fits
pub job_fits : {D : Type 0} (tells : Telling) (start : Table) (a : ℕ) (d : Doing) (old : World D) → Invariant tells start old → (actor_at old.memory a).doing ≡ Some d
    → old.holder ≡ Some a → JobAt (state_of old.store) old.first_commit old.history.entries old.store.job d.«from» d.place
job_fits tells start a d old inv inside holds =
    let right = subst (λ (o : Option ℕ). JobOfHolder (state_of old.store) old.history old.memory old.first_commit old.store.job o) holds inv.job.job in
    subst (λ (o : Option Doing). JobOfDoing (state_of old.store) old.first_commit old.history.entries old.store.job o) inside right.1

sync_commits : {D : Type 0} (face : DiskFace D) (tells : Telling) (start : Table) (a : ℕ) (d : Doing) (at : Place) (old new : World D) → Invariant tells start old
    → (actor_at old.memory a).doing ≡ Some d → d.place ≡ at → SyncStep face a d at old new → CommitsAreRight tells start new
sync_commits face tells start a d place.Take old new inv inside here step =
    kept_with tells start old new inv.commits inv.legal.leads inv.intervals.length_is a d.«from» _ step.turn.history [] (no_change tells old.history _ call.Sync _ (λ r. refl)) [] step.turn.first_commit
    (let same = ap (λ (s : State). s.durable) step.state in omega (arith, same))
    (ap (λ (s : State). s.list ++ new.queue) step.state ∙ ap (λ cs. ((state_of old.store).list ++ old.queue) ++ cs) step.queue)
sync_commits face tells start a d place.Force old new inv inside here step =
    let at = job_fits tells start a d old inv inside (has_lock old.holder old.memory a d inside inv.log_lock (ap lies_in_log here)) in
    let fits = subst (λ p. JobAt (state_of old.store) old.first_commit old.history.entries old.store.job d.«from» p) here at in
    advanced_commits face tells start a d call.Sync old new inv (λ r. refl) fits.2 step
sync_commits face tells start a d _ old new inv inside here step = absurd step

home_commits : {D : Type 0} (face : DiskFace D) (tells : Telling) (start : Table) (a : ℕ) (d : Doing) (at : Place) (old new : World D) → Invariant tells start old
    → (actor_at old.memory a).doing ≡ Some d → d.place ≡ at → HomeStep face a d at old new → CommitsAreRight tells start new
home_commits face tells start a d place.TakeLog old new inv inside here step =
    kept_with tells start old new inv.commits inv.legal.leads inv.intervals.length_is a d.«from» _ step.turn.history [] (no_change tells old.history _ call.Home _ (λ r. refl)) [] step.turn.first_commit
    (let same = ap (λ (s : State). s.durable) step.state in omega (arith, same))
    (ap (λ (s : State). s.list ++ new.queue) step.state ∙ ap (λ cs. (state_of old.store).list ++ cs) step.queue ∙ sym (append-nil ((state_of old.store).list ++ old.queue)))
home_commits face tells start a d place.WriteHome old new inv inside here step =
    let at = job_fits tells start a d old inv inside (has_lock old.holder old.memory a d inside inv.log_lock (ap lies_in_log here)) in
    let fits = subst (λ p. JobAt (state_of old.store) old.first_commit old.history.entries old.store.job d.«from» p) here at in
    advanced_commits face tells start a d call.Home old new inv (λ r. refl) fits.1 step
home_commits face tells start a d _ old new inv inside here step = absurd step

commits_of_step : {D : Type 0} (face : DiskFace D) (tells : Telling) (start : Table) (a : ℕ) (d : Doing) (made : Call) (old new : World D) → Invariant tells start old
    → (actor_at old.memory a).doing ≡ Some d → StepOf face tells a d made old new → CommitsAreRight tells start new
commits_of_step face tells start a d call.Sync old new inv inside step = sync_commits face tells start a d d.place old new inv inside refl step
commits_of_step face tells start a d call.Home old new inv inside step = home_commits face tells start a d d.place old new inv inside refl step
commits_of_step face tells start a d _ old new inv inside step = group_commits tells start a d old new inv step

pub commits_kept : {D : Type 0} (face : DiskFace D) (tells : Telling) (start : Table) (a : ℕ) (old new : World D) → Invariant tells start old → Step face tells a old new → CommitsAreRight tells start new
commits_kept face tells start a old new inv step = commits_of_step face tells start a step.doing step.doing.call old new inv step.inside step.step

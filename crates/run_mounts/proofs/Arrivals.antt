-- A mount that came up in a run, and one that did not.
use Rattle.std.proofs.Common.{◌≡◌, ◌<◌, ◌+◌, ◌++◌, ℕ, Bool, true, false, zero, suc, List, [], ◌∷◌, length, Option, None, Some, refl, ap, sym, subst, ◌∙◌, arith}
use Rattle.std.specs.Prelude.{IsTrue, slice_get}
use Rattle.std.specs.Option.{IfSome, option_map}
use Rattle.std.specs.List.{range_with_len}
use Rattle.std.proofs.lemmas.List.{length-map}
use Rattle.life_limits.specs.declared.TheConstants.{MAX_ACTORS}
use Rattle.life_bytes.specs.declared.sector.Sector.{Sector}
use Rattle.disk_model.specs.Disk.{Cell, IsImage}
use Rattle.geometry.specs.declared.shape.Geometry.{Geometry}
use Rattle.life_table.specs.declared.key.Key.{Key}
use Rattle.life_table.specs.declared.types.Call.{Call}
use Rattle.life_table.specs.declared.types.Call.TheVariants as call
use Rattle.life_table.specs.declared.types.Entry.{Entry}
use Rattle.life_table.specs.declared.types.Event.{Event}
use Rattle.life_table.specs.declared.types.Event.TheVariants.{Called, Freed}
use Rattle.life_table.specs.declared.types.MountRecord.{MountRecord}
use Rattle.life_table.specs.declared.types.Reply.{Reply}
use Rattle.life_table.specs.declared.types.Reply.TheVariants as reply
use Rattle.life_table.specs.declared.table.Table.{Table}
use Rattle.life_table.specs.History.{closed, LegalHistory, frees_of, recovered}
use Rattle.log_store.specs.State.{State, state_of}
use Rattle.sound_image.specs.Encoding.{Layouts}
use Rattle.actor_world.specs.Licence.{Licensed, Unfinished, refused_group}
use Rattle.actor_world.specs.Mounted.{own_places}
use Rattle.group_core.specs.Value.{GroupValue}
use Rattle.group_ops.specs.Values.{StateValue}
use Rattle.mount.specs.Mounts.{IsBegun, IsStoryOf}
use Rattle.mount.specs.declared.mounted.Mounted.{Mounted}
use Rattle.run_history.specs.Answers.{IsFresh}
use Rattle.run_history.specs.CrashSafe.{CrashSafe, IsPrefixLeft, last_mount}
use Rattle.run_history.specs.Linear.{IsLegalMount, unfinished_of}
use Rattle.run_history.specs.Mounts.{Ending, MountStory, left, never_up}
use Rattle.run_history.specs.NextMount.{Follow, IsAcknowledgedRight, Recovers}
use Rattle.run_history.specs.States.{PastCall}
use Rattle.mounted_calls.specs.Running.{HasGroupsOf, IsLogOf, IsRecordOf, IsRunning}
use Rattle.mounts_in_runs.specs.Stories.{BeginsWhere, KeepsOf, mount_of}
use Rattle.run_mounts.specs.Safe.{IsFreshWith, IsUpBehind, StandsBehind, StandsDown, StandsSafe, base_behind, kept_behind, story_as, with_kept}
use Rattle.run_mounts.proofs.OneCall.{own-interval}
use Rattle.run_mounts.proofs.Standing.{LeavesPrefixes, safe-more}

-- ---- how many changes it keeps

kept-of : (number next kept base : ℕ) (last : Option MountStory) (behind : Option ℕ) → KeepsOf number last next kept → behind ≡ option_map (λ (m : MountStory). m.story.base) last → base ≡ next
    → kept_behind base behind ≡ kept
kept-of number next kept base None behind keeps same is = ap (kept_behind base) same ∙ sym keeps.1
kept-of number next kept base (Some m) behind keeps same is =
    let begun = keeps.0 in ap (kept_behind base) same ∙ omega (arith, begun, is)

pub kept-is : (first : Table) (number next kept base : ℕ) (past : List MountStory) (t : Table) (behind : Option ℕ) → BeginsWhere first number past t next kept → behind ≡ base_behind past → base ≡ next
    → kept_behind base behind ≡ kept
kept-is first number next kept base past t behind begins same is = kept-of number next kept base (last_mount past) behind begins.keeps same is

abbrev pub keeping : ℕ → MountRecord → MountRecord
keeping kept story = record story { kept = kept }

-- ---- the record, with what it keeps

kept-told : (start t : Table) (story : MountRecord) (kept : ℕ) → IsRecordOf start t story → IsRecordOf start t (keeping kept story)
kept-told start t story kept told = record {
  table = told.table;
  legal = told.legal;
  awaits = told.awaits;
  places = told.places;
  begun = told.begun;
  acknowledged = told.acknowledged;
}

kept-groups : (g : Geometry) (t : Table) (layouts : Layouts) (story : MountRecord) (groups : List (GroupValue StateValue)) (kept : ℕ) → HasGroupsOf g t layouts story groups
    → HasGroupsOf g t layouts (keeping kept story) groups
kept-groups g t layouts story groups kept has = record { shape = has.shape; count = has.count; each = has.each; histories = has.histories }

kept-log : (known : Bool) (g : Geometry) (start : Table) (layouts : Layouts) (story : MountRecord) (s : State) (cells : List Cell) (kept : ℕ) → IsLogOf known g start layouts story s cells
    → IsLogOf known g start layouts (keeping kept story) s cells
kept-log known g start layouts story s cells kept log = record {
  anchor = log.anchor;
  ring = log.ring;
  durable = log.durable;
  acknowledged = log.acknowledged;
  number = log.number;
  made = log.made;
  lists = log.lists;
  commits = log.commits;
  base = log.base;
}

pub kept-running : {D : Type 0} (known : Bool) (cells : D → List Cell) (sector_count : D → ℕ) (start t : Table) (m : Mounted D) (kept : ℕ) → IsRunning known cells sector_count start t m
    → IsRunning known cells sector_count start t (record m { story = keeping kept m.story })
kept-running known cells sector_count start t m kept run = record {
  layouts = run.layouts;
  parts = record {
    told = kept-told start t m.story kept run.parts.told;
    groups_of = kept-groups m.geometry t run.layouts m.story m.groups.items kept run.parts.groups_of;
    log = kept-log known m.geometry start run.layouts m.story (state_of m.store) (cells m.store.disk) kept run.parts.log;
  };
  store = run.store;
  idle = run.idle;
}

kept-fresh : (story : MountRecord) (kept : ℕ) → IsFresh story → IsFresh (keeping kept story)
kept-fresh story kept fresh = record { keys = fresh.keys; entries = fresh.entries; froms = fresh.froms; freed = fresh.freed }

places : (n : ℕ) (keys : List Key) → range_with_len n (length keys) ≡ own_places n keys
places n [] = refl
places n (key ∷ keys) = ap (λ (l : List ℕ). n ∷ l) (places (n + 1) keys)

pub fresh-with : (next acknowledged kept : ℕ) (keys : List Key) (story : MountRecord) → IsStoryOf next keys acknowledged story → IsFreshWith acknowledged (keeping kept story)
fresh-with next acknowledged kept keys story is =
    (kept-fresh story kept (record { keys = keys; entries = is.entries; froms = is.froms ∙ places 0 keys; freed = is.freed }), is.acknowledged_is)

pub fresh-up : (next kept : ℕ) (keys : List Key) (story : MountRecord) → IsStoryOf next keys (length keys) story → IsFreshWith story.freed (keeping kept story)
fresh-up next kept keys story is = ((fresh-with next (length keys) kept keys story is).0, is.acknowledged_is ∙ sym is.freed)

pub fresh-begun : (behind : Option ℕ) (begun : Option MountRecord) → IsBegun begun → IfSome (option_map (with_kept behind) begun) (IsFreshWith 0)
fresh-begun behind None begun = tt
fresh-begun behind (Some story) begun = fresh-with story.base 0 (kept_behind story.base behind) begun.0 story begun.1

-- ---- entries that recovery made

free-at : (keys : List Key) (i : ℕ) (entry : Entry) → slice_get (frees_of MAX_ACTORS keys) i ≡ Some entry → (key : Key) × (record { actor = MAX_ACTORS; event = Freed key } ≡ entry)
free-at [] i entry is = absurd cc
free-at (key ∷ keys) zero entry is = let e : record { actor = MAX_ACTORS; event = Freed key } ≡ entry = cc in (key, e)
free-at (key ∷ keys) (suc i) entry is = free-at keys i entry is

abbrev IsNoCall : Event → Type 0
IsNoCall (Called made answer) = ⊥
IsNoCall (Freed key) = Unit {0}

not-called : (keys : List Key) (i actor : ℕ) (made : Call) (answer : Reply) → slice_get (frees_of MAX_ACTORS keys) i ≡ Some (record { actor = actor; event = Called made answer }) → ⊥
not-called keys i actor made answer is =
    let f = free-at keys i (record { actor = actor; event = Called made answer }) is in subst (λ (e : Entry). IsNoCall e.event) f.1 tt

not-low : (keys : List Key) (i actor : ℕ) (key : Key) → actor < MAX_ACTORS → slice_get (frees_of MAX_ACTORS keys) i ≡ Some (record { actor = actor; event = Freed key }) → ⊥
not-low keys i actor key low is =
    let f = free-at keys i (record { actor = actor; event = Freed key }) is in
    let same : MAX_ACTORS ≡ actor = ap (λ (e : Entry). e.actor) f.1 in omega (arith, low, same)

abbrev IsRefused : Event → ℕ → Type 0
IsRefused event g = refused_group event ≡ Some g

not-refused : (keys : List Key) (i g : ℕ) (entry : Entry) → slice_get (frees_of MAX_ACTORS keys) i ≡ Some entry → IsRefused entry.event g → ⊥
not-refused keys i g entry is refused =
    let f = free-at keys i entry is in
    let none : IsRefused (Freed f.0) g = subst (λ (e : Entry). IsRefused e.event g) (sym f.1) refused in absurd cc

frees-licensed : (start : Table) (keys : List Key) (froms : List ℕ) (unfinished : List Unfinished) → Licensed start (frees_of MAX_ACTORS keys) froms unfinished
frees-licensed start keys froms unfinished = record {
  frees = λ i a begin key low is from. absurd (not-low keys i a key low is);
  gc = λ i a key answer is waits. absurd (not-called keys i a call.Gc answer is);
  refused = λ i begin g entry key is from refused group awaits. absurd (not-refused keys i g entry is refused);
}

frees-right : (keys : List Key) (story : MountRecord) → story.entries ≡ frees_of MAX_ACTORS keys → IsAcknowledgedRight story
frees-right keys story entries = record {
  least = λ i begin actor durable made is from. absurd (not-called keys i actor made (reply.Covered durable) (subst (λ (es : List Entry). slice_get es i ≡ Some (record { actor = actor; event = Called made (reply.Covered durable) })) entries is));
  most = λ i actor durable made is. absurd (not-called keys i actor made (reply.Covered durable) (subst (λ (es : List Entry). slice_get es i ≡ Some (record { actor = actor; event = Called made (reply.Covered durable) })) entries is));
}

-- a mount of which only frees are recorded
pub record Freeing (start last : Table) (keys : List Key) (story : MountRecord) : Type 0 where
  pub entries : story.entries ≡ frees_of MAX_ACTORS keys
  pub froms : story.froms ≡ range_with_len 0 (length keys)
  pub legal : LegalHistory start story.entries last

freeing-legal : (calls : List PastCall) (k : ℕ) (ending : Ending) (start last : Table) (keys : List Key) (story : MountRecord) → Freeing start last keys story
    → IsLegalMount calls k (story_as ending start story)
freeing-legal calls k ending start last keys story f = record {
  last = last;
  legal = f.legal;
  intervals = own-interval story.entries story.froms (f.froms ∙ ap (range_with_len 0) (sym (ap length f.entries ∙ length-map keys (λ (key : Key). record { actor = MAX_ACTORS; event = Freed key }))));
  licensed = subst (λ (es : List Entry). Licensed start es story.froms (unfinished_of k calls)) (sym f.entries) (frees-licensed start keys story.froms (unfinished_of k calls));
}

-- a run with such a mount more
pub freeing-stands : (first : Table) (number : ℕ) (past : List MountStory) (ending : Ending) (start last : Table) (keys : List Key) (story : MountRecord) (old new : List Cell) → StandsSafe first number past old
    → Freeing start last keys story → Follow first number (past ++ story_as ending start story ∷ []) → Recovers (story_as ending start story) → LeavesPrefixes (story_as ending start story) new
    → StandsBehind first number past ending start story new
freeing-stands first number past ending start last keys story old new safe f follow recovers leaves =
    safe-more first number past (story_as ending start story) old new safe (λ calls k. freeing-legal calls k ending start last keys story f) follow recovers (frees-right keys story f.entries) leaves

abbrev FollowsLaw : Type 0
FollowsLaw = (first : Table) (number kept : ℕ) (past : List MountStory) (m : MountStory) → Follow first number past → BeginsWhere first number past m.start m.story.base kept
    → m.story.kept ≡ kept → Follow first number (past ++ m ∷ [])

pub came-up : {D : Type 0} → FollowsLaw → (known : Bool) (cells : D → List Cell) (sector_count : D → ℕ) (first : Table) (number : ℕ) (past : List MountStory) (m : Mounted D) (story : MountRecord)
    (t : Table) (next kept acknowledged : ℕ) (keys : List Key) (old : List Cell)
    → StandsSafe first number past old → BeginsWhere first number past t next kept → IsStoryOf next keys acknowledged m.story → closed t ≡ t → IsRunning known cells sector_count t (recovered t) m
    → Recovers (mount_of left t kept m.story) → ((image : List Sector) → IsImage (cells m.store.disk) image → IsPrefixLeft (mount_of left t kept m.story) image m.story.freed)
    → story ≡ keeping kept m.story → IsUpBehind known cells sector_count first number past (record m { story = story })
unfolding LeavesPrefixes
came-up law known cells sector_count first number past m story t next kept acknowledged keys old safe begins is shut run recovers leaves same =
    let told = run.parts.told in
    let freeing : Freeing t (recovered t) keys (keeping kept m.story) = record { entries = is.entries; froms = is.froms; legal = told.legal } in
    let begun : BeginsWhere first number past t m.story.base kept = subst (λ (n : ℕ). BeginsWhere first number past t n kept) (sym is.base) begins in
    let follow = law first number kept past (mount_of left t kept m.story) safe.next_mount.follow begun refl in
    let stands = freeing-stands first number past left t (recovered t) keys (keeping kept m.story) old (cells m.store.disk) safe freeing follow recovers (λ image is. (m.story.freed, leaves image is)) in
    subst (λ (s : MountRecord). IsUpBehind known cells sector_count first number past (record m { story = s })) (sym same)
    (record {
      start = t;
      starts = begins.start;
      unheld = shut;
      running = kept-running known cells sector_count t (recovered t) m kept run;
      safe = stands;
    })

pub stayed-down : FollowsLaw → (first : Table) (number : ℕ) (past : List MountStory) (story told : MountRecord) (t last : Table) (next kept : ℕ) (keys : List Key) (old new : List Cell)
    → StandsSafe first number past old → BeginsWhere first number past t next kept → IsStoryOf next keys 0 story → LegalHistory t (frees_of MAX_ACTORS keys) last
    → Recovers (mount_of never_up t kept story) → ((image : List Sector) → IsImage new image → (n : ℕ) × IsPrefixLeft (mount_of never_up t kept story) image n)
    → told ≡ keeping kept story → StandsDown first number past (Some told) new
unfolding LeavesPrefixes
stayed-down law first number past story told t last next kept keys old new safe begins is legal recovers leaves same =
    let freeing : Freeing t last keys (keeping kept story) = record { entries = is.entries; froms = is.froms; legal = subst (λ (es : List Entry). LegalHistory t es last) (sym is.entries) legal } in
    let begun : BeginsWhere first number past t story.base kept = subst (λ (n : ℕ). BeginsWhere first number past t n kept) (sym is.base) begins in
    let follow = law first number kept past (mount_of never_up t kept story) safe.next_mount.follow begun refl in
    let stands = freeing-stands first number past never_up t last keys (keeping kept story) old new safe freeing follow recovers leaves in
    subst (λ (s : MountRecord). StandsDown first number past (Some s) new) (sym same)
    (subst (λ (u : Table). StandsBehind first number past never_up u (keeping kept story) new) begins.start stands)

pub stayed-unbegun : (first : Table) (number : ℕ) (past : List MountStory) (old new : List Cell) → StandsSafe first number past old
    → CrashSafe first number past new → StandsSafe first number past new
stayed-unbegun first number past old new safe stays = record { legal = safe.legal; next_mount = safe.next_mount; crash_safe = stays }

-- whether a disk tells what it holds or not
pub told-or-not : {P : Type 0} (known : Bool) → (IsTrue known → P) → ((IsTrue known → ⊥) → P) → P
told-or-not true told untold = told refl
told-or-not false told untold = untold (λ is. absurd cc)

-- a mount that did not come up, by whether it has a record
pub by-begun : (first : Table) (number : ℕ) (past : List MountStory) (new : List Cell) (behind : Option ℕ) (begun told : Option MountRecord) → told ≡ option_map (with_kept behind) begun
    → (begun ≡ None → StandsSafe first number past new) → ((story : MountRecord) → begun ≡ Some story → StandsDown first number past (Some (with_kept behind story)) new)
    → StandsDown first number past told new
by-begun first number past new behind None told same none some = subst (λ (o : Option MountRecord). StandsDown first number past o new) (sym same) (none refl)
by-begun first number past new behind (Some story) told same none some = subst (λ (o : Option MountRecord). StandsDown first number past o new) (sym same) (some story refl)

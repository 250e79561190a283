-- A mount that has come up is running.
use Rattle.std.proofs.Common.{◌≡◌, ◌≤◌, ℕ, Bool, List, [], ◌∷◌, Some, option_map, suc, length, filter, drop, refl, ap, sym, subst, ◌∙◌, arith}
use Rattle.std.specs.List.{range_with_len}
use Rattle.std.proofs.lemmas.List.{length-map}
use Rattle.std.proofs.lemmas.List.Elements.{All-get_or}
use Rattle.std.proofs.lemmas.Option.{get_or_from_slice_get, slice_get-map, slice_get_within}
use Rattle.life_limits.specs.declared.TheConstants.{MAX_ACTORS}
use Rattle.disk_model.specs.Disk.{Cell}
use Rattle.geometry.specs.declared.shape.Geometry.{Geometry}
use Rattle.log_record.specs.declared.image.Commit.{Commit}
use Rattle.log_store.specs.State.{State}
use Rattle.life_table.specs.declared.key.Key.{Key}
use Rattle.life_table.specs.declared.types.Row.{Row}
use Rattle.life_table.specs.declared.types.Entry.{Entry}
use Rattle.life_table.specs.declared.types.MountRecord.{MountRecord}
use Rattle.life_table.specs.declared.table.Table.{Table}
use Rattle.life_table.specs.Table.{row_of}
use Rattle.life_table.specs.WellFormed.{IsTable}
use Rattle.life_table.specs.History.{After, Leads, LegalHistory, changes, closed, frees_of, recovered}
use Rattle.sound_image.specs.Encoding.{Layouts}
use Rattle.group_core.specs.Value.{GroupValue}
use Rattle.group_ops.specs.Values.{StateValue}
use Rattle.mount.specs.Ending.{IsStoreOf}
use Rattle.run_history.specs.Mounts.{most_covered}
use Rattle.mounted_calls.specs.Commits.{AreOfChanges}
use Rattle.mounted_calls.specs.Fresh.{IsFreshMount, IsFreshRecord}
use Rattle.mounted_calls.specs.Running.{AreRunning, IsRecordOf, NoneAwaits, entries_in, is_in_group}
use Rattle.mounted_calls.proofs.Histories.{frees_cover_none}

-- the laws of recovery and of closed tables that are used
pub record Recovering : Type 0 where
  pub linked : (t : Table) (key : Key) (row : Row) → row_of (recovered t) key ≡ Some row → 1 ≤ row.links
  pub all : (t u : Table) (entries : List Entry) → Leads t entries u → After t entries (length (changes entries)) ≡ closed u

free_changes : (actor : ℕ) (keys : List Key) → length (changes (frees_of actor keys)) ≡ length keys
free_changes actor [] = refl
free_changes actor (key ∷ keys) = ap suc (free_changes actor keys)

frees_length : (actor : ℕ) (keys : List Key) → length (frees_of actor keys) ≡ length keys
frees_length actor [] = refl
frees_length actor (key ∷ keys) = ap suc (frees_length actor keys)

drop_frees : (actor : ℕ) (keys : List Key) → drop (length keys) (frees_of actor keys) ≡ []
drop_frees actor [] = refl
drop_frees actor (key ∷ keys) = drop_frees actor keys

empty_of : (g : Geometry) (start : Table) (entries : List Entry) (n : ℕ) (layouts : Layouts) → AreOfChanges g start entries n layouts [] layouts
unfolding AreOfChanges
empty_of g start entries n layouts = refl

none_of : (g : Geometry) (start : Table) (entries : List Entry) (n : ℕ) (layouts : Layouts) (commits : List Commit) → commits ≡ [] → AreOfChanges g start entries n layouts commits layouts
none_of g start entries n layouts commits none = subst (λ (l : List Commit). AreOfChanges g start entries n layouts l layouts) (sym none) (empty_of g start entries n layouts)

no_entries : (k : ℕ) (keys : List Key) (story : MountRecord) → IsFreshRecord keys story → entries_in k story ≡ []
no_entries k keys story is =
    let own : Entry → Bool = λ (entry : Entry). is_in_group k entry.event in
    ap (λ (n : ℕ). filter own (drop n story.entries)) is.freed ∙ ap (λ (es : List Entry). filter own (drop (length keys) es)) is.entries ∙ ap (filter own) (drop_frees MAX_ACTORS keys)

nothing_awaits : Recovering → (start : Table) → NoneAwaits (recovered start)
nothing_awaits laws start key row at (links, opens) = let linked = laws.linked start key row at in omega (arith, linked, links)

told_of : Recovering → (start : Table) (keys : List Key) (story : MountRecord) → IsTable start → LegalHistory start (frees_of MAX_ACTORS keys) (recovered start) → IsFreshRecord keys story
    → IsRecordOf start (recovered start) story
told_of laws start keys story table legal is =
    let same : length story.entries ≡ length keys = ap (λ (es : List Entry). length es) is.entries ∙ frees_length MAX_ACTORS keys in
    let none : most_covered story.entries ≡ 0 = ap most_covered is.entries ∙ frees_cover_none MAX_ACTORS keys in
    record {
      table = table;
      legal = subst (λ (es : List Entry). LegalHistory start es (recovered start)) (sym is.entries) legal;
      awaits = nothing_awaits laws start;
      places = is.froms ∙ ap (range_with_len 0) (sym same);
      begun = omega (arith, is.freed, same);
      acknowledged = omega (arith, is.freed, is.acknowledged, none);
    }

pub fresh_runs : Recovering → (known : Bool) (g : Geometry) (start : Table) (layouts : Layouts) (keys : List Key) (story : MountRecord) (groups : List (GroupValue StateValue)) (s : State) (cells : List Cell)
    → IsFreshMount known g start layouts keys story groups s cells → AreRunning known g start (recovered start) layouts story groups s cells
fresh_runs laws known g start layouts keys story groups s cells is =
    let t : Table = recovered start in
    let n : ℕ = length keys in
    let state_of_one : GroupValue StateValue → StateValue = λ group. group.state in
    let made : length (changes story.entries) ≡ n = ap (λ (es : List Entry). length (changes es)) is.told.entries ∙ free_changes MAX_ACTORS keys in
    let there : After start story.entries n ≡ t =
    ap (λ (es : List Entry). After start es n) is.told.entries
    ∙ ap (λ (m : ℕ). After start (frees_of MAX_ACTORS keys) m) (sym (free_changes MAX_ACTORS keys)) ∙ laws.all start t (frees_of MAX_ACTORS keys) is.legal.leads ∙ is.unheld in
    record {
      told = told_of laws start keys story is.table is.legal is.told;
      groups_of = record {
        shape = is.states.shape;
        count = sym (length-map groups state_of_one) ∙ is.states.count;
        each = λ k group at. is.states.each k group.state (slice_get-map state_of_one groups k ∙ ap (option_map state_of_one) at);
        histories = λ k group at.
            let here = All-get_or (λ (one : GroupValue StateValue). one.history ≡ []) groups k group (slice_get_within groups k group at) is.histories in
            ap (λ (one : GroupValue StateValue). one.history) (sym (get_or_from_slice_get groups k group group at)) ∙ here ∙ sym (no_entries k keys story is.told);
      };
      log = record {
        anchor = is.anchor;
        ring = is.ring;
        durable = n;
        acknowledged = omega (arith, is.told.acknowledged);
        number = is.durable;
        made = omega (arith, made, ap (λ (l : List Commit). length l) is.list);
        lists = layouts;
        commits = none_of g start story.entries n layouts s.list is.list;
        base = λ tells. subst (λ (u : Table). IsStoreOf g u layouts s cells) (sym there) (is.base tells);
      };
    }

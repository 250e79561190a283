-- All rows without links of a table freed, as a mount has it.
use Rattle.std.proofs.Common.{◌≡◌, ◌≤◌, ℕ, List, [], length, take, sym, ap, subst, ◌∙◌, arith}
use Rattle.std.specs.Prelude.{All}
use Rattle.std.proofs.lemmas.List.{take_all}
use Rattle.life_limits.specs.declared.TheConstants.{MAX_ACTORS, MAX_NUMBERS}
use Rattle.life_bytes.specs.declared.sector.Sector.{Sector}
use Rattle.geometry.specs.declared.shape.Geometry.{Geometry}
use Rattle.life_table.specs.declared.key.Key.{Key}
use Rattle.life_table.specs.declared.types.Entry.{Entry}
use Rattle.life_table.specs.declared.table.Table.{Table}
use Rattle.life_table.specs.History.{After, closed, frees_of, recovered}
use Rattle.log_record.specs.declared.image.Commit.{Commit}
use Rattle.sound_image.specs.Encoding.{CanEncode, Layouts}
use Rattle.commit_history.specs.Carried.{CommitsCarry}
use Rattle.group_core.specs.Value.{GroupValue}
use Rattle.group_ops.specs.Values.{StateValue}
use Rattle.orphan_frees.specs.Frees.{FreesAll, freed_first, unlisted_first}
use Rattle.orphan_frees.specs.Loaded.{AreGroupsOf}
use Rattle.orphan_frees.specs.Order.{freed_all, keys_to_free, unlisted_all}
use Rattle.mount.specs.Coming.{AreFreed}
use Rattle.mount.specs.Mounts.{IsStoryOf, states_of}
use Rattle.mount.specs.declared.freeing.Freed.{Freed}

-- the laws of the frees of a recovery that are used
pub record FreeLaws : Type 0 where
  pub encodes : (g : Geometry) (t : Table) (layouts : Layouts) (sectors : List Sector) (count : ℕ) → CanEncode g t layouts sectors → closed t ≡ t
      → CanEncode g (freed_all t (take count (keys_to_free t layouts))) (unlisted_all layouts (take count (keys_to_free t layouts))) sectors
  pub unheld : (t : Table) (keys : List Key) → closed t ≡ t → closed (freed_all t keys) ≡ freed_all t keys
  pub after : (t : Table) (actor count : ℕ) (keys : List Key) → closed t ≡ t → After t (frees_of actor keys) count ≡ freed_all t (take count keys)
  pub all : (g : Geometry) (t : Table) (layouts : Layouts) (sectors : List Sector) → CanEncode g t layouts sectors → closed t ≡ t → freed_all t (keys_to_free t layouts) ≡ recovered t
  pub few : (g : Geometry) (t : Table) (layouts : Layouts) (sectors : List Sector) → CanEncode g t layouts sectors → closed t ≡ t → length (keys_to_free t layouts) ≤ MAX_NUMBERS

all_keys : (keys : List Key) → take (length keys) keys ≡ keys
all_keys keys = take_all (length keys) keys (omega arith)

-- what is recorded of it
pub entries_are : (g : Geometry) (t : Table) (layouts : Layouts) (list : List Commit) (entries : List Entry) (states : List StateValue) → FreesAll g t layouts [] list [] entries states
    → entries ≡ frees_of MAX_ACTORS (keys_to_free t layouts)
entries_are g t layouts list entries states all = all.entries ∙ ap (λ (keys : List Key). frees_of MAX_ACTORS keys) (all_keys (keys_to_free t layouts))

pub are_freed : FreeLaws → (g : Geometry) (t : Table) (layouts : Layouts) (sectors : List Sector) (base : ℕ) (list : List Commit) (entries : List Entry) (states : List StateValue) (freed : Freed)
    → CanEncode g t layouts sectors → closed t ≡ t → FreesAll g t layouts [] list [] entries states → IsStoryOf base (keys_to_free t layouts) 0 freed.story
    → states_of freed.groups.items ≡ states → All (λ (group : GroupValue StateValue). group.history ≡ []) freed.groups.items → AreFreed g t layouts base list freed
are_freed laws g t layouts sectors base list entries states freed can unheld all story same fresh =
    let keys : List Key = keys_to_free t layouts in
    let whole = all_keys keys in
    let table : freed_first t layouts (length keys) ≡ recovered t = ap (freed_all t) whole ∙ laws.all g t layouts sectors can unheld in
    let layout : unlisted_first t layouts (length keys) ≡ unlisted_all layouts keys = ap (unlisted_all layouts) whole in
    let commits : all.commits ≡ list = sym all.list in
    let one_each : length list ≡ length keys = ap length all.list ∙ all.one_each in
    record {
      story = story;
      one_each = one_each;
      few = laws.few g t layouts sectors can unheld;
      each = λ n le. subst (λ (l : List Commit). CommitsCarry g t layouts (take n l) (freed_first t layouts n) (unlisted_first t layouts n)) commits (all.each n (omega (arith, le, one_each)));
      after = λ n. laws.unheld t (take n keys) unheld ∙ sym (laws.after t MAX_ACTORS n keys unheld);
      carry = subst (λ (u : Table). CommitsCarry g t layouts list u (unlisted_all layouts keys)) table
          (subst (λ (l : Layouts). CommitsCarry g t layouts list (freed_first t layouts (length keys)) l) layout
          (subst (λ (l : List Commit). CommitsCarry g t layouts l (freed_first t layouts (length keys)) (unlisted_first t layouts (length keys))) commits all.carry));
      unheld = subst (λ (u : Table). closed u ≡ u) (laws.all g t layouts sectors can unheld) (laws.unheld t keys unheld);
      can = λ others here. subst (λ (u : Table). CanEncode g u (unlisted_all layouts keys) others) (laws.all g t layouts sectors can unheld)
          (subst (λ (l : List Key). CanEncode g (freed_all t l) (unlisted_all layouts l) others) whole (laws.encodes g t layouts others (length keys) here unheld));
      groups = subst (λ (s : List StateValue). AreGroupsOf g (recovered t) (unlisted_all layouts keys) s) (sym same)
          (subst (λ (u : Table). AreGroupsOf g u (unlisted_all layouts keys) states) table
          (subst (λ (l : Layouts). AreGroupsOf g (freed_first t layouts (length keys)) l states) layout all.groups));
      fresh = fresh;
    }

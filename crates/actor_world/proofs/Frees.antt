-- What a shortage, a gc and an unmount free.
use Rattle.std.proofs.Common.{◌≡◌, ◌<◌, ◌≤◌, ◌+◌, ◌*◌, ◌++◌, inl, inr, ℕ, Bool, zero, suc, true, false, List, [], ◌∷◌, Option, None, Some, IsSome, IsSomeAnd, length, slice_get, refl, sym, ap, subst, ◌∙◌, arith}
use Rattle.std.specs.Prelude.{◌↔◌}
use Rattle.std.specs.List.{AllByRecursion, Contains, flat_map, range_with_len}
use Rattle.std.proofs.lemmas.List.Elements.{Contains-append_left, Contains-append_right}
use Rattle.std.proofs.lemmas.Option.{none-some, same_Some}
use Rattle.std.proofs.lemmas.Bool.{cases_eq, cases_lt, false≢true}
use Rattle.life_limits.specs.declared.TheConstants.{GROUP_NUMBERS}
use Rattle.life_table.specs.declared.key.Key.{Key}
use Rattle.life_table.specs.declared.types.Row.{Row}
use Rattle.life_table.specs.declared.types.Event.{Event}
use Rattle.life_table.specs.declared.types.Event.TheVariants.{Freed}
use Rattle.life_table.specs.declared.types.Entry.{Entry}
use Rattle.life_table.specs.declared.table.Table.{Table}
use Rattle.life_table.specs.Table.{group_number, in_use, inode_of, row_of}
use Rattle.life_table.specs.Legal.{Awaits, freed}
use Rattle.life_table.specs.History.{AreByHolders, Happens, Leads, LegalHistory, after_entries, after_event, frees_of}
use Rattle.life_table.specs.WellFormed.{IsTable}
use Rattle.actor_world.specs.declared.memory.Memory.{Memory}
use Rattle.actor_world.specs.Caches.{actor_at}
use Rattle.actor_world.specs.Moves.{awaiting_of, awaiting_rows}
use Rattle.actor_world.specs.World.{History}
use Rattle.actor_world.specs.Licence.{queue_at}
use Rattle.actor_world.specs.Invariant.{KeysAscend, MayBeFreed, QueueIsRight, is_gc}
use Rattle.actor_world.specs.Words.{any_row}
use Rattle.actor_world.specs.Settled.{IsPast, IsSettled}
use Rattle.actor_world.proofs.Frames.{inode_is}
use Rattle.actor_world.proofs.Geometry.{is_placed}
use Rattle.actor_world.proofs.Lists.{contains_tail, all_append, all_contains, all_weaker, the_some}
use Rattle.actor_world.proofs.LiveWords.{any_row_is, has_inode}
use Rattle.actor_world.proofs.Looks.{inode_same, row_other}
use Rattle.actor_world.proofs.Own.{awaiting_ascend, awaiting_free, awaiting_has, settled_free}
use Rattle.actor_world.proofs.Picks.{ascend_append, table_laid}
use Rattle.actor_world.proofs.Prepares.{LowestIsFree}
use Rattle.actor_world.proofs.Settles.{one_on, past_gone, past_one, queue_is_settled}
use Rattle.actor_world.proofs.TurnsFound.{Laws}
use Rattle.actor_world.proofs.WordSteps.{freed_bare}
use Rattle.actor_world.proofs.Within.{Within}

-- ---- a shortage

-- the rows of a group that await
module _ (t : Table) (g : ℕ) (ok : IsTable t) where
  pub waiting_is : (key : Key) → Contains (awaiting_of t g) key ↔ (group_number key ≡ g) × IsSomeAnd (row_of t key) Awaits
  waiting_is key = (
    (λ there.
        let may = all_contains (MayBeFreed t (Some g)) (awaiting_of t g) key (awaiting_free t g (table_laid t g ok)) there in
        (same_Some (group_number key) g may.1, may.0)),
    (λ both. awaiting_has t g key both.0 both.1),
  )

  pub waiting_ascends : KeysAscend (awaiting_of t g)
  waiting_ascends = awaiting_ascend t g (table_laid t g ok)

-- ---- each row once

freed_past : (t : Table) (key : Key) → IsSomeAnd (row_of t key) Awaits → IsPast (freed t key) key
freed_past t key awaits =
    let row = the_some Awaits (row_of t key) awaits in
    record {
      inode = record { generation = key.generation + 1; row = None };
      at = inode_same t key.number (in_use key row.0) (record { generation = key.generation + 1; row = None }) (inode_is t key row.0 row.1);
      later = omega arith;
    }

awaits_at : (t u : Table) (event : Event) (key : Key) → event ≡ Freed key → Happens t event u → IsSomeAnd (row_of t key) Awaits
awaits_at t u event key is happens = (subst (λ e. Happens t e u) is happens).0

module _ (laws : Laws) (lowest : LowestIsFree) (start : Table) (ok : IsTable start) (key : Key) where
  never_again : (before rest : List Entry) (t u : Table) → LegalHistory start before t → Leads t rest u → AreByHolders before rest → IsPast t key
      → (k a : ℕ) → slice_get rest k ≡ Some (record { actor = a; event = Freed key }) → ⊥
  never_again before [] t u legal leads all past k a at = none-some _ at
  never_again before (entry ∷ rest) t u legal leads all past zero a at =
      let one = one_on laws lowest start ok before entry rest t u legal leads all in
      let row = the_some Awaits (row_of t key) (awaits_at t (after_event t entry.event) entry.event key (ap (λ (e : Entry). e.event) (same_Some entry _ at)) one.happens) in
      none-some row.0 (sym (past_gone t key past) ∙ row.1)
  never_again before (entry ∷ rest) t u legal leads all past (suc k) a at =
      let one = one_on laws lowest start ok before entry rest t u legal leads all in
      never_again (before ++ entry ∷ []) rest (after_event t entry.event) u one.legal one.leads all.1 (past_one laws lowest t entry.event one.ok_is one.happens one.by key past) k a at

  once_on : (before rest : List Entry) (t u : Table) → LegalHistory start before t → Leads t rest u → AreByHolders before rest
      → (i j a b : ℕ) → i < j → slice_get rest i ≡ Some (record { actor = a; event = Freed key }) → slice_get rest j ≡ Some (record { actor = b; event = Freed key }) → ⊥
  once_on before [] t u legal leads all i j a b low first second = none-some _ first
  once_on before (entry ∷ rest) t u legal leads all i zero a b low first second = omega (arith, low)
  once_on before (entry ∷ rest) t u legal leads all zero (suc j) a b low first second =
      let one = one_on laws lowest start ok before entry rest t u legal leads all in
      let is : entry.event ≡ Freed key = ap (λ (e : Entry). e.event) (same_Some entry _ first) in
      let past : IsPast (after_event t entry.event) key = subst (λ e. IsPast (after_event t e) key) (sym is) (freed_past t key (awaits_at t (after_event t entry.event) entry.event key is one.happens)) in
      never_again (before ++ entry ∷ []) rest (after_event t entry.event) u one.legal one.leads all.1 past j b second
  once_on before (entry ∷ rest) t u legal leads all (suc i) (suc j) a b low first second =
      let one = one_on laws lowest start ok before entry rest t u legal leads all in
      once_on (before ++ entry ∷ []) rest (after_event t entry.event) u one.legal one.leads all.1 i j a b (omega (arith, low)) first second

  pub freed_once : (entries : List Entry) (t : Table) → LegalHistory start entries t → (i j a b : ℕ)
      → slice_get entries i ≡ Some (record { actor = a; event = Freed key }) → slice_get entries j ≡ Some (record { actor = b; event = Freed key }) → i ≡ j
  freed_once entries t legal i j a b first second =
      elim (cases_lt i j) [
        | inl low ↦ absurd (once_on [] entries start t (record { leads = refl; held = tt }) legal.leads legal.held i j a b low first second)
        | inr high ↦ elim (cases_eq i j) [
          | inl same ↦ same
          | inr differ ↦ absurd (once_on [] entries start t (record { leads = refl; held = tt }) legal.leads legal.held j i b a (omega (arith, high, differ)) second first)
        ]
      ]

-- ---- a gc

queue_in : (b : Bool) (t : Table) (q whole : List Key) (key : Key) → QueueIsRight b t q whole → Contains q key → Contains whole key
queue_in true t q whole key part there = subst (λ ks. Contains ks key) (sym part.parts) (Contains-append_right part.passed q key there)
queue_in false t q whole key same there = subst (λ ks. Contains ks key) same there

-- a row of a key that waits for a gc awaits
pub gc_awaits : Laws → LowestIsFree → (start : Table) (h : History) (m : Memory) → Within start h m → (a : ℕ) (key : Key) → Contains (actor_at m a).queue key → IsSome (row_of h.table key) → IsSomeAnd (row_of h.table key) Awaits
gc_awaits laws lowest start h m inv a key there has =
    let whole = queue_in (is_gc (actor_at m a).doing) h.table (actor_at m a).queue (queue_at start h.entries (length h.entries) a) key (inv.actors a).queue there in
    let settled = all_contains (IsSettled h.table) (queue_at start h.entries (length h.entries) a) key (queue_is_settled laws lowest start inv.table h.entries h.table a inv.legal) whole in
    by_row (row_of h.table key) refl has settled
  where
    by_row : (o : Option Row) → row_of h.table key ≡ o → IsSome o → IsSettled h.table key → IsSomeAnd (row_of h.table key) Awaits
    by_row None is has settled = absurd (false≢true has)
    by_row (Some row) is has settled = settled_free h.table key row is settled

-- ---- an unmount

-- the keys of one group after the other
groups_all : (t : Table) (P : Key → Type 0) (from n : ℕ) → ((g : ℕ) → from ≤ g → AllByRecursion P (awaiting_of t g)) → AllByRecursion P (flat_map (awaiting_of t) (range_with_len from n))
groups_all t P from zero f = tt
groups_all t P from (suc n) f = all_append P (awaiting_of t from) _ (f from (omega arith)) (groups_all t P (from + 1) n (λ g low. f g (omega (arith, low))))

groups_ascend : (t : Table) (ok : IsTable t) (from n : ℕ) → KeysAscend (flat_map (awaiting_of t) (range_with_len from n))
groups_ascend t ok from zero = tt
groups_ascend t ok from (suc n) =
    ascend_append (awaiting_of t from) _ ((from + 1) * GROUP_NUMBERS) (waiting_ascends t from ok) (groups_ascend t ok (from + 1) n)
    (all_weaker (MayBeFreed t (Some from)) (λ (key : Key). key.number < (from + 1) * GROUP_NUMBERS) (awaiting_of t from)
    (λ key may. let group = same_Some (group_number key) from may.1 in omega (arith, group)) (awaiting_free t from (table_laid t from ok)))
    (groups_all t (λ (key : Key). (from + 1) * GROUP_NUMBERS ≤ key.number) (from + 1) n (λ g low.
    all_weaker (MayBeFreed t (Some g)) (λ (key : Key). (from + 1) * GROUP_NUMBERS ≤ key.number) (awaiting_of t g)
    (λ key may. let group = same_Some (group_number key) g may.1 in omega (arith, group, low)) (awaiting_free t g (table_laid t g ok))))

groups_have : (t : Table) (key : Key) (g from n : ℕ) → from ≤ g → g < from + n → Contains (awaiting_of t g) key → Contains (flat_map (awaiting_of t) (range_with_len from n)) key
groups_have t key g from zero low high there = absurd (omega (arith, low, high))
groups_have t key g from (suc n) low high there =
    elim (cases_eq g from) [
      | inl same ↦ Contains-append_left (awaiting_of t from) _ key (subst (λ h. Contains (awaiting_of t h) key) same there)
      | inr differ ↦ Contains-append_right (awaiting_of t from) _ key (groups_have t key g (from + 1) n (omega (arith, low, differ)) (omega (arith, high)) there)
    ]

-- rows that await, of different numbers, can be freed one after the other
free_rest : (t : Table) (key : Key) (keys : List Key) → AllByRecursion (λ (later : Key). key.number < later.number) keys → AllByRecursion (λ (k : Key). IsSomeAnd (row_of t k) Awaits) keys
    → AllByRecursion (λ (k : Key). IsSomeAnd (row_of (freed t key) k) Awaits) keys
free_rest t key [] above all = tt
free_rest t key (next ∷ keys) above all = (
  subst (λ (o : Option Row). IsSomeAnd o Awaits) (sym (row_other t next key.number _ (λ e. let low = above.0 in omega (arith, low, e)))) all.0,
  free_rest t key keys above.1 all.1,
)

frees_lead : (actor : ℕ) (keys : List Key) (t : Table) → KeysAscend keys → AllByRecursion (λ (k : Key). IsSomeAnd (row_of t k) Awaits) keys → Leads t (frees_of actor keys) (after_entries t (frees_of actor keys))
frees_lead actor [] t ascend all = refl
frees_lead actor (key ∷ keys) t ascend all = (freed t key, (all.0, refl), frees_lead actor keys (freed t key) ascend.1 (free_rest t key keys ascend.0 all.1))

-- a row that is left was there, and its number is none of those
frees_leave : (actor : ℕ) (keys : List Key) (t : Table) (k : Key) (row : Row) → KeysAscend keys → AllByRecursion (λ (k : Key). IsSomeAnd (row_of t k) Awaits) keys → row_of (after_entries t (frees_of actor keys)) k ≡ Some row
    → (row_of t k ≡ Some row) × (Contains keys k → ⊥)
frees_leave actor [] t k row ascend all is = (is, λ there. let low = there.1 in omega (arith, low))
frees_leave actor (key ∷ keys) t k row ascend all is =
    let rest = frees_leave actor keys (freed t key) k row ascend.1 (free_rest t key keys ascend.0 all.1) is in
    elim (cases_eq k.number key.number) [
      | inl same ↦ absurd (bare_not t key k row all.0 same rest.0)
      | inr apart ↦ (sym (row_other t k key.number _ (λ e. apart (sym e))) ∙ rest.0, λ there. rest.1 (contains_tail key keys k (λ e. apart (ap (λ (x : Key). x.number) e)) there))
    ]
  where
    bare_not : (t : Table) (key k : Key) (row : Row) → IsSomeAnd (row_of t key) Awaits → k.number ≡ key.number → row_of (freed t key) k ≡ Some row → ⊥
    bare_not t key k row awaits same is =
        let old = the_some Awaits (row_of t key) awaits in
        none-some row (sym (freed_bare t key old.0 old.1) ∙ ap (λ n. any_row (inode_of (freed t key) n)) (sym same) ∙ any_row_is (freed t key) k row is)

module _ (t : Table) (ok : IsTable t) (actor : ℕ) where
  all_await : AllByRecursion (λ (k : Key). IsSomeAnd (row_of t k) Awaits) (awaiting_rows t)
  unfolding awaiting_rows
  all_await =
      groups_all t (λ (k : Key). IsSomeAnd (row_of t k) Awaits) 0 (length t.groups) (λ g low.
      all_weaker (MayBeFreed t (Some g)) (λ (k : Key). IsSomeAnd (row_of t k) Awaits) (awaiting_of t g) (λ key may. may.0) (awaiting_free t g (table_laid t g ok)))

  all_ascend : KeysAscend (awaiting_rows t)
  unfolding awaiting_rows
  all_ascend = groups_ascend t ok 0 (length t.groups)

  pub unmount_leads : Leads t (frees_of actor (awaiting_rows t)) (after_entries t (frees_of actor (awaiting_rows t)))
  unmount_leads = frees_lead actor (awaiting_rows t) t all_ascend all_await

  has_all : (key : Key) → IsSomeAnd (row_of t key) Awaits → Contains (awaiting_rows t) key
  unfolding awaiting_rows
  has_all key awaits =
      let row = the_some Awaits (row_of t key) awaits in
      let has = has_inode (inode_of t key.number) key.generation row.0 row.1 in
      let placed = is_placed t key.number has.inode ok has.at in
      groups_have t key (group_number key) 0 (length t.groups) (omega arith) (let low = placed.group in omega (arith, low)) (awaiting_has t (group_number key) key refl awaits)

  pub unmount_leaves : (key : Key) (row : Row) → row_of (after_entries t (frees_of actor (awaiting_rows t))) key ≡ Some row → (row_of t key ≡ Some row) × (Awaits row → ⊥)
  unmount_leaves key row is =
      let left = frees_leave actor (awaiting_rows t) t key row all_ascend all_await is in
      (left.0, λ awaits. left.1 (has_all key (subst (λ (o : Option Row). IsSomeAnd o Awaits) (sym left.0) awaits)))

-- What a call asks of its group, and what it leaves of it.
use Rattle.std.proofs.Common.{◌≡◌, ◌≢◌, ◌+◌, ◌/◌, ◌%◌, ◌<◌, ◌≤◌, ℕ, List, ◌++◌, Option, None, Some, IsSomeAnd, length, take, refl, sym, ap, subst, ◌∙◌, nat_lt, if◌then◌else◌}
use Rattle.std.specs.Bool.{⊤}
use Rattle.std.proofs.lemmas.Option.{none-some, same_Some}
use Rattle.life_limits.specs.declared.TheConstants.{GROUP_NUMBERS, MAX_EXTENTS}
use Rattle.extent_fork.specs.Runs.{runs}
use Rattle.life_table.specs.declared.key.Key.{Key}
use Rattle.life_table.specs.declared.types.Row.{Row}
use Rattle.life_table.specs.declared.types.Call.{Call}
use Rattle.life_table.specs.declared.types.Call.TheVariants as call
use Rattle.life_table.specs.declared.types.Reply.{Reply}
use Rattle.life_table.specs.declared.types.Reply.TheVariants as reply
use Rattle.life_table.specs.declared.table.Inode.{Inode}
use Rattle.life_table.specs.declared.table.Table.{Table}
use Rattle.life_table.specs.Table.{Group, group_at, group_number, in_use, row_of, set_inode, with_group, with_inode, with_row}
use Rattle.life_table.specs.Space.{chunk_place, free_blocks, lowest_key, prepared}
use Rattle.life_table.specs.Legal.{Awaits, Frees, HasNoNumber, IsNextKey, KeyReplies, Permits, RowReplies, after_call, free_of, freed, made_row, prepare, row_after, with_changed}
use Rattle.life_table.specs.Replies.{create_reply, key_reply, reply_of}
use Rattle.life_table.specs.WellFormed.{IsTable}
use Rattle.group_core.specs.GroupHistory.{call_group}
use Rattle.group_frame.specs.Frames.{AgreesAt}
use Rattle.group_frame.proofs.Agree.{agrees_replaced, group_replaced, inode_replaced, itself, others_stay, replaced_twice, row_agrees}

-- a fact at one group is one at a group that is the same
at_same : (g h : ℕ) (t u : Table) → Some h ≡ Some g → AgreesAt g t u → AgreesAt h t u
at_same g h t u same agrees = subst (λ k. AgreesAt k t u) (sym (same_Some h g same)) agrees

-- what a create asks
next_agrees : (h : ℕ) (t u : Table) → AgreesAt h t u → lowest_key h (prepared u.blocks h (group_at u h)) ≡ lowest_key h (prepared t.blocks h (group_at t h))
next_agrees h t u agrees = λ i. lowest_key h (prepared (agrees.blocks i) h (agrees.group i))

none_agrees : (h : ℕ) (t u : Table) → AgreesAt h t u → HasNoNumber t h → HasNoNumber u h
none_agrees h t u agrees none =
    (ap (lowest_key h) agrees.group ∙ none.0, (λ i. chunk_place (agrees.blocks i) (agrees.group i)) ∙ none.1)

create_permits : (h : ℕ) (t u : Table) (key : Key) → AgreesAt h t u → IsNextKey t h key → IsNextKey u h key
create_permits h t u key agrees next = (subst (λ n. h < n) (sym agrees.groups) next.0, next_agrees h t u agrees ∙ next.1)

refused_permits : (h : ℕ) (t u : Table) → AgreesAt h t u → (h < length t.groups) × HasNoNumber t h → (h < length u.groups) × HasNoNumber u h
refused_permits h t u agrees refused = (subst (λ n. h < n) (sym agrees.groups) refused.0, none_agrees h t u agrees refused.1)

-- what a call on a row asks: but for a grow nothing more than the row
abbrev IsNoGrow : Call → Type 0
IsNoGrow (call.Grow key count) = ⊥
IsNoGrow _ = ⊤

row_permits : (t u : Table) (row : Row) (called : Call) (answer : Reply) → IsNoGrow called → RowReplies t row called answer → RowReplies u row called answer
row_permits t u row (call.Grow key count) answer simple permits = absurd simple
row_permits t u row called answer simple permits = permits

key_permits : (t u : Table) (o : Option Row) (called : Call) (answer : Reply) → IsNoGrow called → KeyReplies t o called answer → KeyReplies u o called answer
key_permits t u None (call.OpenKey key) reply.Stale simple permits = tt
key_permits t u None called answer simple permits = absurd permits
key_permits t u (Some row) called answer simple permits = row_permits t u row called answer simple permits

free_agrees : (t u : Table) (key : Key) → AgreesAt (group_number key) t u → free_of u key ≡ free_of t key
free_agrees t u key agrees = λ i. free_blocks (agrees.blocks i) (agrees.group i)

-- a grow asks the free blocks too
abbrev GrowReplies : List ℕ → ℕ → Row → Reply → Type 0
GrowReplies free count row reply.NoSpace = length free < count
GrowReplies free count row reply.TooManyExtents = (length free < count → ⊥) × (MAX_EXTENTS < length (runs (row.blocks ++ take count free)))
GrowReplies free count row reply.Done = (length free < count → ⊥) × (length (runs (row.blocks ++ take count free)) ≤ MAX_EXTENTS)
GrowReplies free count row _ = ⊥

grow_to : (t : Table) (row : Row) (key : Key) (count : ℕ) (answer : Reply) → RowReplies t row (call.Grow key count) answer → GrowReplies (free_of t key) count row answer
grow_to t row key count answer permits = permits

grow_from : (t : Table) (row : Row) (key : Key) (count : ℕ) (answer : Reply) → GrowReplies (free_of t key) count row answer → RowReplies t row (call.Grow key count) answer
grow_from t row key count answer permits = permits

grow_permits : (t u : Table) (o : Option Row) (key : Key) (count : ℕ) (answer : Reply) → AgreesAt (group_number key) t u
    → KeyReplies t o (call.Grow key count) answer → KeyReplies u o (call.Grow key count) answer
grow_permits t u None key count answer agrees permits = absurd permits
grow_permits t u (Some row) key count answer agrees permits =
    grow_from u row key count answer
    (subst (λ free. GrowReplies free count row answer) (sym (free_agrees t u key agrees)) (grow_to t row key count answer permits))

on_key : (t u : Table) (key : Key) (called : Call) (answer : Reply) → AgreesAt (group_number key) t u → IsNoGrow called
    → KeyReplies t (row_of t key) called answer → KeyReplies u (row_of u key) called answer
on_key t u key called answer agrees simple permits =
    subst (λ o. KeyReplies u o called answer) (sym (row_agrees (group_number key) t u key agrees refl)) (key_permits t u (row_of t key) called answer simple permits)

pub permits_agree : (g : ℕ) (t u : Table) (called : Call) (answer : Reply) → call_group called ≡ Some g → AgreesAt g t u → Permits t called answer → Permits u called answer
permits_agree g t u (call.Create h) (reply.Made key) is agrees permits = create_permits h t u key (at_same g h t u is agrees) permits
permits_agree g t u (call.Create h) reply.NoInodes is agrees permits = refused_permits h t u (at_same g h t u is agrees) permits
permits_agree g t u (call.Create h) answer is agrees permits = absurd permits
permits_agree g t u (call.Tmpfile h) (reply.Made key) is agrees permits = create_permits h t u key (at_same g h t u is agrees) permits
permits_agree g t u (call.Tmpfile h) reply.NoInodes is agrees permits = refused_permits h t u (at_same g h t u is agrees) permits
permits_agree g t u (call.Tmpfile h) answer is agrees permits = absurd permits
permits_agree g t u (call.OpenKey key) answer is agrees permits = on_key t u key (call.OpenKey key) answer (at_same g (group_number key) t u is agrees) tt permits
permits_agree g t u (call.CloseKey key) answer is agrees permits = on_key t u key (call.CloseKey key) answer (at_same g (group_number key) t u is agrees) tt permits
permits_agree g t u (call.Link key) answer is agrees permits = on_key t u key (call.Link key) answer (at_same g (group_number key) t u is agrees) tt permits
permits_agree g t u (call.Unlink key) answer is agrees permits = on_key t u key (call.Unlink key) answer (at_same g (group_number key) t u is agrees) tt permits
permits_agree g t u (call.Cut key count) answer is agrees permits = on_key t u key (call.Cut key count) answer (at_same g (group_number key) t u is agrees) tt permits
permits_agree g t u (call.Stat key) answer is agrees permits = on_key t u key (call.Stat key) answer (at_same g (group_number key) t u is agrees) tt permits
permits_agree g t u (call.Grow key count) answer is agrees permits =
    let here = at_same g (group_number key) t u is agrees in
    subst (λ o. KeyReplies u o (call.Grow key count) answer) (sym (row_agrees (group_number key) t u key here refl)) (grow_permits t u (row_of t key) key count answer here permits)
permits_agree g t u (call.FlushInodes h) answer is agrees permits = permits
permits_agree g t u (call.Reclaim h) answer is agrees permits = permits
permits_agree g t u called answer is agrees permits = absurd (none-some g is)

-- the reply, computed
reply_by : (t u : Table) (o : Option Row) (called : Call) → IsNoGrow called → key_reply u o called ≡ key_reply t o called
reply_by t u None called simple = refl
reply_by t u (Some row) (call.Grow key count) simple = absurd simple
reply_by t u (Some row) called simple = refl

abbrev grow_reply : List ℕ → ℕ → Option Row → Reply
grow_reply free count None = reply.Stale
grow_reply free count (Some row) =
    if nat_lt (length free) count then reply.NoSpace
    else (if nat_lt MAX_EXTENTS (length (runs (row.blocks ++ take count free))) then reply.TooManyExtents else reply.Done)

grow_is : (t : Table) (o : Option Row) (key : Key) (count : ℕ) → key_reply t o (call.Grow key count) ≡ grow_reply (free_of t key) count o
grow_is t None key count = refl
grow_is t (Some row) key count = refl

reply_on : (t u : Table) (key : Key) (called : Call) → AgreesAt (group_number key) t u → IsNoGrow called → key_reply u (row_of u key) called ≡ key_reply t (row_of t key) called
reply_on t u key called agrees simple = ap (λ o. key_reply u o called) (row_agrees (group_number key) t u key agrees refl) ∙ reply_by t u (row_of t key) called simple

pub reply_agrees : (g : ℕ) (t u : Table) (called : Call) → call_group called ≡ Some g → AgreesAt g t u → reply_of u called ≡ reply_of t called
reply_agrees g t u (call.Create h) is agrees = ap create_reply (next_agrees h t u (at_same g h t u is agrees))
reply_agrees g t u (call.Tmpfile h) is agrees = ap create_reply (next_agrees h t u (at_same g h t u is agrees))
reply_agrees g t u (call.OpenKey key) is agrees = reply_on t u key (call.OpenKey key) (at_same g (group_number key) t u is agrees) tt
reply_agrees g t u (call.CloseKey key) is agrees = reply_on t u key (call.CloseKey key) (at_same g (group_number key) t u is agrees) tt
reply_agrees g t u (call.Link key) is agrees = reply_on t u key (call.Link key) (at_same g (group_number key) t u is agrees) tt
reply_agrees g t u (call.Unlink key) is agrees = reply_on t u key (call.Unlink key) (at_same g (group_number key) t u is agrees) tt
reply_agrees g t u (call.Cut key count) is agrees = reply_on t u key (call.Cut key count) (at_same g (group_number key) t u is agrees) tt
reply_agrees g t u (call.Stat key) is agrees = reply_on t u key (call.Stat key) (at_same g (group_number key) t u is agrees) tt
reply_agrees g t u (call.Grow key count) is agrees =
    let here = at_same g (group_number key) t u is agrees in
    grow_is u (row_of u key) key count
    ∙ (λ i. grow_reply (free_agrees t u key here i) count (row_agrees (group_number key) t u key here refl i))
    ∙ sym (grow_is t (row_of t key) key count)
reply_agrees g t u called is agrees = refl

-- both tables come to have one other group in place of theirs
pub record BothReplaced (g : ℕ) (t u t_after u_after : Table) : Type 0 where
  pub group : Group
  pub first : t_after ≡ with_group t g group
  pub second : u_after ≡ with_group u g group

neither : (g : ℕ) (t u : Table) → AgreesAt g t u → BothReplaced g t u t u
neither g t u agrees = record {
  group = group_at t g;
  first = sym (itself t g);
  second = sym (itself u g) ∙ ap (with_group u g) agrees.group;
}

inode_both : (g : ℕ) (t u : Table) (number : ℕ) (inode : Inode) → AgreesAt g t u → number / GROUP_NUMBERS ≡ g
    → BothReplaced g t u (with_inode t number inode) (with_inode u number inode)
inode_both g t u number inode agrees in_group = record {
  group = set_inode (group_at t g) (number % GROUP_NUMBERS) inode;
  first = inode_replaced g t number inode in_group;
  second = inode_replaced g u number inode in_group ∙ ap (λ group. with_group u g (set_inode group (number % GROUP_NUMBERS) inode)) agrees.group;
}

-- a create: the group is prepared first
made_first : (h : ℕ) (t : Table) (key : Key) (row : Row) → h < length t.groups → group_number key ≡ h
    → with_row (prepare t h) key row ≡ with_group t h (set_inode (prepared t.blocks h (group_at t h)) (key.number % GROUP_NUMBERS) (in_use key row))
made_first h t key row inside in_group =
    inode_replaced h (prepare t h) key.number (in_use key row) in_group
    ∙ ap (λ group. with_group (prepare t h) h (set_inode group (key.number % GROUP_NUMBERS) (in_use key row))) (group_replaced t h (prepared t.blocks h (group_at t h)) inside)
    ∙ replaced_twice t h (prepared t.blocks h (group_at t h)) (set_inode (prepared t.blocks h (group_at t h)) (key.number % GROUP_NUMBERS) (in_use key row))

made_both : (h : ℕ) (t u : Table) (key : Key) (row : Row) → AgreesAt h t u → h < length t.groups → group_number key ≡ h
    → BothReplaced h t u (with_row (prepare t h) key row) (with_row (prepare u h) key row)
made_both h t u key row agrees inside in_group = record {
  group = set_inode (prepared t.blocks h (group_at t h)) (key.number % GROUP_NUMBERS) (in_use key row);
  first = made_first h t key row inside in_group;
  second =
      made_first h u key row (subst (λ n. h < n) (sym agrees.groups) inside) in_group
      ∙ (λ i. with_group u h (set_inode (prepared (agrees.blocks i) h (agrees.group i)) (key.number % GROUP_NUMBERS) (in_use key row)));
}

-- a call on a row
row_same : (t u : Table) (row : Row) (called : Call) → IsNoGrow called → row_after u row called ≡ row_after t row called
row_same t u row (call.Grow key count) simple = absurd simple
row_same t u row called simple = refl

changed_by : (g : ℕ) (t u : Table) (key : Key) (o : Option Row) (called : Call) → AgreesAt g t u → group_number key ≡ g
    → ((row : Row) → row_after u row called ≡ row_after t row called) → BothReplaced g t u (with_changed t key o called) (with_changed u key o called)
changed_by g t u key None called agrees in_group same = neither g t u agrees
changed_by g t u key (Some row) called agrees in_group same =
    let both = inode_both g t u key.number (in_use key (row_after t row called)) agrees in_group in
    record { group = both.group; first = both.first; second = ap (with_row u key) (same row) ∙ both.second }

changed_both : (g : ℕ) (t u : Table) (key : Key) (called : Call) → AgreesAt g t u → group_number key ≡ g
    → ((row : Row) → row_after u row called ≡ row_after t row called)
    → BothReplaced g t u (with_changed t key (row_of t key) called) (with_changed u key (row_of u key) called)
changed_both g t u key called agrees in_group same =
    subst (λ o. BothReplaced g t u (with_changed t key (row_of t key) called) (with_changed u key o called)) (sym (row_agrees g t u key agrees in_group))
    (changed_by g t u key (row_of t key) called agrees in_group same)

grow_same : (g : ℕ) (t u : Table) (key : Key) (count : ℕ) → AgreesAt g t u → group_number key ≡ g
    → (row : Row) → row_after u row (call.Grow key count) ≡ row_after t row (call.Grow key count)
grow_same g t u key count agrees in_group row =
    ap (λ free. record { links = row.links; blocks = row.blocks ++ take count free; opens = row.opens })
    (free_agrees t u key (subst (λ k. AgreesAt k t u) (sym in_group) agrees))

-- the key that a create gives is in its group
abbrev GivesOwn : Table → Call → Reply → Type 0
GivesOwn t (call.Create h) (reply.Made key) = (h < length t.groups) × (group_number key ≡ h)
GivesOwn t (call.Tmpfile h) (reply.Made key) = (h < length t.groups) × (group_number key ≡ h)
GivesOwn t called answer = ⊤

pub gives_own : ((t : Table) (group : ℕ) (key : Key) → IsTable t → IsNextKey t group key → key.number / GROUP_NUMBERS ≡ group)
    → (t : Table) (called : Call) (answer : Reply) → IsTable t → Permits t called answer → GivesOwn t called answer
gives_own law t (call.Create h) (reply.Made key) is permits = (permits.0, law t h key is permits)
gives_own law t (call.Tmpfile h) (reply.Made key) is permits = (permits.0, law t h key is permits)
gives_own law t called answer is permits = tt

made_at : (g h : ℕ) (t u : Table) (key : Key) (row : Row) → Some h ≡ Some g → AgreesAt g t u → h < length t.groups → group_number key ≡ h
    → BothReplaced g t u (with_row (prepare t h) key row) (with_row (prepare u h) key row)
made_at g h t u key row is agrees inside in_group =
    subst (λ k. BothReplaced k t u (with_row (prepare t h) key row) (with_row (prepare u h) key row)) (same_Some h g is)
    (made_both h t u key row (at_same g h t u is agrees) inside in_group)

pub after_both : (g : ℕ) (t u : Table) (called : Call) (answer : Reply) → call_group called ≡ Some g → AgreesAt g t u → GivesOwn t called answer
    → BothReplaced g t u (after_call t called answer) (after_call u called answer)
after_both g t u (call.Create h) (reply.Made key) is agrees own = made_at g h t u key (made_row 1) is agrees own.0 own.1
after_both g t u (call.Tmpfile h) (reply.Made key) is agrees own = made_at g h t u key (made_row 0) is agrees own.0 own.1
after_both g t u (call.OpenKey key) reply.Done is agrees own = changed_both g t u key (call.OpenKey key) agrees (same_Some (group_number key) g is) (λ row. refl)
after_both g t u (call.CloseKey key) reply.Done is agrees own = changed_both g t u key (call.CloseKey key) agrees (same_Some (group_number key) g is) (λ row. refl)
after_both g t u (call.Link key) reply.Done is agrees own = changed_both g t u key (call.Link key) agrees (same_Some (group_number key) g is) (λ row. refl)
after_both g t u (call.Unlink key) reply.Done is agrees own = changed_both g t u key (call.Unlink key) agrees (same_Some (group_number key) g is) (λ row. refl)
after_both g t u (call.Cut key count) reply.Done is agrees own = changed_both g t u key (call.Cut key count) agrees (same_Some (group_number key) g is) (λ row. refl)
after_both g t u (call.Grow key count) reply.Done is agrees own =
    changed_both g t u key (call.Grow key count) agrees (same_Some (group_number key) g is) (grow_same g t u key count agrees (same_Some (group_number key) g is))
after_both g t u called answer is agrees own = neither g t u agrees

-- what follows of both
pub both_agree : (g : ℕ) (t u t_after u_after : Table) → g < length t.groups → AgreesAt g t u → BothReplaced g t u t_after u_after → AgreesAt g t_after u_after
both_agree g t u t_after u_after inside agrees both =
    subst (λ (v : Table). AgreesAt g v u_after) (sym both.first)
    (subst (λ (v : Table). AgreesAt g (with_group t g both.group) v) (sym both.second) (agrees_replaced g t u both.group inside agrees))

pub both_put_back : (g : ℕ) (t u t_after u_after : Table) → g < length t.groups → AgreesAt g t u → BothReplaced g t u t_after u_after
    → t_after ≡ with_group t g (group_at u_after g)
both_put_back g t u t_after u_after inside agrees both =
    both.first
    ∙ ap (with_group t g) (sym (group_replaced u g both.group (subst (λ n. g < n) (sym agrees.groups) inside)))
    ∙ ap (λ (v : Table). with_group t g (group_at v g)) (sym both.second)

pub both_others : (g other : ℕ) (t u t_after u_after : Table) → other ≢ g → BothReplaced g t u t_after u_after → group_at t_after other ≡ group_at t other
both_others g other t u t_after u_after apart both = ap (λ (v : Table). group_at v other) both.first ∙ others_stay t g other both.group apart

-- a free
pub awaits_agree : (g : ℕ) (t u v : Table) (key : Key) → group_number key ≡ g → AgreesAt g t u → Frees t key v → Frees u key (freed u key)
awaits_agree g t u v key in_group agrees frees = (subst (λ o. IsSomeAnd o Awaits) (sym (row_agrees g t u key agrees in_group)) frees.0, refl)

pub freed_both : (g : ℕ) (t u : Table) (key : Key) → group_number key ≡ g → AgreesAt g t u → BothReplaced g t u (freed t key) (freed u key)
freed_both g t u key in_group agrees = inode_both g t u key.number (record { generation = key.generation + 1; row = None }) agrees in_group

use Rattle.std.proofs.Common.{List, take}
use Rattle.life_table.specs.declared.key.Key.{Key}
use Rattle.orphan_frees.specs.Order.{keys_of_group}
use Rattle.orphan_frees.proofs.Due.{all_own, apart_first, await_first, awaits_then}
use Rattle.orphan_frees.proofs.Listed.{due_in}
use Rattle.orphan_frees.proofs.Recovers.{all_encode, of, one_encodes}
use Rattle.orphan_frees.proofs.laws.groups_are_freed_in_order.Goals as goal

pub returns-clause-encodes : goal.returns-clause-encodes
returns-clause-encodes c = λ g t layouts sectors key can awaits.
    one_encodes (of c.tables_stay_well_formed.ensures.free c.encodings_follow_the_table.ensures.row c.encodings_follow_the_table.ensures.inode c.groups_change_alone.ensures.taken
    c.recovery_frees_once.ensures.any_order c.changes_pass_over_holds.ensures.rows c.places_have_their_metadata.ensures.place) g t layouts sectors key can awaits

pub returns-clause-all_encode : goal.returns-clause-all_encode
returns-clause-all_encode c = λ g t layouts sectors group count can shut inside.
    let keys : List Key = keys_of_group t layouts group in
    let due = due_in c.changes_pass_over_holds.ensures.rows c.places_have_their_metadata.ensures.place g t layouts sectors group can shut inside in
    all_encode (of c.tables_stay_well_formed.ensures.free c.encodings_follow_the_table.ensures.row c.encodings_follow_the_table.ensures.inode c.groups_change_alone.ensures.taken
    c.recovery_frees_once.ensures.any_order c.changes_pass_over_holds.ensures.rows c.places_have_their_metadata.ensures.place) g t layouts sectors (take count keys) can
    (await_first t count keys due.await_all) (apart_first count keys due.are_apart)

pub returns-clause-own : goal.returns-clause-own
returns-clause-own c = λ g t layouts sectors group can shut inside.
    all_own group (keys_of_group t layouts group) (due_in c.changes_pass_over_holds.ensures.rows c.places_have_their_metadata.ensures.place g t layouts sectors group can shut inside).own

pub returns-clause-awaits : goal.returns-clause-awaits
returns-clause-awaits c = λ g t layouts sectors group i d can shut inside low.
    let due = due_in c.changes_pass_over_holds.ensures.rows c.places_have_their_metadata.ensures.place g t layouts sectors group can shut inside in
    awaits_then t (keys_of_group t layouts group) i d low due.await_all due.are_apart

use Rattle.std.proofs.Common.{◌∙◌, List, ap, sym, take}
use Rattle.life_table.specs.declared.key.Key.{Key}
use Rattle.life_table.specs.declared.table.Table.{Table}
use Rattle.life_table.specs.History.{orphans}
use Rattle.orphan_frees.specs.Order.{keys_to_free}
use Rattle.orphan_frees.proofs.Due.{after_first, all_change, apart_first, await_first, legal, unheld}
use Rattle.orphan_frees.proofs.Listed.{all_due}
use Rattle.orphan_frees.proofs.Recovers.{all_recover, few_keys, first_encode, no_keys, none_left_after, of, one_for_each}
use Rattle.orphan_frees.proofs.laws.recovery_frees_in_order.Goals as goal

pub returns-clause-legal : goal.returns-clause-legal
returns-clause-legal c = λ g t layouts sectors actor count can shut.
    let keys : List Key = keys_to_free t layouts in
    let due = all_due c.changes_pass_over_holds.ensures.rows c.places_have_their_metadata.ensures.place g t layouts sectors can shut in
    legal t actor (take count keys) (await_first t count keys due.await_all) (apart_first count keys due.are_apart)

pub returns-clause-encodes : goal.returns-clause-encodes
returns-clause-encodes c = λ g t layouts sectors count can shut. first_encode (of c.tables_stay_well_formed.ensures.free c.encodings_follow_the_table.ensures.row c.encodings_follow_the_table.ensures.inode c.groups_change_alone.ensures.taken
    c.recovery_frees_once.ensures.any_order c.changes_pass_over_holds.ensures.rows c.places_have_their_metadata.ensures.place) g t layouts sectors count can shut

pub returns-clause-unheld : goal.returns-clause-unheld
returns-clause-unheld c = unheld

pub returns-clause-each_is_a_change : goal.returns-clause-each_is_a_change
returns-clause-each_is_a_change c = all_change

pub returns-clause-after : goal.returns-clause-after
returns-clause-after c = after_first

pub returns-clause-all : goal.returns-clause-all
returns-clause-all c = λ g t layouts sectors can shut. all_recover (of c.tables_stay_well_formed.ensures.free c.encodings_follow_the_table.ensures.row c.encodings_follow_the_table.ensures.inode c.groups_change_alone.ensures.taken
    c.recovery_frees_once.ensures.any_order c.changes_pass_over_holds.ensures.rows c.places_have_their_metadata.ensures.place) g t layouts sectors can shut

pub returns-clause-none_left : goal.returns-clause-none_left
returns-clause-none_left c = λ g t layouts sectors can shut.
    ap (λ (v : Table). orphans v) (sym (all_recover (of c.tables_stay_well_formed.ensures.free c.encodings_follow_the_table.ensures.row c.encodings_follow_the_table.ensures.inode c.groups_change_alone.ensures.taken
    c.recovery_frees_once.ensures.any_order c.changes_pass_over_holds.ensures.rows c.places_have_their_metadata.ensures.place) g t layouts sectors can shut)) ∙ none_left_after (of c.tables_stay_well_formed.ensures.free c.encodings_follow_the_table.ensures.row c.encodings_follow_the_table.ensures.inode c.groups_change_alone.ensures.taken
    c.recovery_frees_once.ensures.any_order c.changes_pass_over_holds.ensures.rows c.places_have_their_metadata.ensures.place) g t layouts sectors can shut

pub returns-clause-one_each : goal.returns-clause-one_each
returns-clause-one_each c = λ g t layouts sectors can shut. one_for_each (of c.tables_stay_well_formed.ensures.free c.encodings_follow_the_table.ensures.row c.encodings_follow_the_table.ensures.inode c.groups_change_alone.ensures.taken
    c.recovery_frees_once.ensures.any_order c.changes_pass_over_holds.ensures.rows c.places_have_their_metadata.ensures.place) g t layouts sectors can shut

pub returns-clause-none : goal.returns-clause-none
returns-clause-none c = λ g t layouts sectors can shut none. no_keys (keys_to_free t layouts) (one_for_each (of c.tables_stay_well_formed.ensures.free c.encodings_follow_the_table.ensures.row c.encodings_follow_the_table.ensures.inode c.groups_change_alone.ensures.taken
    c.recovery_frees_once.ensures.any_order c.changes_pass_over_holds.ensures.rows c.places_have_their_metadata.ensures.place) g t layouts sectors can shut ∙ none)

pub returns-clause-few : goal.returns-clause-few
returns-clause-few c = λ g t layouts sectors can shut. few_keys (of c.tables_stay_well_formed.ensures.free c.encodings_follow_the_table.ensures.row c.encodings_follow_the_table.ensures.inode c.groups_change_alone.ensures.taken
    c.recovery_frees_once.ensures.any_order c.changes_pass_over_holds.ensures.rows c.places_have_their_metadata.ensures.place) g t layouts sectors can shut

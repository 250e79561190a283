use Rattle.std.proofs.Common.{ℕ, List, [], ◌∷◌, replicate, refl, lit<, arith}
use Rattle.agi_buckets.specs.Buckets.{put_first, take_out}
use Rattle.tests_groups.proofs.Members.{contains_none, not_first}
use Rattle.tests_groups.proofs.buckets.an_inode_is_put_first_and_taken_out_of_the_middle.Goals as goal

abbrev empty : List (List ℕ)
empty = replicate 64 []

abbrev one : List (List ℕ)
one = put_first empty 192

abbrev two : List (List ℕ)
two = put_first one 320

abbrev three : List (List ℕ)
three = put_first two 256

pub put-requires-clause-placed : goal.put-requires-clause-placed
put-requires-clause-placed g c = (0, lit< tt, refl)

pub put-requires-clause-absent : goal.put-requires-clause-absent
put-requires-clause-absent g c = (empty, c.new-memory.ensures, contains_none 192)

pub put-requires-2-clause-placed : goal.put-requires-2-clause-placed
put-requires-2-clause-placed g c = (2, lit< tt, refl)

pub put-requires-2-clause-absent : goal.put-requires-2-clause-absent
put-requires-2-clause-absent g c = (one, (c.put.ensures.put empty c.new-memory.ensures).lists_after, not_first 192 320 [] (λ e. absurd (omega arith)) (contains_none 320))

pub put-requires-3-clause-placed : goal.put-requires-3-clause-placed
put-requires-3-clause-placed g c = (1, lit< tt, refl)

pub put-requires-3-clause-absent : goal.put-requires-3-clause-absent
put-requires-3-clause-absent g c = (
  two,
  (c.put-2.ensures.put one (c.put.ensures.put empty c.new-memory.ensures).lists_after).lists_after,
  not_first 320 256 (192 ∷ []) (λ e. absurd (omega arith)) (not_first 192 256 [] (λ e. absurd (omega arith)) (contains_none 256)),
)

pub list-requires-clause-lists : goal.list-requires-clause-lists
list-requires-clause-lists g c =
    (three, (c.put-3.ensures.put two (c.put-2.ensures.put one (c.put.ensures.put empty c.new-memory.ensures).lists_after).lists_after).lists_after)

pub remove-requires-clause-present : goal.remove-requires-clause-present
remove-requires-clause-present g c =
    (three, (c.put-3.ensures.put two (c.put-2.ensures.put one (c.put.ensures.put empty c.new-memory.ensures).lists_after).lists_after).lists_after, (1, lit< tt, refl))

pub list-requires-2-clause-lists : goal.list-requires-2-clause-lists
list-requires-2-clause-lists g c = (
  take_out three 320,
  (c.remove.ensures.removed three (c.put-3.ensures.put two (c.put-2.ensures.put one (c.put.ensures.put empty c.new-memory.ensures).lists_after).lists_after).lists_after).lists_after,
)

pub list-requires-3-clause-lists : goal.list-requires-3-clause-lists
list-requires-3-clause-lists g c = (
  take_out three 320,
  (c.remove.ensures.removed three (c.put-3.ensures.put two (c.put-2.ensures.put one (c.put.ensures.put empty c.new-memory.ensures).lists_after).lists_after).lists_after).lists_after,
)

pub next-requires : goal.next-requires
next-requires g c = (2, lit< tt, refl)

use Rattle.std.proofs.Common.{◌≡◌, ◌≤◌, ℕ, List, length, take, ap, sym, subst, ◌∙◌}
use Rattle.std.specs.Prelude.{IfOk, Result, Ok, Err}
use Rattle.free_map.specs.Blocks.{map_free_blocks}
use Rattle.life_table.specs.Table.{Group}
use Rattle.life_table.specs.Space.{free_blocks}
use Rattle.group_space.specs.Space.{Space}
use Rattle.group_space.specs.Asked.{AreFreeBlocks}
use Rattle.group_space.proofs.Times.{times-take}
use Rattle.group_space.proofs.FreeSets.{free_blocks_of_set}
use Rattle.group_space.proofs.space.GroupSpace.lowest_blocks.Goals as goal

among : {V E : Type 0} (items : V → List ℕ) (blocks : ℕ) (chunks : Group) (n : ℕ) (r : Result V E) → IfOk r (λ found. items found ≡ take n (free_blocks blocks chunks))
    → IfOk r (λ found. AreFreeBlocks blocks chunks (items found))
among items blocks chunks n (Ok found) is = subst (AreFreeBlocks blocks chunks) (sym is) (λ b. times-take b n (free_blocks blocks chunks))
among items blocks chunks n (Err e) is = is

pub lowest-requires : goal.lowest-requires
lowest-requires c =
    let blocks = c.requires.0 in
    let chunks = c.requires.1 in
    let is = c.requires.2 in
    subst (λ (xs : List ℕ). c.args.n ≤ length xs) (sym (ap map_free_blocks (ap (λ (s : Space). s.free) c.self.view_is ∙ is.free) ∙ free_blocks_of_set blocks chunks))
    c.requires.3

pub returns-clause-lowest : goal.returns-clause-lowest
returns-clause-lowest c blocks chunks is =
    let all : map_free_blocks c.self.inside.free ≡ free_blocks blocks chunks = ap map_free_blocks (ap (λ (s : Space). s.free) c.self.view_is ∙ is.free) ∙ free_blocks_of_set blocks chunks in
    subst (λ (xs : List ℕ). IfOk c.lowest.result (λ found. found.items ≡ take c.args.n xs)) all c.lowest.ensures

pub returns-clause-free : goal.returns-clause-free
returns-clause-free c blocks chunks is =
    let all : map_free_blocks c.self.inside.free ≡ free_blocks blocks chunks = ap map_free_blocks (ap (λ (s : Space). s.free) c.self.view_is ∙ is.free) ∙ free_blocks_of_set blocks chunks in
    among (λ found. found.items) blocks chunks c.args.n c.lowest.result (subst (λ (xs : List ℕ). IfOk c.lowest.result (λ found. found.items ≡ take c.args.n xs)) all c.lowest.ensures)

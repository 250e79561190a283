-- Where the next chunk goes, by the map.
use Rattle.std.proofs.Common.{◌≡◌, ◌+◌, ◌-◌, ◌<◌, ◌≤◌, ℕ, Option, None, Some, length, refl, sym, ap, ◌∙◌, inl, inr, arith}
use Rattle.std.specs.Prelude.{IfSome, IfNone, nat_lt}
use Rattle.std.specs.List.{find, range_with_len}
use Rattle.std.proofs.lemmas.Bool.{cases_lt, le-ltb, cond-false}
use Rattle.life_limits.specs.declared.TheConstants.{MAX_CHUNKS}
use Rattle.free_map.specs.Blocks.{is_block_free, IsFreeRun}
use Rattle.life_table.specs.Table.{Group}
use Rattle.life_table.specs.Space.{BeginsFreeRun, begins_run, chunk_place}
use Rattle.sound_image.specs.Rules.{free_set}
use Rattle.group_space.proofs.Times.{is_free_block-parts}
use Rattle.group_space.proofs.FreeSets.{free_at}

run_begins : (blocks : ℕ) (chunks : Group) (b : ℕ) → IsFreeRun (free_set blocks chunks) b → BeginsFreeRun blocks chunks b
run_begins blocks chunks b run = (
  run.0,
  λ x low high.
      let e : x ≡ b + (x - b) = omega arith in
      sym (free_at blocks chunks x) ∙ ap (is_block_free (free_set blocks chunks)) e ∙ run.1 (x - b) (omega arith),
)

begun_run : (blocks : ℕ) (chunks : Group) (b : ℕ) → BeginsFreeRun blocks chunks b → IsFreeRun (free_set blocks chunks) b
begun_run blocks chunks b run = (run.0, λ i low. free_at blocks chunks (b + i) ∙ run.1 (b + i) (omega arith) (omega arith))

-- what is known of the place
pub record HasLowest : Type 0 where
  pub place : (blocks : ℕ) (group : Group) (block : ℕ) → chunk_place blocks group ≡ Some block → (length group < MAX_CHUNKS) × (block < blocks) × BeginsFreeRun blocks group block
  pub least : (blocks : ℕ) (group : Group) (block other : ℕ) → chunk_place blocks group ≡ Some block → other < block → ¬ BeginsFreeRun blocks group other
  pub none : (blocks : ℕ) (group : Group) (block : ℕ) → chunk_place blocks group ≡ None → length group < MAX_CHUNKS → block < blocks → ¬ BeginsFreeRun blocks group block

pub place_full : (blocks : ℕ) (group : Group) → MAX_CHUNKS ≤ length group → chunk_place blocks group ≡ None
unfolding chunk_place
place_full blocks group many = cond-false (nat_lt (length group) MAX_CHUNKS) (find (begins_run blocks group) (range_with_len 0 blocks)) None (le-ltb (length group) MAX_CHUNKS many)

-- the lowest aligned run is the place
pub place_of_run : (blocks : ℕ) (chunks : Group) (o place : Option ℕ) → HasLowest → length chunks < MAX_CHUNKS → IfSome o (IsFreeRun (free_set blocks chunks))
    → IfSome o (λ b. (c : ℕ) → IsFreeRun (free_set blocks chunks) c → b ≤ c) → IfNone o ((c : ℕ) → ¬ IsFreeRun (free_set blocks chunks) c) → chunk_place blocks chunks ≡ place → o ≡ place
place_of_run blocks chunks None None laws few run lowest none at = refl
place_of_run blocks chunks None (Some b) laws few run lowest none at = absurd (none b (begun_run blocks chunks b (laws.place blocks chunks b at).2))
place_of_run blocks chunks (Some b) None laws few run lowest none at =
    let begins = run_begins blocks chunks b run in
    let below = (is_free_block-parts blocks chunks b (begins.1 b (omega arith) (omega arith))).1 in
    absurd (laws.none blocks chunks b at few below begins)
place_of_run blocks chunks (Some b) (Some c) laws few run lowest none at =
    let least = lowest c (begun_run blocks chunks c (laws.place blocks chunks c at).2) in
    elim (cases_lt b c) [
      | inl before ↦ absurd (laws.least blocks chunks c b at before (run_begins blocks chunks b run))
      | inr same ↦ let e : b ≡ c = omega arith in ap (λ (n : ℕ). Some n) e
    ]

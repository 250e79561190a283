-- An inode and its sector.
use Rattle.std.proofs.Common.{◌≡◌, ℕ, ◌≤◌, false, Option, Some, List, [], ◌∷◌, length, take, refl, sym, ap, subst, ◌∙◌, arith}
use Rattle.std.specs.Prelude.{All, IfSome}
use Rattle.life_limits.specs.declared.TheConstants.{FIRST_DATA_BLOCK}
use Rattle.geometry.specs.Places.{number_in}
use Rattle.inode_core.specs.Cores.{EncodesCore, core_encoding, fork_of, no_fork}
use Rattle.extent_fork.specs.declared.extent.Extent.{Extent}
use Rattle.extent_fork.specs.Forks.{fork, extent_records}
use Rattle.extent_fork.specs.Inodes.{inode_encoding}
use Rattle.extent_fork.specs.Runs.{runs}
use Rattle.inode_cache.specs.declared.inode.Incore.{Incore}
use Rattle.inode_cache.specs.Inodes.{IsIncore, incore_encoding}

-- what holds of the value, where it is known
pub some_holds : {A : Type 0} (r : Option A) (x : A) (P : A → Type 0) → r ≡ Some x → IfSome r P → P x
some_holds {A = A} r x P e h = subst (λ (o : Option A). IfSome o P) e h

-- the runs that were filled in, in terms of the inode
pub filled_runs : (r : Option ℕ) (count : ℕ) (new : List Extent) (l blocks : List ℕ) → r ≡ Some count → IfSome r (λ n. take n new ≡ runs l) → l ≡ blocks → take count new ≡ runs blocks
filled_runs r count new l blocks e found same = some_holds r count (λ (n : ℕ). take n new ≡ runs l) e found ∙ ap (λ (x : List ℕ). runs x) same

pub blocks_above : (inode : Incore) (l : List ℕ) → IsIncore inode → l ≡ inode.blocks → All (λ block. FIRST_DATA_BLOCK ≤ block) l
blocks_above inode l is e = subst (All (λ block. FIRST_DATA_BLOCK ≤ block)) (sym e) (λ k d lt. (is.data_blocks k d lt).0)

no_blocks : (l : List ℕ) → length l ≡ 0 → l ≡ []
no_blocks [] e = refl
no_blocks (x ∷ xs) e = absurd (omega arith)

-- without runs there is no fork
pub fork_of_no_runs : (group : ℕ) → fork group [] ≡ no_fork
unfolding fork extent_records
fork_of_no_runs group = refl

pub free_fork : (inode : Incore) (group : ℕ) → IsIncore inode → inode.core.live ≡ false → fork group (runs inode.blocks) ≡ no_fork
free_fork inode group is free =
    ap (λ (l : List ℕ). fork group (runs l)) (no_blocks inode.blocks (sym is.count ∙ (is.allowed.free free).blocks)) ∙ fork_of_no_runs group

pub encoded_inode : (bytes uuid : List ℕ) (ino group agino : ℕ) (inode : Incore) (list : List Extent) → EncodesCore bytes ino uuid inode.core → fork_of bytes ≡ fork group list
    → list ≡ runs inode.blocks → ino ≡ number_in group agino → bytes ≡ incore_encoding group uuid agino inode
unfolding inode_encoding
encoded_inode bytes uuid ino group agino inode list encodes has runs_are number =
    encodes.sector ∙ ap (λ (f : List ℕ). core_encoding inode.core ino uuid f) (has ∙ ap (fork group) runs_are)
    ∙ ap (λ (n : ℕ). core_encoding inode.core n uuid (fork group (runs inode.blocks))) number

-- The buffers of a chunk that is added, one after the other.
use Rattle.std.proofs.Common.{◌≡◌, ◌<◌, ◌+◌, ◌++◌, ℕ, zero, suc, List, [], ◌∷◌, Some, length, length-append, inl, inr, refl, ap, sym, subst, ◌∙◌, arith, All}
use Rattle.std.specs.Prelude.{IsSomeAnd, slice_get}
use Rattle.std.proofs.lemmas.Bool.{cases_lt}
use Rattle.life_bytes.specs.declared.sector.Sector.{Sector}
use Rattle.extent_fork.specs.Reading.{CanBeDataBlock}
use Rattle.inode_core.specs.declared.shape.Core.{Core}
use Rattle.inode_cache.specs.declared.inode.Incore.{Incore}
use Rattle.inode_cache.specs.Inodes.{IsIncore, incore_encoding}
use Rattle.group_ops.specs.Buffers.{Buffers}
use Rattle.group_ops.specs.Creating.{AreUnused, unused_incore}

-- so many sectors of them
pub record Fills (group : ℕ) (uuid : List ℕ) (start : ℕ) (sectors : List Sector) (n : ℕ) : Type 0 where
  pub many : length sectors ≡ n
  pub each : (k : ℕ) → k < n → IsSomeAnd (slice_get sectors k) (λ sector. sector.bytes ≡ incore_encoding group uuid (start + k) unused_incore)

get_left : (xs ys : List Sector) (k : ℕ) → k < length xs → slice_get (xs ++ ys) k ≡ slice_get xs k
get_left [] ys k low = absurd (omega (arith, low))
get_left (x ∷ xs) ys zero low = refl
get_left (x ∷ xs) ys (suc k) low = get_left xs ys k (omega (arith, low))

get_end : (xs : List Sector) (x : Sector) (k : ℕ) → k ≡ length xs → slice_get (xs ++ x ∷ []) k ≡ Some x
get_end [] x zero e = refl
get_end [] x (suc k) e = absurd (omega (arith, e))
get_end (y ∷ ys) x zero e = absurd (omega (arith, e))
get_end (y ∷ ys) x (suc k) e = get_end ys x k (omega (arith, e))

pub fills_none : (group : ℕ) (uuid : List ℕ) (start : ℕ) → Fills group uuid start [] 0
fills_none group uuid start = record { many = refl; each = λ k low. absurd (omega (arith, low)) }

pub fills_more : (group : ℕ) (uuid : List ℕ) (start : ℕ) (xs ys : List Sector) (x : Sector) (n : ℕ) (inode : Incore) → Fills group uuid start xs n
    → x.bytes ≡ incore_encoding group uuid (start + n) inode → inode ≡ unused_incore → ys ≡ xs ++ x ∷ [] → Fills group uuid start ys (n + 1)
fills_more group uuid start xs ys x n inode fills at is joined = record {
  many = ap (λ (l : List Sector). length l) joined ∙ length-append xs (x ∷ []) ∙ ap (λ (k : ℕ). k + 1) fills.many;
  each = λ k low.
      subst (λ (l : List Sector). IsSomeAnd (slice_get l k) (λ sector. sector.bytes ≡ incore_encoding group uuid (start + k) unused_incore)) (sym joined)
      (elim (cases_lt k n) [
        | inl early ↦
            let old : k < length xs = omega (arith, early, fills.many) in
            subst (λ o. IsSomeAnd o (λ (sector : Sector). sector.bytes ≡ incore_encoding group uuid (start + k) unused_incore)) (sym (get_left xs (x ∷ []) k old)) (fills.each k early)
        | inr late ↦
            let here : k ≡ n = omega (arith, low, late) in
            subst (λ o. IsSomeAnd o (λ (sector : Sector). sector.bytes ≡ incore_encoding group uuid (start + k) unused_incore)) (sym (get_end xs x k (here ∙ sym fills.many)))
            (at ∙ ap (λ (i : Incore). incore_encoding group uuid (start + n) i) is ∙ ap (λ (j : ℕ). incore_encoding group uuid (start + j) unused_incore) (sym here))
      ]);
}

pub filled : (group : ℕ) (uuid : List ℕ) (start n : ℕ) (chunk : Buffers) (sectors : List Sector) → Fills group uuid start sectors n → n ≡ 64 → chunk.start ≡ start → chunk.sectors ≡ sectors
    → AreUnused group uuid start chunk
filled group uuid start n chunk sectors fills whole at is = record {
  at = at;
  each = λ k low.
      subst (λ (l : List Sector). IsSomeAnd (slice_get l k) (λ sector. sector.bytes ≡ incore_encoding group uuid (start + k) unused_incore)) (sym is)
      (fills.each k (omega (arith, low, whole)));
}

-- an inode of such a chunk is one that a sector can encode
pub unused_is : (core : Core) (blocks : List ℕ) → core ≡ unused_incore.core → blocks ≡ [] → (let i : Incore = record { core = core; blocks = blocks } in i) ≡ unused_incore
unused_is core blocks is none =
    ap (λ (k : Core). let i : Incore = record { core = k; blocks = blocks } in i) is
    ∙ ap (λ (b : List ℕ). let i : Incore = record { core = unused_incore.core; blocks = b } in i) none

no_block : All CanBeDataBlock []
no_block k d low = absurd (omega (arith, low))

pub unused_right : (inode : Incore) → inode ≡ unused_incore → IsIncore inode
unused_right inode is = subst IsIncore (sym is) (record {
  allowed = record {
    live = λ e. cc;
    free = λ e. record { links = refl; size = refl; blocks = refl; extents = refl; generation = (omega arith, omega arith); next = refl };
  };
  data_blocks = no_block;
  count = refl;
  extents = refl;
})

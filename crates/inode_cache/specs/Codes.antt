-- An inode in core as plain data, by which proofs tell two of them apart.
use Rattle.std.specs.Prelude.{ℕ, Bool, List, refl}
use Rattle.std.specs.Coded.{Coded, code_by, coded×, coded_ℕ, coded_bool, coded_list}
use Rattle.inode_core.specs.declared.shape.Core.{Core}
use Rattle.inode_cache.specs.declared.inode.Incore.{Incore}
use Rattle.inode_cache.specs.declared.inode.Kept.{Kept}

abbrev pub core_code : Coded Core
core_code =
    code_by
    (Bool × (ℕ × (ℕ × (ℕ × (ℕ × (ℕ × ℕ))))))
    (coded× coded_bool (coded× coded_ℕ (coded× coded_ℕ (coded× coded_ℕ (coded× coded_ℕ (coded× coded_ℕ coded_ℕ))))))
    (λ c. (c.live, (c.links, (c.size, (c.blocks, (c.extents, (c.generation, c.next)))))))
    (λ p. record { live = p.0; links = p.1.0; size = p.1.1.0; blocks = p.1.1.1.0; extents = p.1.1.1.1.0; generation = p.1.1.1.1.1.0; next = p.1.1.1.1.1.1 })
    (λ _. refl)

abbrev pub inode_code : Coded Incore
inode_code = code_by (Core × List ℕ) (coded× core_code (coded_list coded_ℕ)) (λ i. (i.core, i.blocks)) (λ p. record { core = p.0; blocks = p.1 }) (λ _. refl)

abbrev pub kept_code : Coded Kept
kept_code = code_by (Incore × Bool) (coded× inode_code coded_bool) (λ k. (k.inode, k.dirty)) (λ p. record { inode = p.0; dirty = p.1 }) (λ _. refl)

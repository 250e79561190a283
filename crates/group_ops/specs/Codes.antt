-- The value of a group's state as plain data, by which proofs tell two of them apart.
use Rattle.std.specs.Prelude.{ℕ, Bool, List, refl}
use Rattle.std.specs.Ordering.{nat_cmp}
use Rattle.std.specs.FinMap as map
use Rattle.std.specs.FinMap.{FinMap}
use Rattle.std.specs.Coded.{Coded, code_by, coded×, coded_ℕ, coded_bool, coded_list}
use Rattle.life_bytes.specs.declared.sector.Sector.{Sector}
use Rattle.geometry.specs.declared.shape.Geometry.{Geometry}
use Rattle.inobt_leaf.specs.declared.chunk.ChunkRec.{ChunkRec}
use Rattle.inode_cache.specs.declared.inode.Kept.{Kept}
use Rattle.inode_cache.specs.Codes.{kept_code}
use Rattle.group_space.specs.Space.{Space}
use Rattle.group_ops.specs.Buffers.{Buffers}
use Rattle.group_ops.specs.Values.{StateValue}

abbrev pub geometry_code : Coded Geometry
geometry_code =
    code_by
    (ℕ × (ℕ × (ℕ × (ℕ × List ℕ))))
    (coded× coded_ℕ (coded× coded_ℕ (coded× coded_ℕ (coded× coded_ℕ (coded_list coded_ℕ)))))
    (λ g. (g.version, (g.groups, (g.blocks, (g.ring, g.uuid)))))
    (λ p. record { version = p.0; groups = p.1.0; blocks = p.1.1.0; ring = p.1.1.1.0; uuid = p.1.1.1.1 })
    (λ _. refl)

abbrev pub record_code : Coded ChunkRec
record_code = code_by (ℕ × (ℕ × ℕ)) (coded× coded_ℕ (coded× coded_ℕ coded_ℕ)) (λ c. (c.start, (c.free, c.mask))) (λ p. record { start = p.0; free = p.1.0; mask = p.1.1 }) (λ _. refl)

abbrev pub space_code : Coded Space
space_code = code_by (List ChunkRec × List Bool) (coded× (coded_list record_code) (coded_list coded_bool)) (λ s. (s.records, s.free)) (λ p. record { records = p.0; free = p.1 }) (λ _. refl)

abbrev pub sector_code : Coded Sector
sector_code = code_by (List ℕ) (coded_list coded_ℕ) (λ s. s.bytes) (λ bytes. record { bytes = bytes }) (λ _. refl)

abbrev pub buffers_code : Coded Buffers
buffers_code = code_by (ℕ × List Sector) (coded× coded_ℕ (coded_list sector_code)) (λ b. (b.start, b.sectors)) (λ p. record { start = p.0; sectors = p.1 }) (λ _. refl)

abbrev pub group_code : Coded StateValue
group_code =
    code_by
    (Geometry × (ℕ × (ℕ × (List ℕ × (Space × (List Buffers × (FinMap nat_cmp Kept × ℕ)))))))
    (coded× geometry_code (coded× coded_ℕ (coded× coded_ℕ (coded× (coded_list coded_ℕ) (coded× space_code (coded× (coded_list buffers_code) (coded× (map.code coded_ℕ kept_code) coded_ℕ)))))))
    (λ s. (s.geometry, (s.group, (s.page, (s.heads, (s.space, (s.buffers, (s.in_core, s.room))))))))
    (λ p. record { geometry = p.0; group = p.1.0; page = p.1.1.0; heads = p.1.1.1.0; space = p.1.1.1.1.0; buffers = p.1.1.1.1.1.0; in_core = p.1.1.1.1.1.1.0; room = p.1.1.1.1.1.1.1 })
    (λ _. refl)

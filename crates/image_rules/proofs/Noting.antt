-- The next pointers of the inodes below a number, and those of the next one.
use Rattle.std.proofs.Common.{◌≡◌, ◌≢◌, ◌⊎◌, ◌<◌, ◌≤◌, ◌+◌, ℕ, true, false, List, Option, None, Some, IsSomeAnd, cond, inl, inr, refl, sym, subst, ◌∙◌, arith, unwrap_or}
use Rattle.std.proofs.lemmas.Bool.{cases_eq, cases_lt, eq-eqb, ne_eqb, cond-true, cond-false}
use Rattle.std.proofs.lemmas.Option.{same_Some}
use Rattle.std.specs.BTreeMap.{is_at}
use Rattle.std.specs.Cmp.{unsigned_tied}
use Rattle.std.specs.Ordering.{nat_cmp}
use Rattle.life_limits.specs.declared.TheConstants.{NO_INODE}
use Rattle.life_bytes.specs.declared.sector.Sector.{Sector}
use Rattle.geometry.specs.declared.shape.Geometry.{Geometry}
use Rattle.life_table.specs.declared.types.Row.{Row}
use Rattle.sound_image.specs.Reading.{core_of, inode_at, row_at}
use Rattle.image_rules.specs.Listing.{next_pointer_of, IsOrphan, IsUnlinkedEntry, AreOrphans, EndsThere, PointingBelow, Noted, AllNoted}
use Rattle.image_rules.proofs.Gathering.{row_none}

pub here_at : (k q : ℕ) → k ≡ q → is_at (nat_cmp k) q ≡ true
here_at k q e = unsigned_tied k q ∙ eq-eqb k q e

pub not_at : (k q : ℕ) → k ≢ q → is_at (nat_cmp k) q ≡ false
not_at k q ne = unsigned_tied k q ∙ ne_eqb k q ne

-- one entry of a map is set
abbrev pub Sets : List (ℕ × ℕ) → List (ℕ × ℕ) → ℕ → Option ℕ → Type 0
Sets old new k w = (q : ℕ) → next_pointer_of new q ≡ cond (is_at (nat_cmp k) q) w (next_pointer_of old q)

pub set_here : (old new : List (ℕ × ℕ)) (k q : ℕ) (w : Option ℕ) → Sets old new k w → k ≡ q → next_pointer_of new q ≡ w
set_here old new k q w sets e = sets q ∙ cond-true (is_at (nat_cmp k) q) w (next_pointer_of old q) (here_at k q e)

pub set_other : (old new : List (ℕ × ℕ)) (k q : ℕ) (w : Option ℕ) → Sets old new k w → k ≢ q → next_pointer_of new q ≡ next_pointer_of old q
set_other old new k q w sets ne = sets q ∙ cond-false (is_at (nat_cmp k) q) w (next_pointer_of old q) (not_at k q ne)

pub orphan_of : (g : Geometry) (image : List Sector) (group agino : ℕ) (row : Row) → row_at g image group agino ≡ Some row → row.links ≡ 0 → IsOrphan g image group agino
orphan_of g image group agino row found zero = subst (λ (o : Option Row). IsSomeAnd o (λ row. row.links ≡ 0)) (sym found) zero

pub no_orphan : (g : Geometry) (image : List Sector) (group agino : ℕ) (row : Row) → row_at g image group agino ≡ Some row → row.links ≢ 0 → IsOrphan g image group agino → ⊥
no_orphan g image group agino row found ne orphan = ne (subst (λ (o : Option Row). IsSomeAnd o (λ row. row.links ≡ 0)) found orphan)

pub free_no_orphan : (g : Geometry) (image : List Sector) (group agino : ℕ) → row_at g image group agino ≡ None → IsOrphan g image group agino → ⊥
free_no_orphan g image group agino none orphan = subst (λ (o : Option Row). IsSomeAnd o (λ row. row.links ≡ 0)) none orphan

none_some : (x : ℕ) → None ≡ Some x → ⊥
none_some x e = cc

orphans_more : (g : Geometry) (image : List Sector) (group n next : ℕ) (old new : List (ℕ × ℕ)) (row : Row) → Sets old new n (Some next) → row_at g image group n ≡ Some row → row.links ≡ 0
    → (core_of g image group n).next ≡ next → n ≢ NO_INODE → AreOrphans g image group n old → AreOrphans g image group (n + 1) new
orphans_more g image group n next old new row sets found zero points ne was = record {
  held = λ agino other at. elim (cases_eq n agino) [
    | inl e ↦
        let put : Some next ≡ Some other = sym (set_here old new n agino (Some next) sets e) ∙ at in
        subst (λ (a : ℕ). IsUnlinkedEntry g image group a other) e (record { some = ne; orphan = orphan_of g image group n row found zero; points = points ∙ same_Some next other put })
    | inr absent ↦ was.held agino other (sym (set_other old new n agino (Some next) sets absent) ∙ at)
  ];
  none = λ agino lt absent. elim (cases_eq n agino) [
    | inl e ↦ absurd (none_some next (sym absent ∙ set_here old new n agino (Some next) sets e))
    | inr other ↦ was.none agino (omega arith) (sym (set_other old new n agino (Some next) sets other) ∙ absent)
  ];
  low = λ agino other at. elim (cases_eq n agino) [
    | inl e ↦ omega arith
    | inr ne ↦ let lt = was.low agino other (sym (set_other old new n agino (Some next) sets ne) ∙ at) in omega arith
  ];
}

orphans_same : (g : Geometry) (image : List Sector) (group n : ℕ) (nexts : List (ℕ × ℕ)) → (IsOrphan g image group n → ⊥) → AreOrphans g image group n nexts → AreOrphans g image group (n + 1) nexts
orphans_same g image group n nexts not was = record {
  held = was.held;
  none = λ agino lt absent orphan. elim (cases_lt agino n) [
    | inl l ↦ was.none agino l absent orphan
    | inr ge ↦ let e : agino ≡ n = omega arith in not (subst (IsOrphan g image group) e orphan)
  ];
  low = λ agino next at. let lt = was.low agino next at in omega arith;
}

pointing_more : (g : Geometry) (image : List Sector) (group n : ℕ) (pointing : Option ℕ) → EndsThere g image group n → PointingBelow g image group n pointing → PointingBelow g image group (n + 1) pointing
pointing_more g image group n None ends below = λ agino lt. elim (cases_lt agino n) [
  | inl l ↦ below agino l
  | inr ge ↦ let e : n ≡ agino = omega arith in subst (EndsThere g image group) e ends
]
pointing_more g image group n (Some x) ends first = first

pointing_break : (g : Geometry) (image : List Sector) (group n : ℕ) (pointing : Option ℕ) (row : Row) → row_at g image group n ≡ Some row → row.links ≢ 0
    → (core_of g image group n).next ≢ NO_INODE → PointingBelow g image group n pointing → PointingBelow g image group (n + 1) (Some (unwrap_or pointing n))
pointing_break g image group n None row found linked wrong below = record { row = row; found = found; linked = linked; wrong = wrong; before = below }
pointing_break g image group n (Some x) row found linked wrong first = first

pub Noted-orphan : (g : Geometry) (image : List Sector) (group n next : ℕ) (old new : List (ℕ × ℕ)) (pointing : Option ℕ) (row : Row) → Sets old new n (Some next) → row_at g image group n ≡ Some row → row.links ≡ 0
    → (core_of g image group n).next ≡ next → n ≢ NO_INODE → Noted g image group n old pointing → Noted g image group (n + 1) new pointing
Noted-orphan g image group n next old new pointing row sets found zero points ne was = record {
  orphans = orphans_more g image group n next old new row sets found zero points ne was.orphans;
  first = pointing_more g image group n pointing (λ r e linked. absurd (no_orphan g image group n r e linked (orphan_of g image group n row found zero))) was.first;
}

pub Noted-pointing : (g : Geometry) (image : List Sector) (group n : ℕ) (nexts : List (ℕ × ℕ)) (pointing : Option ℕ) (row : Row) → row_at g image group n ≡ Some row → row.links ≢ 0
    → (core_of g image group n).next ≢ NO_INODE → Noted g image group n nexts pointing → Noted g image group (n + 1) nexts (Some (unwrap_or pointing n))
Noted-pointing g image group n nexts pointing row found linked wrong was = record {
  orphans = orphans_same g image group n nexts (no_orphan g image group n row found linked) was.orphans;
  first = pointing_break g image group n pointing row found linked wrong was.first;
}

pub Noted-linked : (g : Geometry) (image : List Sector) (group n : ℕ) (nexts : List (ℕ × ℕ)) (pointing : Option ℕ) (row : Row) → row_at g image group n ≡ Some row → row.links ≢ 0
    → (core_of g image group n).next ≡ NO_INODE → Noted g image group n nexts pointing → Noted g image group (n + 1) nexts pointing
Noted-linked g image group n nexts pointing row found linked ends was = record {
  orphans = orphans_same g image group n nexts (no_orphan g image group n row found linked) was.orphans;
  first = pointing_more g image group n pointing (λ r e ne. ends) was.first;
}

pub Noted-free : (g : Geometry) (image : List Sector) (group n : ℕ) (nexts : List (ℕ × ℕ)) (pointing : Option ℕ) → row_at g image group n ≡ None
    → Noted g image group n nexts pointing → Noted g image group (n + 1) nexts pointing
Noted-free g image group n nexts pointing none was = record {
  orphans = orphans_same g image group n nexts (free_no_orphan g image group n none) was.orphans;
  first = pointing_more g image group n pointing (λ r e ne. cc (none, e)) was.first;
}

pointing_wider : (g : Geometry) (image : List Sector) (group n m : ℕ) (pointing : Option ℕ) → ((other : ℕ) → n ≤ other → other < m → inode_at g image group other ≡ None)
    → PointingBelow g image group n pointing → PointingBelow g image group m pointing
pointing_wider g image group n m None none below = λ agino lt row e ne. elim (cases_lt agino n) [
  | inl low ↦ below agino low row e ne
  | inr ge ↦ let no = row_none g image group agino (none agino ge lt) in cc (no, e)
]
pointing_wider g image group n m (Some x) none first = first

-- no inode stands between
pub Noted-wider : (g : Geometry) (image : List Sector) (group n m : ℕ) (nexts : List (ℕ × ℕ)) (pointing : Option ℕ) → n ≤ m → ((other : ℕ) → n ≤ other → other < m → inode_at g image group other ≡ None)
    → Noted g image group n nexts pointing → Noted g image group m nexts pointing
Noted-wider g image group n m nexts pointing le none was = record {
  orphans = record {
    held = was.orphans.held;
    none = λ agino lt absent orphan. elim (cases_lt agino n) [
      | inl low ↦ was.orphans.none agino low absent orphan
      | inr ge ↦ free_no_orphan g image group agino (row_none g image group agino (none agino ge lt)) orphan
    ];
    low = λ agino next at. let lt = was.orphans.low agino next at in omega arith;
  };
  first = pointing_wider g image group n m pointing none was.first;
}

-- ---- once no inode is left

pub all_kept : (g : Geometry) (image : List Sector) (group : ℕ) (nexts : List (ℕ × ℕ)) (pointing : Option ℕ) → AllNoted g image group nexts pointing
    → (agino : ℕ) → next_pointer_of nexts agino ≡ None → IsOrphan g image group agino → ⊥
all_kept g image group nexts pointing all agino absent orphan =
    elim (cases_lt agino all.bound) [
      | inl lt ↦ all.noted.orphans.none agino lt absent orphan
      | inr ge ↦ free_no_orphan g image group agino (row_none g image group agino (all.none agino ge)) orphan
    ]

pub all_end : (g : Geometry) (image : List Sector) (group : ℕ) (nexts : List (ℕ × ℕ)) → AllNoted g image group nexts None → (agino : ℕ) → EndsThere g image group agino
all_end g image group nexts all agino row e ne =
    elim (cases_lt agino all.bound) [
      | inl lt ↦ all.noted.first agino lt row e ne
      | inr ge ↦ let no = row_none g image group agino (all.none agino ge) in cc (no, e)
    ]

-- the next inode is not kept yet
pub absent_here : (g : Geometry) (image : List Sector) (group n : ℕ) (nexts : List (ℕ × ℕ)) (pointing : Option ℕ) → Noted g image group n nexts pointing → next_pointer_of nexts n ≡ None
absent_here g image group n nexts pointing was =
    elim (none_or_some (next_pointer_of nexts n)) [ inl e ↦ e | inr found ↦ let lt = was.orphans.low n found.0 found.1 in absurd (omega arith) ]
  where
    none_or_some : (o : Option ℕ) → (o ≡ None) ⊎ ((x : ℕ) × o ≡ Some x)
    none_or_some None = inl refl
    none_or_some (Some x) = inr (x, refl)

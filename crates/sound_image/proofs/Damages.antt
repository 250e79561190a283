-- A rule that holds is broken nowhere, and an image has one first damage.
use Rattle.std.proofs.Common.{◌≡◌, ℕ, List, inl, inr, refl, ap, ◌∙◌, arith, subst}
use Rattle.std.proofs.lemmas.Bool.{cases_order}
use Rattle.life_bytes.specs.declared.sector.Sector.{Sector}
use Rattle.geometry.specs.declared.shape.Geometry.{Geometry}
use Rattle.sound_image.specs.Rules.{pointer, Ends, IsWrongPointer}
use Rattle.sound_image.specs.Damage.{Rule, header, tree, core, fork, blocks, bitmap, pointers, lists, groups_rule_number, HoldsIn, BreaksIn, GroupsHold, GroupsBreak, FirstGroupsDamage, AreGroupsSound}

-- a list that ends has no wrong pointer
ends_right : (g : Geometry) (image : List Sector) (group bucket n : ℕ) → Ends g image group bucket → IsWrongPointer g image group bucket n → ⊥
ends_right g image group bucket n ends wrong =
    elim (cases_order n ends.count) [
      | inl e ↦ wrong.no_end (ap (pointer g image group bucket) e ∙ ends.end)
      | inr (inl lt) ↦ wrong.wrong (ends.members n lt)
      | inr (inr gt) ↦ (wrong.before ends.count gt).member.some ends.end
    ]

pub not_both : (g : Geometry) (image : List Sector) (rule : Rule) (group s : ℕ) → HoldsIn g image rule group → BreaksIn g image rule group s → ⊥
not_both g image header group s h b = b.1 h
not_both g image tree group s h (inl b) = b.1 h.0
not_both g image tree group s h (inr b) = b.2 h.1
not_both g image core group s h b = b.4 (h b.0 b.1 b.3)
not_both g image fork group s h b = b.4 (h b.0 b.1 b.3)
not_both g image blocks group s h b = b.4 (h b.0 b.1 b.3)
not_both g image bitmap group s h b = b.3 (h b.0 b.1)
not_both g image pointers group s h b = ends_right g image group b.0 b.1 (h b.0 b.2) b.4
not_both g image lists group s h b = b.4 (h b.0 b.1 b.3)

pub unbroken : (g : Geometry) (image : List Sector) (rule : Rule) (s : ℕ) → GroupsHold g image rule → GroupsBreak g image rule s → ⊥
unbroken g image rule s h b = not_both g image rule b.0 s (h b.0 b.1) b.2

pub same_rule : (a b : Rule) → groups_rule_number a ≡ groups_rule_number b → a ≡ b
same_rule header header e = refl
same_rule tree tree e = refl
same_rule core core e = refl
same_rule fork fork e = refl
same_rule blocks blocks e = refl
same_rule bitmap bitmap e = refl
same_rule pointers pointers e = refl
same_rule lists lists e = refl
same_rule _ _ e = absurd (omega arith)

least_sector : (g : Geometry) (image : List Sector) (a : Rule) (s t : ℕ) → FirstGroupsDamage g image a s → FirstGroupsDamage g image a t → s ≡ t
least_sector g image a s t x y = let low = x.least t y.broken in let high = y.least s x.broken in omega arith

pub one : (g : Geometry) (image : List Sector) (a b : Rule) (s t : ℕ) → FirstGroupsDamage g image a s → FirstGroupsDamage g image b t → (a ≡ b) × (s ≡ t)
one g image a b s t x y =
    elim (cases_order (groups_rule_number a) (groups_rule_number b)) [
      | inl e ↦
          let same : a ≡ b = same_rule a b e in
          (same, least_sector g image b s t (subst (λ (r : Rule). FirstGroupsDamage g image r s) same x) y)
      | inr (inl lt) ↦ absurd (unbroken g image a s (y.before a lt) x.broken)
      | inr (inr gt) ↦ absurd (unbroken g image b t (x.before b gt) y.broken)
    ]

pub none : (g : Geometry) (image : List Sector) (a : Rule) (s : ℕ) → AreGroupsSound g image → FirstGroupsDamage g image a s → ⊥
none g image a s sound x = unbroken g image a s (sound a) x.broken

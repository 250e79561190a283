-- One sector more that is kept.
use Rattle.std.proofs.Common.{◌≡◌, ℕ, Bool, true, false, cond, List, Option, Some, refl, sym, subst}
use Rattle.std.specs.Prelude.{IfSome, IsSome}
use Rattle.std.specs.Ordering.{is_eq, nat_cmp}
use Rattle.std.specs.FinMap.{nat_cmp-IsAntisymmetric}
use Rattle.std.specs.BTreeMap.{BTreeMap, Updates, get, is_at}
use Rattle.std.specs.declared.cmp.Ordering.{Ordering}
use Rattle.std.specs.declared.cmp.Ordering.TheVariants.{Less, Equal, Greater}
use Rattle.std.proofs.lemmas.Bool.{false≢true}
use Rattle.life_bytes.specs.declared.sector.Sector.{Sector}
use Rattle.sound_image.specs.Places.{bytes_at}
use Rattle.mount.specs.Kept.{Grows, Has, StillAgrees}

is_equal : (o : Ordering) → is_eq o ≡ true → o ≡ Equal
is_equal Less e = absurd (false≢true e)
is_equal Equal e = refl
is_equal Greater e = absurd (false≢true e)

same_place : (at q : ℕ) → is_at (nat_cmp at) q ≡ true → at ≡ q
same_place at q e = nat_cmp-IsAntisymmetric at q (is_equal (nat_cmp at q) e)

agrees_by : (P : Sector → Type 0) (b : Bool) (sector : Sector) (old new : Option Sector) → new ≡ cond b (Some sector) old → (b ≡ true → P sector) → IfSome old P → IfSome new P
agrees_by P true sector old new e one was = subst (λ (o : Option Sector). IfSome o P) (sym e) (one refl)
agrees_by P false sector old new e one was = subst (λ (o : Option Sector). IfSome o P) (sym e) was

grows_by : (b : Bool) (sector : Sector) (old new : Option Sector) → new ≡ cond b (Some sector) old → IsSome old → IsSome new
grows_by true sector old new e was = subst (λ (o : Option Sector). IsSome o) (sym e) refl
grows_by false sector old new e was = subst (λ (o : Option Sector). IsSome o) (sym e) was

pub one_agrees : (image : List Sector) (old new : BTreeMap ℕ Sector) (at : ℕ) (sector : Sector) → Updates nat_cmp old new at (Some sector) → bytes_at image at ≡ sector.bytes → StillAgrees image old new
one_agrees image old new at sector puts here was s =
    agrees_by (λ (x : Sector). bytes_at image s ≡ x.bytes) (is_at (nat_cmp at) s) sector (get nat_cmp old s) (get nat_cmp new s) (puts.0 s)
    (λ e. subst (λ (n : ℕ). bytes_at image n ≡ sector.bytes) (same_place at s e) here) (was s)

pub one_grows : (old new : BTreeMap ℕ Sector) (at : ℕ) (sector : Sector) → Updates nat_cmp old new at (Some sector) → Grows old new
one_grows old new at sector puts s was = grows_by (is_at (nat_cmp at) s) sector (get nat_cmp old s) (get nat_cmp new s) (puts.0 s) was

pub one_has : (old new : BTreeMap ℕ Sector) (at : ℕ) (sector : Sector) → Updates nat_cmp old new at (Some sector) → Has new at
one_has old new at sector puts = subst (λ (o : Option Sector). IsSome o) (sym puts.1) refl

-- Groups that are loaded one after the other.
use Rattle.std.proofs.Common.{◌≡◌, ◌<◌, ◌++◌, ◌∷◌, [], ℕ, zero, suc, List, Some, length, slice_get, inl, inr, refl, sym, subst, ◌∙◌, arith}
use Rattle.std.proofs.lemmas.Bool.{cases_lt}
use Rattle.std.proofs.lemmas.Option.{slice_get_within}
use Rattle.geometry.specs.declared.shape.Geometry.{Geometry}
use Rattle.life_table.specs.declared.table.Table.{Table}
use Rattle.sound_image.specs.Encoding.{Layouts}
use Rattle.group_ops.specs.Loading.{IsLoadCause}
use Rattle.group_ops.specs.declared.fault.LoadFault.{LoadFault}
use Rattle.group_ops.specs.declared.fault.LoadFault.TheVariants.{Damaged, ReadFault, NoMemory}
use Rattle.group_ops.specs.Values.{StateValue}
use Rattle.orphan_frees.specs.Loaded.{IsGroupAt}

get_before : (xs : List StateValue) (x : StateValue) (k : ℕ) → k < length xs → slice_get (xs ++ x ∷ []) k ≡ slice_get xs k
get_before [] x k low = absurd (omega arith)
get_before (y ∷ ys) x zero low = refl
get_before (y ∷ ys) x (suc k) low = get_before ys x k (omega arith)

get_last : (xs : List StateValue) (x : StateValue) (k : ℕ) → k ≡ length xs → slice_get (xs ++ x ∷ []) k ≡ Some x
get_last [] x zero is = refl
get_last [] x (suc k) is = absurd (omega arith)
get_last (y ∷ ys) x zero is = absurd (omega arith)
get_last (y ∷ ys) x (suc k) is = get_last ys x k (omega arith)

get_none : (xs : List StateValue) (x s : StateValue) (k : ℕ) → length xs < k → slice_get (xs ++ x ∷ []) k ≡ Some s → k ≡ length xs
get_none [] x s zero past is = absurd (omega arith)
get_none [] x s (suc k) past is = let bad : slice_get [] k ≡ Some s = is in absurd (omega (arith, slice_get_within [] k s bad))
get_none (y ∷ ys) x s zero past is = absurd (omega arith)
get_none (y ∷ ys) x s (suc k) past is = let e = get_none ys x s k (omega arith) is in omega (arith, e)

same_some : (x s : StateValue) → Some x ≡ Some s → x ≡ s
same_some x s e = cc e

-- one group more
pub each_more : (g : Geometry) (t : Table) (layouts : Layouts) (states : List StateValue) (new : StateValue)
    → ((group : ℕ) (s : StateValue) → slice_get states group ≡ Some s → IsGroupAt g t layouts group s) → IsGroupAt g t layouts (length states) new
    → (group : ℕ) (s : StateValue) → slice_get (states ++ new ∷ []) group ≡ Some s → IsGroupAt g t layouts group s
each_more g t layouts states new each last group s found = elim (cases_lt group (length states)) [
  | inl front ↦ each group s (sym (get_before states new group front) ∙ found)
  | inr past ↦ elim (cases_lt (length states) group) [
    | inl beyond ↦ absurd (omega (arith, beyond, get_none states new s group beyond found))
    | inr least ↦
        let is : group ≡ length states = omega (arith, past, least) in
        let one : new ≡ s = same_some new s (sym (get_last states new group is) ∙ found) in
        subst (λ (x : StateValue). IsGroupAt g t layouts group x) one (subst (λ (k : ℕ). IsGroupAt g t layouts k new) (sym is) last)
  ]
]

-- memory has no faults
pub no_fault : (fault : LoadFault) (before now : ℕ) → IsLoadCause 0 0 fault → IsLoadCause before now fault
no_fault (Damaged rule sector) before now cause = tt
no_fault ReadFault before now cause = absurd (omega (arith, cause))
no_fault NoMemory before now cause = tt

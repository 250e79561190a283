-- A map whose keys are vectors of bytes: what a change at some bytes leaves at any bytes.
use Rattle.std.proofs.Common.{if◌then◌else◌, ◌≡◌, ℕ, Bool, true, false, cond, List, [], ◌∷◌, Option, Some, refl, sym, ap, ◌∙◌, inl, inr}
use Rattle.std.specs.Ordering.{is_eq, nat_cmp}
use Rattle.std.specs.Cmp.{eq_by_cmp_equiv}
use Rattle.std.specs.Cmp.Lexicographic.{slice_cmp, bytes_decides, nat_list_cmp_total, nat_list_eq_equiv}
use Rattle.std.specs.Str.{bytes_eq}
use Rattle.std.specs.Map.{lookup, IsKeyTest, AreApart, KeepsOthers}
use Rattle.std.specs.declared.vec.Vec.{Vec}
use Rattle.std.specs.BTreeMap.{BTreeMap, UpdatesBy}
use Rattle.std.proofs.lemmas.Bool.{cases_Bool, cond-true, cond-false}
use Rattle.std.proofs.lemmas.Map.Text.{is_eq-slice_cmp}
use Rattle.life_table.specs.declared.key.Key.{Key}
use Rattle.script_names.specs.Bindings.{found, pairs}

-- bytes that equal some equal no others
apart : (old other here : List ℕ) → bytes_eq old other ≡ false → is_eq (slice_cmp nat_cmp old here) ≡ true → is_eq (slice_cmp nat_cmp other here) ≡ false
apart old other here differs same =
    is_eq-slice_cmp other here ∙ nat_list_eq_equiv.symm other here ∙ sym (nat_list_eq_equiv.congr old here other (sym (is_eq-slice_cmp old here) ∙ same)) ∙ differs

others : {K X : Type 0} (eq : K → K → Bool) (test : K → Bool) (old new : List (K × X)) → KeepsOthers eq test old new → (other : K → Bool) → IsKeyTest eq other → AreApart test other
    → lookup other new ≡ lookup other old
unfolding KeepsOthers
others eq test old new keeps = keeps

-- a look-up in a map by bytes is one in its pairs
pub found_by : {Y : Type 0} (name : List ℕ) (entries : List (Vec ℕ Y × Key)) → lookup (λ k. is_eq (slice_cmp nat_cmp name k.items)) entries ≡ found (pairs entries) name
found_by name [] = refl
found_by name (e ∷ es) =
    ap (λ b. cond b (Some e.1) (lookup (λ k. is_eq (slice_cmp nat_cmp name k.items)) es)) (is_eq-slice_cmp name e.0.items)
    ∙ ap (λ o. cond (bytes_eq name e.0.items) (Some e.1) o) (found_by name es)

-- a map after a change at some bytes
pub found_after : {Y : Type 0} (bytes : List ℕ) (old new : BTreeMap (Vec ℕ Y) Key) (key : Option Key)
    → UpdatesBy (λ (x y : Vec ℕ Y). slice_cmp nat_cmp x.items y.items) (λ (k : Vec ℕ Y). slice_cmp nat_cmp bytes k.items) old new key
    → (name : List ℕ) → found (pairs new.entries) name ≡ (if bytes_eq name bytes then key else found (pairs old.entries) name)
found_after {Y} bytes old new key updates name =
    elim (cases_Bool (bytes_eq name bytes)) [
      | inl same ↦
          ap (found (pairs new.entries)) ((bytes_decides name bytes).0 same) ∙ sym (found_by bytes new.entries) ∙ updates.1
          ∙ sym (cond-true (bytes_eq name bytes) key (found (pairs old.entries) name) same)
      | inr differs ↦
          sym (found_by name new.entries)
          ∙ others _ _ _ _ updates.3 _ (λ (x y : Vec ℕ Y). (eq_by_cmp_equiv nat_list_cmp_total).congr name x.items y.items)
          (λ (k : Vec ℕ Y). apart bytes name k.items (nat_list_eq_equiv.symm bytes name ∙ differs))
          ∙ found_by name old.entries
          ∙ sym (cond-false (bytes_eq name bytes) key (found (pairs old.entries) name) differs)
    ]

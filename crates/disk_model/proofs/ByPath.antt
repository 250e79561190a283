-- The disks of a map from paths, seen by the bytes of the paths.
use Rattle.std.proofs.Common.{◌≡◌, ◌≢◌, ℕ, Bool, true, false, cond, List, [], ◌∷◌, Option, None, Some, String, IfSome, All, refl, sym, ap, subst, ◌∙◌, rules}
use Rattle.std.specs.BTreeMap.{BTreeMap, is_at, get_by_text, UpdatesBy}
use Rattle.std.specs.Cmp.Lexicographic.{slice_cmp}
use Rattle.std.specs.Map.{lookup, values_of}
use Rattle.std.specs.Ordering.{nat_cmp}
use Rattle.std.specs.Str.{bytes_eq}
use Rattle.std.specs.String.{string_bytes, string_cmp}
use Rattle.std.specs.declared.alloc.Global.{Global}
use Rattle.std.proofs.lemmas.Map.Text.{is_eq-slice_cmp, btree_map_updates_text}
use Rattle.std.proofs.lemmas.Bool.{false_from_ne_true}
use Rattle.std.proofs.lemmas.Slice.Eq.{bytes_eq-Decides}
use Rattle.std.proofs.lemmas.Map.Views.{IfSome-lookup_from_All}
use Rattle.disk_model.specs.Disk.{Cell, HasOneImage, as_read, settled_as}
use Rattle.disk_model.specs.DiskLaws.{settled_as-as_read}
use Rattle.disk_model.specs.Gift.{by_path}
use Rattle.disk_model.specs.MemoryImages.{image_of}

-- a disk is found by the bytes of its path
pub lookup-by_path : {D : Type 0} (entries : List (String Global × D)) (path : List ℕ) → lookup (bytes_eq path) (by_path entries) ≡ lookup (is_at (λ k. slice_cmp nat_cmp path (string_bytes k))) entries
lookup-by_path [] path = refl
lookup-by_path {D} (entry ∷ entries) path =
    ap (λ rest. cond (bytes_eq path (string_bytes entry.0)) (Some entry.1) rest) (lookup-by_path entries path)
    ∙ ap (λ b. cond b (Some entry.1) (lookup (is_at (λ k. slice_cmp nat_cmp path (string_bytes k))) entries)) (sym (is_eq-slice_cmp path (string_bytes entry.0)))

same_bytes : (xs ys : List ℕ) → bytes_eq xs ys ≡ true → xs ≡ ys
same_bytes xs ys is = search (rules, bytes_eq-Decides)

bytes_eq-differ : (path other : List ℕ) → other ≢ path → bytes_eq path other ≡ false
bytes_eq-differ path other differs =
    false_from_ne_true (bytes_eq path other) (λ is. differs (sym (same_bytes path other is)))

module _ {D : Type 0} (m n : BTreeMap (String Global) D) (path : List ℕ) (w : Option D) where
  -- after a change at a path it has what was put there
  pub by_path-same : UpdatesBy string_cmp (λ k. slice_cmp nat_cmp path (string_bytes k)) m n w → lookup (bytes_eq path) (by_path n.entries) ≡ w
  by_path-same updates = lookup-by_path n.entries path ∙ updates.1

  -- and each other path what it had
  pub by_path-others : UpdatesBy string_cmp (λ k. slice_cmp nat_cmp path (string_bytes k)) m n w → (other : List ℕ) → other ≢ path → lookup (bytes_eq other) (by_path n.entries) ≡ lookup (bytes_eq other) (by_path m.entries)
  by_path-others updates other differs =
      lookup-by_path n.entries other
      ∙ btree_map_updates_text path m n w updates other
      ∙ ap (λ b. cond b w (get_by_text m other)) (bytes_eq-differ path other differs)
      ∙ sym (lookup-by_path m.entries other)

-- the disk that stands at a path has the image that is known of it
pub IfSome-image_of : {D : Type 0} (known : Bool) (cells : D → List Cell) (stands : Option D) (disk : D) → stands ≡ Some disk → HasOneImage (cells disk) → IfSome (image_of known cells stands) (λ image. cells disk ≡ settled_as image)
IfSome-image_of true cells None disk same one = tt
IfSome-image_of true cells (Some other) disk same one =
    let there : other ≡ disk = cc in
    settled_as-as_read (cells disk) one ∙ ap (λ d. settled_as (as_read (cells d))) (sym there)
IfSome-image_of false cells stands disk same one = tt

-- what is known of each disk is known of one that is found
pub known_of_found : {D : Type 0} (P : D → Type 0) (test : String Global → Bool) (entries : List (String Global × D)) (disk : D) → All P (values_of entries) → lookup test entries ≡ Some disk → P disk
known_of_found {D} P test entries disk known found =
    let Goal : Option D → Type 0 = λ o. IfSome o P in subst Goal found (IfSome-lookup_from_All P test entries known)

-- Lists in the order of a key, with each key once.
use Rattle.std.specs.Prelude.{◌≡◌, ◌<◌, ◌≤◌, ◌+◌, ◌==◌, nat_lt, if◌then◌else◌, ℕ, List, [], ◌∷◌, length, slice_index_or}
use Rattle.log_record.specs.declared.image.Image.{Image}

-- an element put in its place, over one of the same key
abbrev pub put_by : {X : Type 0} → (X → ℕ) → X → List X → List X
put_by key x [] = x ∷ []
put_by key x (y ∷ ys) = if nat_lt (key x) (key y) then x ∷ (y ∷ ys) else if key x == key y then x ∷ ys else y ∷ put_by key x ys

-- an image put in its place
abbrev pub put : Image → List Image → List Image
put image images = put_by (λ i. i.home) image images

-- the images put in their places, the first of them first
abbrev pub put_all : List Image → List Image → List Image
put_all [] into = into
put_all (image ∷ images) into = put_all images (put image into)

-- the keys ascend from a number on
abbrev pub KeysRise : {X : Type 0} → (X → ℕ) → ℕ → List X → Type 0
KeysRise key low [] = Unit {0}
KeysRise key low (x ∷ xs) = (low ≤ key x) × KeysRise key (key x + 1) xs

-- the element at a place has the key
pub record IsAt {X : Type 0} (key : X → ℕ) (xs : List X) (wanted at : ℕ) : Type 0 where
  pub within : at < length xs
  pub same : (d : X) → key (slice_index_or xs at d) ≡ wanted

-- the key would go to a place: smaller ones before it, and greater ones from there on
pub record IsGap {X : Type 0} (key : X → ℕ) (xs : List X) (wanted at : ℕ) : Type 0 where
  pub within : at ≤ length xs
  pub before : (k : ℕ) (d : X) → k < at → key (slice_index_or xs k d) < wanted
  pub behind : (k : ℕ) (d : X) → at ≤ k → k < length xs → wanted < key (slice_index_or xs k d)

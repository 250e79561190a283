-- What the words of a make and its end come to.
use Rattle.std.proofs.Common.{◌≡◌, inl, inr, ◌∷◌, [], ℕ, List, Option, None, Some, String, Global, IsSome, codes, slice_get, refl, sym, ap, ◌∙◌, subst, arith}
use Rattle.std.proofs.lemmas.Fmt.{decimal_injective}
use Rattle.std.specs.Fmt.{decimal}
use Rattle.std.specs.Option.{MatchOption}
use Rattle.geometry.specs.declared.shape.Geometry.{Geometry}
use Rattle.script.specs.declared.status.Status.{Status}
use Rattle.script.specs.declared.status.Status.TheVariants as status
use Rattle.life_table.specs.declared.types.MountRecord.{MountRecord}
use Rattle.script.specs.declared.answers.GroupStory.{GroupStory}
use Rattle.script.specs.declared.answers.Said.{Said}
use Rattle.life_cli.specs.Form.{IsMake, IsMade, IsOnImage, made_geometry}
use Rattle.life_cli.specs.Making.{RunsMake}
use Rattle.life_cli.specs.Outcome.{IsEarly, IsGiven, Yields}
use Rattle.life_cli.specs.Outside.{ImagesSeen}

-- words that name an image name one path
pub at_path : (P : List ℕ → Type 0) (words : List (String Global)) (word path other : List ℕ) → IsOnImage words word path → IsOnImage words word other
    → P path → P other
at_path P words word path other first again holds =
    let same : word ∷ path ∷ [] ≡ word ∷ other ∷ [] = sym first.0 ∙ again.0 in
    let paths : path ≡ other = cc in
    subst P paths holds

same_geometry : (g h : Geometry) → IsMade g → IsMade h → decimal g.groups ≡ decimal h.groups → decimal g.blocks ≡ decimal h.blocks
    → decimal g.ring ≡ decimal h.ring → g ≡ h
same_geometry g h made other groups blocks ring =
    let a : g.groups ≡ h.groups = decimal_injective g.groups h.groups (omega (arith, made.0.groups)) (omega (arith, other.0.groups)) groups in
    let b : g.blocks ≡ h.blocks = decimal_injective g.blocks h.blocks (omega (arith, made.0.blocks)) (omega (arith, other.0.blocks)) blocks in
    let c : g.ring ≡ h.ring = decimal_injective g.ring h.ring (omega (arith, made.0.ring)) (omega (arith, other.0.ring)) ring in
    made.1 ∙ ap (λ (n : ℕ). made_geometry n g.blocks g.ring) a ∙ ap (λ (n : ℕ). made_geometry h.groups n g.ring) b
    ∙ ap (λ (n : ℕ). made_geometry h.groups h.blocks n) c ∙ sym other.1

-- the words of a make name one path and one geometry
pub at_one : (P : List ℕ → Geometry → Type 0) (words : List (String Global)) (path other : List ℕ) (g h : Geometry) → IsMake words path g → IsMake words other h
    → P path g → P other h
at_one P words path other g h make again holds =
    let same : codes "make" ∷ path ∷ decimal g.groups ∷ decimal g.blocks ∷ decimal g.ring ∷ []
    ≡ codes "make" ∷ other ∷ decimal h.groups ∷ decimal h.blocks ∷ decimal h.ring ∷ [] = sym make.0 ∙ again.0 in
    let paths : path ≡ other = cc in
    let groups : decimal g.groups ≡ decimal h.groups = cc in
    let blocks : decimal g.blocks ≡ decimal h.blocks = cc in
    let ring : decimal g.ring ≡ decimal h.ring = cc in
    subst (λ (p : List ℕ). P p h) paths (subst (λ (k : Geometry). P path k) (same_geometry g h make.2 again.2 groups blocks ring) holds)

-- a status that comes neither of the sink nor of running out of memory was the run's own
pub own_status : (result ended x : Status) → Yields result ended → (status.SinkFault ≡ x → ⊥) → (status.NoMemory ≡ x → ⊥) → result ≡ x → ended ≡ x
own_status result ended x (inl e) sink memory is = sym e ∙ is
own_status result ended x (inr (inl e)) sink memory is = absurd (sink (sym e ∙ is))
own_status result ended x (inr (inr e)) sink memory is = absurd (memory (sym e ∙ is))

-- the same of what is told in another way
pub RunsMake-told : {I D : Type 0} (seen : ImagesSeen I D) (path : List ℕ) (g : Geometry) (images images_after : I) (own : Status) (disk disk' : Option D)
    (mounts mounts' : List MountRecord) (groups groups' : List GroupStory) (said said' : List Said) → disk' ≡ disk → mounts' ≡ mounts → groups' ≡ groups → said' ≡ said
    → RunsMake seen path g images images_after own disk mounts groups said → RunsMake seen path g images images_after own disk' mounts' groups' said'
RunsMake-told seen path g images images_after own disk disk' mounts mounts' groups groups' said said' d m g' s runs =
    subst (λ (o : Option _). RunsMake seen path g images images_after own o mounts' groups' said') (sym d)
    (subst (λ (l : List MountRecord). RunsMake seen path g images images_after own disk l groups' said') (sym m)
    (subst (λ (l : List GroupStory). RunsMake seen path g images images_after own disk mounts l said') (sym g')
    (subst (λ (l : List Said). RunsMake seen path g images images_after own disk mounts groups l) (sym s) runs)))

-- the words name its path, and a disk that was created is handed back
pub make_back : {I D : Type 0} (seen : ImagesSeen I D) (words : List (String Global)) (path : List ℕ) (g : Geometry) (images images_after : I) (own : Status)
    (disk : Option D) (mounts : List MountRecord) (groups : List GroupStory) (said : List Said) → IsMake words path g → RunsMake seen path g images images_after own disk mounts groups said
    → MatchOption disk ((seen.given images_after ≡ seen.given images) × IsEarly mounts groups said) (λ _. IsGiven words (seen.given images) (seen.given images_after))
make_back seen words path g images images_after own None mounts groups said is runs = (runs.makes.0, runs.early)
make_back seen words path g images images_after own (Some d) mounts groups said is runs =
    (path, ap (λ (l : List (List ℕ)). slice_get l 1) is.0, (runs.makes.0, inr runs.makes.1))

-- one was created where it ended well
pub make_disk : {I D : Type 0} (seen : ImagesSeen I D) (path : List ℕ) (g : Geometry) (images images_after : I) (own ended : Status) (disk : Option D)
    (mounts : List MountRecord) (groups : List GroupStory) (said : List Said) → RunsMake seen path g images images_after own disk mounts groups said → Yields ended own → ended ≡ status.Good
    → IsSome disk
make_disk seen path g images images_after own ended None mounts groups said runs yields good =
    let well : own ≡ status.Good = own_status ended own status.Good yields (λ e. cc) (λ e. cc) good in
    let not : status.OpenFault ≡ status.Good = own_status own status.OpenFault status.Good runs.makes.1 (λ e. cc) (λ e. cc) well in
    absurd cc
make_disk seen path g images images_after own ended (Some d) mounts groups said runs yields good = refl

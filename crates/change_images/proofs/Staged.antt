-- What a push leaves.
use Rattle.std.proofs.Common.{◌≡◌, ◌-◌, ℕ, Bool, None, Some, true, false, cond, List, [], ◌∷◌, ◌++◌, length, refl, ap, sym, subst, ◌∙◌, append-nil, arith}
use Rattle.std.specs.Prelude.{◌↔◌, IsTrue}
use Rattle.std.proofs.lemmas.Bool.{false≢true}
use Rattle.geometry.specs.declared.shape.Geometry.{Geometry}
use Rattle.log_record.specs.declared.image.Image.{Image}
use Rattle.encoded_changes.specs.Carry.{image_for}
use Rattle.change_images.specs.Candidates.{Candidate, StagingValue, had_bytes, image_if_changed, same_bytes, with_candidate}
use Rattle.change_images.proofs.Gathered.{same_bytes-is, same_bytes-refl}

abbrev made : StagingValue → List Image → ℕ → StagingValue
made s images spare = record { geometry = s.geometry; group = s.group; images = images; spare = spare }

by_test : (g : Geometry) (group : ℕ) (c : Candidate) → image_if_changed g group c ≡ cond (had_bytes c.before c.after) [] (image_for g group c.place c.after ∷ [])
unfolding image_if_changed
by_test g group c = refl

with_more : (s : StagingValue) (c : Candidate) (more : List Image) → image_if_changed s.geometry s.group c ≡ more → made s (s.images ++ more) (s.spare - length more) ≡ with_candidate s c
with_more s c more e = ap (λ (l : List Image). made s (s.images ++ l) (s.spare - length l)) (sym e)

pub pushed : (inside now : StagingValue) (c : Candidate) (image : Image) (images : List Image) (spare : ℕ) → inside ≡ now → had_bytes c.before c.after ≡ false
    → image ≡ image_for now.geometry now.group c.place c.after → images ≡ inside.images ++ image ∷ [] → spare ≡ inside.spare - 1
    → record { geometry = inside.geometry; group = inside.group; images = images; spare = spare } ≡ with_candidate now c
pushed inside now c image images spare same test is list room =
    subst (λ (s : StagingValue). images ≡ s.images ++ image ∷ [] → spare ≡ s.spare - 1 → made s images spare ≡ with_candidate now c) (sym same)
    (λ list room.
    ap (λ (l : List Image). made now l spare) (list ∙ ap (λ (x : Image). now.images ++ x ∷ []) is)
    ∙ ap (made now (now.images ++ image_for now.geometry now.group c.place c.after ∷ [])) room
    ∙ with_more now c (image_for now.geometry now.group c.place c.after ∷ []) (by_test now.geometry now.group c ∙ ap (λ b. cond b [] (image_for now.geometry now.group c.place c.after ∷ [])) test))
    list room

pub passed_over : (s : StagingValue) (c : Candidate) → had_bytes c.before c.after ≡ true → s ≡ with_candidate s c
passed_over s c test =
    let none : s.spare - 0 ≡ s.spare = omega arith in
    ap (λ (l : List Image). made s l s.spare) (sym (append-nil s.images))
    ∙ ap (made s (s.images ++ [])) (sym none)
    ∙ with_more s c [] (by_test s.geometry s.group c ∙ ap (λ b. cond b [] (image_for s.geometry s.group c.place c.after ∷ [])) test)

-- the test of the code is that of the images
pub tested : (answer : Bool) (before after : List ℕ) → (IsTrue answer ↔ (before ≡ after)) → had_bytes (Some before) after ≡ answer
unfolding had_bytes
tested answer before after both =
    elim (same_bytes before after) as (λ b. same_bytes before after ≡ b → b ≡ answer) [
      | true ↦ λ is. sym (both.1 (same_bytes-is before after is))
      | false ↦ λ is. elim answer as (λ a. (IsTrue a ↔ (before ≡ after)) → false ≡ a) [
        | true ↦ λ told. absurd (false≢true (sym is ∙ ap (same_bytes before) (sym (told.0 refl)) ∙ same_bytes-refl before))
        | false ↦ λ told. refl
      ] both
    ] refl

pub is_new : (after : List ℕ) → had_bytes None after ≡ false
unfolding had_bytes
is_new after = refl

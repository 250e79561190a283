use Rattle.std.proofs.Common.{◌≡◌, ◌+◌, ◌≤◌, ℕ, suc, List, [], ◌∷◌, length, map, refl, ap, arith}
use Rattle.life_limits.specs.declared.TheConstants.{MAX_IMAGES}
use Rattle.change_images.specs.Candidates.{Candidate, changed_images}
use Rattle.change_images.proofs.Gathered.{images-append, images-few, images_are}
use Rattle.change_images.proofs.laws.candidates_give_the_images.Goals as goal

few_places : (cs : List Candidate) → length (map (λ (c : Candidate). c.place) cs) ≡ length cs
few_places [] = refl
few_places (c ∷ cs) = ap suc (few_places cs)

pub returns-clause-images : goal.returns-clause-images
returns-clause-images c = λ g group layouts others chunks next places cs enough same each. (
  images_are g group layouts others chunks next places cs enough same each,
  omega (arith, images-few g group cs, few_places cs, ap (λ (l : List ℕ). length l) same, enough.few),
)

pub returns-clause-few : goal.returns-clause-few
returns-clause-few c = images-few

pub returns-clause-joined : goal.returns-clause-joined
returns-clause-joined c = images-append

-- Picks that are put in their places, and the images that they name.
use Rattle.std.proofs.Common.{◌≡◌, ℕ, ◌+◌, ◌<◌, ◌≤◌, List, [], ◌∷◌, ◌++◌, length, get_or, take, drop, map, sym, ap, ◌∙◌, arith}
use Rattle.std.proofs.lemmas.List.{take_more, take-take, take-append-drop, get_or_default, append-nil}
use Rattle.std.proofs.lemmas.Grind.{flat_map-append}
use Rattle.std.proofs.lemmas.List.Elements.{All-weaker}
use Rattle.log_record.specs.declared.image.Image.{Image}
use Rattle.log_record.specs.declared.image.Commit.{Commit}
use Rattle.log_batch.specs.declared.find.Pick.{Pick}
use Rattle.log_batch.specs.Newest.{commit_images}
use Rattle.log_batch.specs.Picks.{ArePicks, Names, picked_image}
use Rattle.log_batch.specs.Put.{put, put_all, put_by}
use Rattle.log_batch.specs.PutLaws.{Rises-put, All-put, map-put}
use Rattle.log_batch.specs.NewestLaws.{put_all-append, length-put_all}

-- the pick of an image of a commit
pub names : (commits : List Commit) (at i : ℕ) (commit : Commit) (images : List Image) (d : Image) → at < length commits
    → commit ≡ get_or commits at commit → images ≡ commit.images → i < length images
    → Names commits (record { home = (get_or images i d).home; commit = at; image = i })
    × (picked_image commits (record { home = (get_or images i d).home; commit = at; image = i }) ≡ get_or images i d)
names commits at i commit images d within is of inside =
    let none : Commit = record { group = 0; images = [] } in
    let blank : Image = record { home = (get_or images i d).home; sector = record { bytes = [] } } in
    let here : (get_or commits at none).images ≡ images = ap (λ (c : Commit). c.images) (get_or_default commits at none commit within ∙ sym is) ∙ sym of in
    let found : get_or (get_or commits at none).images i blank ≡ get_or images i d =
    ap (λ (l : List Image). get_or l i blank) here ∙ get_or_default images i blank d inside in
    (record { commit = within; image = rw here inside; home = ap (λ (m : Image). m.home) found }, found)

-- the image of a pick
pub named : (commits : List Commit) (pick : Pick) (commit : Commit) (images : List Image) → Names commits pick
    → commit ≡ get_or commits pick.commit commit → images ≡ commit.images
    → (pick.image < length images) × ((d : Image) → get_or images pick.image d ≡ picked_image commits pick)
named commits pick commit images is at of =
    let none : Commit = record { group = 0; images = [] } in
    let here : (get_or commits pick.commit none).images ≡ images = ap (λ (c : Commit). c.images) (get_or_default commits pick.commit none commit is.commit ∙ sym at) ∙ sym of in
    let inside : pick.image < length images = rw here at is.image in (
      inside,
      λ d. get_or_default images pick.image d (record { home = pick.home; sector = record { bytes = [] } }) inside
          ∙ ap (λ (l : List Image). get_or l pick.image (record { home = pick.home; sector = record { bytes = [] } })) (sym here),
    )

-- a pick that is put in its place
pub put_one : (commits : List Commit) (picks : List Pick) (pick : Pick) → ArePicks commits picks → Names commits pick
    → ArePicks commits (put_by (λ p. p.home) pick picks)
    × (map (picked_image commits) (put_by (λ p. p.home) pick picks) ≡ put (picked_image commits pick) (map (picked_image commits) picks))
put_one commits picks pick are is = (
  record { rise = Rises-put (λ (p : Pick). p.home) pick 0 picks are.rise (omega arith); names = All-put (Names commits) (λ (p : Pick). p.home) pick picks is are.names },
  map-put (picked_image commits) (λ (p : Pick). p.home) (λ (m : Image). m.home) pick picks is.home
      (All-weaker (Names commits) (λ (p : Pick). (picked_image commits p).home ≡ p.home) (λ p n. n.home) picks are.names),
)

-- one commit more
pub images_more : (commits : List Commit) (at : ℕ) (d : Commit) → at < length commits
    → commit_images (take (at + 1) commits) ≡ commit_images (take at commits) ++ (get_or commits at d).images
images_more commits at d within =
    ap commit_images (take_more commits at d within)
    ∙ flat_map-append (λ (c : Commit). c.images) (take at commits) (get_or commits at d ∷ [])
    ∙ ap (λ (l : List Image). commit_images (take at commits) ++ l) (append-nil (get_or commits at d).images)

pub commits_more : (commits : List Commit) (at : ℕ) (d : Commit) → at < length commits
    → put_all (commit_images (take (at + 1) commits)) [] ≡ put_all (get_or commits at d).images (put_all (commit_images (take at commits)) [])
commits_more commits at d within =
    ap (λ (xs : List Image). put_all xs []) (images_more commits at d within) ∙ put_all-append (commit_images (take at commits)) (get_or commits at d).images []

-- more commits give no fewer images
pub puts_grow : (commits : List Commit) (few many : ℕ) → few ≤ many
    → length (put_all (commit_images (take few commits)) []) ≤ length (put_all (commit_images (take many commits)) [])
puts_grow commits few many le =
    let split : take many commits ≡ take few commits ++ drop few (take many commits) =
    sym (take-append-drop few (take many commits)) ∙ ap (λ (l : List Commit). l ++ drop few (take many commits)) (take-take few many commits le) in
    let all : put_all (commit_images (take many commits)) [] ≡ put_all (commit_images (drop few (take many commits))) (put_all (commit_images (take few commits)) []) =
    ap (λ (l : List Commit). put_all (commit_images l) []) split
    ∙ ap (λ (l : List Image). put_all l []) (flat_map-append (λ (c : Commit). c.images) (take few commits) (drop few (take many commits)))
    ∙ put_all-append (commit_images (take few commits)) (commit_images (drop few (take many commits))) [] in
    rw all (length-put_all (commit_images (drop few (take many commits))) (put_all (commit_images (take few commits)) []))

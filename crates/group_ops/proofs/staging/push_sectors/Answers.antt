use Rattle.std.proofs.Common.{◌≡◌, ◌<◌, ◌+◌, ℕ, zero, suc, List, [], ◌∷◌, Some, length, map, get_or, refl, ap, sym, subst, arith, ◌∙◌}
use Rattle.std.specs.List.{range_with_len}
use Rattle.std.proofs.lemmas.List.FromFn.{length-map-range_with_len, map-range_with_len_more}
use Rattle.life_bytes.specs.declared.sector.Sector.{Sector}
use Rattle.life_bytes.specs.Sectors.{zero_sector}
use Rattle.geometry.specs.declared.shape.Geometry.{Geometry}
use Rattle.geometry.specs.Places.{group_sectors}
use Rattle.sound_image.specs.Places.{bytes_at}
use Rattle.change_images.specs.Candidates.{Candidate, StagingValue, with_candidate}
use Rattle.group_ops.specs.Staging.{candidate_at, with_candidates}
use Rattle.group_ops.proofs.Pushing.{ImagesJoin, with_none, with_one_more}
use Rattle.group_ops.proofs.staging.push_sectors.Goals as goal

any : (xs : List Sector) (k : ℕ) (d e : Sector) → k < length xs → get_or xs k d ≡ get_or xs k e
any [] k d e low = absurd (omega arith)
any (x ∷ xs) zero d e low = refl
any (x ∷ xs) (suc k) d e low = any xs k d e (omega arith)

step : ImagesJoin → (old mid new : StagingValue) (place index : ℕ) (before after : List Sector) (b a : Sector) → mid ≡ with_candidates old (map (candidate_at place before after) (range_with_len 0 index))
    → new ≡ with_candidate mid (record { place = place + index; before = Some b.bytes; after = a.bytes }) → b ≡ get_or before index zero_sector → a ≡ get_or after index zero_sector
    → new ≡ with_candidates old (map (candidate_at place before after) (range_with_len 0 (index + 1)))
unfolding bytes_at
step join old mid new place index before after b a inv pushed first second =
    let e : 0 + index ≡ index = omega arith in
    pushed
    ∙ ap (λ (x : Sector). with_candidate mid (record { place = place + index; before = Some x.bytes; after = a.bytes })) first
    ∙ ap (λ (x : Sector). with_candidate mid (record { place = place + index; before = Some (get_or before index zero_sector).bytes; after = x.bytes })) second
    ∙ ap (λ (v : StagingValue). with_candidate v (candidate_at place before after index)) inv
    ∙ with_one_more join old (map (candidate_at place before after) (range_with_len 0 index)) (candidate_at place before after index)
    ∙ ap (λ (cs : List Candidate). with_candidates old cs) (sym (map-range_with_len_more (candidate_at place before after) 0 index index e))

pub loop-index-init : goal.loop-index-init
loop-index-init c = sym (with_none c.args.staging.now)

pub overflow_cast-index : goal.overflow_cast-index
overflow_cast-index c = omega (arith, c.requires.few, c.loop-index-test.true)

pub push-requires-clause-place : goal.push-requires-clause-place
push-requires-clause-place c =
    let same = ap (λ (v : StagingValue). v.geometry) c.loop-index.invariant in
    subst (λ (g : Geometry). c.args.place + c.loop-index.index < group_sectors g) (sym same) (omega (arith, c.requires.place, c.loop-index-test.true))

pub push-requires-clause-room : goal.push-requires-clause-room
push-requires-clause-room c =
    let f = candidate_at c.args.place c.args.before.now c.args.after.now in
    let spare = ap (λ (v : StagingValue). v.spare) c.loop-index.invariant in
    let few = c.candidates_give_the_images.ensures.few c.args.staging.now.geometry c.args.staging.now.group (map f (range_with_len 0 c.loop-index.index)) in
    omega (arith, spare, few, length-map-range_with_len f 0 c.loop-index.index, c.requires.room, c.loop-index-test.true)

pub loop-index-preserved : goal.loop-index-preserved
loop-index-preserved c =
    let d : Sector = record { bytes = [] } in
    let k : ℕ = c.loop-index.index in
    step c.candidates_give_the_images.ensures.joined c.args.staging.now c.loop-index.staging c.push.new.self c.args.place k c.args.before.now c.args.after.now (get_or c.args.before.now k d)
    (get_or c.args.after.now k d) c.loop-index.invariant c.push.ensures (any c.args.before.now k d zero_sector c.loop-index-test.true)
    (any c.args.after.now k d zero_sector (omega (arith, c.requires.alike, c.loop-index-test.true)))

pub returns : goal.returns
returns c =
    let f = candidate_at c.args.place c.args.before.now c.args.after.now in
    let whole : c.loop-index.index ≡ length c.args.before.now = omega (arith, c.loop-index-test.false, c.loop-index.auto.index-end) in
    c.loop-index.invariant ∙ ap (λ (n : ℕ). with_candidates c.args.staging.now (map f (range_with_len 0 n))) whole

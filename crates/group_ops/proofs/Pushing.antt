-- Candidates that are pushed, part by part.
use Rattle.std.proofs.Common.{◌≡◌, ◌<◌, ◌≤◌, ◌+◌, ◌-◌, ◌++◌, ℕ, zero, suc, Bool, true, false, List, [], ◌∷◌, Some, length, map, refl, ap, sym, ◌∙◌, arith, subst, All, length-append, append_assoc}
use Rattle.std.specs.Prelude.{Option, None, if◌then◌else◌, is_some, nat_lt}
use Rattle.std.specs.List.{range_with_len}
use Rattle.std.proofs.lemmas.Bool.{cond-false, cond-true, false≢true, le-ltb, lt-ltb}
use Rattle.std.proofs.lemmas.List.{append-nil}
use Rattle.std.proofs.lemmas.List.Elements.{All-append}
use Rattle.std.proofs.lemmas.List.FromFn.{get_or-map-range_with_len, length-map-range_with_len}
use Rattle.life_bytes.specs.declared.sector.Sector.{Sector}
use Rattle.geometry.specs.declared.shape.Geometry.{Geometry}
use Rattle.log_record.specs.declared.image.Image.{Image}
use Rattle.life_table.specs.declared.table.Table.{Table}
use Rattle.life_table.specs.Table.{group_at}
use Rattle.sound_image.specs.Encoding.{Layouts}
use Rattle.change_images.specs.Candidates.{Candidate, IsCandidate, StagingValue, changed_images, image_if_changed, with_candidate}
use Rattle.change_images.specs.Enough.{in_order}
use Rattle.group_ops.specs.declared.delta.Delta.{Delta}
use Rattle.group_ops.specs.declared.delta.Prior.{Prior}
use Rattle.group_ops.specs.Staging.{IsStagingOf, Leads, PushesPart, bitmap_touched, candidate_at, candidates_at, header_touched, inodes_touched, own_touched, page_touched, touched, with_candidates}
use Rattle.group_ops.specs.Values.{StateValue}

-- what the law on candidates says
abbrev pub FewImages : Type 0
FewImages = (g : Geometry) (group : ℕ) (cs : List Candidate) → length (changed_images g group cs) ≤ length cs

abbrev pub ImagesJoin : Type 0
ImagesJoin = (g : Geometry) (group : ℕ) (xs ys : List Candidate) → changed_images g group (xs ++ ys) ≡ changed_images g group xs ++ changed_images g group ys

no_images : (g : Geometry) (group : ℕ) → changed_images g group [] ≡ []
unfolding changed_images
no_images g group = refl

one_image : (g : Geometry) (group : ℕ) (c : Candidate) → changed_images g group (c ∷ []) ≡ image_if_changed g group c
unfolding changed_images
one_image g group c = append-nil (image_if_changed g group c)

-- ---- lists of candidates

less_none : (n : ℕ) → n - 0 ≡ n
less_none n = omega arith

pub with_none : (s : StagingValue) → with_candidates s [] ≡ s
with_none s =
    let none = no_images s.geometry s.group in
    ap (λ (l : List Image). let v : StagingValue = record { geometry = s.geometry; group = s.group; images = s.images ++ l; spare = s.spare - length l } in v) none
    ∙ ap (λ (l : List Image). let v : StagingValue = record { geometry = s.geometry; group = s.group; images = l; spare = s.spare - 0 } in v) (append-nil s.images)
    ∙ ap (λ (n : ℕ). let v : StagingValue = record { geometry = s.geometry; group = s.group; images = s.images; spare = n } in v) (less_none s.spare)

pub with_one : (s : StagingValue) (c : Candidate) → with_candidate s c ≡ with_candidates s (c ∷ [])
with_one s c =
    let one = one_image s.geometry s.group c in
    cc (one)

pub with_one_more : ImagesJoin → (s : StagingValue) (cs : List Candidate) (c : Candidate) → with_candidate (with_candidates s cs) c ≡ with_candidates s (cs ++ c ∷ [])
with_one_more join s cs c =
    let joined = join s.geometry s.group cs (c ∷ []) in
    let one = one_image s.geometry s.group c in
    let all : changed_images s.geometry s.group (cs ++ c ∷ []) ≡ changed_images s.geometry s.group cs ++ image_if_changed s.geometry s.group c =
    joined ∙ ap (λ (l : List Image). changed_images s.geometry s.group cs ++ l) one in
    let images : (s.images ++ changed_images s.geometry s.group cs) ++ image_if_changed s.geometry s.group c ≡ s.images ++ changed_images s.geometry s.group (cs ++ c ∷ []) =
    append_assoc s.images (changed_images s.geometry s.group cs) (image_if_changed s.geometry s.group c) ∙ ap (λ (l : List Image). s.images ++ l) (sym all) in
    let spare : s.spare - length (changed_images s.geometry s.group cs) - length (image_if_changed s.geometry s.group c) ≡ s.spare - length (changed_images s.geometry s.group (cs ++ c ∷ [])) =
    omega (arith, ap (λ (l : List Image). length l) all, length-append (changed_images s.geometry s.group cs) (image_if_changed s.geometry s.group c)) in
    cc (images, spare)

-- ---- sectors that follow each other

pub at_candidates : (P : Candidate → Type 0) (place : ℕ) (before after : List Sector) → ((k : ℕ) → k < length before → P (candidate_at place before after k)) → All P (candidates_at place before after)
at_candidates P place before after each k d low =
    let many = length-map-range_with_len (candidate_at place before after) 0 (length before) in
    let small : k < length before = omega (arith, many, low) in
    subst P (sym (get_or-map-range_with_len (candidate_at place before after) 0 (length before) k k d small (omega arith))) (each k small)

places_of : (place : ℕ) (before after : List Sector) (l : List ℕ) → map (λ (c : Candidate). c.place) (map (candidate_at place before after) l) ≡ map (λ (k : ℕ). place + k) l
places_of place before after [] = refl
places_of place before after (x ∷ xs) = ap (λ (l : List ℕ). (place + x) ∷ l) (places_of place before after xs)

pub candidate_places : (place n : ℕ) (before after : List Sector) → length before ≡ n → map (λ (c : Candidate). c.place) (candidates_at place before after) ≡ map (λ (k : ℕ). place + k) (range_with_len 0 n)
candidate_places place n before after long = places_of place before after (range_with_len 0 (length before)) ∙ ap (λ (m : ℕ). map (λ (k : ℕ). place + k) (range_with_len 0 m)) long

shifted : (place a n : ℕ) → map (λ (k : ℕ). place + k) (range_with_len a n) ≡ range_with_len (place + a) n
shifted place a zero = refl
shifted place a (suc n) =
    let e : place + (a + 1) ≡ place + a + 1 = omega arith in
    ap (λ (l : List ℕ). (place + a) ∷ l) (shifted place (a + 1) n ∙ ap (λ (b : ℕ). range_with_len b n) e)

pub run_places : (place n : ℕ) → map (λ (k : ℕ). place + k) (range_with_len 0 n) ≡ range_with_len place n
run_places place n = let e : place + 0 ≡ place = omega arith in shifted place 0 n ∙ ap (λ (b : ℕ). range_with_len b n) e

-- ---- parts

none_each : (P : Candidate → Type 0) → All P []
none_each P k d low = absurd (omega arith)

pub part_none : (s : StateValue) (d : Delta) (staging : StagingValue) → IsStagingOf s staging → PushesPart s d [] staging staging
part_none s d staging own = record {
  own = own;
  room = omega arith;
  pushes = λ t layouts u others leads. record {
    candidates = [];
    at = refl;
    each = none_each (IsCandidate s.geometry s.group layouts (group_at t s.group) others (group_at u s.group));
    images = sym (ap (λ (l : List Image). staging.images ++ l) (no_images s.geometry s.group) ∙ append-nil staging.images);
  };
}

map_places : (xs ys : List Candidate) → map (λ (c : Candidate). c.place) (xs ++ ys) ≡ map (λ (c : Candidate). c.place) xs ++ map (λ (c : Candidate). c.place) ys
map_places [] ys = refl
map_places (x ∷ xs) ys = ap (λ (l : List ℕ). x.place ∷ l) (map_places xs ys)

pub part_both : ImagesJoin → (s : StateValue) (d : Delta) (xs ys : List ℕ) (old mid new : StagingValue) → PushesPart s d xs old mid → PushesPart s d ys mid new → PushesPart s d (xs ++ ys) old new
part_both join s d xs ys old mid new one two = record {
  own = two.own;
  room = omega (arith, one.room, two.room, length-append xs ys);
  pushes = λ t layouts u others leads.
      let p = one.pushes t layouts u others leads in
      let q = two.pushes t layouts u others leads in
      record {
        candidates = p.candidates ++ q.candidates;
        at = map_places p.candidates q.candidates ∙ ap (λ (l : List ℕ). l ++ map (λ (c : Candidate). c.place) q.candidates) p.at ∙ ap (λ (l : List ℕ). xs ++ l) q.at;
        each = All-append (IsCandidate s.geometry s.group layouts (group_at t s.group) others (group_at u s.group)) p.candidates q.candidates p.each q.each;
        images =
            q.images
            ∙ ap (λ (l : List Image). l ++ changed_images s.geometry s.group q.candidates) p.images
            ∙ append_assoc old.images (changed_images s.geometry s.group p.candidates) (changed_images s.geometry s.group q.candidates)
            ∙ ap (λ (l : List Image). old.images ++ l) (sym (join s.geometry s.group p.candidates q.candidates));
      };
}

many_places : (cs : List Candidate) → length (map (λ (c : Candidate). c.place) cs) ≡ length cs
many_places [] = refl
many_places (c ∷ cs) = ap (λ (n : ℕ). suc n) (many_places cs)

pub part_run : FewImages → (s : StateValue) (d : Delta) (places : List ℕ) (cs : List Candidate) (old new : StagingValue) → IsStagingOf s old → new ≡ with_candidates old cs
    → map (λ (c : Candidate). c.place) cs ≡ places
    → ((t : Table) (layouts : Layouts) (u : Table) (others : Layouts) → Leads s d t layouts u others → All (IsCandidate s.geometry s.group layouts (group_at t s.group) others (group_at u s.group)) cs)
    → PushesPart s d places old new
part_run few s d places cs old new own is at each =
    let spare : new.spare ≡ old.spare - length (changed_images old.geometry old.group cs) = ap (λ (v : StagingValue). v.spare) is in
    let long : length places ≡ length cs = ap (λ (l : List ℕ). length l) (sym at) ∙ many_places cs in
    let images : changed_images old.geometry old.group cs ≡ changed_images s.geometry s.group cs = ap (λ (g : Geometry). changed_images g old.group cs) own.geometry ∙ ap (λ (n : ℕ). changed_images s.geometry n cs) own.group in
    record {
      own = record { geometry = ap (λ (v : StagingValue). v.geometry) is ∙ own.geometry; group = ap (λ (v : StagingValue). v.group) is ∙ own.group };
      room = omega (arith, spare, long, few old.geometry old.group cs);
      pushes = λ t layouts u others leads. record {
        candidates = cs;
        at = at;
        each = each t layouts u others leads;
        images = ap (λ (v : StagingValue). v.images) is ∙ ap (λ (l : List Image). old.images ++ l) images;
      };
    }

one_each : (P : Candidate → Type 0) (c : Candidate) → P c → All P (c ∷ [])
one_each P c p zero d low = p
one_each P c p (suc k) d low = absurd (omega arith)

pub part_one : FewImages → (s : StateValue) (d : Delta) (c : Candidate) (old new : StagingValue) → IsStagingOf s old → new ≡ with_candidate old c
    → ((t : Table) (layouts : Layouts) (u : Table) (others : Layouts) → Leads s d t layouts u others → IsCandidate s.geometry s.group layouts (group_at t s.group) others (group_at u s.group) c)
    → PushesPart s d (c.place ∷ []) old new
part_one few s d c old new own is candidate =
    part_run few s d (c.place ∷ []) (c ∷ []) old new own (is ∙ with_one old c) refl (λ t layouts u others leads. one_each (IsCandidate s.geometry s.group layouts (group_at t s.group) others (group_at u s.group)) c (candidate t layouts u others leads))

-- ---- a part that a change may leave out

pub part_skipped : (s : StateValue) (d : Delta) (is : Bool) (places : List ℕ) (staging : StagingValue) → is ≡ false → IsStagingOf s staging
    → PushesPart s d (if is then places else []) staging staging
part_skipped s d true places staging out own = absurd (false≢true (sym out))
part_skipped s d false places staging out own = part_none s d staging own

pub part_taken : (s : StateValue) (d : Delta) (is : Bool) (places : List ℕ) (old new : StagingValue) → is ≡ true → PushesPart s d places old new
    → PushesPart s d (if is then places else []) old new
part_taken s d true places old new here part = part
part_taken s d false places old new here part = absurd (false≢true here)

pub taken_long : (is : Bool) (places : List ℕ) → is ≡ true → length (if is then places else []) ≡ length places
taken_long true places here = refl
taken_long false places here = absurd (false≢true here)

pub long_if : (is : Bool) (places : List ℕ) → length (if is then places else []) ≡ (if is then length places else 0)
long_if true places = refl
long_if false places = refl

-- ---- candidates one by one

pub range_more : (a n j : ℕ) → a + n ≡ j → range_with_len a (n + 1) ≡ range_with_len a n ++ j ∷ []
range_more a zero j e = let same : a ≡ j = omega arith in ap (λ (x : ℕ). x ∷ []) same
range_more a (suc n) j e =
    let one : suc n + 1 ≡ suc (n + 1) = omega arith in
    ap (range_with_len a) one ∙ ap (λ (l : List ℕ). a ∷ l) (range_more (a + 1) n j (omega arith))

pub part_more : ImagesJoin → FewImages → (s : StateValue) (d : Delta) (start k : ℕ) (c : Candidate) (old mid new : StagingValue) → PushesPart s d (range_with_len start k) old mid
    → start + k ≡ c.place → new ≡ with_candidate mid c
    → ((t : Table) (layouts : Layouts) (u : Table) (others : Layouts) → Leads s d t layouts u others → IsCandidate s.geometry s.group layouts (group_at t s.group) others (group_at u s.group) c)
    → PushesPart s d (range_with_len start (k + 1)) old new
part_more join few s d start k c old mid new part at is candidate =
    subst (λ (places : List ℕ). PushesPart s d places old new) (sym (range_more start k c.place at))
    (part_both join s d (range_with_len start k) (c.place ∷ []) old mid new part (part_one few s d c mid new part.own is candidate))

-- two of them by ascending place
pub part_lower : ImagesJoin → (s : StateValue) (d : Delta) (a b : ℕ) (old mid new : StagingValue) → a < b → PushesPart s d (a ∷ []) old mid → PushesPart s d (b ∷ []) mid new
    → PushesPart s d (in_order a b) old new
part_lower join s d a b old mid new below one two =
    subst (λ (places : List ℕ). PushesPart s d places old new) (sym (cond-true (nat_lt a b) (a ∷ b ∷ []) (b ∷ a ∷ []) (lt-ltb a b below)))
    (part_both join s d (a ∷ []) (b ∷ []) old mid new one two)

pub part_higher : ImagesJoin → (s : StateValue) (d : Delta) (a b : ℕ) (old mid new : StagingValue) → b ≤ a → PushesPart s d (b ∷ []) old mid → PushesPart s d (a ∷ []) mid new
    → PushesPart s d (in_order a b) old new
part_higher join s d a b old mid new above one two =
    subst (λ (places : List ℕ). PushesPart s d places old new) (sym (cond-false (nat_lt a b) (a ∷ b ∷ []) (b ∷ a ∷ []) (le-ltb a b above)))
    (part_both join s d (b ∷ []) (a ∷ []) old mid new one two)

order_long : (a b : ℕ) → length (in_order a b) ≡ 2
order_long a b = elim (nat_lt a b) as (λ (t : Bool). length (if t then a ∷ b ∷ [] else b ∷ a ∷ []) ≡ 2) [ true ↦ refl | false ↦ refl ]

pub own_long : (agino : ℕ) (prior : Option Prior) → length (own_touched agino prior) ≡ (if is_some prior then 2 else 1)
own_long agino None = refl
own_long agino (Some prior) = order_long prior.agino agino

-- how many places there are
pub touched_long : (page : ℕ) (d : Delta)
    → length (touched page d) ≡ length (header_touched d) + (length (bitmap_touched d) + (length (page_touched page d) + length (inodes_touched d d.chunk)))
touched_long page d =
    let two = length-append (page_touched page d) (inodes_touched d d.chunk) in
    let one = length-append (bitmap_touched d) (page_touched page d ++ inodes_touched d d.chunk) in
    let all = length-append (header_touched d) (bitmap_touched d ++ (page_touched page d ++ inodes_touched d d.chunk)) in
    omega (arith, one, two, all)

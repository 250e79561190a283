-- An inode put first in its bucket, and one taken out of it.
use Rattle.std.proofs.Common.{◌≡◌, ◌<◌, ◌≤◌, ◌+◌, ◌%◌, ◌⊎◌, ℕ, zero, suc, Bool, cond, List, [], ◌∷◌, map, eqb, inl, inr, refl, ap, sym, subst, ◌∙◌, arith}
use Rattle.std.specs.Prelude.{◌≢◌, not}
use Rattle.std.specs.List.{range_with_len}
use Rattle.std.proofs.lemmas.Bool.{cases_eq, eq-eqb, ne_eqb, cond-true, cond-false}
use Rattle.life_limits.specs.declared.TheConstants.{BUCKETS, NO_INODE}
use Rattle.geometry.specs.declared.shape.Geometry.{Geometry}
use Rattle.agi_buckets.specs.Buckets.{without}
use Rattle.life_table.specs.Table.{Group, inode_in}
use Rattle.life_table.specs.Space.{times}
use Rattle.sound_image.specs.Encoding.{Layouts, head_of, next_in, bucket_list, page_of, header_for}
use Rattle.encoded_changes.specs.Carry.{Stays}
use Rattle.encoded_changes.proofs.Listed.{FirstPut, OutTaken}
use Rattle.encoded_changes.proofs.Places.{header_made, inode_by, page_by, same_metadata}

-- ---- lists

next-put : (members : List ℕ) (agino place : ℕ) → place ≢ agino → next_in (agino ∷ members) place ≡ next_in members place
unfolding next_in
next-put members agino place apart = cond-false (eqb agino place) (head_of members) (next_in members place) (ne_eqb agino place (λ e. apart (sym e)))

next-here : (member : ℕ) (members : List ℕ) (place : ℕ) → member ≡ place → next_in (member ∷ members) place ≡ head_of members
unfolding next_in
next-here member members place same = cond-true (eqb member place) (head_of members) (next_in members place) (eq-eqb member place same)

next-later : (member : ℕ) (members : List ℕ) (place : ℕ) → member ≢ place → next_in (member ∷ members) place ≡ next_in members place
unfolding next_in
next-later member members place apart = cond-false (eqb member place) (head_of members) (next_in members place) (ne_eqb member place apart)

next-none : (place : ℕ) → next_in [] place ≡ NO_INODE
unfolding next_in
next-none place = refl

pub without-here : (member : ℕ) (members : List ℕ) (agino : ℕ) → member ≡ agino → without (member ∷ members) agino ≡ without members agino
without-here member members agino same =
    ap (λ (b : Bool). cond (not b) (member ∷ without members agino) (without members agino)) (eq-eqb member agino same)

pub without-later : (member : ℕ) (members : List ℕ) (agino : ℕ) → member ≢ agino → without (member ∷ members) agino ≡ member ∷ without members agino
without-later member members agino apart =
    ap (λ (b : Bool). cond (not b) (member ∷ without members agino) (without members agino)) (ne_eqb member agino apart)

head-without : (members : List ℕ) (agino : ℕ) → head_of members ≢ agino → head_of (without members agino) ≡ head_of members
unfolding head_of
head-without [] agino apart = refl
head-without (member ∷ members) agino apart = ap head_of (without-later member members agino apart)

pub next-without : (members : List ℕ) (agino place : ℕ) → place ≢ agino → next_in members place ≢ agino → next_in (without members agino) place ≡ next_in members place
next-without [] agino place other differs = refl
next-without (member ∷ members) agino place other differs =
    elim (cases_eq member agino) [
      | inl gone ↦
          let past : member ≢ place = λ e. other (sym e ∙ gone) in
          ap (λ (l : List ℕ). next_in l place) (without-here member members agino gone)
          ∙ next-without members agino place other (λ e. differs (next-later member members place past ∙ e))
          ∙ sym (next-later member members place past)
      | inr stays ↦
          ap (λ (l : List ℕ). next_in l place) (without-later member members agino stays)
          ∙ elim (cases_eq member place) [
            | inl here ↦
                next-here member (without members agino) place here
                ∙ head-without members agino (λ e. differs (next-here member members place here ∙ e))
                ∙ sym (next-here member members place here)
            | inr past ↦
                next-later member (without members agino) place past
                ∙ next-without members agino place other (λ e. differs (next-later member members place past ∙ e))
                ∙ sym (next-later member members place past)
          ]
    ]

-- ---- what points at an inode that stands once

pub times-nil : (b : ℕ) → times b [] ≡ 0
unfolding times
times-nil b = refl

pub times-cons : (b x : ℕ) (xs : List ℕ) → times b (x ∷ xs) ≡ cond (eqb b x) 1 0 + times b xs
unfolding times
times-cons b x xs = refl

pub times-here : (b x : ℕ) (xs : List ℕ) → x ≡ b → times b (x ∷ xs) ≡ 1 + times b xs
times-here b x xs e = times-cons b x xs ∙ ap (λ (n : ℕ). n + times b xs) (cond-true (eqb b x) 1 0 (eq-eqb b x (sym e)))

pub times-tail : (b x : ℕ) (xs : List ℕ) → times b xs ≤ times b (x ∷ xs)
times-tail b x xs = omega (arith, times-cons b x xs)

pub head_times : (members : List ℕ) (agino : ℕ) → agino ≢ NO_INODE → head_of members ≡ agino → 1 ≤ times agino members
unfolding head_of
head_times [] agino some e = absurd (some (sym e))
head_times (member ∷ members) agino some e = omega (arith, times-here agino member members e)

-- an inode that follows another stands behind the first of the list
next_times : (member : ℕ) (members : List ℕ) (agino place : ℕ) → agino ≢ NO_INODE → next_in (member ∷ members) place ≡ agino → 1 ≤ times agino members
next_times member [] agino place some e =
    elim (cases_eq member place) [
      | inl here ↦ head_times [] agino some (sym (next-here member [] place here) ∙ e)
      | inr past ↦ absurd (some (sym (sym (next-none place) ∙ sym (next-later member [] place past) ∙ e)))
    ]
next_times member (next ∷ members) agino place some e =
    elim (cases_eq member place) [
      | inl here ↦ head_times (next ∷ members) agino some (sym (next-here member (next ∷ members) place here) ∙ e)
      | inr past ↦ omega (arith, next_times next members agino place some (sym (next-later member (next ∷ members) place past) ∙ e), times-tail agino next members)
    ]

twice : (members : List ℕ) (agino place : ℕ) → agino ≢ NO_INODE → head_of members ≡ agino → next_in members place ≡ agino → 2 ≤ times agino members
unfolding head_of
twice [] agino place some head next = absurd (some (sym head))
twice (member ∷ members) agino place some head next = omega (arith, times-here agino member members head, next_times member members agino place some next)

pub none_before : (members : List ℕ) (agino other : ℕ) → times agino members ≤ 1 → agino ≢ NO_INODE → head_of members ≡ agino → next_in members other ≢ agino
none_before members agino other few some head next = let many = twice members agino other some head next in omega arith

-- one of two is the first of the list
first_before : (member : ℕ) (members : List ℕ) (agino place : ℕ) → times agino (member ∷ members) ≤ 1 → agino ≢ NO_INODE → head_of members ≡ agino → next_in members place ≡ agino → ⊥
first_before member members agino place few some head next = let many = twice members agino place some head next in omega (arith, times-tail agino member members)

pub one_before : (members : List ℕ) (agino first second : ℕ) → times agino members ≤ 1 → agino ≢ NO_INODE
    → next_in members first ≡ agino → next_in members second ≡ agino → first ≡ second
one_before [] agino first second few some e f = absurd (some (sym (sym (next-none first) ∙ e)))
one_before (member ∷ members) agino first second few some e f =
    elim (cases_eq member first) [
      | inl here ↦
          elim (cases_eq member second) [
            | inl also ↦ sym here ∙ also
            | inr past ↦ absurd (first_before member members agino second few some (sym (next-here member members first here) ∙ e) (sym (next-later member members second past) ∙ f))
          ]
      | inr past ↦
          elim (cases_eq member second) [
            | inl also ↦ absurd (first_before member members agino first few some (sym (next-here member members second also) ∙ f) (sym (next-later member members first past) ∙ e))
            | inr behind ↦ one_before members agino first second (omega (arith, times-tail agino member members)) some
                (sym (next-later member members first past) ∙ e) (sym (next-later member members second behind) ∙ f)
          ]
    ]

-- nor does one that stands once follow itself
pub not_itself : (members : List ℕ) (agino : ℕ) → times agino members ≤ 1 → agino ≢ NO_INODE → next_in members agino ≢ agino
not_itself [] agino few some e = some (sym (sym (next-none agino) ∙ e))
not_itself (member ∷ members) agino few some e =
    elim (cases_eq member agino) [
      | inl here ↦ let behind = head_times members agino some (sym (next-here member members agino here) ∙ e) in omega (arith, times-here agino member members here)
      | inr past ↦ not_itself members agino (omega (arith, times-tail agino member members)) some (sym (next-later member members agino past) ∙ e)
    ]

-- ---- the heads of the header

map_range : (f g : ℕ → ℕ) (a n : ℕ) → ((k : ℕ) → k < a + n → f k ≡ g k) → map f (range_with_len a n) ≡ map g (range_with_len a n)
map_range f g a zero each = refl
map_range f g a (suc n) each =
    ap (λ (x : ℕ). x ∷ map f (range_with_len (a + 1) n)) (each a (omega arith))
    ∙ ap (λ (xs : List ℕ). g a ∷ xs) (map_range f g (a + 1) n (λ k lt. each k (omega arith)))

abbrev heads : Layouts → ℕ → List ℕ
heads layouts group = map (λ bucket. head_of (bucket_list layouts group bucket)) (range_with_len 0 BUCKETS)

header_is : (g : Geometry) (layouts : Layouts) (group : ℕ) (chunks : Group) → header_for g group chunks layouts ≡ header_made g group chunks (page_of layouts group) (heads layouts group)
unfolding header_for
header_is g layouts group chunks = refl

same_heads : (g : Geometry) (layouts others : Layouts) (group : ℕ) (chunks : Group) → page_of others group ≡ page_of layouts group → heads others group ≡ heads layouts group
    → header_for g group chunks others ≡ header_for g group chunks layouts
same_heads g layouts others group chunks page same =
    header_is g others group chunks
    ∙ ap (λ (n : ℕ). header_made g group chunks n (heads others group)) page
    ∙ ap (header_made g group chunks (page_of layouts group)) same
    ∙ sym (header_is g layouts group chunks)

head_stays : (layouts others : Layouts) (group agino bucket : ℕ) → OutTaken layouts others group agino → head_of (bucket_list layouts group (agino % BUCKETS)) ≢ agino → bucket < BUCKETS
    → head_of (bucket_list others group bucket) ≡ head_of (bucket_list layouts group bucket)
head_stays layouts others group agino bucket out apart low =
    elim (cases_eq bucket (agino % BUCKETS)) [
      | inl own ↦ subst (λ (b : ℕ). head_of (bucket_list others group b) ≡ head_of (bucket_list layouts group b)) (sym own)
          (ap head_of out.own ∙ head-without (bucket_list layouts group (agino % BUCKETS)) agino apart)
      | inr other ↦ ap head_of (out.lists bucket low other)
    ]

-- ---- each place

put_next : (layouts others : Layouts) (group agino place : ℕ) → FirstPut layouts others group agino → place ≢ agino
    → next_in (bucket_list others group (place % BUCKETS)) place ≡ next_in (bucket_list layouts group (place % BUCKETS)) place
put_next layouts others group agino place puts apart =
    elim (cases_eq (place % BUCKETS) (agino % BUCKETS)) [
      | inl own ↦ subst (λ (b : ℕ). next_in (bucket_list others group b) place ≡ next_in (bucket_list layouts group b) place) (sym own)
          (ap (λ (l : List ℕ). next_in l place) puts.own ∙ next-put (bucket_list layouts group (agino % BUCKETS)) agino place apart)
      | inr other ↦ ap (λ (l : List ℕ). next_in l place) (puts.lists (place % BUCKETS) (omega arith) other)
    ]

pub put_touches : (g : Geometry) (layouts others : Layouts) (group : ℕ) (chunks : Group) (agino place : ℕ) → FirstPut layouts others group agino → place ≢ agino → place ≢ 2
    → Stays g group layouts chunks others chunks place
put_touches g layouts others group chunks agino place puts apart no_header =
    same_metadata g layouts others group chunks chunks place puts.page
    (λ e. absurd (no_header e))
    (λ e. refl)
    (λ e. page_by g layouts others group chunks puts.page)
    (inode_by g layouts others group place (inode_in chunks place) (put_next layouts others group agino place puts apart))

taken_next : (layouts others : Layouts) (group agino place : ℕ) → OutTaken layouts others group agino → place ≢ agino → next_in (bucket_list layouts group (agino % BUCKETS)) place ≢ agino
    → next_in (bucket_list others group (place % BUCKETS)) place ≡ next_in (bucket_list layouts group (place % BUCKETS)) place
taken_next layouts others group agino place out apart no_pointer =
    elim (cases_eq (place % BUCKETS) (agino % BUCKETS)) [
      | inl own ↦ subst (λ (b : ℕ). next_in (bucket_list others group b) place ≡ next_in (bucket_list layouts group b) place) (sym own)
          (ap (λ (l : List ℕ). next_in l place) out.own ∙ next-without (bucket_list layouts group (agino % BUCKETS)) agino place apart no_pointer)
      | inr other ↦ ap (λ (l : List ℕ). next_in l place) (out.lists (place % BUCKETS) (omega arith) other)
    ]

pub taken_touches : (g : Geometry) (layouts others : Layouts) (group : ℕ) (chunks : Group) (agino place : ℕ) → OutTaken layouts others group agino → place ≢ agino
    → (place ≢ 2) ⊎ (head_of (bucket_list layouts group (agino % BUCKETS)) ≢ agino) → next_in (bucket_list layouts group (agino % BUCKETS)) place ≢ agino
    → Stays g group layouts chunks others chunks place
taken_touches g layouts others group chunks agino place out apart header no_pointer =
    same_metadata g layouts others group chunks chunks place out.page
    (λ e. elim header [
      | inl no_header ↦ absurd (no_header e)
      | inr no_head ↦ same_heads g layouts others group chunks out.page
          (map_range (λ bucket. head_of (bucket_list others group bucket)) (λ bucket. head_of (bucket_list layouts group bucket)) 0 BUCKETS
          (λ bucket low. head_stays layouts others group agino bucket out no_head (omega arith)))
    ])
    (λ e. refl)
    (λ e. page_by g layouts others group chunks out.page)
    (inode_by g layouts others group place (inode_in chunks place) (taken_next layouts others group agino place out apart no_pointer))

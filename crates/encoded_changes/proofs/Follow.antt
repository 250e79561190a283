-- Layouts of the next table.
use Rattle.std.proofs.Common.{◌≡◌, ◌<◌, ◌≤◌, ◌+◌, ◌%◌, ℕ, zero, suc, Bool, true, false, cond, List, [], ◌∷◌, Option, None, Some, length, eqb, ltb, inl, inr, refl, ap, sym, subst, ◌∙◌, arith}
use Rattle.std.specs.Prelude.{◌≢◌, ◌&&◌, replicate, slice_get}
use Rattle.std.proofs.lemmas.Bool.{cases_eq, eq-eqb, ne_eqb, cond-true, cond-false}
use Rattle.std.proofs.lemmas.List.{length-set}
use Rattle.life_limits.specs.declared.TheConstants.{BUCKETS, CHUNK_INODES, FIRST_PAGE_BLOCK, LAST_PAGE_BLOCK}
use Rattle.agi_buckets.specs.Buckets.{without}
use Rattle.life_table.specs.declared.table.Inode.{Inode}
use Rattle.life_table.specs.declared.table.Chunk.{Chunk}
use Rattle.life_table.specs.declared.table.Table.{Table}
use Rattle.life_table.specs.Table.{Group, group_at, inode_in, set_inode, start_of, with_group}
use Rattle.life_table.specs.Space.{times, insert_chunk, new_chunk}
use Rattle.sound_image.specs.Encoding.{Layout, Layouts, AreLayouts, is_unlinked, is_unlinked_row, bucket_list, page_of, layout_of}
use Rattle.encoded_changes.proofs.Listed.{FirstPut, OutTaken}
use Rattle.encoded_changes.proofs.Places.{list_by, page_same}
use Rattle.encoded_changes.proofs.Inodes.{inode_in-set_other, inode_in-set_same}
use Rattle.encoded_changes.proofs.Chunks.{inode_in-insert_other}
use Rattle.encoded_changes.proofs.Buckets.{times-cons, times-here, times-nil, without-here, without-later}
use Rattle.encoded_changes.proofs.Rows.{own_group, other_group}

-- how often a number is to stand in a list
abbrev pub wanted : ℕ → ℕ → Bool → ℕ
wanted agino bucket unlinked = cond ((eqb (agino % BUCKETS) bucket) && unlinked) 1 0

-- how often it does in the lists of a group
abbrev pub Kept : Layouts → ℕ → Group → Type 0
Kept layouts group chunks = (bucket agino : ℕ) → bucket < BUCKETS → times agino (bucket_list layouts group bucket) ≡ wanted agino bucket (is_unlinked (inode_in chunks agino))

-- layouts of a table of which one group was replaced
pub replaced : (t : Table) (layouts others : Layouts) (group : ℕ) (chunks : Group) → AreLayouts t layouts → group < length t.groups
    → length others ≡ length layouts → length (layout_of others group).buckets ≡ BUCKETS
    → page_of others group ≡ page_of layouts group → ((other : ℕ) → other ≢ group → layout_of others other ≡ layout_of layouts other)
    → Kept others group chunks → AreLayouts (with_group t group chunks) others
replaced t layouts others group chunks are lt same_length many page groups kept =
    let u : Table = with_group t group chunks in
    let long = length-set t.groups group chunks in
    record {
      groups = same_length ∙ are.groups ∙ sym long;
      lists = λ k low. elim (cases_eq k group) [
        | inl own ↦ subst (λ (x : ℕ). length (layout_of others x).buckets ≡ BUCKETS) (sym own) many
        | inr other ↦ ap (λ (l : Layout). length l.buckets) (groups k other) ∙ are.lists k (omega (arith, long))
      ];
      pages = λ k low. elim (cases_eq k group) [
        | inl own ↦
            let p : page_of others k ≡ page_of layouts k = subst (λ (x : ℕ). page_of others x ≡ page_of layouts x) (sym own) page in
            subst (λ (n : ℕ). (FIRST_PAGE_BLOCK ≤ n) × (n ≤ LAST_PAGE_BLOCK)) (sym p) (are.pages k (omega (arith, long)))
        | inr other ↦
            subst (λ (n : ℕ). (FIRST_PAGE_BLOCK ≤ n) × (n ≤ LAST_PAGE_BLOCK)) (sym (page_same layouts others k (groups k other))) (are.pages k (omega (arith, long)))
      ];
      buckets = λ k bucket agino low below. elim (cases_eq k group) [
        | inl own ↦
            subst (λ (x : ℕ). times agino (bucket_list others x bucket) ≡ wanted agino bucket (is_unlinked (inode_in (group_at u x) agino))) (sym own)
            (kept bucket agino below ∙ ap (λ (cs : Group). wanted agino bucket (is_unlinked (inode_in cs agino))) (sym (own_group t group chunks lt)))
        | inr other ↦
            ap (times agino) (list_by layouts others k bucket (groups k other))
            ∙ are.buckets k bucket agino (omega (arith, long)) below
            ∙ ap (λ (cs : Group). wanted agino bucket (is_unlinked (inode_in cs agino))) (sym (other_group t group k chunks other))
      ];
    }

pub kept_before : (t : Table) (layouts : Layouts) (group : ℕ) → AreLayouts t layouts → group < length t.groups → Kept layouts group (group_at t group)
kept_before t layouts group are lt = λ bucket agino low. are.buckets group bucket agino lt low

-- ---- what is wanted

wanted_none : (agino bucket : ℕ) (b : Bool) → b ≡ false → wanted agino bucket b ≡ 0
wanted_none agino bucket b e = ap (wanted agino bucket) e ∙ by (eqb (agino % BUCKETS) bucket)
  where
    by : (x : Bool) → cond {A = ℕ} (x && false) 1 0 ≡ 0
    by true = refl
    by false = refl

wanted_apart : (agino bucket : ℕ) (b : Bool) → agino % BUCKETS ≢ bucket → wanted agino bucket b ≡ 0
wanted_apart agino bucket b apart = ap (λ (x : Bool). cond {A = ℕ} (x && b) 1 0) (ne_eqb (agino % BUCKETS) bucket apart)

wanted_one : (agino bucket : ℕ) (b : Bool) → agino % BUCKETS ≡ bucket → b ≡ true → wanted agino bucket b ≡ 1
wanted_one agino bucket b same e = ap (wanted agino bucket) e ∙ ap (λ (x : Bool). cond {A = ℕ} (x && true) 1 0) (eq-eqb (agino % BUCKETS) bucket same)

-- ---- the inode that changes

unlinked_old : (chunks : Group) (agino : ℕ) (old : Inode) (b : Bool) → inode_in chunks agino ≡ Some old → is_unlinked_row old.row ≡ b → is_unlinked (inode_in chunks agino) ≡ b
unlinked_old chunks agino old b at e = ap is_unlinked at ∙ e

unlinked_new : (chunks : Group) (agino : ℕ) (old new : Inode) (b : Bool) → inode_in chunks agino ≡ Some old → is_unlinked_row new.row ≡ b
    → is_unlinked (inode_in (set_inode chunks agino new) agino) ≡ b
unlinked_new chunks agino old new b at e = ap is_unlinked (inode_in-set_same chunks agino old new at) ∙ e

-- each other inode stays
kept_other : (layouts : Layouts) (group : ℕ) (chunks : Group) (agino : ℕ) (new : Inode) (bucket other : ℕ) → Kept layouts group chunks → bucket < BUCKETS → other ≢ agino
    → times other (bucket_list layouts group bucket) ≡ wanted other bucket (is_unlinked (inode_in (set_inode chunks agino new) other))
kept_other layouts group chunks agino new bucket other kept low apart =
    kept bucket other low
    ∙ ap (λ (o : Option Inode). wanted other bucket (is_unlinked o)) (sym (inode_in-set_other chunks agino other new (λ e. apart (sym e))))

kept_same : (layouts : Layouts) (group : ℕ) (chunks : Group) (agino : ℕ) (old new : Inode) → Kept layouts group chunks → inode_in chunks agino ≡ Some old
    → is_unlinked_row new.row ≡ is_unlinked_row old.row → Kept layouts group (set_inode chunks agino new)
kept_same layouts group chunks agino old new kept at same bucket other low =
    elim (cases_eq other agino) [
      | inl own ↦ subst (λ (a : ℕ). times a (bucket_list layouts group bucket) ≡ wanted a bucket (is_unlinked (inode_in (set_inode chunks agino new) a))) (sym own)
          (kept bucket agino low ∙ ap (wanted agino bucket) (unlinked_old chunks agino old (is_unlinked_row old.row) at refl ∙ sym (unlinked_new chunks agino old new (is_unlinked_row old.row) at same)))
      | inr apart ↦ kept_other layouts group chunks agino new bucket other kept low apart
    ]

-- how often numbers stand in lists with one put first
times_put : (b x : ℕ) (xs : List ℕ) → b ≢ x → times b (x ∷ xs) ≡ times b xs
times_put b x xs apart = let other : cond {A = ℕ} (eqb b x) 1 0 ≡ 0 = cond-false (eqb b x) 1 0 (ne_eqb b x apart) in omega (arith, times-cons b x xs)

kept_put : (layouts others : Layouts) (group : ℕ) (chunks : Group) (agino : ℕ) (old new : Inode) → Kept layouts group chunks → inode_in chunks agino ≡ Some old
    → is_unlinked_row old.row ≡ false → is_unlinked_row new.row ≡ true → FirstPut layouts others group agino → Kept others group (set_inode chunks agino new)
kept_put layouts others group chunks agino old new kept at was is puts bucket other low =
    let wants : ℕ → ℕ = λ a. wanted a bucket (is_unlinked (inode_in (set_inode chunks agino new) a)) in
    elim (cases_eq bucket (agino % BUCKETS)) [
      | inl own ↦
          let lists : bucket_list others group bucket ≡ agino ∷ bucket_list layouts group bucket =
          subst (λ (k : ℕ). bucket_list others group k ≡ agino ∷ bucket_list layouts group k) (sym own) puts.own in
          elim (cases_eq other agino) [
            | inl same ↦ subst (λ (a : ℕ). times a (bucket_list others group bucket) ≡ wants a) (sym same)
                (ap (times agino) lists ∙ times-here agino agino (bucket_list layouts group bucket) refl
                ∙ ap (λ (n : ℕ). 1 + n) (kept bucket agino low ∙ wanted_none agino bucket (is_unlinked (inode_in chunks agino)) (unlinked_old chunks agino old false at was))
                ∙ sym (wanted_one agino bucket (is_unlinked (inode_in (set_inode chunks agino new) agino)) (sym own) (unlinked_new chunks agino old new true at is)))
            | inr apart ↦ ap (times other) lists ∙ times_put other agino (bucket_list layouts group bucket) apart ∙ kept_other layouts group chunks agino new bucket other kept low apart
          ]
      | inr elsewhere ↦
          elim (cases_eq other agino) [
            | inl same ↦ subst (λ (a : ℕ). times a (bucket_list others group bucket) ≡ wants a) (sym same)
                (ap (times agino) (puts.lists bucket low elsewhere) ∙ kept bucket agino low
                ∙ wanted_apart agino bucket (is_unlinked (inode_in chunks agino)) (λ e. elsewhere (sym e))
                ∙ sym (wanted_apart agino bucket (is_unlinked (inode_in (set_inode chunks agino new) agino)) (λ e. elsewhere (sym e))))
            | inr apart ↦ ap (times other) (puts.lists bucket low elsewhere) ∙ kept_other layouts group chunks agino new bucket other kept low apart
          ]
    ]

-- and with one taken out
times_gone : (xs : List ℕ) (b : ℕ) → times b (without xs b) ≡ 0
times_gone [] b = times-nil b
times_gone (x ∷ xs) b =
    elim (cases_eq x b) [
      | inl here ↦ ap (times b) (without-here x xs b here) ∙ times_gone xs b
      | inr later ↦ ap (times b) (without-later x xs b later) ∙ times_put b x (without xs b) (λ e. later (sym e)) ∙ times_gone xs b
    ]

times_left : (xs : List ℕ) (b a : ℕ) → b ≢ a → times b (without xs a) ≡ times b xs
times_left [] b a apart = refl
times_left (x ∷ xs) b a apart =
    elim (cases_eq x a) [
      | inl here ↦ ap (times b) (without-here x xs a here) ∙ times_left xs b a apart ∙ sym (times_put b x xs (λ e. apart (e ∙ here)))
      | inr later ↦
          ap (times b) (without-later x xs a later) ∙ times-cons b x (without xs a)
          ∙ ap (λ (n : ℕ). cond {A = ℕ} (eqb b x) 1 0 + n) (times_left xs b a apart) ∙ sym (times-cons b x xs)
    ]

kept_taken : (layouts others : Layouts) (group : ℕ) (chunks : Group) (agino : ℕ) (old new : Inode) → Kept layouts group chunks → inode_in chunks agino ≡ Some old
    → is_unlinked_row new.row ≡ false → OutTaken layouts others group agino → Kept others group (set_inode chunks agino new)
kept_taken layouts others group chunks agino old new kept at is out bucket other low =
    let wants : ℕ → ℕ = λ a. wanted a bucket (is_unlinked (inode_in (set_inode chunks agino new) a)) in
    elim (cases_eq bucket (agino % BUCKETS)) [
      | inl own ↦
          let lists : bucket_list others group bucket ≡ without (bucket_list layouts group bucket) agino =
          subst (λ (k : ℕ). bucket_list others group k ≡ without (bucket_list layouts group k) agino) (sym own) out.own in
          elim (cases_eq other agino) [
            | inl same ↦ subst (λ (a : ℕ). times a (bucket_list others group bucket) ≡ wants a) (sym same)
                (ap (times agino) lists ∙ times_gone (bucket_list layouts group bucket) agino
                ∙ sym (wanted_none agino bucket (is_unlinked (inode_in (set_inode chunks agino new) agino)) (unlinked_new chunks agino old new false at is)))
            | inr apart ↦ ap (times other) lists ∙ times_left (bucket_list layouts group bucket) other agino apart ∙ kept_other layouts group chunks agino new bucket other kept low apart
          ]
      | inr elsewhere ↦
          elim (cases_eq other agino) [
            | inl same ↦ subst (λ (a : ℕ). times a (bucket_list others group bucket) ≡ wants a) (sym same)
                (ap (times agino) (out.lists bucket low elsewhere) ∙ kept bucket agino low
                ∙ wanted_apart agino bucket (is_unlinked (inode_in chunks agino)) (λ e. elsewhere (sym e))
                ∙ sym (wanted_apart agino bucket (is_unlinked (inode_in (set_inode chunks agino new) agino)) (λ e. elsewhere (sym e))))
            | inr apart ↦ ap (times other) (out.lists bucket low elsewhere) ∙ kept_other layouts group chunks agino new bucket other kept low apart
          ]
    ]

-- ---- a new chunk

abbrev fresh : Inode
fresh = record { generation = 1; row = None }

fresh_get : (n k : ℕ) → is_unlinked (slice_get (replicate n fresh) k) ≡ false
fresh_get zero k = refl
fresh_get (suc n) zero = refl
fresh_get (suc n) (suc k) = fresh_get n k

fresh_chunk : (block k : ℕ) → is_unlinked (slice_get (new_chunk block).inodes k) ≡ false
unfolding new_chunk
fresh_chunk block k = fresh_get CHUNK_INODES k

unlinked_fresh : (new : Chunk) (chunks : Group) (agino : ℕ) → ((k : ℕ) → is_unlinked (slice_get new.inodes k) ≡ false) → start_of agino ≡ new.start → inode_in chunks agino ≡ None
    → is_unlinked (inode_in (insert_chunk new chunks) agino) ≡ false
unfolding inode_in insert_chunk
unlinked_fresh new [] agino none here gone =
    ap is_unlinked (cond-true (eqb new.start (start_of agino)) (slice_get new.inodes (agino % CHUNK_INODES)) None (eq-eqb new.start (start_of agino) (sym here))) ∙ none (agino % CHUNK_INODES)
unlinked_fresh new (chunk ∷ chunks) agino none here gone =
    elim (ltb new.start chunk.start) as (λ c. is_unlinked (inode_in (cond c (new ∷ chunk ∷ chunks) (chunk ∷ insert_chunk new chunks)) agino) ≡ false) [
      | true ↦
          ap is_unlinked (cond-true (eqb new.start (start_of agino)) (slice_get new.inodes (agino % CHUNK_INODES)) (inode_in (chunk ∷ chunks) agino) (eq-eqb new.start (start_of agino) (sym here)))
          ∙ none (agino % CHUNK_INODES)
      | false ↦
          elim (eqb chunk.start (start_of agino)) as (λ d. cond d (slice_get chunk.inodes (agino % CHUNK_INODES)) (inode_in chunks agino) ≡ None
          → is_unlinked (cond d (slice_get chunk.inodes (agino % CHUNK_INODES)) (inode_in (insert_chunk new chunks) agino)) ≡ false) [
            | true ↦ λ e. ap is_unlinked e
            | false ↦ λ e. unlinked_fresh new chunks agino none here e
          ] gone
    ]

kept_chunk : (layouts : Layouts) (group : ℕ) (chunks : Group) (block : ℕ) → Kept layouts group chunks
    → ((agino : ℕ) → start_of agino ≡ (new_chunk block).start → inode_in chunks agino ≡ None) → Kept layouts group (insert_chunk (new_chunk block) chunks)
kept_chunk layouts group chunks block kept gone bucket agino low =
    kept bucket agino low
    ∙ ap (wanted agino bucket) (elim (cases_eq (start_of agino) (new_chunk block).start) [
      | inl here ↦ ap is_unlinked (gone agino here) ∙ sym (unlinked_fresh (new_chunk block) chunks agino (fresh_chunk block) here (gone agino here))
      | inr other ↦ ap is_unlinked (sym (inode_in-insert_other (new_chunk block) chunks agino (λ e. other (sym e))))
    ])

-- ---- the four changes

pub layouts_same : (t : Table) (layouts : Layouts) (group agino : ℕ) (old new : Inode) → AreLayouts t layouts → group < length t.groups
    → inode_in (group_at t group) agino ≡ Some old → is_unlinked_row new.row ≡ is_unlinked_row old.row
    → AreLayouts (with_group t group (set_inode (group_at t group) agino new)) layouts
layouts_same t layouts group agino old new are lt at same =
    replaced t layouts layouts group (set_inode (group_at t group) agino new) are lt refl (are.lists group lt) refl (λ other apart. refl)
    (kept_same layouts group (group_at t group) agino old new (kept_before t layouts group are lt) at same)

pub layouts_put : (t : Table) (layouts others : Layouts) (group agino : ℕ) (old new : Inode) → AreLayouts t layouts → group < length t.groups
    → inode_in (group_at t group) agino ≡ Some old → is_unlinked_row old.row ≡ false → is_unlinked_row new.row ≡ true → FirstPut layouts others group agino
    → AreLayouts (with_group t group (set_inode (group_at t group) agino new)) others
layouts_put t layouts others group agino old new are lt at was is puts =
    replaced t layouts others group (set_inode (group_at t group) agino new) are lt puts.long puts.many puts.page puts.groups
    (kept_put layouts others group (group_at t group) agino old new (kept_before t layouts group are lt) at was is puts)

pub layouts_taken : (t : Table) (layouts others : Layouts) (group agino : ℕ) (old new : Inode) → AreLayouts t layouts → group < length t.groups
    → inode_in (group_at t group) agino ≡ Some old → is_unlinked_row new.row ≡ false → OutTaken layouts others group agino
    → AreLayouts (with_group t group (set_inode (group_at t group) agino new)) others
layouts_taken t layouts others group agino old new are lt at is out =
    replaced t layouts others group (set_inode (group_at t group) agino new) are lt out.long out.many out.page out.groups
    (kept_taken layouts others group (group_at t group) agino old new (kept_before t layouts group are lt) at is out)

pub layouts_chunk : (t : Table) (layouts : Layouts) (group block : ℕ) → AreLayouts t layouts → group < length t.groups
    → ((agino : ℕ) → start_of agino ≡ (new_chunk block).start → inode_in (group_at t group) agino ≡ None)
    → AreLayouts (with_group t group (insert_chunk (new_chunk block) (group_at t group))) layouts
layouts_chunk t layouts group block are lt gone =
    replaced t layouts layouts group (insert_chunk (new_chunk block) (group_at t group)) are lt refl (are.lists group lt) refl (λ other apart. refl)
    (kept_chunk layouts group (group_at t group) block (kept_before t layouts group are lt) gone)

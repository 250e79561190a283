-- Frees of several keys, one after the other.
use Rattle.std.proofs.Common.{◌≡◌, ◌<◌, ◌≤◌, ◌+◌, ◌-◌, ◌/◌, ◌++◌, ℕ, zero, suc, List, [], ◌∷◌, length, get_or, take, append_assoc, length-append, inl, inr, refl, ap, sym, subst, ◌∙◌, arith}
use Rattle.std.specs.Prelude.{IsSomeAnd}
use Rattle.std.specs.List.{All}
use Rattle.std.proofs.lemmas.Bool.{cases_lt}
use Rattle.std.proofs.lemmas.List.{append-nil, take_more}
use Rattle.life_limits.specs.declared.TheConstants.{GROUP_NUMBERS, MAX_ACTORS}
use Rattle.life_bytes.specs.declared.sector.Sector.{Sector}
use Rattle.geometry.specs.declared.shape.Geometry.{Geometry}
use Rattle.log_record.specs.declared.image.Commit.{Commit}
use Rattle.life_table.specs.declared.key.Key.{Key}
use Rattle.life_table.specs.declared.types.Entry.{Entry}
use Rattle.life_table.specs.declared.table.Table.{Table}
use Rattle.life_table.specs.History.{closed, frees_of}
use Rattle.life_table.specs.Legal.{Awaits}
use Rattle.life_table.specs.Table.{row_of}
use Rattle.sound_image.specs.Encoding.{CanEncode, Layouts}
use Rattle.commit_history.specs.Carried.{CommitsCarry}
use Rattle.group_ops.specs.Changes.{with_room}
use Rattle.group_ops.specs.Represents.{IsGroupOf}
use Rattle.group_ops.specs.Values.{StateValue}
use Rattle.orphan_frees.specs.Order.{freed_all, keys_of_group, unlisted_all}
use Rattle.orphan_frees.specs.Steps.{CarryEach, FreesInGroup, FreesKeys, IsDue, IsGroupIn}
use Rattle.orphan_frees.proofs.Due.{freed_both, frees_both, unlisted_both}
use Rattle.orphan_frees.proofs.Elsewhere.{rest_of_room}

-- what the laws say of commits
abbrev pub NoneCarry : Type 0
NoneCarry = (g : Geometry) (t : Table) (layouts : Layouts) → CommitsCarry g t layouts [] t layouts

abbrev pub BothCarry : Type 0
BothCarry = (g : Geometry) (t u v : Table) (layouts others last : Layouts) (first second : List Commit) → CommitsCarry g t layouts first u others
    → CommitsCarry g u others second v last → CommitsCarry g t layouts (first ++ second) v last

-- ---- no free

none_each : NoneCarry → (g : Geometry) (t : Table) (layouts : Layouts) → CarryEach g t layouts [] []
unfolding freed_all unlisted_all
none_each carry g t layouts zero low = carry g t layouts
none_each carry g t layouts (suc n) low = carry g t layouts

pub no_keys : NoneCarry → (g : Geometry) (t : Table) (layouts : Layouts) (old new : List Commit) (before after : List Entry) → new ≡ old → after ≡ before → FreesKeys g t layouts [] old new before after
unfolding freed_all unlisted_all
no_keys carry g t layouts old new before after list entries =
    record {
      commits = [];
      list = list ∙ sym (append-nil old);
      one_each = refl;
      carry = carry g t layouts;
      each = none_each carry g t layouts;
      entries = entries ∙ sym (append-nil before);
    }

pub none_in_group : NoneCarry → (s left : StateValue) (t : Table) (layouts : Layouts) (old new : List Commit) (before after : List Entry) → IsGroupOf s t layouts → left ≡ with_room s left.room
    → new ≡ old → after ≡ before → FreesInGroup s t layouts [] old new before after left
unfolding freed_all unlisted_all
none_in_group carry s left t layouts old new before after is same list entries =
    record {
      frees = no_keys carry s.geometry t layouts old new before after list entries;
      geometry = ap (λ (x : StateValue). x.geometry) same;
      group = ap (λ (x : StateValue). x.group) same;
      represents = subst (λ (x : StateValue). IsGroupOf x t layouts) (sym same) (rest_of_room s t layouts left.room is);
    }

-- ---- two lists of keys

take_left : {X : Type 0} (xs ys : List X) (n : ℕ) → n ≤ length xs → take n (xs ++ ys) ≡ take n xs
take_left xs ys zero low = refl
take_left [] ys (suc n) low = absurd (omega (arith, low))
take_left {X} (x ∷ xs) ys (suc n) low = ap (λ (l : List X). x ∷ l) (take_left xs ys n (omega (arith, low)))

take_right : {X : Type 0} (xs ys : List X) (n m : ℕ) → n ≡ length xs + m → take n (xs ++ ys) ≡ xs ++ take m ys
take_right [] ys n m is = ap (λ (k : ℕ). take k ys) (omega (arith, is))
take_right (x ∷ xs) ys zero m is = absurd (omega (arith, is))
take_right {X} (x ∷ xs) ys (suc n) m is = ap (λ (l : List X). x ∷ l) (take_right xs ys n m (omega (arith, is)))

each_both : BothCarry → (g : Geometry) (t : Table) (layouts : Layouts) (xs ys : List Key) (first second : List Commit) → length first ≡ length xs
    → CommitsCarry g t layouts first (freed_all t xs) (unlisted_all layouts xs) → CarryEach g t layouts xs first → CarryEach g (freed_all t xs) (unlisted_all layouts xs) ys second
    → CarryEach g t layouts (xs ++ ys) (first ++ second)
each_both joined g t layouts xs ys first second long carry a b = λ n low.
    elim (cases_lt (length xs) n) [
      | inr less ↦
          subst (λ (l : List Key). CommitsCarry g t layouts (take n (first ++ second)) (freed_all t l) (unlisted_all layouts l)) (sym (take_left xs ys n less))
          (subst (λ (l : List Commit). CommitsCarry g t layouts l (freed_all t (take n xs)) (unlisted_all layouts (take n xs))) (sym (take_left first second n (omega (arith, less, long)))) (a n less))
      | inl more ↦
          let m : ℕ = n - length xs in
          let is : n ≡ length xs + m = omega (arith, more) in
          let few : m ≤ length ys = omega (arith, low, is, length-append xs ys) in
          let both : CommitsCarry g t layouts (first ++ take m second) (freed_all (freed_all t xs) (take m ys)) (unlisted_all (unlisted_all layouts xs) (take m ys)) =
          joined g t (freed_all t xs) (freed_all (freed_all t xs) (take m ys)) layouts (unlisted_all layouts xs) (unlisted_all (unlisted_all layouts xs) (take m ys)) first (take m second) carry (b m few) in
          let keys : CommitsCarry g t layouts (first ++ take m second) (freed_all t (xs ++ take m ys)) (unlisted_all layouts (xs ++ take m ys)) =
          subst (λ (u : Table). CommitsCarry g t layouts (first ++ take m second) u (unlisted_all layouts (xs ++ take m ys))) (sym (freed_both t xs (take m ys)))
          (subst (λ (o : Layouts). CommitsCarry g t layouts (first ++ take m second) (freed_all (freed_all t xs) (take m ys)) o) (sym (unlisted_both layouts xs (take m ys))) both) in
          subst (λ (l : List Key). CommitsCarry g t layouts (take n (first ++ second)) (freed_all t l) (unlisted_all layouts l)) (sym (take_right xs ys n m is))
          (subst (λ (l : List Commit). CommitsCarry g t layouts l (freed_all t (xs ++ take m ys)) (unlisted_all layouts (xs ++ take m ys)))
          (sym (take_right first second n m (omega (arith, is, long)))) keys)
    ]

pub keys_both : BothCarry → (g : Geometry) (t : Table) (layouts : Layouts) (xs ys : List Key) (old mid new : List Commit) (before between after : List Entry)
    → FreesKeys g t layouts xs old mid before between → FreesKeys g (freed_all t xs) (unlisted_all layouts xs) ys mid new between after → FreesKeys g t layouts (xs ++ ys) old new before after
keys_both joined g t layouts xs ys old mid new before between after a b =
    let one = a.one_each in
    let other = b.one_each in
    let carry : CommitsCarry g t layouts (a.commits ++ b.commits) (freed_all (freed_all t xs) ys) (unlisted_all (unlisted_all layouts xs) ys) =
    joined g t (freed_all t xs) (freed_all (freed_all t xs) ys) layouts (unlisted_all layouts xs) (unlisted_all (unlisted_all layouts xs) ys) a.commits b.commits a.carry b.carry in
    record {
      commits = a.commits ++ b.commits;
      list = b.list ∙ ap (λ (l : List Commit). l ++ b.commits) a.list ∙ append_assoc old a.commits b.commits;
      one_each = omega (arith, one, other, length-append a.commits b.commits, length-append xs ys);
      carry = subst (λ (u : Table). CommitsCarry g t layouts (a.commits ++ b.commits) u (unlisted_all layouts (xs ++ ys))) (sym (freed_both t xs ys))
          (subst (λ (o : Layouts). CommitsCarry g t layouts (a.commits ++ b.commits) (freed_all (freed_all t xs) ys) o) (sym (unlisted_both layouts xs ys)) carry);
      each = each_both joined g t layouts xs ys a.commits b.commits one a.carry a.each b.each;
      entries = b.entries ∙ ap (λ (l : List Entry). l ++ frees_of MAX_ACTORS ys) a.entries ∙ append_assoc before (frees_of MAX_ACTORS xs) (frees_of MAX_ACTORS ys)
          ∙ ap (λ (l : List Entry). before ++ l) (sym (frees_both MAX_ACTORS xs ys));
    }

pub in_group_both : BothCarry → (s mid left : StateValue) (t : Table) (layouts : Layouts) (xs ys : List Key) (old list new : List Commit) (before between after : List Entry)
    → FreesInGroup s t layouts xs old list before between mid → FreesInGroup mid (freed_all t xs) (unlisted_all layouts xs) ys list new between after left
    → FreesInGroup s t layouts (xs ++ ys) old new before after left
in_group_both joined s mid left t layouts xs ys old list new before between after a b =
    record {
      frees = keys_both joined s.geometry t layouts xs ys old list new before between after a.frees
          (subst (λ (g : Geometry). FreesKeys g (freed_all t xs) (unlisted_all layouts xs) ys list new between after) a.geometry b.frees);
      geometry = b.geometry ∙ a.geometry;
      group = b.group ∙ a.group;
      represents = subst (λ (u : Table). IsGroupOf left u (unlisted_all layouts (xs ++ ys))) (sym (freed_both t xs ys))
          (subst (λ (o : Layouts). IsGroupOf left (freed_all (freed_all t xs) ys) o) (sym (unlisted_both layouts xs ys)) b.represents);
    }

-- one key more, or none
pub one_more : BothCarry → (s mid left : StateValue) (t : Table) (layouts : Layouts) (keys : List Key) (i : ℕ) (d : Key) (old list new : List Commit) (before between after : List Entry) → i < length keys
    → FreesInGroup s t layouts (take i keys) old list before between mid
    → FreesInGroup mid (freed_all t (take i keys)) (unlisted_all layouts (take i keys)) (get_or keys i d ∷ []) list new between after left
    → FreesInGroup s t layouts (take (i + 1) keys) old new before after left
one_more joined s mid left t layouts keys i d old list new before between after low a b =
    subst (λ (l : List Key). FreesInGroup s t layouts l old new before after left) (sym (take_more keys i d low))
    (in_group_both joined s mid left t layouts (take i keys) (get_or keys i d ∷ []) old list new before between after a b)

pub none_more : BothCarry → (s mid left : StateValue) (t : Table) (layouts : Layouts) (keys : List Key) (old list new : List Commit) (before between after : List Entry)
    → FreesInGroup s t layouts keys old list before between mid → FreesInGroup mid (freed_all t keys) (unlisted_all layouts keys) [] list new between after left
    → FreesInGroup s t layouts keys old new before after left
none_more joined s mid left t layouts keys old list new before between after a b =
    subst (λ (l : List Key). FreesInGroup s t layouts l old new before after left) (append-nil keys)
    (in_group_both joined s mid left t layouts keys [] old list new before between after a b)

-- ---- how many commits there are

pub length_take : (xs : List Key) (n : ℕ) → n ≤ length xs → length (take n xs) ≡ n
length_take xs zero low = refl
length_take [] (suc n) low = absurd (omega (arith, low))
length_take (x ∷ xs) (suc n) low = ap suc (length_take xs n (omega (arith, low)))

pub take_whole : (xs : List Key) (n : ℕ) → length xs ≤ n → take n xs ≡ xs
take_whole [] zero high = refl
take_whole [] (suc n) high = refl
take_whole (x ∷ xs) zero high = absurd (omega (arith, high))
take_whole (x ∷ xs) (suc n) high = ap (λ (l : List Key). x ∷ l) (take_whole xs n (omega (arith, high)))

-- how many commits wait then
pub waiting : (g : Geometry) (t : Table) (layouts : Layouts) (keys : List Key) (n : ℕ) (old new : List Commit) (before after : List Entry) → n ≤ length keys
    → FreesKeys g t layouts (take n keys) old new before after → length new ≡ length old + n
waiting g t layouts keys n old new before after low frees =
    let many = frees.one_each in
    let long : length new ≡ length (old ++ frees.commits) = ap (λ (l : List Commit). length l) frees.list in
    omega (arith, many, long, length-append old frees.commits, length_take keys n low)

-- ---- the key that comes next

-- what the law says of a group's keys
abbrev pub AllEncode : Type 0
AllEncode = (g : Geometry) (t : Table) (layouts : Layouts) (sectors : List Sector) (group count : ℕ) → CanEncode g t layouts sectors → closed t ≡ t → group < g.groups
    → CanEncode g (freed_all t (take count (keys_of_group t layouts group))) (unlisted_all layouts (take count (keys_of_group t layouts group))) sectors

abbrev pub AreOwn : Type 0
AreOwn = (g : Geometry) (t : Table) (layouts : Layouts) (sectors : List Sector) (group : ℕ) → CanEncode g t layouts sectors → closed t ≡ t → group < g.groups
    → All (λ (key : Key). key.number / GROUP_NUMBERS ≡ group) (keys_of_group t layouts group)

abbrev pub AwaitInTurn : Type 0
AwaitInTurn = (g : Geometry) (t : Table) (layouts : Layouts) (sectors : List Sector) (group i : ℕ) (d : Key) → CanEncode g t layouts sectors → closed t ≡ t → group < g.groups
    → i < length (keys_of_group t layouts group) → IsSomeAnd (row_of (freed_all t (take i (keys_of_group t layouts group))) (get_or (keys_of_group t layouts group) i d)) Awaits

pub due_next : AllEncode → AreOwn → AwaitInTurn → (s mid : StateValue) (t : Table) (layouts : Layouts) (sectors : List Sector) (i : ℕ) (d : Key) (old new : List Commit) (before after : List Entry)
    → IsGroupIn s t layouts sectors → closed t ≡ t → i < length (keys_of_group t layouts s.group)
    → FreesInGroup s t layouts (take i (keys_of_group t layouts s.group)) old new before after mid
    → IsDue mid (freed_all t (take i (keys_of_group t layouts s.group))) (unlisted_all layouts (take i (keys_of_group t layouts s.group))) sectors (get_or (keys_of_group t layouts s.group) i d)
due_next encode own await s mid t layouts sectors i d old new before after is shut low frees =
    let inside = is.inside in
    let groups : mid.geometry.groups ≡ s.geometry.groups = ap (λ (g : Geometry). g.groups) frees.geometry in
    let group = frees.group in
    let can = encode s.geometry t layouts sectors s.group i is.can shut is.inside in
    record {
      group = record {
        represents = frees.represents;
        can = subst (λ (g : Geometry). CanEncode g (freed_all t (take i (keys_of_group t layouts s.group))) (unlisted_all layouts (take i (keys_of_group t layouts s.group))) sectors) (sym frees.geometry) can;
        inside = omega (arith, inside, groups, group);
      };
      own = own s.geometry t layouts sectors s.group is.can shut is.inside i d low ∙ sym frees.group;
      awaits = await s.geometry t layouts sectors s.group i d is.can shut is.inside low;
    }

-- ---- the key at a place of a vector that has them

pub due_at : AllEncode → AreOwn → AwaitInTurn → (s mid : StateValue) (t : Table) (layouts : Layouts) (sectors : List Sector) (items : List Key) (i : ℕ) (key : Key) (old new : List Commit)
    (before after : List Entry) → IsGroupIn s t layouts sectors → closed t ≡ t → items ≡ keys_of_group t layouts s.group → i < length items → key ≡ get_or items i key
    → FreesInGroup s t layouts (take i (keys_of_group t layouts s.group)) old new before after mid
    → IsDue mid (freed_all t (take i (keys_of_group t layouts s.group))) (unlisted_all layouts (take i (keys_of_group t layouts s.group))) sectors key
due_at encode own await s mid t layouts sectors items i key old new before after is shut all low at frees =
    let keys : List Key = keys_of_group t layouts s.group in
    let long : length items ≡ length keys = ap (λ (l : List Key). length l) all in
    let due = due_next encode own await s mid t layouts sectors i key old new before after is shut (omega (arith, low, long)) frees in
    subst (IsDue mid (freed_all t (take i keys)) (unlisted_all layouts (take i keys)) sectors) (ap (λ (l : List Key). get_or l i key) (sym all) ∙ sym at) due

pub one_more_at : BothCarry → (s mid left : StateValue) (t : Table) (layouts : Layouts) (items keys : List Key) (i : ℕ) (key : Key) (old list new : List Commit) (before between after : List Entry)
    → items ≡ keys → i < length items → key ≡ get_or items i key → FreesInGroup s t layouts (take i keys) old list before between mid
    → FreesInGroup mid (freed_all t (take i keys)) (unlisted_all layouts (take i keys)) (key ∷ []) list new between after left
    → FreesInGroup s t layouts (take (i + 1) keys) old new before after left
one_more_at joined s mid left t layouts items keys i key old list new before between after all low at a b =
    let long : length items ≡ length keys = ap (λ (l : List Key). length l) all in
    let same : key ≡ get_or keys i key = at ∙ ap (λ (l : List Key). get_or l i key) all in
    one_more joined s mid left t layouts keys i key old list new before between after (omega (arith, low, long)) a
    (subst (λ (k : Key). FreesInGroup mid (freed_all t (take i keys)) (unlisted_all layouts (take i keys)) (k ∷ []) list new between after left) same b)

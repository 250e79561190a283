-- The layouts of a group of which one list has changed.
use Rattle.std.proofs.Common.{◌≡◌, ◌<◌, ◌%◌, ℕ, List, [], ◌∷◌, length, get_or, refl, ap, sym, subst, ◌∙◌, arith}
use Rattle.std.specs.Prelude.{◌≢◌}
use Rattle.std.proofs.lemmas.List.{get_or-set_same, get_or-set_other, length-set}
use Rattle.life_limits.specs.declared.TheConstants.{BUCKETS, FIRST_PAGE_BLOCK}
use Rattle.agi_buckets.specs.Buckets.{put_first, take_out, without}
use Rattle.life_table.specs.declared.table.Table.{Table}
use Rattle.sound_image.specs.Encoding.{Layout, Layouts, AreLayouts, layout_of, bucket_list, page_of}
use Rattle.encoded_changes.specs.Changes.{HasLists, PutsFirst, TakesOut, put_in, taken_from, with_buckets}

-- what an inode put first leaves, and what it changes
pub record FirstPut (layouts others : Layouts) (group agino : ℕ) : Type 0 where
  pub page : page_of others group ≡ page_of layouts group
  pub own : bucket_list others group (agino % BUCKETS) ≡ agino ∷ bucket_list layouts group (agino % BUCKETS)
  pub lists : (bucket : ℕ) → bucket < BUCKETS → bucket ≢ agino % BUCKETS → bucket_list others group bucket ≡ bucket_list layouts group bucket
  pub groups : (other : ℕ) → other ≢ group → layout_of others other ≡ layout_of layouts other
  pub long : length others ≡ length layouts
  pub many : length (layout_of others group).buckets ≡ BUCKETS

-- the same of one taken out
pub record OutTaken (layouts others : Layouts) (group agino : ℕ) : Type 0 where
  pub page : page_of others group ≡ page_of layouts group
  pub own : bucket_list others group (agino % BUCKETS) ≡ without (bucket_list layouts group (agino % BUCKETS)) agino
  pub lists : (bucket : ℕ) → bucket < BUCKETS → bucket ≢ agino % BUCKETS → bucket_list others group bucket ≡ bucket_list layouts group bucket
  pub groups : (other : ℕ) → other ≢ group → layout_of others other ≡ layout_of layouts other
  pub long : length others ≡ length layouts
  pub many : length (layout_of others group).buckets ≡ BUCKETS

abbrev no_layout : Layout
no_layout = record { page = FIRST_PAGE_BLOCK; buckets = [] }

layout_own : (layouts : Layouts) (group : ℕ) (buckets : List (List ℕ)) → group < length layouts
    → layout_of (with_buckets layouts group buckets) group ≡ record { page = page_of layouts group; buckets = buckets }
unfolding layout_of
layout_own layouts group buckets lt = get_or-set_same layouts group (record { page = page_of layouts group; buckets = buckets }) no_layout lt

layout_other : (layouts : Layouts) (group other : ℕ) (buckets : List (List ℕ)) → other ≢ group → layout_of (with_buckets layouts group buckets) other ≡ layout_of layouts other
unfolding layout_of
layout_other layouts group other buckets apart = get_or-set_other layouts group other (record { page = page_of layouts group; buckets = buckets }) no_layout apart

page_own : (layouts : Layouts) (group : ℕ) (buckets : List (List ℕ)) → group < length layouts → page_of (with_buckets layouts group buckets) group ≡ page_of layouts group
unfolding page_of
page_own layouts group buckets lt = ap (λ (l : Layout). l.page) (layout_own layouts group buckets lt)

list_own : (layouts : Layouts) (group bucket : ℕ) (buckets : List (List ℕ)) → group < length layouts → bucket_list (with_buckets layouts group buckets) group bucket ≡ get_or buckets bucket []
unfolding bucket_list
list_own layouts group bucket buckets lt = ap (λ (l : Layout). get_or l.buckets bucket []) (layout_own layouts group buckets lt)

list_was : (layouts : Layouts) (group bucket : ℕ) → get_or (layout_of layouts group).buckets bucket [] ≡ bucket_list layouts group bucket
unfolding bucket_list
list_was layouts group bucket = refl

put_is : (layouts : Layouts) (group agino : ℕ) → group < length layouts → length (layout_of layouts group).buckets ≡ BUCKETS
    → FirstPut layouts (put_in layouts group agino) group agino
put_is layouts group agino lt whole =
    let lists : List (List ℕ) = (layout_of layouts group).buckets in
    record {
      page = page_own layouts group (put_first lists agino) lt;
      own = list_own layouts group (agino % BUCKETS) (put_first lists agino) lt
          ∙ get_or-set_same lists (agino % BUCKETS) (agino ∷ get_or lists (agino % BUCKETS) []) [] (omega (arith, whole))
          ∙ ap (λ (l : List ℕ). agino ∷ l) (list_was layouts group (agino % BUCKETS));
      lists = λ bucket low apart.
          list_own layouts group bucket (put_first lists agino) lt
          ∙ get_or-set_other lists (agino % BUCKETS) bucket (agino ∷ get_or lists (agino % BUCKETS) []) [] apart
          ∙ list_was layouts group bucket;
      groups = λ other apart. layout_other layouts group other (put_first lists agino) apart;
      long = length-set layouts group (record { page = page_of layouts group; buckets = put_first lists agino });
      many = ap (λ (l : Layout). length l.buckets) (layout_own layouts group (put_first lists agino) lt)
          ∙ length-set lists (agino % BUCKETS) (agino ∷ get_or lists (agino % BUCKETS) []) ∙ whole;
    }

taken_is : (layouts : Layouts) (group agino : ℕ) → group < length layouts → length (layout_of layouts group).buckets ≡ BUCKETS
    → OutTaken layouts (taken_from layouts group agino) group agino
taken_is layouts group agino lt whole =
    let lists : List (List ℕ) = (layout_of layouts group).buckets in
    record {
      page = page_own layouts group (take_out lists agino) lt;
      own = list_own layouts group (agino % BUCKETS) (take_out lists agino) lt
          ∙ get_or-set_same lists (agino % BUCKETS) (without (get_or lists (agino % BUCKETS) []) agino) [] (omega (arith, whole))
          ∙ ap (λ (l : List ℕ). without l agino) (list_was layouts group (agino % BUCKETS));
      lists = λ bucket low apart.
          list_own layouts group bucket (take_out lists agino) lt
          ∙ get_or-set_other lists (agino % BUCKETS) bucket (without (get_or lists (agino % BUCKETS) []) agino) [] apart
          ∙ list_was layouts group bucket;
      groups = λ other apart. layout_other layouts group other (take_out lists agino) apart;
      long = length-set layouts group (record { page = page_of layouts group; buckets = take_out lists agino });
      many = ap (λ (l : Layout). length l.buckets) (layout_own layouts group (take_out lists agino) lt)
          ∙ length-set lists (agino % BUCKETS) (without (get_or lists (agino % BUCKETS) []) agino) ∙ whole;
    }

pub first_put : (layouts others : Layouts) (group agino : ℕ) → PutsFirst layouts others group agino → FirstPut layouts others group agino
first_put layouts others group agino puts =
    subst (λ (l : Layouts). FirstPut layouts l group agino) (sym puts.made) (put_is layouts group agino puts.had.layout puts.had.lists)

pub out_taken : (layouts others : Layouts) (group agino : ℕ) → TakesOut layouts others group agino → OutTaken layouts others group agino
out_taken layouts others group agino out =
    subst (λ (l : Layouts). OutTaken layouts l group agino) (sym out.made) (taken_is layouts group agino out.had.layout out.had.lists)

-- a group of a table has its lists
pub has_lists : (t : Table) (layouts : Layouts) (group : ℕ) → AreLayouts t layouts → group < length t.groups → HasLists layouts group
has_lists t layouts group are lt = let long = are.groups in record { layout = omega arith; lists = are.lists group lt }

pub puts_first : (t : Table) (layouts : Layouts) (group agino : ℕ) → AreLayouts t layouts → group < length t.groups → PutsFirst layouts (put_in layouts group agino) group agino
puts_first t layouts group agino are lt = record { had = has_lists t layouts group are lt; made = refl }

pub takes_out : (t : Table) (layouts : Layouts) (group agino : ℕ) → AreLayouts t layouts → group < length t.groups → TakesOut layouts (taken_from layouts group agino) group agino
takes_out t layouts group agino are lt = record { had = has_lists t layouts group are lt; made = refl }

-- The layouts of groups without a chunk.
use Rattle.std.proofs.Common.{◌≡◌, ◌<◌, ℕ, List, [], length, get_or, refl, ap, sym, ◌∙◌}
use Rattle.std.specs.Prelude.{replicate}
use Rattle.std.proofs.lemmas.List.{get_or-replicate, length-replicate}
use Rattle.life_limits.specs.declared.TheConstants.{BUCKETS, FIRST_PAGE_BLOCK}
use Rattle.geometry.specs.declared.shape.Geometry.{Geometry}
use Rattle.sound_image.specs.Encoding.{HasSameLayouts, Layout, Layouts, bucket_list, layout_of, page_of}

abbrev pub blank_layout : Layout
blank_layout = record { page = FIRST_PAGE_BLOCK; buckets = replicate BUCKETS [] }

abbrev pub blank_layouts : Geometry → Layouts
blank_layouts g = replicate g.groups blank_layout

pub one_each : (g : Geometry) → length (blank_layouts g) ≡ g.groups
one_each g = length-replicate g.groups blank_layout

layout_is : (g : Geometry) (group : ℕ) → group < g.groups → layout_of (blank_layouts g) group ≡ blank_layout
unfolding layout_of
layout_is g group lt = get_or-replicate g.groups group blank_layout (record { page = FIRST_PAGE_BLOCK; buckets = [] }) lt

pub lists_each : (g : Geometry) (group : ℕ) → group < g.groups → length (layout_of (blank_layouts g) group).buckets ≡ BUCKETS
lists_each g group lt = ap (λ (l : Layout). length l.buckets) (layout_is g group lt) ∙ length-replicate {A = List ℕ} BUCKETS []

pub page_is : (g : Geometry) (group : ℕ) → group < g.groups → page_of (blank_layouts g) group ≡ FIRST_PAGE_BLOCK
unfolding page_of
page_is g group lt = ap (λ (l : Layout). l.page) (layout_is g group lt)

pub list_is : (g : Geometry) (group bucket : ℕ) → group < g.groups → bucket < BUCKETS → bucket_list (blank_layouts g) group bucket ≡ []
unfolding bucket_list
list_is g group bucket lt low =
    ap (λ (l : Layout). get_or l.buckets bucket []) (layout_is g group lt) ∙ get_or-replicate {A = List ℕ} BUCKETS bucket [] [] low

page_none : (group : ℕ) → page_of [] group ≡ FIRST_PAGE_BLOCK
unfolding page_of layout_of
page_none group = refl

list_none : (group bucket : ℕ) → bucket_list [] group bucket ≡ []
unfolding bucket_list layout_of
list_none group bucket = refl

-- they say what no layouts say
pub as_none : (g : Geometry) → HasSameLayouts g [] (blank_layouts g)
as_none g = record {
  page = λ group lt. page_is g group lt ∙ sym (page_none group);
  lists = λ group bucket lt low. list_is g group bucket lt low ∙ sym (list_none group bucket);
}

use Rattle.std.proofs.Common.{◌≡◌, ◌<◌, ◌∙◌, sym, ap, refl, arith, map, length, get_or, ℕ, List}
use Rattle.lfs_tag.proofs.Common.{length-map, map-set, get_or-map, attribute_view, index_for_attribute}
use Rattle.lfs_tag.proofs.Places.{put_same, put_other, map-insert, first_within}
use Rattle.lfs_tag.proofs.content.set_attribute.Goals as goal
use Rattle.lfs_tag.proofs.content.set_attribute.Goals.{else-place-len-via-then-place-len+else-index-attribute, else-place-len-via-else-place-len}

pub insert-requires : goal.insert-requires
insert-requires c =
    let place : c.attribute_index-place.result ≡ index_for_attribute c.args.attribute.kind (map attribute_view c.args.attributes.now.items) = c.attribute_index-place.ensures ∙ rw c.deref.ensures.value refl in
    omega (arith, place, first_within c.args.attribute.kind (map attribute_view c.args.attributes.now.items), length-map c.args.attributes.now.items attribute_view)

pub returns-then-index-attribute : goal.returns-then-index-attribute
returns-then-index-attribute c =
    let now = c.args.attributes.now.items in
    let xs = map attribute_view now in
    let place : c.attribute_index-place.result ≡ index_for_attribute c.args.attribute.kind xs = c.attribute_index-place.ensures ∙ rw c.deref.ensures.value refl in
    let lt : index_for_attribute c.args.attribute.kind xs < length xs = omega (arith, place, length-map now attribute_view) in
    let there = get_or-map attribute_view now c.attribute_index-place.result c.index.result.now (attribute_view c.index.result.now) (omega arith) in
    let same : (get_or xs c.attribute_index-place.result (attribute_view c.index.result.now)).0 ≡ c.args.attribute.kind =
    ap (λ (a : ℕ × List ℕ). a.0) (there ∙ ap attribute_view (sym c.index.ensures)) ∙ c.if-index-attribute.true in
    map-set attribute_view now c.attribute_index-place.result c.args.attribute
    ∙ rw place (sym (put_same c.args.attribute.kind c.args.attribute.bytes.now xs (attribute_view c.index.result.now) lt (rw place at same)))

pub returns-in_ok-insert : goal.returns-in_ok-insert
returns-in_ok-insert c =
    let now = c.args.attributes.now.items in
    let xs = map attribute_view now in
    let kind = c.args.attribute.kind in
    let new = attribute_view c.args.attribute in
    let place : c.attribute_index-place.result ≡ index_for_attribute kind xs = c.attribute_index-place.ensures ∙ rw c.deref.ensures.value refl in
    let other : index_for_attribute kind xs < length xs → (get_or xs (index_for_attribute kind xs) new).0 ≡ kind → ⊥ = λ lt same.
    elim c.else-place-len.branch [
      | else-place-len-via-then-place-len+else-index-attribute w ↦
          let there = get_or-map attribute_view now (index_for_attribute kind xs) w.index.result.now new (omega (arith, place, length-map now attribute_view)) in
          let is : w.index.result.now ≡ get_or now (index_for_attribute kind xs) w.index.result.now = rw place at w.index.ensures in
          let kind_is : w.index.result.now.kind ≡ kind = ap (λ (a : ℕ × List ℕ). a.0) (ap attribute_view is ∙ sym there) ∙ same in
          absurd (w.if-index-attribute.false kind_is)
      | else-place-len-via-else-place-len w ↦ absurd (omega (arith, place, length-map now attribute_view))
    ] in
    rw (c.in_ok-insert.ensures.items, place) (map-insert attribute_view now (index_for_attribute kind xs) c.args.attribute ∙ sym (put_other kind c.args.attribute.bytes.now xs new other))

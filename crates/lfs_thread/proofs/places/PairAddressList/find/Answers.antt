use Rattle.std.proofs.Common.{length, ℕ, ap, sym, ◌∙◌, map, option_map, refl, arith, List, nat_cmp}
use Rattle.lfs_thread.proofs.Common.{get, length-map, slice_get_within, address_of_array, address_index}
use Rattle.std.proofs.lemmas.Option.{slice_get-map, slice_get_read}
use Rattle.lfs_thread.proofs.ByBlocks.{found_place, no_place, other_place, place_none, place_some, place_within}
use Rattle.lfs_thread.proofs.places.PairAddressList.find.Goals as goal

pub returns-in_default-clause-value : goal.returns-in_default-clause-value
returns-in_default-clause-value c =
    let addresses = map address_of_array c.self.inside.addresses.items in
    let at = address_of_array c.args.pair in
    sym (no_place addresses (get nat_cmp c.self.inside.by_block) c.self.invariant at (ap (get nat_cmp c.self.inside.by_block) (sym c.lesser_block.ensures) ∙ sym c.in_default.ensures.value))
    ∙ ap (λ (xs : List (ℕ × ℕ)). address_index xs at) c.self.view_is

pub index-requires : goal.index-requires
index-requires c =
    let addresses = map address_of_array c.self.inside.addresses.items in
    let at = address_of_array c.args.pair in
    let found = ap (get nat_cmp c.self.inside.by_block) (sym c.lesser_block.ensures) ∙ sym c.in-Some.ensures.value in
    let a = place_within addresses (get nat_cmp c.self.inside.by_block) c.self.invariant at c.in-Some.place.now found in
    omega (arith, slice_get_within addresses c.in-Some.place.now a.0 a.1, length-map c.self.inside.addresses.items address_of_array)

pub returns-then-greater_block-clause-value : goal.returns-then-greater_block-clause-value
returns-then-greater_block-clause-value c =
    let addresses = map address_of_array c.self.inside.addresses.items in
    let at = address_of_array c.args.pair in
    let found = ap (get nat_cmp c.self.inside.by_block) (sym c.lesser_block.ensures) ∙ sym c.in-Some.ensures.value in
    let a = place_within addresses (get nat_cmp c.self.inside.by_block) c.self.invariant at c.in-Some.place.now found in
    let within = slice_get_within addresses c.in-Some.place.now a.0 a.1 in
    let here = slice_get-map address_of_array c.self.inside.addresses.items c.in-Some.place.now
    ∙ ap (option_map address_of_array) (slice_get_read c.self.inside.addresses.items _ c.in-Some.place.now c.index.result.now refl (omega (arith, within, length-map c.self.inside.addresses.items address_of_array)) c.index.ensures) in
    sym (found_place addresses (get nat_cmp c.self.inside.by_block) c.self.invariant at c.in-Some.place.now (address_of_array c.index.result.now) found here
    (sym c.greater_block.ensures ∙ c.if-greater_block.true ∙ c.greater_block-2.ensures))
    ∙ ap (λ (xs : List (ℕ × ℕ)). address_index xs at) c.self.view_is

pub returns-else-greater_block-clause-value : goal.returns-else-greater_block-clause-value
returns-else-greater_block-clause-value c =
    let addresses = map address_of_array c.self.inside.addresses.items in
    let at = address_of_array c.args.pair in
    let found = ap (get nat_cmp c.self.inside.by_block) (sym c.lesser_block.ensures) ∙ sym c.in-Some.ensures.value in
    let a = place_within addresses (get nat_cmp c.self.inside.by_block) c.self.invariant at c.in-Some.place.now found in
    let within = slice_get_within addresses c.in-Some.place.now a.0 a.1 in
    let here = slice_get-map address_of_array c.self.inside.addresses.items c.in-Some.place.now
    ∙ ap (option_map address_of_array) (slice_get_read c.self.inside.addresses.items _ c.in-Some.place.now c.index.result.now refl (omega (arith, within, length-map c.self.inside.addresses.items address_of_array)) c.index.ensures) in
    sym (other_place addresses (get nat_cmp c.self.inside.by_block) c.self.invariant at c.in-Some.place.now (address_of_array c.index.result.now) found here
    (λ e. c.if-greater_block.false (c.greater_block.ensures ∙ e ∙ sym c.greater_block-2.ensures)))
    ∙ ap (λ (xs : List (ℕ × ℕ)). address_index xs at) c.self.view_is

pub returns-then-greater_block-clause-within : goal.returns-then-greater_block-clause-within
returns-then-greater_block-clause-within c =
    let addresses = map address_of_array c.self.inside.addresses.items in
    let found = ap (get nat_cmp c.self.inside.by_block) (sym c.lesser_block.ensures) ∙ sym c.in-Some.ensures.value in
    let a = place_within addresses (get nat_cmp c.self.inside.by_block) c.self.invariant (address_of_array c.args.pair) c.in-Some.place.now found in
    omega (arith, slice_get_within addresses c.in-Some.place.now a.0 a.1, ap (λ (xs : List (ℕ × ℕ)). length xs) c.self.view_is)

pub returns-then-greater_block-clause-there : goal.returns-then-greater_block-clause-there
returns-then-greater_block-clause-there c = place_some _ (address_of_array c.args.pair) _ (sym (returns-then-greater_block-clause-value c))

pub returns-in_default-clause-nowhere : goal.returns-in_default-clause-nowhere
returns-in_default-clause-nowhere c = place_none _ (address_of_array c.args.pair) (sym (returns-in_default-clause-value c))

pub returns-else-greater_block-clause-nowhere : goal.returns-else-greater_block-clause-nowhere
returns-else-greater_block-clause-nowhere c = place_none _ (address_of_array c.args.pair) (sym (returns-else-greater_block-clause-value c))

use Rattle.std.proofs.Common.{arith, ◌≡◌, ◌<◌, ◌^◌, ◌∷◌, ◌++◌, [], List, ℕ, false, Result, Ok, Err, nat_cmp, length, map, sym, ap, subst, ◌∙◌}
use Rattle.std.specs.Prelude.{OnOk, is_err, nat_eq}
use Rattle.lfs_thread.proofs.Common.{IsDistinct, get, length-map, map-append, address_of_array, FindsByLesser, blocks_of_addresses, lesser_of}
use Rattle.lfs_thread.proofs.ByBlocks.{few_places, one_more_place, put_at}
use Rattle.lfs_thread.proofs.places.PairAddressList.add.Goals as goal

ok_of : {T E P : Type 0} (r : Result T E) → OnOk r P → is_err r ≡ false → P
ok_of (Ok x) h e = h
ok_of (Err y) h e = absurd (cc)

pub overflow_cast-place : goal.overflow_cast-place
overflow_cast-place c =
    let addresses = map address_of_array c.self.inside.addresses.items in
    let at = address_of_array c.args.pair in
    let here : lesser_of at < 2 ^ 32 = let e = c.lesser_block-block.ensures in omega (arith, e) in
    let few : length addresses < 2 ^ 32 = few_places addresses at (subst (λ (xs : List (ℕ × ℕ)). IsDistinct nat_eq (blocks_of_addresses (xs ++ at ∷ []))) (sym c.self.view_is) c.requires) c.self.invariant.small here in
    omega (arith, few, c.len-place.ensures, length-map c.self.inside.addresses.items address_of_array)

pub invariant_of-self-else-is_err : goal.invariant_of-self-else-is_err
invariant_of-self-else-is_err c =
    let addresses = map address_of_array c.self.inside.addresses.items in
    let at = address_of_array c.args.pair in
    let place = get nat_cmp c.self.inside.by_block in
    let new = get nat_cmp c.insert.new.self in
    let up = ok_of c.insert.result c.insert.ensures.updates (sym c.is_err.ensures.value ∙ c.if-is_err.false) in
    let count : c.len-place.result ≡ length addresses = omega (arith, c.len-place.ensures, length-map c.self.inside.addresses.items address_of_array) in
    let put : (q : ℕ) → new q ≡ put_at place (lesser_of at) (length addresses) q =
    λ q. up.0 q ∙ ap (λ key. put_at place key c.len-place.result q) c.lesser_block-block.ensures ∙ ap (λ value. put_at place (lesser_of at) value q) count in
    let here : lesser_of at < 2 ^ 32 = let e = c.lesser_block-block.ensures in omega (arith, e) in
    subst (λ xs. FindsByLesser xs new) (sym (ap (map address_of_array) c.in_ok-push.ensures.items ∙ map-append address_of_array c.self.inside.addresses.items (c.args.pair ∷ [])))
    (one_more_place addresses place new c.self.invariant at (subst (λ (xs : List (ℕ × ℕ)). IsDistinct nat_eq (blocks_of_addresses (xs ++ at ∷ []))) (sym c.self.view_is) c.requires) here put)

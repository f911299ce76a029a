-- A tail that a change sets.
use Rattle.std.proofs.Common.{ℕ, ◌≡◌, ◌^◌, Bool, true, false, Option, Some, refl, ap, ◌∙◌}
use Rattle.lfs_pair.proofs.Common.{and_parts, ltb-true, RawContent, content_after, change_entries, is_storable}
use Rattle.std.specs.Prelude.{[], ◌∷◌, nat_lt}
use Rattle.lfs_model.specs.format.EntryTypes.{tail_if_not_null, decoded_address}
use Rattle.lfs_model.specs.layers.WrittenContent.{tail_entry, tail_or_null, address_bytes}
use Rattle.lfs_model.specs.layers.Changes.{PutTail}
use Rattle.lfs_model.proofs.WrittenAnew.{decoded_address-address_bytes}

pub tail_changed : (c : RawContent) (hard : Bool) (pair : Option (ℕ × ℕ)) → is_storable (PutTail hard pair) ≡ true
    → content_after c (change_entries (PutTail hard pair)) ≡ Some (record c { tail = tail_if_not_null hard (tail_or_null pair) })
tail_changed c hard pair s =
    let both = and_parts (nat_lt (tail_or_null pair).0 (2 ^ 32)) (nat_lt (tail_or_null pair).1 (2 ^ 32)) s in
    let same = decoded_address-address_bytes (tail_or_null pair) (ltb-true (tail_or_null pair).0 (2 ^ 32) both.0, ltb-true (tail_or_null pair).1 (2 ^ 32) both.1) in
    go hard ∙ ap (λ p. Some (record c { tail = tail_if_not_null hard p })) same
  where
    go : (h : Bool) → content_after c (tail_entry h pair ∷ []) ≡ Some (record c { tail = tail_if_not_null h (decoded_address (address_bytes (tail_or_null pair))) })
    go true = refl
    go false = refl

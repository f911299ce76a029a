-- The entries of changes can be stored, so what they make of a content can be written again.
use Rattle.std.proofs.Common.{ℕ, zero, suc, ◌≡◌, ◌+◌, ◌/◌, ◌%◌, ◌<◌, ◌≤◌, ◌==◌, ◌&&◌, Bool, true, false, cond, List, [], ◌∷◌, length, Some, None, refl, sym, ap, ◌∙◌, arith}
use Rattle.std.specs.Prelude.{slice_index, nat_le, nat_lt}
use Rattle.lfs_model.proofs.Common.{list_all, and_parts, ne_eqb, leb-true, ltb-true, make_tag, tag_class, tag_length, RawContent, content_after, is_attribute_removal, no_id, create_tag_type, delete_tag_type, move_state_type, log_entry, first_attribute_type, address_bytes, bytes_of_move_state, HasTagLength, HaveTagLengths, IsWellFormed, ContentChange, Create, Delete, PutStruct, PutAttribute, RemoveAttribute, PutTail, PutMove, change_entries, entries_of_changes, is_storable, content_with_changes}
use Rattle.lfs_model.specs.layers.WrittenContent.{tail_type, tail_or_null}
use Rattle.lfs_model.specs.layers.Changes.{is_name_type, is_struct_type, fits_in_tag}
use Rattle.lfs_model.proofs.WrittenAnew.{tag_length-make_tag}
use Rattle.lfs_model.proofs.Logged.{stored_append, logged_after_all}

-- an entry with at most 1,022 bytes
stored_data : (type id : ℕ) (bytes : List ℕ) → length bytes ≤ 1022 → (6 ≤ tag_class (make_tag type id (length bytes)) → (i : ℕ) → slice_index bytes i < 256) → HasTagLength (log_entry type id bytes)
stored_data type id bytes short small =
    let len : tag_length (make_tag type id (length bytes)) ≡ length bytes = tag_length-make_tag type id (length bytes) (omega arith) in
    let stays : is_attribute_removal (make_tag type id (length bytes)) ≡ false = ne_eqb (tag_length (make_tag type id (length bytes))) 0x3ff (λ h. omega arith) in
    record { size = sym (ap (λ b. cond b 0 (tag_length (make_tag type id (length bytes)))) stays ∙ len); bytes = small }

-- the bytes of numbers
abbrev EachSmall : List ℕ → Type 0
EachSmall [] = Unit {0}
EachSmall (b ∷ bytes) = (b < 256) × EachSmall bytes

small_at : (bytes : List ℕ) → EachSmall bytes → (i : ℕ) → slice_index bytes i < 256
small_at [] h i = omega arith
small_at (b ∷ bytes) h zero = h.0
small_at (b ∷ bytes) h (suc i) = small_at bytes h.1 i

eight : (bytes : List ℕ) → EachSmall bytes → (a b c d e f g h : ℕ) → EachSmall (a % 256 ∷ b % 256 ∷ c % 256 ∷ d % 256 ∷ e % 256 ∷ f % 256 ∷ g % 256 ∷ h % 256 ∷ bytes)
eight bytes all a b c d e f g h = (omega arith, (omega arith, (omega arith, (omega arith, (omega arith, (omega arith, (omega arith, (omega arith, all))))))))

pair_small : (pair : ℕ × ℕ) → EachSmall (address_bytes pair)
pair_small pair = eight [] tt pair.0 (pair.0 / 256) (pair.0 / 65536) (pair.0 / 16777216) pair.1 (pair.1 / 256) (pair.1 / 65536) (pair.1 / 16777216)

-- entries of names, structs and attributes are of a lower class
stored_low : (type id : ℕ) (bytes : List ℕ) → type < 0x600 → id < 0x3ff → length bytes ≤ 1022 → HasTagLength (log_entry type id bytes)
stored_low type id bytes t i n = stored_data type id bytes n (λ k. absurd (omega arith))

stored_change : (c : ContentChange) → is_storable c ≡ true → HaveTagLengths (change_entries c)
stored_change (Create id kind name) s =
    let a = and_parts (nat_lt id no_id) (is_name_type kind && fits_in_tag name) s in
    let b = and_parts (is_name_type kind) (fits_in_tag name) a.1 in
    let i : id < 0x3ff = ltb-true id no_id a.0 in
    let k : kind < 0x100 = ltb-true kind 0x100 b.0 in
    let n : length name ≤ 1022 = leb-true (length name) 1022 b.1 in
    (stored_low create_tag_type id [] (omega arith) i (omega arith), (stored_low kind id name (omega arith) i n, tt))
stored_change (Delete id) s = (stored_low delete_tag_type id [] (omega arith) (ltb-true id no_id s) (omega arith), tt)
stored_change (PutStruct id kind bytes) s =
    let a = and_parts (nat_lt id no_id) (is_struct_type kind && fits_in_tag bytes) s in
    let b = and_parts (is_struct_type kind) (fits_in_tag bytes) a.1 in
    let k = and_parts (nat_le 0x200 kind) (nat_lt kind 0x300) b.0 in
    let below : kind < 0x300 = ltb-true kind 0x300 k.1 in
    (stored_low kind id bytes (omega arith) (ltb-true id no_id a.0) (leb-true (length bytes) 1022 b.1), tt)
stored_change (PutAttribute id attribute bytes) s =
    let a = and_parts (nat_lt id no_id) (nat_lt attribute 0x100 && fits_in_tag bytes) s in
    let b = and_parts (nat_lt attribute 0x100) (fits_in_tag bytes) a.1 in
    let below : attribute < 0x100 = ltb-true attribute 0x100 b.0 in
    (stored_low (first_attribute_type + attribute) id bytes (omega arith) (ltb-true id no_id a.0) (leb-true (length bytes) 1022 b.1), tt)
stored_change (RemoveAttribute id attribute) s =
    let a = and_parts (nat_lt id no_id) (nat_lt attribute 0x100) s in
    let i : id < 0x3ff = ltb-true id no_id a.0 in
    let below : attribute < 0x100 = ltb-true attribute 0x100 a.1 in
    let len : tag_length (make_tag (first_attribute_type + attribute) id 0x3ff) ≡ 0x3ff = tag_length-make_tag (first_attribute_type + attribute) id 0x3ff (omega arith) in (
      record {
        size = sym (ap (λ l. cond (l == 0x3ff) 0 l) len);
        bytes = λ k. absurd (omega arith);
      },
      tt,
    )
stored_change (PutTail hard pair) s =
    (stored_data (tail_type hard) no_id (address_bytes (tail_or_null pair)) (omega arith) (λ k. small_at (address_bytes (tail_or_null pair)) (pair_small (tail_or_null pair))), tt)
stored_change (PutMove state) s =
    (stored_data move_state_type no_id (bytes_of_move_state state) (omega arith) (λ k. small_at (bytes_of_move_state state) (omega arith, (omega arith, (omega arith, (omega arith, pair_small state.pair))))), tt)

stored_changes : (changes : List ContentChange) → list_all is_storable changes ≡ true → HaveTagLengths (entries_of_changes changes)
stored_changes [] s = tt
stored_changes (c ∷ changes) s =
    let both = and_parts (is_storable c) (list_all is_storable changes) s in
    stored_append (change_entries c) (entries_of_changes changes) (stored_change c both.0) (stored_changes changes both.1)

pub logged_changed : (c : RawContent) (changes : List ContentChange) (d : RawContent) → IsWellFormed c → content_with_changes c changes ≡ Some d → IsWellFormed d
logged_changed c changes d h is = go (list_all is_storable changes) refl is
  where
    go : (b : Bool) → list_all is_storable changes ≡ b → cond b (content_after c (entries_of_changes changes)) None ≡ Some d → IsWellFormed d
    go true s f = logged_after_all c (entries_of_changes changes) d h (stored_changes changes s) f
    go false s f = absurd (cc)

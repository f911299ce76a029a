-- The entries of a log's slots.
use Rattle.std.proofs.Common.{ℕ, zero, suc, ◌≡◌, ◌<◌, ◌∙◌, Bool, true, false, cond, not, List, [], ◌∷◌, ◌++◌, length, map, filter, get_or, remove, Option, Some, None, refl, sym, ap, ap₂, subst, arith}
use Rattle.lfs_lookup.proofs.Common.{same_Some, Slot, is_superblock, RawSlot, decoded_slots, IsWellFormedSlot, AreWellFormed, complete_parts, NamedStruct, named_struct, raw_entries, slots_except}
use Rattle.lfs_model.proofs.Completed.{complete_remove}
use Rattle.lfs_lookup.specs.Items.{optional_entry_list, visible_slot_entries, entry_unless_superblock}

-- ---- parts

parts_of : {X : Type 0} (f : X → RawSlot) (xs : List X) (i : ℕ) (d : X) → AreWellFormed (map f xs) → i < length xs → IsWellFormedSlot (f (get_or xs i d))
parts_of f [] i d h l = absurd (omega arith)
parts_of f (x ∷ xs) zero d h l = h.0
parts_of f (x ∷ xs) (suc i) d h l = parts_of f xs i d h.1 (omega arith)

pub parts_at : {X : Type 0} (f : X → RawSlot) (xs : List X) (i : ℕ) (x : X) → AreWellFormed (map f xs) → i < length xs → x ≡ get_or xs i x → IsWellFormedSlot (f x)
parts_at f xs i x h l at = subst (λ z. IsWellFormedSlot (f z)) (sym at) (parts_of f xs i x h l)

parts_remove : (xs : List RawSlot) (id : ℕ) → AreWellFormed xs → AreWellFormed (remove xs id)
parts_remove [] zero h = tt
parts_remove [] (suc id) h = tt
parts_remove (x ∷ xs) zero h = h.1
parts_remove (x ∷ xs) (suc id) h = (h.0, parts_remove xs id h.1)

pub parts_without : (moved : Option ℕ) (xs : List RawSlot) → AreWellFormed xs → AreWellFormed (slots_except moved xs)
parts_without None xs h = h
parts_without (Some id) xs h = parts_remove xs id h

-- ---- a slot is removed

pub map_remove : {X Y : Type 0} (f : X → Y) (xs : List X) (id : ℕ) → map f (remove xs id) ≡ remove (map f xs) id
map_remove f [] zero = refl
map_remove f [] (suc id) = refl
map_remove f (x ∷ xs) zero = refl
map_remove f (x ∷ xs) (suc id) = ap (λ ys. f x ∷ ys) (map_remove f xs id)

pub complete_without : (moved : Option ℕ) (xs : List RawSlot) (us : List Slot) → decoded_slots xs ≡ Some us → decoded_slots (slots_except moved xs) ≡ Some (slots_except moved us)
complete_without None xs us h = h
complete_without (Some id) xs us h = complete_remove xs us id h

-- ---- complete slots show their entries

shown_first : (s : Slot) (slots : List Slot) → optional_entry_list (entry_unless_superblock s) ++ map named_struct (filter (λ t. not (is_superblock t)) slots) ≡ map named_struct (filter (λ t. not (is_superblock t)) (s ∷ slots))
shown_first s slots = go (is_superblock s) refl
  where
    go : (b : Bool) → is_superblock s ≡ b →
        optional_entry_list (cond b None (Some (named_struct s))) ++ map named_struct (filter (λ t. not (is_superblock t)) slots) ≡ map named_struct (cond (not b) (s ∷ filter (λ t. not (is_superblock t)) slots) (filter (λ t. not (is_superblock t)) slots))
    go true e = refl
    go false e = refl

pub shown_complete : (raw : List RawSlot) (all : List Slot) → decoded_slots raw ≡ Some all → raw_entries raw ≡ map named_struct (filter (λ s. not (is_superblock s)) all)
shown_complete [] all h = ap (λ us. map named_struct (filter (λ s. not (is_superblock s)) us)) (same_Some [] all h)
shown_complete (x ∷ xs) all h =
    let p = complete_parts x xs all h in
    ap₂ (λ o rest. optional_entry_list (option_shown o) ++ rest) p.is_first (shown_complete xs p.others p.are_others)
    ∙ shown_first p.first p.others
    ∙ ap (λ us. map named_struct (filter (λ s. not (is_superblock s)) us)) (sym p.all_are)
  where
    option_shown : Option Slot → Option NamedStruct
    option_shown None = None
    option_shown (Some s) = entry_unless_superblock s

pub shown_shapes : (moved : Option ℕ) (raw : List RawSlot) (all : List Slot) → decoded_slots raw ≡ Some all → raw_entries (slots_except moved raw) ≡ visible_slot_entries moved all
shown_shapes moved raw all h = shown_complete (slots_except moved raw) (slots_except moved all) (complete_without moved raw all h)

-- Entries, pushed into a commit one after the other.
use Rattle.std.proofs.Common.{ℕ, zero, suc, ◌≡◌, ◌+◌, ◌<◌, ◌≤◌, ◌∙◌, List, [], ◌∷◌, ◌++◌, length, take, map, get_or, sym, ap, subst, arith, append_assoc}
use Rattle.std.specs.List.{flat_map}
use Rattle.lfs_pair.proofs.Common.{append-nil, length-map, length-take-le, flat_map-append, LogEntry, RawSlot, AreWellFormed, attribute_entries, log_entry, entries_of_slots, PartialCommit, attribute_view, commit_with_entries}
use Rattle.std.proofs.lemmas.List.{map-append}
use Rattle.lfs_model.specs.layers.LoggedContent.{AttributesInOrder, IsWellFormedSlot}
use Rattle.lfs_model.specs.layers.WrittenContent.{first_attribute_type, slot_entries}
use Rattle.lfs_tag.specs.declared.content.Attribute.{Attribute}
use Rattle.lfs_pair.proofs.Applied.{mapped_front}

-- ---- commits

-- some entries, and then more
pub with_more : (es fs : List LogEntry) (old mid new : PartialCommit) → mid ≡ commit_with_entries es old → new ≡ commit_with_entries fs mid → new ≡ commit_with_entries (es ++ fs) old
with_more es fs old mid new first second =
    second ∙ ap (commit_with_entries fs) first ∙ ap (λ (all : List LogEntry). record old { entries = all }) (append_assoc old.entries es fs)

-- ---- loops

-- one more attribute
pub attributes_more : (id kind : ℕ) (xs : List Attribute) (i : ℕ) (d : Attribute) (old mid new : PartialCommit) → i < length xs → kind ≡ (get_or xs i d).kind
    → mid ≡ commit_with_entries (attribute_entries id (map attribute_view (take i xs))) old → new ≡ commit_with_entries (log_entry (first_attribute_type + kind) id (get_or xs i d).bytes.now ∷ []) mid
    → new ≡ commit_with_entries (attribute_entries id (map attribute_view (take (i + 1) xs))) old
attributes_more id kind xs i d old mid new l is first second =
    let bytes : List ℕ = (get_or xs i d).bytes.now in
    with_more (attribute_entries id (map attribute_view (take i xs))) (log_entry (first_attribute_type + (get_or xs i d).kind) id bytes ∷ []) old mid new first (second ∙ ap (λ k. commit_with_entries (log_entry (first_attribute_type + k) id bytes ∷ []) mid) is)
    ∙ ap (λ es. commit_with_entries es old) (sym (ap (attribute_entries id) (mapped_front attribute_view xs i d l) ∙ map-append _ (map attribute_view (take i xs)) (attribute_view (get_or xs i d) ∷ [])))

-- one more element of a list in which each has a list of entries
pub flat_more : {X Y : Type 0} (f : X → Y) (e : Y → List LogEntry) (xs : List X) (i : ℕ) (d : X) (old mid new : PartialCommit) → i < length xs
    → mid ≡ commit_with_entries (flat_map e (map f (take i xs))) old → new ≡ commit_with_entries (e (f (get_or xs i d))) mid
    → new ≡ commit_with_entries (flat_map e (map f (take (i + 1) xs))) old
flat_more f e xs i d old mid new l first second =
    with_more (flat_map e (map f (take i xs))) (e (f (get_or xs i d))) old mid new first second
    ∙ ap (λ es. commit_with_entries es old) (sym (ap (flat_map e) (mapped_front f xs i d l) ∙ flat_map-append e (map f (take i xs)) (f (get_or xs i d) ∷ [])
    ∙ ap (λ es. flat_map e (map f (take i xs)) ++ es) (append-nil (e (f (get_or xs i d))))))

slots_append : (id : ℕ) (slots : List RawSlot) (s : RawSlot) → entries_of_slots id (slots ++ s ∷ []) ≡ entries_of_slots id slots ++ slot_entries (id + length slots) s
slots_append id [] s =
    let here : id ≡ id + 0 = omega arith in
    append-nil (slot_entries id s) ∙ ap (λ k. slot_entries k s) here
slots_append id (t ∷ slots) s =
    let next : id + 1 + length slots ≡ id + suc (length slots) = omega arith in
    ap (λ es. slot_entries id t ++ es) (slots_append (id + 1) slots s ∙ ap (λ k. entries_of_slots (id + 1) slots ++ slot_entries k s) next)
    ∙ sym (append_assoc (slot_entries id t) (entries_of_slots (id + 1) slots) (slot_entries (id + suc (length slots)) s))

-- one more slot
pub slots_more : {X : Type 0} (f : X → RawSlot) (xs : List X) (i : ℕ) (x : X) (id : ℕ) (old mid new : PartialCommit) → i < length xs → x ≡ get_or xs i x → id ≡ i
    → mid ≡ commit_with_entries (entries_of_slots 0 (map f (take i xs))) old → new ≡ commit_with_entries (slot_entries id (f x)) mid
    → new ≡ commit_with_entries (entries_of_slots 0 (map f (take (i + 1) xs))) old
slots_more f xs i x id old mid new l at same first second =
    let count : id ≡ 0 + length (map f (take i xs)) = omega (arith, same, length-map (take i xs) f, length-take-le i xs (omega arith)) in
    with_more (entries_of_slots 0 (map f (take i xs))) (slot_entries id (f x)) old mid new first second
    ∙ ap (λ es. commit_with_entries es old) (ap (λ k. entries_of_slots 0 (map f (take i xs)) ++ slot_entries k (f x)) count
    ∙ sym (slots_append 0 (map f (take i xs)) (f x)) ∙ ap (λ z. entries_of_slots 0 (map f (take i xs) ++ f z ∷ [])) at
    ∙ sym (ap (entries_of_slots 0) (mapped_front f xs i x l)))

-- ---- what is pushed can be

pub short_at : {X : Type 0} (f : X → ℕ × List ℕ) (low : ℕ) (xs : List X) (i : ℕ) (d : X) → AttributesInOrder low (map f xs) → i < length xs → length (f (get_or xs i d)).1 ≤ 1022
short_at f low [] i d h l = absurd (omega arith)
short_at f low (x ∷ xs) zero d h l = omega (arith, h.2)
short_at f low (x ∷ xs) (suc i) d h l = short_at f ((f x).0 + 1) xs i d h.3 (omega arith)

parts_of : {X : Type 0} (f : X → RawSlot) (xs : List X) (i : ℕ) (d : X) → AreWellFormed (map f xs) → i < length xs → IsWellFormedSlot (f (get_or xs i d))
parts_of f [] i d h l = absurd (omega arith)
parts_of f (x ∷ xs) zero d h l = h.0
parts_of f (x ∷ xs) (suc i) d h l = parts_of f xs i d h.1 (omega arith)

pub parts_at : {X : Type 0} (f : X → RawSlot) (xs : List X) (i : ℕ) (x : X) → AreWellFormed (map f xs) → i < length xs → x ≡ get_or xs i x → IsWellFormedSlot (f x)
parts_at f xs i x h l at = subst (λ z. IsWellFormedSlot (f z)) (sym at) (parts_of f xs i x h l)

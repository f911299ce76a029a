-- The lists of slots, marked one after the other.
use Rattle.std.proofs.Common.{ℕ, ◌≡◌, ◌+◌, List, [], ◌∷◌, ◌++◌, map, take, Option, Some, None, refl, sym, ap, subst, ◌∙◌, arith, slice_get, option_and_then, append-nil, flat_map}
use Rattle.lfs_mount.proofs.Common.{cons_option, take_more, map-append, flat_map-append, filter_map-append, All-append, All-cons, All-from_recursion, recursion_from_All, each_left, each_right, slice_get_within, get_or_from_slice_get, BlockStates, RawSlot, Disk, IsSkipList, slot_view, raw_slot_entry, MarksFreeBlocksUsed, MarksListBlocksUsed, MarksAllListsUsed, list_head_and_size, list_heads_and_sizes, list_blocks_backwards, lists_view}
use Rattle.lfs_tag.specs.declared.content.Slot.{Slot}

-- ---- marks over joined lists

marks_append : (xs ys : List ℕ) (old mid new : BlockStates) → MarksFreeBlocksUsed old xs mid → MarksFreeBlocksUsed mid ys new → MarksFreeBlocksUsed old (xs ++ ys) new
marks_append [] ys old mid new e n = subst (λ (s : BlockStates). MarksFreeBlocksUsed s ys new) (sym e) n
marks_append (x ∷ xs) ys old mid new (free, m) n = (free, marks_append xs ys _ mid new m n)

pub marks_split : (xs ys : List ℕ) (old new : BlockStates) → MarksFreeBlocksUsed old (xs ++ ys) new → (mid : BlockStates) × MarksFreeBlocksUsed old xs mid × MarksFreeBlocksUsed mid ys new
marks_split [] ys old new n = (old, refl, n)
marks_split (x ∷ xs) ys old new (free, n) = let r = marks_split xs ys _ new n in (r.0, (free, r.1), r.2)

-- lists marked behind others
pub lists_joined : (disk : Disk) (xs ys : List (ℕ × ℕ)) (old mid new : BlockStates) → MarksAllListsUsed disk old xs mid → MarksAllListsUsed disk mid ys new → MarksAllListsUsed disk old (xs ++ ys) new
lists_joined disk xs ys old mid new h k = record {
  lists = All-append (λ (x : ℕ × ℕ). IsSkipList disk.blocks disk.block_size x.0 x.1) xs ys h.lists k.lists;
  marked = subst (λ bs. MarksFreeBlocksUsed old bs new) (sym (flat_map-append (list_blocks_backwards disk) xs ys)) (marks_append (flat_map (list_blocks_backwards disk) xs) (flat_map (list_blocks_backwards disk) ys) old mid new h.marked k.marked);
}

pub lists_parted : (disk : Disk) (xs ys : List (ℕ × ℕ)) (old new : BlockStates) → MarksAllListsUsed disk old (xs ++ ys) new → (mid : BlockStates) × MarksAllListsUsed disk old xs mid × MarksAllListsUsed disk mid ys new
lists_parted disk xs ys old new h =
    let s = marks_split (flat_map (list_blocks_backwards disk) xs) (flat_map (list_blocks_backwards disk) ys) old new (subst (λ bs. MarksFreeBlocksUsed old bs new) (flat_map-append (list_blocks_backwards disk) xs ys) h.marked) in
    let P : ℕ × ℕ → Type 0 = λ x. IsSkipList disk.blocks disk.block_size x.0 x.1 in
    let all = recursion_from_All P (xs ++ ys) h.lists in
    (s.0, record { lists = All-from_recursion P xs (each_left P xs ys all); marked = s.1 }, record { lists = All-from_recursion P ys (each_right P xs ys all); marked = s.2 })

-- ---- the lists of slots

abbrev pub list_view : Slot → Option (ℕ × ℕ)
list_view s = option_and_then list_head_and_size (raw_slot_entry (slot_view s))

lists-append : (xs ys : List Slot) → lists_view (xs ++ ys) ≡ lists_view xs ++ lists_view ys
lists-append xs ys = ap list_heads_and_sizes (map-append slot_view xs ys) ∙ filter_map-append (λ (s : RawSlot). option_and_then list_head_and_size (raw_slot_entry s)) (map slot_view xs) (map slot_view ys)

pub lists_next : (slots : List Slot) (i : ℕ) (s : Slot) (o : Option (ℕ × ℕ)) → slice_get slots i ≡ Some s → list_view s ≡ o → lists_view (take (i + 1) slots) ≡ lists_view (take i slots) ++ cons_option o []
lists_next slots i s o e f =
    ap lists_view (take_more slots i s (slice_get_within slots i s e) ∙ ap (λ (t : Slot). take i slots ++ t ∷ []) (get_or_from_slice_get slots i s s e))
    ∙ lists-append (take i slots) (s ∷ [])
    ∙ ap (λ (p : Option (ℕ × ℕ)). lists_view (take i slots) ++ cons_option p []) f

-- a slot without a list
pub lists_stay : (disk : Disk) (slots : List Slot) (i : ℕ) (s : Slot) (old new : BlockStates) → slice_get slots i ≡ Some s → list_view s ≡ None → MarksAllListsUsed disk old (lists_view (take i slots)) new
    → MarksAllListsUsed disk old (lists_view (take (i + 1) slots)) new
lists_stay disk slots i s old new e f h = subst (λ ls. MarksAllListsUsed disk old ls new) (sym (lists_next slots i s None e f ∙ append-nil (lists_view (take i slots)))) h

-- a slot with one
pub lists_more : (disk : Disk) (slots : List Slot) (i : ℕ) (s : Slot) (l : ℕ × ℕ) (old mid new : BlockStates) → slice_get slots i ≡ Some s → list_view s ≡ Some l → MarksAllListsUsed disk old (lists_view (take i slots)) mid
    → MarksListBlocksUsed disk mid l new → MarksAllListsUsed disk old (lists_view (take (i + 1) slots)) new
lists_more disk slots i s l old mid new e f h k = subst (λ ls. MarksAllListsUsed disk old ls new) (sym (lists_next slots i s (Some l) e f)) (record {
  lists = All-append (λ (x : ℕ × ℕ). IsSkipList disk.blocks disk.block_size x.0 x.1) (lists_view (take i slots)) (l ∷ []) h.lists
      (All-cons (λ (x : ℕ × ℕ). IsSkipList disk.blocks disk.block_size x.0 x.1) l [] k.list (λ j d lt. absurd (omega arith)));
  marked = subst (λ bs. MarksFreeBlocksUsed old bs new) (sym (flat_map-append (list_blocks_backwards disk) (lists_view (take i slots)) (l ∷ []) ∙ ap (λ bs. flat_map (list_blocks_backwards disk) (lists_view (take i slots)) ++ bs) (append-nil (list_blocks_backwards disk l))))
      (marks_append (flat_map (list_blocks_backwards disk) (lists_view (take i slots))) (list_blocks_backwards disk l) old mid new h.marked k.marked);
})

-- The first pairs of directories, by the headers.
use Rattle.std.proofs.Common.{ℕ, ◌≡◌, ◌+◌, ◌≤◌, ◌<◌, Bool, true, false, not, nat_eq, List, [], ◌∷◌, ◌++◌, length, drop, get_or, sym, ap, subst, ◌∙◌, arith, append_assoc}
use Rattle.std.specs.List.{IsDistinct}
use Rattle.std.proofs.lemmas.List.{drop_more}
use Rattle.lfs_mount.proofs.Common.{flat_map-append, Disk, pairs_blocks, occurrence_count, count_append, once_from_distinct, distinct_from_once, header_address, PairHeader, header_pairs, directory_start_addresses_of, header_tail_hard}
use Rattle.lfs_thread.specs.PairPlaces.{blocks_of_addresses}

front_distinct : (xs more : List (ℕ × ℕ)) → IsDistinct nat_eq (blocks_of_addresses (xs ++ more)) → IsDistinct nat_eq (blocks_of_addresses xs)
front_distinct xs more distinct = distinct_from_once (blocks_of_addresses xs) (λ b.
    let o = once_from_distinct (blocks_of_addresses (xs ++ more)) distinct b in
    let e = ap (occurrence_count b) (flat_map-append (λ (at : ℕ × ℕ). at.0 ∷ at.1 ∷ []) xs more) ∙ count_append b (blocks_of_addresses xs) (blocks_of_addresses more) in
    omega arith)

-- the next one has no block in common with those before it
pub next_apart : (xs : List (ℕ × ℕ)) (hs : List PairHeader) (k : ℕ) (h : PairHeader) → k < length hs → h ≡ get_or hs k h → xs ++ directory_start_addresses_of true (drop k hs) ≡ directory_start_addresses_of true hs
    → IsDistinct nat_eq (blocks_of_addresses (directory_start_addresses_of true hs)) → IsDistinct nat_eq (blocks_of_addresses (xs ++ header_address h ∷ []))
next_apart xs hs k h below is e distinct =
    let more : List (ℕ × ℕ) = directory_start_addresses_of (not (header_tail_hard h)) (drop (k + 1) hs) in
    let parts : (xs ++ header_address h ∷ []) ++ more ≡ directory_start_addresses_of true hs =
    append_assoc xs (header_address h ∷ []) more
    ∙ ap (λ (x : PairHeader). xs ++ header_address x ∷ directory_start_addresses_of (not (header_tail_hard x)) (drop (k + 1) hs)) is ∙ ap (λ (ys : List PairHeader). xs ++ directory_start_addresses_of true ys) (sym (drop_more hs k h below)) ∙ e in
    front_distinct (xs ++ header_address h ∷ []) more (subst (λ ys. IsDistinct nat_eq (blocks_of_addresses ys)) (sym parts) distinct)

-- ---- from the blocks of the pairs

begins_count : (disk : Disk) (b : ℕ) (begins : Bool) (hs : List PairHeader) → occurrence_count b (blocks_of_addresses (directory_start_addresses_of begins hs)) ≤ occurrence_count b (pairs_blocks (header_pairs disk hs))
begins_count disk b begins [] = omega arith
begins_count disk b true (h ∷ hs) = let n = begins_count disk b (not (header_tail_hard h)) hs in omega arith
begins_count disk b false (h ∷ hs) = let n = begins_count disk b (not (header_tail_hard h)) hs in omega arith

-- the directories begin in blocks of their own
pub begins_distinct : (disk : Disk) (hs : List PairHeader) → IsDistinct nat_eq (pairs_blocks (header_pairs disk hs)) → IsDistinct nat_eq (blocks_of_addresses (directory_start_addresses_of true hs))
begins_distinct disk hs distinct =
    distinct_from_once (blocks_of_addresses (directory_start_addresses_of true hs)) (λ b. let o = once_from_distinct (pairs_blocks (header_pairs disk hs)) distinct b in let n = begins_count disk b true hs in omega arith)

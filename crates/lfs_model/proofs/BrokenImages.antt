-- An image breaks a rule, by tests that compute on a literal image.
use Rattle.std.proofs.Common.{ℕ, ◌≡◌, ◌<◌, true, false, not, List, Some, refl, sym, ap, ◌∙◌, ltb-true, true≢false}
use Rattle.std.specs.Prelude.{AllPairs, nat_lt}
use Rattle.lfs_model.proofs.Common.{AllByRecursion, list_all, All-from_recursion, list_any-from_Any, content_at, Disk, block_count, Name, name_cmp, IsReachedDirectory, all_directories, all_entries, Inline, Slot, same_pair, AreLinkedByTails, BeginsDirectory, IsThread, Pair, superblock_pair_address, pairs_blocks, pairs_gstate, root_address, Path, root_slot, same_path, RepeatsSuperblockStruct, HasValidMove, IsFileOrDirectory, IsWellFormedList, accepts_version, AreFirstThreadPairs, IsDiskSuperblock, AreLinkedUpTo, superblock_fields}
use Rattle.std.specs.declared.cmp.Ordering.TheVariants.{Less}
use Rattle.lfs_model.specs.declared.limits.AcceptedVersions.{AcceptedVersions}
use Rattle.lfs_model.specs.declared.order.NameOrder.{NameOrder}
use Rattle.lfs_model.proofs.Acceptance.{all_from, are_apart, begins, distinct_from, is_entry, is_inline, is_move, is_struct, led, on_branches, outline_in, rise}
use Rattle.lfs_model.proofs.Outlines.{is_outlined}
use Rattle.lfs_model.proofs.Paths.{path_itself}
use Rattle.lfs_model.proofs.Refusals.{ctz_to, entry_to, inline_to, is_list_if_ctz, move_to, rise_to, struct_to}

-- ---- the thread

-- these pairs come first in the thread
pub begins_with : (disk : Disk) (ps : List Pair) (next : ℕ × ℕ) → AreLinkedUpTo (Some superblock_pair_address) ps (Some next) → AllByRecursion (λ p. content_at disk p.at ≡ Some p.content) ps → AreFirstThreadPairs disk ps next
begins_with disk ps next links contents = record { links = links; contents = All-from_recursion (λ p. content_at disk p.at ≡ Some p.content) ps contents }

-- these pairs are the thread
pub is_thread : (disk : Disk) (ps : List Pair) → AreLinkedByTails (Some superblock_pair_address) ps → AllByRecursion (λ p. content_at disk p.at ≡ Some p.content) ps
    → list_all (λ b. nat_lt b (block_count disk)) (pairs_blocks ps) ≡ true → are_apart (pairs_blocks ps) ≡ true → IsThread (content_at disk) (block_count disk) ps
is_thread disk ps links contents within apart = record {
  links = links;
  contents = All-from_recursion (λ p. content_at disk p.at ≡ Some p.content) ps contents;
  in_range = all_from (λ b. nat_lt b (block_count disk)) (λ b. b < block_count disk) (λ b. ltb-true b (block_count disk)) (pairs_blocks ps) within;
  distinct = distinct_from (pairs_blocks ps) apart;
}

-- ---- what fails

pub no_superblock_of_disk : (disk : Disk) (s : Slot) (bytes : List ℕ) → s.struct ≡ Inline bytes → is_struct disk bytes ≡ false → ¬ IsDiskSuperblock disk s
no_superblock_of_disk disk s bytes is fails h =
    let held : h.bytes ≡ bytes = let e = sym h.inline ∙ is in cc in
    let e = struct_to disk h.bytes h.bytes h.struct (record { len = refl; version = h.struct.version; rest = refl }) in
    true≢false (sym e ∙ ap (is_struct disk) held ∙ fails)

pub no_same_superblock : (versions : AcceptedVersions) (bytes : List ℕ) (s : Slot) → accepts_version versions (superblock_fields bytes).version ≡ true → is_inline versions bytes s.struct ≡ false → ¬ RepeatsSuperblockStruct versions bytes s
no_same_superblock versions bytes s accepted fails (own, (is, same)) = true≢false (sym (inline_to versions bytes bytes (record { len = refl; version = accepted; rest = refl }) s.struct own is same) ∙ fails)

pub no_entry : (s : Slot) → is_entry s ≡ false → ¬ IsFileOrDirectory s
no_entry s fails h = true≢false (sym (entry_to s h) ∙ fails)

pub no_rise : (order : NameOrder) (names : List Name) → rise order names ≡ false → ¬ AllPairs (λ a b. name_cmp order a b ≡ Less) names
no_rise order names fails h = true≢false (sym (rise_to order names h) ∙ fails)

pub no_directory_there : (ps : List Pair) (at : ℕ × ℕ) → begins ps at ≡ false → ¬ BeginsDirectory (all_directories ps) at
no_directory_there ps at fails h = true≢false (sym (list_any-from_Any (λ d. same_pair d.at at) (all_directories ps) h) ∙ fails)

pub paths_differ : (path other : Path) → same_path path other ≡ false → ¬ (path ≡ other)
paths_differ path other apart is = true≢false (sym (path_itself path) ∙ ap (same_path path) is ∙ apart)

-- paths of at most k names lead to all directories, and none of them to this one
pub no_path_leads : (ps : List Pair) (k : ℕ) (first : ℕ × ℕ) → is_outlined k (all_entries ps) (root_slot (root_address ps)) ≡ true
    → on_branches (λ path at. not (same_pair first at)) (outline_in k ps) ≡ true → ¬ IsReachedDirectory ps first
no_path_leads ps k first whole none (path, at, (leads, same)) = true≢false (sym (led k ps whole (λ p x. not (same_pair first x)) none path at leads) ∙ ap not same)

pub no_valid_move : (ps : List Pair) → is_move ps (pairs_gstate ps) ≡ false → ¬ HasValidMove ps (pairs_gstate ps)
no_valid_move ps fails h = true≢false (sym (move_to ps (pairs_gstate ps) h) ∙ fails)

pub no_list : (disk : Disk) (s : Slot) → is_list_if_ctz disk s.struct ≡ false → ¬ IsWellFormedList disk s.struct
no_list disk s fails h = true≢false (sym (ctz_to disk s.struct h) ∙ fails)

-- The contents of the file at a path.
use Rattle.std.proofs.Common.{ℕ, ◌≡◌, ◌∙◌, List, length, take, drop, Some, sym, ap, subst, arith}
use Rattle.lfs_lookup.proofs.Common.{option_map, slot_of_path, Slot, take_all, Pair, Path, ThreadView, cached_log, IsFoundPairCached, file_slot_and_storage}
use Rattle.std.specs.Prelude.{IsSome}
use Rattle.lfs_lookup.specs.FileContents.{IsStorageAt, AreStructContents}
use Rattle.lfs_lookup.specs.declared.entry.FileStorage.{FileStorage}
use Rattle.lfs_lookup.specs.declared.paths.VisiblePathLookup.{VisiblePathLookup}
use Rattle.lfs_lookup.specs.declared.search.SlotPosition.{SlotPosition}
use Rattle.lfs_lookup.proofs.BytesAtSlots.{is_file_of}
use Rattle.lfs_lookup.specs.declared.file_contents.FileContents.{FileContents}

-- as many as there are, from the beginning on, are all
pub whole : (bytes : List ℕ) (len : ℕ) → length bytes ≡ len → take len (drop 0 bytes) ≡ bytes
whole bytes len e = take_all len bytes (omega (arith, e))

pub contents_at : (ps : List Pair) (path : Path) (held : Slot) (contents : FileContents) → slot_of_path ps path ≡ Some held → AreStructContents held.struct contents → IsStorageAt ps path contents
contents_at ps path held contents at is = record { struct = ap (option_map (λ (u : Slot). u.struct)) at ∙ ap Some (sym is.struct); fits = is.fits }

-- the block of a file that is shown is cached
pub file_at_hand : (t : ThreadView) (x : VisiblePathLookup) (slot : SlotPosition) (contents : FileStorage) → IsFoundPairCached t x → file_slot_and_storage x ≡ Some (slot, contents) → IsSome (cached_log t slot.pair)
file_at_hand t x slot contents h e = subst (λ z. IsFoundPairCached t z) (is_file_of x slot contents e) h

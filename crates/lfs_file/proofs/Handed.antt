-- A draft whose new list was extended.
use Rattle.std.proofs.Common.{ℕ, ◌≡◌, ◌+◌, ◌++◌, List, length, sym, subst}
use Rattle.lfs_device.specs.declared.geometry.Geometry.{Geometry}
use Rattle.lfs_file.proofs.Common.{Blocks, BlockStates, written_contents, growing_bytes, unwritten_block, GrowingList, growing_size, KeepsTakenBytes, SharesFirstBlocks, CanEndOver, ChangesOnlyFree, unfinished_bytes}
use Rattle.lfs_file.specs.Extensions.{IsExtended}
use Rattle.lfs_file.specs.declared.stored_list.StoredList.{StoredList}
use Rattle.lfs_file.proofs.Copies.{counted}
use Rattle.lfs_file.proofs.Flights.{wrote}
use Rattle.lfs_file.proofs.Hands.{hand_grows}

module _ (map later : BlockStates) (d e : Blocks) (list longer : GrowingList) (base : StoredList) (shared : ℕ) (bytes : List ℕ) (total : ℕ) (begun : SharesFirstBlocks map d list.geometry.block_size list base shared)
    (spared : KeepsTakenBytes map (unwritten_block list) d e) (keeps : ChangesOnlyFree map later) (more : IsExtended map d list bytes total later e longer) where
  pub extended_hand : CanEndOver later e list.geometry.block_size longer base shared
  extended_hand =
      hand_grows map later d e list.geometry.block_size list longer base shared begun spared keeps more.grown more.growing more.marked more.own.own
      (counted list.geometry longer.geometry longer _ more.geometry more.own.many) more.own.listed

  -- under its own name of the geometry
  pub extended_on : CanEndOver later e longer.geometry.block_size longer base shared
  extended_on = subst (λ (k : Geometry). CanEndOver later e k.block_size longer base shared) (sym more.geometry) extended_hand

-- bytes at its end are written over what the base has there
pub extended_bytes : (map later : BlockStates) (d e : Blocks) (list longer : GrowingList) (base : StoredList) (shared : ℕ) (bytes : List ℕ) → SharesFirstBlocks map d list.geometry.block_size list base shared → KeepsTakenBytes map (unwritten_block list) d e
    → IsExtended map d list (growing_bytes d list ++ bytes) (growing_size list + length bytes) later e longer → length (growing_bytes d list) ≡ growing_size list
    → unfinished_bytes e (record { list = longer; base = base; shared = shared }) ≡ written_contents (unfinished_bytes d (record { list = list; base = base; shared = shared })) (growing_size list) bytes
extended_bytes map later d e list longer base shared bytes begun spared more long =
    wrote map d e list.geometry longer.geometry list longer base shared bytes more.geometry begun spared more.content more.sum long

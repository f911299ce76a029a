-- A device of bytes holds logs that can be written.
use Rattle.std.proofs.Common.{ℕ, ◌≡◌, ◌<◌, ◌&&◌, not, Bool, true, false, cond, List, Option, Some, None, refl, subst}
use Rattle.std.specs.Prelude.{slice_index}
use Rattle.lfs_tree.proofs.Common.{option_and_then, AreByteBlocks, has_commit, later_committed_block, current_block, is_later, empty_raw_content, Disk, disk_block, block_revision, logged}
use Rattle.lfs_model.specs.format.Content.{content_after}
use Rattle.lfs_model.specs.format.Log.{block_entries}
use Rattle.lfs_model.specs.layers.LoggedContent.{IsWellFormed}
use Rattle.lfs_operations.specs.Ready.{IsLogContentDecodable}

abbrev AreSmall : List ℕ → Type 0
AreSmall block = (i : ℕ) → slice_index block i < 256

holder_small : (a b block : List ℕ) → AreSmall a → AreSmall b → later_committed_block a b ≡ Some block → AreSmall block
holder_small a b block f g h = go (not (has_commit a)) (has_commit b) (has_commit b && is_later (block_revision a) (block_revision b)) h
  where
    same : (x y : List ℕ) → Some x ≡ Some y → AreSmall x → AreSmall y
    same x y e s = let k : x ≡ y = cc in subst AreSmall k s

    go : (x y z : Bool) → cond x (cond y (Some b) None) (cond z (Some b) (Some a)) ≡ Some block → AreSmall block
    go true true z e = same b block e g
    go true false z e = absurd (cc)
    go false y true e = same b block e g
    go false y false e = same a block e f

pub logged_there : (disk : Disk) (at : ℕ × ℕ) → AreByteBlocks disk.blocks → IsLogContentDecodable disk at
logged_there disk at bytes raw is = go (current_block disk at) refl is
  where
    go : (o : Option (List ℕ)) → current_block disk at ≡ o → option_and_then (λ block. content_after empty_raw_content (block_entries block)) o ≡ Some raw → IsWellFormed raw
    go None e h = absurd (cc)
    go (Some block) e h = logged block raw (holder_small (disk_block disk at.0) (disk_block disk at.1) block (bytes at.0) (bytes at.1) e) h

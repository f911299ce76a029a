-- What an erase of a device in memory does to its blocks.
use Rattle.std.proofs.Common.{◌≡◌, ℕ, ◌+◌, ◌*◌, ◌<◌, List, length, replicate, ◌∙◌, ap, refl, sym, arith}
use Rattle.std.proofs.lemmas.List.{length-replicate}
use Rattle.lfs_device.specs.declared.ram.Erased.{Erased}
use Rattle.lfs_device.specs.declared.ram.Erased.TheVariants.{Fill, Keep}
use Rattle.lfs_model.specs.format.Blocks.{Blocks, HasBlockSizes, SameExcept, block_bytes, cut}
use Rattle.lfs_model.proofs.Overwrites.{SameExcept-refl, SameExcept-programmed, block_bytes-programmed_whole}
use Rattle.lfs_model.proofs.Cuts.{cut-overwritten_at}
use Rattle.lfs_device.specs.Erased.{erased_bytes, erased_range, blocks_after_erase}

pub cut-erased : (erased : Erased) (size count : ℕ) (bytes : List ℕ) (block : ℕ) → length bytes ≡ size * count → block < count
    → cut size count (erased_range erased bytes (size * block + 0) size) ≡ blocks_after_erase erased size (cut size count bytes) block
cut-erased (Fill byte) size count bytes block is lt = cut-overwritten_at size count bytes block 0 (replicate size byte) is lt (omega (arith, length-replicate size byte))
cut-erased Keep size count bytes block is lt = refl

pub SameExcept-erased : (erased : Erased) (size count : ℕ) (disk : Blocks) (block : ℕ) → HasBlockSizes size count disk → block < count → SameExcept block disk (blocks_after_erase erased size disk block)
SameExcept-erased (Fill byte) size count disk block shape lt = SameExcept-programmed disk block 0 (replicate size byte) (omega (arith, shape.count)) (omega (arith, length-replicate size byte, shape.sizes block lt))
SameExcept-erased Keep size count disk block shape lt = SameExcept-refl block disk

pub block_bytes-erased : (erased : Erased) (size count : ℕ) (disk : Blocks) (block : ℕ) → HasBlockSizes size count disk → block < count
    → block_bytes (blocks_after_erase erased size disk block) block ≡ erased_bytes erased (block_bytes disk block)
block_bytes-erased (Fill byte) size count disk block shape lt =
    let here : length (block_bytes disk block) ≡ size = shape.sizes block lt in
    block_bytes-programmed_whole disk block (replicate size byte) (omega (arith, shape.count)) (length-replicate size byte ∙ sym here) ∙ ap (λ n. replicate n byte) (sym here)
block_bytes-erased Keep size count disk block shape lt = refl

-- Block sizes by equal numbers.
use Rattle.std.proofs.Common.{ℕ, ◌≡◌, subst}
use Rattle.lfs_model.specs.format.Blocks.{Blocks, HasBlockSizes}

pub sized_by : {size size' count count' : ℕ} {blocks : Blocks} → size ≡ size' → count ≡ count' → HasBlockSizes size count blocks → HasBlockSizes size' count' blocks
sized_by {size} {size'} {count} {count'} {blocks} s c shape = subst (λ n. HasBlockSizes n count' blocks) s (subst (λ n. HasBlockSizes size n blocks) c shape)

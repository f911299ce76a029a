-- The block at which a mounted image's map begins to allocate.
use Rattle.std.specs.Prelude.{ℕ, ◌+◌, ◌*◌, ◌/◌, ◌%◌, ◌^◌, List, bit_xor, sum_by}
use Rattle.lfs_model.specs.layers.BlockSets.{BlockStates, used_count}
use Rattle.lfs_thread.specs.Kept.{PairHeader}

-- how many blocks are used, plus the pairs' revisions, which rise with each mount that writes
abbrev pub image_seed : BlockStates → List PairHeader → ℕ
image_seed sets headers = (used_count sets + sum_by (λ h. h.revision) headers) % 2 ^ 32

-- as MurmurHash3 ends: equal steps become numbers as if by chance
abbrev pub mixed_seed : ℕ → ℕ
mixed_seed number = folded 16 (folded 13 (folded 16 number * 0x85ebca6b % 2 ^ 32) * 0xc2b2ae35 % 2 ^ 32)
  where
    -- the number with its upper bits xored over the lower ones
    folded : ℕ → ℕ → ℕ
    folded bits n = bit_xor n (n / 2 ^ bits)

-- the same, with the number of a profile, which is mostly 0
abbrev pub allocation_seed : ℕ → BlockStates → List PairHeader → ℕ
allocation_seed own sets headers = mixed_seed ((image_seed sets headers + own) % 2 ^ 32)

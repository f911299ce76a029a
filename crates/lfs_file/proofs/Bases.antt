-- A list whose blocks stay as they are.
use Rattle.std.proofs.Common.{ℕ, ◌≡◌, get_or, List, take, ap, ◌∙◌, flat_map}
use Rattle.std.specs.Prelude.{All}
use Rattle.lfs_file.proofs.Common.{enumerate_from, recursion_from_All, Blocks, block_bytes, BlockStates, skip_list_block_count, IsSkipList, block_data, list_bytes, Same, back_same, data_same, IsTakenNotPending, KeepsTakenBytes, blocks_of_list}
use Rattle.lfs_model.proofs.Files.{list_same}

module _ (map : BlockStates) (pending : List ℕ) (d e : Blocks) (block_size head size : ℕ) (spares : KeepsTakenBytes map pending d e) (apart : All (IsTakenNotPending map pending) (blocks_of_list d block_size head size)) where
  same : Same d e (blocks_of_list d block_size head size)
  same = recursion_from_All (λ b. block_bytes e b ≡ block_bytes d b) (blocks_of_list d block_size head size) (λ k x l. spares.same (get_or (blocks_of_list d block_size head size) k x) (apart k x l))

  pub blocks_stay : blocks_of_list e block_size head size ≡ blocks_of_list d block_size head size
  blocks_stay = back_same d e (skip_list_block_count block_size size) head same

  pub list_stays : IsSkipList d block_size head size → IsSkipList e block_size head size
  list_stays = list_same d e block_size head size spares.count same

  pub bytes_stay : list_bytes e block_size head size ≡ list_bytes d block_size head size
  bytes_stay = ap (λ bs. take size (flat_map (block_data e) (enumerate_from 0 bs))) blocks_stay ∙ ap (take size) (data_same d e 0 (blocks_of_list d block_size head size) same)

-- A list that is settled in the map of a thread.
use Rattle.std.proofs.Common.{ℕ, ◌≡◌, List, ◌++◌, length, Result, Ok, Err, sym, ap, subst, ◌∙◌}
use Rattle.std.specs.Prelude.{Contains, OnOk}
use Rattle.lfs_device.specs.DeviceCalls.{ReadsOnly}
use Rattle.lfs_device.specs.declared.device.BlockDevice.{Ghosts}
use Rattle.lfs_device.specs.declared.error.Error.{Error}
use Rattle.lfs_tree.proofs.Common.{Blocks, HasBlockSizes, block_bytes, BlockStates, is_unprogrammed_byte-read_count, KeepsPairBlocks, BelongToThread, KeptThread, IsListOrEmpty, blocks_of_list, SettlesList, CanReplaceUsedList, IsUsedListReplaced, stored_list_blocks}
use Rattle.lfs_file.specs.SettledMaps.{CanSettleList, KeepsOtherStates, AreSharedUsed}
use Rattle.lfs_file.specs.declared.stored_list.StoredList.{StoredList}
use Rattle.lfs_tree.proofs.Standing.{blocks_here, size_here}

module _ {D : Type 0} (g : Ghosts D) (t : KeptThread) (device : D) (map : BlockStates) (shows : BelongToThread g t device map)
    (shape : HasBlockSizes (g.geometry device).block_size (g.geometry device).block_count (g.blocks device)) (before stored : StoredList) (can : CanReplaceUsedList t before stored) where
  pub list_here : (s : StoredList) → blocks_of_list (g.blocks device) (g.geometry device).block_size s.head s.size ≡ stored_list_blocks t s
  list_here s = ap (λ (d : Blocks). blocks_of_list d (g.geometry device).block_size s.head s.size) (blocks_here g t device map shows shape)
      ∙ ap (λ (n : ℕ). blocks_of_list t.disk.blocks n s.head s.size) (size_here g t device map shows shape)

  base_here : (s : StoredList) → IsListOrEmpty t.disk.blocks t.disk.block_size s.head s.size → IsListOrEmpty (g.blocks device) (g.geometry device).block_size s.head s.size
  base_here s is =
      subst (λ (d : Blocks). IsListOrEmpty d (g.geometry device).block_size s.head s.size) (sym (blocks_here g t device map shows shape))
      (subst (λ (n : ℕ). IsListOrEmpty t.disk.blocks n s.head s.size) (sym (size_here g t device map shows shape)) is)

  shared_here : AreSharedUsed map (blocks_of_list (g.blocks device) (g.geometry device).block_size before.head before.size) (blocks_of_list (g.blocks device) (g.geometry device).block_size stored.head stored.size)
  shared_here =
      subst (λ (m : BlockStates). AreSharedUsed m (blocks_of_list (g.blocks device) (g.geometry device).block_size before.head before.size) (blocks_of_list (g.blocks device) (g.geometry device).block_size stored.head stored.size)) (sym shows.map)
      (subst (λ (l : List ℕ). AreSharedUsed t.map l (blocks_of_list (g.blocks device) (g.geometry device).block_size stored.head stored.size)) (sym (list_here before))
      (subst (λ (l : List ℕ). AreSharedUsed t.map (stored_list_blocks t before) l) (sym (list_here stored)) can.shared))

  pub settle_here : CanSettleList map (g.blocks device) (g.geometry device).block_size before stored
  settle_here = record {
    gone = base_here before can.was;
    kept = base_here stored can.list;
    count = ap length shows.map ∙ can.size ∙ sym (ap length (blocks_here g t device map shows shape));
    shared = shared_here;
  }

  -- the pairs stay, since their blocks are in neither list
  pub settle_leaves : (later : D) (later_map : BlockStates) → ReadsOnly g device later
      → KeepsOtherStates map later_map (blocks_of_list (g.blocks device) (g.geometry device).block_size before.head before.size ++ blocks_of_list (g.blocks device) (g.geometry device).block_size stored.head stored.size)
      → KeepsPairBlocks g t device map later later_map
  settle_leaves later later_map only keeps = record {
    geometry = only.geometry;
    count = ap length only.same;
    same = λ b _. ap (λ (d : Blocks). block_bytes d b) only.same;
    stays = λ b k _ _ was. is_unprogrammed_byte-read_count b k only.reads ∙ was;
    size = keeps.count;
    used = λ b has used. keeps.others b (λ in_lists. can.apart b has
        (subst (λ (l : List ℕ). Contains (l ++ stored_list_blocks t stored) b) (list_here before)
        (subst (λ (l : List ℕ). Contains (blocks_of_list (g.blocks device) (g.geometry device).block_size before.head before.size ++ l) b) (list_here stored) in_lists))) ∙ used;
  }

  pub settled_after : (new : KeptThread) (later_map : BlockStates) → later_map ≡ new.map → (r : Result (Unit {0}) Error)
      → OnOk r (SettlesList map later_map (blocks_of_list (g.blocks device) (g.geometry device).block_size before.head before.size) (blocks_of_list (g.blocks device) (g.geometry device).block_size stored.head stored.size))
      → OnOk r (IsUsedListReplaced t before stored new)
  settled_after new later_map is (Ok u) settled =
      subst (λ (m : BlockStates). SettlesList t.map m (stored_list_blocks t before) (stored_list_blocks t stored)) is
      (subst (λ (m : BlockStates). SettlesList m later_map (stored_list_blocks t before) (stored_list_blocks t stored)) shows.map
      (subst (λ (l : List ℕ). SettlesList map later_map l (stored_list_blocks t stored)) (list_here before)
      (subst (λ (l : List ℕ). SettlesList map later_map (blocks_of_list (g.blocks device) (g.geometry device).block_size before.head before.size) l) (list_here stored) settled)))
  settled_after new later_map is (Err e) settled = tt

-- A file that gets other contents, as a step of the thread.
use Rattle.lfs_operations.proofs.Common.{nat_eq, ℕ, ◌≡◌, ◌⊎◌, inl, inr, ◌<◌, ◌≤◌, List, [], ◌∷◌, ◌++◌, length, Some, None, refl, sym, ap, ap₂, subst, ◌∙◌, arith, IsDistinct, cases_lt, tree_with_change, IsInFlight, InFlight, Used, PutStruct, decoded_struct, Disk, SameGeometry, disk_block, CallEvent, SurvivesLossSince, Slot, Struct, Inline, Ctz, Branch, File, Directory, Superblock, Attributes, Pair, pairs_blocks, DirectoryEntryMap, FileNode, struct_directory_address, all_entries, struct_blocks, disk_tree, used_blocks, Contains-occurrence_count, IsChangedImage, Each, occurrence_count, count_append, distinct_from_once, each_counted, each_from_counted, once_from_distinct, SameFileBlocks, file_blocks_same, is_list_same, thread_at, CleanLossLeaves, KeptThread, SlotKind, IsKindOfStruct, puts_struct, with_struct, bytes_change, close_completed, sync_completed, CanCommitOrSplit, LeftByCommitOrSplit, AreCommittedOrSplit, CanEditIn, editable_slot, CanSetStruct, HasStoredContents, tree_with_contents}
use Rattle.lfs_model.specs.format.Disk.{inline_limit}
use Rattle.lfs_model.specs.session.Operations as ops
use Rattle.lfs_model.specs.session.SlotEdits.{IsStructOfBytes}
use Rattle.lfs_model.specs.session.Effects.{node_with_bytes}
use Rattle.lfs_model.specs.tree.Tree.{struct_node}
use Rattle.lfs_model.specs.tree.Profile.{InlineBytesFit}
use Rattle.lfs_model.specs.tree.Shown.{disk_list_bytes}
use Rattle.lfs_model.proofs.Files.{contents_same}
use Rattle.lfs_model.proofs.RawSlots.{complete_struct}
use Rattle.lfs_operations.proofs.Replacing.{Names, can_put, entry, HasReplaced, IsReplacing, Replaces, completed, file_kept, fits_was, l, other, r, reached_before, replaced, shows_turned, stand, step_of, survives_turn, u, w}

-- ---- structs

-- a file may have it
suits_file : (disk : Disk) (contents : List ℕ) (k : SlotKind) (was now : Struct) → IsKindOfStruct k was → struct_directory_address was ≡ None → IsStructOfBytes disk contents now → IsKindOfStruct k now
suits_file disk contents File was (Inline b) s f h = tt
suits_file disk contents File was (Ctz head size) s f h = tt
suits_file disk contents k was (Branch to) s f h = absurd h
suits_file disk contents Directory (Branch to) (Inline b) s f h = absurd (cc)
suits_file disk contents Directory (Branch to) (Ctz head size) s f h = absurd (cc)
suits_file disk contents Directory (Inline c) (Inline b) s f h = absurd s
suits_file disk contents Directory (Inline c) (Ctz head size) s f h = absurd s
suits_file disk contents Directory (Ctz a z) (Inline b) s f h = absurd s
suits_file disk contents Directory (Ctz a z) (Ctz head size) s f h = absurd s
suits_file disk contents Superblock was now s f h = absurd s

has_inline : (disk : Disk) (contents : List ℕ) (now : Struct) → IsStructOfBytes disk contents now → InlineBytesFit (inline_limit disk.profile disk.block_size) now
has_inline disk contents (Inline b) h = let e = ap length h.0 in let l = h.1 in omega arith
has_inline disk contents (Ctz head size) h = tt
has_inline disk contents (Branch to) h = tt

inline_same : (disk new : Disk) → SameGeometry disk new → inline_limit new.profile new.block_size ≡ inline_limit disk.profile disk.block_size
inline_same disk new g = ap₂ (λ p n. inline_limit p n) g.profile g.block_size

-- where its blocks are as they were
stores_same : (disk new : Disk) (contents : List ℕ) (s : Struct) → SameGeometry disk new → SameFileBlocks disk new s → IsStructOfBytes disk contents s → IsStructOfBytes new contents s
stores_same disk new contents (Inline b) g f h = (h.0, subst (λ n. length contents ≤ n) (sym (inline_same disk new g)) h.1)
stores_same disk new contents (Ctz head size) g f h =
    (h.0, contents_same disk new (Ctz head size) head size refl g f ∙ h.1, subst (λ n. n < length contents) (sym (inline_same disk new g)) h.2)
stores_same disk new contents (Branch to) g f h = absurd h

stores_node : (disk : Disk) (E : DirectoryEntryMap) (attributes : Attributes) (s : Struct) (contents : List ℕ) → IsStructOfBytes disk contents s → struct_node (disk_list_bytes disk) E attributes s ≡ FileNode attributes contents
stores_node disk E attributes (Inline own) contents h = ap (FileNode attributes) h.0
stores_node disk E attributes (Ctz head size) contents h = ap (FileNode attributes) h.1
stores_node disk E attributes (Branch to) contents h = absurd h

unlike : Some InFlight ≡ Some Used → ⊥
unlike e = absurd (cc)

module _ (t : KeptThread) (index id kind : ℕ) (bytes : List ℕ) (store : CanSetStruct t index id kind bytes) where
  abbrev can : CanEditIn t index id
  can = store.can

  abbrev v : Slot
  v = record (editable_slot store.can) { struct = decoded_struct kind bytes }

  -- what it takes with any inline contents is as before
  storing : IsReplacing t index id store.can (record (editable_slot store.can) { struct = decoded_struct kind bytes }) (PutStruct id kind bytes)
  storing = record {
    g = with_struct (kind, bytes);
    does = λ c small named. puts_struct c id kind bytes small named store.part;
    turns = λ x h. complete_struct x (u can) (kind, bytes) h;
    fits = record { charge = (fits_was can).charge; inline = has_inline t.disk store.contents (decoded_struct kind bytes) store.stores };
  }

  pub can_store : CanCommitOrSplit t index (PutStruct id kind bytes ∷ [])
  can_store = can_put storing

  -- its blocks are as they were where those of the old file and those that come are
  file_same : (disk : Disk) → SameFileBlocks t.disk disk (u can).struct → Each (λ b. disk_block disk b ≡ disk_block t.disk b) store.come → SameFileBlocks t.disk disk v.struct
  file_same disk file come = each_from_counted (λ b. disk_block disk b ≡ disk_block t.disk b) (struct_blocks t.disk v.struct) (λ b some. go b some (cases_lt 0 (occurrence_count b store.come)))
    where
      go : (b : ℕ) → 1 ≤ occurrence_count b (struct_blocks t.disk v.struct) → (0 < occurrence_count b store.come) ⊎ (occurrence_count b store.come ≤ 0) → disk_block disk b ≡ disk_block t.disk b
      go b some (inl c) = each_counted (λ b. disk_block disk b ≡ disk_block t.disk b) store.come come b (omega arith)
      go b some (inr c) = each_counted (λ b. disk_block disk b ≡ disk_block t.disk b) (struct_blocks t.disk (u can).struct) file b (let e = store.blocks b in omega arith)

  -- none that comes is used
  come_apart : IsDistinct nat_eq (store.come ++ used_blocks t.disk t.pairs)
  come_apart = distinct_from_once (store.come ++ used_blocks t.disk t.pairs) (λ b. go b (cases_lt 0 (occurrence_count b store.come)))
    where
      go : (b : ℕ) → (0 < occurrence_count b store.come) ⊎ (occurrence_count b store.come ≤ 0) → occurrence_count b (store.come ++ used_blocks t.disk t.pairs) ≤ 1
      go b (inr c) = let e = count_append b store.come (used_blocks t.disk t.pairs) in let n = once_from_distinct (used_blocks t.disk t.pairs) can.ready.accepted.owned_once b in omega arith
      go b (inl c) = none (cases_lt 0 (occurrence_count b (used_blocks t.disk t.pairs)))
        where
          none : (0 < occurrence_count b (used_blocks t.disk t.pairs)) ⊎ (occurrence_count b (used_blocks t.disk t.pairs) ≤ 0) → occurrence_count b (store.come ++ used_blocks t.disk t.pairs) ≤ 1
          none (inr z) = let e = count_append b store.come (used_blocks t.disk t.pairs) in let n = once_from_distinct store.come store.apart b in omega arith
          none (inl z) = absurd (unlike (sym (each_counted (IsInFlight t.map) store.come store.flying b (omega arith)) ∙ (can.ready.used b).1 (Contains-occurrence_count (used_blocks t.disk t.pairs) b (omega arith))))

  names : Names store.can (record (editable_slot store.can) { struct = decoded_struct kind bytes }) store.gone store.come
  names = record {
    entry = record { name = (entry can).name; struct = suits_file t.disk store.contents (u can).kind (u can).struct (decoded_struct kind bytes) (entry can).struct store.file store.stores };
    flying = store.flying;
    apart = come_apart;
    lists = λ disk geometry file come. is_list_same t.disk disk v.struct geometry (file_same disk file come) store.list;
    blocks = λ disk geometry file come b. let e = ap (occurrence_count b) (file_blocks_same t.disk disk v.struct geometry (file_same disk file come)) in let f = store.blocks b in omega arith;
  }

  stores_now : (disk : Disk) (q : Pair) (more : List Pair) → Replaces storing names disk q more → IsStructOfBytes disk store.contents (decoded_struct kind bytes)
  stores_now disk q more c = stores_same t.disk disk store.contents v.struct c.commit.device.geometry (file_same disk (file_kept storing names disk q more c) c.come_same) store.stores

  follows : (disk : Disk) (q : Pair) (more : List Pair) → Replaces storing names disk q more
      → IsChangedImage t.disk (thread_at (w can) (can.stands.pair ∷ [])) disk (thread_at (w can) (q ∷ more)) (tree_with_change (can.path ++ (editable_slot can).name ∷ []) (node_with_bytes store.contents)) (λ d. d)
  follows disk q more c = bytes_change t.disk disk (w can) can.stands.pair [] q more (pairs_blocks more) store.come (l can) (r can) (u can) v (step_of storing names disk q more c) (other can) can.path can.at (stand can).leads (stand can).begin
      store.contents refl store.file (stores_node disk (all_entries (thread_at (w can) (can.stands.pair ∷ []))) (u can).attributes v.struct store.contents (stores_now disk q more c)) (λ e. reached_before storing names disk q more c)

  pub stored : (new : KeptThread) → AreCommittedOrSplit t index (PutStruct id kind bytes ∷ []) new → HasStoredContents t new store.can.path store.can.name store.contents store.gone store.come
  stored new is = go (replaced storing names new is)
    where
      go : HasReplaced storing names new → HasStoredContents t new can.path can.name store.contents store.gone store.come
      go x = record {
        now = shows_turned storing names (node_with_bytes store.contents) follows new x;
        synced = λ z fd writer tree is. completed storing names new x z (ops.Sync fd)
            (sync_completed t.disk new.disk (w can) can.stands.pair x.q x.more store.come (l can) (r can) (u can) v x.commit.commit (other can) can.path can.at (stand can).leads (stand can).begin z (tree ∙ ap (disk_tree t.disk) (stand can).there) writer is.1.0
            (is.1.1.0 ∙ ap (λ n. can.path ++ n ∷ []) (sym can.stands.stands.named)) refl store.file (subst (λ b. IsStructOfBytes new.disk b v.struct) (sym is.1.1.1) (stores_now new.disk x.q x.more x.commit)) fd is.0);
        closed = λ z fd writer tree is. completed storing names new x z (ops.Close fd)
            (close_completed t.disk new.disk (w can) can.stands.pair x.q x.more store.come (l can) (r can) (u can) v x.commit.commit (other can) can.path can.at (stand can).leads (stand can).begin z (tree ∙ ap (disk_tree t.disk) (stand can).there) writer is.1.0
            (is.1.1.0 ∙ ap (λ n. can.path ++ n ∷ []) (sym can.stands.stands.named)) refl store.file (subst (λ b. IsStructOfBytes new.disk b v.struct) (sym is.1.1.1) (stores_now new.disk x.q x.more x.commit)) fd is.0);
        once = λ b. let e = x.used.same b in let o = x.once b in omega arith;
        places = x.places;
      }

  pub store_survives : (new : List CallEvent) → CleanLossLeaves t.history new (LeftByCommitOrSplit t index (PutStruct id kind bytes ∷ []))
      → SurvivesLossSince t.disk t.history new (disk_tree t.disk t.pairs) (tree_with_contents t store.can.path store.can.name store.contents)
  store_survives new stops = survives_turn storing names (node_with_bytes store.contents) follows new stops

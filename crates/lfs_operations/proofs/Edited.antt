-- An entry whose attributes change, as a step of the thread.
use Rattle.lfs_operations.proofs.Common.{ℕ, ◌≡◌, ◌^◌, ◌<◌, List, [], ◌∷◌, ◌++◌, Some, refl, sym, ap, ◌∙◌, arith, inl, recursion_from_All, tree_with_change, ContentChange, PutAttribute, attributes_with, attributes_without, Disk, CallEvent, Operation, SurvivesLossSince, Session, path_or_root, Attributes, Slot, Pair, pairs_blocks, IsWellFormedList, IsWritableEntry, all_unmoved_slots, disk_tree, IsChangedImage, CompletesOperation, occurrence_count, puts_attribute, file_blocks_same, is_list_same, HoldsAtLosses-weaker, thread_at, CleanLossLeaves, KeptThread, IsPairCommitted, LossLeavesPair, removes_attribute, attributes_change, remove_attr_completed, set_attr_completed, CanCommitOrSplit, LeftByCommitOrSplit, AreCommittedOrSplit, CanEditIn, CanSetAttribute, HasRemovedAttribute, HasSetAttribute, editable_slot, tree_setting_attributes, CanCommit}
use Rattle.lfs_model.specs.session.TreeEdits.{node_attributes_of, with_attributes}
use Rattle.lfs_model.specs.layers.Changes.{RemoveAttribute}
use Rattle.lfs_model.specs.session.Operations as ops
use Rattle.lfs_operations.proofs.Replacing.{Makes, Names, can_put, entry, of_slot, HasReplaced, IsReplacing, Replaces, completed, fits_was, l, not_refused, other, r, reached_before, replaced, shows_turned, stand, step_of, survives_turn, u, w}
use Rattle.lfs_model.proofs.RawSlots.{fewer_attributes, complete_with}
use Rattle.lfs_operations.proofs.Stepped.{ready_again}
use Rattle.lfs_model.specs.tree.Tree.{Node}
use Rattle.lfs_operations.specs.Editing.{HasAttributesChanged}

-- the change sets the attributes of the slot with the id
abbrev pub ChangesAttributes : ContentChange → ℕ → (Attributes → Attributes) → Type 0
ChangesAttributes change id f = Makes change id (λ s. record s { attributes = f s.attributes })

module _ {t : KeptThread} {index id : ℕ} (can : CanEditIn t index id) (f : Attributes → Attributes) (change : ContentChange) (does : ChangesAttributes change id f)
    (fits : IsWritableEntry t.disk.profile t.disk.block_size t.disk.page (record (editable_slot can) { attributes = f (editable_slot can).attributes })) where
  abbrev v : Slot
  v = record (editable_slot can) { attributes = f (editable_slot can).attributes }

  editing : IsReplacing t index id can (record (editable_slot can) { attributes = f (editable_slot can).attributes }) change
  editing = record { g = λ z. record z { attributes = f z.attributes }; does = does; turns = λ x h. complete_with x (editable_slot can) f h; fits = fits }

  -- the same blocks
  names : Names can (record (editable_slot can) { attributes = f (editable_slot can).attributes }) [] []
  names = record {
    entry = record { name = (entry can).name; struct = (entry can).struct };
    flying = tt;
    apart = can.ready.accepted.owned_once;
    lists = λ disk geometry file come. is_list_same t.disk disk (editable_slot can).struct geometry file
        (of_slot can (λ x. IsWellFormedList t.disk x.struct) (recursion_from_All (λ (x : Slot). IsWellFormedList t.disk x.struct) (all_unmoved_slots t.pairs) can.ready.accepted.lists));
    blocks = λ disk geometry file come b. let e = ap (occurrence_count b) (file_blocks_same t.disk disk (editable_slot can).struct geometry file) in omega arith;
  }

  abbrev turn : Node → Node
  turn = λ n. with_attributes (f (node_attributes_of (Some n))) n

  follows : (disk : Disk) (q : Pair) (more : List Pair) → Replaces editing names disk q more
      → IsChangedImage t.disk (thread_at (w can) (can.stands.pair ∷ [])) disk (thread_at (w can) (q ∷ more)) (tree_with_change (can.path ++ (editable_slot can).name ∷ []) turn) (λ d. d)
  follows disk q more c = attributes_change t.disk disk (w can) can.stands.pair [] q more (pairs_blocks more) [] (l can) (r can) (editable_slot can) v (step_of editing names disk q more c) (other can) can.path can.at
      (stand can).leads (stand can).begin f refl (λ e. reached_before editing names disk q more c)

  edit_survives : (new : List CallEvent) → CleanLossLeaves t.history new (LeftByCommitOrSplit t index (change ∷ [])) → SurvivesLossSince t.disk t.history new (disk_tree t.disk t.pairs) (tree_setting_attributes t can.path can.name f)
  edit_survives new stops = survives_turn editing names turn follows new stops

  -- as an operation, whose law speaks of the commit
  edited : (op : List ℕ → Operation) → ((new : KeptThread) (x : HasReplaced editing names new) (z : Session) (given : List ℕ) → z.tree ≡ disk_tree t.disk (thread_at (w can) (can.stands.pair ∷ []))
      → path_or_root given ≡ can.path ++ (editable_slot can).name ∷ [] → CompletesOperation t.disk (thread_at (w can) (can.stands.pair ∷ [])) z (op given) new.disk (thread_at (w can) (x.q ∷ x.more)))
      → (new : KeptThread) → AreCommittedOrSplit t index (change ∷ []) new → HasAttributesChanged t new can.path can.name f op
  edited op law new is =
      let x = replaced editing names new is in
      record {
        now = ready_again t new (tree_setting_attributes t can.path can.name f) (shows_turned editing names turn follows new x);
        completed = λ z given tree is_path. completed editing names new x z (op given)
            (law new x z given (tree ∙ ap (disk_tree t.disk) (stand can).there) (is_path ∙ ap (λ n. can.path ++ n ∷ []) (sym can.stands.stands.named)));
      }

-- ---- an attribute is set

module _ (t : KeptThread) (index id kind : ℕ) (bytes : List ℕ) (low : kind < 2 ^ 8) (set : CanSetAttribute t index id kind bytes) where
  abbrev change : ContentChange
  change = PutAttribute id kind bytes

  set_does : ChangesAttributes (PutAttribute id kind bytes) id (attributes_with kind bytes)
  set_does c small named = let short = set.short in puts_attribute c id kind bytes small (omega arith) (omega arith) named

  pub can_set : CanCommitOrSplit t index (PutAttribute id kind bytes ∷ [])
  can_set = can_put (editing set.can (attributes_with kind bytes) change set_does set.fits)

  pub has_set : (new : KeptThread) → AreCommittedOrSplit t index (PutAttribute id kind bytes ∷ []) new → HasSetAttribute t new set.can.path set.can.name kind bytes
  has_set new is = edited set.can (attributes_with kind bytes) change set_does set.fits (λ given. ops.SetAttr given kind bytes)
      (λ new x z given tree is_path. set_attr_completed t.disk new.disk (w set.can) set.can.stands.pair x.q x.more [] (l set.can) (r set.can) (u set.can)
      (record (editable_slot set.can) { attributes = attributes_with kind bytes (editable_slot set.can).attributes }) x.commit.commit (other set.can) set.can.path set.can.at (stand set.can).leads (stand set.can).begin z tree given kind bytes is_path refl)
      new is

  pub set_survives : (new : List CallEvent) → CleanLossLeaves t.history new (LeftByCommitOrSplit t index (PutAttribute id kind bytes ∷ []))
      → SurvivesLossSince t.disk t.history new (disk_tree t.disk t.pairs) (tree_setting_attributes t set.can.path set.can.name (attributes_with kind bytes))
  set_survives new stops = edit_survives set.can (attributes_with kind bytes) change set_does set.fits new stops

-- ---- an attribute is removed

module _ (t : KeptThread) (index id kind : ℕ) (low : kind < 2 ^ 8) (can : CanEditIn t index id) where
  abbrev change_back : ContentChange
  change_back = RemoveAttribute id kind

  remove_does : ChangesAttributes (RemoveAttribute id kind) id (attributes_without kind)
  remove_does c small named = removes_attribute c id kind small (omega arith) named

  -- the entry uses no more bytes than before
  still_fits : IsWritableEntry t.disk.profile t.disk.block_size t.disk.page (record (editable_slot can) { attributes = attributes_without kind (editable_slot can).attributes })
  still_fits = record {
    charge = let e = (fits_was can).charge in let n = fewer_attributes kind (editable_slot can).attributes in omega arith;
    inline = (fits_was can).inline;
  }

  -- so what the pair holds then fits, as what it held did
  pub can_remove : CanCommit t index (RemoveAttribute id kind ∷ [])
  can_remove =
      let k = editing can (attributes_without kind) change_back remove_does still_fits in
      record { can = (can_put k).can; fits = not_refused k (let n = fewer_attributes kind (editable_slot can).attributes in omega arith) }

  pub has_removed : (new : KeptThread) → IsPairCommitted t index (RemoveAttribute id kind ∷ []) new → HasRemovedAttribute t new can.path can.name kind
  has_removed new is = edited can (attributes_without kind) change_back remove_does still_fits (λ given. ops.RemoveAttr given kind)
      (λ new x z given tree is_path. remove_attr_completed t.disk new.disk (w can) can.stands.pair x.q x.more [] (l can) (r can) (u can)
      (record (editable_slot can) { attributes = attributes_without kind (editable_slot can).attributes }) x.commit.commit (other can) can.path can.at (stand can).leads (stand can).begin z tree given kind is_path refl)
      new (inl is)

  pub remove_survives : (new : List CallEvent) → CleanLossLeaves t.history new (LossLeavesPair t index (RemoveAttribute id kind ∷ []))
      → SurvivesLossSince t.disk t.history new (disk_tree t.disk t.pairs) (tree_setting_attributes t can.path can.name (attributes_without kind))
  remove_survives new stops = edit_survives can (attributes_without kind) change_back remove_does still_fits new (λ clean. HoldsAtLosses-weaker (λ left x. inl x) (stops clean))

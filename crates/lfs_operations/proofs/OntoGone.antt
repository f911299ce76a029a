-- The pair of a replaced directory, now an orphan, is dropped.
use Rattle.lfs_operations.proofs.Common.{ℕ, ◌≡◌, false, true, List, [], ◌∷◌, ◌++◌, Some, None, sym, ap, subst, ◌∙◌, append-nil, slice_get, same_Some, tree_renaming, without_prefix, Disk, Branch, Slot, same_pair, Pair, pairs_gstate, is_hard_tail, root_address, Path, struct_directory_address, address_at_path, IsAccepted, IsWritable, IsDirectoryAtPath, all_directories, all_entries, recovered_from, HasNoMove, renamed_addresses, IsReplaced, IsGone, IsWritableChange, IsChain, KeptThread, option_and_then, All, IsRecoveredWritableImage}
use Rattle.lfs_model.specs.tree.Tree.{address_from_slot, root_slot}
use Rattle.lfs_model.proofs.Names.{found_at}
use Rattle.lfs_model.proofs.Paths.{append_step}
use Rattle.lfs_model.proofs.Replacing.{replacing_taken}
use Rattle.lfs_model.proofs.Uses.{accepted_sound}
use Rattle.lfs_model.proofs.Walks.{leaf_leads, leads_below}

-- ---- the directory that is replaced

-- a path leads to it, which ends with its entry, and to nothing beneath it
pub replaced_by : (disk : Disk) (ps : List Pair) (P : Path) (a : ℕ × ℕ) (k : ℕ) (u : Slot) (d : ℕ × ℕ) (old : Path) → IsAccepted disk ps → IsDirectoryAtPath ps P a → slice_get (all_entries ps a) k ≡ Some u → u.struct ≡ Branch d
    → all_entries ps d ≡ [] → without_prefix old (P ++ u.name ∷ []) ≡ None → IsReplaced (address_at_path (all_entries ps) (root_address ps)) old (P ++ u.name ∷ []) d
replaced_by disk ps P a k u d old ok leads there branch empty apart = record {
  apart = apart;
  there = ap (address_at_path (all_entries ps) (root_address ps)) (sym (append-nil (P ++ u.name ∷ []))) ∙ below [] ∙ ap struct_directory_address branch;
  alone = λ t at led. (leaf_leads (all_entries ps) u leaf t at (sym (below t) ∙ led)).0;
  once = ok.once;
}
  where
    below : (t : Path) → address_at_path (all_entries ps) (root_address ps) ((P ++ u.name ∷ []) ++ t) ≡ address_from_slot (all_entries ps) u t
    below t = ap (address_at_path (all_entries ps) (root_address ps)) (append_step P u.name t) ∙ leads_below (all_entries ps) (root_slot (root_address ps)) P a leads u.name t
        ∙ ap (option_and_then (λ z. address_from_slot (all_entries ps) z t)) (found_at disk.order (all_entries ps a) k u ((accepted_sound disk ps ok).tree.order P a leads) there)

    leaf : (x : ℕ × ℕ) → struct_directory_address u.struct ≡ Some x → all_entries ps x ≡ []
    leaf x e = ap (all_entries ps) (same_Some x d (sym e ∙ ap struct_directory_address branch)) ∙ empty

-- ---- the last step

-- no path leads to the directory's pair o, which stands behind x, once the rename has replaced it
pub replaced_drops : (t m : KeptThread) (from to : Path) (d : ℕ × ℕ) (chain front : List Pair) (x o : Pair) (back : List Pair) → IsRecoveredWritableImage t
    → IsWritableChange t.disk t.pairs m.disk m.pairs (tree_renaming from to) (renamed_addresses from to) → HasNoMove (pairs_gstate m.pairs) → m.pairs ≡ chain ++ (front ++ x ∷ o ∷ back) → IsChain chain (front ++ x ∷ o ∷ back)
    → IsReplaced (address_at_path (all_entries t.pairs) (root_address t.pairs)) from to d → ((Q : ℕ × ℕ → Type 0) → All (λ z. Q z.at) (all_directories t.pairs) → All (λ z. Q z.at) (all_directories m.pairs))
    → same_pair o.at d ≡ true → is_hard_tail o.content.tail ≡ false → (new : Disk) (y : Pair) → IsGone m.disk new chain front x o y back
    → IsWritableChange t.disk t.pairs new (chain ++ (front ++ y ∷ back)) (tree_renaming from to) (renamed_addresses from to)
replaced_drops t m from to d chain front x o back ready taken no_move there is_chain replaced every address alone new y gone = replacing_taken t.disk m.disk new t.pairs from to d chain front x o y back
    (subst (λ z. IsWritableChange t.disk t.pairs m.disk z (tree_renaming from to) (renamed_addresses from to)) there taken)
    (record {
      accepted = subst (IsAccepted m.disk) there taken.follows.accepted;
      writable = subst (IsWritable m.disk) there taken.writable;
      no_move = subst (λ z. HasNoMove (pairs_gstate z)) there no_move;
      is_chain = is_chain;
    })
    replaced (recovered_from t.disk t.pairs ready.accepted ready.settled).reached (λ Q h. subst (λ z. All (λ x. Q x.at) (all_directories z)) there (every Q h)) address alone gone

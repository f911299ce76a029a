-- A rename within one pair onto an empty directory: one commit puts the slot under the name, the next drops the directory's pair.
use Rattle.std.proofs.Common.{ℕ, ◌≡◌, ◌⊎◌, inl, inr, Bool, true, false, cond, List, [], ◌∷◌, ◌++◌, Option, Some, None, refl, sym, ap, ap₂, subst, ◌∙◌, append_assoc, append-nil}
use Rattle.std.specs.Prelude.{Any}
use Rattle.lfs_model.proofs.Common.{recursion_from_All, same_Some, Disk, Slot, Struct, Inline, Ctz, Branch, zero_gstate, same_pair, Pair, pairs_gstate, is_hard_tail, count_before_root, pairs_from_root, ThreadDirectory, Path, struct_directory_address, IsAccepted, IsReachedDirectory, all_directories, disk_tree, IsWritable, Name, last_name, tree_renaming, without_prefix, same_path, Session, path_or_root, pair_with_slots, slot_of_path, ReplacesSlots, RemovesSlot, IsUnreachedOrRemoved, slot_directory_addresses, removed_directory_addresses, directory_address, continued_directory_address, IsLayoutAfterOperation}
use Rattle.lfs_model.specs.session.Operations as ops
use Rattle.lfs_model.proofs.Counts.{Each, each_append, each_left, each_right, each_weaker}
use Rattle.lfs_model.proofs.Superblocks.{IsChain, pairs_behind}
use Rattle.lfs_model.proofs.Laws.{PathAddresses}
use Rattle.lfs_model.proofs.Changes.{IsChangedImage}
use Rattle.lfs_model.proofs.Sites.{any_from}
use Rattle.lfs_model.proofs.Layouts.{onward_all, NoneGoes, none_goes_left, none_goes_right, none_where, rest_all}
use Rattle.lfs_model.proofs.KeptStructs.{structs_left, renaming_leaves}
use Rattle.lfs_model.proofs.Committed.{CompletesOperation, recovered_from, nothing_moved}
use Rattle.lfs_model.proofs.Alike.{SameSlots, stood_alike, Stood, stand_apart}
use Rattle.lfs_model.proofs.TwoPlaces.{two, splice_old}
use Rattle.lfs_model.proofs.Splices.{all_slots}
use Rattle.lfs_model.proofs.Became.{Became, became_stands}
use Rattle.lfs_model.proofs.OneCommit.{some_filled}
use Rattle.lfs_model.proofs.Trees.{not_before}
use Rattle.lfs_model.proofs.RemovedDirectory.{none_both, none_apart, before_gone, onward_append}

-- The pair p has the slot u between lo and ro, and without it the target between l and r. It becomes q and more, with u under the
-- new name in the target's place. The target is the directory of the pair o alone, ahead of p in the thread or after it, which
-- goes.
pub record IsRenameWithinOnto (disk new : Disk) (rs : List Pair) (b : Bool) (chain front mid back : List Pair) (p o q : Pair) (more : List Pair)
    (lo : List Slot) (u : Slot) (ro l : List Slot) (target : Slot) (r : List Slot) (d : ℕ × ℕ) (old_path new_path : Path) (name : Name) : Type 0 where
  pub is_chain : IsChain chain (two b front (p ∷ []) mid (o ∷ []) back)
  pub accepted : IsAccepted disk (chain ++ two b front (p ∷ []) mid (o ∷ []) back)
  pub writable : IsWritable disk (chain ++ two b front (p ∷ []) mid (o ∷ []) back)
  pub settled : pairs_gstate (chain ++ two b front (p ∷ []) mid (o ∷ []) back) ≡ zero_gstate
  pub still : pairs_gstate rs ≡ zero_gstate
  pub walk : PathAddresses → PathAddresses
  pub follows : IsChangedImage disk (chain ++ two b front (p ∷ []) mid (o ∷ []) back) new rs (tree_renaming old_path new_path) walk
  pub still_writable : IsWritable new rs
  -- the slots
  pub held : p.content.slots ≡ lo ++ u ∷ ro
  pub left_over : lo ++ ro ≡ l ++ target ∷ r
  pub at : q.at ≡ p.at
  pub is : all_slots (q ∷ more) ≡ l ++ record u { name = name } ∷ r
  pub became : Became disk p (pair_with_slots (l ++ record u { name = name } ∷ r) p) q more
  -- the directory that goes
  pub branch : target.struct ≡ Branch d
  pub alike_address : same_pair o.at d ≡ true
  pub soft : is_hard_tail o.content.tail ≡ false
  pub begins : onward_all None (before_gone b front mid p) ≡ None
  pub apart : Each (λ x. same_pair x.at d ≡ false) (two b front (p ∷ []) mid [] back)
  pub alike : SameSlots (chain ++ two b front (q ∷ more) mid [] back) rs
  -- the paths
  pub from_slot : slot_of_path (chain ++ two b front (p ∷ []) mid (o ∷ []) back) old_path ≡ Some u
  pub to_slot : slot_of_path (chain ++ two b front (p ∷ []) mid (o ∷ []) back) new_path ≡ Some target
  pub to_name : last_name new_path ≡ name
  pub not_beneath : without_prefix old_path new_path ≡ None

module _ (disk new : Disk) (rs : List Pair) (b : Bool) (chain front mid back : List Pair) (p o q : Pair) (more : List Pair)
    (lo : List Slot) (u : Slot) (ro l : List Slot) (target : Slot) (r : List Slot) (d : ℕ × ℕ) (old_path new_path : Path) (name : Name)
    (c : IsRenameWithinOnto disk new rs b chain front mid back p o q more lo u ro l target r d old_path new_path name)
    (s : Session) (old_bytes new_bytes : List ℕ) (tree : s.tree ≡ disk_tree disk (chain ++ two b front (p ∷ []) mid (o ∷ []) back))
    (old_is : path_or_root old_bytes ≡ old_path) (new_is : path_or_root new_bytes ≡ new_path) where
  abbrev ps : List Pair
  ps = chain ++ two b front (p ∷ []) mid (o ∷ []) back

  abbrev op : ops.Operation
  op = ops.Rename old_bytes new_bytes

  abbrev Goes_ : ℕ × ℕ → Type 0
  Goes_ = IsUnreachedOrRemoved ps op

  gone : removed_directory_addresses ps op ≡ d ∷ []
  gone = ap (λ t. cond t [] (slot_directory_addresses (slot_of_path ps (path_or_root new_bytes)))) (ap₂ same_path old_is new_is ∙ not_before old_path new_path c.not_beneath)
      ∙ ap slot_directory_addresses (ap (slot_of_path ps) new_is ∙ c.to_slot) ∙ go target.struct c.branch
    where
      go : (t : Struct) → t ≡ Branch d → slot_directory_addresses (Some (record target { struct = t })) ≡ d ∷ []
      go (Branch to) e = ap (λ x. x ∷ []) (same_Some to d (ap struct_directory_address e))
      go (Inline bytes) e = absurd (cc)
      go (Ctz head size) e = absurd (cc)

  abbrev drafts : List Pair
  drafts = chain ++ two b front (pair_with_slots (l ++ record u { name = name } ∷ r) p ∷ []) mid (o ∷ []) back

  abbrev without_old : List Pair
  without_old = chain ++ two b front (pair_with_slots (lo ++ ro) p ∷ []) mid (o ∷ []) back

  abbrev cleared : List Pair
  cleared = chain ++ two b front (pair_with_slots (l ++ r) p ∷ []) mid (o ∷ []) back

  -- every directory is reached
  all_reached : NoneGoes (λ x. IsReachedDirectory ps x → ⊥) None (two b front (p ∷ []) mid (o ∷ []) back)
  all_reached = subst (NoneGoes (λ x. IsReachedDirectory ps x → ⊥) None) (pairs_behind chain (two b front (p ∷ []) mid (o ∷ []) back) c.is_chain)
      (none_where (λ x. IsReachedDirectory ps x → ⊥) (pairs_gstate ps) None (pairs_from_root ps) (λ x f. absurd (cc))
      (subst (Each (λ (x : ThreadDirectory). (IsReachedDirectory ps x.at → ⊥) → ⊥)) (sym (rest_all (all_directories ps)))
      (each_weaker (λ (x : ThreadDirectory). IsReachedDirectory ps x.at) (λ (x : ThreadDirectory). (IsReachedDirectory ps x.at → ⊥) → ⊥) (λ x h n. n h) (all_directories ps)
      (recursion_from_All (λ (x : ThreadDirectory). IsReachedDirectory ps x.at) (all_directories ps) (recovered_from disk ps c.accepted c.settled).reached))))

  none_of : (from : Option (ℕ × ℕ)) (xs : List Pair) → NoneGoes (λ x. IsReachedDirectory ps x → ⊥) from xs → ((x : ℕ × ℕ) → from ≡ Some x → same_pair x d ≡ true → ⊥) → Each (λ x. same_pair x.at d ≡ false) xs →
      NoneGoes Goes_ from xs
  none_of from xs h f k = subst (λ ds. NoneGoes (λ x. (IsReachedDirectory ps x → ⊥) ⊎ Any (λ at. same_pair x at ≡ true) ds) from xs) (sym gone)
      (none_both (λ x. IsReachedDirectory ps x → ⊥) (λ x. Any (λ at. same_pair x at ≡ true) (d ∷ [])) from xs h (none_apart d from xs f k))

  goes_there : Goes_ o.at
  goes_there = subst (λ ds. (IsReachedDirectory ps o.at → ⊥) ⊎ Any (λ at. same_pair o.at at ≡ true) ds) (sym gone) (inr (any_from (λ at. same_pair o.at at ≡ true) (d ∷ []) (inl c.alike_address)))

  -- nothing goes on after o
  ends_there : (from : Option (ℕ × ℕ)) → continued_directory_address from o ≡ None
  ends_there from = ap (λ t. cond t (Some (directory_address from o)) None) c.soft

  from_start : (x : ℕ × ℕ) → None ≡ Some x → same_pair x d ≡ true → ⊥
  from_start x e k = absurd (cc)

  apart_seg : (xs ys : List Pair) → Each (λ x. same_pair x.at d ≡ false) (xs ++ ys) → Each (λ x. same_pair x.at d ≡ false) xs × Each (λ x. same_pair x.at d ≡ false) ys
  apart_seg xs ys h = (each_left (λ (x : Pair). same_pair x.at d ≡ false) xs ys h, each_right (λ (x : Pair). same_pair x.at d ≡ false) xs ys h)

  -- of pairs before o and after it none goes
  none_around : (seg after : List Pair) → NoneGoes (λ x. IsReachedDirectory ps x → ⊥) None (seg ++ (o ∷ [] ++ after)) → Each (λ x. same_pair x.at d ≡ false) seg → Each (λ x. same_pair x.at d ≡ false) after →
      NoneGoes Goes_ None seg × NoneGoes Goes_ None after
  none_around seg after h k m = (
    none_of None seg (none_goes_left (λ x. IsReachedDirectory ps x → ⊥) None seg (o ∷ [] ++ after) h) from_start k,
    none_of None after (subst (λ z. NoneGoes (λ x. IsReachedDirectory ps x → ⊥) z after) (ends_there (onward_all None seg)) (none_goes_right (λ x. IsReachedDirectory ps x → ⊥) None seg (o ∷ [] ++ after) h).1) from_start m,
  )

  abbrev Holds : Bool → Type 0
  Holds t = Stood disk Goes_ (count_before_root (chain ++ two t front (p ∷ []) mid (o ∷ []) back)) None (chain ++ two t front (pair_with_slots (l ++ record u { name = name } ∷ r) p ∷ []) mid (o ∷ []) back) (chain ++ two t front (q ∷ more) mid [] back)

  stood_by : (t : Bool) → IsChain chain (two t front (p ∷ []) mid (o ∷ []) back) → IsWritable disk (chain ++ two t front (p ∷ []) mid (o ∷ []) back) →
      NoneGoes (λ x. IsReachedDirectory ps x → ⊥) None (two t front (p ∷ []) mid (o ∷ []) back) → Each (λ x. same_pair x.at d ≡ false) (two t front (p ∷ []) mid [] back) →
      onward_all None (before_gone t front mid p) ≡ None → Holds t
  stood_by true is_chain ok reached apart begins =
      let seg = front ++ (p ∷ [] ++ mid) in
      let a = apart_seg front (p ∷ [] ++ (mid ++ back)) apart in
      let m = apart_seg mid back a.1.1 in
      let n = none_around seg back (subst (NoneGoes (λ x. IsReachedDirectory ps x → ⊥) None) (sym (append_assoc front (p ∷ mid) (o ∷ back))) reached)
      (each_append (λ (x : Pair). same_pair x.at d ≡ false) front (p ∷ mid) a.0 (a.1.0, m.0)) m.1 in
      let behind = none_goes_right Goes_ None front (p ∷ mid) n.0 in
      let start : onward_all (onward_all (onward_all None front) (p ∷ [])) mid ≡ None = sym (onward_append None front (p ∷ mid)) ∙ begins in
      subst (Stood disk Goes_ (count_before_root (chain ++ two true front (p ∷ []) mid (o ∷ []) back)) None (chain ++ two true front (pair_with_slots (l ++ record u { name = name } ∷ r) p ∷ []) mid (o ∷ []) back))
      (ap (λ x. chain ++ (front ++ (x ++ (mid ++ back)))) (append-nil (q ∷ more)))
      (stand_apart disk Goes_ chain front (p ∷ []) (pair_with_slots (l ++ record u { name = name } ∷ r) p ∷ []) mid (o ∷ []) (o ∷ []) back ((q ∷ more) ∷ []) ([] ∷ []) is_chain ok
      (none_goes_left Goes_ None front (p ∷ mid) n.0) behind.1 (subst (λ z. NoneGoes Goes_ z back) (sym (ends_there (onward_all (onward_all (onward_all None front) (p ∷ [])) mid))) n.1)
      (λ from. refl) (λ from. refl)
      (λ h. (became_stands disk _ _ p (pair_with_slots (l ++ record u { name = name } ∷ r) p) q more c.at c.is c.became behind.0 (λ e. some_filled l r (record u { name = name })), tt))
      (λ h. (inl (subst (λ z. Goes_ (directory_address z o)) (sym start) goes_there), tt)))
  stood_by false is_chain ok reached apart begins =
      let a = apart_seg front (mid ++ (p ∷ [] ++ back)) apart in
      let n = none_around front (mid ++ (p ∷ [] ++ back)) reached a.0 a.1 in
      let start = ends_there (onward_all None front) in
      let second = none_goes_right Goes_ None mid (p ∷ back) n.1 in
      subst (Stood disk Goes_ (count_before_root (chain ++ two false front (p ∷ []) mid (o ∷ []) back)) None (chain ++ two false front (pair_with_slots (l ++ record u { name = name } ∷ r) p ∷ []) mid (o ∷ []) back))
      (ap (λ x. chain ++ (front ++ (mid ++ (x ++ back)))) (append-nil (q ∷ more)))
      (stand_apart disk Goes_ chain front (o ∷ []) (o ∷ []) mid (p ∷ []) (pair_with_slots (l ++ record u { name = name } ∷ r) p ∷ []) back ([] ∷ []) ((q ∷ more) ∷ []) is_chain ok
      n.0 (subst (λ z. NoneGoes Goes_ z mid) (sym start) (none_goes_left Goes_ None mid (p ∷ back) n.1))
      (subst (λ z. NoneGoes Goes_ (continued_directory_address (onward_all z mid) p) back) (sym start) second.1)
      (λ from. refl) (λ from. refl)
      (λ h. (inl (subst (λ z. Goes_ (directory_address z o)) (sym begins) goes_there), tt))
      (λ h. (became_stands disk _ _ p (pair_with_slots (l ++ record u { name = name } ∷ r) p) q more c.at c.is c.became (subst (λ z. NoneGoes Goes_ (onward_all z mid) (p ∷ [])) (sym start) (second.0, tt)).0 (λ e. some_filled l r (record u { name = name })), tt)))

  stood : Stood disk Goes_ (count_before_root ps) None drafts rs
  stood =
      let t = stood_by b c.is_chain c.writable all_reached c.apart c.begins in
      stood_alike disk Goes_ (count_before_root ps) None drafts t.parts rs t.stand (subst (λ z. SameSlots z rs) (sym t.joined) c.alike)

  pub within_onto_laid_out : IsLayoutAfterOperation disk ps s op new rs
  within_onto_laid_out = record {
    drafts = drafts;
    parts = stood.parts;
    front = rs;
    fresh = [];
    back = [];
    edits = (
      refl,
      (
        u,
        without_old,
        cleared,
        (
          ap (slot_of_path ps) old_is ∙ c.from_slot,
          subst (λ z. ReplacesSlots (u ∷ []) [] z without_old) (sym (nothing_moved ps c.settled)) (splice_old b chain front mid (o ∷ []) back p lo (u ∷ []) [] ro c.held),
          subst (λ t. RemovesSlot t without_old cleared) (sym (ap (slot_of_path ps) new_is ∙ c.to_slot)) (splice_old b chain front mid (o ∷ []) back (pair_with_slots (lo ++ ro) p) l (target ∷ []) [] r c.left_over),
          subst (λ n. ReplacesSlots [] (record u { name = n } ∷ []) cleared drafts) (sym (ap last_name new_is ∙ c.to_name))
              (splice_old b chain front mid (o ∷ []) back (pair_with_slots (l ++ r) p) l [] (record u { name = name } ∷ []) r refl),
        ),
      ),
    );
    stand = stood.stand;
    joined = stood.joined ∙ sym (append-nil rs);
    is = sym (append-nil rs);
  }

  pub within_onto_completed : CompletesOperation disk ps s op new rs
  within_onto_completed = record {
    accepted = c.follows.accepted;
    writable = c.still_writable;
    recovered = recovered_from new rs c.follows.accepted c.still;
    tree = λ around. c.follows.shows ∙ sym (ap (λ z. tree_renaming (path_or_root old_bytes) (path_or_root new_bytes) z) tree ∙ ap₂ (λ x y. tree_renaming x y (disk_tree disk ps)) old_is new_is);
    laid_out = within_onto_laid_out;
    structs = structs_left disk ps new rs (tree_renaming old_path new_path) c.walk s op c.follows (renaming_leaves (disk_tree disk ps) s old_bytes new_bytes old_path new_path old_is new_is);
  }

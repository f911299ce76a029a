-- A rename across pairs, of two steps: where the old pair stands between them, and what the operation comes to.
use Rattle.std.proofs.Common.{ℕ, ◌≡◌, ◌+◌, ◌<◌, ◌⊎◌, inl, inr, Bool, true, false, List, [], ◌∷◌, ◌++◌, length, Option, Some, None, refl, sym, ap, subst, ◌∙◌, arith, append_assoc, length-append}
use Rattle.std.specs.Prelude.{is_some}
use Rattle.lfs_model.proofs.Common.{Disk, Name, Slot, gstate_xor, zero_gstate, pair_with_slots, slot_of_path, Pair, pairs_gstate, is_hard_tail, count_before_root, Path, last_name, tree_renaming, Session, path_or_root, IsAccepted, IsWritable, disk_tree}
use Rattle.lfs_model.specs.layers.Steps.{PathAddresses}
use Rattle.lfs_model.specs.layers.StepResults.{gstate_with_move}
use Rattle.lfs_model.specs.session.Operations as ops
use Rattle.lfs_model.proofs.Alike.{SameSlots}
use Rattle.lfs_model.proofs.Became.{Became}
use Rattle.lfs_model.proofs.Changes.{IsChangedImage}
use Rattle.lfs_model.proofs.Committed.{CompletesOperation}
use Rattle.lfs_model.proofs.Layouts.{onward_all}
use Rattle.lfs_model.proofs.RenamedAcross.{IsNoDirectory, target_slots, IsRenameAcross, across_completed}
use Rattle.lfs_model.proofs.Sites.{Site, thread_at}
use Rattle.lfs_model.proofs.StepsTaken.{IsWritableChange}
use Rattle.lfs_model.proofs.TwoPlaces.{OldStays, two, from_old}
use Rattle.lfs_model.proofs.Writable.{last_tail_is_hard}
use Rattle.lfs_model.proofs.HiddenPlaces.{InTurn, ahead, behind}
use Rattle.lfs_model.proofs.SetMoves.{HasTurned, IsSetting, turns}
use Rattle.lfs_model.proofs.EmptyDirectories.{flag_from}

pub flag_append : (b : Bool) (xs ys : List Pair) → last_tail_is_hard b (xs ++ ys) ≡ last_tail_is_hard (last_tail_is_hard b xs) ys
flag_append b [] ys = refl
flag_append b (x ∷ xs) ys = flag_append (is_hard_tail x.content.tail) xs ys

-- a hard tail leads on from what a pair became where one leads on from the pair
pub flag_became : (disk : Disk) (p d q : Pair) (more : List Pair) (b : Bool) → Became disk p d q more → last_tail_is_hard b (q ∷ more) ≡ last_tail_is_hard b (p ∷ [])
flag_became disk p d q [] b h = ap is_hard_tail h.0
flag_became disk p d q (f ∷ []) b h = ap is_hard_tail h.1
flag_became disk p d q (f ∷ g ∷ more) b h = absurd h

-- How the two pairs stand, before the first step and after it; the old one stands behind `pre` then.
pub record Arranged (disk : Disk) (wo : Site) (o : Pair) (w : Site) (p q : Pair) (more : List Pair) : Type 0 where
  pub b : Bool
  pub front : List Pair
  pub mid : List Pair
  pub back : List Pair
  pub old_is : thread_at w (p ∷ []) ≡ w.chain ++ two b front (o ∷ []) mid (p ∷ []) back
  pub pre : List Pair
  pub post : List Pair
  pub mid_is : thread_at w (q ∷ more) ≡ w.chain ++ (pre ++ o ∷ post)
  pub cut : (zs : List Pair) → two b front zs mid (q ∷ more) back ≡ pre ++ (zs ++ post)
  pub number : ((length (wo.before ++ wo.left) < length (w.before ++ w.left)) × (length pre ≡ length (wo.before ++ wo.left)))
      ⊎ ((length (w.before ++ w.left) < length (wo.before ++ wo.left)) × (length pre ≡ length (wo.before ++ wo.left) + length more))
  pub from : is_some (from_old b front mid p) ≡ last_tail_is_hard false (wo.before ++ wo.left)
  pub led : last_tail_is_hard false pre ≡ last_tail_is_hard false (wo.before ++ wo.left)

pub arranged : (disk : Disk) (wo : Site) (o : Pair) (w : Site) (p d q : Pair) (more : List Pair) → Became disk p d q more
    → InTurn (w.before ++ w.left) p (w.right ++ w.after) (wo.before ++ wo.left) o (wo.right ++ wo.after) → Arranged disk wo o w p q more
arranged disk wo o w p d q more became (ahead mid e f) =
    let front : List Pair = wo.before ++ wo.left in
    let back : List Pair = w.right ++ w.after in
    record {
      b = true;
      front = wo.before ++ wo.left;
      mid = mid;
      back = w.right ++ w.after;
      old_is = ap (λ z. w.chain ++ (z ++ (p ∷ back))) f ∙ ap (λ z. w.chain ++ z) (append_assoc front (o ∷ mid) (p ∷ back));
      pre = wo.before ++ wo.left;
      post = mid ++ (q ∷ more ++ back);
      mid_is = ap (λ z. w.chain ++ (z ++ (q ∷ more ++ back))) f ∙ ap (λ z. w.chain ++ z) (append_assoc front (o ∷ mid) (q ∷ more ++ back));
      cut = λ zs. refl;
      number = inl ((let g = ap length f in let h = length-append front (o ∷ mid) in omega arith), refl);
      from = flag_from None front;
      led = refl;
    }
arranged disk wo o w p d q more became (behind mid e f) =
    let front : List Pair = w.before ++ w.left in
    let back : List Pair = wo.right ++ wo.after in
    record {
      b = false;
      front = w.before ++ w.left;
      mid = mid;
      back = wo.right ++ wo.after;
      old_is = ap (λ z. w.chain ++ (front ++ (p ∷ z))) e;
      pre = front ++ (q ∷ more ++ mid);
      post = back;
      mid_is = ap (λ z. w.chain ++ (front ++ (q ∷ more ++ z))) e ∙ ap (λ z. w.chain ++ z) (cut_at front (q ∷ more) mid (o ∷ []) back);
      cut = λ zs. cut_at front (q ∷ more) mid zs back;
      number = inr (
        (let g = ap length f in let h = length-append front (p ∷ mid) in omega arith),
        (let g = ap length f in let h = length-append front (p ∷ mid) in let i = length-append front (q ∷ more ++ mid) in let j = length-append (q ∷ more) mid in omega arith),
      );
      from = flag_from (onward_all (onward_all None front) (p ∷ [])) mid ∙ ap (λ b. last_tail_is_hard b mid) (flag_from (onward_all None front) (p ∷ []))
          ∙ sym (ap (last_tail_is_hard false) f ∙ flag_append false front (p ∷ mid));
      led = flag_append false front (q ∷ more ++ mid) ∙ flag_append (last_tail_is_hard false front) (q ∷ more) mid ∙ ap (λ b. last_tail_is_hard b mid) (flag_became disk p d q more (last_tail_is_hard false front) became)
          ∙ sym (ap (last_tail_is_hard false) f ∙ flag_append false front (p ∷ mid));
    }
  where
    cut_at : (xs ys zs us vs : List Pair) → xs ++ (ys ++ (zs ++ (us ++ vs))) ≡ (xs ++ (ys ++ zs)) ++ (us ++ vs)
    cut_at xs ys zs us vs = ap (λ k. xs ++ k) (sym (append_assoc ys zs (us ++ vs))) ∙ sym (append_assoc xs (ys ++ zs) (us ++ vs))

module _ (disk middle new : Disk) (wo : Site) (o : Pair) (lo : List Slot) (u : Slot) (ro : List Slot) (w : Site) (p : Pair) (l : List Slot) (target : Option Slot) (v : Slot) (r : List Slot)
    (k : IsSetting disk wo o lo u ro w p l (target_slots target) v r) (q : Pair) (more : List Pair)
    (sync : Bool) (x : HasTurned disk w p (l ++ v ∷ r) (gstate_xor (gstate_with_move sync o.at (length lo)) p.content.move) middle q more) where
  abbrev pub arrangement : Arranged disk wo o w p q more
  arrangement = arranged disk wo o w p (pair_with_slots (l ++ v ∷ r) p) q more x.became (turns disk wo o lo u ro w p l (target_slots target) v r k)

  -- the whole operation; of the old pair os is left
  module _ (name : Name) (same_slot : v ≡ record u { name = name }) (old_path new_path : Path) (walk : PathAddresses → PathAddresses)
      (first : IsChangedImage disk (thread_at w (p ∷ [])) middle (thread_at w (q ∷ more)) (tree_renaming old_path new_path) walk)
      (os rs : List Pair) (stays : OldStays (from_old arrangement.b arrangement.front arrangement.mid p) o (lo ++ ro) os)
      (alike : SameSlots (w.chain ++ (arrangement.pre ++ (os ++ arrangement.post))) rs)
      (second : IsWritableChange middle (thread_at w (q ∷ more)) new rs (λ t. t) (λ d. d)) (state : pairs_gstate rs ≡ zero_gstate)
      (from_slot : slot_of_path (thread_at w (p ∷ [])) old_path ≡ Some u) (to_slot : slot_of_path (thread_at w (p ∷ [])) new_path ≡ target) (to_name : last_name new_path ≡ name)
      (file : IsNoDirectory target) where
    is_across : IsRenameAcross disk middle new (thread_at w (q ∷ more)) rs arrangement.b w.chain arrangement.front arrangement.mid arrangement.back o p q os more lo u ro l target r old_path new_path name
    is_across = record {
      is_chain = sym (ap count_before_root arrangement.old_is) ∙ k.site.chain;
      accepted = subst (IsAccepted disk) arrangement.old_is k.accepted;
      writable = subst (IsWritable disk) arrangement.old_is k.writable;
      settled = sym (ap pairs_gstate arrangement.old_is) ∙ k.settled;
      still = state;
      walk = walk;
      first = subst (λ z. IsChangedImage disk z middle (thread_at w (q ∷ more)) (tree_renaming old_path new_path) walk) arrangement.old_is first;
      second = second.follows;
      still_writable = second.writable;
      held = k.held;
      was = k.was;
      at = x.at;
      is = x.is ∙ ap (λ z. l ++ z ∷ r) same_slot;
      became = subst (λ z. Became disk p (pair_with_slots (l ++ z ∷ r) p) q more) same_slot x.became;
      stays = stays;
      alike = subst (λ z. SameSlots (w.chain ++ z) rs) (sym (arrangement.cut os)) alike;
      from_slot = sym (ap (λ z. slot_of_path z old_path) arrangement.old_is) ∙ from_slot;
      to_slot = sym (ap (λ z. slot_of_path z new_path) arrangement.old_is) ∙ to_slot;
      to_name = to_name;
      file = file;
    }

    pub completed : (s : Session) (old_bytes new_bytes : List ℕ) → s.tree ≡ disk_tree disk (thread_at w (p ∷ [])) → path_or_root old_bytes ≡ old_path → path_or_root new_bytes ≡ new_path
        → CompletesOperation disk (thread_at w (p ∷ [])) s (ops.Rename old_bytes new_bytes) new rs
    completed s old_bytes new_bytes tree old_as new_as = subst (λ z. CompletesOperation disk z s (ops.Rename old_bytes new_bytes) new rs) (sym arrangement.old_is)
        (across_completed disk middle new (thread_at w (q ∷ more)) rs arrangement.b w.chain arrangement.front arrangement.mid arrangement.back o p q os more lo u ro l target r old_path new_path name is_across
        s old_bytes new_bytes (tree ∙ ap (disk_tree disk) arrangement.old_is) old_as new_as)

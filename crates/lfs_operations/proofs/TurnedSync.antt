-- A pair of an image with nothing to recover, whose commit flips the sync bit: the step, and what a power loss leaves.
use Rattle.lfs_operations.proofs.Common.{ℕ, ◌≡◌, ◌≢◌, ◌⊎◌, inl, inr, ◌+◌, true, false, List, [], ◌∷◌, ◌++◌, length, Some, refl, sym, ap, subst, ◌∙◌, arith, append-nil, recursion_from_All, Blocks, ContentChange, Disk, SameGeometry, HasEitherTree as IsLeftOf, with_blocks, IsWritableSlot, IsWritable, all_unmoved_slots, disk_tree, pair_with_slots, FitsInPair, Slot, gstate_xor, zero_gstate, PathAddresses, Pair, pairs_gstate, begins_with_superblock, Tree, IsAccepted, fits_same, IsChangedImage, SameFiles, no_move_from, Each, SameFileBlocks, HasNoMove, sync_bit_delta, IsStep, IsSite, Site, thread_at, IsDevice, stays_shape, IsWritableChange, last_tail_is_hard, KeptThread, LossLeavesPair, BeginWithSuperblock, complete_after, IsSplice, commit_taken, IsRecoveredWritableImage}
use Rattle.lfs_model.proofs.SetMoves.{HasTurned}
use Rattle.lfs_operations.proofs.MovTurned.{IsTurn, content_with, left_alone}
use Rattle.lfs_model.proofs.Placing.{left_after, left_still}
use Rattle.lfs_operations.proofs.Threads.{sync_turned}

-- slots that begin with a superblock begin with it when others are replaced
pub first_kept : (l olds news r : List Slot) → (l ≡ [] → begins_with_superblock (olds ++ r) ≡ false) → BeginWithSuperblock (l ++ (olds ++ r)) → BeginWithSuperblock (l ++ (news ++ r))
first_kept [] olds news r f e = absurd (let z = sym (f refl) ∙ e.0 in cc)
first_kept (s ∷ l) olds news r f e = e

-- The changes give the pair these slots, in which `news` stand where `olds` did, and flip the sync bit. What they make fits.
pub record IsSyncTurn (t : KeptThread) (index : ℕ) (changes : List ContentChange) (w : Site) (p : Pair) (slots l olds news r : List Slot) : Type 0 where
  pub ready : IsRecoveredWritableImage t
  pub there : t.pairs ≡ thread_at w (p ∷ [])
  pub place : index ≡ length w.chain + length (w.before ++ w.left)
  pub site : IsSite w (p ∷ [])
  pub made : complete_after t index changes ≡ Some (content_with p slots (gstate_xor p.content.move sync_bit_delta))
  pub fits : FitsInPair t.disk.block_size t.disk.page (content_with p slots (gstate_xor p.content.move sync_bit_delta))
  pub was : p.content.slots ≡ l ++ (olds ++ r)
  pub now : slots ≡ l ++ (news ++ r)
  pub front : l ≡ [] → begins_with_superblock (olds ++ r) ≡ false
  pub fit : Each (IsWritableSlot t.disk.profile t.disk.block_size t.disk.page) news
  pub filled : last_tail_is_hard false (w.before ++ w.left) ≡ true → l ++ (news ++ r) ≢ []
  pub splice : (disk : Disk) → SameGeometry t.disk disk → SameFiles t.disk disk (all_unmoved_slots t.pairs) → IsSplice t.disk disk [] l olds news r

module _ {t : KeptThread} {index : ℕ} {changes : List ContentChange} {w : Site} {p : Pair} {slots l olds news r : List Slot} (k : IsSyncTurn t index changes w p slots l olds news r) where
  abbrev pub pair_turned : Pair
  pair_turned = record { at = p.at; content = content_with p slots (gstate_xor p.content.move sync_bit_delta) }

  abbrev pub Turned : Disk → Type 0
  Turned disk = HasTurned t.disk w p slots (gstate_xor p.content.move sync_bit_delta) disk pair_turned []

  accepted : IsAccepted t.disk (thread_at w (p ∷ []))
  accepted = subst (IsAccepted t.disk) k.there k.ready.accepted

  writable : IsWritable t.disk (thread_at w (p ∷ []))
  writable = subst (IsWritable t.disk) k.there k.ready.writable

  settled : pairs_gstate (thread_at w (p ∷ [])) ≡ zero_gstate
  settled = ap pairs_gstate (sym k.there) ∙ k.ready.settled

  pub state_turned : pairs_gstate (thread_at w (pair_turned ∷ [])) ≡ sync_bit_delta
  state_turned = sync_turned w p pair_turned refl settled

  pub no_move_turned : HasNoMove (pairs_gstate (thread_at w (pair_turned ∷ [])))
  no_move_turned = subst HasNoMove (sym state_turned) (record { kind = refl; id = refl; pair = refl })

  -- the superblock stays in slot 0
  pub turn_of : IsTurn t index changes w p slots (gstate_xor p.content.move sync_bit_delta)
  turn_of = record { accepted = k.ready.accepted; there = k.there; place = k.place; site = k.site; made = k.made; first = λ h. subst BeginWithSuperblock (sym k.now) (first_kept l olds news r k.front (subst BeginWithSuperblock k.was (h.kind, h.name))) }

  starts : begins_with_superblock p.content.slots ≡ true → begins_with_superblock slots ≡ true
  starts e = ap begins_with_superblock k.now ∙ go l k.front (sym (ap begins_with_superblock k.was) ∙ e)
    where
      go : (l : List Slot) → (l ≡ [] → begins_with_superblock (olds ++ r) ≡ false) → begins_with_superblock (l ++ (olds ++ r)) ≡ true → begins_with_superblock (l ++ (news ++ r)) ≡ true
      go [] f e = absurd (let z = sym (f refl) ∙ e in cc)
      go (s ∷ l) f e = e

  pub step_turned : (disk : Disk) → Turned disk
      → IsStep t.disk disk w p [] pair_turned [] [] [] l olds news r
  step_turned disk x = record {
    accepted = accepted;
    site = k.site;
    no_move = no_move_from (thread_at w (p ∷ [])) settled;
    still_none = no_move_turned;
    device = x.device;
    free = record { distinct = accepted.owned_once; in_range = λ j d e. absurd (omega arith) };
    shape = stays_shape p pair_turned refl refl starts;
    was = append-nil p.content.slots ∙ k.was;
    is = append-nil slots ∙ k.now;
    splice = k.splice disk x.device.geometry
        (subst (λ z. SameFiles t.disk disk (all_unmoved_slots z)) (sym k.there) (recursion_from_All (λ (s : Slot). SameFileBlocks t.disk disk s.struct) (all_unmoved_slots (thread_at w (p ∷ []))) x.device.files));
  }

  -- where the step follows by a change of the tree
  module _ (change : Tree → Tree) (walk : PathAddresses → PathAddresses)
      (follows : (disk : Disk) → IsStep t.disk disk w p [] pair_turned [] [] [] l olds news r
      → IsChangedImage t.disk (thread_at w (p ∷ [])) disk (thread_at w (pair_turned ∷ [])) change walk) where
    pub taken_turned : (disk : Disk) → Turned disk
        → IsWritableChange t.disk (thread_at w (p ∷ [])) disk (thread_at w (pair_turned ∷ [])) change walk
    taken_turned disk x = commit_taken t.disk w p pair_turned [] l olds news r
        (record {
          writable = writable;
          was = k.was;
          is = append-nil slots ∙ k.now;
          became = (refl, fits_same t.disk pair_turned (pair_with_slots (l ++ (news ++ r)) p) (sym k.now) k.fits);
          fit = k.fit;
          filled = k.filled;
        })
        disk [] [] change walk (step_turned disk x) (follows disk (step_turned disk x))

    pub left_turned : (left : Blocks) → LossLeavesPair t index changes left → IsLeftOf (with_blocks left t.disk) (disk_tree t.disk t.pairs) (change (disk_tree t.disk t.pairs))
    left_turned left is = go (left_alone t index changes w p slots (gstate_xor p.content.move sync_bit_delta) turn_of left is)
      where
        go : IsDevice t.disk (with_blocks left t.disk) (thread_at w (p ∷ [])) (thread_at w (p ∷ [])) ⊎ Turned (with_blocks left t.disk)
            → IsLeftOf (with_blocks left t.disk) (disk_tree t.disk t.pairs) (change (disk_tree t.disk t.pairs))
        go (inl on) = left_still t.disk left (thread_at w (p ∷ [])) accepted writable on (inl (ap (disk_tree t.disk) (sym k.there)))
        go (inr x) = left_after (taken_turned (with_blocks left t.disk) x) (inr (ap (λ z. change (disk_tree t.disk z)) (sym k.there)))

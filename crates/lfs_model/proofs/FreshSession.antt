-- A session on a fresh disk, for examples: its disk's pairs, and what a loss of power leaves before the first call.
use Rattle.std.proofs.Common.{ℕ, ◌≡◌, ◌<◌, inl, true, List, [], ◌∷◌, length, Some, refl, sym, ap, ◌∙◌, arith}
use Rattle.std.specs.Prelude.{All, slice_index}
use Rattle.lfs_model.proofs.Common.{Disk, disk_with_order, disk_block, block_count, default_profile, content_at, zero_gstate, Pair, AreLinkedByTails, superblock_pair_address, pairs_blocks, Tree, IsAccepted, IsWritableDisk, disk_tree, fresh_pair, empty_tree, Operation, Session, DiskSummary, IsDiskSummary, SessionHealth, HasFailed, Healthy, mounted_session, operation_result, HasEitherTree, IsHealthySession, SurvivesPowerLoss, small_image, two_commit_image, fresh_state, blockless_disk}
use Rattle.lfs_model.specs.declared.order.NameOrder.{NameOrder}
use Rattle.lfs_model.proofs.Uniqueness.{one_thread}
use Rattle.lfs_model.proofs.Fresh.{accepted, writable, shows}
use Rattle.lfs_model.proofs.Example.{fresh}

abbrev pub pairs : List Pair
pairs = fresh_pair small_image ∷ []

pub are_accepted : IsAccepted small_image pairs
are_accepted = accepted small_image fresh

pub in_profile : IsWritableDisk small_image
in_profile = (pairs, (are_accepted, writable small_image fresh))

-- the tree of any accepted thread of it, in either order of names
pub tree_in_order : (order : NameOrder) (ps : List Pair) → IsAccepted (disk_with_order order small_image) ps → disk_tree small_image ps ≡ empty_tree
tree_in_order order ps ok = ap (disk_tree small_image) (one_thread (content_at small_image) (block_count small_image) ps pairs ok.thread are_accepted.thread) ∙ shows small_image

pub tree_is_empty : (ps : List Pair) → IsAccepted small_image ps → disk_tree small_image ps ≡ empty_tree
tree_is_empty ps ok = tree_in_order small_image.order ps ok

abbrev pub around : DiskSummary
around = record { writable = true; profile = default_profile; block_size = 1024; page = 128; block_count = 2; used = 0 ∷ 1 ∷ []; gstate = zero_gstate }

pub surrounds : IsDiskSummary small_image pairs around
surrounds = record { profile = refl; block_size = refl; page = refl; block_count = refl; used = refl; gstate = refl; writable = ((λ e. writable small_image fresh), λ w. refl) }

pub is_at_work : IsHealthySession fresh_state (mounted_session empty_tree) pairs around
is_at_work = record { healthy = refl; accepted = are_accepted; writable = writable small_image fresh; surrounds = surrounds }

pub still_there : (before after : Tree) → before ≡ empty_tree → HasEitherTree small_image before after
still_there before after e = record { pairs = pairs; accepted = are_accepted; writable = writable small_image fresh; tree = inl (shows small_image ∙ sym e) }

-- a disk without blocks has no thread
pub none_in_order : (order : NameOrder) (ps : List Pair) → IsAccepted (disk_with_order order blockless_disk) ps → ⊥
none_in_order order ps ok = go ps ok.thread.links ok.thread.in_range
  where
    go : (ps : List Pair) → AreLinkedByTails (Some superblock_pair_address) ps → All (λ b. b < 0) (pairs_blocks ps) → ⊥
    go [] l r = absurd (cc)
    go (p ∷ ps) l r = let k = r 0 0 (omega arith) in absurd (omega arith)

pub none_accepted : (ps : List Pair) → IsAccepted blockless_disk ps → ⊥
none_accepted ps ok = none_in_order blockless_disk.order ps ok

-- it has two blocks
pub no_blocks : [] ≡ small_image.blocks → ⊥
no_blocks e = absurd (let k : 0 ≡ 2 = ap length e in cc)

pub differ : small_image ≡ two_commit_image → ⊥
differ e = apart (slice_index (disk_block small_image 0) 128) (slice_index (disk_block two_commit_image 0) 128) refl refl (ap (λ (d : Disk). slice_index (disk_block d 0) 128) e)
  where
    apart : (m n : ℕ) → m ≡ 0xff → n ≡ 0x10 → m ≡ n → ⊥
    apart m n e f g = absurd (omega arith)

-- an operation that makes no call survives a stop, however it ends
pub surviving : (op : Operation) (state : SessionHealth) → SurvivesPowerLoss fresh_state op (record fresh_state { state = state })
surviving op state = record {
  stops = λ s ps a work clean. record { events = []; extends = refl; each = tt };
  stands = λ s ps a work clean fails. still_there s.tree (operation_result a s op).1.tree (sym (ap (λ (z : Session). z.tree) (same_session (mounted_session empty_tree) s work.healthy)));
}
  where
    same_session : (s t : Session) → Healthy s ≡ Healthy t → s ≡ t
    same_session s t e = ap (λ z. or_else z) e
      where
        or_else : SessionHealth → Session
        or_else HasFailed = s
        or_else (Healthy z) = z

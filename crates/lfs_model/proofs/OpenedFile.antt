-- An open of a new file takes a fresh disk to one with a file in its root: the step, and the session step.
use Rattle.std.proofs.Common.{◌≡◌, true, [], ◌∷◌, ◌++◌, Some, None, refl, sym, arith}
use Rattle.std.specs.Prelude.{codes, nat_eq}
use Rattle.std.specs.List.{IsDistinct}
use Rattle.lfs_model.proofs.Common.{All-from_recursion, default_profile, content_at, current_block, Slot, zero_gstate, Pair, superblock_pair_address, HasFirstLogEntry, superblock_entry, used_blocks, IsFreshDisk, fresh_pair, superblock_slot, file_slot, Session, DiskSummary, mounted_session, empty_tree, operation_effect, IsStep, creating_flags, large_image, large_fresh_state, state_after_open}
use Rattle.lfs_model.specs.format.Crc.{crc_of, checksum_after_bits}
use Rattle.lfs_model.specs.format.Log.{chain_of, bounded_commit_sequence, bounded_commit_at, entry_at, closes}
use Rattle.lfs_model.specs.session.Operations as ops
use Rattle.lfs_model.specs.examples.Runs.{image_after_open}
use Rattle.lfs_model.proofs.Files.{SameFileBlocks}
use Rattle.lfs_model.proofs.Sites.{Site}
use Rattle.lfs_model.proofs.Fresh.{accepted, shows, writable}
use Rattle.lfs_model.proofs.OnePair.{one_more_fits}
use Rattle.lfs_model.proofs.Committed.{IsCommit, CompletesOperation}
use Rattle.lfs_model.proofs.OneCommit.{create_completed}
use Rattle.lfs_model.proofs.Arranged.{finished_settled}
use Rattle.lfs_model.proofs.StepsMade.{IsOver, IsProper, completed_step, idle_step}

abbrev pub op : ops.Operation
op = ops.Open (codes "/b") creating_flags

abbrev pub around : DiskSummary
around = record { writable = true; profile = default_profile; block_size = 4096; page = 256; block_count = 16; used = 0 ∷ 1 ∷ []; gstate = zero_gstate }

abbrev superblock : Slot
superblock = superblock_slot default_profile 4096 16

abbrev pub pair : Pair
pair = fresh_pair large_image

abbrev file : Slot
file = file_slot (codes "b")

abbrev pub next : Pair
next = record { at = superblock_pair_address; content = record { slots = superblock ∷ file ∷ []; tail = None; move = zero_gstate } }

abbrev site : Site
site = record { chain = []; before = []; left = []; right = []; after = [] }

pub fresh : IsFreshDisk large_image
unfolding chain_of bounded_commit_sequence bounded_commit_at entry_at closes crc_of checksum_after_bits
fresh = record {
  geometry = record { power = refl; pages = omega arith; no_smaller = omega arith; no_larger = omega arith; whole_pages = refl; no_fewer = omega arith; no_more = omega arith; bytes = omega arith };
  content = refl;
  first = refl;
}

pub holds : content_at image_after_open superblock_pair_address ≡ Some next.content
unfolding chain_of bounded_commit_sequence bounded_commit_at entry_at closes crc_of checksum_after_bits
holds = refl

pub begins : HasFirstLogEntry (current_block image_after_open superblock_pair_address) superblock_entry
unfolding chain_of bounded_commit_sequence bounded_commit_at entry_at closes crc_of checksum_after_bits
begins = refl

distinct : IsDistinct nat_eq (([] ++ []) ++ used_blocks large_image (pair ∷ []))
unfolding IsDistinct
distinct = ((refl, tt), (tt, tt))

pub commit : IsCommit large_image image_after_open site pair next [] [] (superblock ∷ []) [] (file ∷ []) []
commit = record {
  accepted = accepted large_image fresh;
  writable = writable large_image fresh;
  settled = refl;
  still = refl;
  site = record { chain = refl; ends = tt; run = refl };
  device = record {
    geometry = record { block_size = refl; page = refl; order = refl; profile = refl; count = refl };
    contents = All-from_recursion (λ r. content_at image_after_open r.at ≡ Some r.content) (next ∷ []) (holds, tt);
    first = begins;
    files = All-from_recursion (λ s. SameFileBlocks large_image image_after_open s.struct) (superblock ∷ []) (tt, tt);
  };
  free = record { distinct = distinct; in_range = λ k d l. absurd (omega arith) };
  at = refl;
  was = refl;
  is = refl;
  became = (refl, one_more_fits large_image (fresh_pair large_image) (superblock ∷ []) [] file refl (omega arith) (omega arith));
  splice = record { front = λ e. absurd (cc); entries = (record { name = refl; struct = tt }, tt); lists = (tt, tt); blocks = λ b. omega arith };
  fit = (((λ e. absurd (cc)), (λ e. record { charge = omega arith; inline = omega arith })), tt);
}

pub completed : CompletesOperation large_image (pair ∷ []) (mounted_session empty_tree) op image_after_open (next ∷ [])
completed = create_completed large_image image_after_open site pair next [] (superblock ∷ []) [] (codes "b") commit [] superblock_pair_address refl refl
    (record { within = omega arith; below = λ j d l. absurd (omega arith); above = λ j d l m. absurd (omega arith) })
    (mounted_session empty_tree) (codes "/b") creating_flags (sym (shows large_image)) refl refl

pub over : IsOver large_image (pair ∷ []) (mounted_session empty_tree) around
over = record {
  accepted = accepted large_image fresh;
  surrounds = record { profile = refl; block_size = refl; page = refl; block_count = refl; used = refl; gstate = refl; writable = ((λ e. writable large_image fresh), λ w. refl) };
  tree = sym (shows large_image);
}

proper : IsProper large_image (pair ∷ []) (mounted_session empty_tree) op state_after_open.calls image_after_open
proper = record {
  geometry = record { block_size = refl; page = refl; order = refl; profile = refl; count = refl };
  other = refl;
  asks = refl;
  fills = refl;
  opens = λ e. absurd (cc);
  silent = λ e. absurd (cc);
  itself = λ e. absurd (cc);
  nothing_left = λ e. absurd (cc);
}

pub turn : IsStep large_fresh_state op (ops.Opened 0) state_after_open
turn = completed_step large_image (pair ∷ []) (mounted_session empty_tree) around op image_after_open (next ∷ []) state_after_open.calls [] over refl proper
    (finished_settled large_image (pair ∷ []) (mounted_session empty_tree) op image_after_open (next ∷ []) commit.accepted commit.writable refl completed)

-- ---- the open file is clean, so a sync finds nothing to do

abbrev pub opened : Session
opened = (operation_effect around (mounted_session empty_tree) op).1

pub opened_over : IsOver image_after_open (next ∷ []) opened around
opened_over = record {
  accepted = completed.accepted;
  surrounds = record { profile = refl; block_size = refl; page = refl; block_count = refl; used = refl; gstate = refl; writable = ((λ e. completed.writable), λ w. refl) };
  tree = sym (completed.tree around);
}

pub sync_step : IsStep state_after_open (ops.Sync 0) ops.Done state_after_open
sync_step = idle_step image_after_open (next ∷ []) opened around (ops.Sync 0) [] state_after_open.calls opened_over refl refl refl refl refl (refl, refl) (λ e. refl)

-- A file is written, synced, closed, renamed and removed: each step, and what a commit is in it.
use Rattle.std.proofs.Common.{ℕ, zero, suc, ◌≡◌, ◌<◌, List, [], ◌∷◌, ◌++◌, Option, Some, None, get_or, refl, sym, ap, arith, ◌∙◌, Less}
use Rattle.std.specs.Prelude.{codes, nat_eq}
use Rattle.std.specs.List.{IsDistinct}
use Rattle.lfs_model.proofs.Common.{All-from_recursion, Disk, content_at, current_block, default_profile, zero_gstate, Slot, Inline, Pair, superblock_pair_address, HasFirstLogEntry, superblock_entry, used_blocks, superblock_slot, file_slot, IsStep, state_after_open, IsAccepted, Healthy, Path, Tree, disk_tree, block_count}
use Rattle.lfs_model.specs.tree.Tree.{Node, FileNode, DirectoryNode}
use Rattle.lfs_model.specs.session.Run.{ShowsTree}
use Rattle.lfs_model.proofs.Uniqueness.{one_thread}
use Rattle.lfs_model.specs.format.Crc.{crc_of, checksum_after_bits}
use Rattle.lfs_model.specs.format.Log.{chain_of, bounded_commit_sequence, bounded_commit_at, entry_at, closes}
use Rattle.lfs_model.specs.format.Names.{name_cmp}
use Rattle.lfs_model.specs.session.Operations as ops
use Rattle.lfs_model.specs.session.Session.{FileWriter}
use Rattle.lfs_model.specs.session.Writers.{opened_writer, writer_after_write}
use Rattle.lfs_model.specs.examples.Runs.{image_after_open}
use Rattle.lfs_model.specs.examples.Sessions.{creating_flags}
use Rattle.lfs_model.specs.examples.Written.{image_after_sync, image_after_rename, image_after_remove, written_session, synced_session, closed_session, renamed_session, removed_session, state_after_write, state_after_sync, state_after_close, state_after_rename, state_after_remove, programming, synced_commit, renamed_commit, removed_commit}
use Rattle.lfs_model.proofs.Files.{SameFileBlocks}
use Rattle.lfs_model.proofs.Names.{IsPlace}
use Rattle.lfs_model.proofs.Sites.{Site}
use Rattle.lfs_model.proofs.Committed.{IsCommit, CompletesOperation}
use Rattle.lfs_model.proofs.OneCommit.{sync_completed, remove_completed}
use Rattle.lfs_model.proofs.RenameSteps.{renamed_behind_completed}
use Rattle.lfs_model.proofs.Arranged.{finished_settled}
use Rattle.lfs_model.proofs.StepsMade.{IsOver, completed_step, filled_step, idle_step}
use Rattle.lfs_model.proofs.OpenedFile.{around, opened_over}
use Rattle.lfs_model.proofs.OpenedFile as before

abbrev pub superblock : Slot
superblock = superblock_slot default_profile 4096 16

abbrev pub named : List ℕ → List ℕ → Slot
named name bytes = record (file_slot name) { struct = Inline bytes }

-- the root's pair with these slots after the superblock
abbrev pub root : List Slot → Pair
root others = record { at = superblock_pair_address; content = record { slots = superblock ∷ others; tail = None; move = zero_gstate } }

abbrev site : Site
site = record { chain = []; before = []; left = []; right = []; after = [] }

-- ---- what each disk holds

abbrev pub Holds : Disk → List Slot → Type 0
Holds disk others = content_at disk superblock_pair_address ≡ Some (root others).content

abbrev Begins : Disk → Type 0
Begins disk = HasFirstLogEntry (current_block disk superblock_pair_address) superblock_entry

pub synced_holds : Holds image_after_sync (named (codes "b") (codes "hi") ∷ [])
unfolding chain_of bounded_commit_sequence bounded_commit_at entry_at closes crc_of checksum_after_bits
synced_holds = refl

pub synced_begins : Begins image_after_sync
unfolding chain_of bounded_commit_sequence bounded_commit_at entry_at closes crc_of checksum_after_bits
synced_begins = refl

pub renamed_holds : Holds image_after_rename (named (codes "c") (codes "hi") ∷ [])
unfolding chain_of bounded_commit_sequence bounded_commit_at entry_at closes crc_of checksum_after_bits
renamed_holds = refl

renamed_begins : Begins image_after_rename
unfolding chain_of bounded_commit_sequence bounded_commit_at entry_at closes crc_of checksum_after_bits
renamed_begins = refl

pub removed_holds : Holds image_after_remove []
unfolding chain_of bounded_commit_sequence bounded_commit_at entry_at closes crc_of checksum_after_bits
removed_holds = refl

removed_begins : Begins image_after_remove
unfolding chain_of bounded_commit_sequence bounded_commit_at entry_at closes crc_of checksum_after_bits
removed_begins = refl

distinct : (disk : Disk) (name bytes : List ℕ) → IsDistinct nat_eq (([] ++ []) ++ used_blocks disk (root (named name bytes ∷ []) ∷ []))
unfolding IsDistinct
distinct disk name bytes = ((refl, tt), (tt, tt))

-- ---- a write stays in memory

pub write_step : IsStep state_after_open (ops.Write 0 (codes "hi")) (ops.Count 2) state_after_write
write_step = filled_step image_after_open (before.next ∷ []) before.opened around (ops.Write 0 (codes "hi")) image_after_open (before.next ∷ []) [] state_after_open.calls opened_over
    refl refl refl (record { block_size = refl; page = refl; order = refl; profile = refl; count = refl }) before.completed.accepted refl refl before.completed.recovered (λ h. h)

-- ---- a sync

abbrev pub synced : Pair
synced = root (named (codes "b") (codes "hi") ∷ [])

pub sync_commit : IsCommit image_after_open image_after_sync site before.next synced [] [] (superblock ∷ []) (file_slot (codes "b") ∷ []) (named (codes "b") (codes "hi") ∷ []) []
sync_commit = record {
  accepted = before.completed.accepted;
  writable = before.completed.writable;
  settled = refl;
  still = refl;
  site = record { chain = refl; ends = tt; run = refl };
  device = record {
    geometry = record { block_size = refl; page = refl; order = refl; profile = refl; count = refl };
    contents = All-from_recursion (λ r. content_at image_after_sync r.at ≡ Some r.content) (synced ∷ []) (synced_holds, tt);
    first = synced_begins;
    files = All-from_recursion (λ s. SameFileBlocks image_after_open image_after_sync s.struct) (superblock ∷ file_slot (codes "b") ∷ []) (tt, (tt, tt));
  };
  free = record { distinct = distinct image_after_open (codes "b") []; in_range = λ k d l. absurd (omega arith) };
  at = refl;
  was = refl;
  is = refl;
  became = (refl, record { size = omega arith; count = omega arith });
  splice = record { front = λ e. absurd (cc); entries = (record { name = refl; struct = tt }, tt); lists = (tt, tt); blocks = λ b. omega arith };
  fit = (((λ e. absurd (cc)), (λ e. record { charge = omega arith; inline = omega arith })), tt);
}

abbrev writer : FileWriter
writer = writer_after_write (opened_writer (codes "b" ∷ []) creating_flags []) (codes "hi")

pub synced_completed : CompletesOperation image_after_open (before.next ∷ []) written_session (ops.Sync 0) image_after_sync (synced ∷ [])
synced_completed = sync_completed image_after_open image_after_sync site before.next synced [] [] (superblock ∷ []) [] (file_slot (codes "b")) (named (codes "b") (codes "hi")) sync_commit refl
    [] superblock_pair_address refl refl written_session (sym (before.completed.tree around)) writer refl refl refl refl (refl, omega arith) 0 refl

pub written_over : IsOver image_after_open (before.next ∷ []) written_session around
written_over = record { accepted = opened_over.accepted; surrounds = opened_over.surrounds; tree = opened_over.tree }

pub sync_step : IsStep state_after_write (ops.Sync 0) ops.Done state_after_sync
sync_step = completed_step image_after_open (before.next ∷ []) written_session around (ops.Sync 0) image_after_sync (synced ∷ []) (programming 512 synced_commit image_after_open image_after_sync ∷ []) state_after_open.calls
    written_over refl (record {
      geometry = record { block_size = refl; page = refl; order = refl; profile = refl; count = refl };
      other = refl;
      asks = refl;
      fills = refl;
      opens = λ e. absurd (cc);
      silent = λ e. absurd (cc);
      itself = λ e. absurd (cc);
      nothing_left = λ e. absurd (cc);
    })
    (finished_settled image_after_open (before.next ∷ []) written_session (ops.Sync 0) image_after_sync (synced ∷ []) before.completed.accepted before.completed.writable refl synced_completed)

-- ---- a close of the clean file

synced_over : IsOver image_after_sync (synced ∷ []) synced_session around
synced_over = record {
  accepted = synced_completed.accepted;
  surrounds = record { profile = refl; block_size = refl; page = refl; block_count = refl; used = refl; gstate = refl; writable = ((λ e. synced_completed.writable), λ w. refl) };
  tree = sym (synced_completed.tree around);
}

pub close_step : IsStep state_after_sync (ops.Close 0) ops.Done state_after_close
close_step = idle_step image_after_sync (synced ∷ []) synced_session around (ops.Close 0) [] state_after_sync.calls synced_over refl refl refl refl refl (refl, refl) (λ e. refl)

pub closed_over : IsOver image_after_sync (synced ∷ []) closed_session around
closed_over = record { accepted = synced_over.accepted; surrounds = synced_over.surrounds; tree = synced_over.tree }

-- ---- a rename

abbrev renamed : Pair
renamed = root (named (codes "c") (codes "hi") ∷ [])

rename_commit : IsCommit image_after_sync image_after_rename site synced renamed [] [] (superblock ∷ []) (named (codes "b") (codes "hi") ∷ []) (named (codes "c") (codes "hi") ∷ []) []
rename_commit = record {
  accepted = synced_completed.accepted;
  writable = synced_completed.writable;
  settled = refl;
  still = refl;
  site = record { chain = refl; ends = tt; run = refl };
  device = record {
    geometry = record { block_size = refl; page = refl; order = refl; profile = refl; count = refl };
    contents = All-from_recursion (λ r. content_at image_after_rename r.at ≡ Some r.content) (renamed ∷ []) (renamed_holds, tt);
    first = renamed_begins;
    files = All-from_recursion (λ s. SameFileBlocks image_after_sync image_after_rename s.struct) (superblock ∷ named (codes "b") (codes "hi") ∷ []) (tt, (tt, tt));
  };
  free = record { distinct = distinct image_after_sync (codes "b") (codes "hi"); in_range = λ k d l. absurd (omega arith) };
  at = refl;
  was = refl;
  is = refl;
  became = (refl, record { size = omega arith; count = omega arith });
  splice = record { front = λ e. absurd (cc); entries = (record { name = refl; struct = tt }, tt); lists = (tt, tt); blocks = λ b. omega arith };
  fit = (((λ e. absurd (cc)), (λ e. record { charge = omega arith; inline = omega arith })), tt);
}

-- `c` comes behind `b`
behind : IsPlace image_after_sync.order (named (codes "b") (codes "hi") ∷ []) 1 (codes "c")
behind = record { within = omega arith; below = below; above = λ j d low high. absurd (omega arith) }
  where
    below : (j : ℕ) (d : Slot) → j < 1 → name_cmp image_after_sync.order (get_or (named (codes "b") (codes "hi") ∷ []) j d).name (codes "c") ≡ Less
    below zero d l = refl
    below (suc j) d l = absurd (omega arith)

pub renamed_completed : CompletesOperation image_after_sync (synced ∷ []) closed_session (ops.Rename (codes "/b") (codes "/c")) image_after_rename (renamed ∷ [])
renamed_completed = renamed_behind_completed image_after_sync image_after_rename site synced renamed [] (superblock ∷ []) (named (codes "b") (codes "hi")) [] [] (codes "c") rename_commit refl
    [] superblock_pair_address refl refl behind closed_session (codes "/b") (codes "/c") closed_over.tree refl refl

pub rename_step : IsStep state_after_close (ops.Rename (codes "/b") (codes "/c")) ops.Done state_after_rename
rename_step = completed_step image_after_sync (synced ∷ []) closed_session around (ops.Rename (codes "/b") (codes "/c")) image_after_rename (renamed ∷ []) (programming 768 renamed_commit image_after_sync image_after_rename ∷ []) state_after_sync.calls
    closed_over refl (record {
      geometry = record { block_size = refl; page = refl; order = refl; profile = refl; count = refl };
      other = refl;
      asks = refl;
      fills = refl;
      opens = λ e. absurd (cc);
      silent = λ e. absurd (cc);
      itself = λ e. absurd (cc);
      nothing_left = λ e. absurd (cc);
    })
    (finished_settled image_after_sync (synced ∷ []) closed_session (ops.Rename (codes "/b") (codes "/c")) image_after_rename (renamed ∷ []) synced_completed.accepted synced_completed.writable refl renamed_completed)

-- ---- a remove

abbrev removed : Pair
removed = root []

remove_commit : IsCommit image_after_rename image_after_remove site renamed removed [] [] (superblock ∷ []) (named (codes "c") (codes "hi") ∷ []) [] []
remove_commit = record {
  accepted = renamed_completed.accepted;
  writable = renamed_completed.writable;
  settled = refl;
  still = refl;
  site = record { chain = refl; ends = tt; run = refl };
  device = record {
    geometry = record { block_size = refl; page = refl; order = refl; profile = refl; count = refl };
    contents = All-from_recursion (λ r. content_at image_after_remove r.at ≡ Some r.content) (removed ∷ []) (removed_holds, tt);
    first = removed_begins;
    files = All-from_recursion (λ s. SameFileBlocks image_after_rename image_after_remove s.struct) (superblock ∷ named (codes "c") (codes "hi") ∷ []) (tt, (tt, tt));
  };
  free = record { distinct = distinct image_after_rename (codes "c") (codes "hi"); in_range = λ k d l. absurd (omega arith) };
  at = refl;
  was = refl;
  is = refl;
  became = (refl, record { size = omega arith; count = omega arith });
  splice = record { front = λ e. absurd (cc); entries = tt; lists = tt; blocks = λ b. omega arith };
  fit = tt;
}

renamed_over : IsOver image_after_rename (renamed ∷ []) renamed_session around
renamed_over = record {
  accepted = renamed_completed.accepted;
  surrounds = record { profile = refl; block_size = refl; page = refl; block_count = refl; used = refl; gstate = refl; writable = ((λ e. renamed_completed.writable), λ w. refl) };
  tree = sym (renamed_completed.tree around);
}

pub removed_completed : CompletesOperation image_after_rename (renamed ∷ []) renamed_session (ops.Remove (codes "/c")) image_after_remove (removed ∷ [])
removed_completed = remove_completed image_after_rename image_after_remove site renamed removed [] (superblock ∷ []) [] (named (codes "c") (codes "hi")) remove_commit refl refl
    [] superblock_pair_address refl refl renamed_session (codes "/c") renamed_over.tree refl (λ e. absurd (cc))

pub remove_step : IsStep state_after_rename (ops.Remove (codes "/c")) ops.Done state_after_remove
remove_step = completed_step image_after_rename (renamed ∷ []) renamed_session around (ops.Remove (codes "/c")) image_after_remove (removed ∷ []) (programming 1024 removed_commit image_after_rename image_after_remove ∷ []) state_after_rename.calls
    renamed_over refl (record {
      geometry = record { block_size = refl; page = refl; order = refl; profile = refl; count = refl };
      other = refl;
      asks = refl;
      fills = refl;
      opens = λ e. absurd (cc);
      silent = λ e. absurd (cc);
      itself = λ e. absurd (cc);
      nothing_left = λ e. absurd (cc);
    })
    (finished_settled image_after_rename (renamed ∷ []) renamed_session (ops.Remove (codes "/c")) image_after_remove (removed ∷ []) renamed_completed.accepted renamed_completed.writable refl removed_completed)

-- ---- what the disks show: no two of them the same

-- the bytes of the file, and a number that no file has where there is none
abbrev bytes_or : Option Node → List ℕ
bytes_or (Some (FileNode attributes bytes)) = bytes
bytes_or (Some (DirectoryNode attributes names)) = 1 ∷ []
bytes_or None = 1 ∷ []

shown_at : (disk : Disk) (ps : List Pair) (tree : Tree) (path : Path) → IsAccepted disk ps → ShowsTree disk (Some tree) → bytes_or (tree path) ≡ bytes_or (disk_tree disk ps path)
shown_at disk ps tree path ok shown = ap (λ (t : Tree). bytes_or (t path)) (shown.1.1 ∙ ap (disk_tree disk) (one_thread (content_at disk) (block_count disk) shown.0 ps shown.1.0.thread ok.thread))

pub write_unseen : IsStep state_after_open (ops.Write 0 (codes "hi")) (ops.Count 2) (record state_after_write { disk = image_after_sync; calls = state_after_sync.calls }) → ⊥
write_unseen h = absurd (let k = shown_at image_after_sync (synced ∷ []) written_session.tree (codes "b" ∷ []) synced_completed.accepted h.agrees ∙ ap (λ (t : Tree). bytes_or (t (codes "b" ∷ []))) (synced_completed.tree around) in cc)

pub sync_seen : IsStep state_after_write (ops.Sync 0) ops.Done (record state_after_write { state = Healthy synced_session }) → ⊥
sync_seen h = absurd (let k = shown_at image_after_open (before.next ∷ []) synced_session.tree (codes "b" ∷ []) before.completed.accepted h.agrees ∙ ap (λ (t : Tree). bytes_or (t (codes "b" ∷ []))) (before.completed.tree around) in cc)

pub rename_seen : IsStep state_after_close (ops.Rename (codes "/b") (codes "/c")) ops.Done (record state_after_close { state = Healthy renamed_session }) → ⊥
rename_seen h = absurd (let k = shown_at image_after_sync (synced ∷ []) renamed_session.tree (codes "c" ∷ []) synced_completed.accepted h.agrees ∙ ap (λ (t : Tree). bytes_or (t (codes "c" ∷ []))) (synced_completed.tree around) in cc)

pub remove_seen : IsStep state_after_rename (ops.Remove (codes "/c")) ops.Done (record state_after_rename { state = Healthy removed_session }) → ⊥
remove_seen h = absurd (let k = shown_at image_after_rename (renamed ∷ []) removed_session.tree (codes "c" ∷ []) renamed_completed.accepted h.agrees ∙ ap (λ (t : Tree). bytes_or (t (codes "c" ∷ []))) (renamed_completed.tree around) in cc)

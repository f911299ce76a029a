-- Operations that find nothing to do on the disk with a file `b`, and what would be too much of them.
use Rattle.std.proofs.Common.{ℕ, ◌≡◌, List, [], ◌∷◌, length, Option, Some, None, refl, sym, ap, ◌∙◌}
use Rattle.std.specs.Prelude.{codes}
use Rattle.lfs_model.proofs.Common.{Disk, content_at, superblock_pair_address, Gstate, Slot, Struct, Inline, entry_named, Pair, PairContent, IsRecovered, IsLayoutAfterOperation, IsStep}
use Rattle.lfs_model.specs.session.Operations as ops
use Rattle.lfs_model.specs.examples.Sessions.{write_flags}
use Rattle.lfs_model.specs.examples.Runs.{root_and_unreached_pair}
use Rattle.lfs_model.specs.examples.Written.{image_after_sync, image_after_rename, closed_session, state_after_sync, state_after_close, state_after_reopen}
use Rattle.lfs_model.proofs.Arranged.{IsFinished, arranged_settled, recovered_stays}
use Rattle.lfs_model.proofs.StepsMade.{completed_step, idle_step}
use Rattle.lfs_model.proofs.OpenedFile.{around}
use Rattle.lfs_model.proofs.WrittenFile.{synced, synced_completed, closed_over, synced_holds, renamed_holds}

-- ---- steps

settled : IsLayoutAfterOperation image_after_sync (synced ∷ []) closed_session ops.Recover image_after_sync (synced ∷ [])
settled = recovered_stays image_after_sync (synced ∷ []) closed_session synced_completed.accepted synced_completed.writable refl

recover_finished : IsFinished image_after_sync (synced ∷ []) closed_session ops.Recover image_after_sync (synced ∷ [])
recover_finished = record {
  accepted = synced_completed.accepted;
  writable = synced_completed.writable;
  recovered = synced_completed.recovered;
  tree = λ around. sym closed_over.tree;
  arranged = arranged_settled image_after_sync (synced ∷ []) closed_session ops.Recover image_after_sync (synced ∷ []) synced_completed.accepted synced_completed.writable refl settled;
}

pub recover_step : IsStep state_after_close ops.Recover ops.Done state_after_close
recover_step = completed_step image_after_sync (synced ∷ []) closed_session around ops.Recover image_after_sync (synced ∷ []) [] state_after_sync.calls closed_over refl (record {
  geometry = record { block_size = refl; page = refl; order = refl; profile = refl; count = refl };
  other = refl;
  asks = refl;
  fills = refl;
  opens = λ e. absurd (cc);
  silent = λ e. absurd (cc);
  itself = λ e. absurd (cc);
  nothing_left = λ e h. (refl, (refl, refl));
})
    recover_finished

-- the file is there, so no slot comes
open_laid_out : IsLayoutAfterOperation image_after_sync (synced ∷ []) closed_session (ops.Open (codes "/b") write_flags) image_after_sync (synced ∷ [])
open_laid_out = record {
  drafts = settled.drafts;
  parts = settled.parts;
  front = settled.front;
  fresh = settled.fresh;
  back = settled.back;
  edits = settled.edits;
  stand = settled.stand;
  joined = settled.joined;
  is = settled.is;
}

open_finished : IsFinished image_after_sync (synced ∷ []) closed_session (ops.Open (codes "/b") write_flags) image_after_sync (synced ∷ [])
open_finished = record {
  accepted = synced_completed.accepted;
  writable = synced_completed.writable;
  recovered = synced_completed.recovered;
  tree = λ around. sym closed_over.tree;
  arranged = arranged_settled image_after_sync (synced ∷ []) closed_session (ops.Open (codes "/b") write_flags) image_after_sync (synced ∷ []) synced_completed.accepted synced_completed.writable refl open_laid_out;
}

pub open_step : IsStep state_after_close (ops.Open (codes "/b") write_flags) (ops.Opened 0) state_after_reopen
open_step = completed_step image_after_sync (synced ∷ []) closed_session around (ops.Open (codes "/b") write_flags) image_after_sync (synced ∷ []) [] state_after_sync.calls closed_over refl (record {
  geometry = record { block_size = refl; page = refl; order = refl; profile = refl; count = refl };
  other = refl;
  asks = refl;
  fills = refl;
  opens = λ e f. refl;
  silent = λ e. absurd (cc);
  itself = λ e. absurd (cc);
  nothing_left = λ e. absurd (cc);
})
    open_finished

pub itself_step : IsStep state_after_close (ops.Rename (codes "/b") (codes "/b")) ops.Done state_after_close
itself_step = idle_step image_after_sync (synced ∷ []) closed_session around (ops.Rename (codes "/b") (codes "/b")) [] state_after_sync.calls closed_over refl refl refl refl refl (refl, refl) (λ e. refl)

-- ---- what is refused

-- how many bytes the file `b` has among these slots; 9 where it isn't there
abbrev pub size_among : List Slot → ℕ
size_among slots = of (entry_named (codes "b") slots)
  where
    of_struct : Struct → ℕ
    of_struct (Inline bytes) = length bytes
    of_struct _ = 9

    of : Option Slot → ℕ
    of None = 9
    of (Some s) = of_struct s.struct

abbrev pub size_in : Option PairContent → ℕ
size_in None = 9
size_in (Some c) = size_among c.slots

abbrev pub size_of_pairs : List Pair → ℕ
size_of_pairs [] = 9
size_of_pairs (p ∷ ps) = size_among p.content.slots

pub other_disk : image_after_rename ≡ image_after_sync → ⊥
other_disk e = absurd (let k : 9 ≡ 2 = sym (ap size_in renamed_holds) ∙ ap (λ (d : Disk). size_in (content_at d superblock_pair_address)) e ∙ ap size_in synced_holds in cc)

pub left_unreached : IsRecovered root_and_unreached_pair → ⊥
left_unreached h = let e = ap (λ (g : Gstate). g.sync) h.gstate in absurd (cc)

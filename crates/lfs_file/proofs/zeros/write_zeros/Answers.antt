use Rattle.std.proofs.Common.{rules, ℕ, ◌≡◌, ◌+◌, ◌≤◌, List, length, take, replicate, refl, sym, ap, ◌∙◌, subst, arith}
use Rattle.lfs_file.proofs.Common.{length-replicate, err_from_is_err_and, written_contents, growing_size, CanEndUnfinished, AreZerosWritten, unfinished_bytes}
use Rattle.std.proofs.lemmas.List.{take-replicate}
use Rattle.lfs_device.specs.declared.geometry.Geometry.{Geometry}
use Rattle.lfs_file.specs.HandWrites.{IsUnfinishedList}
use Rattle.lfs_file.proofs.Owning.{list_same, list_then}
use Rattle.lfs_file.proofs.ContentsCalled.{not_read, quiet, reported_as, reported_on, used_on, used_reads}
use Rattle.lfs_file.proofs.Flights.{in_hand, more_zeros, part_fits, shaped, wrote_none}
use Rattle.lfs_file.proofs.Spared.{KeepsUsedBlocks-refl, KeepsUsedBlocks-trans}
use Rattle.lfs_file.proofs.zeros.write_zeros.Goals as goal

pub zeroing-init : goal.zeroing-init
zeroing-init g c =
    let d = g.D.BlockDevice.blocks c.args.dev.now in
    let hand = c.args.hand.now in
    let begun = c.requires.begun in
    let geometry : Geometry = hand.list.geometry in
    let long = in_hand d geometry.block_size (g.D.BlockDevice.geometry c.args.dev.now).block_count hand.list hand.base geometry.valid.no_smaller (shaped d _ _ begun.geometry (g.met.D.BlockDevice.shape c.args.dev.now)) begun.begun.growing in
    record {
      few = omega arith;
      zeroed = record {
        at = record { begun = begun; size = omega arith; bytes = wrote_none (unfinished_bytes d hand) (growing_size hand.list) long };
        going = λ some. absurd (omega arith);
      };
      base = list_same _ _ _;
      map = KeepsUsedBlocks-refl c.args.map.now;
      device = used_reads g.D.BlockDevice c.args.map.now (not_read g.D.BlockDevice c.args.dev.now);
      quiet = refl;
    }

pub append_to_draft-requires : goal.append_to_draft-requires
append_to_draft-requires g c = record {
  begun =
      let inv = c.zeroing.invariant in
      subst (λ (k : Geometry). IsUnfinishedList c.zeroing.map (g.D.BlockDevice.blocks c.zeroing.dev) k c.zeroing.hand) (sym inv.device.geometry) inv.zeroed.at.begun;
  some = search rules;
  small = search rules;
  room =
      let inv = c.zeroing.invariant in
      let n : ℕ = c.min-part.result in
      let few : n ≤ 512 = (let m = c.min-part.ensures in omega arith) in
      let zeros : List ℕ = take n (replicate 512 0) in
      let part : length zeros ≡ n = ap length (take-replicate n 512 0 few) ∙ length-replicate {A = ℕ} n 0 in
      let m = c.min-part.ensures in
      let test = c.zeroing-test.true in
      let size = inv.zeroed.at.size in
      part_fits (g.D.BlockDevice.geometry c.args.dev.now) (g.D.BlockDevice.geometry c.zeroing.dev) c.zeroing.hand.base c.args.hand.now.base _ _ _ _
      (growing_size c.zeroing.hand.list + length zeros) (growing_size c.args.hand.now.list + c.args.count) inv.device.geometry inv.base.same (omega arith) inv.map.used inv.map.count c.requires.room;
}

pub returns-in_err-append_to_draft-clause-device : goal.returns-in_err-append_to_draft-clause-device
returns-in_err-append_to_draft-clause-device g c = used_on g.D.BlockDevice c.zeroing.invariant.map c.zeroing.invariant.device c.append_to_draft.ensures.device

pub zeroing-preserved : goal.zeroing-preserved
zeroing-preserved g c =
    let inv = c.zeroing.invariant in
    let d = g.D.BlockDevice.blocks c.args.dev.now in
    let hand = c.args.hand.now in
    let begun = c.requires.begun in
    let geometry : Geometry = hand.list.geometry in
    let n : ℕ = c.min-part.result in
    let few : n ≤ 512 = (let m = c.min-part.ensures in omega arith) in
    let zeros : List ℕ = take n (replicate 512 0) in
    let part : zeros ≡ replicate n 0 = take-replicate n 512 0 few in
    let long = in_hand d geometry.block_size (g.D.BlockDevice.geometry c.args.dev.now).block_count hand.list hand.base geometry.valid.no_smaller (shaped d _ _ begun.geometry (g.met.D.BlockDevice.shape c.args.dev.now)) begun.begun.growing in
    let m = c.min-part.ensures in
    let test = c.zeroing-test.true in
    let wrote = c.in_ok-append_to_draft.ensures.written in
    let size = inv.zeroed.at.size in
    let sum = wrote.size in
    let len : length zeros ≡ n = ap length part ∙ length-replicate {A = ℕ} n 0 in
    let going = subst (λ (k : Geometry). CanEndUnfinished c.append_to_draft.new.map (g.D.BlockDevice.blocks c.append_to_draft.new.dev) k c.append_to_draft.new.hand) inv.device.geometry wrote.going in
    record {
      few = omega arith;
      zeroed = record {
        at = record {
          begun = record { geometry = going.geometry; begun = going.list.begun };
          size = omega arith;
          bytes = more_zeros (unfinished_bytes d hand) _ _ zeros (growing_size hand.list) _ c.zeroing.done n long inv.zeroed.at.bytes inv.zeroed.at.size part wrote.bytes;
        };
        going = λ some. going;
      };
      base = list_then _ _ _ _ _ _ _ _ inv.device.geometry inv.base c.append_to_draft.ensures.base;
      map = KeepsUsedBlocks-trans inv.map c.append_to_draft.ensures.map;
      device = used_on g.D.BlockDevice inv.map inv.device c.append_to_draft.ensures.device;
      quiet = quiet g.D.BlockDevice c.in_ok-append_to_draft.ensures.reports.faults ∙ inv.quiet;
    }

pub returns-in_err-append_to_draft-clause-reports : goal.returns-in_err-append_to_draft-clause-reports
returns-in_err-append_to_draft-clause-reports g c =
    let p = err_from_is_err_and c.from_residual.result c.from_residual.ensures.1 in
    rw (p.1, p.2) (record { faults = reported_on g.D.BlockDevice c.zeroing.invariant.quiet (reported_as g.D.BlockDevice c.in_err-append_to_draft.ensures.reports.faults); errors = c.in_err-append_to_draft.ensures.reports.errors })

pub returns-clause-zeroed : goal.returns-clause-zeroed
returns-clause-zeroed g c =
    let inv = c.zeroing.invariant in
    let hand = c.args.hand.now in
    let all : c.zeroing.done ≡ c.args.count = (let few = inv.few in let test = c.zeroing-test.false in omega arith) in
    subst (λ n. AreZerosWritten c.zeroing.map (g.D.BlockDevice.blocks c.zeroing.dev) (g.D.BlockDevice.geometry c.args.dev.now) c.zeroing.hand n (growing_size hand.list + n)
    (written_contents (unfinished_bytes (g.D.BlockDevice.blocks c.args.dev.now) hand) (growing_size hand.list) (replicate n 0))) all inv.zeroed

pub returns-in_err-append_to_draft-clause-base : goal.returns-in_err-append_to_draft-clause-base
returns-in_err-append_to_draft-clause-base g c = list_then _ _ _ _ _ _ _ _ c.zeroing.invariant.device.geometry c.zeroing.invariant.base c.append_to_draft.ensures.base

pub returns-in_err-append_to_draft-clause-map : goal.returns-in_err-append_to_draft-clause-map
returns-in_err-append_to_draft-clause-map g c = KeepsUsedBlocks-trans c.zeroing.invariant.map c.append_to_draft.ensures.map

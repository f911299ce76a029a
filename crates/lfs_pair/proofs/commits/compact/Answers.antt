use Rattle.lfs_pair.proofs.Common.{block_bytes, IsWrittenAnew, disk_of_blocks, content_view, KeepsFirstEntry, HoldsAtLosses-weaker, header_address}
use Rattle.std.proofs.Common.{rules, ℕ, ◌+◌, ◌%◌, ◌^◌, refl, sym, ◌∙◌, subst, arith}
use Rattle.std.proofs.Common.{Some}
use Rattle.lfs_pair.proofs.TwoBlocks.{other_is, below_count}
use Rattle.lfs_pair.proofs.Calls.{only_block}
use Rattle.lfs_pair.proofs.Changed.{IsIn, is_compacting, compacted, compacted_first, now_holds, left_by_compaction}
use Rattle.lfs_pair.proofs.commits.compact.Goals as goal

pub rewrite_block-requires : goal.rewrite_block-requires
rewrite_block-requires g c = record {
  in_device =
      let ready = is_compacting _ c.args.pair.now c.inactive_block-other.result ((c.args.pair.now.revision + 1) % 2 ^ 32) c.requires.address c.requires.active c.inactive_block-other.ensures (omega arith) refl in
      let below = below_count _ _ c.inactive_block-other.result c.requires.address (other_is _ _ _ _ ready.sides) in
      let count = (g.met.D.BlockDevice.shape c.args.dev.now).count in
      omega (arith, below, count);
  buf = search rules;
  logged = c.requires.logged;
  names = c.requires.names;
  fits = c.requires.fits;
}

pub returns-in_err-written-clause-stops : goal.returns-in_err-written-clause-stops
returns-in_err-written-clause-stops g c cleanly =
    let ready = is_compacting _ c.args.pair.now c.inactive_block-other.result ((c.args.pair.now.revision + 1) % 2 ^ 32) c.requires.address c.requires.active c.inactive_block-other.ensures (omega arith) refl in
    HoldsAtLosses-weaker (λ disk left. left_by_compaction _ _ _ _ _ _ disk ready left) (c.in_err-written.ensures.stops cleanly)

pub returns-clause-done : goal.returns-clause-done
returns-clause-done g c =
    let ready = is_compacting _ c.args.pair.now c.inactive_block-other.result ((c.args.pair.now.revision + 1) % 2 ^ 32) c.requires.address c.requires.active c.inactive_block-other.ensures (omega arith) refl in
    let device = c.in_ok-written.ensures.writes.device in
    let anew = c.in_ok-written.ensures.anew in
    let holds = subst (λ k. IsIn (disk_of_blocks k (g.D.BlockDevice.blocks c.rewrite_block.new.dev)) (header_address c.args.pair.now) c.inactive_block-other.result (content_view c.args.content.now)) (sym device.geometry)
    (compacted _ _ _ _ _ _ (g.D.BlockDevice.blocks c.rewrite_block.new.dev) ready device.others anew.holds) in
    record {
      holds = now_holds _ _ _ c.written.result c.inactive_block-other.result _ holds
          c.written.ensures.blocks c.written.ensures.active c.written.ensures.fetched
          (c.written.ensures.revision ∙ sym anew.holds.revision_is)
          c.written.ensures.ends c.in_ok-written.ensures.written c.written.ensures.sums c.requires.logged;
      first = subst (λ k. KeepsFirstEntry (disk_of_blocks (g.D.BlockDevice.geometry c.args.dev.now) (g.D.BlockDevice.blocks c.args.dev.now)) (header_address c.args.pair.now) (Some (content_view c.args.content.now)) (disk_of_blocks k (g.D.BlockDevice.blocks c.rewrite_block.new.dev)))
          (sym device.geometry)
          (compacted_first _ _ _ _ _ _ (g.D.BlockDevice.blocks c.rewrite_block.new.dev) ready device.others anew.holds);
      compacted = record {
        active = λ same. ready.apart (sym same ∙ c.written.ensures.active);
        anew = subst (λ (b : ℕ). IsWrittenAnew ((c.args.pair.now.revision + 1) % 2 ^ 32) (content_view c.args.content.now) (block_bytes (g.D.BlockDevice.blocks c.rewrite_block.new.dev) b)
            (g.D.BlockDevice.history c.args.dev.now) (g.D.BlockDevice.history c.rewrite_block.new.dev)) (sym c.written.ensures.active) anew;
        end = c.written.ensures.ends.end_is ∙ c.in_ok-written.ensures.size;
        kept = device.others.others c.args.pair.now.active ready.apart;
      };
    }

pub returns-clause-stops : goal.returns-clause-stops
returns-clause-stops g c cleanly =
    let ready = is_compacting _ c.args.pair.now c.inactive_block-other.result ((c.args.pair.now.revision + 1) % 2 ^ 32) c.requires.address c.requires.active c.inactive_block-other.ensures (omega arith) refl in
    HoldsAtLosses-weaker (λ disk left. left_by_compaction _ _ _ _ _ _ disk ready left) (c.in_ok-written.ensures.stops cleanly)

pub returns-in_err-written-clause-writes : goal.returns-in_err-written-clause-writes
returns-in_err-written-clause-writes g c =
    let ready = is_compacting _ c.args.pair.now c.inactive_block-other.result ((c.args.pair.now.revision + 1) % 2 ^ 32) c.requires.address c.requires.active c.inactive_block-other.ensures (omega arith) refl in
    record { device = only_block (header_address c.args.pair.now) (other_is _ _ _ _ ready.sides) c.in_err-written.ensures.writes.device; few = c.in_err-written.ensures.writes.few; errors = search rules; faults = search rules }

pub returns-clause-writes : goal.returns-clause-writes
returns-clause-writes g c =
    let ready = is_compacting _ c.args.pair.now c.inactive_block-other.result ((c.args.pair.now.revision + 1) % 2 ^ 32) c.requires.address c.requires.active c.inactive_block-other.ensures (omega arith) refl in
    record { device = only_block (header_address c.args.pair.now) (other_is _ _ _ _ ready.sides) c.in_ok-written.ensures.writes.device; few = c.in_ok-written.ensures.writes.few; errors = search rules; faults = search rules }

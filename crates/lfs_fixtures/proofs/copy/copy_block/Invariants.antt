use Rattle.std.proofs.Common.{◌≡◌, ◌+◌, ◌*◌, take}
use Rattle.lfs_device.specs.DeviceCalls.{ChangesOneBlock}
use Rattle.lfs_model.specs.format.Blocks.{block_bytes}
use Rattle.lfs_model.specs.session.History.{AreUnprogrammed, erase_count, program_count, fault_count}
use Rattle.lfs_fixtures.proofs.copy.copy_block.Given as goal

-- the pages so far are copied, and the bytes behind them are unprogrammed
abbrev pub invariant-loop-page : goal.invariant-loop-page
invariant-loop-page g l =
    let blocks = g.D.BlockDevice.blocks in
    let history = g.D.BlockDevice.history in
    let old = l.fn.device in
    record {
      device : ChangesOneBlock g.D.BlockDevice l.to old l.device;
      front : take (l.page * l.geometry.page) (block_bytes (blocks l.device) l.to) ≡ take (l.page * l.geometry.page) (block_bytes (blocks old) l.from);
      unprogrammed : AreUnprogrammed (history l.device) l.to (l.page * l.geometry.page) l.geometry.block_size;
      erases : erase_count (history l.device) ≡ erase_count (history old) + 1;
      programs : program_count (history l.device) ≡ program_count (history old) + l.page;
      no_fault : fault_count (history l.device) ≡ fault_count (history old);
    }

use Rattle.std.proofs.Common.{rules, arith, ◌≡◌, false, inl, inr, refl, sym, ap, ◌∙◌}
use Rattle.lfs_pair.proofs.Common.{disk_of_blocks, block_bytes, has_commit, address_of_array, content_view}
use Rattle.lfs_pair.proofs.Changed.{first_in, now_holds}
use Rattle.lfs_pair.proofs.Parted.{clears_more}
use Rattle.lfs_pair.proofs.Calls.{only_block, only_trans}
use Rattle.lfs_pair.proofs.fresh.write_fresh_pair.Goals as goal

pub returns-clause-fresh : goal.returns-clause-fresh
returns-clause-fresh g c = record {
  active = c.written.ensures.active;
  revision_is = c.written.ensures.revision;
  anew = c.in_ok-written.ensures.anew.holds;
  cleared = ap has_commit (c.in_ok-written.ensures.writes.device.others.others (address_of_array c.args.blocks).1 (λ same. c.requires.address.apart (sym same))) ∙ c.in_ok-erase_cleanly.ensures.cleared;
}

pub returns-clause-holds : goal.returns-clause-holds
returns-clause-holds g c =
    let cleared : has_commit (block_bytes (g.D.BlockDevice.blocks c.rewrite_block.new.dev) (address_of_array c.args.blocks).1) ≡ false
    = ap has_commit (c.in_ok-written.ensures.writes.device.others.others (address_of_array c.args.blocks).1 (λ same. c.requires.address.apart (sym same))) ∙ c.in_ok-erase_cleanly.ensures.cleared in
    let holds = first_in (disk_of_blocks (g.D.BlockDevice.geometry c.rewrite_block.new.dev) (g.D.BlockDevice.blocks c.rewrite_block.new.dev)) (address_of_array c.args.blocks) c.args.revision (content_view c.args.content.now) cleared c.in_ok-written.ensures.anew.holds in
    now_holds _ (g.D.BlockDevice.history c.rewrite_block.new.dev) _ c.written.result (address_of_array c.args.blocks).0 _ holds
    c.written.ensures.blocks c.written.ensures.active c.written.ensures.fetched
    (c.written.ensures.revision ∙ sym c.in_ok-written.ensures.anew.holds.revision_is)
    c.written.ensures.ends c.in_ok-written.ensures.written c.written.ensures.sums c.requires.logged

pub returns-in_err-erase_cleanly-clause-writes : goal.returns-in_err-erase_cleanly-clause-writes
returns-in_err-erase_cleanly-clause-writes g c = record {
  device = only_block (address_of_array c.args.blocks) (inr refl) c.erase_cleanly.ensures.writes.device;
  few = let first = c.erase_cleanly.ensures.writes.few in omega (arith, first);
  errors = search rules;
  faults = search rules;
}

pub returns-in_err-written-clause-writes : goal.returns-in_err-written-clause-writes
returns-in_err-written-clause-writes g c = record {
  device = only_trans (only_block (address_of_array c.args.blocks) (inr refl) c.erase_cleanly.ensures.writes.device) (only_block (address_of_array c.args.blocks) (inl refl) c.rewrite_block.ensures.writes.device);
  few = let first = c.erase_cleanly.ensures.writes.few in let second = c.rewrite_block.ensures.writes.few in omega (arith, first, second);
  errors = search rules;
  faults = search rules;
}

pub returns-clause-writes : goal.returns-clause-writes
returns-clause-writes g c = record {
  device = only_trans (only_block (address_of_array c.args.blocks) (inr refl) c.erase_cleanly.ensures.writes.device) (only_block (address_of_array c.args.blocks) (inl refl) c.rewrite_block.ensures.writes.device);
  few = let first = c.erase_cleanly.ensures.writes.few in let second = c.rewrite_block.ensures.writes.few in omega (arith, first, second);
  errors = search rules;
  faults = search rules;
}

pub returns-clause-clears : goal.returns-clause-clears
returns-clause-clears g c = clears_more c.in_ok-erase_cleanly.ensures.writes.device.at_worst c.in_ok-written.ensures.writes.device.at_worst c.in_ok-erase_cleanly.ensures.clears c.in_ok-written.ensures.anew

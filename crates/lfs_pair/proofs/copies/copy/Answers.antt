use Rattle.std.proofs.Common.{rules, arith, ◌∙◌, subst}
use Rattle.lfs_pair.proofs.Common.{disk_of_blocks, RawContent, AreNamed, content_view, changes_view}
use Rattle.lfs_pair.proofs.Behind.{clears_behind}
use Rattle.lfs_pair.proofs.Calls.{few_at_error, few_by_read, reading_by_read, reading_trans}
use Rattle.lfs_pair.proofs.Changed.{active_below, content_made_here, made_here}
use Rattle.lfs_pair.proofs.Erring.{reports_ok}
use Rattle.lfs_pair.proofs.copies.copy.Goals as goal

pub read_block-requires : goal.read_block-requires
read_block-requires g c = active_below _ _ c.args.pair.now c.requires.commit.held _ c.requires.commit.address c.requires.commit.is_pair (g.met.D.BlockDevice.shape c.args.dev.now).count

pub returns-in_err-block-clause-device : goal.returns-in_err-block-clause-device
returns-in_err-block-clause-device g c = reading_by_read c.in_err-block.ensures.device (few_at_error c.in_err-block.ensures.errors c.in_err-block.ensures.once.io c.in_err-block.ensures.once.no_memory) (omega arith)

pub returns-in_err-content-clause-device : goal.returns-in_err-content-clause-device
returns-in_err-content-clause-device g c = reading_by_read c.in_ok-block.ensures.device (few_by_read c.in_ok-block.ensures.once.ok) (omega arith)

pub returns-in_err-buf-clause-device : goal.returns-in_err-buf-clause-device
returns-in_err-buf-clause-device g c = reading_by_read c.in_ok-block.ensures.device (few_by_read c.in_ok-block.ensures.once.ok) (omega arith)

pub write_fresh_pair-requires : goal.write_fresh_pair-requires
write_fresh_pair-requires g c =
    let old = disk_of_blocks (g.D.BlockDevice.geometry c.args.dev.now) (g.D.BlockDevice.blocks c.args.dev.now) in
    let can = c.requires.commit in
    let same = content_made_here old _ c.args.pair.now can.held can.new _ (changes_view c.args.changes.now) (content_view c.in_ok-content.content) can.is_pair (c.deref.ensures.value ∙ c.in_ok-block.ensures.bytes) can.changed c.in_ok-content.ensures.content in
    record {
      address = search rules;
      buf = search rules;
      logged = search rules;
      names = subst (λ (new : RawContent). AreNamed new.slots) same can.names;
      fits = search rules;
    }

pub returns-in_err-copy-clause-device : goal.returns-in_err-copy-clause-device
returns-in_err-copy-clause-device g c =
    let writes = c.in_err-copy.ensures.writes in
    reading_trans (reading_by_read {n = 1} c.in_ok-block.ensures.device (few_by_read c.in_ok-block.ensures.once.ok) (omega arith)) (record { only = writes.device; few = writes.few })

pub returns-clause-device : goal.returns-clause-device
returns-clause-device g c =
    let writes = c.in_ok-copy.ensures.writes in
    reading_trans (reading_by_read {n = 1} c.in_ok-block.ensures.device (few_by_read c.in_ok-block.ensures.once.ok) (omega arith)) (record { only = writes.device; few = writes.few })

pub returns-clause-faults : goal.returns-clause-faults
returns-clause-faults g c = reports_ok (c.in_ok-copy.ensures.writes.faults.no_fault (λ gives. absurd (cc)) ∙ c.in_ok-block.ensures.faults.no_fault (λ gives. absurd (cc)))

pub returns-clause-copied : goal.returns-clause-copied
returns-clause-copied g c =
    let old = disk_of_blocks (g.D.BlockDevice.geometry c.args.dev.now) (g.D.BlockDevice.blocks c.args.dev.now) in
    let can = c.requires.commit in
    let fresh = c.in_ok-copy.ensures in
    record {
      new = content_view c.in_ok-content.content;
      made = made_here old _ c.args.pair.now can.held _ (changes_view c.args.changes.now) _ can.is_pair (c.deref.ensures.value ∙ c.in_ok-block.ensures.bytes) c.in_ok-content.ensures.content;
      holds = fresh.holds;
      fresh_is = fresh.fresh;
      clears = clears_behind c.in_ok-block.ensures.device.reads fresh.writes.device.at_worst fresh.clears;
    }

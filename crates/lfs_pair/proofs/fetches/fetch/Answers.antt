use Rattle.std.proofs.Common.{sym, ap, ◌∙◌, rules, ◌≡◌, true, false}
use Rattle.lfs_pair.proofs.Common.{disk_of_blocks, block_bytes, has_commit, Disk, address_of_array}
use Rattle.lfs_pair.proofs.Calls.{reads_trans}
use Rattle.lfs_pair.proofs.FetchedBlock.{fetches, later_holds, other_holds}
use Rattle.lfs_pair.proofs.fetches.fetch.Goals as goal

pub returns-in_err-bytes-clause-device : goal.returns-in_err-bytes-clause-device
returns-in_err-bytes-clause-device g c = reads_trans c.in_ok-later.ensures.device c.in_err-bytes.ensures.device

pub returns-then-head-clause-device : goal.returns-then-head-clause-device
returns-then-head-clause-device g c = reads_trans c.in_ok-later.ensures.device c.in_ok-bytes.ensures.device

pub returns-in_err-other_bytes-clause-device : goal.returns-in_err-other_bytes-clause-device
returns-in_err-other_bytes-clause-device g c = reads_trans (reads_trans c.in_ok-later.ensures.device c.in_ok-bytes.ensures.device) c.in_err-other_bytes.ensures.device

pub returns-then-not-other_head-clause-device : goal.returns-then-not-other_head-clause-device
returns-then-not-other_head-clause-device g c = reads_trans (reads_trans c.in_ok-later.ensures.device c.in_ok-bytes.ensures.device) c.in_ok-other_bytes.ensures.device

pub returns-clause-device : goal.returns-clause-device
returns-clause-device g c = reads_trans (reads_trans c.in_ok-later.ensures.device c.in_ok-bytes.ensures.device) c.in_ok-other_bytes.ensures.device

pub returns-then-head-clause-ok : goal.returns-then-head-clause-ok
returns-then-head-clause-ok g c =
    let disk : Disk = disk_of_blocks (g.D.BlockDevice.geometry c.args.dev.now) (g.D.BlockDevice.blocks c.args.dev.now) in
    let order = address_of_array c.in_ok-later.field-0 in
    let bytes : c.deref.result.now ≡ block_bytes disk.blocks order.0 = c.deref.ensures.value ∙ c.in_ok-bytes.ensures.bytes ∙ ap (λ b. block_bytes b order.0) c.in_ok-later.ensures.device.same in
    let again : c.deref-then-head.result.now ≡ block_bytes disk.blocks order.0 = c.deref-then-head.ensures.value ∙ c.in_ok-bytes.ensures.bytes ∙ ap (λ b. block_bytes b order.0) c.in_ok-later.ensures.device.same in
    let has : has_commit (block_bytes disk.blocks order.0) ≡ true = sym (ap has_commit bytes) ∙ sym c.of-head.ensures.has_commit ∙ c.if-head.true in
    fetches disk _ c.args.blocks _ order.0 c.fetched_header.result (later_holds disk (address_of_array c.args.blocks) order c.in_ok-later.ensures.later has) again
    c.fetched_header.ensures.describes c.fetched_header.ensures.blocks c.fetched_header.ensures.active c.fetched_header.ensures.fetched

pub returns-clause-ok : goal.returns-clause-ok
returns-clause-ok g c =
    let disk : Disk = disk_of_blocks (g.D.BlockDevice.geometry c.args.dev.now) (g.D.BlockDevice.blocks c.args.dev.now) in
    let order = address_of_array c.in_ok-later.field-0 in
    let bytes : c.deref.result.now ≡ block_bytes disk.blocks order.0 = c.deref.ensures.value ∙ c.in_ok-bytes.ensures.bytes ∙ ap (λ b. block_bytes b order.0) c.in_ok-later.ensures.device.same in
    let none : has_commit (block_bytes disk.blocks order.0) ≡ false = sym (ap has_commit bytes) ∙ sym c.of-head.ensures.has_commit ∙ c.if-head.false in
    let same = c.in_ok-bytes.ensures.device.same ∙ c.in_ok-later.ensures.device.same in
    let other : c.deref-2.result.now ≡ block_bytes disk.blocks order.1 = c.deref-2.ensures.value ∙ c.in_ok-other_bytes.ensures.bytes ∙ ap (λ b. block_bytes b order.1) same in
    let again : c.deref-3.result.now ≡ block_bytes disk.blocks order.1 = c.deref-3.ensures.value ∙ c.in_ok-other_bytes.ensures.bytes ∙ ap (λ b. block_bytes b order.1) same in
    let has_it : c.of-other_head.result.has_commit ≡ true = search rules in
    let has : has_commit (block_bytes disk.blocks order.1) ≡ true = sym (ap has_commit other) ∙ sym c.of-other_head.ensures.has_commit ∙ has_it in
    fetches disk _ c.args.blocks _ order.1 c.fetched_header-2.result (other_holds disk (address_of_array c.args.blocks) order c.in_ok-later.ensures.later none has) again
    c.fetched_header-2.ensures.describes c.fetched_header-2.ensures.blocks c.fetched_header-2.ensures.active c.fetched_header-2.ensures.fetched

use Rattle.std.proofs.Common.{◌∙◌, ◌≡◌, ◌-◌, suc, Err, Some, None, true, false, arith, rules, length, ap, subst, sym, refl}
use Rattle.std.proofs.lemmas.List.{get_or_default}
use Rattle.lfs_mount.proofs.Common.{slice_get_read, err_from_is_err_and, disk_with_order, PairsBreak, PairHeader, disk_of_device, header_pairs}
use Rattle.lfs_device.specs.declared.geometry.Geometry.{Geometry}
use Rattle.lfs_model.specs.declared.violations.Violation.TheVariants as violation
use Rattle.lfs_mount.proofs.Called.{only_read, passed_on, quiet, read_on, same_error}
use Rattle.lfs_mount.proofs.Heads.{active_within, begun, differs, ends, first_breaks, first_struct, found_length, halts, head_is, last_is, more, no_superblock, passes, same_block, step_at, within}
use Rattle.lfs_mount.proofs.InOrders.{first_breaks_in, has_headers_in}
use Rattle.lfs_mount.proofs.superblock_chain.superblock_chain_length.Goals as goal

pub returns-in_default-clause-broken : goal.returns-in_default-clause-broken
returns-in_default-clause-broken g c = λ v is order.
    let disk = disk_of_device g.D.BlockDevice c.args.dev.now in
    let has = has_headers_in order disk (g.D.BlockDevice.history c.args.dev.now) c.args.pairs.now c.requires in
    let which : violation.NoSuperblock ≡ v = cc in
    subst (PairsBreak (disk_with_order order disk) (header_pairs disk c.args.pairs.now)) which
    (no_superblock (disk_with_order order disk) (g.D.BlockDevice.history c.args.dev.now) c.args.pairs.now has (sym c.in_default.ensures.first))

pub read_superblock_struct-requires : goal.read_superblock_struct-requires
read_superblock_struct-requires g c =
    let low = active_within (disk_of_device g.D.BlockDevice c.args.dev.now) (g.D.BlockDevice.history c.args.dev.now) c.args.pairs.now c.requires c.in-Some.first (sym c.in-Some.ensures.first) c.index-pairs-first.result c.index-pairs-first.is in
    let count = (g.met.D.BlockDevice.shape c.args.dev.now).count in
    omega (arith, low, count)

pub returns-in_err-bytes-clause-broken : goal.returns-in_err-bytes-clause-broken
returns-in_err-bytes-clause-broken g c = λ v is order.
    let e = err_from_is_err_and c.from_residual.result c.from_residual.ensures.1 in
    let disk = disk_of_device g.D.BlockDevice c.args.dev.now in
    let has = has_headers_in order disk (g.D.BlockDevice.history c.args.dev.now) c.args.pairs.now c.requires in
    first_breaks (disk_with_order order disk) (g.D.BlockDevice.history c.args.dev.now) c.args.pairs.now has c.in-Some.first (sym c.in-Some.ensures.first) c.index-pairs-first.result c.index-pairs-first.is v
    (first_breaks_in order disk c.index-pairs-first.result v (c.in_err-bytes.ensures.broken v (ap Err (same_error e.1 e.2 is))))

pub loop-index-init : goal.loop-index-init
loop-index-init g c = record {
  walked = begun (disk_of_device g.D.BlockDevice c.args.dev.now) (g.D.BlockDevice.history c.args.dev.now) c.args.pairs.now c.requires c.in-Some.first (sym c.in-Some.ensures.first) c.index-pairs-first.result c.index-pairs-first.is c.in_ok-bytes.bytes.items
      c.in_ok-bytes.ensures.found;
  device = c.in_ok-bytes.ensures.device.device;
  no_fault = quiet g.D.BlockDevice c.in_ok-bytes.ensures.device;
  read = (let one = c.in_ok-bytes.ensures.reads in omega (arith, one));
}

pub returns-then-not-can_chain_continue-clause-head : goal.returns-then-not-can_chain_continue-clause-head
returns-then-not-can_chain_continue-clause-head g c =
    let disk = disk_of_device g.D.BlockDevice c.args.dev.now in
    let low = c.loop-index.auto.index in
    let high = c.loop-index-test.true in
    let this = c.index-pairs-index in
    let here = slice_get_read c.args.pairs.now (length c.args.pairs.now) (c.loop-index.index - 1) this.result refl (omega (arith, low, high)) this.is in
    let stays = sym c.can_chain_continue.ensures ∙ c.if-not-can_chain_continue.true in
    head_is disk (g.D.BlockDevice.history c.args.dev.now) c.args.pairs.now c.requires c.in-Some.first (sym c.in-Some.ensures.first) c.index-pairs-first.result c.index-pairs-first.is c.in_ok-bytes.bytes.items c.loop-index.root (c.loop-index.index - 1)
    c.in_ok-bytes.ensures.found c.loop-index.invariant.walked
    (halts disk (g.D.BlockDevice.history c.args.dev.now) c.args.pairs.now c.requires c.in_ok-bytes.bytes.items c.loop-index.root (c.loop-index.index - 1) this.result here c.loop-index.invariant.walked stays)

pub loop-index-preserved-then-pairs-index-eq0 : goal.loop-index-preserved-then-pairs-index-eq0
loop-index-preserved-then-pairs-index-eq0 g c =
    let low = c.loop-index.auto.index in
    let this = c.index-pairs-index in
    let next = c.index-pairs-index-in-loop-index in
    let step = step_at c.args.pairs.now c.loop-index.index this.result next.result (omega (arith, low)) c.loop-index-test.true this.is next.is in
    record {
      walked = passes (disk_of_device g.D.BlockDevice c.args.dev.now) (g.D.BlockDevice.history c.args.dev.now) c.args.pairs.now c.requires c.in_ok-bytes.bytes.items c.loop-index.root c.loop-index.index this.result next.result step c.loop-index.invariant.walked
          (sym c.can_chain_continue.ensures ∙ c.if-not-can_chain_continue.false) (ap (λ (h : PairHeader). h.slot_count) next.is ∙ c.if-pairs-index-eq0.true);
      device = c.loop-index.invariant.device;
      no_fault = c.loop-index.invariant.no_fault;
      read = c.loop-index.invariant.read;
    }

pub pair_repeats_superblock-requires : goal.pair_repeats_superblock-requires
pair_repeats_superblock-requires g c =
    let low = c.loop-index.auto.index in
    let this = c.index-pairs-index in
    let next = c.index-pairs-index-in-loop-index-2 in
    let step = step_at c.args.pairs.now c.loop-index.index this.result next.result (omega (arith, low)) c.loop-index-test.true this.is next.is in
    let small = within (disk_of_device g.D.BlockDevice c.args.dev.now) (g.D.BlockDevice.history c.args.dev.now) c.args.pairs.now c.requires c.in_ok-bytes.bytes.items c.loop-index.root c.loop-index.index this.result next.result step c.loop-index.invariant.walked in
    let count = (g.met.D.BlockDevice.shape c.args.dev.now).count in
    let same = ap (λ (k : Geometry). k.block_count) c.loop-index.invariant.device.geometry in
    record {
      block = omega (arith, small, count, same);
      bytes = ap length c.deref.ensures.value
          ∙ found_length (disk_of_device g.D.BlockDevice c.args.dev.now) (g.D.BlockDevice.history c.args.dev.now) c.args.pairs.now c.requires c.in-Some.first (sym c.in-Some.ensures.first) c.index-pairs-first.result c.index-pairs-first.is c.in_ok-bytes.bytes.items
          c.in_ok-bytes.ensures.found;
    }

pub returns-in_err-pair_repeats_superblock-clause-broken : goal.returns-in_err-pair_repeats_superblock-clause-broken
returns-in_err-pair_repeats_superblock-clause-broken g c = λ v is order.
    let disk = disk_of_device g.D.BlockDevice c.args.dev.now in
    let history = g.D.BlockDevice.history c.args.dev.now in
    let has = has_headers_in order disk history c.args.pairs.now c.requires in
    let e = err_from_is_err_and c.from_residual-in_err-pair_repeats_superblock.result c.from_residual-in_err-pair_repeats_superblock.ensures.1 in
    let low = c.loop-index.auto.index in
    let this = c.index-pairs-index in
    let next = c.index-pairs-index-in-loop-index-2 in
    let step = step_at c.args.pairs.now c.loop-index.index this.result next.result (omega (arith, low)) c.loop-index-test.true this.is next.is in
    let broken = c.in_err-pair_repeats_superblock.ensures.broken v (ap Err (same_error e.1 e.2 is)) in
    let none = same_block _ _ _ _ _ _ next.result None c.loop-index.invariant.device.geometry c.loop-index.invariant.device.same c.deref.ensures.value broken.1 in
    let first = first_struct disk history c.args.pairs.now c.requires c.in-Some.first (sym c.in-Some.ensures.first) c.index-pairs-first.result c.index-pairs-first.is c.in_ok-bytes.bytes.items c.in_ok-bytes.ensures.found in
    subst (PairsBreak (disk_with_order order disk) (header_pairs disk c.args.pairs.now)) (sym broken.0)
    (differs (disk_with_order order disk) history c.args.pairs.now has c.in_ok-bytes.bytes.items c.loop-index.root c.loop-index.index this.result next.result step c.loop-index.invariant.walked
    (sym c.can_chain_continue.ensures ∙ c.if-not-can_chain_continue.false) first none)

pub returns-in_err-pair_repeats_superblock-clause-device : goal.returns-in_err-pair_repeats_superblock-clause-device
returns-in_err-pair_repeats_superblock-clause-device g c =
    let e = err_from_is_err_and c.from_residual-in_err-pair_repeats_superblock.result c.from_residual-in_err-pair_repeats_superblock.ensures.1 in
    passed_on g.D.BlockDevice e.1 e.2 c.loop-index.invariant.device c.loop-index.invariant.no_fault c.in_err-pair_repeats_superblock.ensures.device

pub returns-then-not-branch-clause-head : goal.returns-then-not-branch-clause-head
returns-then-not-branch-clause-head g c =
    let disk = disk_of_device g.D.BlockDevice c.args.dev.now in
    let history = g.D.BlockDevice.history c.args.dev.now in
    let low = c.loop-index.auto.index in
    let this = c.index-pairs-index in
    let next = c.index-pairs-index-in-loop-index-2 in
    let step = step_at c.args.pairs.now c.loop-index.index this.result next.result (omega (arith, low)) c.loop-index-test.true this.is next.is in
    let not_more : c.in_ok-pair_repeats_superblock.field-0 ≡ false = search rules in
    let ended = same_block _ _ _ _ _ _ next.result (Some false) c.loop-index.invariant.device.geometry c.loop-index.invariant.device.same c.deref.ensures.value (c.in_ok-pair_repeats_superblock.ensures.ok ∙ ap (λ b. Some b) not_more) in
    head_is disk history c.args.pairs.now c.requires c.in-Some.first (sym c.in-Some.ensures.first) c.index-pairs-first.result c.index-pairs-first.is c.in_ok-bytes.bytes.items c.loop-index.root (c.loop-index.index - 1)
    c.in_ok-bytes.ensures.found c.loop-index.invariant.walked
    (ends disk history c.args.pairs.now c.requires c.in_ok-bytes.bytes.items c.loop-index.root c.loop-index.index this.result next.result step c.loop-index.invariant.walked
    (sym c.can_chain_continue.ensures ∙ c.if-not-can_chain_continue.false) (λ e. c.if-pairs-index-eq0.false (ap (λ (h : PairHeader). h.slot_count) (get_or_default c.args.pairs.now c.loop-index.index c.index-pairs-index-in-loop-index.result next.result c.loop-index-test.true ∙ sym next.is) ∙ e)) ended)

pub returns-then-not-branch-clause-device : goal.returns-then-not-branch-clause-device
returns-then-not-branch-clause-device g c =
    let read = c.in_ok-pair_repeats_superblock.ensures.device in
    only_read g.D.BlockDevice (read_on g.D.BlockDevice c.loop-index.invariant.device read.device) (quiet g.D.BlockDevice read ∙ c.loop-index.invariant.no_fault) (λ io. absurd (cc))

pub loop-index-preserved : goal.loop-index-preserved
loop-index-preserved g c =
    let low = c.loop-index.auto.index in
    let this = c.index-pairs-index in
    let next = c.index-pairs-index-in-loop-index-2 in
    let step = step_at c.args.pairs.now c.loop-index.index this.result next.result (omega (arith, low)) c.loop-index-test.true this.is next.is in
    let is_more : c.in_ok-pair_repeats_superblock.field-0 ≡ true = search rules in
    let went = same_block _ _ _ _ _ _ next.result (Some true) c.loop-index.invariant.device.geometry c.loop-index.invariant.device.same c.deref.ensures.value (c.in_ok-pair_repeats_superblock.ensures.ok ∙ ap (λ b. Some b) is_more) in
    let one = c.in_ok-pair_repeats_superblock.ensures.reads in
    let others = c.loop-index.invariant.read in
    let below = c.loop-index.invariant.walked.below in
    record {
      walked = more (disk_of_device g.D.BlockDevice c.args.dev.now) (g.D.BlockDevice.history c.args.dev.now) c.args.pairs.now c.requires c.in_ok-bytes.bytes.items c.loop-index.root c.loop-index.index this.result next.result step c.loop-index.invariant.walked
          (sym c.can_chain_continue.ensures ∙ c.if-not-can_chain_continue.false) went;
      device = read_on g.D.BlockDevice c.loop-index.invariant.device c.in_ok-pair_repeats_superblock.ensures.device.device;
      no_fault = quiet g.D.BlockDevice c.in_ok-pair_repeats_superblock.ensures.device ∙ c.loop-index.invariant.no_fault;
      read = omega (arith, one, others, below, low);
    }

pub returns-clause-head : goal.returns-clause-head
returns-clause-head g c =
    let disk = disk_of_device g.D.BlockDevice c.args.dev.now in
    let low = c.loop-index.auto.index in
    let past = c.loop-index-test.false in
    let high = c.loop-index.auto.index-end in
    let some = c.in-Some.ensures.below in
    let back : suc (c.loop-index.index - 1) ≡ length c.args.pairs.now = omega (arith, low, past, high, some) in
    last_is disk (g.D.BlockDevice.history c.args.dev.now) c.args.pairs.now c.requires c.in-Some.first (sym c.in-Some.ensures.first) c.index-pairs-first.result c.index-pairs-first.is c.in_ok-bytes.bytes.items c.loop-index.root (c.loop-index.index - 1)
    c.in_ok-bytes.ensures.found c.loop-index.invariant.walked back

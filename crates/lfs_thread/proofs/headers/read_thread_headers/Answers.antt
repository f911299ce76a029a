use Rattle.lfs_thread.proofs.Common.{err_from_is_err_and, option_map, disk_of_blocks, address_of_array, header_address, fetch_reads, IsThreadBeginning, disk_of_device, IsThreadViolation}
use Rattle.lfs_thread.specs.declared.mount_error.MountError.TheVariants.{NoMemory}
use Rattle.std.proofs.Common.{◌≡◌, ◌+◌, ◌<◌, ◌∙◌, Err, [], ◌∷◌, length, refl, sym, ap, ap₂, subst, arith, rules, length-append}
use Rattle.lfs_device.specs.declared.geometry.Geometry.{Geometry}
use Rattle.lfs_model.proofs.Histories.{began}
use Rattle.std.specs.Prelude.{IfErr, sum_by}
use Rattle.lfs_thread.proofs.HeaderReads.{more_reads}
use Rattle.lfs_thread.proofs.Begun.{begun_first, begun_next, begun_kept, begun_none_in_flight, begun_few, begun_before, read_on}
use Rattle.lfs_thread.proofs.headers.read_thread_headers.Goals as goal

pub loop-init : goal.loop-init
loop-init g c = record {
  begun = begun_first _ _ _ _ _ (sym (g.met.D.BlockDevice.shape c.args.device.now).count) c.requires.none c.requires.free;
  device = record { same = refl; geometry = refl; reads = began };
  no_fault = refl;
  count = ap length c.requires.none;
  few = let none = ap (sum_by (λ h. fetch_reads (disk_of_blocks (g.D.BlockDevice.geometry c.args.device.now) (g.D.BlockDevice.blocks c.args.device.now)) (header_address h))) c.requires.none in omega (arith, none);
}

pub returns-in-None-clause-kept : goal.returns-in-None-clause-kept
returns-in-None-clause-kept g c =
    begun_kept _ _ _ _ (subst (IsThreadBeginning (disk_of_blocks (g.D.BlockDevice.geometry c.loop.device) (g.D.BlockDevice.blocks c.loop.device)) (g.D.BlockDevice.history c.loop.device) c.loop.pairs.items c.loop.map)
    (ap (option_map address_of_array) c.in-None.is) c.loop.invariant.begun)

pub returns-in-None-clause-marked : goal.returns-in-None-clause-marked
returns-in-None-clause-marked g c = (c.loop.invariant.begun.marked, begun_none_in_flight _ _ _ _ _ c.loop.invariant.begun)

pub returns-in_err-pair-in-Some-clause-broken : goal.returns-in_err-pair-in-Some-clause-broken
returns-in_err-pair-in-Some-clause-broken g c =
    let p = err_from_is_err_and c.from_residual.result c.from_residual.ensures.1 in
    let same : disk_of_device g.D.BlockDevice c.loop.device ≡ disk_of_device g.D.BlockDevice c.args.device.now = ap₂ disk_of_blocks c.loop.invariant.device.geometry c.loop.invariant.device.same in
    let before = begun_before _ _ _ _ _ (address_of_array c.in-Some.at) (ap (option_map address_of_array) c.in-Some.is) c.loop.invariant.begun in
    let broken = c.in_err-pair-in-Some.ensures.broken _ before in
    subst (λ r. IfErr r (IsThreadViolation (disk_of_device g.D.BlockDevice c.args.device.now))) (sym p.1)
    (subst (IsThreadViolation (disk_of_device g.D.BlockDevice c.args.device.now)) (sym p.2)
    (subst (λ d. IsThreadViolation d c.in_err-pair-in-Some.field-0.0) same broken))

pub returns-in_err-pair-in-Some-clause-reported : goal.returns-in_err-pair-in-Some-clause-reported
returns-in_err-pair-in-Some-clause-reported g c =
    let reported = c.in_err-pair-in-Some.ensures.reported in
    let no_fault = c.loop.invariant.no_fault in
    record {
      device = read_on c.loop.invariant.device reported.device;
      fault = λ io. (let fault = reported.fault (search rules) in omega (arith, fault, no_fault));
      no_fault = λ other. reported.no_fault (λ io. other (search rules)) ∙ no_fault;
    }

pub returns-in_err-push-in-Some-clause-reported : goal.returns-in_err-push-in-Some-clause-reported
returns-in_err-push-in-Some-clause-reported g c =
    let reported = c.in_ok-pair-in-Some.ensures.reported in
    let full : c.from_residual-in_err-push-in-Some.result ≡ Err NoMemory = search rules in
    record {
      device = read_on c.loop.invariant.device reported.device;
      fault = λ e. absurd (cc);
      no_fault = λ _. reported.no_fault (λ e. absurd (cc)) ∙ c.loop.invariant.no_fault;
    }

pub loop-preserved : goal.loop-preserved
loop-preserved g c =
    let read = c.in_ok-pair-in-Some.ensures in
    let no_fault = read.reported.no_fault (λ e. absurd (cc)) in
    record {
      begun = begun_next (disk_of_blocks (g.D.BlockDevice.geometry c.loop.device) (g.D.BlockDevice.blocks c.loop.device)) _ _ _ _ c.loop.pairs.items _ c.loop.map _ (option_map address_of_array c.loop.next) (address_of_array c.in-Some.at) c.in_ok-pair-in-Some.pair (option_map address_of_array c.tail_address-next.result)
          (ap₂ disk_of_blocks read.reported.device.geometry read.reported.device.same) read.reported.device.reads (ap (option_map address_of_array) c.in-Some.is) c.loop.invariant.begun read.read.header read.read.address read.read.stands c.in_ok-push-in-Some.ensures.items read.read.marked c.tail_address-next.ensures;
      device = read_on c.loop.invariant.device read.reported.device;
      no_fault = no_fault ∙ c.loop.invariant.no_fault;
      few = more_reads _ (disk_of_blocks (g.D.BlockDevice.geometry c.args.device.now) (g.D.BlockDevice.blocks c.args.device.now)) c.loop.pairs.items c.in_ok-pair-in-Some.pair _ (address_of_array c.in-Some.at) _ _ _
          (ap₂ disk_of_blocks c.loop.invariant.device.geometry c.loop.invariant.device.same) read.read.address c.in_ok-push-in-Some.ensures.items c.loop.invariant.few read.few;
      count = ap length c.in_ok-push-in-Some.ensures.items ∙ length-append c.loop.pairs.items (c.in_ok-pair-in-Some.pair ∷ []) ∙ ap (λ n. n + 1) c.loop.invariant.count;
    }

pub unreachable-requires : goal.unreachable-requires
unreachable-requires g c =
    let few = begun_few _ _ _ _ _ c.loop.invariant.begun in
    let count = c.loop.invariant.count in
    let size = ap length c.loop.invariant.device.same ∙ (g.met.D.BlockDevice.shape c.args.device.now).count in
    let some = (g.D.BlockDevice.geometry c.args.device.now).valid in
    let over : ¬ (c.loop.counter < c.geometry-block_count.result.block_count) = search rules in
    let end = ap (λ (k : Geometry). k.block_count) c.geometry-block_count.ensures in
    absurd (omega (arith, few, count, size, some.no_fewer, over, end))

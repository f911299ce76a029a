use Rattle.std.proofs.Common.{◌≡◌, ◌≢◌, ◌<◌, Err, ap, slice_set, true, rules, subst, sym}
use Rattle.lfs_thread.proofs.Common.{option_and_then, address_of_array, BlockStates, IsFree, Used, decoded_content, disk_of_device, IsThreadViolation}
use Rattle.lfs_model.specs.declared.violations.Violation.TheVariants.{NoContent}
use Rattle.lfs_thread.proofs.Begun.{fetched_header, fetched_incomplete, fetched_stands, on_disk}
use Rattle.lfs_thread.proofs.MountErrors.{second_in_two, true_of}
use Rattle.lfs_thread.proofs.headers.read_pair_header.Goals as goal

pub returns-then-pair-clause-read : goal.returns-then-pair-clause-read
returns-then-pair-clause-read g c =
    let apart : (address_of_array c.args.at).0 ≢ (address_of_array c.args.at).1 = search rules in
    let first : (address_of_array c.args.at).0 < (g.D.BlockDevice.geometry c.args.device.now).block_count = search rules in
    let second : (address_of_array c.args.at).1 < (g.D.BlockDevice.geometry c.args.device.now).block_count = search rules in
    let full : c.in-Ok.pair.is_complete ≡ true = search rules in
    let first_free : IsFree c.args.map.now (address_of_array c.args.at).0 = search rules in
    let second_free : IsFree c.mark.new.self (address_of_array c.args.at).1 = search rules in
    let first_marked = c.if-not-mark.ensures.marked in
    let marked : c.mark-2.new.self ≡ slice_set (slice_set c.args.map.now (address_of_array c.args.at).0 Used) (address_of_array c.args.at).1 Used = search rules in
    let on = on_disk (disk_of_device g.D.BlockDevice c.args.device.now) _ (address_of_array c.args.at) (g.met.D.BlockDevice.shape c.args.device.now).count apart first second in
    record {
      header = fetched_header _ _ (address_of_array c.args.at) c.in-Ok.pair on c.in-Ok.ensures.ok full;
      address = c.in-Ok.ensures.ok.at;
      stands = fetched_stands _ _ (address_of_array c.args.at) c.in-Ok.pair c.args.map.now on c.in-Ok.ensures.ok full
          first_free (subst (λ (s : BlockStates). IsFree s (address_of_array c.args.at).1) first_marked second_free);
      marked = marked;
    }

pub returns-then-not-mark-2-clause-broken : goal.returns-then-not-mark-2-clause-broken
returns-then-not-mark-2-clause-broken g c before is =
    let apart : (address_of_array c.args.at).0 ≢ (address_of_array c.args.at).1 = search rules in
    let taken : ¬ IsFree c.mark.new.self (address_of_array c.args.at).1 = search rules in
    second_in_two _ c.args.map.now before (address_of_array c.args.at) is apart (search rules)
    (subst (λ (s : BlockStates). ¬ IsFree s (address_of_array c.args.at).1) c.if-not-mark.ensures.marked taken)

pub returns-in-Err-clause-broken : goal.returns-in-Err-clause-broken
returns-in-Err-clause-broken g c before is =
    let apart : (address_of_array c.args.at).0 ≢ (address_of_array c.args.at).1 = search rules in
    let first : (address_of_array c.args.at).0 < (g.D.BlockDevice.geometry c.args.device.now).block_count = search rules in
    let second : (address_of_array c.args.at).1 < (g.D.BlockDevice.geometry c.args.device.now).block_count = search rules in
    let on = on_disk (disk_of_device g.D.BlockDevice c.args.device.now) _ (address_of_array c.args.at) (g.met.D.BlockDevice.shape c.args.device.now).count apart first second in
    subst (IsThreadViolation (disk_of_device g.D.BlockDevice c.args.device.now)) (sym c.of.ensures)
    (true_of _ c.in-Err.error (NoContent c.args.at) c.in-Err.ensures.fails.errors
    (λ corrupt. ((before, is.begins), (on.first, on.second), ap (option_and_then decoded_content) (c.in-Err.ensures.fails.corrupt (ap Err corrupt)))))

pub returns-else-pair-clause-broken : goal.returns-else-pair-clause-broken
returns-else-pair-clause-broken g c before is =
    let apart : (address_of_array c.args.at).0 ≢ (address_of_array c.args.at).1 = search rules in
    let first : (address_of_array c.args.at).0 < (g.D.BlockDevice.geometry c.args.device.now).block_count = search rules in
    let second : (address_of_array c.args.at).1 < (g.D.BlockDevice.geometry c.args.device.now).block_count = search rules in
    let on = on_disk (disk_of_device g.D.BlockDevice c.args.device.now) _ (address_of_array c.args.at) (g.met.D.BlockDevice.shape c.args.device.now).count apart first second in
    ((before, is.begins), (on.first, on.second), fetched_incomplete _ _ (address_of_array c.args.at) c.in-Ok.pair c.in-Ok.ensures.ok (search rules))

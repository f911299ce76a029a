use Rattle.std.proofs.Common.{rules, ◌+◌, length, sym, ap, ◌∙◌, arith}
use Rattle.lfs_device.specs.declared.geometry.Geometry.{Geometry}
use Rattle.lfs_file.proofs.Common.{skip_list_block_count, growing_size, in_flight_limit}
use Rattle.lfs_file.proofs.Owning.{base_kept}
use Rattle.lfs_file.proofs.ContentsCalled.{used_of}
use Rattle.lfs_file.proofs.Flights.{begun_flying, length-content, shaped}
use Rattle.lfs_file.proofs.Handed.{extended_bytes, extended_on}
use Rattle.lfs_file.proofs.writes.append_to_draft.Goals as goal

pub extend_list-requires : goal.extend_list-requires
extend_list-requires g c = record {
  growing = search rules;
  geometry = search rules;
  some = search rules;
  small = search rules;
  marked = search rules;
  room =
      let hand = c.args.hand.now in
      let begun = c.requires.begun in
      let flying = begun_flying c.args.map.now (g.D.BlockDevice.blocks c.args.dev.now) hand.list.geometry.block_size hand.list hand.base hand.shared begun.begun in
      let room = c.requires.room in
      let some = ap (λ (k : Geometry). in_flight_limit k.block_size hand.base) begun.geometry in
      let many = ap (λ (k : Geometry). skip_list_block_count k.block_size (growing_size hand.list + length c.args.bytes.now)) begun.geometry in
      omega arith;
}

pub returns-in_err-extend_list-clause-device : goal.returns-in_err-extend_list-clause-device
returns-in_err-extend_list-clause-device g c = used_of g.D.BlockDevice c.args.hand.now.list c.requires.begun.begun.marked c.extend_list.ensures.device

pub returns-clause-device : goal.returns-clause-device
returns-clause-device g c = used_of g.D.BlockDevice c.args.hand.now.list c.requires.begun.begun.marked c.extend_list.ensures.device

pub returns-clause-written : goal.returns-clause-written
returns-clause-written g c =
    let hand = c.args.hand.now in
    let d = g.D.BlockDevice.blocks c.args.dev.now in
    let begun = c.requires.begun in
    let more = c.in_ok-extend_list.ensures.extended in
    let geometry : Geometry = hand.list.geometry in
    let long = length-content d geometry.block_size (g.D.BlockDevice.geometry c.args.dev.now).block_count hand.list geometry.valid.no_smaller (shaped d _ _ begun.geometry (g.met.D.BlockDevice.shape c.args.dev.now)) begun.begun.growing in
    record {
      going = record {
        geometry = begun.geometry ∙ sym more.geometry;
        list = extended_on c.args.map.now c.extend_list.new.map d (g.D.BlockDevice.blocks c.extend_list.new.dev) hand.list c.extend_list.new.list hand.base hand.shared _ _ begun.begun c.extend_list.ensures.device.spared c.extend_list.ensures.map more;
        some = (let sum = more.sum in let some = c.requires.some in omega arith);
      };
      size = more.sum;
      bytes = extended_bytes c.args.map.now c.extend_list.new.map d (g.D.BlockDevice.blocks c.extend_list.new.dev) hand.list c.extend_list.new.list hand.base hand.shared c.args.bytes.now begun.begun c.extend_list.ensures.device.spared more long;
    }

pub returns-in_err-extend_list-clause-base : goal.returns-in_err-extend_list-clause-base
returns-in_err-extend_list-clause-base g c =
    let hand = c.args.hand.now in
    base_kept c.args.map.now (g.D.BlockDevice.blocks c.args.dev.now) (g.D.BlockDevice.blocks c.extend_list.new.dev) hand.list.geometry (g.D.BlockDevice.geometry c.args.dev.now) hand.list hand.base hand.shared
    c.requires.begun.geometry c.requires.begun.begun c.extend_list.ensures.device.spared

pub returns-clause-base : goal.returns-clause-base
returns-clause-base g c =
    let hand = c.args.hand.now in
    base_kept c.args.map.now (g.D.BlockDevice.blocks c.args.dev.now) (g.D.BlockDevice.blocks c.extend_list.new.dev) hand.list.geometry (g.D.BlockDevice.geometry c.args.dev.now) hand.list hand.base hand.shared
    c.requires.begun.geometry c.requires.begun.begun c.extend_list.ensures.device.spared

use Rattle.std.proofs.Common.{rules, ◌≡◌, ◌+◌, ◌-◌, length, refl, ap, ◌∙◌, subst, arith, replicate}
use Rattle.lfs_device.specs.declared.geometry.Geometry.{Geometry}
use Rattle.lfs_file.proofs.Common.{written_contents, growing_size, CanEndUnfinished, unfinished_bytes, unfinished_length}
use Rattle.lfs_file.proofs.Owning.{list_then}
use Rattle.lfs_file.proofs.ContentsCalled.{used_on}
use Rattle.lfs_file.proofs.Flights.{length-hand, part_fits, shaped, wrote_all}
use Rattle.lfs_file.proofs.writes.fill_and_write.Goals as goal

pub write_zeros-requires : goal.write_zeros-requires
write_zeros-requires g c = record {
  begun = search rules;
  small = search rules;
  room =
      let hand = c.args.hand.now in
      let at = c.requires.at in
      let size = c.size.ensures in
      part_fits (g.D.BlockDevice.geometry c.args.dev.now) (g.D.BlockDevice.geometry c.args.dev.now) hand.base hand.base _ _ _ _ (growing_size hand.list + (c.args.place - c.size.result)) (c.args.place + length c.args.bytes.now) refl refl (omega arith) refl refl c.requires.room;
}

pub returns-in_err-append_to_draft-clause-device : goal.returns-in_err-append_to_draft-clause-device
returns-in_err-append_to_draft-clause-device g c = used_on g.D.BlockDevice c.write_zeros.ensures.map c.write_zeros.ensures.device c.append_to_draft.ensures.device

pub returns-clause-device : goal.returns-clause-device
returns-clause-device g c = used_on g.D.BlockDevice c.write_zeros.ensures.map c.write_zeros.ensures.device c.append_to_draft.ensures.device

pub returns-clause-written : goal.returns-clause-written
returns-clause-written g c =
    let hand = c.args.hand.now in
    let d = g.D.BlockDevice.blocks c.args.dev.now in
    let begun = c.requires.begun in
    let geometry : Geometry = hand.list.geometry in
    let at = c.requires.at in
    let size = c.size.ensures in
    let zeroed = c.in_ok-write_zeros.ensures.zeroed in
    let wrote = c.in_ok-append_to_draft.ensures.written in
    let end : growing_size c.write_zeros.new.hand.list ≡ c.args.place = (let sum = zeroed.at.size in omega arith) in
    let long = length-hand d geometry.block_size (g.D.BlockDevice.geometry c.args.dev.now).block_count hand.list hand.base geometry.valid.no_smaller (shaped d _ _ begun.geometry (g.met.D.BlockDevice.shape c.args.dev.now)) begun.begun.growing begun.begun.list in
    let gap : c.args.place - c.size.result ≡ c.args.place - growing_size hand.list = ap (λ n. c.args.place - n) size in
    record {
      going = subst (λ (k : Geometry). CanEndUnfinished c.append_to_draft.new.map (g.D.BlockDevice.blocks c.append_to_draft.new.dev) k c.append_to_draft.new.hand) c.write_zeros.ensures.device.geometry wrote.going;
      size = (let sum = wrote.size in omega arith);
      bytes = wrote_all (unfinished_bytes d hand) (unfinished_bytes d hand) _ _ c.args.bytes.now (unfinished_length hand) c.args.place (growing_size hand.list) (growing_size hand.list) _ long at refl refl
          (zeroed.at.bytes ∙ ap (λ n. written_contents (unfinished_bytes d hand) (growing_size hand.list) (replicate n 0)) gap) end wrote.bytes;
    }

pub returns-in_err-append_to_draft-clause-base : goal.returns-in_err-append_to_draft-clause-base
returns-in_err-append_to_draft-clause-base g c = list_then _ _ _ _ _ _ _ _ c.write_zeros.ensures.device.geometry c.write_zeros.ensures.base c.append_to_draft.ensures.base

pub returns-clause-base : goal.returns-clause-base
returns-clause-base g c = list_then _ _ _ _ _ _ _ _ c.write_zeros.ensures.device.geometry c.write_zeros.ensures.base c.append_to_draft.ensures.base

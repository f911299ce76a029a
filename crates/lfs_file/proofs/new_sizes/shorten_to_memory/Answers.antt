use Rattle.std.proofs.Common.{ℕ, ◌≡◌, List, [], length, min, sym, ap, ◌∙◌, arith}
use Rattle.lfs_device.specs.declared.geometry.Geometry.{Geometry}
use Rattle.lfs_file.proofs.Common.{Blocks, written_contents, stored_list_bytes}
use Rattle.lfs_file.proofs.Flights.{length-base}
use Rattle.lfs_file.proofs.Truncations.{resized}
use Rattle.lfs_file.proofs.new_sizes.shorten_to_memory.Goals as goal

pub returns-clause-quiet : goal.returns-clause-quiet
returns-clause-quiet g c =
    let d : Blocks = g.D.BlockDevice.blocks c.args.dev.now in
    record {
      idle = record { count = c.release_in_flight.ensures.map.count ∙ c.requires.stored.count ∙ sym (ap length c.load_first_bytes.ensures.reading.device.same); none = c.release_in_flight.ensures.none };
      resting = record { geometry = c.in_ok-list.ensures.resting.geometry ∙ sym ((c.write_buffered_at.ensures.holds d).geometry); held = c.write_buffered_at.ensures.held };
    }

pub returns-clause-bytes : goal.returns-clause-bytes
returns-clause-bytes g c =
    let stored = c.args.stored in
    let d : Blocks = g.D.BlockDevice.blocks c.args.dev.now in
    let now : Geometry = g.D.BlockDevice.geometry c.args.dev.now in
    let old : List ℕ = stored_list_bytes d now.block_size stored in
    let all = length-base d now.block_size now.block_count stored.head stored.size now.valid.no_smaller (g.met.D.BlockDevice.shape c.args.dev.now) c.requires.stored.base in
    let keep : c.min.result ≡ min (length old) c.args.size = (let low = c.min.ensures in omega arith) in
    c.write_buffered_at.ensures.rest ∙ ap (λ (l : List ℕ). written_contents l c.args.size []) c.in_ok-list.ensures.bytes ∙ resized old c.min.result c.args.size keep

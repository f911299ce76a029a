use Rattle.std.proofs.Common.{arith, ap, sym, ◌∙◌, ◌≡◌, ◌<◌, ◌/◌, ◌%◌, length, get_or, Some}
use Rattle.std.specs.List.{slice_get}
use Rattle.std.proofs.lemmas.List.{get_or_read}
use Rattle.lfs_blocks.specs.BlockMap.{free_marks}
use Rattle.lfs_blocks.specs.Marks.{state_at_bit}
use Rattle.lfs_blocks.proofs.SetLemmas.{length-marks_states, slice_get-marks_states}
use Rattle.lfs_blocks.proofs.block_map.BlockMap.state.Goals as goal

pub index-requires : goal.index-requires
index-requires c =
    omega (arith, ap length c.self.view_is, length-marks_states c.self.inside.marks.items c.self.inside.block_count, c.self.inside.marks.ok.0)

pub returns : goal.returns
returns c =
    let marks = c.self.inside.marks.items in
    let lt : c.args.block < c.self.inside.block_count = omega (arith, ap length c.self.view_is, length-marks_states marks c.self.inside.block_count) in
    let read : c.index.result.now ≡ get_or marks (c.args.block / 64) free_marks = get_or_read marks (c.args.block / 64) c.index.result.now (omega (arith, c.self.inside.marks.ok.0)) c.index.ensures free_marks in
    ap (λ s. slice_get s c.args.block) (sym c.self.view_is)
    ∙ slice_get-marks_states marks c.self.inside.block_count c.args.block lt
    ∙ ap Some (ap (λ m. state_at_bit m (c.args.block % 64)) (sym read) ∙ sym c.state.ensures)

use Rattle.std.proofs.Common.{◌≡◌, ◌≤◌, ◌<◌, ◌+◌, length, take, drop, List, ℕ, ◌++◌, ◌∙◌, ap, arith, length-append, length-drop}
use Rattle.std.specs.Prelude.{slice_set}
use Rattle.std.proofs.lemmas.Grind.{common_steps}
use Rattle.lfs_model.specs.format.Blocks.{Blocks, block_bytes, programmed}
use Rattle.lfs_model.proofs.Overwrites.{overwritten_beginning}
use Rattle.lfs_device.specs.declared.geometry.Geometry.{Geometry}
use Rattle.lfs_device.proofs.Partials.{ChangesOnlyRange-trans, ChangesOnlyRange-wider, ChangesOnlyRange-read, ChangesOnlyRange-program}
use Rattle.lfs_device.proofs.partial.program_partial_page.Goals as goal

pub returns-clause-ok : goal.returns-clause-ok
returns-clause-ok g c =
    let old : Blocks = g.D.BlockDevice.blocks c.args.device.now in
    let block : List ℕ = block_bytes old c.args.block in
    let bytes = c.args.bytes.now in
    let known = ap (λ (k : Geometry). k.page) c.geometry.ensures in
    let size = ap (λ (k : Geometry). k.block_size) c.geometry.ensures in
    let room = (g.met.D.BlockDevice.shape c.args.device.now).sizes c.args.block c.requires.page.in_device in
    let page : length c.read.new.buf ≡ c.geometry.result.page = grind (arith, common_steps, c.read.auto.buf) in
    let held : c.read.new.buf ≡ take c.geometry.result.page (drop c.args.off block) = c.in_ok-read.ensures.bytes ∙ ap (λ n. take n (drop c.args.off block)) (omega (arith, page)) in
    c.in_ok-prog.ensures.programs.ok
    ∙ ap (λ (l : List ℕ). programmed (g.D.BlockDevice.blocks c.read.new.self) c.args.block c.args.off (l ++ drop (length bytes) c.read.new.buf)) c.copy_from_slice.ensures.after
    ∙ ap (λ (l : List ℕ). programmed (g.D.BlockDevice.blocks c.read.new.self) c.args.block c.args.off (bytes ++ drop (length bytes) l)) held
    ∙ ap (λ (d : Blocks). programmed d c.args.block c.args.off (bytes ++ drop (length bytes) (take c.geometry.result.page (drop c.args.off block)))) c.read.ensures.same
    ∙ ap (slice_set old c.args.block) (overwritten_beginning block c.args.off c.geometry.result.page bytes (omega (arith, known, c.requires.in_page)) (omega (arith, known, room, c.requires.page.in_block)))

pub returns-clause-part : goal.returns-clause-part
returns-clause-part g c =
    let known = ap (λ (k : Geometry). k.page) c.geometry.ensures in
    let page : length c.read.new.buf ≡ c.geometry.result.page = grind (arith, common_steps, c.read.auto.buf) in
    let behind = length-drop (length c.args.bytes.now) c.read.new.buf in
    let joined = length-append c.copy_from_slice.new.self (drop (length c.args.bytes.now) c.read.new.buf) in
    let front = ap (λ (l : List ℕ). length l) c.copy_from_slice.ensures.after in
    let shape = g.met.D.BlockDevice.shape c.args.device.now in
    let same = c.read.ensures.same in
    let there : c.args.block < length (g.D.BlockDevice.blocks c.read.new.self) = rw same (omega (arith, shape.count, c.requires.page.in_device)) in
    let fits : c.args.off ≤ length (block_bytes (g.D.BlockDevice.blocks c.read.new.self) c.args.block) = rw same (omega (arith, shape.sizes c.args.block c.requires.page.in_device, c.requires.page.in_block)) in
    let read = ChangesOnlyRange-read g.D.BlockDevice c.args.block c.args.off (c.args.off + (g.D.BlockDevice.geometry c.args.device.now).page) c.read.ensures.history same c.read.ensures.geometry in
    let program = ChangesOnlyRange-program g.D.BlockDevice c.prog.result there fits c.prog.ensures.programs.ok c.prog.ensures.programs.err c.prog.ensures.programs.others c.prog.ensures.geometry c.prog.ensures.history in
    ChangesOnlyRange-trans g.D.BlockDevice read (ChangesOnlyRange-wider g.D.BlockDevice c.args.off (c.args.off + (g.D.BlockDevice.geometry c.args.device.now).page) program (omega arith) (omega (arith, known, page, behind, joined, front, c.requires.in_page)))

use Rattle.std.proofs.Common.{◌≡◌, ◌<◌, ◌≤◌, ◌+◌, ◌*◌, List, ℕ, length, take, drop, rules, sym, ◌∙◌, ap, arith}
use Rattle.std.proofs.lemmas.List.{take_all}
use Rattle.lfs_device.specs.declared.geometry.Geometry.{Geometry}
use Rattle.lfs_model.specs.format.Blocks.{Blocks, block_bytes, overwritten_at}
use Rattle.lfs_device.proofs.CallLaws.{ChangesOneBlock-reads, ChangesOneBlock-trans, ChangesOneBlock-erase, ChangesOneBlock-program}
use Rattle.lfs_model.proofs.Histories.{is_unprogrammed_byte-erase, is_unprogrammed_byte-program}
use Rattle.lfs_model.proofs.Overwrites.{SameExcept-is, block_bytes-set, take-overwritten_next}
use Rattle.lfs_fixtures.proofs.copy.copy_block.Goals as goal

pub returns-in_err-bytes-clause-device : goal.returns-in_err-bytes-clause-device
returns-in_err-bytes-clause-device g c = ChangesOneBlock-reads g.D.BlockDevice c.args.to c.in_err-bytes.ensures.device

pub returns-in_err-erase-clause-device : goal.returns-in_err-erase-clause-device
returns-in_err-erase-clause-device g c =
    ChangesOneBlock-trans g.D.BlockDevice (ChangesOneBlock-reads g.D.BlockDevice c.args.to c.in_ok-bytes.ensures.device)
    (ChangesOneBlock-erase g.D.BlockDevice c.erase.ensures.history c.erase.ensures.others c.erase.ensures.geometry)

pub loop-page-init : goal.loop-page-init
loop-page-init g c = record {
  device = ChangesOneBlock-trans g.D.BlockDevice (ChangesOneBlock-reads g.D.BlockDevice c.args.to c.in_ok-bytes.ensures.device)
      (ChangesOneBlock-erase g.D.BlockDevice c.erase.ensures.history c.erase.ensures.others c.erase.ensures.geometry);
  front = search rules;
  unprogrammed = is_unprogrammed_byte-erase c.in_ok-erase.ensures.history;
  erases = search rules;
  programs = search rules;
  no_fault = search rules;
}

pub returns-in_err-prog-clause-device : goal.returns-in_err-prog-clause-device
returns-in_err-prog-clause-device g c =
    ChangesOneBlock-trans g.D.BlockDevice c.loop-page.invariant.device
    (ChangesOneBlock-program g.D.BlockDevice c.prog.ensures.history c.prog.ensures.programs.others c.prog.ensures.geometry)

-- one page more
front : (g : _) (c : goal.In_ok-prog g) → take ((c.loop-page.page + 1) * c.geometry-geometry.result.page) (block_bytes (g.D.BlockDevice.blocks c.prog.new.self) c.args.to)
    ≡ take ((c.loop-page.page + 1) * c.geometry-geometry.result.page) (block_bytes (g.D.BlockDevice.blocks c.args.device.now) c.args.from)
front g c =
    let old : Blocks = g.D.BlockDevice.blocks c.args.device.now in
    let mid : Blocks = g.D.BlockDevice.blocks c.loop-page.device in
    let new : Blocks = g.D.BlockDevice.blocks c.prog.new.self in
    let shape = g.met.D.BlockDevice.shape c.args.device.now in
    let known = ap (λ (k : Geometry). k.block_size) c.geometry-geometry.ensures in
    let block_size : length (block_bytes old c.args.from) ≡ c.geometry-geometry.result.block_size = omega (arith, known, shape.sizes c.args.from c.requires.from) in
    let n = c.geometry-geometry.result.page in
    let off = c.loop-page.page * n in
    let next : (c.loop-page.page + 1) * n ≡ off + n = omega arith in
    let room : off + n ≤ c.geometry-geometry.result.block_size = grind arith in
    let source : c.deref.result.now ≡ block_bytes old c.args.from = c.deref.ensures.value ∙ c.in_ok-bytes.ensures.bytes in
    let there : c.args.to < length mid = omega (arith, shape.count, c.loop-page.invariant.device.others.count, c.requires.to) in
    let fits : off ≤ length (block_bytes mid c.args.to) = omega (arith, room, known, c.loop-page.invariant.device.others.size, shape.sizes c.args.to c.requires.to) in
    ap (λ k. take k (block_bytes new c.args.to)) next
    ∙ ap (λ (d : Blocks). take (off + n) (block_bytes d c.args.to)) c.in_ok-prog.ensures.programs.ok
    ∙ ap (λ (b : List ℕ). take (off + n) b) (block_bytes-set mid c.args.to _ there)
    ∙ ap (λ k. take (off + n) (overwritten_at (block_bytes mid c.args.to) off (take k (drop off c.deref.result.now)))) (omega arith)
    ∙ ap (λ (s : List ℕ). take (off + n) (overwritten_at (block_bytes mid c.args.to) off (take n (drop off s)))) source
    ∙ take-overwritten_next (block_bytes mid c.args.to) (block_bytes old c.args.from) off n fits (omega (arith, room, block_size)) c.loop-page.invariant.front
    ∙ ap (λ k. take k (block_bytes old c.args.from)) (sym next)

pub loop-page-preserved : goal.loop-page-preserved
loop-page-preserved g c = record {
  device = ChangesOneBlock-trans g.D.BlockDevice c.loop-page.invariant.device
      (ChangesOneBlock-program g.D.BlockDevice c.prog.ensures.history c.prog.ensures.programs.others c.prog.ensures.geometry);
  front = front g c;
  unprogrammed = is_unprogrammed_byte-program c.prog.ensures.history c.loop-page.invariant.unprogrammed (grind arith) (grind arith);
  erases = search rules;
  programs = search rules;
  no_fault = search rules;
}

pub returns-clause-copied : goal.returns-clause-copied
returns-clause-copied g c =
    let old : Blocks = g.D.BlockDevice.blocks c.args.device.now in
    let new : Blocks = g.D.BlockDevice.blocks c.loop-page.device in
    let shape = g.met.D.BlockDevice.shape c.args.device.now in
    let known = ap (λ (k : Geometry). k.block_size) c.geometry-geometry.ensures in
    let n = c.loop-page.page * c.geometry-geometry.result.page in
    let all : n ≡ c.geometry-geometry.result.block_size = grind arith in
    let whole : block_bytes new c.args.to ≡ block_bytes old c.args.from =
    sym (take_all n (block_bytes new c.args.to) (omega (arith, all, known, c.loop-page.invariant.device.others.size, shape.sizes c.args.to c.requires.to)))
    ∙ c.loop-page.invariant.front
    ∙ take_all n (block_bytes old c.args.from) (omega (arith, all, known, shape.sizes c.args.from c.requires.from)) in
    SameExcept-is c.args.to old new (block_bytes old c.args.from) (omega (arith, shape.count, c.requires.to)) c.loop-page.invariant.device.others whole

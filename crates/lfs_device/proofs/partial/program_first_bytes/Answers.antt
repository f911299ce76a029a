use Rattle.std.proofs.Common.{rules, ◌≡◌, ◌+◌, ◌-◌, ◌%◌, length, take, ℕ, List, ◌++◌, sym, ap, ◌∙◌, arith, length-append}
use Rattle.std.specs.Prelude.{slice_range}
use Rattle.std.proofs.lemmas.List.{length-take-le, take_min}
use Rattle.std.proofs.lemmas.Result.{on_ok_weaker}
use Rattle.lfs_model.specs.format.Blocks.{Blocks, programmed}
use Rattle.lfs_model.proofs.Overwrites.{programmed_next}
use Rattle.lfs_device.proofs.Partials.{ChangesOnlyRange-trans, ChangesOnlyRange-wider, ChangesOnlyRange-program, keeps-program, take-append-slice_range, page_room}
use Rattle.lfs_device.proofs.partial.program_first_bytes.Goals as goal

pub returns-in_err-prog-clause-part : goal.returns-in_err-prog-clause-part
returns-in_err-prog-clause-part g c =
    let whole = c.min-stored.result - c.min-stored.result % c.geometry-page.result.page in
    let first : length (take whole c.args.bytes.now) ≡ whole = length-take-le whole c.args.bytes.now (omega arith) in
    let shape = g.met.D.BlockDevice.shape c.args.device.now in
    ChangesOnlyRange-wider g.D.BlockDevice c.args.off (c.args.off + length c.args.bytes.now)
    (ChangesOnlyRange-program g.D.BlockDevice c.prog.result (omega (arith, shape.count, c.requires.can.in_device)) (omega (arith, shape.sizes c.args.block c.requires.can.in_device, c.requires.can.in_block))
    c.prog.ensures.programs.ok c.prog.ensures.programs.err c.prog.ensures.programs.others c.prog.ensures.geometry c.prog.ensures.history)
    (omega arith) (omega (arith, first))

pub returns-then-whole-stored-clause-part : goal.returns-then-whole-stored-clause-part
returns-then-whole-stored-clause-part g c =
    let whole = c.min-stored.result - c.min-stored.result % c.geometry-page.result.page in
    let first : length (take whole c.args.bytes.now) ≡ whole = length-take-le whole c.args.bytes.now (omega arith) in
    let shape = g.met.D.BlockDevice.shape c.args.device.now in
    ChangesOnlyRange-wider g.D.BlockDevice c.args.off (c.args.off + length c.args.bytes.now)
    (ChangesOnlyRange-program g.D.BlockDevice c.prog.result (omega (arith, shape.count, c.requires.can.in_device)) (omega (arith, shape.sizes c.args.block c.requires.can.in_device, c.requires.can.in_block))
    c.prog.ensures.programs.ok c.prog.ensures.programs.err c.prog.ensures.programs.others c.prog.ensures.geometry c.prog.ensures.history)
    (omega arith) (omega (arith, first))

pub returns-clause-part : goal.returns-clause-part
returns-clause-part g c =
    let page = c.geometry-page.result.page in
    let whole = c.min-stored.result - c.min-stored.result % page in
    let first : length (take whole c.args.bytes.now) ≡ whole = length-take-le whole c.args.bytes.now (omega arith) in
    let known : (g.D.BlockDevice.geometry c.args.device.now).page ≡ page = grind arith in
    let then : (g.D.BlockDevice.geometry c.prog.new.self).page ≡ page = grind arith in
    let room = page_room c.args.off c.min-stored.result (length c.args.bytes.now) page (rw known at c.requires.can.begins) (rw known at c.requires.can.ends) (omega arith) (omega arith) in
    let shape = g.met.D.BlockDevice.shape c.args.device.now in
    ChangesOnlyRange-trans g.D.BlockDevice
    (ChangesOnlyRange-wider g.D.BlockDevice c.args.off (c.args.off + length c.args.bytes.now)
    (ChangesOnlyRange-program g.D.BlockDevice c.prog.result (omega (arith, shape.count, c.requires.can.in_device)) (omega (arith, shape.sizes c.args.block c.requires.can.in_device, c.requires.can.in_block))
    c.prog.ensures.programs.ok c.prog.ensures.programs.err c.prog.ensures.programs.others c.prog.ensures.geometry c.prog.ensures.history)
    (omega arith) (omega (arith, first)))
    (ChangesOnlyRange-wider g.D.BlockDevice c.args.off (c.args.off + length c.args.bytes.now) c.program_partial_page.ensures.part (omega arith) (omega (arith, then, room)))

pub returns-clause-ok : goal.returns-clause-ok
returns-clause-ok g c =
    let whole = c.min-stored.result - c.min-stored.result % c.geometry-page.result.page in
    let bytes = c.args.bytes.now in
    let old : Blocks = g.D.BlockDevice.blocks c.args.device.now in
    let rest : List ℕ = slice_range bytes whole c.min-stored.result in
    let first : length (take whole bytes) ≡ whole = length-take-le whole bytes (omega arith) in
    let both : take whole bytes ++ rest ≡ take c.min-stored.result bytes = take-append-slice_range bytes whole c.min-stored.result (omega arith) in
    let size : length (take whole bytes) + length rest ≡ c.min-stored.result = sym (length-append (take whole bytes) rest) ∙ ap length both ∙ length-take-le c.min-stored.result bytes (omega arith) in
    let shape = g.met.D.BlockDevice.shape c.args.device.now in
    on_ok_weaker c.program_partial_page.result (λ is. is
    ∙ ap (λ (d : Blocks). programmed d c.args.block (c.args.off + whole) rest) c.in_ok-prog.ensures.programs.ok
    ∙ ap (λ n. programmed (programmed old c.args.block c.args.off (take whole bytes)) c.args.block (c.args.off + n) rest) (sym first)
    ∙ programmed_next old c.args.block c.args.off (take whole bytes) rest (omega (arith, shape.count, c.requires.can.in_device)) (omega (arith, size, shape.sizes c.args.block c.requires.can.in_device, c.requires.can.in_block))
    ∙ ap (λ (l : List ℕ). programmed old c.args.block c.args.off l) (both ∙ ap (λ n. take n bytes) c.min-stored.ensures ∙ take_min c.args.k bytes)) c.program_partial_page.ensures.ok

pub program_partial_page-requires-clause-page : goal.program_partial_page-requires-clause-page
program_partial_page-requires-clause-page g c = record {
  in_device = search rules;
  in_block = search rules;
  begins = search rules;
  unprogrammed = λ k from to.
      let page = c.geometry-page.result.page in
      let whole = c.min-stored.result - c.min-stored.result % page in
      let first : length (take whole c.args.bytes.now) ≡ whole = length-take-le whole c.args.bytes.now (omega arith) in
      let known : (g.D.BlockDevice.geometry c.args.device.now).page ≡ page = grind arith in
      let then : (g.D.BlockDevice.geometry c.prog.new.self).page ≡ page = grind arith in
      let room = page_room c.args.off c.min-stored.result (length c.args.bytes.now) page (rw known at c.requires.can.begins) (rw known at c.requires.can.ends) (omega arith) (omega arith) in
      (keeps-program c.prog.ensures.history).above k (omega (arith, first)) (c.requires.can.unprogrammed k (omega arith) (omega (arith, then, room)));
}

use Rattle.std.proofs.Common.{rules, ◌≡◌, ◌<◌, false, ◌∙◌, ap, sym, subst, arith}
use Rattle.std.proofs.lemmas.List.{take-replicate}
use Rattle.lfs_device.specs.declared.geometry.Geometry.{Geometry}
use Rattle.lfs_pair.proofs.Common.{block_bytes, has_commit, program_count, read_count, began, goes_on, AllCallsSince-only, AllCallsSince-until}
use Rattle.lfs_model.proofs.Pages.{page_at_least, page_at_most}
use Rattle.lfs_model.proofs.Zeroed.{no_commit-programmed}
use Rattle.lfs_model.proofs.Overwrites.{slice_range_whole}
use Rattle.lfs_pair.proofs.Calls.{block_by_erase, block_by_program, block_by_reads, block_trans, reads_one}
use Rattle.lfs_pair.proofs.fresh.erase_cleanly.Goals as goal

pub returns-in_err-erase-clause-writes : goal.returns-in_err-erase-clause-writes
returns-in_err-erase-clause-writes g c = record {
  device = block_by_erase c.erase.ensures.others c.erase.ensures.geometry c.erase.ensures.history;
  few = let a = ap read_count c.erase.ensures.history in omega (arith, a);
  errors = search rules;
  faults = search rules;
}

pub returns-in_err-read-clause-writes : goal.returns-in_err-read-clause-writes
returns-in_err-read-clause-writes g c = record {
  device = block_trans (block_by_erase c.erase.ensures.others c.erase.ensures.geometry c.erase.ensures.history) (block_by_reads (reads_one c.read.ensures.same c.read.ensures.geometry c.read.ensures.history));
  few = let a = ap read_count c.erase.ensures.history in let b = ap read_count c.read.ensures.history in omega (arith, a, b);
  errors = search rules;
  faults = search rules;
}

pub returns-in_err-prog-clause-writes : goal.returns-in_err-prog-clause-writes
returns-in_err-prog-clause-writes g c = record {
  device = block_trans (block_by_erase c.erase.ensures.others c.erase.ensures.geometry c.erase.ensures.history) (block_trans (block_by_reads (reads_one c.read.ensures.same c.read.ensures.geometry c.read.ensures.history)) (block_by_program c.prog.ensures.programs.others c.prog.ensures.geometry c.prog.ensures.history));
  few = let a = ap read_count c.erase.ensures.history in let b = ap read_count c.read.ensures.history in let d = ap read_count c.prog.ensures.history in omega (arith, a, b, d);
  errors = search rules;
  faults = search rules;
}

pub returns-in_ok-prog-clause-writes : goal.returns-in_ok-prog-clause-writes
returns-in_ok-prog-clause-writes g c = record {
  device = block_trans (block_by_erase c.erase.ensures.others c.erase.ensures.geometry c.erase.ensures.history) (block_trans (block_by_reads (reads_one c.read.ensures.same c.read.ensures.geometry c.read.ensures.history)) (block_by_program c.prog.ensures.programs.others c.prog.ensures.geometry c.prog.ensures.history));
  few = let a = ap read_count c.erase.ensures.history in let b = ap read_count c.read.ensures.history in let d = ap read_count c.prog.ensures.history in omega (arith, a, b, d);
  errors = search rules;
  faults = search rules;
}

pub returns-else-has_commit-clause-writes : goal.returns-else-has_commit-clause-writes
returns-else-has_commit-clause-writes g c = record {
  device = block_trans (block_by_erase c.erase.ensures.others c.erase.ensures.geometry c.erase.ensures.history) (block_by_reads (reads_one c.read.ensures.same c.read.ensures.geometry c.read.ensures.history));
  few = let a = ap read_count c.erase.ensures.history in let b = ap read_count c.read.ensures.history in omega (arith, a, b);
  errors = search rules;
  faults = search rules;
}

pub returns-in_ok-prog-clause-cleared : goal.returns-in_ok-prog-clause-cleared
returns-in_ok-prog-clause-cleared g c =
    let shape = g.met.D.BlockDevice.shape c.read.new.self in
    let same = ap (λ (k : Geometry). k.block_count) (c.read.ensures.geometry ∙ c.erase.ensures.geometry) in
    let power = c.geometry-page.result.valid.power in
    no_commit-programmed _ _ _ _ _ c.in_ok-prog.ensures.programs.ok (omega (arith, shape.count, same, c.requires.in_device)) (take-replicate c.geometry-page.result.page 512 0 (page_at_most _ power)) (page_at_least _ power)

-- if each erase leaves no log, none is read afterwards
pub returns-in_ok-prog-clause-clears : goal.returns-in_ok-prog-clause-clears
returns-in_ok-prog-clause-clears g c =
    let blocks = g.D.BlockDevice.blocks c.erase.new.self in
    let size = (g.met.D.BlockDevice.shape c.erase.new.self).sizes c.args.block (subst (λ (k : Geometry). c.args.block < k.block_count) (sym c.erase.ensures.geometry) c.requires.in_device) in
    let whole = slice_range_whole (block_bytes blocks c.args.block) _ (c.requires.buf ∙ sym (ap (λ (k : Geometry). k.block_size) c.erase.ensures.geometry) ∙ sym size) in
    let read = c.in_ok-read.ensures.bytes ∙ whole in
    let erased = ap program_count c.in_ok-erase.ensures.history in
    let then = ap program_count c.in_ok-read.ensures.history in
    let last = ap program_count c.in_ok-prog.ensures.history in
    record {
      erases = search rules;
      at_most = omega arith;
      programs = λ logs.
          let first = goes_on {P = λ _. Unit {0}} began c.in_ok-erase.ensures.history tt in
          let behind = goes_on {P = λ _. Unit {0}} (goes_on began c.in_ok-read.ensures.history tt) c.in_ok-prog.ensures.history tt in
          let none : has_commit (block_bytes blocks c.args.block) ≡ false = AllCallsSince-only (AllCallsSince-until logs first behind) c.in_ok-erase.ensures.history in
          absurd (cc (none, read, c.if-has_commit.true, c.has_commit.ensures, c.read-2.ensures));
    }

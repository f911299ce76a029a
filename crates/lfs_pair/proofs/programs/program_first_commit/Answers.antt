use Rattle.std.proofs.Common.{rules, ◌≡◌, ◌+◌, ◌-◌, ◌^◌, ◌≤◌, ℕ, refl, sym, ap, ◌∙◌, inl, arith, subst}
use Rattle.std.specs.Prelude.{min, take}
use Rattle.lfs_device.specs.declared.geometry.Geometry.{Geometry}
use Rattle.lfs_pair.proofs.Common.{block_bytes, overwritten_at, IsValidGeometry, AreUnprogrammed, blank_answer_count, erase_count, program_count, read_count, padded_commit_end, LogGetsCommit, goes_on, HoldsAtLosses-read_count, LeftByLoss-read, AreUnprogrammed-read_count, blank_answer_count-read_count, erase_count-read_count, program_count-read_count, SameExcept-refl}
use Rattle.lfs_model.specs.format.Blocks.{programmed}
use Rattle.lfs_model.proofs.Histories.{AreUnprogrammed-part, is_unprogrammed_byte-program}
use Rattle.lfs_model.proofs.Overwrites.{block_bytes-programmed, take-overwritten}
use Rattle.lfs_pair.proofs.Committed.{gets_commit, goes_into, left_in_block}
use Rattle.lfs_pair.proofs.Calls.{block_by_program, block_by_reads, block_trans}
use Rattle.lfs_pair.proofs.programs.program_first_commit.Goals as goal

-- before the program

pub returns-in_err-next-clause-stops : goal.returns-in_err-next-clause-stops
returns-in_err-next-clause-stops g c = HoldsAtLosses-read_count LeftByLoss-read c.read_four_bytes.ensures.device.reads (SameExcept-refl _ _, inl refl)

pub prog-requires : goal.prog-requires
prog-requires g c = record {
  can = record {
    in_device = search rules;
    in_block = search rules;
    begins = search rules;
    ends = search rules;
    unprogrammed =
        AreUnprogrammed-part (g.D.BlockDevice.history c.read_four_bytes.new.dev) c.args.block
        (AreUnprogrammed-read_count c.args.block c.read_four_bytes.ensures.device.reads c.requires.unprogrammed) (omega arith) (omega (arith, c.requires.ends, c.in_ok-pages.ensures.size));
  };
}

-- the program

-- the end fits 32 bits
whole_end : (padded result size page count : ℕ) → result ≡ min padded (2 ^ 32 - 1) → 0 + padded ≤ size → IsValidGeometry size page count → result ≡ 0 + padded
whole_end padded result size page count is ends valid = omega (arith, valid.no_larger)

at_least : (padded long end : ℕ) → long ≡ padded → end ≡ 0 + padded → 0 + long ≤ end
at_least padded long end same is = omega arith

pub returns-in_err-prog-clause-stops : goal.returns-in_err-prog-clause-stops
returns-in_err-prog-clause-stops g c =
    let end : c.end_on_page-end.result ≡ 0 + padded_commit_end c.args.builder = whole_end _ _ _ _ _ c.end_on_page-end.ensures c.requires.ends (g.D.BlockDevice.geometry c.args.dev.now).valid in
    let size = (g.met.D.BlockDevice.shape c.args.dev.now).sizes c.args.block c.requires.in_device in
    goes_on (HoldsAtLosses-read_count LeftByLoss-read c.read_four_bytes.ensures.device.reads (SameExcept-refl _ _, inl refl)) c.prog.ensures.history
    (λ disk left. left_in_block disk c.read_four_bytes.ensures.device.same (goes_into c.in_ok-pages.ensures.commit c.in_ok-pages.ensures.size c.requires.goes size c.requires.ends end c.in_ok-next.ensures.bytes) left)

pub returns-clause-adds : goal.returns-clause-adds
returns-clause-adds g c =
    let end : c.end_on_page-end.result ≡ 0 + padded_commit_end c.args.builder = whole_end _ _ _ _ _ c.end_on_page-end.ensures c.requires.ends (g.D.BlockDevice.geometry c.args.dev.now).valid in
    let shape = g.met.D.BlockDevice.shape c.args.dev.now in
    let size = shape.sizes c.args.block c.requires.in_device in
    let old = g.D.BlockDevice.blocks c.args.dev.now in
    let is : block_bytes (g.D.BlockDevice.blocks c.prog.new.self) c.args.block ≡ overwritten_at (block_bytes old c.args.block) 0 c.in_ok-pages.pages.now =
    ap (λ d. block_bytes d c.args.block) c.in_ok-prog.ensures.programs.ok
    ∙ ap (λ d. block_bytes (programmed d c.args.block 0 c.in_ok-pages.pages.now) c.args.block) c.read_four_bytes.ensures.device.same
    ∙ block_bytes-programmed old c.args.block 0 c.in_ok-pages.pages.now (omega (arith, shape.count, c.requires.in_device)) in
    record {
      commit = subst (LogGetsCommit c.args.builder (block_bytes old c.args.block)) (sym is) (gets_commit (goes_into c.in_ok-pages.ensures.commit c.in_ok-pages.ensures.size c.requires.goes size c.requires.ends end c.in_ok-next.ensures.bytes));
      end_is = search rules;
      kept = ap (take 0) is ∙ take-overwritten (block_bytes old c.args.block) 0 c.in_ok-pages.pages.now (omega (arith, size, c.requires.ends));
    }

pub returns-clause-written : goal.returns-clause-written
returns-clause-written g c =
    let old : AreUnprogrammed (g.D.BlockDevice.history c.read_four_bytes.new.dev) c.args.block 0 (g.D.BlockDevice.geometry c.args.dev.now).block_size =
    AreUnprogrammed-read_count c.args.block c.read_four_bytes.ensures.device.reads c.requires.unprogrammed in
    let end : c.end_on_page-end.result ≡ 0 + padded_commit_end c.args.builder = whole_end _ _ _ _ _ c.end_on_page-end.ensures c.requires.ends (g.D.BlockDevice.geometry c.args.dev.now).valid in
    record {
      end_is = search rules;
      last_is = search rules;
      whole_pages = search rules;
      unprogrammed = subst (λ (k : Geometry). AreUnprogrammed (g.D.BlockDevice.history c.prog.new.self) c.args.block (c.end_on_page-end.result) k.block_size) (sym (c.prog.ensures.geometry ∙ c.read_four_bytes.ensures.device.geometry))
          (is_unprogrammed_byte-program {low = 0} c.prog.ensures.history old (omega arith) (at_least _ _ _ c.in_ok-pages.ensures.size end));
    }

pub returns-clause-stops : goal.returns-clause-stops
returns-clause-stops g c =
    let end : c.end_on_page-end.result ≡ 0 + padded_commit_end c.args.builder = whole_end _ _ _ _ _ c.end_on_page-end.ensures c.requires.ends (g.D.BlockDevice.geometry c.args.dev.now).valid in
    let size = (g.met.D.BlockDevice.shape c.args.dev.now).sizes c.args.block c.requires.in_device in
    goes_on (HoldsAtLosses-read_count LeftByLoss-read c.read_four_bytes.ensures.device.reads (SameExcept-refl _ _, inl refl)) c.prog.ensures.history
    (λ disk left. left_in_block disk c.read_four_bytes.ensures.device.same (goes_into c.in_ok-pages.ensures.commit c.in_ok-pages.ensures.size c.requires.goes size c.requires.ends end c.in_ok-next.ensures.bytes) left)

pub returns-in_err-next-clause-writes : goal.returns-in_err-next-clause-writes
returns-in_err-next-clause-writes g c = record { device = block_by_reads c.in_err-next.ensures.device; few = c.in_err-next.ensures.few; errors = search rules; faults = search rules }

pub returns-in_err-prog-clause-writes : goal.returns-in_err-prog-clause-writes
returns-in_err-prog-clause-writes g c = record {
  device = block_trans (block_by_reads c.in_ok-next.ensures.device) (block_by_program c.in_err-prog.ensures.programs.others c.in_err-prog.ensures.geometry c.in_err-prog.ensures.history);
  few = let here = ap read_count c.prog.ensures.history in let before = c.read_four_bytes.ensures.few in omega (arith, here, before);
  errors = search rules;
  faults = search rules;
}

pub returns-clause-writes : goal.returns-clause-writes
returns-clause-writes g c = record {
  device = block_trans (block_by_reads c.in_ok-next.ensures.device) (block_by_program c.in_ok-prog.ensures.programs.others c.in_ok-prog.ensures.geometry c.in_ok-prog.ensures.history);
  few = let here = ap read_count c.prog.ensures.history in let before = c.read_four_bytes.ensures.few in omega (arith, here, before);
  errors = search rules;
  faults = search rules;
}

pub returns-clause-programs : goal.returns-clause-programs
returns-clause-programs g c =
    let reads = c.read_four_bytes.ensures.device.reads in
    record {
      erases = let here = ap erase_count c.prog.ensures.history in let before = erase_count-read_count reads in omega arith;
      programs = let here = ap program_count c.prog.ensures.history in let before = program_count-read_count reads in omega arith;
      blanks = let here = ap blank_answer_count c.prog.ensures.history in let before = blank_answer_count-read_count reads in omega arith;
    }

use Rattle.std.proofs.Common.{rules, arith, ◌+◌, ◌≤◌, ap, sym, subst}
use Rattle.lfs_device.specs.declared.geometry.Geometry.{Geometry}
use Rattle.lfs_pair.proofs.Common.{block_bytes, read_count, padded_commit_end, content_view}
use Rattle.lfs_pair.proofs.Anew.{is_anew, fits_sound, anew_room, anew_within, anew_holds, anew_end, leaves_erase, leaves_anew}
use Rattle.lfs_pair.proofs.Calls.{block_by_erase, block_trans}
use Rattle.lfs_pair.proofs.programs.rewrite_block.Goals as goal

pub returns-in_err-erase-clause-stops : goal.returns-in_err-erase-clause-stops
returns-in_err-erase-clause-stops g c clean = leaves_erase c.erase.ensures.history

pub program_first_commit-requires : goal.program_first_commit-requires
program_first_commit-requires g c = record {
  in_device = search rules;
  begins = search rules;
  page = search rules;
  room =
      anew_room (is_anew (content_view c.args.content.now) c.push_content.ensures c.new-builder.ensures c.requires.buf (ap (λ (k : Geometry). k.page) c.geometry-page.ensures) c.from_bits-before.ensures)
      (g.D.BlockDevice.geometry c.args.dev.now).valid c.requires.fits;
  ends =
      subst (λ (k : Geometry). 0 + padded_commit_end c.push_content.new.builder ≤ k.block_size) (sym c.erase.ensures.geometry)
      (anew_within (is_anew (content_view c.args.content.now) c.push_content.ensures c.new-builder.ensures c.requires.buf (ap (λ (k : Geometry). k.page) c.geometry-page.ensures) c.from_bits-before.ensures)
      (g.D.BlockDevice.geometry c.args.dev.now).valid c.requires.fits);
  goes = search rules;
  unprogrammed = search rules;
}

pub returns-in_err-written-clause-stops : goal.returns-in_err-written-clause-stops
returns-in_err-written-clause-stops g c =
    leaves_anew (is_anew (content_view c.args.content.now) c.push_content.ensures c.new-builder.ensures c.requires.buf (ap (λ (k : Geometry). k.page) c.geometry-page.ensures) c.from_bits-before.ensures)
    (fits_sound c.requires.logged c.requires.names c.requires.fits) c.erase.ensures.others c.in_ok-erase.ensures.history c.program_first_commit.ensures.stops

pub returns-clause-anew : goal.returns-clause-anew
returns-clause-anew g c =
    let holds = anew_holds (block_bytes (g.D.BlockDevice.blocks c.program_first_commit.new.dev) c.args.block)
    (is_anew (content_view c.args.content.now) c.push_content.ensures c.new-builder.ensures c.requires.buf (ap (λ (k : Geometry). k.page) c.geometry-page.ensures) c.from_bits-before.ensures)
    (fits_sound c.requires.logged c.requires.names c.requires.fits) c.in_ok-written.ensures.adds.commit in
    record { holds = holds; erases = search rules; programs = search rules; blanks = search rules }

pub returns-clause-stops : goal.returns-clause-stops
returns-clause-stops g c =
    leaves_anew (is_anew (content_view c.args.content.now) c.push_content.ensures c.new-builder.ensures c.requires.buf (ap (λ (k : Geometry). k.page) c.geometry-page.ensures) c.from_bits-before.ensures)
    (fits_sound c.requires.logged c.requires.names c.requires.fits) c.erase.ensures.others c.in_ok-erase.ensures.history c.program_first_commit.ensures.stops

pub returns-clause-size : goal.returns-clause-size
returns-clause-size g c =
    anew_end (content_view c.args.content.now) c.in_ok-written.written.end c.in_ok-written.ensures.adds.end_is
    (is_anew (content_view c.args.content.now) c.push_content.ensures c.new-builder.ensures c.requires.buf (ap (λ (k : Geometry). k.page) c.geometry-page.ensures) c.from_bits-before.ensures)

pub returns-in_err-erase-clause-writes : goal.returns-in_err-erase-clause-writes
returns-in_err-erase-clause-writes g c = record {
  device = block_by_erase c.erase.ensures.others c.erase.ensures.geometry c.erase.ensures.history;
  few = let here = ap read_count c.erase.ensures.history in omega (arith, here);
  errors = search rules;
  faults = search rules;
}

pub returns-in_err-written-clause-writes : goal.returns-in_err-written-clause-writes
returns-in_err-written-clause-writes g c = record {
  device = block_trans (block_by_erase c.erase.ensures.others c.erase.ensures.geometry c.erase.ensures.history) c.program_first_commit.ensures.writes.device;
  few = let before = ap read_count c.erase.ensures.history in let here = c.program_first_commit.ensures.writes.few in omega (arith, before, here);
  errors = search rules;
  faults = search rules;
}

pub returns-clause-writes : goal.returns-clause-writes
returns-clause-writes g c = record {
  device = block_trans (block_by_erase c.erase.ensures.others c.erase.ensures.geometry c.erase.ensures.history) c.program_first_commit.ensures.writes.device;
  few = let before = ap read_count c.erase.ensures.history in let here = c.program_first_commit.ensures.writes.few in omega (arith, before, here);
  errors = search rules;
  faults = search rules;
}

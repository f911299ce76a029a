use Rattle.std.proofs.Common.{rules, ◌≡◌, ◌+◌, ◌-◌, ◌^◌, ◌≤◌, ℕ, refl, sym, ap, ◌∙◌, arith, subst}
use Rattle.std.specs.Prelude.{length, min, take}
use Rattle.lfs_model.specs.layers.Commit.{four_bytes_at}
use Rattle.lfs_device.specs.declared.geometry.Geometry.{Geometry}
use Rattle.lfs_pair.proofs.Common.{block_bytes, overwritten_at, IsValidGeometry, AreUnprogrammed, read_count, padded_commit_end, IsCommitOffset, LogGetsCommit, began, goes_on}
use Rattle.lfs_model.proofs.Histories.{AreUnprogrammed-part, is_unprogrammed_byte-program}
use Rattle.lfs_model.proofs.Overwrites.{block_bytes-programmed, take-overwritten}
use Rattle.lfs_pair.proofs.Committed.{gets_commit, goes_into, left_in_block}
use Rattle.lfs_pair.proofs.Calls.{block_by_program}
use Rattle.lfs_pair.proofs.programs.append_commit.Goals as goal

pub prog-requires : goal.prog-requires
prog-requires g c = record {
  can = record {
    in_device = search rules;
    in_block = search rules;
    begins = search rules;
    ends = search rules;
    unprogrammed = AreUnprogrammed-part (g.D.BlockDevice.history c.args.dev.now) c.args.block c.requires.can.unprogrammed (omega arith) (omega (arith, c.requires.can.ends, c.in_ok-pages.ensures.size));
  };
}

-- the end fits 32 bits
whole_end : (at padded result size page count : ℕ) → result ≡ min padded (2 ^ 32 - 1) → at + padded ≤ size → IsValidGeometry size page count → at + result ≡ at + padded
whole_end at padded result size page count is ends valid = omega (arith, valid.no_larger)

at_least : (at padded long end : ℕ) → long ≡ padded → end ≡ at + padded → at + long ≤ end
at_least at padded long end same is = omega arith

pub returns-in_err-prog-clause-writes : goal.returns-in_err-prog-clause-writes
returns-in_err-prog-clause-writes g c = record {
  device = block_by_program c.in_err-prog.ensures.programs.others c.in_err-prog.ensures.geometry c.in_err-prog.ensures.history;
  few = let here = ap read_count c.prog.ensures.history in omega (arith, here);
  errors = search rules;
  faults = search rules;
}

pub returns-in_err-prog-clause-stops : goal.returns-in_err-prog-clause-stops
returns-in_err-prog-clause-stops g c =
    let end : c.args.at + c.end_on_page.result ≡ c.args.at + padded_commit_end c.args.builder = whole_end _ _ _ _ _ _ c.end_on_page.ensures c.requires.can.ends (g.D.BlockDevice.geometry c.args.dev.now).valid in
    let size = (g.met.D.BlockDevice.shape c.args.dev.now).sizes c.args.block c.requires.can.in_device in
    goes_on began c.prog.ensures.history
    (λ disk left. left_in_block disk refl (goes_into c.in_ok-pages.ensures.commit c.in_ok-pages.ensures.size c.requires.can.goes size c.requires.can.ends end (c.four_bytes-next.ensures ∙ ap (λ b. four_bytes_at b (c.args.at + c.end_on_page.result)) c.requires.holds)) left)

pub overwrite_bytes-requires : goal.overwrite_bytes-requires
overwrite_bytes-requires g c =
    let size = (g.met.D.BlockDevice.shape c.args.dev.now).sizes c.args.block c.requires.can.in_device in
    let same = ap length c.requires.holds in
    omega (arith, size, same, c.requires.can.ends, c.in_ok-pages.ensures.size)

pub returns-clause-adds : goal.returns-clause-adds
returns-clause-adds g c =
    let end : c.args.at + c.end_on_page.result ≡ c.args.at + padded_commit_end c.args.builder = whole_end _ _ _ _ _ _ c.end_on_page.ensures c.requires.can.ends (g.D.BlockDevice.geometry c.args.dev.now).valid in
    let shape = g.met.D.BlockDevice.shape c.args.dev.now in
    let size = shape.sizes c.args.block c.requires.can.in_device in
    let old = g.D.BlockDevice.blocks c.args.dev.now in
    let long = ap length c.requires.holds ∙ size in
    let next = c.four_bytes-next.ensures in
    let goes = subst (λ b. IsCommitOffset c.args.builder.revision c.args.builder.previous b c.args.at) (sym c.requires.holds) c.requires.can.goes in
    record {
      gets = record {
        commit = subst (LogGetsCommit c.args.builder c.args.bytes.now) (sym c.overwrite_bytes.ensures) (gets_commit (goes_into c.in_ok-pages.ensures.commit c.in_ok-pages.ensures.size goes long c.requires.can.ends end next));
        end_is = end;
        kept = ap (take c.args.at) c.overwrite_bytes.ensures ∙ take-overwritten c.args.bytes.now c.args.at c.in_ok-pages.pages.now (omega (arith, long, c.requires.can.ends));
      };
      same = c.overwrite_bytes.ensures ∙ ap (λ b. overwritten_at b c.args.at c.in_ok-pages.pages.now) c.requires.holds
          ∙ sym (ap (λ d. block_bytes d c.args.block) c.in_ok-prog.ensures.programs.ok ∙ block_bytes-programmed old c.args.block c.args.at c.in_ok-pages.pages.now (omega (arith, shape.count, c.requires.can.in_device)));
    }

pub returns-clause-written : goal.returns-clause-written
returns-clause-written g c =
    let end : c.args.at + c.end_on_page.result ≡ c.args.at + padded_commit_end c.args.builder = whole_end _ _ _ _ _ _ c.end_on_page.ensures c.requires.can.ends (g.D.BlockDevice.geometry c.args.dev.now).valid in
    record {
      end_is = search rules;
      last_is = search rules;
      whole_pages = search rules;
      unprogrammed = subst (λ (k : Geometry). AreUnprogrammed (g.D.BlockDevice.history c.prog.new.self) c.args.block (c.args.at + c.end_on_page.result) k.block_size) (sym c.prog.ensures.geometry)
          (is_unprogrammed_byte-program {low = c.args.at} c.prog.ensures.history c.requires.can.unprogrammed (omega arith) (at_least _ _ _ _ c.in_ok-pages.ensures.size end));
    }

pub returns-clause-writes : goal.returns-clause-writes
returns-clause-writes g c = record {
  device = block_by_program c.in_ok-prog.ensures.programs.others c.in_ok-prog.ensures.geometry c.in_ok-prog.ensures.history;
  few = let here = ap read_count c.prog.ensures.history in omega (arith, here);
  errors = search rules;
  faults = search rules;
}

pub returns-clause-stops : goal.returns-clause-stops
returns-clause-stops g c =
    let end : c.args.at + c.end_on_page.result ≡ c.args.at + padded_commit_end c.args.builder = whole_end _ _ _ _ _ _ c.end_on_page.ensures c.requires.can.ends (g.D.BlockDevice.geometry c.args.dev.now).valid in
    let size = (g.met.D.BlockDevice.shape c.args.dev.now).sizes c.args.block c.requires.can.in_device in
    goes_on began c.prog.ensures.history
    (λ disk left. left_in_block disk refl (goes_into c.in_ok-pages.ensures.commit c.in_ok-pages.ensures.size c.requires.can.goes size c.requires.can.ends end (c.four_bytes-next.ensures ∙ ap (λ b. four_bytes_at b (c.args.at + c.end_on_page.result)) c.requires.holds)) left)

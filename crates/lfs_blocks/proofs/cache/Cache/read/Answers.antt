use Rattle.std.proofs.Common.{rules, ◌∙◌, subst}
use Rattle.lfs_model.specs.session.History.{OnlyReadsSince}
use Rattle.lfs_model.proofs.Histories.{goes_on_by}
use Rattle.lfs_blocks.proofs.cache.Cache.read.Goals as goal

pub returns-in-Err-NoMemory-clause-reading : goal.returns-in-Err-NoMemory-clause-reading
returns-in-Err-NoMemory-clause-reading g c =
    let first = c.read_block.ensures.device in
    let second = c.read_range.ensures.device in
    record {
      device = record {
        same = second.same ∙ first.same;
        geometry = second.geometry ∙ first.geometry;
        reads = goes_on_by first.reads (subst (λ blocks. OnlyReadsSince blocks (g.D.BlockDevice.history c.read_block.new.device) (g.D.BlockDevice.history c.read_range.new.device)) first.same second.reads);
      };
      reports = search rules;
    }

use Rattle.lfs_fs.proofs.ImageLimits.{read_if_ok, ready_if_read}
use Rattle.lfs_fs.proofs.session.Session.superblock.Goals as goal

pub invariant_of-self : goal.invariant_of-self
invariant_of-self g c = ready_if_read c.self.inside.tree c.superblock-superblock.new.self c.self.inside.files c.superblock-superblock.result c.self.invariant c.superblock-superblock.ensures.asks c.lemma_calls_conform.ensures

pub returns-clause-read : goal.returns-clause-read
returns-clause-read g c =
    read_if_ok c.self.inside.tree c.superblock-superblock.new.self c.self.inside.files _ c.superblock-superblock.result c.self.view_is c.if-has_failed.ensures c.superblock-superblock.ensures.asks.asked

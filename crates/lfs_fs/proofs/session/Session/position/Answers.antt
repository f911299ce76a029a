use Rattle.std.proofs.Common.{◌∙◌}
use Rattle.lfs_fs.proofs.Common.{file_position, open_file_at}
use Rattle.lfs_fs.proofs.FileAnswers.{answers_failed, answers_none, answers_some, position_found, position_none, position_seen}
use Rattle.lfs_fs.proofs.session.Session.position.Goals as goal

pub returns-then-has_failed : goal.returns-then-has_failed
returns-then-has_failed g c = answers_failed file_position c.self.inside.tree c.self.inside.files _ c.args.fd c.self.view_is c.if-has_failed.ensures

pub returns-in-Some : goal.returns-in-Some
returns-in-Some g c =
    let found = position_found (open_file_at c.self.inside.files c.args.fd) c.in-Some.position c.in-Some.ensures in
    answers_some file_position c.self.inside.tree c.self.inside.files _ c.args.fd c.in-Some.position found.0 c.self.view_is c.if-has_failed.ensures found.1.0 (position_seen c.args.self.now c.self.inside.tree found.0 ∙ found.1.1)

pub returns-in-None : goal.returns-in-None
returns-in-None g c = answers_none file_position c.self.inside.tree c.self.inside.files _ c.args.fd c.self.view_is c.if-has_failed.ensures (position_none (open_file_at c.self.inside.files c.args.fd) c.in-None.ensures)

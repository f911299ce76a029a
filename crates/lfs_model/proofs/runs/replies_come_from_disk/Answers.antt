use Rattle.std.proofs.Common.{◌≡◌, sym, ap, ◌∙◌}
use Rattle.std.specs.Prelude.{codes}
use Rattle.lfs_model.proofs.Common.{disk_tree, empty_tree, Session, file_reader, file_numbered, SessionHealth, HasFailed, Healthy, mounted_session, operation_result, read_reply, small_image}
use Rattle.lfs_model.specs.session.Operations as ops
use Rattle.lfs_model.proofs.Fresh.{shows}
use Rattle.lfs_model.proofs.FreshSession.{pairs, are_accepted, tree_is_empty, around, surrounds}
use Rattle.lfs_model.proofs.runs.replies_come_from_disk.Goals as goal

pub returns-clause-surrounded : goal.returns-clause-surrounded
returns-clause-surrounded c = surrounds

pub returns-clause-not_unused : goal.returns-clause-not_unused
returns-clause-not_unused c = λ h. absurd (let e = h.used in cc)

pub returns-clause-scratch : goal.returns-clause-scratch
returns-clause-scratch c = record {
  pairs = pairs;
  accepted = are_accepted;
  around = around;
  surrounds = surrounds;
  is = sym (ap (λ t. (operation_result around (mounted_session t) (ops.Stat (codes "/"))).0) (shows small_image));
}

pub returns-clause-not_otherwise : goal.returns-clause-not_otherwise
returns-clause-not_otherwise c = λ h. absurd (let e = h.is ∙ ap (λ t. (operation_result h.around (mounted_session t) (ops.Stat (codes "/"))).0) (tree_is_empty h.pairs h.accepted) in cc)

session_of : (s t : Session) → Healthy s ≡ Healthy t → s ≡ t
session_of s t e = ap (λ z. or_else z) e
  where
    or_else : SessionHealth → Session
    or_else HasFailed = s
    or_else (Healthy z) = z

pub returns-clause-no_reader : goal.returns-clause-no_reader
returns-clause-no_reader c = λ bytes h. absurd (
    let e = h.is ∙ ap (λ (s : Session). read_reply (disk_tree small_image h.pairs) (file_reader (file_numbered s.files 0)) 1) (sym (session_of (mounted_session empty_tree) h.session h.healthy)) in
    cc)

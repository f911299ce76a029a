use Rattle.lfs_tag.specs.FieldsView.{superblock_view}
use Rattle.lfs_fs.proofs.ImageLimits.{back_if_err, begun_at_once, begun_if_ok, corrupt_if_err, failing_back, given_back, just_at_once, just_if_ok, longer_at_once, longer_if_ok, same_limits}
use Rattle.lfs_fs.proofs.image_limits.mount_with_limits.Goals as goal

pub returns-then-have_same_limits-clause-begun : goal.returns-then-have_same_limits-clause-begun
returns-then-have_same_limits-clause-begun g c =
    begun_at_once g.D.BlockDevice c.args.device c.args.profile c.in_ok-session.session c.superblock.new.self c.in_ok-session.ensures.begun c.in-Ok.ensures.read (superblock_view c.in-Ok.superblock) c.limit_profile-limits.result c.in-Ok.ensures.is c.limit_profile-limits.ensures
    (same_limits (superblock_view c.in-Ok.superblock) c.args.profile c.limit_profile-limits.result c.limit_profile-limits.ensures (c.have_same_limits.ensures.0 c.if-have_same_limits.true))

pub returns-then-have_same_limits-clause-state : goal.returns-then-have_same_limits-clause-state
returns-then-have_same_limits-clause-state g c = just_at_once g.D.BlockDevice c.args.device c.args.profile c.in_ok-session.session c.superblock.new.self c.in_ok-session.ensures.begun c.in-Ok.ensures.read c.in_ok-session.ensures.state

pub returns-then-have_same_limits-clause-longer : goal.returns-then-have_same_limits-clause-longer
returns-then-have_same_limits-clause-longer g c = longer_at_once g.D.BlockDevice c.args.device c.args.profile c.in_ok-session.session c.superblock.new.self c.in_ok-session.ensures.begun c.in-Ok.ensures.read c.in_ok-session.ensures.longer

pub returns-else-have_same_limits-clause-begun : goal.returns-else-have_same_limits-clause-begun
returns-else-have_same_limits-clause-begun g c =
    let back = given_back g.D.BlockDevice c.args.device c.args.profile c.in_ok-session.session c.superblock.new.self c.in_ok-session.ensures.begun c.unmount.result.profile c.unmount.result.inner c.into_inner.result c.into_inner.ensures c.unmount.ensures.disk c.unmount.ensures.history c.in-Ok.ensures.read in
    begun_if_ok g.D.BlockDevice c.args.device c.args.profile c.in_ok-session.session c.superblock.new.self c.in_ok-session.ensures.begun c.into_inner.result back c.limit_profile-limits.result (superblock_view c.in-Ok.superblock) c.mount_with_profile-in-Ok.result c.in-Ok.ensures.is c.limit_profile-limits.ensures c.mount_with_profile-in-Ok.ensures.begun

pub returns-else-have_same_limits-clause-state : goal.returns-else-have_same_limits-clause-state
returns-else-have_same_limits-clause-state g c =
    let back = given_back g.D.BlockDevice c.args.device c.args.profile c.in_ok-session.session c.superblock.new.self c.in_ok-session.ensures.begun c.unmount.result.profile c.unmount.result.inner c.into_inner.result c.into_inner.ensures c.unmount.ensures.disk c.unmount.ensures.history c.in-Ok.ensures.read in
    just_if_ok g.D.BlockDevice c.args.device c.args.profile c.in_ok-session.session c.superblock.new.self c.in_ok-session.ensures.begun c.into_inner.result back c.limit_profile-limits.result c.mount_with_profile-in-Ok.result c.mount_with_profile-in-Ok.ensures.begun c.mount_with_profile-in-Ok.ensures.state

pub returns-else-have_same_limits-clause-longer : goal.returns-else-have_same_limits-clause-longer
returns-else-have_same_limits-clause-longer g c =
    let back = given_back g.D.BlockDevice c.args.device c.args.profile c.in_ok-session.session c.superblock.new.self c.in_ok-session.ensures.begun c.unmount.result.profile c.unmount.result.inner c.into_inner.result c.into_inner.ensures c.unmount.ensures.disk c.unmount.ensures.history c.in-Ok.ensures.read in
    longer_if_ok g.D.BlockDevice c.args.device c.args.profile c.in_ok-session.session c.superblock.new.self c.in_ok-session.ensures.begun c.into_inner.result back c.limit_profile-limits.result c.mount_with_profile-in-Ok.result c.mount_with_profile-in-Ok.ensures.begun c.mount_with_profile-in-Ok.ensures.longer

pub returns-else-have_same_limits-clause-corrupt : goal.returns-else-have_same_limits-clause-corrupt
returns-else-have_same_limits-clause-corrupt g c =
    let back = given_back g.D.BlockDevice c.args.device c.args.profile c.in_ok-session.session c.superblock.new.self c.in_ok-session.ensures.begun c.unmount.result.profile c.unmount.result.inner c.into_inner.result c.into_inner.ensures c.unmount.ensures.disk c.unmount.ensures.history c.in-Ok.ensures.read in
    corrupt_if_err g.D.BlockDevice c.args.device c.args.profile c.in_ok-session.session c.superblock.new.self c.in_ok-session.ensures.begun c.into_inner.result back c.limit_profile-limits.result (superblock_view c.in-Ok.superblock) c.mount_with_profile-in-Ok.result c.limit_profile-limits.ensures c.mount_with_profile-in-Ok.ensures.corrupt

pub returns-else-have_same_limits-clause-back : goal.returns-else-have_same_limits-clause-back
returns-else-have_same_limits-clause-back g c =
    let back = given_back g.D.BlockDevice c.args.device c.args.profile c.in_ok-session.session c.superblock.new.self c.in_ok-session.ensures.begun c.unmount.result.profile c.unmount.result.inner c.into_inner.result c.into_inner.ensures c.unmount.ensures.disk c.unmount.ensures.history c.in-Ok.ensures.read in
    back_if_err g.D.BlockDevice c.args.device c.args.profile c.in_ok-session.session c.superblock.new.self c.in_ok-session.ensures.begun c.into_inner.result back c.limit_profile-limits.result c.mount_with_profile-in-Ok.result c.mount_with_profile-in-Ok.ensures.back

pub returns-in-Err-clause-back : goal.returns-in-Err-clause-back
returns-in-Err-clause-back g c =
    failing_back g.D.BlockDevice c.args.device c.args.profile c.in_ok-session.session c.superblock.new.self c.in_ok-session.ensures.begun c.unmount-in-Err.result.profile c.unmount-in-Err.result.inner c.into_inner-in-Err.result c.in-Err.error c.into_inner-in-Err.ensures c.unmount-in-Err.ensures.disk c.unmount-in-Err.ensures.history c.in-Err.ensures.failed

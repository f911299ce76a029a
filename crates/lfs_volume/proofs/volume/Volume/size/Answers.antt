use Rattle.std.proofs.Common.{sym, ap, subst, ◌∙◌, ◌≡◌, List, Option, None, Some, Ok}
use Rattle.lfs_model.specs.session.Operations as ops
use Rattle.lfs_volume.specs.Calls.{Size}
use Rattle.lfs_volume.specs.Volume.{NodeView, VolumeView, entry_at}
use Rattle.lfs_volume.specs.VolumeCalls.{IsVolumeReply, IsVolumeCall}
use Rattle.lfs_volume.proofs.VolumeSteps.{no_handle, node_missing, passed_error, size_found, size_none, working_call}
use Rattle.lfs_volume.proofs.volume.Volume.size.Goals as goal

pub returns-in_err-found : goal.returns-in_err-found
returns-in_err-found g c =
    passed_error ops.Count c.from_residual.result _ (λ z. IsVolumeCall c.args.self.now (Size c.args.handle) z c.args.self.now) c.from_residual.ensures.1
    (no_handle _ c.args.self.now c.args.handle (Size c.args.handle) c.in_err-found.ensures.found (λ around none. size_none c.args.self.now c.args.handle around none))

pub returns-in-Some : goal.returns-in-Some
returns-in-Some g c =
    let sound = c.in_ok-found.ensures.sound in
    let at : Some c.in-Some.node.now ≡ entry_at c.args.self.now.nodes c.in_ok-found.found.node = c.in-Some.ensures ∙ ap (λ (ns : List (Option NodeView)). entry_at ns c.in_ok-found.found.node) (c.deref.ensures.value ∙ ap (λ (v : VolumeView). v.nodes) c.self.view_is) in
    working_call c.args.self.now c.args.self.now (Size c.args.handle) (Ok (ops.Count c.size.result)) sound.idle.works
    (subst (λ k. IsVolumeReply c.args.self.now (Size c.args.handle) (ops.Count k) c.args.self.now) (sym c.size.ensures) (size_found c.args.self.now c.args.handle c.in_ok-found.found c.in-Some.node.now c.in_ok-found.ensures.found at))

pub returns-in-None : goal.returns-in-None
returns-in-None g c =
    let at : None ≡ entry_at c.args.self.now.nodes c.in_ok-found.found.node = c.in-None.ensures ∙ ap (λ (ns : List (Option NodeView)). entry_at ns c.in_ok-found.found.node) (c.deref.ensures.value ∙ ap (λ (v : VolumeView). v.nodes) c.self.view_is) in
    absurd (node_missing c.args.self.now c.args.handle c.in_ok-found.found c.in_ok-found.ensures.sound c.in_ok-found.ensures.found.1 (sym at))
